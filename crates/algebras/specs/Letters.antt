-- Letters, 0 and 1, and what Boolean functions make of lists of them.
use Rattle.std.specs.Prelude.{ℕ, ◌+◌, Bool, true, false, not, ◌&&◌, ◌||◌, List, [], ◌∷◌}
use Rattle.std.specs.Bool.{beq}

-- OR, AND and XOR of a list of letters.
abbrev pub or_of : List Bool → Bool
or_of [] = false
or_of (b ∷ bs) = b || or_of bs

abbrev pub and_of : List Bool → Bool
and_of [] = true
and_of (b ∷ bs) = b && and_of bs

abbrev pub differ : Bool → Bool → Bool
differ a b = not (beq a b)

abbrev pub xor_of : List Bool → Bool
xor_of [] = false
xor_of (b ∷ bs) = differ b (xor_of bs)

-- How many letters of a list are 1.
abbrev pub bit : Bool → ℕ
bit true = 1
bit false = 0

abbrev pub ones : List Bool → ℕ
ones [] = 0
ones (b ∷ bs) = bit b + ones bs
