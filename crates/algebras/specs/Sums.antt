-- The sum, the product and the exclusive sum of a list of transients: what OR, AND and XOR make of them.
use Rattle.std.specs.Prelude.{◌≡◌, ℕ, ◌+◌, ◌-◌, Bool, cond, List, [], ◌∷◌, map}
use Rattle.algebras.specs.Letters.{or_of, and_of, xor_of, ones}
use Rattle.algebras.specs.Transient.{Transient, end_of, complement, zero_word, one_word, is_zero, is_one}

-- The first letters, and the last ones, of several transients.
abbrev pub starts : List Transient → List Bool
starts xs = map (λ x. x.start) xs

abbrev pub ends : List Transient → List Bool
ends xs = map end_of xs

-- All changes, added up.
abbrev pub total_changes : List Transient → ℕ
total_changes [] = 0
total_changes (x ∷ xs) = x.changes + total_changes xs

-- The list with each word 0 left out.
abbrev pub without_zeros : List Transient → List Transient
without_zeros [] = []
without_zeros (x ∷ xs) = cond (is_zero x) (without_zeros xs) (x ∷ without_zeros xs)

-- Where m letters at one side are 1, and m is at least 1, m - 1 changes coincide with another's; 0 - 1 is 0.
abbrev pub deduction : ℕ → ℕ
deduction m = m - 1

-- The changes of a sum of moving words: all changes, less a deduction at the starts and one at the ends.
-- For 101 and 101 that is 2 + 2 - 1 - 1: their sum is 101 and not 10101.
abbrev pub sum_changes : List Transient → ℕ
sum_changes xs = total_changes xs - deduction (ones (starts xs)) - deduction (ones (ends xs))

-- The sum of what remains once each word 0 is left out.
abbrev pub sum_of_rest : List Transient → Transient
sum_of_rest [] = zero_word
sum_of_rest (x ∷ xs) = record { start = or_of (starts (x ∷ xs)); changes = sum_changes (x ∷ xs) }

-- The sum: a word 1 decides it; otherwise the words 0 do not count.
abbrev pub sum : List Transient → Transient
sum xs = cond (or_of (map is_one xs)) one_word (sum_of_rest (without_zeros xs))

-- The product: the sum with 0 and 1 exchanged.
abbrev pub product : List Transient → Transient
product xs = complement (sum (map complement xs))

-- The exclusive sum: every change of a pin is a change.
abbrev pub exclusive : List Transient → Transient
exclusive xs = record { start = xor_of (starts xs); changes = total_changes xs }

-- Two transients at a time.
abbrev pub sum2 : Transient → Transient → Transient
sum2 s t = sum (s ∷ t ∷ [])

abbrev pub product2 : Transient → Transient → Transient
product2 s t = product (s ∷ t ∷ [])

abbrev pub exclusive2 : Transient → Transient → Transient
exclusive2 s t = exclusive (s ∷ t ∷ [])

-- A list joined two by two from its first element.
abbrev pub joined : {X : Type 0} → (X → X → X) → X → List X → X
joined op x [] = x
joined op x (y ∷ ys) = joined op (op x y) ys

-- What is owed of an operation on lists and its form for two: joining from the first gives that of the list, in any order.
pub record Joins (all : List Transient → Transient) (two : Transient → Transient → Transient) : Type 0 where
  pub from_first : (x : Transient) (xs : List Transient) → joined two x xs ≡ all (x ∷ xs)
  pub commutes : (x y : Transient) → two x y ≡ two y x
  pub associates : (x y z : Transient) → two (two x y) z ≡ two x (two y z)

-- What is owed of an operation on lists and a Boolean function: it starts and ends as the function says.
pub record FollowsFunction (all : List Transient → Transient) (function : List Bool → Bool) : Type 0 where
  pub at_start : (xs : List Transient) → (all xs).start ≡ function (starts xs)
  pub at_end : (xs : List Transient) → end_of (all xs) ≡ function (ends xs)

-- Sum, product and exclusive sum are joined two by two, and start and end as OR, AND and XOR do.
pub record SumsOfTransients : Type 0 where
  pub sum_joins : Joins sum sum2
  pub product_joins : Joins product product2
  pub exclusive_joins : Joins exclusive exclusive2
  pub sum_follows : FollowsFunction sum or_of
  pub product_follows : FollowsFunction product and_of
  pub exclusive_follows : FollowsFunction exclusive xor_of
