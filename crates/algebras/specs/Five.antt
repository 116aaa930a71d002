-- The five-valued algebra: the words 0, 1, 01 and 10, and one-half for every other transient.
use Rattle.std.specs.Prelude.{ℕ, zero, suc, ◌+◌, ◌*◌, Bool, true, false, cond, List, [], ◌∷◌, ◌==◌}
use Rattle.algebras.specs.declared.five.Symbol.{Symbol}
use Rattle.algebras.specs.declared.five.Symbol.TheVariants.{Zero, One, Rise, Fall, Half}
use Rattle.algebras.specs.declared.five.FiveGrade.{FiveGrade}
use Rattle.algebras.specs.Transient.{Transient, complement, driven, zero_word, one_word}
use Rattle.algebras.specs.Sums.{sum2, product2, exclusive2}

-- The code of each symbol.
abbrev pub symbol_code : Symbol → ℕ
symbol_code Zero = 0
symbol_code One = 1
symbol_code Rise = 2
symbol_code Fall = 3
symbol_code Half = 4

-- The symbols in the order of their codes.
abbrev pub all_symbols : List Symbol
all_symbols = Zero ∷ One ∷ Rise ∷ Fall ∷ Half ∷ []

-- The symbol of a list with a code, and ½ where there is none.
abbrev pub coded : List Symbol → ℕ → Symbol
coded [] n = Half
coded (s ∷ ss) n = cond (n == symbol_code s) s (coded ss n)

-- The symbol of an entry: the one with its code. An entry that is no code, from 5 on, is read and worked as ½.
abbrev pub symbol_of : FiveGrade → Symbol
symbol_of x = coded all_symbols x.code

-- The symbol of a word, by its start and its changes: 0, 1, 0/1, 1/0, and ½ from two changes on.
abbrev pub symbol_by : Bool → ℕ → Symbol
symbol_by false zero = Zero
symbol_by true zero = One
symbol_by false (suc zero) = Rise
symbol_by true (suc zero) = Fall
symbol_by b (suc (suc n)) = Half

-- The symbol of a transient.
abbrev pub symbol_for : Transient → Symbol
symbol_for t = symbol_by t.start t.changes

-- The grade of a transient: its symbol's code.
abbrev pub five : Transient → FiveGrade
five t = record { code = symbol_code (symbol_for t) }

-- A word with the symbol: the only one, but for ½, where it is 010.
abbrev pub symbol_word : Symbol → Transient
symbol_word Zero = zero_word
symbol_word One = one_word
symbol_word Rise = driven false 1
symbol_word Fall = driven true 1
symbol_word Half = driven false 2

-- The transient that an entry stands for. Every call works an entry as the grade of this transient.
abbrev pub stands_for : FiveGrade → Transient
stands_for x = symbol_word (symbol_of x)

-- An entry as read.
abbrev pub five_read : FiveGrade → FiveGrade
five_read x = five (stands_for x)

-- The complement: 0/1 and 1/0 change places, as 01 and 10 do.
abbrev pub five_complement : FiveGrade → FiveGrade
five_complement x = five (complement (stands_for x))

-- The sum: 0/1 OR 0/1 is 0/1, as 01 OR 01 is 01.
abbrev pub five_sum : FiveGrade → FiveGrade → FiveGrade
five_sum x y = five (sum2 (stands_for x) (stands_for y))

-- The product: 0/1 AND 1/0 is ½, as 01 AND 10 is 010.
abbrev pub five_product : FiveGrade → FiveGrade → FiveGrade
five_product x y = five (product2 (stands_for x) (stands_for y))

-- The exclusive sum: 0/1 XOR 0/1 is ½, as 01 XOR 01 is 010.
abbrev pub five_exclusive : FiveGrade → FiveGrade → FiveGrade
five_exclusive x y = five (exclusive2 (stands_for x) (stands_for y))

-- Two entries read equal: as one symbol.
abbrev pub five_alike : FiveGrade → FiveGrade → Bool
five_alike x y = symbol_code (symbol_of x) == symbol_code (symbol_of y)

-- Where a table of 25 codes has what it says of two symbols.
abbrev pub pair_place : Symbol → Symbol → ℕ
pair_place s t = 5 * symbol_code s + symbol_code t
