-- The eight-valued algebra: the start, the end, and whether there is more than one change.
use Rattle.std.specs.Prelude.{ℕ, ◌+◌, ◌*◌, Bool, not, ◌&&◌, nat_lt}
use Rattle.algebras.specs.declared.eight.EightGrade.{EightGrade}
use Rattle.algebras.specs.Transient.{Transient, end_of, complement}
use Rattle.algebras.specs.Sums.{sum2, product2, exclusive2}
use Rattle.algebras.specs.Letters.{bit, differ}

-- The grade with a start, an end and a number of changes.
abbrev pub of_changes : Bool → Bool → ℕ → EightGrade
of_changes s e n = record { start = s; «end» = e; more = nat_lt 1 n }

-- The grade of a transient.
abbrev pub eight : Transient → EightGrade
eight t = of_changes t.start (end_of t) t.changes

-- The transient that an entry stands for, the shortest with this grade: one change where its ends are unequal, and two more where
-- it has more than one. Those of start 0 are 0, 01, 010 and 0101. Every call works an entry as the grade of this transient.
abbrev pub stands_for : EightGrade → Transient
stands_for x = record { start = x.start; changes = 2 * bit x.more + bit (differ x.start x.«end») }

-- An entry as read: itself, since every entry is a transient's grade.
abbrev pub eight_read : EightGrade → EightGrade
eight_read x = eight (stands_for x)

-- The complement of an entry.
abbrev pub eight_complement : EightGrade → EightGrade
eight_complement x = eight (complement (stands_for x))

-- The sum of two entries.
abbrev pub eight_sum : EightGrade → EightGrade → EightGrade
eight_sum x y = eight (sum2 (stands_for x) (stands_for y))

-- The product of two entries.
abbrev pub eight_product : EightGrade → EightGrade → EightGrade
eight_product x y = eight (product2 (stands_for x) (stands_for y))

-- The exclusive sum of two entries.
abbrev pub eight_exclusive : EightGrade → EightGrade → EightGrade
eight_exclusive x y = eight (exclusive2 (stands_for x) (stands_for y))

-- Two entries read equal: in all three parts.
abbrev pub eight_alike : EightGrade → EightGrade → Bool
eight_alike x y = not (differ x.start y.start) && (not (differ x.«end» y.«end») && not (differ x.more y.more))
