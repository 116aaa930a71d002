-- The counted algebra: the start, the end, and a count of changes up to a cap.
use Rattle.std.specs.Prelude.{ℕ, ◌+◌, ◌*◌, ◌/◌, min, Bool, cond, not, ◌&&◌, ◌==◌, nat_lt}
use Rattle.algebras.specs.declared.counted.grade.Count.{Count}
use Rattle.algebras.specs.declared.counted.grade.Count.TheVariants.{Half, Saturated}
use Rattle.algebras.specs.declared.counted.grade.CountedGrade.{CountedGrade}
use Rattle.algebras.specs.declared.counted.grade.CapFault.{CapFault}
use Rattle.algebras.specs.declared.counted.grade.CapFault.TheVariants.{TooSmall}
use Rattle.algebras.specs.Transient.{Transient, flipped, end_of, complement}
use Rattle.algebras.specs.Sums.{sum2, product2, exclusive2}
use Rattle.algebras.specs.Letters.{bit, differ}

-- The number of the refusal of a cap.
abbrev pub cap_fault_number : CapFault → ℕ
cap_fault_number TooSmall = 1

-- The grade with a start, an end and a number of changes: marked saturated where they reach the cap, else with half of them, rounded down.
abbrev pub of_changes : ℕ → Bool → Bool → ℕ → CountedGrade
of_changes cap s e n = record { start = s; «end» = e; «count» = cond (nat_lt n cap) (Half (n / 2)) Saturated }

-- The grade of a transient.
abbrev pub counted : ℕ → Transient → CountedGrade
counted cap t = of_changes cap t.start (end_of t) t.changes

-- The changes that an entry says: twice its half, one more with unequal ends; the cap where it is marked.
abbrev pub said : ℕ → CountedGrade → Count → ℕ
said cap g (Half h) = 2 * h + bit (differ g.start g.«end»)
said cap g Saturated = cap

-- The count of an entry: an entry that says the cap or more counts as the cap.
abbrev pub count_of : ℕ → CountedGrade → ℕ
count_of cap g = min (said cap g g.«count») cap

-- Whether an entry is marked, or says the cap or more.
abbrev pub is_saturated : ℕ → CountedGrade → Bool
is_saturated cap g = not (nat_lt (count_of cap g) cap)

-- The transient that an entry stands for: its start, and the least number of changes, from its count on, that gives its end.
-- Every call works an entry as the grade of this transient, so the rule holds for entries that are no transient's grade too.
abbrev pub stands_for : ℕ → CountedGrade → Transient
stands_for cap g = record { start = g.start; changes = count_of cap g + bit (differ (flipped g.start (count_of cap g)) g.«end») }

abbrev pub counted_read : ℕ → CountedGrade → CountedGrade
counted_read cap x = counted cap (stands_for cap x)

abbrev pub counted_complement : ℕ → CountedGrade → CountedGrade
counted_complement cap x = counted cap (complement (stands_for cap x))

abbrev pub counted_sum : ℕ → CountedGrade → CountedGrade → CountedGrade
counted_sum cap x y = counted cap (sum2 (stands_for cap x) (stands_for cap y))

abbrev pub counted_product : ℕ → CountedGrade → CountedGrade → CountedGrade
counted_product cap x y = counted cap (product2 (stands_for cap x) (stands_for cap y))

abbrev pub counted_exclusive : ℕ → CountedGrade → CountedGrade → CountedGrade
counted_exclusive cap x y = counted cap (exclusive2 (stands_for cap x) (stands_for cap y))

-- Two entries read equal: equal starts, ends and counts.
abbrev pub counted_alike : ℕ → CountedGrade → CountedGrade → Bool
counted_alike cap x y = not (differ x.start y.start) && (not (differ x.«end» y.«end») && count_of cap x == count_of cap y)
