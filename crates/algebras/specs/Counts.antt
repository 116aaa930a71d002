-- The counted algebra: a grade says the start, the end and the smaller of the changes and the cap.
use Rattle.std.specs.Prelude.{◌≡◌, ℕ, ◌+◌, ◌≤◌, min, true, refl}
use Rattle.std.proofs.Common.{sym, ap, ◌∙◌, arith}
use Rattle.std.proofs.lemmas.Bool.Decides.{nat_tests}
use Rattle.algebras.specs.declared.counted.grade.Count.{Count}
use Rattle.algebras.specs.declared.counted.grade.Count.TheVariants.{Half, Saturated}
use Rattle.algebras.specs.declared.counted.grade.CountedGrade.{CountedGrade}
use Rattle.algebras.specs.Transient.{Transient, flipped, end_of}
use Rattle.algebras.specs.Letters.{bit, differ}
use Rattle.algebras.specs.Counted.{of_changes, counted, said, count_of, stands_for, counted_read, counted_alike}
use Rattle.algebras.specs.SumsLemmas.{flipped_parity}
use Rattle.algebras.specs.Counting.{Known, CountingLaws}

-- An entry stands for a transient with its end.
pub stands_end : (cap : ℕ) (g : CountedGrade) → end_of (stands_for cap g) ≡ g.«end»
stands_end cap g =
    let p = flipped_parity g.start (count_of cap g) in
    let q = flipped_parity g.start (stands_for cap g).changes in
    grind arith

-- An entry stands for a transient that counts as it does.
pub stands_count : (cap : ℕ) (g : CountedGrade) → min (stands_for cap g).changes cap ≡ count_of cap g
stands_count cap g = by g.«count» (count_of cap g) refl
  where
    by : (k : Count) (n : ℕ) → n ≡ min (said cap g k) cap → min (n + bit (differ (flipped g.start n) g.«end»)) cap ≡ n
    by (Half h) n e = let p = flipped_parity g.start n in grind arith
    by Saturated n e = omega arith

-- The count of a transient's grade is the smaller of its changes and the cap.
pub grade_count : (cap : ℕ) (t : Transient) → count_of cap (counted cap t) ≡ min t.changes cap
grade_count cap t = let p = flipped_parity t.start t.changes in grind (arith, nat_tests)

-- What is known of the transient that an entry stands for.
pub stands_known : (cap : ℕ) (x : CountedGrade) → Known cap (stands_for cap x) x.start x.«end» (count_of cap x)
stands_known cap x = record { starts = refl; ends = stands_end cap x; counts = let c = stands_count cap x in omega arith }

-- The counted algebra counts up to its cap.
pub counted_laws : (cap : ℕ) → 2 ≤ cap → CountingLaws cap (of_changes cap) (stands_for cap)
counted_laws cap h = record {
  two = h;
  capped = λ s e m n p. grind (arith, nat_tests);
  known = λ t. record { starts = refl; ends = stands_end cap (counted cap t); counts = stands_count cap (counted cap t) ∙ grade_count cap t };
}

-- Entries that read equal have equal starts, ends and counts.
pub read_apart : (cap : ℕ) (x y : CountedGrade) → counted_read cap x ≡ counted_read cap y → (x.start ≡ y.start) × (x.«end» ≡ y.«end») × (count_of cap x ≡ count_of cap y)
read_apart cap x y e = (
  ap (λ (g : CountedGrade). g.start) e,
  sym (stands_end cap x) ∙ ap (λ (g : CountedGrade). g.«end») e ∙ stands_end cap y,
  sym (counts x) ∙ ap (count_of cap) e ∙ counts y,
)
  where
    counts : (g : CountedGrade) → count_of cap (counted_read cap g) ≡ count_of cap g
    counts g = grade_count cap (stands_for cap g) ∙ stands_count cap g

-- Entries with equal starts, ends and counts are the same.
pub alike_parts : (cap : ℕ) (x y : CountedGrade) → (x.start ≡ y.start) × (x.«end» ≡ y.«end») × (count_of cap x ≡ count_of cap y) → counted_alike cap x y ≡ true
alike_parts cap x y p = grind (arith, nat_tests)
