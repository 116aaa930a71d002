-- The eight-valued algebra: a grade says the start, the end and the smaller of the changes and 2.
use Rattle.std.specs.Prelude.{◌≡◌, min, refl}
use Rattle.std.proofs.Common.{arith}
use Rattle.std.proofs.lemmas.Bool.Decides.{nat_tests}
use Rattle.algebras.specs.declared.eight.EightGrade.{EightGrade}
use Rattle.algebras.specs.Transient.{Transient, end_of}
use Rattle.algebras.specs.Eight.{of_changes, eight, stands_for}
use Rattle.algebras.specs.SumsLemmas.{flipped_parity}
use Rattle.algebras.specs.Counting.{CountingLaws}

-- The count of a transient's grade is the smaller of its changes and 2.
pub grade_count : (t : Transient) → min (stands_for (eight t)).changes 2 ≡ min t.changes 2
grade_count t = let p = flipped_parity t.start t.changes in grind (arith, nat_tests)

-- An entry stands for a transient with its end.
pub stands_end : (x : EightGrade) → end_of (stands_for x) ≡ x.«end»
stands_end x = let p = flipped_parity x.start (stands_for x).changes in grind arith

-- The eight-valued algebra counts up to 2.
pub eight_laws : CountingLaws 2 of_changes stands_for
eight_laws = record {
  two = omega arith;
  capped = λ s e m n p. grind (arith, nat_tests);
  known = λ t. record { starts = refl; ends = stands_end (eight t); counts = grade_count t };
}
