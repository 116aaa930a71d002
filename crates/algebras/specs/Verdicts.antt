-- Verdicts: what a designer is told of a wire.
use Rattle.std.specs.Prelude.{ℕ, Bool, cond, ◌==◌}
use Rattle.algebras.specs.declared.verdict.Verdict.{Verdict}
use Rattle.algebras.specs.declared.verdict.Verdict.TheVariants.{Steady, StaticHazard, CleanChange, DynamicHazard}
use Rattle.algebras.specs.Transient.{Transient, end_of}
use Rattle.algebras.specs.Letters.{differ}

abbrev pub verdict_number : Verdict → ℕ
verdict_number Steady = 1
verdict_number StaticHazard = 2
verdict_number CleanChange = 3
verdict_number DynamicHazard = 4

-- With equal ends: steady without a change, else a static hazard. With unequal ends: clean at one change, else a dynamic hazard.
abbrev pub verdict_by : Bool → Bool → ℕ → Verdict
verdict_by s e n = cond (differ s e) (cond (n == 1) CleanChange DynamicHazard) (cond (n == 0) Steady StaticHazard)

-- The verdict on a transient.
abbrev pub verdict_of : Transient → Verdict
verdict_of t = verdict_by t.start (end_of t) t.changes
