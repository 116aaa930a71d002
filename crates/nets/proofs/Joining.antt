-- Joining the entries of pins, one after another.
use Rattle.std.proofs.Common.{◌≡◌, ℕ, ◌-◌, ◌<◌, List, [], ◌∷◌, length, get_or, take, drop, ap, arith}
use Rattle.std.proofs.lemmas.List.{take_rest}
use Rattle.algebras.specs.declared.algebra.Algebra.{Ghosts}
use Rattle.algebras.specs.declared.kind.Kind.{Kind}
use Rattle.algebras.specs.Sums.{joined}
use Rattle.nets.specs.Working.{joins, gives, gate_grade, entry, entries}

module _ {X G : Type 0} (L : Ghosts X G) (a : X) (column : List G) (k : Kind) where
  -- A gate's grade, by its first pin and the others.
  pub gate_grade_parts : (ps : List ℕ) → 0 < length ps
      → gives L a k (joined (joins L a k) (entry L a column (get_or ps 0 0)) (entries L a column (take (length ps - 1) (drop 1 ps)))) ≡ gate_grade L a k (entries L a column ps)
  gate_grade_parts [] some = absurd (omega arith)
  gate_grade_parts (p ∷ ps) some = ap (λ (qs : List ℕ). gives L a k (joined (joins L a k) (entry L a column p) (entries L a column qs))) (take_rest (p ∷ ps) 1)
