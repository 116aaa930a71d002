use Rattle.algebras.specs.Counting.{known_complement, known_entry}
use Rattle.algebras.proofs.counting.complement.Goals as goal

pub returns : goal.returns
returns g c = let e = known_entry (g.met.C.Counting.laws c.args.algebra.now) (known_complement c.parts-start.ensures.known) in cc
