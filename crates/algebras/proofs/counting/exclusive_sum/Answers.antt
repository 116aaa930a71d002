use Rattle.algebras.specs.Counting.{known_exclusive, known_entry}
use Rattle.algebras.proofs.counting.exclusive_sum.Goals as goal

pub returns : goal.returns
returns g c = let e = known_entry (g.met.C.Counting.laws c.args.algebra.now) (known_exclusive c.parts-a.ensures.known c.parts-b.ensures.known) in cc
