use Rattle.std.proofs.Common.{rules}
use Rattle.algebras.specs.Counting.{driven_end}
use Rattle.algebras.proofs.counting.drive.Goals as goal

pub returns : goal.returns
returns g c = search (rules, driven_end)
