use Rattle.std.proofs.Common.{refl, ◌∙◌}
use Rattle.algebras.specs.declared.five.works.TheConstants.{SUMS}
use Rattle.algebras.specs.Sums.{sum2}
use Rattle.algebras.specs.Fives.{table_rule}
use Rattle.algebras.proofs.five.works.FiveAlgebra.sum.Goals as goal

pub returns : goal.returns
returns c = c.look_up.ensures ∙ table_rule sum2 SUMS refl c.args.x c.args.y
