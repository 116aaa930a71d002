use Rattle.std.proofs.Common.{refl, ◌∙◌}
use Rattle.algebras.specs.declared.five.works.TheConstants.{EXCLUSIVE_SUMS}
use Rattle.algebras.specs.Sums.{exclusive2}
use Rattle.algebras.specs.Fives.{table_rule}
use Rattle.algebras.proofs.five.works.FiveAlgebra.exclusive_sum.Goals as goal

pub returns : goal.returns
returns c = c.look_up.ensures ∙ table_rule exclusive2 EXCLUSIVE_SUMS refl c.args.x c.args.y
