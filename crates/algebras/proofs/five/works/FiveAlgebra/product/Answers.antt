use Rattle.std.proofs.Common.{refl, ◌∙◌}
use Rattle.algebras.specs.declared.five.works.TheConstants.{PRODUCTS}
use Rattle.algebras.specs.Sums.{product2}
use Rattle.algebras.specs.Fives.{table_rule}
use Rattle.algebras.proofs.five.works.FiveAlgebra.product.Goals as goal

pub returns : goal.returns
returns c = c.look_up.ensures ∙ table_rule product2 PRODUCTS refl c.args.x c.args.y
