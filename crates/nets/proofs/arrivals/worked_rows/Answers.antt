use Rattle.std.proofs.Common.{refl}
use Rattle.nets.proofs.Examples.{order_a_serves}
use Rattle.nets.proofs.arrivals.worked_rows.Goals as goal

pub returns : goal.returns
returns c = (refl, (refl, (refl, (refl, (refl, (refl, (refl, (refl, ((order_a_serves, refl), tt)))))))))
