use Rattle.algebras.specs.Transient.{Transient, complement}
use Rattle.algebras.specs.Sums.{sum2}
use Rattle.algebras.specs.Counting.{entry_sum, entry_complement}
use Rattle.algebras.proofs.counting.product.Goals as goal

pub returns : goal.returns
returns g c =
    let laws = g.met.C.Counting.laws c.args.algebra.now in
    let stands = g.C.Counting.stands_for c.args.algebra.now in
    let s : Transient = complement (stands c.args.x) in
    let t : Transient = complement (stands c.args.y) in
    let e = entry_sum laws s t in
    let f = entry_complement laws (sum2 s t) in
    cc
