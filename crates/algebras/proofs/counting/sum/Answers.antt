use Rattle.std.proofs.Common.{◌&&◌, arith}
use Rattle.algebras.specs.Counting.{byte_bit, known_moving_sum, known_entry}
use Rattle.algebras.proofs.counting.sum.Goals as goal

pub returns : goal.returns
returns g c =
    let laws = g.met.C.Counting.laws c.args.algebra.now in
    let stands = g.C.Counting.stands_for c.args.algebra.now in
    let a = c.parts-a.result in
    let b = c.parts-b.result in
    let p = byte_bit (a.start && b.start) in
    let q = byte_bit (a.«end» && b.«end») in
    let e = known_entry laws (known_moving_sum laws.two (stands c.args.x) (stands c.args.y) c.parts-a.ensures.known c.parts-b.ensures.known (omega arith) (omega arith)) in
    cc
