use Rattle.std.proofs.Common.{◌≡◌, ◌+◌, ◌/◌, ◌++◌, length, take}
use Rattle.nets.specs.Records.{pins_in}
use Rattle.nets.proofs.wire.Pins.decode.Given as goal

abbrev pub invariant-loop-pin : goal.invariant-loop-pin
invariant-loop-pin g l =
    (length l.wires ≡ g.row.N)
    × (l.pin-iterator.iter.size ≡ 2)
    × (l.pin-iterator.count + length l.pin-iterator.iter.rest.now / 2 ≡ length l.body / 2)
    × (take l.pin-iterator.count l.wires ++ pins_in l.pin-iterator.iter.rest.now ≡ pins_in l.body)
