use Rattle.std.proofs.Common.{◌≡◌, ◌+◌, drop}
use Rattle.nets.specs.Records.{first_high, search_high}
use Rattle.nets.proofs.Pinning.{high_from}
use Rattle.nets.proofs.records.decode.first_high_pin.Given as goal

abbrev pub invariant-loop-pin : goal.invariant-loop-pin
invariant-loop-pin l =
    (high_from l.wire l.named-items l.pin ≡ high_from l.wire l.named-items 0)
    × (l.pin + first_high l.wire (drop l.pin l.named-items) ≡ first_high l.wire l.named-items)

abbrev pub invariant-loop-wire : goal.invariant-loop-wire
invariant-loop-wire l = search_high 0 l.wire l.rest ≡ search_high 0 l.wires l.bytes
