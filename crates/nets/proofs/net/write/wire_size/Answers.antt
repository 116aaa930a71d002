use Rattle.std.proofs.Common.{arith}
use Rattle.nets.proofs.Writings.{few_pins, gate_size}
use Rattle.nets.proofs.net.write.wire_size.Goals as goal

pub returns-in-Output : goal.returns-in-Output
returns-in-Output c =
    let pins = c.as_slice.result.now in
    let few = few_pins c.in-Output.gate.pins pins c.as_slice.ensures in
    record { size = gate_size c.args.wire.now c.in-Output.gate pins c.in-Output.is c.as_slice.ensures; small = omega arith }
