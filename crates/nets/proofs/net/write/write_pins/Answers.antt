use Rattle.std.proofs.Common.{◌∙◌, arith, rules}
use Rattle.nets.proofs.Writings.{length_pins, pins_written}
use Rattle.nets.proofs.net.write.write_pins.Goals as goal

pub slice_bounds-copy_from_slice-end : goal.slice_bounds-copy_from_slice-end
slice_bounds-copy_from_slice-end c = let long = length_pins c.args.pins.now in omega arith

pub loop-pin-preserved : goal.loop-pin-preserved
loop-pin-preserved c =
    let long = length_pins c.args.pins.now in
    pins_written c.args.pins.now c.loop-pin.pin c.loop-pin.buffer _ _ c.args.from c.loop-pin-test.true (search rules) (omega arith) c.to_le_bytes.ensures c.copy_from_slice.ensures.after
    ∙ c.loop-pin.invariant

pub returns-clause-answer : goal.returns-clause-answer
returns-clause-answer c = let long = length_pins c.args.pins.now in omega arith
