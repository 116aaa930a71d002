use Rattle.std.proofs.Common.{◌≡◌, ◌+◌, ◌*◌, drop}
use Rattle.nets.specs.Writing.{pin_bytes, written_over}
use Rattle.nets.proofs.net.write.write_pins.Given as goal

abbrev pub invariant-loop-pin : goal.invariant-loop-pin
invariant-loop-pin l = written_over l.buffer (l.from + 2 * l.pin) (pin_bytes (drop l.pin l.pins)) ≡ written_over l.initial.buffer l.from (pin_bytes l.pins)
