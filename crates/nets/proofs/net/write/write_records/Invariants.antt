use Rattle.std.proofs.Common.{◌≡◌, ◌+◌, ◌≤◌, map, length}
use Rattle.nets.specs.Tables.{plain}
use Rattle.nets.specs.Writing.{records_of, written_over}
use Rattle.nets.proofs.Writings.{records_from}
use Rattle.nets.proofs.net.write.write_records.Given as goal

abbrev pub invariant-loop-wire : goal.invariant-loop-wire
invariant-loop-wire l =
    (l.at + length (records_from l.wires l.wire-index) ≤ length l.buffer)
    × (written_over l.buffer l.at (records_from l.wires l.wire-index) ≡ written_over l.initial.buffer 0 (records_of (map plain l.wires)))
