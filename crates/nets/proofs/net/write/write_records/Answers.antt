use Rattle.std.proofs.Common.{length, ap, ◌∙◌, arith}
use Rattle.nets.specs.Tables.{plain}
use Rattle.nets.specs.Writing.{record_of}
use Rattle.nets.proofs.Writings.{length_written, size_more, written_more}
use Rattle.nets.proofs.net.write.write_records.Goals as goal

pub loop-wire-preserved : goal.loop-wire-preserved
loop-wire-preserved c =
    let vs = c.args.wires.now in
    let i = c.loop-wire.wire-index in
    let more = size_more vs i c.wire-item.result c.loop-wire-test.true c.wire-item.is in
    let long = ap length c.write_record-at.ensures.buffer ∙ length_written c.loop-wire.buffer c.loop-wire.at (record_of (plain c.wire-item.result)) in (
      omega (arith, c.write_record-at.ensures.answer, c.loop-wire.invariant.0),
      written_more vs i c.wire-item.result c.loop-wire.buffer c.write_record-at.new.buffer c.loop-wire.at c.write_record-at.result
          c.loop-wire-test.true c.wire-item.is c.write_record-at.ensures.buffer c.write_record-at.ensures.answer
          ∙ c.loop-wire.invariant.1,
    )
