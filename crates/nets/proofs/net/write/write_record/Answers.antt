use Rattle.nets.proofs.Writings.{input_written}
use Rattle.nets.proofs.net.write.write_record.Goals as goal

pub returns-in-Input-clause-buffer : goal.returns-in-Input-clause-buffer
returns-in-Input-clause-buffer c =
    input_written c.args.wire.now c.in-Input.drive c.args.buffer.now _ c.args.at _ c.in-Input.is c.from.ensures c.requires c.copy_from_slice.ensures.after
