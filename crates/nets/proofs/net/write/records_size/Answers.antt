use Rattle.std.proofs.Common.{◌≡◌, length, sum_by, ◌∙◌, rules}
use Rattle.nets.specs.declared.wire.Wire.{Wire}
use Rattle.nets.specs.Tables.{plain}
use Rattle.nets.specs.Writing.{record_of}
use Rattle.nets.proofs.Writings.{all_sizes}
use Rattle.nets.proofs.net.write.records_size.Goals as goal

pub returns : goal.returns
returns c =
    let sizes : c.sum.result ≡ sum_by (λ (v : Wire). length (record_of (plain v))) c.args.wires.now = search rules in
    sizes ∙ all_sizes c.args.wires.now
