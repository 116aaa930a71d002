use Rattle.std.proofs.Common.{leb, sym, ◌∙◌}
use Rattle.nets.proofs.Pinning.{any_or, gate_high, gate_passes}
use Rattle.nets.proofs.wire.Gate.asked.Goals as goal

pub returns-then-names_high : goal.returns-then-names_high
returns-then-names_high c =
    gate_high _ c.in-Ok.kind c.args.wire c.args.pins.now c.in-Ok.ensures (sym c.if-not-admits.ensures)
    (sym (any_or (leb c.args.wire) c.args.pins.now) ∙ sym c.if-names_high.ensures)

pub returns : goal.returns
returns c =
    gate_passes _ c.in-Ok.kind c.args.wire c.args.pins.now _
    c.in-Ok.ensures (sym c.if-not-admits.ensures) (sym (any_or (leb c.args.wire) c.args.pins.now) ∙ sym c.if-names_high.ensures) c.on-pins.ensures
