use Rattle.std.proofs.Common.{List, map, length, vec_items, sym, ap, ◌∙◌, arith}
use Rattle.std.proofs.lemmas.List.{length-map}
use Rattle.nets.specs.Nets.{net_wires}
use Rattle.nets.specs.Wires.{Plain}
use Rattle.nets.specs.Tables.{plain}
use Rattle.nets.specs.Writing.{records_of, written_over}
use Rattle.nets.proofs.Rereading.{writing_done}
use Rattle.nets.proofs.net.Net.write.Goals as goal

pub returns : goal.returns
returns g c =
    let n = c.args.self.now in
    let buffer = c.args.buffer.now in
    let v = n.table.wires in
    let long = v.ok.0 ∙ sym (length-map (vec_items v) plain) in
    let same = ap (map plain) c.as_slice-wires.ensures.value in
    let done =
    writing_done (net_wires n) buffer c.write_records.new.buffer c.records_size-size.result
    (c.records_size-size.ensures ∙ ap (λ (ws : List Plain). length (records_of ws)) same) c.if-buffer-size.false
    (c.write_records.ensures ∙ ap (λ (ws : List Plain). written_over buffer 0 (records_of ws)) same)
    (omega (arith, n.table.few)) n.lower n.fitting in
    record { answer = done.0; buffer = done.1; back = done.2 }
