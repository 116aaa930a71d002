use Rattle.std.proofs.Common.{get_or, sym, arith}
use Rattle.std.proofs.lemmas.List.{length-take}
use Rattle.nets.proofs.Placements.{unless_ok}
use Rattle.nets.proofs.Readings.{body_small, gate_request, known_from, readable}
use Rattle.nets.proofs.records.decode.Record.first.Goals as goal

pub returns : goal.returns
returns c =
    let bytes = c.args.bytes.now in
    let size = unless_ok _ _ _ (sym c.in_ok-size.ensures) in
    let small = body_small (get_or bytes 0 0) in
    let long = size.1 in (
      readable bytes _ (known_from _ size.0) size.1 c.if-bytes-size.false,
      sym (gate_request bytes c.in_ok-size.size c.if-bytes-eq-INPUT.false size.1),
      sym size.1,
      rw length-take (omega arith),
    )
