use Rattle.std.proofs.Common.{string_bytes, arith}
use Rattle.nets.specs.Nets.{net_wires}
use Rattle.nets.specs.Transients.{transients}
use Rattle.nets.proofs.Wiring.{length_transients}
use Rattle.listing.proofs.Lines.{lines_more}
use Rattle.listing.proofs.text.Kept.text.Goals as goal

pub loop-wire-preserved : goal.loop-wire-preserved
loop-wire-preserved c =
    let n = c.args.self.now.net.now in
    let ts = transients (net_wires n) in
    let long = length_transients (net_wires n) in
    lines_more c.args.self.now.algebra.now.«cap» c.loop-wire.wire ts (string_bytes c.loop-wire.text) (string_bytes c.write_line.new.text) _
    (omega (arith, c.wires-wires.ensures)) c.in_ok-write_line.ensures c.loop-wire.invariant
