use Rattle.std.proofs.Common.{◌≡◌, ◌++◌, drop, string_bytes}
use Rattle.nets.specs.Nets.{net_wires}
use Rattle.nets.specs.Transients.{transients}
use Rattle.listing.specs.Listing.{net_text, wire_lines}
use Rattle.listing.proofs.text.Kept.text.Given as goal

abbrev pub invariant-loop-wire : goal.invariant-loop-wire
invariant-loop-wire l =
    string_bytes l.text ++ wire_lines l.self.algebra.now.«cap» l.wire (drop l.wire (transients (net_wires l.self.net.now))) ≡ net_text l.self.algebra.now.«cap» (net_wires l.self.net.now)
