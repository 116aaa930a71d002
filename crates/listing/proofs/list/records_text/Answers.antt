use Rattle.std.proofs.Common.{◌≡◌, [], length, sym, ap, ◌∙◌, subst, rules}
use Rattle.algebras.specs.contracts.counted.works.CountedAlgebra.TheImpl.{ghosts}
use Rattle.nets.specs.Records.{reading}
use Rattle.nets.specs.Wires.{Lower}
use Rattle.nets.proofs.Followed.{followed}
use Rattle.listing.specs.Listing.{ListsLongest, late_refusal, net_text}
use Rattle.listing.proofs.Lines.{text_lists}
use Rattle.listing.proofs.list.records_text.Goals as goal

pub invariant_of-kept : goal.invariant_of-kept
invariant_of-kept c =
    let played = c.in_ok-played.ensures in
    record { own = played.algebra; kept = followed ghosts _ _ _ played.follows }

pub returns : goal.returns
returns c =
    let answer : (reading (length c.args.column.now) 0 0 0 [] c.args.records.now).answer ≡ c.in-Read.read = search rules in
    let wires = c.in_ok-played.ensures.follows.wires in
    let ws = (reading (length c.args.column.now) 0 0 0 [] c.args.records.now).wires in
    let lists = text_lists c.args.algebra.«cap» ws (subst Lower wires c.in_ok-played.played.net.lower) in
    let text = c.in_ok-text.ensures ∙ ap (net_text c.args.algebra.«cap») wires in
    record { told = (ap late_refusal (answer ∙ c.in_ok-read.was), text); longest = subst (ListsLongest c.args.algebra.«cap» ws) (sym text) lists }
