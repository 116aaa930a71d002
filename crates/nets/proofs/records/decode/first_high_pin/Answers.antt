use Rattle.std.proofs.Common.{ℕ, ◌+◌, leb, List, map, drop, sym, ap, ◌∙◌, rules}
use Rattle.std.proofs.lemmas.List.{take_rest}
use Rattle.std.proofs.lemmas.Bool.{le-leb, or_right}
use Rattle.algebras.specs.Letters.{or_of}
use Rattle.nets.specs.Records.{pins_asked, search_high}
use Rattle.nets.proofs.Pinning.{high_none}
use Rattle.nets.proofs.Readings.{search_stops, search_goes_on}
use Rattle.nets.proofs.records.decode.first_high_pin.Goals as goal

pub loop-wire-preserved : goal.loop-wire-preserved
loop-wire-preserved c =
    let w = c.loop-wire.wire in
    let rest = c.loop-wire.rest.now in
    let ps = c.as_slice-named-items.ensures ∙ c.pins-pins.ensures ∙ ap pins_asked c.in-Ok.ensures.1 in
    let low = sym (ap (λ (qs : List ℕ). or_of (map (leb w) qs)) ps) ∙ sym c.loop-pin.invariant.0 ∙ high_none w c.as_slice-named-items.result.now c.loop-pin.pin c.loop-pin-test.false in
    ap (search_high 0 (w + 1)) (take_rest rest c.in-Ok.size ∙ ap (λ (n : ℕ). drop n rest) c.in-Ok.ensures.2)
    ∙ sym (search_goes_on w rest (search rules) c.in-Ok.ensures.0 c.loop-wire-test.true low)
    ∙ c.loop-wire.invariant

pub returns-after-loop-wire : goal.returns-after-loop-wire
returns-after-loop-wire c =
    sym (search_stops c.loop-wire.wire c.loop-wire.rest.now (or_right _ _ (le-leb 512 c.loop-wire.wire c.loop-wire-test.false))) ∙ c.loop-wire.invariant
