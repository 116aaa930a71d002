use Rattle.std.proofs.Common.{◌≡◌, ℕ, ◌+◌, ◌-◌, ◌≤◌, cond, eqb, length, take, drop, set, Err, unwrap_or, sym, ap, ◌∙◌, arith, rules}
use Rattle.std.proofs.lemmas.List.{take_rest}
use Rattle.nets.specs.declared.fault.Reason.{Reason}
use Rattle.nets.specs.declared.fault.ReadFault.{ReadFault}
use Rattle.nets.specs.Faults.{settled}
use Rattle.nets.specs.Nets.{ColumnKept, column_after_reading, net_wires, outcome_of_reading}
use Rattle.nets.specs.Placing.{asked}
use Rattle.nets.specs.Records.{at_place, column_reading, reading, reason_number, reason_of, request_of, search_high}
use Rattle.nets.specs.Working.{worked}
use Rattle.nets.proofs.Followed.{made}
use Rattle.nets.proofs.Outcomes.{column_none, mapped_none, mapped_some, placed_whole, turn_none, turn_placed, turn_refused}
use Rattle.nets.proofs.Placements.{unless_ok, unless_err}
use Rattle.nets.proofs.Readings.{rest_length}
use Rattle.nets.proofs.net.Net.read.Given.{Over}
use Rattle.nets.proofs.net.Net.read.Goals as goal

pub slice_bounds-rest-count : goal.slice_bounds-rest-count
slice_bounds-rest-count g c =
    let ok = unless_ok _ _ _ (sym c.in-Ok.ensures.answer) in
    let whole = placed_whole (net_wires c.loop-rest.self) (length c.loop-rest.column) c.loop-rest.rest.now (search rules) (mapped_none _ _ ok.0) in
    omega (arith, whole, ok.1)

pub slice_bounds-rest-start : goal.slice_bounds-rest-start
slice_bounds-rest-start g c = let fits = slice_bounds-rest-count g c in search rules

-- What a record that is placed leaves.
placed : (g : Over) (c : goal.After-rest-1 g)
    → (c.in-Ok.size ≤ length c.loop-rest.rest.now) × (1 ≤ c.in-Ok.size)
    × (reading (length c.place_record.new.column) (length c.args.bytes.now - length c.loop-rest.rest.now + c.in-Ok.size) 0 (c.loop-rest.records + 1) (net_wires c.place_record.new.self)
    (drop c.in-Ok.size c.loop-rest.rest.now) ≡ outcome_of_reading c.args.self.now c.args.column.now c.args.bytes.now)
    × (column_reading g.L.Algebra c.args.self.now.algebra 0 (net_wires c.place_record.new.self) c.place_record.new.column
    (drop c.in-Ok.size c.loop-rest.rest.now) ≡ column_after_reading g.L.Algebra c.args.self.now c.args.column.now c.args.bytes.now)
    × (search_high 0 (length (net_wires c.place_record.new.self)) (drop c.in-Ok.size c.loop-rest.rest.now) ≡ search_high 0 c.wires-wires.result c.args.bytes.now)
placed g c =
    let L = g.L.Algebra in
    let ws = net_wires c.loop-rest.self in
    let column = c.loop-rest.column in
    let rest = c.loop-rest.rest.now in
    let ok = unless_ok _ _ _ (sym c.in-Ok.ensures.answer) in
    turn_placed L c.args.self.now.algebra rest (length c.args.bytes.now - length rest) c.loop-rest.records ws column _ _ _ (search rules) c.loop-rest.invariant.3 c.loop-rest.invariant.4 c.loop-rest.invariant.5
    c.in-Ok.size (net_wires c.place_record.new.self) c.place_record.new.column (mapped_none _ _ ok.0) ok.1 c.place_record.ensures.net
    (c.place_record.ensures.column ∙ ap (λ a. settled (reason_of ws (length column) rest) (set column (length ws) (worked L a column (asked (request_of rest)))) column) c.loop-rest.invariant.2)

pub loop-rest-smaller : goal.loop-rest-smaller
loop-rest-smaller g c =
    let t = (placed g c).0 in
    let u = (placed g c).1 in
    let long = rest_length c.loop-rest.rest.now c.in-Ok.size in
    omega arith

pub loop-rest-preserved : goal.loop-rest-preserved
loop-rest-preserved g c =
    let t = placed g c in
    let fits = t.0 in
    let some = t.1 in
    let bytes = c.args.bytes.now in
    let rest = c.loop-rest.rest.now in
    let size = c.in-Ok.size in
    let inside = c.loop-rest.invariant.0 in
    let records = c.loop-rest.invariant.1 in
    let long = rest_length rest size in
    let left = take_rest rest size in
    let at : length bytes - length (take (length rest - size) (drop size rest)) ≡ length bytes - length rest + size = omega (arith, fits, inside, long) in
    let ws = net_wires c.place_record.new.self in
    let column = c.place_record.new.column in (
      omega (arith, inside, long),
      omega (arith, some, fits, inside, records, long),
      c.place_record.ensures.algebra ∙ c.loop-rest.invariant.2,
      ap (λ (n : ℕ). reading (length column) n 0 (c.loop-rest.records + 1) ws (take (length rest - size) (drop size rest))) at
          ∙ ap (reading (length column) (length bytes - length rest + size) 0 (c.loop-rest.records + 1) ws) left ∙ t.2,
      ap (column_reading g.L.Algebra c.args.self.now.algebra 0 ws column) left ∙ t.3,
      ap (search_high 0 (length ws)) left ∙ t.4,
      λ kept. c.place_record.ensures.kept (c.loop-rest.invariant.6 kept),
    )

pub returns-in-Err : goal.returns-in-Err
returns-in-Err g c =
    let L = g.L.Algebra in
    let bytes = c.args.bytes.now in
    let ws = net_wires c.loop-rest.self in
    let column = c.loop-rest.column in
    let rest = c.loop-rest.rest.now in
    let at = length bytes - length rest in
    let bad = mapped_some _ _ _ (unless_err _ _ _ (sym c.in-Err.ensures.answer)) in
    let r = bad.0 in
    let same = ap (λ (f : ReadFault). f.reason) bad.2 in
    let ends =
    turn_refused L c.args.self.now.algebra rest at c.loop-rest.records ws column _ _ _ (search rules) c.loop-rest.invariant.3 c.loop-rest.invariant.4 c.loop-rest.invariant.5
    r (net_wires c.place_record.new.self) c.place_record.new.column c.high_pin-pin.result bad.1 c.place_record.ensures.net
    (c.place_record.ensures.column ∙ ap (λ a. settled (reason_of ws (length column) rest) (set column (length ws) (worked L a column (asked (request_of rest)))) column) c.loop-rest.invariant.2)
    (c.high_pin-pin.ensures ∙ sym (ap (λ (x : Reason). cond (eqb (reason_number x) 9) (unwrap_or (search_high 0 c.wires-wires.result bytes) 0) 0) same)) in
    let kept = λ (k : ColumnKept L c.args.self.now c.args.column.now). c.place_record.ensures.kept (c.loop-rest.invariant.6 k) in
    record {
      answer =
          ap Err (c.placed.ensures
          ∙ ap (λ (x : Reason). at_place x at c.wires.result c.high_pin-pin.result) (sym same)
          ∙ ap (λ (n : ℕ). at_place r at n c.high_pin-pin.result) c.wires.ensures)
          ∙ ends.0;
      makes = made ends.1 (c.place_record.ensures.algebra ∙ c.loop-rest.invariant.2) ends.2 kept;
    }

pub returns-clause-makes : goal.returns-clause-makes
returns-clause-makes g c =
    let none : length c.loop-rest.rest.now ≡ 0 = search rules in
    made (turn_none _ _ _ _ c.loop-rest.rest.now _ c.loop-rest.invariant.3 none) c.loop-rest.invariant.2
    (column_none g.L.Algebra c.args.self.now.algebra _ _ c.loop-rest.rest.now _ c.loop-rest.invariant.4 none) c.loop-rest.invariant.6
