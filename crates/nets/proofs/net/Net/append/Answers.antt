use Rattle.std.proofs.Common.{set, vec_items, sym, refl, ◌∙◌, subst, ap₂, subst₂, arith}
use Rattle.std.proofs.lemmas.List.{length-map}
use Rattle.nets.specs.Wires.{Lower, Fitting}
use Rattle.nets.specs.Tables.{plain}
use Rattle.nets.specs.Nets.{net_wires}
use Rattle.nets.specs.Working.{Kept}
use Rattle.nets.proofs.Grading.{Lawful, kept_push}
use Rattle.nets.proofs.Placements.{within_below, wires_push}
use Rattle.nets.proofs.Wiring.{lower_push, fitting_push}
use Rattle.nets.proofs.net.Net.append.Goals as goal

pub invariant_of-self : goal.invariant_of-self
invariant_of-self g c =
    let v = c.args.self.now.table.wires in
    let n = v.ok.0 ∙ sym (length-map (vec_items v) plain) in
    let items = wires_push (vec_items v) (vec_items c.push_reserved.new.self) c.args.wire c.push_reserved.ensures.items in (
      (omega (arith, c.push_reserved.ensures.len, c.requires.few), (omega (arith, c.push_reserved.ensures.capacity, c.args.self.now.table.room), tt)),
      (subst Lower (sym items) (lower_push (net_wires c.args.self.now) (plain c.args.wire) c.args.self.now.lower (within_below _ _ c.requires.lower)), (subst Fitting (sym items) (fitting_push (net_wires c.args.self.now) (plain c.args.wire) c.args.self.now.fitting c.requires.fitting), tt)),
    )

pub returns : goal.returns
returns g c =
    let n = c.args.self.now in
    let a = n.algebra in
    let met = g.met.L.Algebra in
    let laws : Lawful g.L.Algebra a = record {
      reads_grade = met.reads_grade a;
      complements_grade = met.complements_grade a;
      sums_grades = met.sums_grades a;
      products_grades = met.products_grades a;
      exclusives_grades = met.exclusives_grades a;
    } in
    let wires = wires_push (vec_items n.table.wires) (vec_items c.push_reserved.new.self) c.args.wire c.push_reserved.ensures.items in
    let filled = ap₂ (set c.args.column.now) c.wires-number.ensures c.work.ensures in
    record {
      net = wires;
      algebra = refl;
      column = filled;
      kept = λ kept. subst₂ (Kept g.L.Algebra a) (sym wires) (sym filled) (kept_push g.L.Algebra a laws (net_wires n) (plain c.args.wire) c.args.column.now c.requires.lower c.requires.long kept);
    }
