use Rattle.std.proofs.Common.{Ok, Err, sym, ap, ◌∙◌}
use Rattle.std.proofs.lemmas.Result.{err_from_is_err_and}
use Rattle.nets.specs.Nets.{ColumnKept, net_wires}
use Rattle.nets.proofs.Followed.{looks_up_follows}
use Rattle.nets.proofs.Grading.{standing_kept}
use Rattle.nets.proofs.Placements.{unless_ok, unless_err, unless_passed, unless_refused, asked_stands}
use Rattle.nets.proofs.net.Net.look_up.Goals as goal

pub returns-in_err-entry : goal.returns-in_err-entry
returns-in_err-entry g c =
    let f = c.in_err-entry.field-0.0 in
    let s = unless_err _ _ f (sym c.in_err-entry.ensures) in
    let p = err_from_is_err_and c.from_residual.result c.from_residual.ensures.1 in
    let e = p.1 ∙ ap Err p.2 in
    record {
      answer = e ∙ unless_refused _ _ f s;
      kept = λ kept. e ∙ unless_refused _ _ f s;
      follows = looks_up_follows g.L.Algebra c.args.self.now c.args.column.now c.args.wire _ (λ kept. e ∙ unless_refused _ _ f s);
    }

pub returns : goal.returns
returns g c =
    let n = c.args.self.now in
    let a = n.algebra in
    let s = unless_ok _ _ _ (sym c.in_ok-entry.ensures) in
    let e = c.read.ensures ∙ ap (g.L.Algebra.reads a) (sym s.1) in
    let kept = λ (k : ColumnKept g.L.Algebra n c.args.column.now).
    ap Ok (e ∙ ap (g.L.Algebra.reads a) (standing_kept g.L.Algebra a (net_wires n) _ k _ (asked_stands _ _ _ s.0)) ∙ g.met.L.Algebra.reads_grade a _) ∙ unless_passed _ _ s.0 in
    record {
      answer = ap Ok e ∙ unless_passed _ _ s.0;
      kept = kept;
      follows = looks_up_follows g.L.Algebra n c.args.column.now c.args.wire _ kept;
    }
