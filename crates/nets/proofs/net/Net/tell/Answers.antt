use Rattle.std.proofs.Common.{Ok, Err, sym, ap, ◌∙◌}
use Rattle.std.proofs.lemmas.Result.{err_from_is_err_and}
use Rattle.nets.specs.Asking.{telling, told_of}
use Rattle.nets.specs.Nets.{ColumnKept, net_wires}
use Rattle.nets.proofs.Followed.{tells_follows}
use Rattle.nets.specs.Transients.{transient}
use Rattle.nets.proofs.Grading.{standing_kept}
use Rattle.nets.proofs.Placements.{unless_ok, unless_err, unless_passed, unless_refused, asked_stands, same_told}
use Rattle.nets.proofs.net.Net.tell.Goals as goal

pub returns-in_err-entry : goal.returns-in_err-entry
returns-in_err-entry g c =
    let f = c.in_err-entry.field-0.0 in
    let s = unless_err _ _ f (sym c.in_err-entry.ensures) in
    let p = err_from_is_err_and c.from_residual.result c.from_residual.ensures.1 in
    let e = p.1 ∙ ap Err p.2 in
    record {
      answer = e ∙ unless_refused _ _ f s;
      kept = λ kept. e ∙ unless_refused _ _ f s;
      follows = tells_follows g.L.Algebra c.args.self.now c.args.column.now c.args.wire _ (λ kept. e ∙ unless_refused _ _ f s);
    }

pub returns : goal.returns
returns g c =
    let n = c.args.self.now in
    let a = n.algebra in
    let s = unless_ok _ _ _ (sym c.in_ok-entry.ensures) in
    let t = transient (net_wires n) c.args.wire in
    let kept = λ (k : ColumnKept g.L.Algebra n c.args.column.now).
    (let e = sym s.1 ∙ standing_kept g.L.Algebra a (net_wires n) _ k _ (asked_stands _ _ _ s.0) in
    ap Ok (same_told _ (told_of t) (c.start-start.ensures.told t e) (c.end-end.ensures.told t e) (c.verdict-verdict.ensures.told t e))
    ∙ unless_passed _ _ s.0) in
    record {
      answer =
          ap Ok (same_told _ (telling g.L.Telling a _)
          (c.start-start.ensures.value ∙ ap (g.L.Telling.starts a) (sym s.1))
          (c.end-end.ensures.value ∙ ap (g.L.Telling.ends a) (sym s.1))
          (c.verdict-verdict.ensures.value ∙ ap (g.L.Telling.verdicts a) (sym s.1)))
          ∙ unless_passed _ _ s.0;
      kept = kept;
      follows = tells_follows g.L.Algebra n c.args.column.now c.args.wire _ kept;
    }
