use Rattle.std.proofs.Common.{[], ◌∷◌, ◌++◌, length, set, Ok, Err, sym, refl, ap, ◌∙◌}
use Rattle.std.proofs.lemmas.Result.{err_from_is_err_and}
use Rattle.nets.specs.Nets.{net_wires}
use Rattle.nets.specs.Placing.{plain_request}
use Rattle.nets.specs.Wires.{Plain}
use Rattle.nets.specs.Working.{worked}
use Rattle.nets.proofs.Followed.{made}
use Rattle.nets.proofs.Placements.{unless_ok, unless_err, unless_passed, settled_passed, unless_refused, settled_refused, admitted, refused_room, refused_request}
use Rattle.nets.proofs.net.Net.place.Goals as goal

pub returns-in_err-number : goal.returns-in_err-number
returns-in_err-number g c =
    let f = c.in_err-number.field-0.0 in
    let s = refused_room _ (length c.args.column.now) (plain_request c.args.request) f (unless_err _ _ f (sym c.in_err-number.ensures)) in
    let p = err_from_is_err_and c.from_residual.result c.from_residual.ensures.1 in
    record {
      answer = p.1 ∙ ap Err p.2 ∙ unless_refused _ _ f s;
      makes = made (settled_refused _ _ _ f s) refl (settled_refused _ _ _ f s) (λ k. k);
    }

pub returns-in_err-wire : goal.returns-in_err-wire
returns-in_err-wire g c =
    let f = c.in_err-wire.field-0.0 in
    let room = unless_ok _ _ _ (sym c.in_ok-number.ensures) in
    let s = refused_request _ (length c.args.column.now) _ (plain_request c.args.request) f room.0 room.1 c.in_err-wire.ensures in
    let p = err_from_is_err_and c.from_residual-in_err-wire.result c.from_residual-in_err-wire.ensures.1 in
    record {
      answer = p.1 ∙ ap Err p.2 ∙ unless_refused _ _ f s;
      makes = made (settled_refused _ _ _ f s) refl (settled_refused _ _ _ f s) (λ k. k);
    }

pub returns : goal.returns
returns g c =
    let n = c.args.self.now in
    let column = c.args.column.now in
    let room = unless_ok _ _ _ (sym c.in_ok-number.ensures) in
    let q = plain_request c.args.request in
    let s = admitted _ (length column) _ q room.0 room.1 c.in_ok-wire.ensures.0 in
    let same = c.in_ok-wire.ensures.1 in
    let net = c.append.ensures.net ∙ ap (λ (w : Plain). net_wires n ++ w ∷ []) same ∙ settled_passed _ _ _ s in
    record {
      answer = ap Ok (sym room.1) ∙ unless_passed _ _ s;
      makes = made net c.append.ensures.algebra
          (c.append.ensures.column ∙ ap (λ (w : Plain). set column (length (net_wires n)) (worked g.L.Algebra n.algebra column w)) same ∙ settled_passed _ _ _ s)
          c.append.ensures.kept;
    }
