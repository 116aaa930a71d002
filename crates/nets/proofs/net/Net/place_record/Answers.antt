use Rattle.std.proofs.Common.{[], ◌∷◌, ◌++◌, length, Ok, Err, sym, ap, ◌∙◌}
use Rattle.std.proofs.lemmas.Result.{err_from_is_err_and}
use Rattle.std.specs.Option.{option_map}
use Rattle.nets.specs.declared.fault.Reason.TheVariants.{Refused}
use Rattle.nets.specs.Nets.{net_wires}
use Rattle.nets.specs.Placing.{Request, asked}
use Rattle.nets.specs.Records.{unplaced}
use Rattle.nets.proofs.Placements.{unless_ok, unless_err, unless_passed, settled_passed, unless_refused, settled_refused}
use Rattle.nets.proofs.Readings.{record_refused, record_admitted}
use Rattle.nets.proofs.net.Net.place_record.Goals as goal

pub returns-in_err-place-clause-answer : goal.returns-in_err-place-clause-answer
returns-in_err-place-clause-answer g c =
    let f = c.in_err-place.field-0.0 in
    let s = unless_err _ _ f (sym c.in_err-place.ensures.answer) in
    let asks = sym (c.lent.ensures ∙ c.in_ok-record.ensures.1) in
    let t = record_refused (net_wires c.args.self.now) (length c.args.column.now) c.args.bytes.now _ f c.in_ok-record.ensures.0 asks s in
    let p = err_from_is_err_and c.from_residual-in_err-place.result c.from_residual-in_err-place.ensures.1 in
    p.1 ∙ ap Err p.2 ∙ unless_refused _ _ (unplaced (Refused f)) (ap (option_map unplaced) t)

pub returns-in_err-place-clause-net : goal.returns-in_err-place-clause-net
returns-in_err-place-clause-net g c =
    let f = c.in_err-place.field-0.0 in
    let s = unless_err _ _ f (sym c.in_err-place.ensures.answer) in
    let asks = sym (c.lent.ensures ∙ c.in_ok-record.ensures.1) in
    let t = record_refused (net_wires c.args.self.now) (length c.args.column.now) c.args.bytes.now _ f c.in_ok-record.ensures.0 asks s in
    c.place.ensures.makes.net ∙ sym (settled_refused _ _ _ f s) ∙ settled_refused _ _ _ (Refused f) t

pub returns-clause-answer : goal.returns-clause-answer
returns-clause-answer g c =
    let s = (unless_ok _ _ _ (sym c.in_ok-place.ensures.answer)).0 in
    let asks = sym (c.lent.ensures ∙ c.in_ok-record.ensures.1) in
    let t = record_admitted (net_wires c.args.self.now) (length c.args.column.now) c.args.bytes.now _ c.in_ok-record.ensures.0 asks s in
    ap Ok c.in_ok-record.ensures.2 ∙ unless_passed _ _ (ap (option_map unplaced) t)

pub returns-clause-net : goal.returns-clause-net
returns-clause-net g c =
    let ws = net_wires c.args.self.now in
    let s = (unless_ok _ _ _ (sym c.in_ok-place.ensures.answer)).0 in
    let asks = sym (c.lent.ensures ∙ c.in_ok-record.ensures.1) in
    let t = record_admitted ws (length c.args.column.now) c.args.bytes.now _ c.in_ok-record.ensures.0 asks s in
    c.place.ensures.makes.net ∙ sym (settled_passed _ _ ws s) ∙ ap (λ (q : Request). ws ++ asked q ∷ []) (sym asks) ∙ settled_passed _ _ _ t
