-- The longest histories of a net's wires: serving in turn gives them, and they are the words of the transients.
use Rattle.std.proofs.Common.{◌≡◌, ℕ, zero, suc, ◌<◌, ◌≤◌, Bool, false, not, List, [], ◌∷◌, length, sym, refl, ap, ◌∙◌, inl, inr, arith}
use Rattle.std.proofs.lemmas.List.{get_or_past}
use Rattle.std.proofs.lemmas.Bool.{cases_lt}
use Rattle.algebras.specs.Transient.{Transient, letters, word}
use Rattle.algebras.specs.Words.{same_transient}
use Rattle.nets.specs.Wires.{Plain, input, wire_at, pins_of, Lower}
use Rattle.nets.specs.Transients.{transient}
use Rattle.nets.specs.Arrivals.{drive_of, pin_count, pin_wire, start_of, State, Step, ending, history, Longest, ServesInTurn, Begins, LongestInTurn}
use Rattle.nets.specs.Histories.{LongestHistories}
use Rattle.nets.proofs.Wiring.{start_of_transient}
use Rattle.nets.proofs.Lowering.{plain_lower}
use Rattle.nets.proofs.Heard.{pin_transients, transient_for, for_drive, transient_pins}
use Rattle.nets.proofs.Bounds.{order_within}
use Rattle.nets.proofs.Serving.{TurnOf, turns}

-- Past the wires of a net there is an input that has no changes to make.
pub wire_past : (net : List Plain) (w : ℕ) → length net ≤ w → wire_at net w ≡ input false 0
wire_past net w l = get_or_past net w (input false 0) l

-- Once all wires have had their turns, each has made all changes of its transient.
pub turns_made : (net : List Plain) → Lower net → (s : State) → TurnOf net (length net) s → (w : ℕ) → s.made w ≡ (transient net w).changes
turns_made net lower s t w =
    elim (cases_lt w (length net)) [
      | inl l ↦ t.around.below w l
      | inr l ↦
          let e = wire_past net w l in
          let c : (transient net w).changes ≡ 0 =
          ap (λ (x : Transient). x.changes) (transient_pins net lower w) ∙ ap (λ (p : Plain). (transient_for p (pin_transients net w)).changes) e in
          let d : drive_of (wire_at net w) ≡ 0 = ap drive_of e in
          let m : s.made w ≡ drive_of (wire_at net w) = made_past l in
          omega arith
    ]
  where
    made_past : length net ≤ w → s.made w ≡ drive_of (wire_at net w)
    made_past l =
        elim (cases_lt (length net) w) [
          | inl k ↦ t.around.above w k
          | inr k ↦
              let e : length net ≡ w = omega arith in
              rw (← e) t.here
        ]

-- Every pin has then heard all changes of its wire's transient.
pub turns_heard : (net : List Plain) (s : State) → TurnOf net (length net) s → (w i : ℕ) → i < pin_count net w
    → s.heard w i ≡ (transient net (pin_wire net w i)).changes
turns_heard net s t w i k =
    elim (cases_lt w (length net)) [
      | inl l ↦ t.around.heard w i l k
      | inr l ↦ let e = ap (λ (p : Plain). length (pins_of p)) (wire_past net w l) in absurd (omega arith)
    ]

-- Some order serves the gates one after another, and each wire makes all changes of its transient.
pub served : (net : List Plain) → Lower net
    → (order : List Step) × ServesInTurn net order × ((w : ℕ) → (ending net order).made w ≡ (transient net w).changes)
served net lower =
    let r = turns net lower (length net) in
    let o = r.order in
    let made = turns_made net lower (ending net o) r.comes in (
      o,
      record {
        allowed = r.allowed;
        loses_none = r.loses_none;
        in_turn = r.in_turn;
        all_made = λ w.
            (let m = made w in
            let e = ap (λ (x : Transient). x.changes) (transient_pins net lower w) in
            let d = for_drive (wire_at net w) (pin_transients net w) in
            omega arith);
        all_heard = λ w i k. turns_heard net (ending net o) r.comes w i k ∙ sym (made (pin_wire net w i));
      },
      made,
    )

-- A word with fewer changes is a beginning.
pub letters_begin : (b : Bool) (m n : ℕ) → m ≤ n → Begins (letters b m) (letters b n)
letters_begin b zero zero l = ([], refl)
letters_begin b zero (suc n) l = (letters (not b) n, refl)
letters_begin b (suc m) zero l = absurd (omega arith)
letters_begin b (suc m) (suc n) l =
    let (more, e) = letters_begin (not b) m n (omega arith) in
    (more, ap (λ (bs : List Bool). b ∷ bs) e)

-- Serving in turn gives every wire a history of which every other is a beginning.
pub longest_in_turn : (net : List Plain) → Lower net → LongestInTurn net
longest_in_turn net lower =
    let (o, serves, made) = served net lower in
    record {
      order = o;
      serves = serves;
      begins = λ other a w.
          (let m = made w in
          let l = order_within net lower other a w in
          letters_begin (start_of net w) ((ending net other).made w) ((ending net o).made w) (omega arith));
    }

-- A history with all changes of the transient is its word.
pub history_whole : (net : List Plain) (order : List Step) (w : ℕ) → (ending net order).made w ≡ (transient net w).changes
    → history net order w ≡ word (transient net w)
history_whole net order w e =
    ap word (same_transient (record { start = start_of net w; changes = (ending net order).made w }) (transient net w) (start_of_transient net w) e)

-- The longest history of a wire is the word of its transient.
pub longest_transient : (net : List Plain) → Lower net → (w : ℕ) (h : List Bool) → Longest net w h → h ≡ word (transient net w)
longest_transient net lower w h l =
    let (o, serves, made) = served net lower in
    let m = made w in
    let u = order_within net lower l.order l.allowed w in
    let v = l.longest o serves.allowed in
    sym l.gives ∙ history_whole net l.order w (omega arith)

-- The word of a wire's transient is its longest history.
pub transient_longest : (net : List Plain) → Lower net → (w : ℕ) (h : List Bool) → h ≡ word (transient net w) → Longest net w h
transient_longest net lower w h e =
    let (o, serves, made) = served net lower in
    record {
      order = o;
      allowed = serves.allowed;
      gives = history_whole net o w (made w) ∙ sym e;
      longest = λ other a. (let m = made w in let l = order_within net lower other a w in omega arith);
    }

-- Both for every net whose pins name lower wires, as do those of every plain net of calls.
pub longest_histories : LongestHistories
longest_histories = record {
  plain_nets = plain_lower;
  in_turn = longest_in_turn;
  by_transients = λ net lower w l h. (longest_transient net lower w h, transient_longest net lower w h);
}
