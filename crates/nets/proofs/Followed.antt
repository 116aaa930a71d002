-- To follow calls is to have their plain net and a kept column; so a call that keeps a column goes on following.
use Rattle.std.proofs.Common.{◌≡◌, ℕ, ◌<◌, ◌≤◌, List, [], ◌∷◌, ◌++◌, map, length, take, Result, sym, refl, ap, ◌∙◌, subst, arith}
use Rattle.std.proofs.lemmas.List.{ext_get_or, get_or-take, length-map, length-take, length-take-le}
use Rattle.algebras.specs.declared.algebra.Algebra.{Ghosts}
use Rattle.algebras.specs.Transient.{Transient, word, zero_word}
use Rattle.algebras.specs.Words.{word_once}
use Rattle.nets.specs.declared.fault.NetFault.{NetFault}
use Rattle.nets.specs.declared.net.Net.{Net}
use Rattle.nets.specs.declared.told.Told.{Told}
use Rattle.nets.specs.Asking.{answer_of_asking, grade_of, told_of}
use Rattle.nets.specs.Calls.{PlainCall, column_step, plain_step, plain_after, plain_of}
use Rattle.nets.specs.Following.{OfLongest, Follows, GoesOn, LooksUpLongest, Makes, TellsLongest}
use Rattle.nets.specs.Nets.{ColumnKept, net_wires}
use Rattle.nets.specs.Placing.{answered}
use Rattle.nets.specs.Wires.{Plain, Lower}
use Rattle.nets.specs.Transients.{transient, transients}
use Rattle.nets.specs.Working.{Kept, entry}
use Rattle.nets.proofs.Grading.{get_or_images, standing_kept}
use Rattle.nets.proofs.LongestHistories.{longest_transient, transient_longest}
use Rattle.nets.proofs.Wiring.{length_transients}

-- What a wire's transient has, its longest history has, and the other way round.
pub of_transient : (net : List Plain) → Lower net → (w : ℕ) (P : Transient → Type 0) → P (transient net w) → OfLongest net w P
of_transient net lower w P p = (transient net w, (transient_longest net lower w (word (transient net w)) refl, p))

pub at_transient : (net : List Plain) → Lower net → (w : ℕ) (P : Transient → Type 0) → OfLongest net w P → P (transient net w)
at_transient net lower w P l = subst P (word_once l.0 (transient net w) (longest_transient net lower w (word l.0) l.1.0)) l.1.1

-- A kept column is long enough.
pub kept_long : {X G : Type 0} (L : Ghosts X G) (a : X) (ws : List Plain) (column : List G) → Kept L a ws column → length ws ≤ length column
kept_long L a ws column kept =
    let e = sym (length-take (length ws) column) ∙ ap length kept ∙ length-map (transients ws) (L.grade a) ∙ length_transients ws in
    omega arith

-- Entries that are grades of transients make a kept column.
pub kept_entries : {X G : Type 0} (L : Ghosts X G) (a : X) (ws : List Plain) (column : List G) → length ws ≤ length column
    → ((w : ℕ) → w < length ws → entry L a column w ≡ L.grade a (transient ws w)) → Kept L a ws column
kept_entries L a ws column long entries =
    let few = length-take-le (length ws) column long in
    let grades = length-map (transients ws) (L.grade a) ∙ length_transients ws in
    ext_get_or (L.grade a zero_word) (take (length ws) column) (map (L.grade a) (transients ws)) (few ∙ sym grades)
    (λ w h.
    let l : w < length ws = omega arith in
    get_or-take (length ws) column w (L.grade a zero_word) l ∙ entries w l ∙ sym (get_or_images (L.grade a) (transients ws) w zero_word))

-- To follow calls is to have their plain net and a kept column.
pub follow : {X G : Type 0} (L : Ghosts X G) (n : Net X G L) (column : List G) (calls : List PlainCall)
    → net_wires n ≡ plain_of calls → ColumnKept L n column → Follows L n column calls
follow L n column calls wires kept =
    let a = n.algebra in
    let lower = subst Lower wires n.lower in
    let K : List Plain → Type 0 = λ ws. Kept L a ws column in
    let there = subst K wires kept in
    record {
      wires = wires;
      long = kept_long L a (plain_of calls) column there;
      entries = λ w h. of_transient (plain_of calls) lower w (λ t. entry L a column w ≡ L.grade a t) (standing_kept L a (plain_of calls) column there w h);
    }

pub followed : {X G : Type 0} (L : Ghosts X G) (n : Net X G L) (column : List G) (calls : List PlainCall) → Follows L n column calls → ColumnKept L n column
followed L n column calls f =
    let a = n.algebra in
    let lower = subst Lower f.wires n.lower in
    let K : List Plain → Type 0 = λ ws. Kept L a ws column in
    subst K (sym f.wires) (kept_entries L a (plain_of calls) column f.long
    (λ w h. at_transient (plain_of calls) lower w (λ t. entry L a column w ≡ L.grade a t) (f.entries w h)))

-- The plain net of calls and one more.
pub plain_after_push : (ws : List Plain) (calls : List PlainCall) (x : PlainCall) → plain_after ws (calls ++ x ∷ []) ≡ plain_step (plain_after ws calls) x
plain_after_push ws [] x = refl
plain_after_push ws (y ∷ ys) x = plain_after_push (plain_step ws y) ys x

-- A call that makes the step of the plain net and keeps a kept column goes on following.
pub goes_on : {X G : Type 0} (L : Ghosts X G) (n m : Net X G L) (column rest : List G) (x : PlainCall)
    → net_wires m ≡ plain_step (net_wires n) x → (ColumnKept L n column → ColumnKept L m rest) → GoesOn L n column m rest x
goes_on L n m column rest x step kept calls f =
    follow L m rest (calls ++ x ∷ [])
    (step ∙ ap (λ (ws : List Plain). plain_step ws x) f.wires ∙ sym (plain_after_push [] calls x))
    (kept (followed L n column calls f))

-- A call that makes the step of the plain net and of the column, and keeps a kept column, makes its step.
pub made : {X G : Type 0} {L : Ghosts X G} {n m : Net X G L} {before after : List G} {x : PlainCall}
    → net_wires m ≡ plain_step (net_wires n) x → m.algebra ≡ n.algebra → after ≡ column_step L n.algebra (net_wires n) before x
    → (ColumnKept L n before → ColumnKept L m after) → Makes L n before m after x
made {L = L} {n} {m} {before} {after} {x} net algebra column kept =
    record { net = net; algebra = algebra; column = column; kept = kept; follows = goes_on L n m before after x net kept }

-- What is answered of a wire's transient in a kept column is answered of its longest history in one that follows.
pub answers_follow : {X G V : Type 0} (L : Ghosts X G) (n : Net X G L) (column : List G) (w : ℕ) (of : Transient → V) (r : Result V NetFault)
    → (ColumnKept L n column → r ≡ answer_of_asking n column w (of (transient (net_wires n) w)))
    → (calls : List PlainCall) → Follows L n column calls
    → OfLongest (plain_of calls) w (λ t. r ≡ answered (length (plain_of calls)) (length column) w (of t))
answers_follow {V = V} L n column w of r kept calls f =
    let P : List Plain → Type 0 = λ ws. r ≡ answered (length ws) (length column) w (of (transient ws w)) in
    of_transient (plain_of calls) (subst Lower f.wires n.lower) w (λ t. r ≡ answered (length (plain_of calls)) (length column) w (of t))
    (subst P f.wires (kept (followed L n column calls f)))

pub looks_up_follows : {X G : Type 0} (L : Ghosts X G) (n : Net X G L) (column : List G) (w : ℕ) (r : Result G NetFault)
    → (ColumnKept L n column → r ≡ answer_of_asking n column w (grade_of L n w))
    → (calls : List PlainCall) → Follows L n column calls → LooksUpLongest L n.algebra (plain_of calls) (length column) w r
looks_up_follows L n column w r kept = answers_follow L n column w (L.grade n.algebra) r kept

pub tells_follows : {X G : Type 0} (L : Ghosts X G) (n : Net X G L) (column : List G) (w : ℕ) (r : Result Told NetFault)
    → (ColumnKept L n column → r ≡ answer_of_asking n column w (told_of (transient (net_wires n) w)))
    → (calls : List PlainCall) → Follows L n column calls → TellsLongest (plain_of calls) (length column) w r
tells_follows L n column w r kept = answers_follow L n column w told_of r kept

-- An empty net follows no calls, with any column.
pub opened : {X G : Type 0} (L : Ghosts X G) (n : Net X G L) (column : List G) → net_wires n ≡ [] → Follows L n column []
opened L n column wires =
    let K : List Plain → Type 0 = λ ws. Kept L n.algebra ws column in
    follow L n column [] wires (subst K (sym wires) refl)
