-- Serving the gates of a net one after another, so that every wire makes all changes of its transient.
use Rattle.std.proofs.Common.{◌≡◌, ℕ, zero, suc, ◌+◌, ◌<◌, ◌≤◌, false, ◌⊎◌, List, map, length, sym, refl, ap, ◌∙◌, subst, inl, inr, arith}
use mathlib.Core.List.{map-map}
use Rattle.std.specs.List.{range_with_len}
use Rattle.std.proofs.lemmas.List.FromFn.{length-map-range_with_len, get_or-map-range_with_len}
use Rattle.std.proofs.lemmas.List.{length-map, get_or-map, get_or_past}
use Rattle.std.proofs.lemmas.Bool.{cases_lt, cases_eq}
use Rattle.algebras.specs.Hearing.{at_rest, longer, hears as hears_at, changes_at, answered, HeardTo}
use Rattle.algebras.specs.Hearing.HeardTo.{rests, arrives as arrived, loses as lost_at}
use Rattle.algebras.specs.Transient.{Transient, zero_word}
use Rattle.algebras.proofs.Answering.{all_reached}
use Rattle.algebras.proofs.EveryKind.{gate_longest}
use Rattle.algebras.specs.Words.{same_transient}
use Rattle.nets.specs.Wires.{Plain, input, gate, wire_at, pins_of, Lower}
use Rattle.nets.specs.Transients.{transient}
use Rattle.nets.specs.Arrivals.{drive_of, pin_count, pin_wire, function_of, State, rest, makes, hears, answers, moves, arrives, Allowed}
use Rattle.nets.proofs.Wiring.{start_of_transient}
use Rattle.nets.proofs.Heard.{heard_at, heard_of, pin_transients, transient_for, transient_pins, makes_same, makes_other, hears_same, hears_other, hears_other_pin, answers_heard, answers_heard_of, answers_other, answers_same}
use Rattle.nets.proofs.Turns.{ComesTo, comes_rest, comes_also, comes_next}

-- Functions that agree from a on give the same list from a on.
pub places_same : {X : Type 0} (f g : ℕ → X) (a n : ℕ) → ((j : ℕ) → a ≤ j → f j ≡ g j) → map f (range_with_len a n) ≡ map g (range_with_len a n)
places_same f g a zero e = refl
places_same f g a (suc n) e =
    let h = e a (omega arith) in
    let t = places_same f g (a + 1) n (λ j l. e j (omega arith)) in
    cc

-- A change more at place i, which is j counted from a on.
pub hears_places : (f g : ℕ → Transient) (a n i j : ℕ) → a + i ≡ j → i < n → g j ≡ longer (f j) → ((v : ℕ) → (v ≡ j → ⊥) → g v ≡ f v)
    → hears_at i (map f (range_with_len a n)) ≡ map g (range_with_len a n)
hears_places f g a zero i j q l e o = absurd (omega arith)
hears_places f g a (suc n) zero j q l e o =
    let p : a ≡ j = omega arith in
    let h : longer (f a) ≡ g a = subst (λ (v : ℕ). longer (f v) ≡ g v) (sym p) (sym e) in
    let t = places_same f g (a + 1) n (λ v m. sym (o v (λ z. omega arith))) in
    cc
hears_places f g a (suc n) (suc i) j q l e o =
    let h : f a ≡ g a = sym (o a (λ z. omega arith)) in
    let t = hears_places f g (a + 1) n i j (omega arith) (omega arith) e o in
    cc

-- The changes at a place.
pub changes_at_place : (f : ℕ → Transient) (n i : ℕ) → i < n → changes_at (map f (range_with_len 0 n)) i ≡ (f i).changes
changes_at_place f n i l =
    let k = length-map-range_with_len f 0 n in
    get_or-map (λ (h : Transient). h.changes) (map f (range_with_len 0 n)) i zero_word 0 (omega arith)
    ∙ ap (λ (h : Transient). h.changes) (get_or-map-range_with_len f 0 n i i zero_word l (omega arith))

-- Where there are changes there is a place.
pub place_of_changes : (f : ℕ → Transient) (n i m : ℕ) → m < changes_at (map f (range_with_len 0 n)) i → i < n
place_of_changes f n i m l =
    elim (cases_lt i n) [
      | inl k ↦ k
      | inr k ↦
          let xs = map f (range_with_len 0 n) in
          let p = length-map-range_with_len f 0 n in
          let q = length-map xs (λ (h : Transient). h.changes) in
          let z = get_or_past (map (λ (h : Transient). h.changes) xs) i 0 (omega arith) in
          absurd (omega arith)
    ]

-- Inputs below c have made all changes of their drives and input c has made n; nothing else has happened.
pub record Moved (net : List Plain) (c n : ℕ) (s : State) : Type 0 where
  pub below : (v : ℕ) → v < c → s.made v ≡ drive_of (wire_at net v)
  pub here : s.made c ≡ n
  pub above : (v : ℕ) → c < v → s.made v ≡ 0
  pub silent : (v i : ℕ) → s.heard v i ≡ 0

-- At rest nothing has happened.
pub moved_rest : (net : List Plain) → Moved net 0 0 rest
moved_rest net = record { below = λ v l. absurd (omega arith); here = refl; above = λ v l. refl; silent = λ v i. refl }

-- An input moves once more.
pub moved_next : (net : List Plain) (c n : ℕ) (s : State) → Moved net c n s → Moved net c (suc n) (makes c s)
moved_next net c n s m = record {
  below = λ v l. makes_other c s v (λ e. omega arith) ∙ m.below v l;
  here = makes_same c s ∙ ap suc m.here;
  above = λ v l. makes_other c s v (λ e. omega arith) ∙ m.above v l;
  silent = m.silent;
}

-- An input that has made all changes of its drive leaves the next one to move.
pub moved_done : (net : List Plain) (c : ℕ) (s : State) → Moved net c (drive_of (wire_at net c)) s → Moved net (suc c) 0 s
moved_done net c s m = record {
  below = λ v l. elim (cases_eq v c) [
    | inl e ↦ subst (λ (u : ℕ). s.made u ≡ drive_of (wire_at net u)) (sym e) m.here
    | inr d ↦ m.below v (omega arith)
  ];
  here = m.above (suc c) (omega arith);
  above = λ v l. m.above v (omega arith);
  silent = m.silent;
}

-- An input can make as many changes as its drive has.
pub moves_some : (net : List Plain) (c n : ℕ) → n ≤ drive_of (wire_at net c) → ComesTo net 0 (Moved net c 0) → ComesTo net 0 (Moved net c n)
moves_some net c zero l r = r
moves_some net c (suc n) l r =
    comes_next net 0 (Moved net c n) (Moved net c (suc n)) (moves c) (omega arith) tt
    (λ s m. (let h = m.here in omega arith)) (λ s m. moved_next net c n s m) (moves_some net c n (omega arith) r)

-- All inputs below c can make all their changes.
pub moves_all : (net : List Plain) (c : ℕ) → ComesTo net 0 (Moved net c 0)
moves_all net zero = comes_rest net (Moved net 0 0) (moved_rest net)
moves_all net (suc c) =
    let n = drive_of (wire_at net c) in
    comes_also net 0 0 (Moved net c n) (Moved net (suc c) 0) (omega arith) (λ s m. moved_done net c s m)
    (moves_some net c n (omega arith) (moves_all net c))

-- The wires other than c, where gates below c have been served and those above have not: all changes made and heard below, and
-- nothing but the inputs' moves above.
pub record Around (net : List Plain) (c : ℕ) (s : State) : Type 0 where
  pub below : (v : ℕ) → v < c → s.made v ≡ (transient net v).changes
  pub above : (v : ℕ) → c < v → s.made v ≡ drive_of (wire_at net v)
  pub heard : (v i : ℕ) → v < c → i < pin_count net v → s.heard v i ≡ (transient net (pin_wire net v i)).changes
  pub silent : (v i : ℕ) → c < v → s.heard v i ≡ 0

-- It is the turn of wire c: gates below c have been served.
pub record TurnOf (net : List Plain) (c : ℕ) (s : State) : Type 0 where
  pub around : Around net c s
  pub here : s.made c ≡ drive_of (wire_at net c)
  pub silent : (i : ℕ) → s.heard c i ≡ 0

-- In the turn of gate c its pins have heard hs and its wire has made m changes.
pub record InTurnOf (net : List Plain) (c : ℕ) (hs : List Transient) (m : ℕ) (s : State) : Type 0 where
  pub around : Around net c s
  pub here : s.made c ≡ m
  pub heard : heard_of net s c ≡ hs

-- Once the inputs have moved it is the turn of wire 0.
pub turn_first : (net : List Plain) (s : State) → Moved net (length net) 0 s → TurnOf net 0 s
turn_first net s m = record {
  around = record {
    below = λ v l. absurd (omega arith);
    above = λ v l. made v;
    heard = λ v i l k. absurd (omega arith);
    silent = λ v i l. m.silent v i;
  };
  here = made 0;
  silent = m.silent 0;
}
  where
    none_past : (v : ℕ) → length net ≤ v → 0 ≡ drive_of (wire_at net v)
    none_past v l = ap drive_of (sym (get_or_past net v (input false 0) l))

    made : (v : ℕ) → s.made v ≡ drive_of (wire_at net v)
    made v =
        elim (cases_lt v (length net)) [
          | inl l ↦ m.below v l
          | inr l ↦ elim (cases_eq v (length net)) [
            | inl e ↦ ap s.made e ∙ m.here ∙ none_past v l
            | inr d ↦ m.above v (omega arith) ∙ none_past v l
          ]
        ]

-- In the turn of wire c nothing has been heard at its pins.
pub turn_begins : (net : List Plain) (c : ℕ) → drive_of (wire_at net c) ≡ 0 → (s : State) → TurnOf net c s
    → InTurnOf net c (map at_rest (pin_transients net c)) 0 s
turn_begins net c z s t = record {
  around = t.around;
  here = t.here ∙ z;
  heard =
      places_same (heard_at net s c) (λ i. at_rest (transient net (pin_wire net c i))) 0 (pin_count net c)
      (λ i l. same_transient (heard_at net s c i) (at_rest (transient net (pin_wire net c i)))
      (start_of_transient net (pin_wire net c i)) (t.silent i))
      ∙ sym (map-map at_rest (λ i. transient net (pin_wire net c i)) (range_with_len 0 (pin_count net c)));
}

-- What arrives at a pin of gate c concerns no other wire.
pub around_arrives : (net : List Plain) (c i : ℕ) (s : State) → Around net c s → Around net c (answers net c (hears c i s))
around_arrives net c i s a = record {
  below = λ v l. answers_other net c (hears c i s) v (λ e. omega arith) ∙ a.below v l;
  above = λ v l. answers_other net c (hears c i s) v (λ e. omega arith) ∙ a.above v l;
  heard = λ v j l k. kept v j (λ e. omega arith) ∙ a.heard v j l k;
  silent = λ v j l. kept v j (λ e. omega arith) ∙ a.silent v j l;
}
  where
    kept : (v j : ℕ) → (v ≡ c → ⊥) → (answers net c (hears c i s)).heard v j ≡ s.heard v j
    kept v j d = ap (λ (h : ℕ → ℕ → ℕ). h v j) (answers_heard net c (hears c i s)) ∙ hears_other c i s v j d

-- A pin that hears one change more extends its prefix.
pub heard_of_hears : (net : List Plain) (c i : ℕ) (s : State) → i < pin_count net c → hears_at i (heard_of net s c) ≡ heard_of net (hears c i s) c
heard_of_hears net c i s l =
    hears_places (heard_at net s c) (heard_at net (hears c i s) c) 0 (pin_count net c) i i (omega arith) l
    (same_transient (heard_at net (hears c i s) c i) (longer (heard_at net s c i)) refl (hears_same c i s))
    (λ v d. same_transient (heard_at net (hears c i s) c v) (heard_at net s c v) refl (hears_other_pin c i s c v d))

-- A change that arrives in the turn of gate c.
pub turn_arrives : (net : List Plain) → Lower net → (c i : ℕ) (hs : List Transient) (m : ℕ) (s : State) → i < pin_count net c
    → InTurnOf net c hs m s
    → InTurnOf net c (hears_at i hs) (answered (function_of (wire_at net c)) (hears_at i hs) m) (answers net c (hears c i s))
turn_arrives net lower c i hs m s l t =
    let e : heard_of net (hears c i s) c ≡ hears_at i hs =
    sym (heard_of_hears net c i s l) ∙ ap (hears_at i) t.heard in
    record {
      around = around_arrives net c i s t.around;
      here =
          answers_same net lower c (hears c i s)
          ∙ ap (λ (gs : List Transient). answered (function_of (wire_at net c)) gs (s.made c)) e
          ∙ ap (answered (function_of (wire_at net c)) (hears_at i hs)) t.here;
      heard = answers_heard_of net c (hears c i s) c ∙ e;
    }

-- In the turn of gate c a change is allowed to arrive at a pin that has not heard its wire's whole transient.
pub turn_allows : (net : List Plain) → Lower net → (c i : ℕ) (hs : List Transient) (m : ℕ) (s : State)
    → changes_at hs i < changes_at (pin_transients net c) i → InTurnOf net c hs m s → Allowed net s (arrives c i)
turn_allows net lower c i hs m s l t =
    let n = pin_count net c in
    let xs = λ (j : ℕ). transient net (pin_wire net c j) in
    let k = place_of_changes xs n i (changes_at hs i) l in
    let a = changes_at_place xs n i k in
    let b = changes_at_place (heard_at net s c) n i k in
    let e = ap (λ (gs : List Transient). changes_at gs i) t.heard in
    let d = t.around.below (pin_wire net c i) (lower c i k) in
    (k, omega arith)

-- What one gate can come to losing no pulse, gate c comes to in its turn.
pub turn_comes : (net : List Plain) → Lower net → (c : ℕ) {hs : List Transient} {m lost : ℕ}
    → HeardTo (function_of (wire_at net c)) (pin_transients net c) hs m lost → lost ≡ 0
    → ComesTo net c (InTurnOf net c (map at_rest (pin_transients net c)) 0) → ComesTo net (suc c) (InTurnOf net c hs m)
turn_comes net lower c rests z r =
    let P = InTurnOf net c (map at_rest (pin_transients net c)) 0 in
    comes_also net c (suc c) P P (omega arith) (λ s t. t) r
turn_comes net lower c (arrived {hs} {made = m} i h l) z r =
    let k = place_of_changes (λ (j : ℕ). transient net (pin_wire net c j)) (pin_count net c) i (changes_at hs i) l in
    comes_next net (suc c) (InTurnOf net c hs m)
    (InTurnOf net c (hears_at i hs) (answered (function_of (wire_at net c)) (hears_at i hs) m)) (arrives c i) (omega arith) tt
    (λ s t. turn_allows net lower c i hs m s l t) (λ s t. turn_arrives net lower c i hs m s k t) (turn_comes net lower c h z r)
turn_comes net lower c (lost_at i h l) z r = absurd (omega arith)

-- A wire is an input, without pins and with the transient of its drive, or a gate, which can come to all of its transient.
pub input_or_gate : (p : Plain)
    → ((length (pins_of p) ≡ 0) × ((xs : List Transient) → (transient_for p xs).changes ≡ drive_of p))
    ⊎ ((drive_of p ≡ 0) × ((xs : List Transient) → HeardTo (function_of p) xs xs (transient_for p xs).changes 0))
input_or_gate (input b n) = inl (refl, λ xs. refl)
input_or_gate (gate k ps) = inr (refl, λ xs. all_reached (gate_longest k) xs)

-- After the turn of wire c, in which it has made all changes and its pins have heard all, it is the next wire's turn.
pub turn_next : (net : List Plain) (c : ℕ) (s : State) → Around net c s → s.made c ≡ (transient net c).changes
    → ((i : ℕ) → i < pin_count net c → s.heard c i ≡ (transient net (pin_wire net c i)).changes) → TurnOf net (suc c) s
turn_next net c s a m h = record {
  around = record {
    below = λ v l. elim (cases_eq v c) [
      | inl e ↦ subst (λ (u : ℕ). s.made u ≡ (transient net u).changes) (sym e) m
      | inr d ↦ a.below v (omega arith)
    ];
    above = λ v l. a.above v (omega arith);
    heard = λ v i l k. elim (cases_eq v c) [
      | inl e ↦
          subst (λ (u : ℕ). i < pin_count net u → s.heard u i ≡ (transient net (pin_wire net u i)).changes) (sym e) (h i) k
      | inr d ↦ a.heard v i (omega arith) k
    ];
    silent = λ v i l. a.silent v i (omega arith);
  };
  here = a.above (suc c) (omega arith);
  silent = λ i. a.silent (suc c) i (omega arith);
}

-- An input's turn passes.
pub turn_input : (net : List Plain) → Lower net → (c : ℕ) → pin_count net c ≡ 0
    → ((xs : List Transient) → (transient_for (wire_at net c) xs).changes ≡ drive_of (wire_at net c)) → (s : State) → TurnOf net c s → TurnOf net (suc c) s
turn_input net lower c z d s t =
    turn_next net c s t.around
    (t.here ∙ sym (ap (λ (x : Transient). x.changes) (transient_pins net lower c) ∙ d (pin_transients net c)))
    (λ i l. absurd (omega arith))

-- A gate's turn ends where its pins have heard all.
pub turn_ends : (net : List Plain) → Lower net → (c : ℕ) (s : State)
    → InTurnOf net c (pin_transients net c) (transient_for (wire_at net c) (pin_transients net c)).changes s → TurnOf net (suc c) s
turn_ends net lower c s t =
    turn_next net c s t.around (t.here ∙ sym (ap (λ (x : Transient). x.changes) (transient_pins net lower c)))
    (λ i l. sym (changes_at_place (heard_at net s c) (pin_count net c) i l)
    ∙ ap (λ (gs : List Transient). changes_at gs i) t.heard
    ∙ changes_at_place (λ (j : ℕ). transient net (pin_wire net c j)) (pin_count net c) i l)

-- Wires can have their turns one after another.
pub turns : (net : List Plain) → Lower net → (c : ℕ) → ComesTo net c (TurnOf net c)
turns net lower zero =
    comes_also net 0 0 (Moved net (length net) 0) (TurnOf net 0) (omega arith) (turn_first net) (moves_all net (length net))
turns net lower (suc c) =
    let r = turns net lower c in
    let xs = pin_transients net c in
    let p = wire_at net c in
    elim (input_or_gate p) [
      | inl (z, d) ↦ comes_also net c (suc c) (TurnOf net c) (TurnOf net (suc c)) (omega arith) (turn_input net lower c z d) r
      | inr (z, h) ↦
          comes_also net (suc c) (suc c) (InTurnOf net c xs (transient_for p xs).changes) (TurnOf net (suc c)) (omega arith) (turn_ends net lower c)
          (turn_comes net lower c (h xs) refl
          (comes_also net c c (TurnOf net c) (InTurnOf net c (map at_rest xs) 0) (omega arith) (turn_begins net c z) r))
    ]
