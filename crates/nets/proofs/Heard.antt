-- What the pins of a gate in a net have heard, as transients, and what the gate's wire makes of them.
use Rattle.std.proofs.Common.{◌≡◌, ℕ, zero, suc, ◌+◌, ◌<◌, ◌≤◌, Bool, true, false, cond, ◌&&◌, eqb, List, map, length, get_or, sym, refl, ap, ◌∙◌, arith}
use mathlib.Core.List.{map-map}
use Rattle.std.specs.List.{range_with_len}
use Rattle.std.proofs.lemmas.List.FromFn.{fill_by_all}
use Rattle.std.proofs.lemmas.List.{length-map, get_or-map}
use Rattle.std.proofs.lemmas.Bool.{eq-eqb, ne_eqb, and_from, and_left, and_right}
use Rattle.algebras.specs.Kinds.{gate_transient}
use Rattle.algebras.specs.Sums.{starts, ends}
use Rattle.algebras.specs.Letters.{differ}
use Rattle.algebras.specs.Hearing.{answered}
use Rattle.algebras.specs.Transient.{Transient, driven, end_of, zero_word, flipped}
use Rattle.algebras.proofs.Prefixes.{Prefixes, none, next, prefixes_starts}
use Rattle.algebras.proofs.EveryKind.{gate_start, gate_grows, gate_answer_kept}
use Rattle.nets.specs.Wires.{Plain, input, gate, wire_at, pins_of, Lower}
use Rattle.nets.specs.Transients.{transient_after, transients, transient}
use Rattle.nets.specs.Arrivals.{drive_of, pin_count, pin_wire, function_of, start_of, State, rest, wire_value, pin_value, pin_values, makes, hears, answers}
use Rattle.nets.proofs.Wiring.{transient_lower, start_of_transient}

-- What pin i of gate w has heard: its wire's start, with as many changes as it heard.
abbrev pub heard_at : List Plain → State → ℕ → ℕ → Transient
heard_at net s w i = record { start = start_of net (pin_wire net w i); changes = s.heard w i }

-- What all pins of gate w have heard.
abbrev pub heard_of : List Plain → State → ℕ → List Transient
heard_of net s w = map (heard_at net s w) (range_with_len 0 (pin_count net w))

-- The transients of the wires that the pins of gate w name.
abbrev pub pin_transients : List Plain → ℕ → List Transient
pin_transients net w = map (λ i. transient net (pin_wire net w i)) (range_with_len 0 (pin_count net w))

-- The transient that belongs to transients of the pins; an input has that of its drive.
abbrev pub transient_for : Plain → List Transient → Transient
transient_for (input b n) xs = driven b n
transient_for (gate k ps) xs = gate_transient k xs

-- It starts as the wire does.
pub for_start : (p : Plain) (xs : List Transient) → (transient_for p xs).start ≡ function_of p (starts xs)
for_start (input b n) xs = refl
for_start (gate k ps) xs = gate_start k xs

-- It grows with what the pins have heard.
pub for_grows : (p : Plain) {hs xs : List Transient} → Prefixes hs xs → (transient_for p hs).changes ≤ (transient_for p xs).changes
for_grows (input b n) q = omega arith
for_grows (gate k ps) q = gate_grows k q

-- It has all changes of a drive.
pub for_drive : (p : Plain) (xs : List Transient) → drive_of p ≤ (transient_for p xs).changes
for_drive (input b n) xs = omega arith
for_drive (gate k ps) xs = omega arith

-- Where there are pins, an output within the transient of what they had heard is within that of what they hear now, once it
-- has answered.
pub for_answer : (p : Plain) → 0 < length (pins_of p) → {hs xs : List Transient} → Prefixes hs xs → (made : ℕ)
    → made ≤ (transient_for p hs).changes → answered (function_of p) xs made ≤ (transient_for p xs).changes
for_answer (input b n) l q made m = absurd (omega arith)
for_answer (gate k ps) l q made m = gate_answer_kept k q made m

-- A list by its places.
pub map_places : {X : Type 0} (f : ℕ → X) (ps : List ℕ) → map f ps ≡ map (λ i. f (get_or ps i 0)) (range_with_len 0 (length ps))
map_places f ps = fill_by_all (λ i. f (get_or ps i 0)) (map f ps) (length ps) (f 0) (length-map ps f) (λ k l. get_or-map f ps k 0 (f 0) l)

-- Transients at places of which each is a prefix of another's.
pub prefixes_places : (f g : ℕ → Transient) (a n : ℕ) → ((i : ℕ) → i < a + n → (f i).start ≡ (g i).start)
    → ((i : ℕ) → i < a + n → (f i).changes ≤ (g i).changes) → Prefixes (map f (range_with_len a n)) (map g (range_with_len a n))
prefixes_places f g a zero s l = none
prefixes_places f g a (suc n) s l =
    next (s a (omega arith)) (l a (omega arith))
    (prefixes_places f g (a + 1) n (λ i m. s i (omega arith)) (λ i m. l i (omega arith)))

-- The transient of a wire that is worked from a net's transients.
pub after_for : (ts : List Transient) (p : Plain) → transient_after ts p ≡ transient_for p (map (λ q. get_or ts q zero_word) (pins_of p))
after_for ts (input b n) = refl
after_for ts (gate k ps) = refl

-- The transient of a wire, by the transients of its pins.
pub transient_pins : (net : List Plain) → Lower net → (w : ℕ) → transient net w ≡ transient_for (wire_at net w) (pin_transients net w)
transient_pins net lower w =
    transient_lower net lower w ∙ after_for (transients net) (wire_at net w)
    ∙ ap (transient_for (wire_at net w)) (map_places (transient net) (pins_of (wire_at net w)))

-- The values of the pins are the ends of what they have heard.
pub ends_heard : (net : List Plain) (s : State) (w : ℕ) → ends (heard_of net s w) ≡ map (pin_value net s w) (range_with_len 0 (pin_count net w))
ends_heard net s w = map-map end_of (heard_at net s w) (range_with_len 0 (pin_count net w))

-- What pins have heard starts as at rest.
pub starts_heard : (net : List Plain) (s : State) (w : ℕ) → starts (heard_of net s w) ≡ starts (heard_of net rest w)
starts_heard net s w =
    map-map (λ (x : Transient). x.start) (heard_at net s w) (range_with_len 0 (pin_count net w))
    ∙ sym (map-map (λ (x : Transient). x.start) (heard_at net rest w) (range_with_len 0 (pin_count net w)))

-- At rest every pin has heard a prefix of its wire's transient.
pub rest_heard : (net : List Plain) (w : ℕ) → Prefixes (heard_of net rest w) (pin_transients net w)
rest_heard net w =
    prefixes_places (heard_at net rest w) (λ i. transient net (pin_wire net w i)) 0 (pin_count net w)
    (λ i l. start_of_transient net (pin_wire net w i)) (λ i l. omega arith)

-- The start of a wire belongs to the starts of what its pins have heard.
pub start_heard : (net : List Plain) → Lower net → (s : State) (w : ℕ) → start_of net w ≡ function_of (wire_at net w) (starts (heard_of net s w))
start_heard net lower s w =
    start_of_transient net w ∙ ap (λ (t : Transient). t.start) (transient_pins net lower w) ∙ for_start (wire_at net w) (pin_transients net w)
    ∙ ap (function_of (wire_at net w)) (sym (starts_heard net s w ∙ prefixes_starts (rest_heard net w)))

-- A wire that makes a change has made one more.
pub makes_same : (w : ℕ) (s : State) → (makes w s).made w ≡ suc (s.made w)
makes_same w s = ap (λ (b : Bool). cond b (suc (s.made w)) (s.made w)) (eq-eqb w w refl)

-- Any other wire has made as many as before.
pub makes_other : (w : ℕ) (s : State) (v : ℕ) → (v ≡ w → ⊥) → (makes w s).made v ≡ s.made v
makes_other w s v d = ap (λ (b : Bool). cond b (suc (s.made v)) (s.made v)) (ne_eqb v w d)

-- No wire has made fewer.
pub makes_grows : (w : ℕ) (s : State) (v : ℕ) → s.made v ≤ (makes w s).made v
makes_grows w s v = grown (eqb v w)
  where
    grown : (b : Bool) → s.made v ≤ cond b (suc (s.made v)) (s.made v)
    grown true = omega arith
    grown false = omega arith

-- A pin that hears a change has heard one more.
pub hears_same : (w i : ℕ) (s : State) → (hears w i s).heard w i ≡ suc (s.heard w i)
hears_same w i s =
    ap (λ (b : Bool). cond b (suc (s.heard w i)) (s.heard w i)) (and_from (eqb w w) (eqb i i) (eq-eqb w w refl) (eq-eqb i i refl))

-- The pins of any other gate have heard as much as before.
pub hears_other : (w i : ℕ) (s : State) (v j : ℕ) → (v ≡ w → ⊥) → (hears w i s).heard v j ≡ s.heard v j
hears_other w i s v j d =
    ap (λ (b : Bool). cond b (suc (s.heard v j)) (s.heard v j)) (and_left (eqb v w) (eqb j i) (ne_eqb v w d))

-- So has any other pin.
pub hears_other_pin : (w i : ℕ) (s : State) (v j : ℕ) → (j ≡ i → ⊥) → (hears w i s).heard v j ≡ s.heard v j
hears_other_pin w i s v j d =
    ap (λ (b : Bool). cond b (suc (s.heard v j)) (s.heard v j)) (and_right (eqb v w) (eqb j i) (ne_eqb j i d))

-- No pin has heard less.
pub hears_grows : (w i : ℕ) (s : State) (v j : ℕ) → s.heard v j ≤ (hears w i s).heard v j
hears_grows w i s v j = grown (eqb v w && eqb j i)
  where
    grown : (b : Bool) → s.heard v j ≤ cond b (suc (s.heard v j)) (s.heard v j)
    grown true = omega arith
    grown false = omega arith

-- An answer leaves what was heard.
pub answers_heard : (net : List Plain) (w : ℕ) (s : State) → (answers net w s).heard ≡ s.heard
answers_heard net w s = kept (differ (function_of (wire_at net w) (pin_values net s w)) (wire_value net s w))
  where
    kept : (b : Bool) → (cond b (makes w s) s).heard ≡ s.heard
    kept true = refl
    kept false = refl

-- So the prefixes that pins have heard stay.
pub answers_heard_of : (net : List Plain) (w : ℕ) (s : State) (v : ℕ) → heard_of net (answers net w s) v ≡ heard_of net s v
answers_heard_of net w s v =
    ap (λ (h : ℕ → ℕ → ℕ). heard_of net (record { made = s.made; heard = h }) v) (answers_heard net w s)

-- An answer leaves what any other wire has made.
pub answers_other : (net : List Plain) (w : ℕ) (s : State) (v : ℕ) → (v ≡ w → ⊥) → (answers net w s).made v ≡ s.made v
answers_other net w s v d = kept (differ (function_of (wire_at net w) (pin_values net s w)) (wire_value net s w))
  where
    kept : (b : Bool) → (cond b (makes w s) s).made v ≡ s.made v
    kept true = makes_other w s v d
    kept false = refl

-- An answer takes back no change.
pub answers_grows : (net : List Plain) (w : ℕ) (s : State) (v : ℕ) → s.made v ≤ (answers net w s).made v
answers_grows net w s v = grown (differ (function_of (wire_at net w) (pin_values net s w)) (wire_value net s w))
  where
    grown : (b : Bool) → s.made v ≤ (cond b (makes w s) s).made v
    grown true = makes_grows w s v
    grown false = omega arith

-- What a gate's wire has made once it has answered what its pins have heard.
pub answers_same : (net : List Plain) → Lower net → (w : ℕ) (s : State)
    → (answers net w s).made w ≡ answered (function_of (wire_at net w)) (heard_of net s w) (s.made w)
answers_same net lower w s =
    made_by (differ (function_of (wire_at net w) (pin_values net s w)) (wire_value net s w))
    ∙ ap (λ (b : Bool). cond b (suc (s.made w)) (s.made w)) (v ∙ o)
  where
    made_by : (b : Bool) → (cond b (makes w s) s).made w ≡ cond b (suc (s.made w)) (s.made w)
    made_by true = makes_same w s
    made_by false = refl

    v : differ (function_of (wire_at net w) (pin_values net s w)) (wire_value net s w) ≡ differ (function_of (wire_at net w) (ends (heard_of net s w))) (wire_value net s w)
    v = ap (λ (bs : List Bool). differ (function_of (wire_at net w) bs) (wire_value net s w)) (sym (ends_heard net s w))

    o : differ (function_of (wire_at net w) (ends (heard_of net s w))) (wire_value net s w)
        ≡ differ (function_of (wire_at net w) (ends (heard_of net s w))) (flipped (function_of (wire_at net w) (starts (heard_of net s w))) (s.made w))
    o = ap (λ (b : Bool). differ (function_of (wire_at net w) (ends (heard_of net s w))) (flipped b (s.made w))) (start_heard net lower s w)
