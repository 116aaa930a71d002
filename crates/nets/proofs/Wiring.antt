-- The transients of a plain net, wire by wire, and the starts of its wires.
use Rattle.std.proofs.Common.{◌≡◌, ℕ, zero, suc, ◌+◌, ◌<◌, ◌≤◌, Bool, true, false, List, [], ◌∷◌, ◌++◌, map, length, get_or, take, drop, sym, refl, ap, ◌∙◌, subst, inl, inr, arith}
use Rattle.std.proofs.lemmas.List.{append-nil, append_assoc, map_push, length_push, length-take-le, take-append-drop, take_at, drop_more, get_or_append_left, get_or_at, get_or_past, get_or_push, get_or-take}
use Rattle.std.proofs.lemmas.Bool.{cases_eq, cases_lt}
use Rattle.algebras.specs.Kinds.{gate_function, gate_transient}
use Rattle.algebras.specs.Sums.{starts}
use Rattle.algebras.specs.Transient.{Transient, zero_word}
use Rattle.algebras.proofs.EveryKind.{gate_start}
use Rattle.nets.specs.Wires.{Plain, input, gate, wire_at, pins_of, Lower, fits, Fitting}
use Rattle.nets.specs.Transients.{transient_after, transients_after, transients, transient}
use Rattle.nets.specs.Arrivals.{function_of, starts_after, start_of}

-- Wires worked after others.
pub transients_after_append : (ts : List Transient) (us ws : List Plain) → transients_after ts (us ++ ws) ≡ transients_after (transients_after ts us) ws
transients_after_append ts [] ws = refl
transients_after_append ts (u ∷ us) ws = transients_after_append (ts ++ transient_after ts u ∷ []) us ws

-- One wire more at the end is worked from the transients of the others.
pub transients_push : (ws : List Plain) (w : Plain) → transients (ws ++ w ∷ []) ≡ transients ws ++ transient_after (transients ws) w ∷ []
transients_push ws w = transients_after_append [] ws (w ∷ [])

-- The transients of wires stand after those that were there.
pub transients_after_more : (ts : List Transient) (ws : List Plain) → (more : List Transient) × (transients_after ts ws ≡ ts ++ more)
transients_after_more ts [] = ([], sym (append-nil ts))
transients_after_more ts (w ∷ ws) =
    let t = transient_after ts w in
    let (more, e) = transients_after_more (ts ++ t ∷ []) ws in
    (t ∷ more, e ∙ append_assoc ts (t ∷ []) more)

-- One transient more for each wire.
pub length_transients_after : (ts : List Transient) (ws : List Plain) → length (transients_after ts ws) ≡ length ts + length ws
length_transients_after ts [] = omega arith
length_transients_after ts (w ∷ ws) =
    let t = transient_after ts w in
    let e = length_transients_after (ts ++ t ∷ []) ws in
    let p = length_push ts t in
    omega arith

-- A net has as many transients as wires.
pub length_transients : (ws : List Plain) → length (transients ws) ≡ length ws
length_transients ws = let e = length_transients_after [] ws in omega arith

-- The transients of the first wires are worked from those wires alone.
pub take_transients : (n : ℕ) (net : List Plain) → n ≤ length net → take n (transients net) ≡ transients (take n net)
take_transients n net l =
    let us = take n net in
    let (more, e) = transients_after_more (transients us) (drop n net) in
    let s : transients net ≡ transients us ++ more =
    ap transients (sym (take-append-drop n net)) ∙ transients_after_append [] us (drop n net) ∙ e in
    let k : length (transients us) ≡ n = length_transients us ∙ length-take-le n net l in
    ap (take n) s ∙ take_at (transients us) more n k

-- The transient of a standing wire is worked from the transients before it.
pub transient_standing : (net : List Plain) (w : ℕ) (d : Plain) → w < length net
    → transient net w ≡ transient_after (take w (transients net)) (get_or net w d)
transient_standing net w d l =
    let us = take w net in
    let u = get_or net w d in
    let t = transient_after (transients us) u in
    let (more, e) = transients_after_more (transients us ++ t ∷ []) (drop (w + 1) net) in
    let p : net ≡ us ++ u ∷ drop (w + 1) net = sym (take-append-drop w net) ∙ ap (λ (vs : List Plain). us ++ vs) (drop_more net w d l) in
    let s : transients net ≡ transients us ++ t ∷ more =
    ap transients p ∙ transients_after_append [] us (u ∷ drop (w + 1) net) ∙ e ∙ append_assoc (transients us) (t ∷ []) more in
    let k : length (transients us) ≡ w = length_transients us ∙ length-take-le w net (omega arith) in
    let q : transient net w ≡ t = ap (λ (ts : List Transient). get_or ts w zero_word) s ∙ get_or_at (transients us) t more zero_word w k in
    q ∙ ap (λ (ts : List Transient). transient_after ts u) (sym (take_transients w net (omega arith)))

-- Functions that agree below w agree on pins that name wires below w.
pub map_lower : {X : Type 0} (f g : ℕ → X) (ps : List ℕ) (w : ℕ) → ((i : ℕ) → i < length ps → get_or ps i 0 < w)
    → ((p : ℕ) → p < w → f p ≡ g p) → map f ps ≡ map g ps
map_lower f g [] w l e = refl
map_lower {X} f g (p ∷ ps) w l e =
    let h : f p ≡ g p = e p (l 0 (omega arith)) in
    let t : map f ps ≡ map g ps = map_lower f g ps w (λ i m. l (suc i) (omega arith)) e in
    cc

-- A wire whose pins name lower wires is worked from the transients below it.
pub transient_after_lower : (ts : List Transient) (w : ℕ) (p : Plain) → ((i : ℕ) → i < length (pins_of p) → get_or (pins_of p) i 0 < w)
    → transient_after (take w ts) p ≡ transient_after ts p
transient_after_lower ts w (input b n) l = refl
transient_after_lower ts w (gate k ps) l =
    ap (gate_transient k) (map_lower (λ p. get_or (take w ts) p zero_word) (λ p. get_or ts p zero_word) ps w l (λ p m. get_or-take w ts p zero_word m))

-- In a net whose pins name lower wires each transient is worked from those of the whole net.
pub transient_lower : (net : List Plain) → Lower net → (w : ℕ) → transient net w ≡ transient_after (transients net) (wire_at net w)
transient_lower net lower w =
    elim (cases_lt w (length net)) [
      | inl l ↦
          transient_standing net w (input false 0) l ∙ transient_after_lower (transients net) w (wire_at net w) (lower w)
      | inr m ↦
          let n = length_transients net in
          let e = get_or_past net w (input false 0) m in
          get_or_past (transients net) w zero_word (omega arith) ∙ ap (transient_after (transients net)) (sym e)
    ]

-- The start at a place of transients.
pub get_or_starts : (ts : List Transient) (p : ℕ) → get_or (starts ts) p false ≡ (get_or ts p zero_word).start
get_or_starts [] p = refl
get_or_starts (t ∷ ts) zero = refl
get_or_starts (t ∷ ts) (suc p) = get_or_starts ts p

-- The starts of several transients, by their places.
pub starts_places : (ts : List Transient) (ps : List ℕ) → map (λ p. get_or (starts ts) p false) ps ≡ starts (map (λ p. get_or ts p zero_word) ps)
starts_places ts [] = refl
starts_places ts (p ∷ ps) = let h = get_or_starts ts p in let t = starts_places ts ps in cc

-- A wire's start, from the starts of its pins, is that of its transient.
pub value_start : (ts : List Transient) (p : Plain) → function_of p (map (λ q. get_or (starts ts) q false) (pins_of p)) ≡ (transient_after ts p).start
value_start ts (input b n) = refl
value_start ts (gate k ps) =
    ap (gate_function k) (starts_places ts ps) ∙ sym (gate_start k (map (λ p. get_or ts p zero_word) ps))

-- The starts of wires are those of their transients.
pub starts_after_transients : (ts : List Transient) (ws : List Plain) → starts_after (starts ts) ws ≡ starts (transients_after ts ws)
starts_after_transients ts [] = refl
starts_after_transients ts (w ∷ ws) =
    let t = transient_after ts w in
    let e : starts ts ++ function_of w (map (λ q. get_or (starts ts) q false) (pins_of w)) ∷ [] ≡ starts (ts ++ t ∷ []) =
    ap (λ (b : Bool). starts ts ++ b ∷ []) (value_start ts w) ∙ sym (map_push (λ (x : Transient). x.start) ts t) in
    ap (λ (bs : List Bool). starts_after bs ws) e ∙ starts_after_transients (ts ++ t ∷ []) ws

-- The start of a wire is that of its transient.
pub start_of_transient : (net : List Plain) (w : ℕ) → start_of net w ≡ (transient net w).start
start_of_transient net w =
    ap (λ (bs : List Bool). get_or bs w false) (starts_after_transients [] net) ∙ get_or_starts (transients net) w

-- In a net without wires pins name lower wires.
pub lower_none : Lower []
lower_none w i l = absurd (omega arith)

-- A net stays one whose gates have as many pins as their kinds allow where one wire more does.
pub fitting_push : (net : List Plain) (p : Plain) → Fitting net → fits p ≡ true → Fitting (net ++ p ∷ [])
fitting_push net p fitting ok w =
    elim (cases_lt w (length net)) [
      | inl m ↦ ap fits (get_or_append_left net (p ∷ []) (input false 0) w m) ∙ fitting w
      | inr m ↦ elim (cases_eq (length net) w) [
        | inl e ↦ ap fits (get_or_push net p (input false 0) w e) ∙ ok
        | inr d ↦
            let n = length_push net p in
            ap fits (get_or_past (net ++ p ∷ []) w (input false 0) (omega arith))
      ]
    ]

-- A net stays one whose pins name lower wires where the pins of one wire more name standing wires.
pub lower_push : (net : List Plain) (p : Plain) → Lower net → ((i : ℕ) → i < length (pins_of p) → get_or (pins_of p) i 0 < length net)
    → Lower (net ++ p ∷ [])
lower_push net p lower l w i k =
    elim (cases_lt w (length net)) [
      | inl m ↦
          let e = get_or_append_left net (p ∷ []) (input false 0) w m in
          subst (λ (q : Plain). i < length (pins_of q) → get_or (pins_of q) i 0 < w) (sym e) (lower w i) k
      | inr m ↦ elim (cases_eq (length net) w) [
        | inl e ↦
            let h : i < length (pins_of p) → get_or (pins_of p) i 0 < w = λ b. (let c = l i b in omega arith) in
            subst (λ (q : Plain). i < length (pins_of q) → get_or (pins_of q) i 0 < w) (sym (get_or_push net p (input false 0) w e)) h k
        | inr d ↦
            let n = length_push net p in
            let z = ap (λ (q : Plain). length (pins_of q)) (get_or_past (net ++ p ∷ []) w (input false 0) (omega arith)) in
            absurd (omega arith)
      ]
    ]
