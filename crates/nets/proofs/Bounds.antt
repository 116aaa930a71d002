-- No order gives a wire more changes than its transient has.
use Rattle.std.proofs.Common.{ℕ, zero, suc, ◌<◌, ◌≤◌, List, [], ◌∷◌, sym, refl, ap, subst, inl, inr, arith}
use Rattle.std.proofs.lemmas.Bool.{cases_eq}
use Rattle.algebras.specs.Transient.{Transient}
use Rattle.algebras.proofs.Prefixes.{Prefixes}
use Rattle.nets.specs.Wires.{Plain, wire_at, Lower}
use Rattle.nets.specs.Transients.{transient}
use Rattle.nets.specs.Arrivals.{drive_of, pin_count, pin_wire, State, rest, makes, hears, answers, Step, moves, arrives, loses, Allowed, after, AllowedAll, after_all, Order, ending}
use Rattle.nets.proofs.Wiring.{start_of_transient}
use Rattle.nets.proofs.Heard.{heard_at, heard_of, transient_for, for_grows, for_drive, for_answer, prefixes_places, transient_pins, makes_same, makes_other, makes_grows, hears_same, hears_other, hears_other_pin, hears_grows, answers_heard, answers_heard_of, answers_other, answers_grows, answers_same}

-- What every order keeps: no pin has heard more than its wire has made, and no wire has made more than what its pins have
-- heard allows.
pub record Within (net : List Plain) (s : State) : Type 0 where
  pub heard_few : (w i : ℕ) → s.heard w i ≤ s.made (pin_wire net w i)
  pub made_few : (w : ℕ) → s.made w ≤ (transient_for (wire_at net w) (heard_of net s w)).changes

-- Pins that have heard no less have heard longer prefixes.
pub heard_grows : (net : List Plain) (s t : State) (w : ℕ) → ((i : ℕ) → s.heard w i ≤ t.heard w i) → Prefixes (heard_of net s w) (heard_of net t w)
heard_grows net s t w l = prefixes_places (heard_at net s w) (heard_at net t w) 0 (pin_count net w) (λ i m. refl) (λ i m. l i)

-- At rest nothing is too much.
pub within_rest : (net : List Plain) → Within net rest
within_rest net = record { heard_few = λ w i. omega arith; made_few = λ w. omega arith }

-- An input that moves stays within its drive.
pub within_makes : (net : List Plain) (w : ℕ) (s : State) → s.made w < drive_of (wire_at net w) → Within net s → Within net (makes w s)
within_makes net w s l k = record {
  heard_few = λ v i. (let m = k.heard_few v i in let n = makes_grows w s (pin_wire net v i) in omega arith);
  made_few = few;
}
  where
    few : (v : ℕ) → (makes w s).made v ≤ (transient_for (wire_at net v) (heard_of net s v)).changes
    few v = elim (cases_eq v w) [
      | inl e ↦
          let m : (makes w s).made w ≤ (transient_for (wire_at net w) (heard_of net s w)).changes =
          (let a = makes_same w s in let d = for_drive (wire_at net w) (heard_of net s w) in omega arith) in
          subst (λ u. (makes w s).made u ≤ (transient_for (wire_at net u) (heard_of net s u)).changes) (sym e) m
      | inr d ↦ let a = makes_other w s v d in let m = k.made_few v in omega arith
    ]

-- A pin behind its wire that hears a change is not ahead of it.
pub hears_few : (net : List Plain) (w i : ℕ) (s : State) → ((v j : ℕ) → s.heard v j ≤ s.made (pin_wire net v j))
    → s.heard w i < s.made (pin_wire net w i) → (v j : ℕ) → (hears w i s).heard v j ≤ s.made (pin_wire net v j)
hears_few net w i s k l v j =
    elim (cases_eq v w) [
      | inl e ↦ elim (cases_eq j i) [
        | inl q ↦
            let m : (hears w i s).heard w i ≤ s.made (pin_wire net w i) = (let a = hears_same w i s in omega arith) in
            subst (λ u. (hears w i s).heard u j ≤ s.made (pin_wire net u j)) (sym e)
            (subst (λ u. (hears w i s).heard w u ≤ s.made (pin_wire net w u)) (sym q) m)
        | inr d ↦ let a = hears_other_pin w i s v j d in let m = k v j in omega arith
      ]
      | inr d ↦ let a = hears_other w i s v j d in let m = k v j in omega arith
    ]

-- What wires have made stays within what their pins have heard, where these hear more.
pub hears_made : (net : List Plain) (w i : ℕ) (s : State) → ((v : ℕ) → s.made v ≤ (transient_for (wire_at net v) (heard_of net s v)).changes)
    → (v : ℕ) → s.made v ≤ (transient_for (wire_at net v) (heard_of net (hears w i s) v)).changes
hears_made net w i s k v =
    let m = k v in
    let g = for_grows (wire_at net v) (heard_grows net s (hears w i s) v (hears_grows w i s v)) in
    omega arith

-- A gate that answers has made no more than what its pins have heard allows.
pub answers_few : (net : List Plain) → Lower net → (w i : ℕ) (s : State) → 0 < pin_count net w
    → ((v : ℕ) → s.made v ≤ (transient_for (wire_at net v) (heard_of net s v)).changes)
    → (v : ℕ) → (answers net w (hears w i s)).made v ≤ (transient_for (wire_at net v) (heard_of net (hears w i s) v)).changes
answers_few net lower w i s p k v =
    let t = hears w i s in
    elim (cases_eq v w) [
      | inl e ↦
          let a = answers_same net lower w t in
          let b = for_answer (wire_at net w) p (heard_grows net s t w (hears_grows w i s w)) (s.made w) (k w) in
          let m : (answers net w t).made w ≤ (transient_for (wire_at net w) (heard_of net t w)).changes = omega arith in
          subst (λ u. (answers net w t).made u ≤ (transient_for (wire_at net u) (heard_of net t u)).changes) (sym e) m
      | inr d ↦
          let a = answers_other net w t v d in
          let m = hears_made net w i s k v in
          omega arith
    ]

-- A gate that answers keeps this.
pub within_arrives : (net : List Plain) → Lower net → (w i : ℕ) (s : State) → 0 < pin_count net w
    → s.heard w i < s.made (pin_wire net w i) → Within net s → Within net (answers net w (hears w i s))
within_arrives net lower w i s p l k =
    let t = hears w i s in
    record {
      heard_few = λ v j.
          (let a = ap (λ (h : ℕ → ℕ → ℕ). h v j) (answers_heard net w t) in
          let f = hears_few net w i s k.heard_few l v j in
          let g = answers_grows net w t (pin_wire net v j) in
          omega arith);
      made_few = λ v.
          subst (λ (hs : List Transient). (answers net w t).made v ≤ (transient_for (wire_at net v) hs).changes)
          (sym (answers_heard_of net w t v)) (answers_few net lower w i s p k.made_few v);
    }

-- Every step that is allowed keeps this.
pub within_after : (net : List Plain) → Lower net → (s : State) (x : Step) → Allowed net s x → Within net s → Within net (after net s x)
within_after net lower s (moves w) l k = within_makes net w s l k
within_after net lower s (arrives w i) (p, l) k = within_arrives net lower w i s (omega arith) l k
within_after net lower s (loses w i) (p, l) k =
    let f = hears_few net w i s k.heard_few (omega arith) in
    record {
      heard_few = λ v j. (let a = hears_same w i s in hears_few net w i (hears w i s) f (omega arith) v j);
      made_few = hears_made net w i (hears w i s) (hears_made net w i s k.made_few);
    }

-- So do several steps, each allowed where it comes.
pub within_all : (net : List Plain) → Lower net → (s : State) (xs : List Step) → AllowedAll net s xs → Within net s → Within net (after_all net s xs)
within_all net lower s [] a k = k
within_all net lower s (x ∷ xs) a k = within_all net lower (after net s x) xs a.1 (within_after net lower s x a.0 k)

-- Wires below b have made no more changes than their transients have.
pub within_below : (net : List Plain) → Lower net → (s : State) → Within net s → (b w : ℕ) → w < b → s.made w ≤ (transient net w).changes
within_below net lower s k zero w l = absurd (omega arith)
within_below net lower s k (suc b) w l =
    let f = prefixes_places (heard_at net s w) (λ i. transient net (pin_wire net w i)) 0 (pin_count net w)
    (λ i m. start_of_transient net (pin_wire net w i))
    (λ i m.
    (let p = lower w i (omega arith) in
    let h = k.heard_few w i in
    let u = within_below net lower s k b (pin_wire net w i) (omega arith) in
    omega arith)) in
    let g = for_grows (wire_at net w) f in
    let m = k.made_few w in
    let e = ap (λ (t : Transient). t.changes) (transient_pins net lower w) in
    omega arith

-- No order gives a wire more changes than its transient has.
pub order_within : (net : List Plain) → Lower net → (steps : List Step) → Order net steps → (w : ℕ) → (ending net steps).made w ≤ (transient net w).changes
order_within net lower steps a w =
    within_below net lower (ending net steps) (within_all net lower rest steps a (within_rest net)) (suc w) w (omega arith)
