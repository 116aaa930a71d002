-- Both theorems of one gate that hears, for any Boolean function and any transient of its pins that have what is needed.
use Rattle.std.proofs.Common.{◌≡◌, ℕ, zero, suc, ◌<◌, ◌≤◌, Bool, cond, List, sym, refl, ap, subst, inl, inr, arith}
use Rattle.std.proofs.lemmas.Bool.{cases_lt}
use Rattle.algebras.specs.Transient.{Transient, flipped}
use Rattle.algebras.specs.Sums.{starts, ends, total_changes, FollowsFunction}
use Rattle.algebras.specs.Letters.{differ}
use Rattle.algebras.specs.Hearing.{hears, changes_at, answered, HeardTo}
use Rattle.algebras.specs.Hearing.HeardTo.{rests, arrives, loses}
use Rattle.algebras.specs.SumsLemmas.{flipped_parity}
use Rattle.algebras.proofs.Prefixes.{Prefixes, prefixes_self, rest_prefixes, hears_prefixes, prefixes_hear, changes_at_hears, prefixes_at, prefixes_join, prefixes_rest, rest_same, hears_total}

-- A change that can be heard last: at this pin, after what was heard before.
pub record LastChange (hs : List Transient) : Type 0 where
  pub pin : ℕ
  pub before : List Transient
  pub hearing : hears pin before ≡ hs
  pub allowed : changes_at before pin < changes_at hs pin

-- One that adds at most one to F.
pub record HeardLast (F : List Transient → ℕ) (hs : List Transient) : Type 0 where
  pub last : LastChange hs
  pub falls : F hs ≤ suc (F last.before)

-- What is needed of a Boolean function and a transient of pins: the transient follows the function, its changes grow with what
-- the pins have heard, are at most all changes heard, and where some were heard one of them adds at most one.
pub record LongestFor (f : List Bool → Bool) (G : List Transient → Transient) : Type 0 where
  pub follows : FollowsFunction G f
  pub grows : {hs xs : List Transient} → Prefixes hs xs → (G hs).changes ≤ (G xs).changes
  pub within : (hs : List Transient) → (G hs).changes ≤ total_changes hs
  pub heard_last : (hs : List Transient) → 1 ≤ total_changes hs → HeardLast (λ ts. (G ts).changes) hs

-- If n flips give the value, an output that made m ≤ n changes has made no more than n once it has answered.
pub answer_within : (b v : Bool) (m n : ℕ) → flipped b n ≡ v → m ≤ n → cond (differ v (flipped b m)) (suc m) m ≤ n
answer_within b v m n e l = grind arith

-- If n flips give the value and m is n or one less, an output that made m changes has made n once it has answered.
pub answer_exact : (b v : Bool) (m n : ℕ) → flipped b n ≡ v → m ≤ n → n ≤ suc m → cond (differ v (flipped b m)) (suc m) m ≡ n
answer_exact b v m n e l u = let p = flipped_parity b m in let q = flipped_parity b n in grind arith

module _ {f : List Bool → Bool} {G : List Transient → Transient} (r : LongestFor f G) where
  -- An output that has made no more changes than the transient of what was heard still has made no more once it has answered
  -- what is heard now.
  pub answer_kept : {hs xs : List Transient} → Prefixes hs xs → (made : ℕ) → made ≤ (G hs).changes → answered f xs made ≤ (G xs).changes
  answer_kept {hs} {xs} p made l =
      let g = r.grows p in
      let e : flipped (f (starts xs)) (G xs).changes ≡ f (ends xs) = rw (← r.follows.at_start xs) (r.follows.at_end xs) in
      answer_within (f (starts xs)) (f (ends xs)) made (G xs).changes e (omega arith)

  -- Where the last change adds at most one, an output that made all changes before it makes all once it has answered.
  pub answer_reaches : {hs xs : List Transient} → Prefixes hs xs → (G xs).changes ≤ suc (G hs).changes → answered f xs (G hs).changes ≡ (G xs).changes
  answer_reaches {hs} {xs} p l =
      let e : flipped (f (starts xs)) (G xs).changes ≡ f (ends xs) = rw (← r.follows.at_start xs) (r.follows.at_end xs) in
      answer_exact (f (starts xs)) (f (ends xs)) (G hs).changes (G xs).changes e (r.grows p) l

-- What a gate comes to from rest: prefixes heard, and no more changes made than their transient has.
pub record Within (G : List Transient → Transient) (xs hs : List Transient) (made : ℕ) : Type 0 where
  pub heard : Prefixes hs xs
  pub few : made ≤ (G hs).changes

-- Whatever arrives and is lost, the output makes no more changes than the transient of what was heard.
pub heard_within : {f : List Bool → Bool} {G : List Transient → Transient} → LongestFor f G → {xs hs : List Transient} {made lost : ℕ}
    → HeardTo f xs hs made lost → Within G xs hs made
heard_within r {xs} rests = record { heard = rest_prefixes xs; few = omega arith }
heard_within r (arrives {hs} {made} i h l) =
    let w = heard_within r h in
    record { heard = prefixes_hear i w.heard l; few = answer_kept r (hears_prefixes i hs) made w.few }
heard_within r (loses {hs} i h l) =
    let w = heard_within r h in
    let p = prefixes_hear i w.heard (omega arith) in
    let m = changes_at_hears i hs in
    let g = r.grows (prefixes_join (hears_prefixes i hs) (hears_prefixes i (hears i hs))) in
    record { heard = prefixes_hear i p (omega arith); few = omega arith }

-- Whatever arrives and is lost, the output makes no more changes than its transient has.
pub heard_bounded : {f : List Bool → Bool} {G : List Transient → Transient} → LongestFor f G → {xs hs : List Transient} {made lost : ℕ}
    → HeardTo f xs hs made lost → made ≤ (G xs).changes
heard_bounded r h =
    let w = heard_within r h in
    let g = r.grows w.heard in
    omega arith

-- What is heard and made, by equal ones.
pub same_heard : {f : List Bool → Bool} {xs gs hs : List Transient} {m n lost : ℕ} → gs ≡ hs → m ≡ n → HeardTo f xs gs m lost → HeardTo f xs hs n lost
same_heard {f} {xs} {gs} {hs} {m} {n} {lost} p q h =
    subst (λ k. HeardTo f xs hs k lost) q (subst (λ ts. HeardTo f xs ts m lost) p h)

-- What a gate comes to, it comes to as well where its wires go on to change.
pub heard_wider : {f : List Bool → Bool} {xs ys hs : List Transient} {made lost : ℕ} → Prefixes xs ys → HeardTo f xs hs made lost → HeardTo f ys hs made lost
heard_wider p rests = same_heard (sym (rest_same p)) refl rests
heard_wider p (arrives i h l) = let k = prefixes_at i p in arrives i (heard_wider p h) (omega arith)
heard_wider p (loses i h l) = let k = prefixes_at i p in loses i (heard_wider p h) (omega arith)

module _ {f : List Bool → Bool} {G : List Transient → Transient} (r : LongestFor f G) (xs : List Transient) where
  -- Where no change is heard, all changes are made at rest.
  pub reached_rest : {hs : List Transient} → Prefixes hs xs → total_changes hs ≡ 0 → HeardTo f xs hs (G hs).changes 0
  reached_rest {hs} p z =
      let w = r.within hs in
      let e : 0 ≡ (G hs).changes = omega arith in
      same_heard (sym (prefixes_rest p z)) e rests

  -- Where the last change adds at most one, all changes are made if all were made before it.
  pub reached_next : (i : ℕ) (hs : List Transient) → Prefixes (hears i hs) xs → changes_at hs i < changes_at (hears i hs) i
      → (G (hears i hs)).changes ≤ suc (G hs).changes → HeardTo f xs hs (G hs).changes 0
      → HeardTo f xs (hears i hs) (G (hears i hs)).changes 0
  reached_next i hs p l u h =
      let k = prefixes_at i p in
      same_heard refl (answer_reaches r (hears_prefixes i hs) u) (arrives i h (omega arith))

  -- Any prefixes can be heard in an order that loses nothing and makes all changes of their transient.
  pub heard_reached : (n : ℕ) (hs : List Transient) → Prefixes hs xs → total_changes hs ≤ n → HeardTo f xs hs (G hs).changes 0
  heard_reached zero hs p l = reached_rest p (omega arith)
  heard_reached (suc n) hs p l =
      elim (cases_lt 0 (total_changes hs)) [
        | inl m ↦
            let o = r.heard_last hs m in
            let i = o.last.pin in
            let gs = o.last.before in
            let e = sym o.last.hearing in
            let q = subst (λ ts. Prefixes ts xs) e p in
            let a = subst (λ ts. changes_at gs i < changes_at ts i) e o.last.allowed in
            let u = subst (λ ts. (G ts).changes ≤ suc (G gs).changes) e o.falls in
            let t = hears_total i gs a in
            let s = ap total_changes e in
            let h = heard_reached n gs (prefixes_join (hears_prefixes i gs) q) (omega arith) in
            subst (λ ts. HeardTo f xs ts (G ts).changes 0) o.last.hearing (reached_next i gs q a u h)
        | inr z ↦ reached_rest p (omega arith)
      ]

  -- All changes of all pins can be heard in an order that loses nothing and makes all changes of the transient.
  pub all_reached : HeardTo f xs xs (G xs).changes 0
  all_reached = heard_reached (total_changes xs) xs (prefixes_self xs) (omega arith)
