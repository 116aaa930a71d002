-- Pins that name wires too high.
use Rattle.std.proofs.Common.{◌≡◌, ℕ, zero, suc, ◌<◌, ◌≤◌, Bool, true, false, cond, not, ◌||◌, eqb, leb, List, [], ◌∷◌, map, length, drop, is_some, Some, None, Option, unwrap_or, refl, ap, ◌∙◌, arith}
use Rattle.std.proofs.lemmas.List.{at_drop_all}
use Rattle.std.proofs.lemmas.Bool.{leb-true, leb-false, eqb-true, and_parts, or_parts}
use Rattle.std.specs.List.{list_any}
use Rattle.algebras.specs.declared.kind.Kind.{Kind}
use Rattle.algebras.specs.declared.kind.Kind.TheVariants.{Buffer, Inverter, And, Or, Xor, Nand, Nor, Xnor}
use Rattle.algebras.specs.Kinds.{pins_allowed, several}
use Rattle.algebras.specs.Letters.{or_of}
use Rattle.nets.specs.declared.fault.NetFault.TheVariants.{BadKind, BadPinCount, HighPin}
use Rattle.nets.specs.Placing.{count_allowed}
use Rattle.nets.specs.Wires.{gate, Below, Within}

-- Whether some value passes a test, as one word or as the OR of what the test answers.
pub any_or : {X : Type 0} (p : X → Bool) (xs : List X) → list_any p xs ≡ or_of (map p xs)
any_or p [] = refl
any_or p (x ∷ xs) = ap (λ (b : Bool). p x || b) (any_or p xs)

-- Whether a pin from the i-th on names wire w or a higher one.
abbrev pub high_from : ℕ → List ℕ → ℕ → Bool
high_from w ps i = or_of (map (leb w) (drop i ps))

-- No pin is left.
pub high_none : (w : ℕ) (ps : List ℕ) (i : ℕ) → length ps ≤ i → high_from w ps i ≡ false
high_none w ps i past = at_drop_all (λ (qs : List ℕ). or_of (map (leb w) qs)) ps i past

-- Where no pin is too high, all are below.
pub none_high : (w : ℕ) (ps : List ℕ) → or_of (map (leb w) ps) ≡ false → Below w ps
none_high w [] e k within = absurd (omega arith)
none_high w (p ∷ ps) e zero within = leb-false w p (or_parts (leb w p) (or_of (map (leb w) ps)) e).0
none_high w (p ∷ ps) e (suc k) within = none_high w ps (or_parts (leb w p) (or_of (map (leb w) ps)) e).1 k (omega arith)

-- A gate has one pin at least, and eight at most.
pub one_allowed : (n : ℕ) → eqb n 1 ≡ true → (0 < n) × (n ≤ 8)
one_allowed n e = let h = eqb-true n 1 e in (omega arith, omega arith)

pub several_allowed : (n : ℕ) → several n ≡ true → (0 < n) × (n ≤ 8)
several_allowed n e =
    let p = and_parts (leb 2 n) (leb n 8) e in
    let l = leb-true 2 n p.0 in
    let h = leb-true n 8 p.1 in
    (omega arith, omega arith)

pub allowed : (k : Kind) (n : ℕ) → pins_allowed k n ≡ true → (0 < n) × (n ≤ 8)
allowed Buffer n e = one_allowed n e
allowed Inverter n e = one_allowed n e
allowed And n e = several_allowed n e
allowed Or n e = several_allowed n e
allowed Xor n e = several_allowed n e
allowed Nand n e = several_allowed n e
allowed Nor n e = several_allowed n e
allowed Xnor n e = several_allowed n e

-- The checks of a gate, for the kind that its number gives.
pub gate_passes : (o : Option Kind) (k : Kind) (w : ℕ) (ps qs : List ℕ) → o ≡ Some k → pins_allowed k (length ps) ≡ true → or_of (map (leb w) ps) ≡ false → qs ≡ ps
    → (cond (not (is_some o)) (Some BadKind) (cond (not (count_allowed o (length ps))) (Some BadPinCount) (cond (or_of (map (leb w) ps)) (Some HighPin) None)) ≡ None)
    × (gate k qs ≡ gate (unwrap_or o Buffer) ps) × Within w (gate k qs) × (pins_allowed k (length qs) ≡ true)
gate_passes o k w ps qs kind_is few low pins_are =
    let a = ap is_some kind_is in
    let b = ap (λ p. count_allowed p (length ps)) kind_is ∙ few in
    let v = ap (λ p. unwrap_or p Buffer) kind_is in
    (passes a b low, (cc), (rw pins_are (allowed k (length ps) few).0, rw pins_are (none_high w ps low)), rw pins_are few)
  where
    passes : {x y z : Bool} → x ≡ true → y ≡ true → z ≡ false → cond (not x) (Some BadKind) (cond (not y) (Some BadPinCount) (cond z (Some HighPin) None)) ≡ None
    passes {x} {y} {z} p q r = rw (p, q, r)

-- A gate of a kind that allows so many pins, one of which is too high, is refused for that pin.
pub gate_high : (o : Option Kind) (k : Kind) (w : ℕ) (ps : List ℕ) → o ≡ Some k → pins_allowed k (length ps) ≡ true → or_of (map (leb w) ps) ≡ true
    → cond (not (is_some o)) (Some BadKind) (cond (not (count_allowed o (length ps))) (Some BadPinCount) (cond (or_of (map (leb w) ps)) (Some HighPin) None)) ≡ Some HighPin
gate_high o k w ps kind_is few high = rw (kind_is, few, high)
