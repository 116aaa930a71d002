-- One gate that hears: changes arrive at its pins in any order, pulses are lost, and its output changes when its function says so.
use Rattle.std.specs.Prelude.{ℕ, zero, suc, ◌<◌, ◌≤◌, Bool, cond, List, [], ◌∷◌, map, slice_index}
use Rattle.algebras.specs.declared.kind.Kind.{Kind}
use Rattle.algebras.specs.Transient.{Transient, flipped}
use Rattle.algebras.specs.Sums.{starts, ends, FollowsFunction}
use Rattle.algebras.specs.Letters.{differ}
use Rattle.algebras.specs.Kinds.{gate_function, gate_transient}

-- What a pin has heard is a transient: its wire's start, with as many changes as it heard. Its end is the pin's value.
-- At rest a pin has heard no change.
abbrev pub at_rest : Transient → Transient
at_rest x = record { start = x.start; changes = 0 }

-- One change more.
abbrev pub longer : Transient → Transient
longer h = record { start = h.start; changes = suc h.changes }

-- Pin i hears one change more.
abbrev pub hears : ℕ → List Transient → List Transient
hears i [] = []
hears zero (h ∷ hs) = longer h ∷ hs
hears (suc i) (h ∷ hs) = h ∷ hears i hs

-- The changes at pin i, which are 0 where there is no such pin.
abbrev pub changes_at : List Transient → ℕ → ℕ
changes_at hs i = slice_index (map (λ h. h.changes) hs) i

-- The output's value: the function of the pins' starts, flipped once for each change made.
abbrev pub output_value : (List Bool → Bool) → List Transient → ℕ → Bool
output_value f hs made = flipped (f (starts hs)) made

-- The changes made once the output has answered the pins: one more where the function of their values differs from its own.
abbrev pub answered : (List Bool → Bool) → List Transient → ℕ → ℕ
answered f hs made = cond (differ (f (ends hs)) (output_value f hs made)) (suc made) made

-- What a gate with function f, whose pins stand on wires with the transients xs, can come to from rest:
-- what each pin has heard, how many changes the output has made, and how many pulses were lost.
-- A change arrives at a pin that is behind its wire; a pulse, two changes at once, is lost at a pin that is two behind.
pub data HeardTo (f : List Bool → Bool) (xs : List Transient) : List Transient → ℕ → ℕ → Type 0 where
  rests : HeardTo f xs (map at_rest xs) 0 0
  arrives : {hs : List Transient} {made lost : ℕ} (i : ℕ) → HeardTo f xs hs made lost → changes_at hs i < changes_at xs i
      → HeardTo f xs (hears i hs) (answered f (hears i hs) made) lost
  loses : {hs : List Transient} {made lost : ℕ} (i : ℕ) → HeardTo f xs hs made lost → suc (suc (changes_at hs i)) ≤ changes_at xs i
      → HeardTo f xs (hears i (hears i hs)) made (suc lost)

-- The transient of a gate is the longest word that its output can put out.
pub record LongestWordOfAGate : Type 0 where
  -- It starts and ends as the gate's function says.
  pub follows : (k : Kind) → FollowsFunction (gate_transient k) (gate_function k)
  -- Whatever arrives and is lost, in whatever order, the output makes no more changes.
  pub bounded : (k : Kind) (xs hs : List Transient) (made lost : ℕ) → HeardTo (gate_function k) xs hs made lost
      → made ≤ (gate_transient k xs).changes
  -- In some order that loses nothing, every pin hears everything and the output makes exactly as many.
  pub reached : (k : Kind) (xs : List Transient) → HeardTo (gate_function k) xs xs (gate_transient k xs).changes 0
