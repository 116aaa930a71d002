-- The plain net: a list of inputs with drives and gates with kind and pins.
use Rattle.std.specs.Prelude.{◌≡◌, ℕ, ◌<◌, Bool, true, false, List, [], length, slice_index, slice_index_or}
use Rattle.algebras.specs.declared.kind.Kind.{Kind}
use Rattle.algebras.specs.Kinds.{pins_allowed}

-- A wire of the plain net: an input with its start and changes, or the output of a gate with its kind and pins.
pub data Plain : Type 0 where
  input : Bool → ℕ → Plain
  gate : Kind → List ℕ → Plain

-- Pins that all name wires below n.
abbrev pub Below : ℕ → List ℕ → Type 0
Below n ps = (k : ℕ) → k < length ps → slice_index ps k < n

-- A wire whose pins, if it is a gate, all name wires below n; a gate has a pin at least.
abbrev pub Within : ℕ → Plain → Type 0
Within n (input b c) = Unit {0}
Within n (gate k ps) = (0 < length ps) × Below n ps

-- Wire w of a net; where there is none, an input that has no changes to make.
abbrev pub wire_at : List Plain → ℕ → Plain
wire_at net w = slice_index_or net w (input false 0)

-- The wires that the pins of a gate name, from its first pin on; an input has no pins.
abbrev pub pins_of : Plain → List ℕ
pins_of (input b n) = []
pins_of (gate k ps) = ps

-- Pins name lower wires: there is no feedback.
abbrev pub Lower : List Plain → Type 0
Lower net = (w k : ℕ) → k < length (pins_of (wire_at net w)) → slice_index (pins_of (wire_at net w)) k < w

-- Whether a wire, if it is a gate, has as many pins as its kind allows.
abbrev pub fits : Plain → Bool
fits (input b n) = true
fits (gate k ps) = pins_allowed k (length ps)

-- Every gate has as many pins as its kind allows.
abbrev pub Fitting : List Plain → Type 0
Fitting net = (w : ℕ) → fits (wire_at net w) ≡ true
