-- The transients of the wires of a plain net.
use Rattle.std.specs.Prelude.{ℕ, List, [], ◌∷◌, ◌++◌, map, get_or, slice_index_or}
use Rattle.algebras.specs.Kinds.{gate_transient}
use Rattle.algebras.specs.Transient.{Transient, driven, zero_word}
use Rattle.nets.specs.Wires.{Plain, input, gate}

-- The transient of a wire, after those of the wires before it.
abbrev pub transient_after : List Transient → Plain → Transient
transient_after ts (input b n) = driven b n
transient_after ts (gate k ps) = gate_transient k (map (λ p. get_or ts p zero_word) ps)

abbrev pub transients_after : List Transient → List Plain → List Transient
transients_after ts [] = ts
transients_after ts (w ∷ ws) = transients_after (ts ++ transient_after ts w ∷ []) ws

-- The transients of a plain net, worked from left to right.
abbrev pub transients : List Plain → List Transient
transients ws = transients_after [] ws

-- The transient of wire w.
abbrev pub transient : List Plain → ℕ → Transient
transient ws w = slice_index_or (transients ws) w zero_word
