-- The kinds of gate: their numbers, how many pins they have, their Boolean functions and their transients.
use Rattle.std.specs.Prelude.{ℕ, Bool, false, cond, not, ◌&&◌, List, [], ◌∷◌, Some, None, Option, ◌==◌, nat_le, slice_index_or}
use Rattle.algebras.specs.declared.kind.Kind.{Kind}
use Rattle.algebras.specs.declared.kind.Kind.TheVariants.{Buffer, Inverter, And, Or, Xor, Nand, Nor, Xnor}
use Rattle.algebras.specs.Transient.{Transient, complement, zero_word}
use Rattle.algebras.specs.Sums.{sum, product, exclusive}
use Rattle.algebras.specs.Letters.{or_of, and_of, xor_of}

abbrev pub kind_number : Kind → ℕ
kind_number Buffer = 1
kind_number Inverter = 2
kind_number And = 3
kind_number Or = 4
kind_number Xor = 5
kind_number Nand = 6
kind_number Nor = 7
kind_number Xnor = 8

abbrev pub all_kinds : List Kind
all_kinds = Buffer ∷ Inverter ∷ And ∷ Or ∷ Xor ∷ Nand ∷ Nor ∷ Xnor ∷ []

abbrev pub numbered : List Kind → ℕ → Option Kind
numbered [] n = None
numbered (k ∷ ks) n = cond (n == kind_number k) (Some k) (numbered ks n)

-- The kind of a number, if there is one.
abbrev pub kind_of : ℕ → Option Kind
kind_of n = numbered all_kinds n

-- Two to eight pins.
abbrev pub several : ℕ → Bool
several n = nat_le 2 n && nat_le n 8

-- How many pins a gate of the kind may have.
abbrev pub pins_allowed : Kind → ℕ → Bool
pins_allowed Buffer n = n == 1
pins_allowed Inverter n = n == 1
pins_allowed And n = several n
pins_allowed Or n = several n
pins_allowed Xor n = several n
pins_allowed Nand n = several n
pins_allowed Nor n = several n
pins_allowed Xnor n = several n

-- The value of a gate's output, from the values of its pins.
abbrev pub gate_function : Kind → List Bool → Bool
gate_function Buffer bs = slice_index_or bs 0 false
gate_function Inverter bs = not (slice_index_or bs 0 false)
gate_function And bs = and_of bs
gate_function Or bs = or_of bs
gate_function Xor bs = xor_of bs
gate_function Nand bs = not (and_of bs)
gate_function Nor bs = not (or_of bs)
gate_function Xnor bs = not (xor_of bs)

-- The transient of a gate, from the transients of its pins.
abbrev pub gate_transient : Kind → List Transient → Transient
gate_transient Buffer ts = slice_index_or ts 0 zero_word
gate_transient Inverter ts = complement (slice_index_or ts 0 zero_word)
gate_transient And ts = product ts
gate_transient Or ts = sum ts
gate_transient Xor ts = exclusive ts
gate_transient Nand ts = complement (product ts)
gate_transient Nor ts = complement (sum ts)
gate_transient Xnor ts = complement (exclusive ts)
