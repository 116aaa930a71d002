-- The wires of a table, as the code holds them, read as those of a plain net.
use Rattle.std.specs.Prelude.{ℕ, List, take}
use Rattle.nets.specs.declared.wire.Pins.{Pins}
use Rattle.nets.specs.declared.wire.Wire.{Wire}
use Rattle.nets.specs.declared.wire.Wire.TheVariants.{Input, Output}
use Rattle.nets.specs.Wires.{Plain, input, gate}

-- The wires that pins name, from the first on.
abbrev pub pin_list : {n : ℕ} → Pins n → List ℕ
pin_list p = take p.«count» p.wires

-- The plain wire that a wire of the table stands for.
abbrev pub plain : Wire → Plain
plain (Input d) = input d.start d.changes
plain (Output g) = gate g.kind (pin_list g.pins)
