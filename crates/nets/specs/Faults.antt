-- The refusals of a net, by number, the names of layers, and the first of several checks that refuses.
use Rattle.std.specs.Prelude.{ℕ, Bool, cond, List, [], ◌∷◌, Some, None, codes, Ok, Err, Option, Result}
use Rattle.nets.specs.declared.fault.Layer.{Layer}
use Rattle.nets.specs.declared.fault.Layer.TheVariants.{Input, Record, Algebra, Net}
use Rattle.nets.specs.declared.fault.NetFault.{NetFault}
use Rattle.nets.specs.declared.fault.NetFault.TheVariants.{NoSuchWire, BadStart, Full, ShortColumn, BadKind, BadPinCount, HighPin, ShortBuffer}

abbrev pub net_fault_number : NetFault → ℕ
net_fault_number NoSuchWire = 2
net_fault_number BadStart = 4
net_fault_number Full = 5
net_fault_number ShortColumn = 6
net_fault_number BadKind = 7
net_fault_number BadPinCount = 8
net_fault_number HighPin = 9
net_fault_number ShortBuffer = 14

-- The name of each layer.
abbrev pub layer_name : Layer → List ℕ
layer_name Input = codes "input"
layer_name Record = codes "record"
layer_name Algebra = codes "algebra"
layer_name Net = codes "net"

-- A check: whether it refuses, and with which fault.
pub record Check : Type 0 where
  pub refuses : Bool
  pub fault : NetFault

-- The fault of the first check, in their order, that refuses.
abbrev pub first_fault : List Check → Option NetFault
first_fault [] = None
first_fault (c ∷ cs) = cond c.refuses (Some c.fault) (first_fault cs)

-- A value, where no check refuses.
abbrev pub unless : {X Y : Type 0} → Option Y → X → Result X Y
unless None x = Ok x
unless (Some f) x = Err f

-- What stands after a call: the new where no check refuses, else the old.
abbrev pub settled : {X Y : Type 0} → Option Y → X → X → X
settled None new old = new
settled (Some f) new old = old
