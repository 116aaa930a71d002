-- Netlist records: a byte of kind, then a body whose length the kind fixes; and reading them onto a net.
use Rattle.std.specs.Prelude.{ℕ, zero, suc, ◌+◌, ◌*◌, ◌/◌, ◌%◌, Bool, cond, not, ◌||◌, leb, List, [], ◌∷◌, ◌++◌, map, length, take, drop, is_some, Some, None, Ok, Err, Option, Result, ◌==◌, nat_le, nat_lt, slice_index, slice_set}
use Rattle.algebras.specs.declared.algebra.Algebra.{Ghosts}
use Rattle.algebras.specs.Kinds.{kind_of}
use Rattle.algebras.specs.Letters.{or_of}
use Rattle.nets.specs.declared.fault.NetFault.{NetFault}
use Rattle.nets.specs.declared.fault.Reason.{Reason}
use Rattle.nets.specs.declared.fault.Reason.TheVariants.{UnknownKind, CutShort, Refused}
use Rattle.nets.specs.declared.fault.ReadFault.{ReadFault}
use Rattle.nets.specs.declared.fault.Layer.{Layer}
use Rattle.nets.specs.declared.fault.Layer.TheVariants.{Record, Net}
use Rattle.nets.specs.Faults.{net_fault_number}
use Rattle.nets.specs.Placing.{Request, ask_input, ask_gate, refusal, asked}
use Rattle.nets.specs.Wires.{Plain}
use Rattle.nets.specs.Working.{worked}

-- The number of a reading fault's reason, and the layer that it comes from.
abbrev pub reason_number : Reason → ℕ
reason_number UnknownKind = 11
reason_number CutShort = 12
reason_number (Refused f) = net_fault_number f

abbrev pub reason_layer : Reason → Layer
reason_layer UnknownKind = Record
reason_layer CutShort = Record
reason_layer (Refused f) = Net

-- A reading fault whose place is not known yet, and one at its place.
abbrev pub unplaced : Reason → ReadFault
unplaced r = record { reason = r; offset = 0; wire = 0; pin = 0 }

abbrev pub at_place : Reason → ℕ → ℕ → ℕ → ReadFault
at_place r offset wire pin = record { reason = r; offset = offset; wire = wire; pin = pin }

-- A kind byte is that of an input, or of a gate by its upper half.
abbrev pub is_input : ℕ → Bool
is_input b = b == 1

abbrev pub known : ℕ → Bool
known b = is_input b || is_some (kind_of (b / 16))

-- The length of the body: two bytes for an input; two for each pin, which the lower half counts.
abbrev pub body_size : ℕ → ℕ
body_size b = cond (is_input b) 2 (2 * (b % 16))

-- The pins in a body, each of two bytes, low byte first.
abbrev pub pins_in : List ℕ → List ℕ
pins_in [] = []
pins_in (low ∷ []) = []
pins_in (low ∷ high ∷ bs) = (low + 256 * high) ∷ pins_in bs

-- What a record asks to be placed.
abbrev pub request_in : ℕ → List ℕ → Request
request_in b body = cond (is_input b) (ask_input (slice_index body 0) (slice_index body 1)) (ask_gate (b / 16) (pins_in body))

-- The same, where the bytes after the kind byte go on after the record.
abbrev pub request_at : ℕ → List ℕ → Request
request_at b bs = request_in b (take (body_size b) bs)

-- Why a record cannot be read from a kind byte and the bytes after it.
abbrev pub misread : ℕ → List ℕ → Option Reason
misread b bs = cond (not (known b)) (Some UnknownKind) (cond (nat_lt (length bs) (body_size b)) (Some CutShort) None)

-- The net's refusal, carried as a reason.
abbrev pub carried : Option NetFault → Option Reason
carried None = None
carried (Some f) = Some (Refused f)

-- The first of two reasons that there is.
abbrev pub or_else : {X : Type 0} → Option X → Option X → Option X
or_else None y = y
or_else (Some x) y = Some x

-- Why a record is not placed: it cannot be read, or the net refuses it.
abbrev pub reason_at : List Plain → ℕ → ℕ → List ℕ → Option Reason
reason_at ws long b bs = or_else (misread b bs) (carried (refusal (length ws) long (request_at b bs)))

-- The same for bytes that begin with a record: its length, what it asks for, and why it is not placed.
abbrev pub record_length : List ℕ → ℕ
record_length bytes = suc (body_size (slice_index bytes 0))

abbrev pub request_of : List ℕ → Request
request_of bytes = request_at (slice_index bytes 0) (drop 1 bytes)

abbrev pub reason_of : List Plain → ℕ → List ℕ → Option Reason
reason_of ws long bytes = reason_at ws long (slice_index bytes 0) (drop 1 bytes)

-- The first pin, counted from 0, that names wire n or a higher one.
abbrev pub first_high : ℕ → List ℕ → ℕ
first_high n [] = 0
first_high n (p ∷ ps) = cond (nat_le n p) 0 (suc (first_high n ps))

-- The pins of a request; an input has none.
abbrev pub pins_asked : Request → List ℕ
pins_asked (ask_input start changes) = []
pins_asked (ask_gate kind pins) = pins

-- The pin that a fault names: that one for refusal 9, otherwise 0.
abbrev pub pin_of : Reason → ℕ → Request → ℕ
pin_of r n q = cond (reason_number r == 9) (first_high n (pins_asked q)) 0

-- The first pin, over records and their pins, that names its own wire or a higher one, where the next wire is n; none at or after a
-- record that cannot be read, or once 512 wires stand.
abbrev pub search_high : ℕ → ℕ → List ℕ → Option ℕ
search_high skip n [] = None
search_high (suc skip) n (b ∷ bs) = search_high skip n bs
search_high zero n (b ∷ bs) =
    cond (is_some (misread b bs) || nat_le 512 n) None
    (cond (or_of (map (leb n) (pins_asked (request_at b bs)))) (Some (first_high n (pins_asked (request_at b bs)))) (search_high (body_size b) (suc n) bs))

-- What reading makes of the plain net, and what it answers.
pub record Outcome : Type 0 where
  pub wires : List Plain
  pub answer : Result ℕ ReadFault

-- What comes of a reason to stop, or of going on where there is none.
abbrev pub stopped : {X Y : Type 0} → Option X → (X → Y) → Y → Y
stopped None stop more = more
stopped (Some x) stop more = stop x

-- Reading from a byte on, at an offset, with so many bytes of a body still to pass over and so many records read: record after record
-- is placed on the net as it stands, until one is refused; what was placed before it stays. The column is so long.
abbrev pub reading : ℕ → ℕ → ℕ → ℕ → List Plain → List ℕ → Outcome
reading long at skip count ws [] = record { wires = ws; answer = Ok count }
reading long at (suc skip) count ws (b ∷ bs) = reading long (suc at) skip count ws bs
reading long at zero count ws (b ∷ bs) =
    stopped (reason_at ws long b bs)
    (λ r. record { wires = ws; answer = Err (at_place r at (length ws) (pin_of r (length ws) (request_at b bs))) })
    (reading long (suc at) (body_size b) (suc count) (ws ++ asked (request_at b bs) ∷ []) bs)

-- The column meanwhile: each record that is placed fills its entry.
abbrev pub column_reading : {X G : Type 0} → Ghosts X G → X → ℕ → List Plain → List G → List ℕ → List G
column_reading L a skip ws column [] = column
column_reading L a (suc skip) ws column (b ∷ bs) = column_reading L a skip ws column bs
column_reading L a zero ws column (b ∷ bs) =
    stopped (reason_at ws (length column) b bs) (λ r. column)
    (column_reading L a (body_size b) (ws ++ asked (request_at b bs) ∷ []) (slice_set column (length ws) (worked L a column (asked (request_at b bs)))) bs)
