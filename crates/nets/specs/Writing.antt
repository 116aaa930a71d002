-- Writing a net out: the bytes of its records, by rising wire number, and what a buffer holds after them.
use Rattle.std.specs.Prelude.{◌≡◌, ℕ, ◌+◌, ◌*◌, ◌/◌, ◌%◌, ◌≤◌, List, [], ◌∷◌, ◌++◌, length, take, drop, Ok, Option, Result, nat_lt, slice_set}
use Rattle.algebras.specs.Kinds.{kind_number}
use Rattle.algebras.specs.Letters.{bit}
use Rattle.nets.specs.declared.fault.NetFault.{NetFault}
use Rattle.nets.specs.declared.fault.NetFault.TheVariants.{ShortBuffer}
use Rattle.nets.specs.Faults.{Check, first_fault, unless, settled}
use Rattle.nets.specs.Records.{reading}
use Rattle.nets.specs.Wires.{Plain, input, gate}

-- The bytes of pins, two for each, low byte first.
abbrev pub pin_bytes : List ℕ → List ℕ
pin_bytes [] = []
pin_bytes (p ∷ ps) = (p % 256) ∷ (p / 256) ∷ pin_bytes ps

-- The kind byte of a gate: its kind in the upper half, and how many pins it has in the lower.
abbrev pub gate_byte : ℕ → ℕ → ℕ
gate_byte kind pins = 16 * kind + pins

-- The bytes of a wire's record.
abbrev pub record_of : Plain → List ℕ
record_of (input start changes) = 1 ∷ bit start ∷ changes ∷ []
record_of (gate k ps) = gate_byte (kind_number k) (length ps) ∷ pin_bytes ps

-- The bytes of the records of wires, by rising number.
abbrev pub records_of : List Plain → List ℕ
records_of [] = []
records_of (w ∷ ws) = record_of w ++ records_of ws

-- Bytes with others written over them, one after another from a place on.
abbrev pub written_over : List ℕ → ℕ → List ℕ → List ℕ
written_over buffer at [] = buffer
written_over buffer at (b ∷ bs) = written_over (slice_set buffer at b) (at + 1) bs

-- The check of writing into a buffer that is so long.
abbrev pub writing_checks : List Plain → ℕ → List Check
writing_checks ws long = record { refuses = nat_lt long (length (records_of ws)); fault = ShortBuffer } ∷ []

-- Why wires are not written, if they are not.
abbrev pub writing_refusal : List Plain → ℕ → Option NetFault
writing_refusal ws long = first_fault (writing_checks ws long)

-- The answer of writing, the number of bytes written, and the buffer after it: the records, and no byte touched after them.
abbrev pub answer_of_writing : List Plain → List ℕ → Result ℕ NetFault
answer_of_writing ws buffer = unless (writing_refusal ws (length buffer)) (length (records_of ws))

abbrev pub buffer_after_writing : List Plain → List ℕ → List ℕ
buffer_after_writing ws buffer = settled (writing_refusal ws (length buffer)) (records_of ws ++ drop (length (records_of ws)) buffer) buffer

-- What was written reads back: read onto an empty net, with a column that is long enough, it gives the same wires.
abbrev pub ReadsBack : List Plain → Result ℕ NetFault → List ℕ → Type 0
ReadsBack ws answer buffer =
    (size long : ℕ) → answer ≡ Ok size → length ws ≤ long → reading long 0 0 0 [] (take size buffer) ≡ record { wires = ws; answer = Ok (length ws) }
