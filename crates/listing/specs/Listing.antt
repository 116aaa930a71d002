-- The listing of a net: every byte that it prints, from the bytes that it is given.
use Rattle.std.specs.Prelude.{◌≡◌, ℕ, zero, suc, ◌+◌, ◌*◌, min, Bool, true, false, cond, List, [], ◌∷◌, ◌++◌, length, drop, Some, None, Ok, Err, codes, decimal, Option, Result, nat_le, nat_lt, slice_index}
use Rattle.algebras.specs.declared.counted.grade.CapFault.TheVariants.{TooSmall}
use Rattle.algebras.specs.Counted.{cap_fault_number}
use Rattle.algebras.specs.Letters.{bit}
use Rattle.algebras.specs.Transient.{Transient, end_of}
use Rattle.algebras.specs.Verdicts.{verdict_number, verdict_of}
use Rattle.nets.specs.declared.fault.Layer.{Layer}
use Rattle.nets.specs.declared.fault.Layer.TheVariants.{Input, Algebra}
use Rattle.nets.specs.declared.fault.ReadFault.{ReadFault}
use Rattle.nets.specs.Faults.{layer_name}
use Rattle.nets.specs.Records.{Outcome, reading, reason_layer, reason_number}
use Rattle.nets.specs.Following.{OfLongest}
use Rattle.nets.specs.Wires.{Plain}
use Rattle.nets.specs.Transients.{transients}
use Rattle.listing.specs.declared.fault.ListFault.{ListFault}
use Rattle.listing.specs.declared.fault.ListFault.TheVariants.{TooLong, NoCap, Cap, Read}

-- A refusal: its number, its layer, and the offset, wire and pin, which are 0 before any record.
abbrev pub list_fault_number : ListFault → ℕ
list_fault_number TooLong = 13
list_fault_number NoCap = 12
list_fault_number (Cap f) = cap_fault_number f
list_fault_number (Read f) = reason_number f.reason

abbrev pub list_fault_layer : ListFault → Layer
list_fault_layer TooLong = Input
list_fault_layer NoCap = Input
list_fault_layer (Cap f) = Algebra
list_fault_layer (Read f) = reason_layer f.reason

-- The place of a refusal.
pub record Place : Type 0 where
  pub offset : ℕ
  pub wire : ℕ
  pub pin : ℕ

abbrev pub no_place : Place
no_place = record { offset = 0; wire = 0; pin = 0 }

abbrev pub list_fault_place : ListFault → Place
list_fault_place TooLong = no_place
list_fault_place NoCap = no_place
list_fault_place (Cap f) = no_place
list_fault_place (Read f) = record { offset = f.offset; wire = f.wire; pin = f.pin }

-- The one line of a refusal.
abbrev pub refused_line : ℕ → Layer → Place → List ℕ
refused_line number layer place =
    codes "refused " ++ (decimal number ++ (codes " " ++ (layer_name layer ++ (codes " " ++ (decimal place.offset ++ (codes " " ++ (decimal place.wire ++ (codes " " ++ (decimal place.pin ++ codes "\n")))))))))

abbrev pub refused_text : ListFault → List ℕ
refused_text f = refused_line (list_fault_number f) (list_fault_layer f) (list_fault_place f)

-- The mark of a count: whether it is the cap.
abbrev pub mark : Bool → List ℕ
mark true = codes "+"
mark false = codes "="

-- The line of a wire: its number, start, end, count, mark and verdict.
abbrev pub wire_line : ℕ → ℕ → Transient → List ℕ
wire_line cap w t =
    decimal w ++ (codes " " ++ (decimal (bit t.start) ++ (codes " " ++ (decimal (bit (end_of t)) ++ (codes " " ++ (decimal (min t.changes cap) ++ (codes " " ++ (mark (nat_le cap t.changes) ++ (codes " " ++ (decimal (verdict_number (verdict_of t)) ++ codes "\n"))))))))))

abbrev pub wire_lines : ℕ → ℕ → List Transient → List ℕ
wire_lines cap w [] = []
wire_lines cap w (t ∷ ts) = wire_line cap w t ++ wire_lines cap (suc w) ts

-- The header, and the lines of all wires.
abbrev pub header : ℕ → ℕ → List ℕ
header wires cap = codes "wires " ++ (decimal wires ++ (codes " cap " ++ (decimal cap ++ codes "\n")))

abbrev pub net_text : ℕ → List Plain → List ℕ
net_text cap ws = header (length ws) cap ++ wire_lines cap 0 (transients ws)

-- A text that is a line for each of so many wires, from wire w on, with the figures of the wire's longest history.
abbrev pub LongestLines : ℕ → List Plain → ℕ → ℕ → List ℕ → Type 0
LongestLines cap net w zero text = text ≡ []
LongestLines cap net w (suc more) text =
    (line : List ℕ) × ((rest : List ℕ) × ((text ≡ line ++ rest) × (OfLongest net w (λ t. line ≡ wire_line cap w t) × LongestLines cap net (suc w) more rest)))

-- A text that is the header, and such a line for every wire.
abbrev pub ListsLongest : ℕ → List Plain → List ℕ → Type 0
ListsLongest cap net text = (lines : List ℕ) × ((text ≡ header (length net) cap ++ lines) × LongestLines cap net 0 (length net) lines)

-- The cap in two bytes, low byte first, and what is read after it, onto an empty net with a column of 512.
abbrev pub cap_in : List ℕ → ℕ
cap_in input = slice_index input 0 + 256 * slice_index input 1

abbrev pub read_in : List ℕ → Outcome
read_in input = reading 512 0 0 0 [] (drop 2 input)

-- Why no record is read: the input is too long, has no cap, or one of 0 or 1.
abbrev pub early_refusal : List ℕ → Option ListFault
early_refusal input = cond (nat_lt 16384 (length input)) (Some TooLong) (cond (nat_lt (length input) 2) (Some NoCap) (cond (nat_lt (cap_in input) 2) (Some (Cap TooSmall)) None))

-- Why a record is refused, if one is.
abbrev pub late_refusal : Result ℕ ReadFault → Option ListFault
late_refusal (Ok n) = None
late_refusal (Err f) = Some (Read f)

-- An early refusal, or else a late one.
abbrev pub or_late : Option ListFault → Option ListFault → Option ListFault
or_late None y = y
or_late (Some x) y = Some x

-- Why a listing is refused, if it is.
abbrev pub list_refusal : List ℕ → Option ListFault
list_refusal input = or_late (early_refusal input) (late_refusal (read_in input).answer)

-- The line of a refusal, or a text where there is none.
abbrev pub told : Option ListFault → List ℕ → List ℕ
told None text = text
told (Some f) text = refused_text f

-- The whole text that is printed for an input.
abbrev pub listing_text : List ℕ → List ℕ
listing_text input = told (list_refusal input) (net_text (cap_in input) (read_in input).wires)
