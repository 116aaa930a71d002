-- What is told of the records of an input, and of the whole input, and what stands where that is refused.
use Rattle.std.specs.Prelude.{◌≡◌, ℕ, List, [], Some, None, Ok, Err, IfOk, string_bytes, Option, Result, String}
use Rattle.std.specs.declared.alloc.Global.{Global}
use Rattle.nets.specs.Records.{reading}
use Rattle.listing.specs.declared.fault.Fault.{Fault}
use Rattle.listing.specs.declared.fault.Fault.TheVariants.{Memory, Refused}
use Rattle.listing.specs.declared.fault.ListFault.{ListFault}
use Rattle.nets.specs.Wires.{Plain}
use Rattle.listing.specs.Listing.{ListsLongest, cap_in, late_refusal, list_refusal, net_text, read_in}

-- The text is the one given where nothing is refused; a refusal is the one given; want of memory says nothing.
abbrev pub ToldAs : Result (String Global) Fault → Option ListFault → List ℕ → Type 0
ToldAs (Ok text) refusal given = (refusal ≡ None) × (string_bytes text ≡ given)
ToldAs (Err Memory) refusal given = Unit {0}
ToldAs (Err (Refused f)) refusal given = refusal ≡ Some f

-- The text of the net of records, read with a cap and a column so long.
abbrev pub RecordsTold : Result (String Global) Fault → ℕ → ℕ → List ℕ → Type 0
RecordsTold r cap long records = ToldAs r (late_refusal (reading long 0 0 0 [] records).answer) (net_text cap (reading long 0 0 0 [] records).wires)

-- The text of the net of an input.
abbrev pub InputTold : Result (String Global) Fault → List ℕ → Type 0
InputTold r input = ToldAs r (list_refusal input) (net_text (cap_in input) (read_in input).wires)

-- The text, if there is one, lists these wires, with a cap, each with the figures of its longest history.
abbrev pub Listed : Result (String Global) Fault → ℕ → List Plain → Type 0
Listed r cap ws = IfOk r (λ text. ListsLongest cap ws (string_bytes text))

-- The text lists the wires of records, read with a cap and a column so long.
abbrev pub RecordsListed : Result (String Global) Fault → ℕ → ℕ → List ℕ → Type 0
RecordsListed r cap long records = Listed r cap (reading long 0 0 0 [] records).wires

-- The text lists the wires of an input.
abbrev pub InputListed : Result (String Global) Fault → List ℕ → Type 0
InputListed r input = Listed r (cap_in input) (read_in input).wires
