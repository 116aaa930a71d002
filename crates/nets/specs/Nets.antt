-- Nets as the code holds them, read as plain nets, and columns beside them.
use Rattle.std.specs.Prelude.{ℕ, List, [], ◌∷◌, ◌++◌, map, length, vec_items, Option, Result, slice_set}
use Rattle.algebras.specs.declared.algebra.Algebra.{Ghosts}
use Rattle.nets.specs.declared.fault.NetFault.{NetFault}
use Rattle.nets.specs.declared.fault.Reason.{Reason}
use Rattle.nets.specs.declared.net.Net.{Net}
use Rattle.nets.specs.Wires.{Plain}
use Rattle.nets.specs.Tables.{plain}
use Rattle.nets.specs.Working.{Kept, worked}
use Rattle.nets.specs.Faults.{settled}
use Rattle.nets.specs.Placing.{Request, asked, place_answer}
use Rattle.nets.specs.Records.{Outcome, column_reading, reading, reason_of, request_of}

-- The wires of a net.
abbrev pub net_wires : {X G : Type 0} {L : Ghosts X G} → Net X G L → List Plain
net_wires n = map plain (vec_items n.table.wires)

-- A column is kept for a net where its first entries are the grades of the net's wires.
abbrev pub ColumnKept : {X G : Type 0} (L : Ghosts X G) → Net X G L → List G → Type 0
ColumnKept L n column = Kept L n.algebra (net_wires n) column

-- What placing answers on a net and a column.
abbrev pub answer_of_placing : {X G : Type 0} {L : Ghosts X G} → Net X G L → List G → Request → Result ℕ NetFault
answer_of_placing n column q = place_answer (net_wires n) (length column) q

-- Why the record that bytes begin with is not placed, and the wires and the column after it.
abbrev pub reason_of_record : {X G : Type 0} {L : Ghosts X G} → Net X G L → List G → List ℕ → Option Reason
reason_of_record n column bytes = reason_of (net_wires n) (length column) bytes

abbrev pub wires_after_record : {X G : Type 0} {L : Ghosts X G} → Net X G L → List G → List ℕ → List Plain
wires_after_record n column bytes = settled (reason_of_record n column bytes) (net_wires n ++ asked (request_of bytes) ∷ []) (net_wires n)

abbrev pub column_after_record : {X G : Type 0} (L : Ghosts X G) → Net X G L → List G → List ℕ → List G
column_after_record L n column bytes = settled (reason_of_record n column bytes) (slice_set column (length (net_wires n)) (worked L n.algebra column (asked (request_of bytes)))) column

-- What reading bytes onto a net with a column leaves and answers.
abbrev pub outcome_of_reading : {X G : Type 0} {L : Ghosts X G} → Net X G L → List G → List ℕ → Outcome
outcome_of_reading n column bytes = reading (length column) 0 0 0 (net_wires n) bytes

abbrev pub column_after_reading : {X G : Type 0} (L : Ghosts X G) → Net X G L → List G → List ℕ → List G
column_after_reading L n column bytes = column_reading L n.algebra 0 (net_wires n) column bytes
