-- Calls as data, and what a list of calls makes of the plain net, from their arguments alone.
use Rattle.std.specs.Prelude.{ℕ, List, [], ◌∷◌, map}
use Rattle.algebras.specs.declared.algebra.Algebra.{Ghosts}
use Rattle.nets.specs.declared.call.Answer.{Answer}
use Rattle.nets.specs.declared.call.Answer.TheVariants.{Placed, Read as WasRead}
use Rattle.nets.specs.declared.call.Call.{Call}
use Rattle.nets.specs.declared.call.Call.TheVariants.{PlaceInput, PlaceGate, Read}
use Rattle.nets.specs.Placing.{Request, ask_input, ask_gate, filled, place_answer, placed}
use Rattle.nets.specs.Records.{column_reading, reading}
use Rattle.nets.specs.Wires.{Plain}

-- A call by its arguments: the length of the column that is brought to it, and what is to be placed, or the bytes to be read in.
pub data PlainCall : Type 0 where
  places : ℕ → Request → PlainCall
  reads_in : ℕ → List ℕ → PlainCall

-- The plain net after a call. Placing appends what is asked for, unless it is refused, and reading the wire of each record before the
-- first that is refused; what is refused leaves the net as it was.
abbrev pub plain_step : List Plain → PlainCall → List Plain
plain_step ws (places long q) = placed ws long q
plain_step ws (reads_in long bytes) = (reading long 0 0 0 ws bytes).wires

-- The plain net after calls, one after another.
abbrev pub plain_after : List Plain → List PlainCall → List Plain
plain_after ws [] = ws
plain_after ws (x ∷ xs) = plain_after (plain_step ws x) xs

-- The plain net of a list of calls, empty at opening.
abbrev pub plain_of : List PlainCall → List Plain
plain_of calls = plain_after [] calls

-- What a call answers, and what calls answer, one after another.
abbrev pub answer_step : List Plain → PlainCall → Answer
answer_step ws (places long q) = Placed (place_answer ws long q)
answer_step ws (reads_in long bytes) = WasRead (reading long 0 0 0 ws bytes).answer

abbrev pub answers_after : List Plain → List PlainCall → List Answer
answers_after ws [] = []
answers_after ws (x ∷ xs) = answer_step ws x ∷ answers_after (plain_step ws x) xs

-- The column after a call that it is brought to, and after calls, each of which is brought the column as the calls before left it.
abbrev pub column_step : {X G : Type 0} → Ghosts X G → X → List Plain → List G → PlainCall → List G
column_step L a ws column (places long q) = filled L a ws column q
column_step L a ws column (reads_in long bytes) = column_reading L a 0 ws column bytes

abbrev pub column_after : {X G : Type 0} → Ghosts X G → X → List Plain → List G → List PlainCall → List G
column_after L a ws column [] = column
column_after L a ws column (x ∷ xs) = column_after L a (plain_step ws x) (column_step L a ws column x) xs

-- A call of the code, with a column so long.
abbrev pub plain_call : ℕ → Call → PlainCall
plain_call long (PlaceInput start changes) = places long (ask_input start changes)
plain_call long (PlaceGate kind pins) = places long (ask_gate kind pins.now)
plain_call long (Read bytes) = reads_in long bytes.now

abbrev pub plain_calls : ℕ → List Call → List PlainCall
plain_calls long calls = map (plain_call long) calls
