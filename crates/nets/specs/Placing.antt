-- Placing: what is asked for, in which order it is checked, and what it makes of the plain net and the column.
use Rattle.std.specs.Prelude.{◌≡◌, ℕ, Bool, true, false, not, leb, List, [], ◌∷◌, ◌++◌, map, length, is_some, Some, None, Option, Result, MatchResult, ◌==◌, nat_le, nat_lt, slice_set}
use Rattle.std.specs.Borrow.{Bor}
use Rattle.std.specs.Option.{unwrap_or}
use Rattle.algebras.specs.declared.algebra.Algebra.{Ghosts}
use Rattle.algebras.specs.declared.kind.Kind.{Kind}
use Rattle.algebras.specs.declared.kind.Kind.TheVariants.{Buffer}
use Rattle.algebras.specs.Kinds.{kind_of, pins_allowed}
use Rattle.algebras.specs.Letters.{or_of}
use Rattle.nets.specs.declared.fault.NetFault.{NetFault}
use Rattle.nets.specs.declared.fault.NetFault.TheVariants.{NoSuchWire, BadStart, Full, ShortColumn, BadKind, BadPinCount, HighPin}
use Rattle.nets.specs.declared.request.Request.{Request as CodeRequest}
use Rattle.nets.specs.declared.request.Request.TheVariants.{Input, Gate}
use Rattle.nets.specs.declared.wire.Wire.{Wire}
use Rattle.nets.specs.Faults.{Check, first_fault, unless, settled}
use Rattle.nets.specs.Wires.{Plain, input, gate, Within, fits}
use Rattle.nets.specs.Tables.{plain}
use Rattle.nets.specs.Working.{worked}

-- What is asked to be placed: an input by start and changes, or a gate by the number of its kind and its pins.
pub data Request : Type 0 where
  ask_input : ℕ → ℕ → Request
  ask_gate : ℕ → List ℕ → Request

-- What a request of the code asks for.
abbrev pub plain_request : CodeRequest (Bor (List ℕ)) → Request
plain_request (Input start changes) = ask_input start changes
plain_request (Gate kind pins) = ask_gate kind pins.now

-- Whether a gate of that kind, if it is one, may have so many pins.
abbrev pub count_allowed : Option Kind → ℕ → Bool
count_allowed None n = false
count_allowed (Some k) n = pins_allowed k n

-- Whether there is room for a wire where so many stand and the column is so long.
abbrev pub room_checks : ℕ → ℕ → List Check
room_checks n long =
    record { refuses = nat_le 512 n; fault = Full }
    ∷ record { refuses = nat_le long n; fault = ShortColumn }
    ∷ []

-- The checks of a request itself. Where wires 0 to n - 1 stand the new wire is n, and a pin that names n or more is too high.
abbrev pub request_checks : ℕ → Request → List Check
request_checks n (ask_input start changes) = record { refuses = nat_lt 1 start; fault = BadStart } ∷ []
request_checks n (ask_gate kind pins) =
    record { refuses = not (is_some (kind_of kind)); fault = BadKind }
    ∷ record { refuses = not (count_allowed (kind_of kind) (length pins)); fault = BadPinCount }
    ∷ record { refuses = or_of (map (leb n) pins); fault = HighPin }
    ∷ []

-- All checks of placing, in their order.
abbrev pub checks : ℕ → ℕ → Request → List Check
checks n long q = room_checks n long ++ request_checks n q

-- The fault with which a request is refused, if it is.
abbrev pub refusal : ℕ → ℕ → Request → Option NetFault
refusal n long q = first_fault (checks n long q)

-- The wire asked for, of a request that is not refused.
abbrev pub asked : Request → Plain
asked (ask_input start changes) = input (start == 1) changes
asked (ask_gate kind pins) = gate (unwrap_or (kind_of kind) Buffer) pins

-- An answer to a request for wire n: the wire asked for, which names lower wires and has as many pins as its kind allows, or the fault
-- of the first check that refuses.
abbrev pub AskedAs : ℕ → Request → Result Wire NetFault → Type 0
AskedAs n q r = MatchResult r (λ w. (first_fault (request_checks n q) ≡ None) × (plain w ≡ asked q) × Within n (plain w) × (fits (plain w) ≡ true)) (λ f. first_fault (request_checks n q) ≡ Some f)

-- The answer of placing, and the plain net and the column after it.
abbrev pub place_answer : List Plain → ℕ → Request → Result ℕ NetFault
place_answer ws long q = unless (refusal (length ws) long q) (length ws)

abbrev pub placed : List Plain → ℕ → Request → List Plain
placed ws long q = settled (refusal (length ws) long q) (ws ++ asked q ∷ []) ws

abbrev pub filled : {X G : Type 0} → Ghosts X G → X → List Plain → List G → Request → List G
filled L a ws column q = settled (refusal (length ws) (length column) q) (slice_set column (length ws) (worked L a column (asked q))) column

-- The checks of a question about wire w.
abbrev pub question_checks : ℕ → ℕ → ℕ → List Check
question_checks n long w =
    record { refuses = nat_le n w; fault = NoSuchWire }
    ∷ record { refuses = nat_lt long n; fault = ShortColumn }
    ∷ []

-- An answer about wire w, unless a check refuses.
abbrev pub answered : {X : Type 0} → ℕ → ℕ → ℕ → X → Result X NetFault
answered n long w x = unless (first_fault (question_checks n long w)) x
