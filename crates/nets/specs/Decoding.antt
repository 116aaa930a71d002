-- Records as the code holds them, and how they are taken from bytes.
use Rattle.std.specs.Prelude.{◌≡◌, ◌≤◌, ℕ, List, [], length, Option, Some, None, Result, MatchResult, drop, slice_index}
use Rattle.std.specs.Borrow.{Bor}
use Rattle.nets.specs.declared.fault.Reason.{Reason}
use Rattle.nets.specs.declared.request.Request.{Request as CodeRequest}
use Rattle.nets.specs.declared.request.Request.TheVariants.{Input, Gate}
use Rattle.nets.specs.Placing.{Request, ask_input, ask_gate}
use Rattle.nets.specs.Records.{misread, pins_in, record_length, request_of}

-- A record lends the bytes of its pins.
abbrev pub Record : Type 0
Record = CodeRequest (Bor (List ℕ))

-- The bytes of the pins of a record; an input has none.
abbrev pub record_body : Record → List ℕ
record_body (Input start changes) = []
record_body (Gate kind body) = body.now

-- What a record asks to be placed.
abbrev pub record_request : Record → Request
record_request (Input start changes) = ask_input start changes
record_request (Gate kind body) = ask_gate kind (pins_in body.now)

-- Why the record that bytes begin with cannot be read, if it cannot.
abbrev pub misread_of : List ℕ → Option Reason
misread_of bytes = misread (slice_index bytes 0) (drop 1 bytes)

-- An answer about the record that bytes begin with: the record, which asks for what the bytes ask for, with fifteen pins at most, and
-- its length; or why it cannot be read.
abbrev pub FirstRecord : List ℕ → Result (Record × ℕ) Reason → Type 0
FirstRecord bytes r = MatchResult r (λ x. (misread_of bytes ≡ None) × (record_request x.0 ≡ request_of bytes) × (x.1 ≡ record_length bytes) × (length (record_body x.0) ≤ 30)) (λ e. misread_of bytes ≡ Some e)
