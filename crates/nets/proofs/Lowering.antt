-- Whatever calls make of the plain net, its pins name lower wires.
use Rattle.std.proofs.Common.{◌≡◌, ℕ, zero, suc, List, [], ◌∷◌, ◌++◌, length, Some, None, Err, Option, refl, arith}
use Rattle.nets.specs.declared.fault.NetFault.{NetFault}
use Rattle.nets.specs.declared.fault.Reason.{Reason}
use Rattle.nets.specs.Calls.{PlainCall, places, reads_in, plain_after, plain_of, plain_step}
use Rattle.nets.specs.Faults.{settled}
use Rattle.nets.specs.Placing.{Request, ask_input, ask_gate, asked, placed, refusal}
use Rattle.nets.specs.Records.{at_place, body_size, pin_of, reading, reason_at, request_at, stopped}
use Rattle.nets.specs.Wires.{Plain, Below, Lower, pins_of}
use Rattle.nets.proofs.Outcomes.{carried_none, low_admitted, or_else_none}
use Rattle.nets.proofs.Pinning.{none_high}
use Rattle.nets.proofs.Wiring.{lower_push}

-- A request that is not refused names standing wires.
pub asked_below : (n long : ℕ) (q : Request) → refusal n long q ≡ None → Below n (pins_of (asked q))
asked_below n long (ask_input start changes) e k within = absurd (omega arith)
asked_below n long (ask_gate kind pins) e k within = none_high n pins (low_admitted n long (ask_gate kind pins) e).1 k within

-- Placing and reading keep lower pins.
pub placed_lower : (ws : List Plain) (long : ℕ) (q : Request) → Lower ws → Lower (placed ws long q)
placed_lower ws long q lower = go (refusal (length ws) long q) refl
  where
    go : (o : Option NetFault) → refusal (length ws) long q ≡ o → Lower (settled o (ws ++ asked q ∷ []) ws)
    go None e = lower_push ws (asked q) lower (asked_below (length ws) long q e)
    go (Some f) e = lower

pub reading_lower : (long at skip count : ℕ) (ws : List Plain) (bytes : List ℕ) → Lower ws → Lower (reading long at skip count ws bytes).wires
reading_lower long at skip count ws [] lower = lower
reading_lower long at (suc skip) count ws (b ∷ bs) lower = reading_lower long (suc at) skip count ws bs lower
reading_lower long at zero count ws (b ∷ bs) lower = go (reason_at ws long b bs) refl (reading_lower long (suc at) (body_size b) (suc count) (ws ++ asked (request_at b bs) ∷ []) bs)
  where
    go : (o : Option Reason) → reason_at ws long b bs ≡ o
        → (Lower (ws ++ asked (request_at b bs) ∷ []) → Lower (reading long (suc at) (body_size b) (suc count) (ws ++ asked (request_at b bs) ∷ []) bs).wires)
        → Lower (stopped o (λ r. record { wires = ws; answer = Err (at_place r at (length ws) (pin_of r (length ws) (request_at b bs))) })
        (reading long (suc at) (body_size b) (suc count) (ws ++ asked (request_at b bs) ∷ []) bs)).wires
    go None e more = more (lower_push ws (asked (request_at b bs)) lower (asked_below (length ws) long (request_at b bs) (carried_none _ (or_else_none _ _ e).1)))
    go (Some r) e more = lower

-- So do calls, one after another.
pub step_lower : (ws : List Plain) (x : PlainCall) → Lower ws → Lower (plain_step ws x)
step_lower ws (places long q) lower = placed_lower ws long q lower
step_lower ws (reads_in long bytes) lower = reading_lower long 0 0 0 ws bytes lower

pub after_lower : (ws : List Plain) (calls : List PlainCall) → Lower ws → Lower (plain_after ws calls)
after_lower ws [] lower = lower
after_lower ws (x ∷ xs) lower = after_lower (plain_step ws x) xs (step_lower ws x lower)

pub plain_lower : (calls : List PlainCall) → Lower (plain_of calls)
plain_lower calls = after_lower [] calls (λ w k within. absurd (omega arith))
