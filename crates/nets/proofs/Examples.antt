-- Small nets in which orders are played out: x AND NOT x, where x rises, can give 010; and net A.
use Rattle.std.proofs.Common.{◌≡◌, ℕ, zero, suc, ◌<◌, ◌≤◌, true, false, List, [], ◌∷◌, refl, arith}
use Rattle.algebras.specs.declared.kind.Kind.TheVariants.{And, Inverter}
use Rattle.nets.specs.Wires.{Plain, input, gate, wire_at}
use Rattle.nets.specs.Arrivals.{Step, moves, arrives, loses, Order, ServesInTurn, drive_of, ending, history, pin_count, pin_wire}
use Rattle.nets.specs.Rows.{net_a, order_a}

-- Wire 0 is x, wire 1 is NOT x, wire 2 is x AND NOT x and wire 3 is its complement.
abbrev pub glitch_net : List Plain
glitch_net = input false 1 ∷ gate Inverter (0 ∷ []) ∷ gate And (0 ∷ 1 ∷ []) ∷ gate Inverter (2 ∷ []) ∷ []

-- x arrives at the AND before NOT x does.
abbrev pub glitch_order : List Step
glitch_order = moves 0 ∷ arrives 2 0 ∷ arrives 1 0 ∷ arrives 2 1 ∷ []

-- This is an order, and it gives wire 2 the history 010.
pub glitch_allowed : Order glitch_net glitch_order
glitch_allowed = omega arith

pub glitch_history : history glitch_net glitch_order 2 ≡ false ∷ true ∷ false ∷ []
glitch_history = refl

-- NOT x arrives first: wire 2 stays at 0.
abbrev pub calm_order : List Step
calm_order = moves 0 ∷ arrives 1 0 ∷ arrives 2 1 ∷ arrives 2 0 ∷ []

pub calm_allowed : Order glitch_net calm_order
calm_allowed = omega arith

pub calm_history : history glitch_net calm_order 2 ≡ false ∷ []
calm_history = refl

-- The pulse of wire 2 is lost at the inverter: wire 3 stays at 1.
abbrev pub losing_order : List Step
losing_order = moves 0 ∷ arrives 2 0 ∷ arrives 1 0 ∷ arrives 2 1 ∷ loses 3 0 ∷ []

pub losing_allowed : Order glitch_net losing_order
losing_allowed = omega arith

pub losing_history : history glitch_net losing_order 3 ≡ true ∷ []
losing_history = refl

-- The order drawn for net A serves its gates one after another: in the end the input has made its change,
pub order_a_made : (w : ℕ) → drive_of (wire_at net_a w) ≤ (ending net_a order_a).made w
order_a_made zero = omega arith
order_a_made (suc zero) = omega arith
order_a_made (suc (suc zero)) = omega arith
order_a_made (suc (suc (suc zero))) = omega arith
order_a_made (suc (suc (suc (suc zero)))) = omega arith
order_a_made (suc (suc (suc (suc (suc zero))))) = omega arith
order_a_made (suc (suc (suc (suc (suc (suc w)))))) = omega arith

-- and every pin has heard everything.
pub order_a_heard : (w i : ℕ) → i < pin_count net_a w → (ending net_a order_a).heard w i ≡ (ending net_a order_a).made (pin_wire net_a w i)
order_a_heard zero i l = absurd (omega arith)
order_a_heard (suc zero) zero l = omega arith
order_a_heard (suc zero) (suc i) l = absurd (omega arith)
order_a_heard (suc (suc zero)) zero l = omega arith
order_a_heard (suc (suc zero)) (suc zero) l = omega arith
order_a_heard (suc (suc zero)) (suc (suc i)) l = absurd (omega arith)
order_a_heard (suc (suc (suc zero))) zero l = omega arith
order_a_heard (suc (suc (suc zero))) (suc zero) l = omega arith
order_a_heard (suc (suc (suc zero))) (suc (suc i)) l = absurd (omega arith)
order_a_heard (suc (suc (suc (suc zero)))) zero l = omega arith
order_a_heard (suc (suc (suc (suc zero)))) (suc zero) l = omega arith
order_a_heard (suc (suc (suc (suc zero)))) (suc (suc i)) l = absurd (omega arith)
order_a_heard (suc (suc (suc (suc (suc zero))))) zero l = omega arith
order_a_heard (suc (suc (suc (suc (suc zero))))) (suc zero) l = omega arith
order_a_heard (suc (suc (suc (suc (suc zero))))) (suc (suc i)) l = absurd (omega arith)
order_a_heard (suc (suc (suc (suc (suc (suc w)))))) i l = absurd (omega arith)

pub order_a_serves : ServesInTurn net_a order_a
order_a_serves = record { allowed = omega arith; loses_none = tt; in_turn = omega arith; all_made = order_a_made; all_heard = order_a_heard }
