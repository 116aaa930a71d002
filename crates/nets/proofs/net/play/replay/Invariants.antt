use Rattle.std.proofs.Common.{◌≡◌, ◌≤◌, [], ◌++◌, length, take, drop, vec_items, vec_len, vec_capacity}
use Rattle.nets.specs.Calls.{answers_after, column_after, plain_calls}
use Rattle.nets.specs.Following.{Follows}
use Rattle.nets.specs.Nets.{net_wires}
use Rattle.nets.proofs.net.play.replay.Given as goal

abbrev pub invariant-loop-call : goal.invariant-loop-call
invariant-loop-call g l =
    (vec_len l.answers ≡ l.call-index)
    × (length l.calls ≤ vec_capacity l.answers)
    × (l.net.algebra ≡ l.initial.net.algebra)
    × (vec_items l.answers ++ answers_after (net_wires l.net) (plain_calls (length l.initial.column) (drop l.call-index l.calls)) ≡ answers_after [] (plain_calls (length l.initial.column) l.calls))
    × (column_after g.L.Algebra l.initial.net.algebra (net_wires l.net) l.column (plain_calls (length l.initial.column) (drop l.call-index l.calls))
    ≡ column_after g.L.Algebra l.initial.net.algebra [] l.initial.column (plain_calls (length l.initial.column) l.calls))
    × Follows g.L.Algebra l.net l.column (plain_calls (length l.initial.column) (take l.call-index l.calls))
