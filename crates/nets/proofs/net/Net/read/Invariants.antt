use Rattle.std.proofs.Common.{◌≡◌, ◌-◌, ◌≤◌, length}
use Rattle.nets.specs.Nets.{ColumnKept, column_after_reading, net_wires, outcome_of_reading}
use Rattle.nets.specs.Records.{column_reading, reading, search_high}
use Rattle.nets.proofs.net.Net.read.Given as goal

abbrev pub invariant-loop-rest : goal.invariant-loop-rest
invariant-loop-rest g l =
    (length l.rest ≤ length l.bytes)
    × (l.records ≤ length l.bytes - length l.rest)
    × (l.self.algebra ≡ l.initial.self.algebra)
    × (reading (length l.column) (length l.bytes - length l.rest) 0 l.records (net_wires l.self) l.rest ≡ outcome_of_reading l.initial.self l.initial.column l.bytes)
    × (column_reading g.L.Algebra l.initial.self.algebra 0 (net_wires l.self) l.column l.rest ≡ column_after_reading g.L.Algebra l.initial.self l.initial.column l.bytes)
    × (search_high 0 (length (net_wires l.self)) l.rest ≡ search_high 0 l.wires l.bytes)
    × (ColumnKept g.L.Algebra l.initial.self l.initial.column → ColumnKept g.L.Algebra l.self l.column)

abbrev pub decreases-loop-rest : goal.decreases-loop-rest
decreases-loop-rest g l = length l.rest
