use Rattle.std.proofs.Common.{◌≡◌, drop}
use Rattle.algebras.specs.Sums.{joined}
use Rattle.nets.specs.Working.{joins, entries}
use Rattle.nets.proofs.net.work.Entries.join_pins.Given as goal

abbrev pub invariant-loop-pin : goal.invariant-loop-pin
invariant-loop-pin g l =
    joined (joins g.L.Algebra l.self.algebra.now l.kind) l.grade (entries g.L.Algebra l.self.algebra.now l.self.column.now (drop l.pin-index l.others))
    ≡ joined (joins g.L.Algebra l.self.algebra.now l.kind) l.initial.grade (entries g.L.Algebra l.self.algebra.now l.self.column.now l.others)
