use Rattle.std.proofs.Common.{sym}
use Rattle.algebras.specs.Counts.{stands_count, stands_known}
use Rattle.algebras.proofs.counted.works.CountedCounting.parts.Goals as goal

pub returns : goal.returns
returns c =
    let cap = c.args.self.now.«cap» in
    rw c.count.ensures.value (record { known = stands_known cap c.args.x; counts = sym (stands_count cap c.args.x) })
