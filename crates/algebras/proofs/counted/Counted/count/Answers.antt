use Rattle.std.proofs.Common.{◌≡◌, ap, ◌∙◌, rules}
use Rattle.algebras.specs.Counted.{count_of}
use Rattle.algebras.specs.Counts.{grade_count}
use Rattle.algebras.proofs.counted.Counted.count.Goals as goal

pub returns-in-Half : goal.returns-in-Half
returns-in-Half c =
    let k = c.args.self.now.«cap» in
    let value : c.min.result ≡ count_of k c.args.x = search rules in
    record { value = value; counts = λ t e. value ∙ ap (count_of k) e ∙ grade_count k t }
