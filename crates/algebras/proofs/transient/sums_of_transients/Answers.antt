use Rattle.algebras.proofs.transient.sums_of_transients.Goals as goal
use Rattle.algebras.specs.SumsLemmas.{sums_of_transients}

pub returns : goal.returns
returns c = sums_of_transients
