use Rattle.algebras.proofs.transient.transients_are_words.Goals as goal
use Rattle.algebras.specs.Words.{transients_are_words}

pub returns : goal.returns
returns c = transients_are_words
