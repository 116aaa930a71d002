use Rattle.algebras.proofs.hearing.longest_word_of_a_gate.Goals as goal
use Rattle.algebras.proofs.EveryKind.{longest_word_of_a_gate}

pub returns : goal.returns
returns c = longest_word_of_a_gate
