use Rattle.nets.proofs.arrivals.longest_histories.Goals as goal
use Rattle.nets.proofs.LongestHistories.{longest_histories}

-- src/arrivals.rt:6:1
pub returns : goal.returns
returns c = longest_histories
