-- The longest histories of a net's wires are the words of their transients.
use Rattle.std.specs.Prelude.{◌≡◌, ℕ, ◌<◌, Bool, ◌↔◌, List, length}
use Rattle.algebras.specs.Transient.{word}
use Rattle.nets.specs.Wires.{Plain, Lower}
use Rattle.nets.specs.Transients.{transient}
use Rattle.nets.specs.Arrivals.{Longest, LongestInTurn}
use Rattle.nets.specs.Calls.{PlainCall, plain_of}

-- The plain net of every list of calls has pins that name lower wires. For every such net: serving the gates one after another can
-- give every wire its longest history, of which every other is a beginning, and the longest history of each wire is the word of its
-- transient.
pub record LongestHistories : Type 0 where
  pub plain_nets : (calls : List PlainCall) → Lower (plain_of calls)
  pub in_turn : (net : List Plain) → Lower net → LongestInTurn net
  pub by_transients : (net : List Plain) → Lower net → (w : ℕ) → w < length net → (h : List Bool)
      → Longest net w h ↔ (h ≡ word (transient net w))
