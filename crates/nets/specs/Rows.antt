-- Worked rows: what gates make of words, a wire of a whole net, and an order of arrivals played out.
use Rattle.std.specs.Prelude.{◌≡◌, ℕ, Bool, true, false, List, [], ◌∷◌, ◌++◌, map, length}
use Rattle.std.specs.List.{range_with_len}
use Rattle.algebras.specs.declared.kind.Kind.{Kind}
use Rattle.algebras.specs.declared.kind.Kind.TheVariants.{Inverter, And, Or, Xor, Nand}
use Rattle.algebras.specs.Transient.{word}
use Rattle.nets.specs.Arrivals.{Step, moves, arrives, ServesInTurn, history}
use Rattle.nets.specs.Wires.{Plain, input, gate}
use Rattle.nets.specs.Transients.{transient}

-- The letters.
abbrev pub o : Bool
o = false

abbrev pub i : Bool
i = true

-- An input that is driven with a word.
abbrev pub driven_by : List Bool → Plain
driven_by [] = input false 0
driven_by (b ∷ bs) = input b (length bs)

-- A row: a gate of a kind makes this word of those; a wire of a net has this word; or an order of arrivals that
-- serves the gates one after another gives it this history.
pub data Row : Type 0 where
  makes : Kind → List (List Bool) → List Bool → Row
  has : List Plain → ℕ → List Bool → Row
  plays : List Plain → List Step → ℕ → List Bool → Row

-- What a row says of transients, and of arrivals.
abbrev pub Holds : Row → Type 0
Holds (makes k ws w) = word (transient (map driven_by ws ++ gate k (range_with_len 0 (length ws)) ∷ []) (length ws)) ≡ w
Holds (has net n w) = word (transient net n) ≡ w
Holds (plays net order n w) = ServesInTurn net order × (history net order n ≡ w)

abbrev pub AllHold : List Row → Type 0
AllHold [] = Unit {0}
AllHold (r ∷ rs) = Holds r × AllHold rs

-- Net A: an input 01; its inverse; AND of both; OR of the input and that; NAND of the inverse and that; XOR of the last two.
abbrev pub net_a : List Plain
net_a =
    input false 1
    ∷ gate Inverter (0 ∷ [])
    ∷ gate And (0 ∷ 1 ∷ [])
    ∷ gate Or (0 ∷ 2 ∷ [])
    ∷ gate Nand (1 ∷ 2 ∷ [])
    ∷ gate Xor (3 ∷ 4 ∷ [])
    ∷ []

-- An order of arrivals in net A that serves the gates one after another and gives wire 5 all its changes.
abbrev pub order_a : List Step
order_a =
    moves 0
    ∷ arrives 1 0
    ∷ arrives 2 0
    ∷ arrives 2 1
    ∷ arrives 3 1
    ∷ arrives 3 1
    ∷ arrives 3 0
    ∷ arrives 4 1
    ∷ arrives 4 1
    ∷ arrives 4 0
    ∷ arrives 5 0
    ∷ arrives 5 0
    ∷ arrives 5 0
    ∷ arrives 5 1
    ∷ arrives 5 1
    ∷ []

abbrev pub worked_rows : List Row
worked_rows =
    makes Or ((o ∷ i ∷ o ∷ []) ∷ (i ∷ o ∷ i ∷ o ∷ []) ∷ []) (i ∷ o ∷ i ∷ o ∷ i ∷ o ∷ [])
    ∷ makes And ((o ∷ i ∷ []) ∷ (o ∷ i ∷ []) ∷ []) (o ∷ i ∷ [])
    ∷ makes Or ((i ∷ o ∷ i ∷ []) ∷ (i ∷ o ∷ i ∷ []) ∷ []) (i ∷ o ∷ i ∷ [])
    ∷ makes Or ((o ∷ i ∷ o ∷ i ∷ []) ∷ (i ∷ []) ∷ []) (i ∷ [])
    ∷ makes Or ((o ∷ i ∷ o ∷ i ∷ []) ∷ (o ∷ []) ∷ []) (o ∷ i ∷ o ∷ i ∷ [])
    ∷ makes Xor ((o ∷ i ∷ []) ∷ (o ∷ i ∷ []) ∷ []) (o ∷ i ∷ o ∷ [])
    ∷ makes And ((o ∷ i ∷ []) ∷ (o ∷ i ∷ []) ∷ (i ∷ o ∷ []) ∷ []) (o ∷ i ∷ o ∷ [])
    ∷ has net_a 5 (i ∷ o ∷ i ∷ o ∷ i ∷ o ∷ [])
    ∷ plays net_a order_a 5 (i ∷ o ∷ i ∷ o ∷ i ∷ o ∷ [])
    ∷ []
