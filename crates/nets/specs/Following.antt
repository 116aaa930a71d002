-- Nets that follow a list of calls: what they hold, and what they answer, in terms of the longest histories of the plain net.
use Rattle.std.specs.Prelude.{◌≡◌, ℕ, ◌<◌, ◌≤◌, List, [], ◌∷◌, ◌++◌, length, Result}
use Rattle.algebras.specs.Transient.{Transient, word}
use Rattle.algebras.specs.declared.algebra.Algebra.{Ghosts}
use Rattle.nets.specs.declared.fault.NetFault.{NetFault}
use Rattle.nets.specs.declared.net.Net.{Net}
use Rattle.nets.specs.declared.told.Told.{Told}
use Rattle.nets.specs.Arrivals.{Longest}
use Rattle.nets.specs.Asking.{told_of}
use Rattle.nets.specs.Calls.{PlainCall, column_step, plain_of, plain_step}
use Rattle.nets.specs.Nets.{ColumnKept, net_wires}
use Rattle.nets.specs.Placing.{answered}
use Rattle.nets.specs.Wires.{Plain}
use Rattle.nets.specs.Working.{entry}

-- The longest history of wire w, as the transient whose word it is, has a property.
abbrev pub OfLongest : List Plain → ℕ → (Transient → Type 0) → Type 0
OfLongest net w P = (t : Transient) × (Longest net w (word t) × P t)

-- A net with a column follows calls: its wires are the plain net of the calls, and the entry of each is the grade of its longest
-- history.
pub record Follows {X G : Type 0} (L : Ghosts X G) (n : Net X G L) (column : List G) (calls : List PlainCall) : Type 0 where
  pub wires : net_wires n ≡ plain_of calls
  pub long : length (plain_of calls) ≤ length column
  pub entries : (w : ℕ) → w < length (plain_of calls) → OfLongest (plain_of calls) w (λ t. entry L n.algebra column w ≡ L.grade n.algebra t)

-- An answer of looking up wire w of a plain net, with a column so long: the grade of the wire's longest history, unless it is refused.
abbrev pub LooksUpLongest : {X G : Type 0} → Ghosts X G → X → List Plain → ℕ → ℕ → Result G NetFault → Type 0
LooksUpLongest L a net long w r = OfLongest net w (λ t. r ≡ answered (length net) long w (L.grade a t))

-- An answer of telling: the start, the end and the verdict of the longest history, unless it is refused.
abbrev pub TellsLongest : List Plain → ℕ → ℕ → Result Told NetFault → Type 0
TellsLongest net long w r = OfLongest net w (λ t. r ≡ answered (length net) long w (told_of t))

-- A call goes on following: a net and a column that follow a list of calls before it follow, after it, that list with this call at its
-- end.
abbrev pub GoesOn : {X G : Type 0} (L : Ghosts X G) → Net X G L → List G → Net X G L → List G → PlainCall → Type 0
GoesOn L n column n' column' x = (calls : List PlainCall) → Follows L n column calls → Follows L n' column' (calls ++ x ∷ [])

-- A call makes its step of a net and a column: the wires and the entries that the call makes of those before, under the same algebra. A
-- kept column stays kept, and following goes on.
pub record Makes {X G : Type 0} (L : Ghosts X G) (n : Net X G L) (before : List G) (m : Net X G L) (after : List G) (x : PlainCall) : Type 0 where
  pub net : net_wires m ≡ plain_step (net_wires n) x
  pub algebra : m.algebra ≡ n.algebra
  pub column : after ≡ column_step L n.algebra (net_wires n) before x
  pub kept : ColumnKept L n before → ColumnKept L m after
  pub follows : GoesOn L n before m after x
