-- Questions about a wire: in which order they are checked, and what they answer.
use Rattle.std.specs.Prelude.{ℕ, List, length, Result}
use Rattle.algebras.specs.Transient.{Transient, end_of}
use Rattle.algebras.specs.Verdicts.{verdict_of}
use Rattle.algebras.specs.declared.algebra.Algebra.{Ghosts}
use Rattle.algebras.specs.declared.telling.Telling.{Ghosts as Tellings}
use Rattle.nets.specs.declared.fault.NetFault.{NetFault}
use Rattle.nets.specs.declared.net.Net.{Net}
use Rattle.nets.specs.declared.told.Told.{Told}
use Rattle.nets.specs.Placing.{answered}
use Rattle.nets.specs.Nets.{net_wires}
use Rattle.nets.specs.Transients.{transient}
use Rattle.nets.specs.Working.{entry}

-- An answer about wire w of a net with a column: refused where there is no such wire, then where the column is too short.
abbrev pub answer_of_asking : {X G V : Type 0} {L : Ghosts X G} → Net X G L → List G → ℕ → V → Result V NetFault
answer_of_asking n column w x = answered (length (net_wires n)) (length column) w x

-- The entry of wire w, as it stands and as read.
abbrev pub entry_of : {X G : Type 0} (L : Ghosts X G) → Net X G L → List G → ℕ → G
entry_of L n column w = entry L n.algebra column w

abbrev pub reading_of : {X G : Type 0} (L : Ghosts X G) → Net X G L → List G → ℕ → G
reading_of L n column w = L.reads n.algebra (entry_of L n column w)

-- What looking up wire w answers: the entry, as read.
abbrev pub looked_up : {X G : Type 0} (L : Ghosts X G) → Net X G L → List G → ℕ → Result G NetFault
looked_up L n column w = answer_of_asking n column w (reading_of L n column w)

-- The grade of the transient of wire w.
abbrev pub grade_of : {X G : Type 0} (L : Ghosts X G) → Net X G L → ℕ → G
grade_of L n w = L.grade n.algebra (transient (net_wires n) w)

-- What a telling algebra tells of an entry.
abbrev pub telling : {X G : Type 0} → Tellings X G → X → G → Told
telling T a x = record { start = T.starts a x; «end» = T.ends a x; verdict = T.verdicts a x }

-- What is to be told of a transient.
abbrev pub told_of : Transient → Told
told_of t = record { start = t.start; «end» = end_of t; verdict = verdict_of t }
