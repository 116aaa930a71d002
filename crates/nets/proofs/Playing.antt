-- Playing calls one after another: what one call does to what is left, and what stands at the end.
use Rattle.std.proofs.Common.{◌≡◌, ℕ, ◌≤◌, List, ◌++◌, length, take, drop, Some, None, Option, sym, refl, ap, ◌∙◌, subst, subst₂}
use Rattle.std.proofs.lemmas.List.{append-nil, at_drop_all, take_all}
use Rattle.algebras.specs.declared.algebra.Algebra.{Ghosts}
use Rattle.algebras.specs.Transient.{Transient}
use Rattle.nets.specs.declared.call.Answer.{Answer}
use Rattle.nets.specs.declared.call.Call.{Call}
use Rattle.nets.specs.declared.net.Net.{Net}
use Rattle.nets.specs.Asking.{answer_of_asking, grade_of, looked_up}
use Rattle.nets.specs.Arrivals.{LongestInTurn}
use Rattle.nets.specs.Calls.{PlainCall, answers_after, column_after, plain_calls, plain_of}
use Rattle.nets.specs.Faults.{unless}
use Rattle.nets.specs.Following.{Follows, LooksUpLongest}
use Rattle.nets.specs.Nets.{ColumnKept, net_wires}
use Rattle.nets.specs.Wires.{Plain, Lower}
use Rattle.nets.proofs.Followed.{looks_up_follows}
use Rattle.nets.proofs.Grading.{standing_kept}
use Rattle.nets.proofs.LongestHistories.{longest_in_turn}
use Rattle.nets.proofs.Placements.{asked_stands}

-- Nothing is left.
module _ (long : ℕ) (calls : List Call) (i : ℕ) (past : length calls ≤ i) where
  pub answers_end : (ws : List Plain) (answers all : List Answer) → answers ++ answers_after ws (plain_calls long (drop i calls)) ≡ all → answers ≡ all
  answers_end ws answers all left =
      sym (append-nil answers)
      ∙ sym (ap (λ (rs : List Answer). answers ++ rs) (at_drop_all (λ (cs : List Call). answers_after ws (plain_calls long cs)) calls i past))
      ∙ left

  pub column_end : {X G : Type 0} (L : Ghosts X G) (a : X) (ws : List Plain) (column all : List G)
      → column_after L a ws column (plain_calls long (drop i calls)) ≡ all → column ≡ all
  column_end L a ws column all left = sym (at_drop_all (λ (cs : List Call). column_after L a ws column (plain_calls long cs)) calls i past) ∙ left

  pub calls_end : plain_calls long (take i calls) ≡ plain_calls long calls
  calls_end = ap (plain_calls long) (take_all i calls past)

-- An answer is the same where it is the same unless refused.
pub unless_same : {A B : Type 0} (o : Option B) (x y : A) → (o ≡ None → x ≡ y) → unless o x ≡ unless o y
unless_same None x y same = ap (unless None) (same refl)
unless_same (Some f) x y same = refl

-- In a kept column looking up answers the grade of the wire's transient.
pub looked_up_kept : {X G : Type 0} (L : Ghosts X G) (n : Net X G L) (column : List G) (w : ℕ)
    → ((t : Transient) → L.reads n.algebra (L.grade n.algebra t) ≡ L.grade n.algebra t)
    → ColumnKept L n column → looked_up L n column w ≡ answer_of_asking n column w (grade_of L n w)
looked_up_kept L n column w reads kept =
    unless_same _ _ _ (λ e. ap (L.reads n.algebra) (standing_kept L n.algebra (net_wires n) column kept w (asked_stands _ _ _ e)) ∙ reads _)

-- Where a net follows calls, looking up answers the grade of the longest history of the plain net of the calls.
pub looks_up_played : {X G : Type 0} (L : Ghosts X G) (a : X) (n : Net X G L) (column : List G) (long : ℕ) (calls : List PlainCall)
    → n.algebra ≡ a → length column ≡ long → ((t : Transient) → L.reads n.algebra (L.grade n.algebra t) ≡ L.grade n.algebra t)
    → Follows L n column calls → (w : ℕ) → LooksUpLongest L a (plain_of calls) long w (looked_up L n column w)
looks_up_played {X = X} L a n column long calls same kept_long reads f w =
    let P : X → ℕ → Type 0 = λ b m. LooksUpLongest L b (plain_of calls) m w (looked_up L n column w) in
    subst₂ P same kept_long (looks_up_follows L n column w (looked_up L n column w) (looked_up_kept L n column w reads) calls f)

-- Some order then serves its gates one after another, and every order gives each wire a beginning of what that one gives it.
pub in_turn_played : {X G : Type 0} (L : Ghosts X G) (n : Net X G L) (column : List G) (calls : List PlainCall) → Follows L n column calls → LongestInTurn (plain_of calls)
in_turn_played L n column calls f = longest_in_turn (plain_of calls) (subst Lower f.wires n.lower)
