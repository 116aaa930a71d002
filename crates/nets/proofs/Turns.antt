-- Orders that take one step more, in turn and losing no pulse.
use Rattle.std.proofs.Common.{◌≡◌, ℕ, ◌≤◌, List, [], ◌∷◌, ◌++◌, sym, refl, subst, arith}
use Rattle.nets.specs.Wires.{Plain}
use Rattle.nets.specs.Arrivals.{State, rest, Step, moves, arrives, loses, Allowed, after, AllowedAll, after_all, Order, ending, turn, InTurn, LosesNone}

-- One step more comes to what it does.
pub after_all_push : (net : List Plain) (s : State) (xs : List Step) (x : Step) → after_all net s (xs ++ x ∷ []) ≡ after net (after_all net s xs) x
after_all_push net s [] x = refl
after_all_push net s (y ∷ ys) x = after_all_push net (after net s y) ys x

-- One step more is allowed where it is allowed at the end.
pub allowed_push : (net : List Plain) (s : State) (xs : List Step) (x : Step) → AllowedAll net s xs → Allowed net (after_all net s xs) x
    → AllowedAll net s (xs ++ x ∷ [])
allowed_push net s [] x a b = (b, tt)
allowed_push net s (y ∷ ys) x (p, a) b = (p, allowed_push net (after net s y) ys x a b)

-- The turn of the last of several steps.
abbrev pub last_turn : ℕ → List Step → ℕ
last_turn t [] = t
last_turn t (x ∷ xs) = last_turn (turn x) xs

-- One step more has the last turn.
pub last_turn_push : (t : ℕ) (xs : List Step) (x : Step) → last_turn t (xs ++ x ∷ []) ≡ turn x
last_turn_push t [] x = refl
last_turn_push t (y ∷ ys) x = last_turn_push (turn y) ys x

-- One step more is in turn where its turn is none before the last.
pub in_turn_push : (t : ℕ) (xs : List Step) (x : Step) → InTurn t xs → last_turn t xs ≤ turn x → InTurn t (xs ++ x ∷ [])
in_turn_push t [] x a l = (l, tt)
in_turn_push t (y ∷ ys) x (p, a) l = (p, in_turn_push (turn y) ys x a l)

-- One step more loses no pulse where that step loses none.
pub loses_none_push : (xs : List Step) (x : Step) → LosesNone xs → LosesNone (x ∷ []) → LosesNone (xs ++ x ∷ [])
loses_none_push [] x a b = b
loses_none_push (moves w ∷ ys) x a b = loses_none_push ys x a b
loses_none_push (arrives w i ∷ ys) x a b = loses_none_push ys x a b
loses_none_push (loses w i ∷ ys) x a b = absurd a

-- Some order, in turn up to t and losing no pulse, comes to a state of which P holds.
pub record ComesTo (net : List Plain) (t : ℕ) (P : State → Type 0) : Type 0 where
  pub order : List Step
  pub allowed : Order net order
  pub loses_none : LosesNone order
  pub in_turn : InTurn 0 order
  pub until : last_turn 0 order ≤ t
  pub comes : P (ending net order)

-- At rest no step is taken.
pub comes_rest : (net : List Plain) (P : State → Type 0) → P rest → ComesTo net 0 P
comes_rest net P p = record { order = []; allowed = tt; loses_none = tt; in_turn = tt; until = omega arith; comes = p }

-- What else holds of a state that is come to.
pub comes_also : (net : List Plain) (t u : ℕ) (P Q : State → Type 0) → t ≤ u → ((s : State) → P s → Q s) → ComesTo net t P → ComesTo net u Q
comes_also net t u P Q l f r =
    let m = r.until in
    record {
      order = r.order;
      allowed = r.allowed;
      loses_none = r.loses_none;
      in_turn = r.in_turn;
      until = omega arith;
      comes = f (ending net r.order) r.comes;
    }

-- One step more, that is allowed, in turn, and loses no pulse.
pub comes_next : (net : List Plain) (t : ℕ) (P Q : State → Type 0) (x : Step) → t ≤ turn x → LosesNone (x ∷ [])
    → ((s : State) → P s → Allowed net s x) → ((s : State) → P s → Q (after net s x)) → ComesTo net t P → ComesTo net (turn x) Q
comes_next net t P Q x l n a f r =
    let o = r.order in
    let m = r.until in
    let e = last_turn_push 0 o x in
    record {
      order = o ++ x ∷ [];
      allowed = allowed_push net rest o x r.allowed (a (ending net o) r.comes);
      loses_none = loses_none_push o x r.loses_none n;
      in_turn = in_turn_push 0 o x r.in_turn (omega arith);
      until = omega arith;
      comes = subst Q (sym (after_all_push net rest o x)) (f (ending net o) r.comes);
    }
