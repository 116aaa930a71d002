-- Which change can be heard last: any change for XOR and for a buffer, and for complements the change that it is without them.
use Rattle.std.proofs.Common.{◌≡◌, ℕ, zero, suc, ◌+◌, ◌<◌, ◌≤◌, Bool, false, not, List, [], ◌∷◌, map, get_or, sym, refl, ap, ◌∙◌, subst, arith}
use Rattle.algebras.specs.Transient.{Transient, end_of, complement, zero_word}
use Rattle.algebras.specs.Sums.{starts, ends, total_changes, exclusive, FollowsFunction}
use Rattle.algebras.specs.Letters.{xor_of}
use Rattle.algebras.specs.Hearing.{hears, changes_at}
use Rattle.algebras.specs.Words.{complement_end}
use Rattle.algebras.specs.SumsLemmas.{sums_of_transients}
use Rattle.algebras.proofs.Prefixes.{Prefixes, none, next, prefixes_starts, prefixes_total, prefixes_complement, hears_prefixes, hears_total, hears_complement, changes_at_complement, complements_twice, total_complement}
use Rattle.algebras.proofs.Answering.{LastChange, LongestFor}

-- The last change of the first pin.
abbrev pub last_first : (b : Bool) (n : ℕ) (hs : List Transient) → LastChange (record { start = b; changes = suc n } ∷ hs)
last_first b n hs = record { pin = 0; before = record { start = b; changes = n } ∷ hs; hearing = refl; allowed = omega arith }

-- The last change of a later pin.
abbrev pub last_later : (h : Transient) {hs : List Transient} → LastChange hs → LastChange (h ∷ hs)
last_later h l = record {
  pin = suc l.pin;
  before = h ∷ l.before;
  hearing = ap (λ (ts : List Transient). h ∷ ts) l.hearing;
  allowed = l.allowed;
}

-- Where changes were heard, some pin heard one.
pub some_last : (hs : List Transient) → 1 ≤ total_changes hs → LastChange hs
some_last [] l = absurd (omega arith)
some_last (h ∷ hs) l = go h.start h.changes l (some_last hs)
  where
    go : (b : Bool) (n : ℕ) → 1 ≤ n + total_changes hs → (1 ≤ total_changes hs → LastChange hs) → LastChange (record { start = b; changes = n } ∷ hs)
    go b zero l r = last_later (record { start = b; changes = 0 }) (r (omega arith))
    go b (suc n) l r = last_first b n hs

-- Before the last change there was one less.
pub last_total : {hs : List Transient} (l : LastChange hs) → total_changes hs ≡ suc (total_changes l.before)
last_total l =
    let a = subst (λ ts. changes_at l.before l.pin < changes_at ts l.pin) (sym l.hearing) l.allowed in
    ap total_changes (sym l.hearing) ∙ hears_total l.pin l.before a

-- The starts were the same before the last change.
pub last_starts : {hs : List Transient} (l : LastChange hs) → starts hs ≡ starts l.before
last_starts l = ap starts (sym l.hearing) ∙ sym (prefixes_starts (hears_prefixes l.pin l.before))

-- XOR: every change of a pin is a change.
pub exclusive_longest : LongestFor xor_of exclusive
exclusive_longest = record {
  follows = sums_of_transients.exclusive_follows;
  grows = λ p. prefixes_total p;
  within = λ hs. omega arith;
  heard_last = λ hs m.
      let l = some_last hs m in
      let t = last_total l in
      record { last = l; falls = omega arith };
}

-- The first pin's transient, or the word 0 where there is no pin.
abbrev pub first_of : List Transient → Transient
first_of hs = get_or hs 0 zero_word

-- The first pin's changes are at most all changes.
pub first_within : (hs : List Transient) → (first_of hs).changes ≤ total_changes hs
first_within [] = omega arith
first_within (h ∷ hs) = omega arith

-- The first pin's changes grow with what it has heard.
pub first_grows : {hs xs : List Transient} → Prefixes hs xs → (first_of hs).changes ≤ (first_of xs).changes
first_grows none = omega arith
first_grows (next s n p) = n

-- One change more at any pin is at most one more at the first.
pub first_hears : (i : ℕ) (hs : List Transient) → (first_of (hears i hs)).changes ≤ suc (first_of hs).changes
first_hears i [] = omega arith
first_hears zero (h ∷ hs) = omega arith
first_hears (suc i) (h ∷ hs) = omega arith

-- The first pin's transient starts and ends as the first letter says.
pub first_follows : FollowsFunction first_of (λ bs. get_or bs 0 false)
first_follows = record { at_start = at_start; at_end = at_end }
  where
    at_start : (xs : List Transient) → (first_of xs).start ≡ get_or (starts xs) 0 false
    at_start [] = refl
    at_start (x ∷ xs) = refl

    at_end : (xs : List Transient) → end_of (first_of xs) ≡ get_or (ends xs) 0 false
    at_end [] = refl
    at_end (x ∷ xs) = refl

-- A buffer repeats its first pin.
pub first_longest : LongestFor (λ bs. get_or bs 0 false) first_of
first_longest = record {
  follows = first_follows;
  grows = λ p. first_grows p;
  within = first_within;
  heard_last = λ hs m.
      let l = some_last hs m in
      record { last = l; falls = subst (λ ts. (first_of ts).changes ≤ suc (first_of l.before).changes) l.hearing (first_hears l.pin l.before) };
}

-- A gate with its output complemented.
pub complemented_longest : {f : List Bool → Bool} {G : List Transient → Transient} → LongestFor f G → LongestFor (λ bs. not (f bs)) (λ ts. complement (G ts))
complemented_longest {G = G} r = record {
  follows = record {
    at_start = λ xs. ap not (r.follows.at_start xs);
    at_end = λ xs. complement_end (G xs) ∙ ap not (r.follows.at_end xs);
  };
  grows = λ p. r.grows p;
  within = r.within;
  heard_last = λ hs m.
      let o = r.heard_last hs m in
      record { last = o.last; falls = o.falls };
}

-- The changes before the last one, with every pin complemented.
abbrev pub last_complement : {hs : List Transient} → LastChange (map complement hs) → LastChange hs
last_complement {hs} l =
    let e = hears_complement l.pin l.before ∙ ap (map complement) l.hearing ∙ complements_twice hs in
    let p = changes_at_complement l.before l.pin in
    let q = changes_at_complement hs l.pin in
    let a = l.allowed in
    record { pin = l.pin; before = map complement l.before; hearing = e; allowed = omega arith }

-- A gate with its pins and its output complemented.
pub exchanged_longest : {f g : List Bool → Bool} {G : List Transient → Transient} → LongestFor f G
    → FollowsFunction (λ ts. complement (G (map complement ts))) g → LongestFor g (λ ts. complement (G (map complement ts)))
exchanged_longest {G = G} r follows = record {
  follows = follows;
  grows = λ p. r.grows (prefixes_complement p);
  within = λ hs. let w = r.within (map complement hs) in let t = total_complement hs in omega arith;
  heard_last = λ hs m.
      let t = total_complement hs in
      let o = r.heard_last (map complement hs) (omega arith) in
      record {
        last = last_complement o.last;
        falls = subst (λ ts. (G (map complement hs)).changes ≤ suc (G ts).changes) (sym (complements_twice o.last.before)) o.falls;
      };
}
