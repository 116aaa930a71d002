-- Lists of transients of which each is a prefix of another's.
use Rattle.std.proofs.Common.{◌≡◌, ℕ, zero, suc, ◌+◌, ◌<◌, ◌≤◌, not, List, [], ◌∷◌, map, length, get_or, set, refl, ap, ◌∙◌, arith}
use Rattle.algebras.specs.Transient.{Transient, complement}
use Rattle.algebras.specs.Sums.{starts, total_changes}
use Rattle.algebras.specs.Words.{same_transient, complement_involution}
use Rattle.algebras.specs.Hearing.{at_rest, longer, hears, changes_at}

-- Each transient of the first list is a prefix of the second list's: the same start, and no more changes.
pub data Prefixes : List Transient → List Transient → Type 0 where
  none : Prefixes [] []
  next : {h x : Transient} {hs xs : List Transient} → h.start ≡ x.start → h.changes ≤ x.changes → Prefixes hs xs
      → Prefixes (h ∷ hs) (x ∷ xs)

-- Every list is a list of prefixes of itself.
pub prefixes_self : (hs : List Transient) → Prefixes hs hs
prefixes_self [] = none
prefixes_self (h ∷ hs) = next refl (omega arith) (prefixes_self hs)

-- At rest every pin has heard a prefix of its wire.
pub rest_prefixes : (xs : List Transient) → Prefixes (map at_rest xs) xs
rest_prefixes [] = none
rest_prefixes (x ∷ xs) = next refl (omega arith) (rest_prefixes xs)

-- A pin that hears one change more extends its prefix.
pub hears_prefixes : (i : ℕ) (hs : List Transient) → Prefixes hs (hears i hs)
hears_prefixes i [] = none
hears_prefixes zero (h ∷ hs) = next refl (omega arith) (prefixes_self hs)
hears_prefixes (suc i) (h ∷ hs) = next refl (omega arith) (hears_prefixes i hs)

-- A pin behind its wire still has a prefix of it after one change more.
pub prefixes_hear : (i : ℕ) {hs xs : List Transient} → Prefixes hs xs → changes_at hs i < changes_at xs i → Prefixes (hears i hs) xs
prefixes_hear i none l = none
prefixes_hear zero (next s n p) l = next s l p
prefixes_hear (suc i) (next s n p) l = next s n (prefixes_hear i p l)

-- One change more at pin i is at most one more there.
pub changes_at_hears : (i : ℕ) (hs : List Transient) → changes_at (hears i hs) i ≤ suc (changes_at hs i)
changes_at_hears i [] = omega arith
changes_at_hears zero (h ∷ hs) = omega arith
changes_at_hears (suc i) (h ∷ hs) = changes_at_hears i hs

-- No pin has heard more than its wire's changes.
pub prefixes_at : (i : ℕ) {hs xs : List Transient} → Prefixes hs xs → changes_at hs i ≤ changes_at xs i
prefixes_at i none = omega arith
prefixes_at zero (next s n p) = n
prefixes_at (suc i) (next s n p) = prefixes_at i p

-- A pin that hears one change more, by its place in the list.
pub hears_set : (i : ℕ) (hs : List Transient) (d : Transient) → hears i hs ≡ set hs i (longer (get_or hs i d))
hears_set i [] d = refl
hears_set zero (h ∷ hs) d = refl
hears_set (suc i) (h ∷ hs) d = ap (λ (ts : List Transient). h ∷ ts) (hears_set i hs d)

-- Prefixes of prefixes are prefixes.
pub prefixes_join : {gs hs xs : List Transient} → Prefixes gs hs → Prefixes hs xs → Prefixes gs xs
prefixes_join none none = none
prefixes_join (next s n p) (next t m q) = next (s ∙ t) (omega arith) (prefixes_join p q)

-- There are as many prefixes as words.
pub prefixes_length : {hs xs : List Transient} → Prefixes hs xs → length hs ≡ length xs
prefixes_length none = refl
prefixes_length (next s n p) = ap suc (prefixes_length p)

-- The starts of prefixes are the starts.
pub prefixes_starts : {hs xs : List Transient} → Prefixes hs xs → starts hs ≡ starts xs
prefixes_starts none = refl
prefixes_starts (next s n p) = let e = prefixes_starts p in cc

-- Prefixes have no more changes in all.
pub prefixes_total : {hs xs : List Transient} → Prefixes hs xs → total_changes hs ≤ total_changes xs
prefixes_total none = omega arith
prefixes_total (next s n p) = let l = prefixes_total p in omega arith

-- At rest the same is heard of words and of their prefixes.
pub rest_same : {hs xs : List Transient} → Prefixes hs xs → map at_rest hs ≡ map at_rest xs
rest_same none = refl
rest_same (next {h} {x} s n p) =
    let t = same_transient (at_rest h) (at_rest x) s refl in
    let e = rest_same p in
    cc

-- Prefixes with no change at all are what is heard at rest.
pub prefixes_rest : {hs xs : List Transient} → Prefixes hs xs → total_changes hs ≡ 0 → hs ≡ map at_rest xs
prefixes_rest none z = refl
prefixes_rest (next {h} {x} s n p) z =
    let c : h.changes ≡ 0 = omega arith in
    let e = prefixes_rest p (omega arith) in
    let t = same_transient h (at_rest x) s c in
    cc

-- A pin that hears one change more adds one to all changes.
pub hears_total : (i : ℕ) (hs : List Transient) → changes_at hs i < changes_at (hears i hs) i → total_changes (hears i hs) ≡ suc (total_changes hs)
hears_total i [] l = omega arith
hears_total zero (h ∷ hs) l = omega arith
hears_total (suc i) (h ∷ hs) l = let e = hears_total i hs l in omega arith

-- The complements of prefixes are prefixes of the complements.
pub prefixes_complement : {hs xs : List Transient} → Prefixes hs xs → Prefixes (map complement hs) (map complement xs)
prefixes_complement none = none
prefixes_complement (next s n p) = next (ap not s) n (prefixes_complement p)

-- A complement hears as the word itself does.
pub hears_complement : (i : ℕ) (hs : List Transient) → hears i (map complement hs) ≡ map complement (hears i hs)
hears_complement i [] = refl
hears_complement zero (h ∷ hs) = refl
hears_complement (suc i) (h ∷ hs) = ap (λ ts. complement h ∷ ts) (hears_complement i hs)

-- Complements have the same changes at each pin.
pub changes_at_complement : (hs : List Transient) (i : ℕ) → changes_at (map complement hs) i ≡ changes_at hs i
changes_at_complement [] i = refl
changes_at_complement (h ∷ hs) zero = refl
changes_at_complement (h ∷ hs) (suc i) = changes_at_complement hs i

-- Complements have the same changes in all.
pub total_complement : (hs : List Transient) → total_changes (map complement hs) ≡ total_changes hs
total_complement [] = refl
total_complement (h ∷ hs) = ap (λ n. h.changes + n) (total_complement hs)

-- Complements of complements are the transients themselves.
pub complements_twice : (hs : List Transient) → map complement (map complement hs) ≡ hs
complements_twice [] = refl
complements_twice (h ∷ hs) = let p = complement_involution h in let q = complements_twice hs in cc
