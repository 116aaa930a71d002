-- The changes of a sum: how they grow with what the pins have heard, and which change can be heard last.
use Rattle.std.proofs.Common.{◌≡◌, ℕ, zero, suc, ◌+◌, ◌-◌, ◌≤◌, Bool, true, false, cond, not, ◌&&◌, eqb, ◌⊎◌, List, [], ◌∷◌, map, sym, refl, ap, ◌∙◌, inl, inr, arith}
use Rattle.std.proofs.lemmas.Bool.{cases_Bool, or_parts, or_from, not-true, true≢false}
use Rattle.std.proofs.lemmas.Bool.Decides.{nat_tests}
use Rattle.algebras.specs.Transient.{Transient, flipped, end_of, is_zero, is_one}
use Rattle.algebras.specs.Sums.{starts, ends, total_changes, without_zeros, deduction, sum_changes, sum_of_rest, sum}
use Rattle.algebras.specs.Letters.{or_of, bit, ones}
use Rattle.algebras.specs.SumsLemmas.{flipped_parity, zero_is, moving_not_one, sum_is_rest, sum_is_one, sums_of_transients}
use Rattle.algebras.proofs.Prefixes.{Prefixes, none, next, prefixes_starts, prefixes_total}
use Rattle.algebras.proofs.Answering.{LastChange, HeardLast, LongestFor}
use Rattle.algebras.proofs.LastChanges.{last_first, last_later, some_last, last_total, last_starts}

-- No word of the list is 1.
abbrev pub NoOne : List Transient → Type 0
NoOne hs = or_of (map is_one hs) ≡ false

-- What is counted of a list of words is the same without its words 0.
pub record SameCounts (xs ys : List Transient) : Type 0 where
  pub totals : total_changes xs ≡ total_changes ys
  pub at_starts : ones (starts xs) ≡ ones (starts ys)
  pub at_ends : ones (ends xs) ≡ ones (ends ys)

pub without_counts : (xs : List Transient) → SameCounts (without_zeros xs) xs
without_counts [] = record { totals = refl; at_starts = refl; at_ends = refl }
without_counts (x ∷ xs) = go (is_zero x) refl (without_counts xs)
  where
    go : (z : Bool) → is_zero x ≡ z → SameCounts (without_zeros xs) xs → SameCounts (cond z (without_zeros xs) (x ∷ without_zeros xs)) (x ∷ xs)
    go true z r =
        let e = zero_is x z in
        let c = ap (λ (t : Transient). t.changes) e in
        let s = ap (λ (t : Transient). bit t.start) e in
        let n = ap (λ (t : Transient). bit (end_of t)) e in
        record { totals = omega arith; at_starts = omega arith; at_ends = omega arith }
    go false z r = record { totals = omega arith; at_starts = omega arith; at_ends = omega arith }

-- The changes of a sum of what remains.
pub rest_changes : (xs : List Transient) → (sum_of_rest xs).changes ≡ sum_changes xs
rest_changes [] = refl
rest_changes (x ∷ xs) = refl

-- Where no word is 1, a sum has the changes of its words less both deductions, and the words 0 count for nothing.
pub changes_of_sum : (xs : List Transient) → NoOne xs → (sum xs).changes ≡ sum_changes xs
changes_of_sum xs o =
    let r = without_counts xs in
    let t = r.totals in
    let s = r.at_starts in
    let e = r.at_ends in
    let k : sum_changes (without_zeros xs) ≡ sum_changes xs = cc in
    ap (λ (y : Transient). y.changes) (sum_is_rest xs o) ∙ rest_changes (without_zeros xs) ∙ k

-- A sum has no more changes than its words.
pub sum_within : (xs : List Transient) → (sum xs).changes ≤ total_changes xs
sum_within xs =
    elim (cases_Bool (or_of (map is_one xs))) [
      | inl o ↦ let e = ap (λ (y : Transient). y.changes) (sum_is_one xs o) in omega arith
      | inr o ↦ let e = changes_of_sum xs o in omega arith
    ]

-- A word of which a prefix is not 1 is not 1.
pub prefix_not_one : (a b : Bool) (m n : ℕ) → a ≡ b → m ≤ n → (a && eqb m 0) ≡ false → (b && eqb n 0) ≡ false
prefix_not_one a b m n e l o = grind (arith, nat_tests)

-- Where no prefix is 1, no word is.
pub prefixes_no_one : {hs xs : List Transient} → Prefixes hs xs → NoOne hs → NoOne xs
prefixes_no_one none o = refl
prefixes_no_one (next {h} {x} {hs} {xs} s n p) o =
    let q = or_parts (is_one h) (or_of (map is_one hs)) o in
    or_from (is_one x) (or_of (map is_one xs)) (prefix_not_one h.start x.start h.changes x.changes s n q.0) (prefixes_no_one p q.1)

-- A word's end rises by no more than its changes grow.
pub end_grows : (a b : Bool) (m n : ℕ) → a ≡ b → m ≤ n → bit (flipped b n) + m ≤ bit (flipped a m) + n
end_grows a b m n e l = grind arith

-- The ends at 1 rise by no more than all changes grow.
pub ends_grow : {hs xs : List Transient} → Prefixes hs xs → ones (ends xs) + total_changes hs ≤ ones (ends hs) + total_changes xs
ends_grow none = omega arith
ends_grow (next {h} {x} s n p) =
    let e = end_grows h.start x.start h.changes x.changes s n in
    let r = ends_grow p in
    omega arith

-- What is left after the deductions grows, in numbers.
pub deducted_grows : (T U M N K L : ℕ) → M ≡ N → T ≤ U → L + T ≤ K + U → T - deduction M - deduction K ≤ U - deduction N - deduction L
deducted_grows T U M N K L e h k = omega arith

-- The changes of a sum grow with what its pins have heard.
pub sum_grows : {hs xs : List Transient} → Prefixes hs xs → (sum hs).changes ≤ (sum xs).changes
sum_grows {hs} {xs} p =
    elim (cases_Bool (or_of (map is_one hs))) [
      | inl o ↦ let e = ap (λ (y : Transient). y.changes) (sum_is_one hs o) in omega arith
      | inr o ↦
          rw (changes_of_sum hs o, changes_of_sum xs (prefixes_no_one p o))
          (deducted_grows (total_changes hs) (total_changes xs) (ones (starts hs)) (ones (starts xs)) (ones (ends hs)) (ones (ends xs))
          (ap ones (prefixes_starts p)) (prefixes_total p) (ends_grow p))
    ]

-- A last change of a list in which no word is 1, with no word 1 before it either and so many ends at 1.
pub record Taken (hs : List Transient) (K : ℕ) : Type 0 where
  pub last : LastChange hs
  pub no_one : NoOne last.before
  pub at_ends : ones (ends last.before) ≡ K

-- The change of a later pin.
pub taken_later : (h : Transient) {hs : List Transient} (K L : ℕ) → is_one h ≡ false → bit (end_of h) + K ≡ L → Taken hs K → Taken (h ∷ hs) L
taken_later h K L o e r = record {
  last = last_later h r.last;
  no_one = or_from (is_one h) (or_of (map is_one r.last.before)) o r.no_one;
  at_ends = omega arith;
}

-- The change of the first pin.
pub taken_first : (b : Bool) (n : ℕ) (hs : List Transient) (K : ℕ) → is_one (record { start = b; changes = n }) ≡ false → NoOne hs
    → bit (flipped b n) + ones (ends hs) ≡ K → Taken (record { start = b; changes = suc n } ∷ hs) K
taken_first b n hs K o a e = record {
  last = last_first b n hs;
  no_one = or_from (is_one (record { start = b; changes = n })) (or_of (map is_one hs)) o a;
  at_ends = e;
}

-- Of a letter and its flip one is 1.
pub bit_not : (b : Bool) → bit (not b) + bit b ≡ 1
bit_not b = grind arith

-- A word that ends with 0 is not 1.
pub low_not_one : (h : Transient) → end_of h ≡ false → is_one h ≡ false
low_not_one h e = let p = flipped_parity h.start h.changes in grind (arith, nat_tests)

-- A last change that is a rise: before it one end less was 1.
abbrev pub Rise : List Transient → Type 0
Rise hs = (K : ℕ) × (ones (ends hs) ≡ suc K) × Taken hs K

-- A word that ends with 1 and is not 1 itself ends with a rise.
pub rise_first : (b : Bool) (n : ℕ) (hs : List Transient) → flipped b n ≡ true → is_one (record { start = b; changes = n }) ≡ false → NoOne hs
    → Rise (record { start = b; changes = n } ∷ hs)
rise_first true zero hs e o a = absurd (true≢false o)
rise_first false zero hs e o a = absurd (true≢false (sym e))
rise_first b (suc n) hs e o a =
    let f = not-true (flipped b n) e in
    let p = ap bit e in
    let q = ap bit f in
    (ones (ends hs), omega arith, taken_first b n hs (ones (ends hs)) (low_not_one (record { start = b; changes = n }) f) a (omega arith))

-- Where no word is 1, some pin's last change is a rise, or all ends are 0.
pub rise_or_low : (hs : List Transient) → NoOne hs → Rise hs ⊎ (ones (ends hs) ≡ 0)
rise_or_low [] o = inr refl
rise_or_low (h ∷ hs) o =
    let q = or_parts (is_one h) (or_of (map is_one hs)) o in
    elim (cases_Bool (end_of h)) [
      | inl e ↦ inl (rise_first h.start h.changes hs e q.0 q.1)
      | inr e ↦
          let p = ap bit e in
          elim (rise_or_low hs q.1) [
            | inl r ↦ inl (bit (end_of h) + r.0, omega arith, taken_later h r.0 (bit (end_of h) + r.0) q.0 refl r.2)
            | inr z ↦ inr (omega arith)
          ]
    ]

-- Where a word ends with 0 and the others have no pulse, it has two changes or moves only if it starts with 1.
pub pulse_first : (b : Bool) (n : ℕ) (hs : List Transient) → NoOne hs → bit (flipped b n) + ones (ends hs) ≡ 0 → total_changes hs ≤ ones (starts hs)
    → Taken (record { start = b; changes = n } ∷ hs) 1 ⊎ (n + total_changes hs ≤ bit b + ones (starts hs))
pulse_first b zero hs a z l = inr (omega arith)
pulse_first true (suc zero) hs a z l = inr (omega arith)
pulse_first false (suc zero) hs a z l = absurd (omega arith)
pulse_first b (suc (suc n)) hs a z l =
    let k = bit_not (flipped b (suc n)) in
    inl (taken_first b (suc n) hs 1 (moving_not_one (record { start = b; changes = suc n }) (omega arith)) a (omega arith))

-- Where no word is 1 and all ends are 0, some pin has two changes, or there are no more changes than starts at 1.
pub pulse_or_few : (hs : List Transient) → NoOne hs → ones (ends hs) ≡ 0 → Taken hs 1 ⊎ (total_changes hs ≤ ones (starts hs))
pulse_or_few [] o z = inr (omega arith)
pulse_or_few (h ∷ hs) o z =
    let q = or_parts (is_one h) (or_of (map is_one hs)) o in
    elim (pulse_or_few hs q.1 (omega arith)) [
      | inl t ↦ inl (taken_later h 1 1 q.0 (omega arith) t)
      | inr l ↦ pulse_first h.start h.changes hs q.1 z l
    ]

-- What is left after the deductions falls by one at most, in numbers.
pub deducted_falls : (T U M N K L : ℕ) → T ≡ suc U → M ≡ N → deduction L ≤ deduction K → T - deduction M - deduction K ≤ suc (U - deduction N - deduction L)
deducted_falls T U M N K L e f l = omega arith

-- A change taken that leaves no greater deduction at the ends takes at most one off the sum.
pub taken_falls : {hs : List Transient} {K : ℕ} (t : Taken hs K) → NoOne hs → deduction K ≤ deduction (ones (ends hs))
    → (sum hs).changes ≤ suc (sum t.last.before).changes
taken_falls {hs} {K} t o l =
    let gs = t.last.before in
    let d : deduction (ones (ends gs)) ≤ deduction (ones (ends hs)) = rw t.at_ends l in
    rw (changes_of_sum hs o, changes_of_sum gs t.no_one)
    (deducted_falls (total_changes hs) (total_changes gs) (ones (starts hs)) (ones (starts gs)) (ones (ends hs)) (ones (ends gs))
    (last_total t.last) (ap ones (last_starts t.last)) d)

-- A sum of no more changes than starts at 1, with all ends 0, makes at most one change.
pub few_changes : (hs : List Transient) → NoOne hs → ones (ends hs) ≡ 0 → total_changes hs ≤ ones (starts hs) → (sum hs).changes ≤ 1
few_changes hs o z l = let e = changes_of_sum hs o in omega arith

-- Some change can be heard last that adds at most one to the sum: a rise, else one of two at a pin, else any.
pub sum_last : (hs : List Transient) → 1 ≤ total_changes hs → HeardLast (λ ts. (sum ts).changes) hs
sum_last hs m =
    elim (cases_Bool (or_of (map is_one hs))) [
      | inl o ↦
          let e = ap (λ (y : Transient). y.changes) (sum_is_one hs o) in
          record { last = some_last hs m; falls = omega arith }
      | inr o ↦
          elim (rise_or_low hs o) [
            | inl r ↦ record { last = r.2.last; falls = taken_falls r.2 o (omega (arith, r.1)) }
            | inr z ↦
                elim (pulse_or_few hs o z) [
                  | inl t ↦ record { last = t.last; falls = taken_falls t o (omega arith) }
                  | inr l ↦ let f = few_changes hs o z l in record { last = some_last hs m; falls = omega arith }
                ]
          ]
    ]

-- OR: the sum.
pub sum_longest : LongestFor or_of sum
sum_longest = record { follows = sums_of_transients.sum_follows; grows = λ p. sum_grows p; within = sum_within; heard_last = sum_last }
