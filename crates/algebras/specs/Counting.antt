-- Counting changes up to a cap: what is known of transients, by their starts, ends and counts, decides every operation.
use Rattle.std.specs.Prelude.{◌≡◌, ℕ, zero, suc, ◌+◌, ◌-◌, ◌%◌, ◌≤◌, min, Bool, true, false, not, ◌&&◌, ◌||◌, [], ◌∷◌, ◌==◌, refl}
use Rattle.std.proofs.Common.{sym, ap, ◌∙◌, arith}
use mir.Val.{bool_byte}
use Rattle.std.proofs.Math.Bool.{or-false}
use Rattle.std.proofs.lemmas.Bool.Decides.{nat_tests}
use Rattle.algebras.specs.Transient.{Transient, flipped, end_of, complement, zero_word, one_word}
use Rattle.algebras.specs.Sums.{sum2, product2, exclusive2}
use Rattle.algebras.specs.Letters.{bit, differ}
use Rattle.algebras.specs.Words.{same_transient, complement_end}
use Rattle.algebras.specs.SumsLemmas.{flipped_parity, word_counted, moving_sum, sum_single, sum_swap, sum_end, differ_false, exclusive_end}

-- What is known of a transient under a cap: its start, its end, and its changes up to the cap.
pub record Known (cap : ℕ) (t : Transient) (s e : Bool) (n : ℕ) : Type 0 where
  pub starts : t.start ≡ s
  pub ends : end_of t ≡ e
  pub counts : min t.changes cap ≡ min n cap

-- The entry of a transient, where `makes` makes an entry of a start, an end and a number of changes.
abbrev pub entry_of : {Entry : Type 0} → (Bool → Bool → ℕ → Entry) → Transient → Entry
entry_of makes t = makes t.start (end_of t) t.changes

-- What an algebra that counts up to a cap keeps: its entries say a start, an end and a count.
pub record CountingLaws (cap : ℕ) {Entry : Type 0} (makes : Bool → Bool → ℕ → Entry) (stands_for : Entry → Transient) : Type 0 where
  pub two : 2 ≤ cap
  -- Numbers that are the same up to the cap make the same entry.
  pub capped : (s e : Bool) (m n : ℕ) → min m cap ≡ min n cap → makes s e m ≡ makes s e n
  -- A transient's entry stands for one that is known as it is.
  pub known : (t : Transient) → Known cap (stands_for (entry_of makes t)) t.start (end_of t) t.changes

-- A transient is known as what it is.
pub itself_known : (cap : ℕ) (t : Transient) → Known cap t t.start (end_of t) t.changes
itself_known cap t = record { starts = refl; ends = refl; counts = refl }

-- What is known decides the complement.
pub known_complement : {cap : ℕ} {t : Transient} {s e : Bool} {n : ℕ} → Known cap t s e n → Known cap (complement t) (not s) (not e) n
known_complement {t} k = record { starts = ap not k.starts; ends = complement_end t ∙ ap not k.ends; counts = k.counts }

-- What counts 0 is a word of one letter.
pub known_constant : {cap : ℕ} → 2 ≤ cap → {t : Transient} {s e : Bool} → Known cap t s e 0 → t ≡ record { start = s; changes = 0 }
known_constant h {t} {s} k =
    let c = k.counts in
    same_transient t (record { start = s; changes = 0 }) k.starts (omega arith)

-- The word 1 decides a sum, and the word 0 leaves the other.
pub sum_one_right : (t : Transient) → sum2 t one_word ≡ one_word
sum_one_right t = sum_swap t one_word []

pub sum_zero_right : (t : Transient) → sum2 t zero_word ≡ t
sum_zero_right t = sum_swap t zero_word [] ∙ sum_single t

-- Counting up to the cap loses nothing of a sum's changes, in numbers: A and B changes that count m and n, of words that start with a
-- and c and end with b and d.
pub capped_sum : (cap A B m n : ℕ) (a b c d : Bool) → 2 ≤ cap → bit a + bit b ≤ A → bit c + bit d ≤ B → min A cap ≡ min m cap → min B cap ≡ min n cap
    → min ((A + (B + 0)) - (bit a + (bit c + 0) - 1) - (bit b + (bit d + 0) - 1)) cap ≡ min ((m + n) - (bit (a && c) + bit (b && d))) cap
capped_sum cap A B m n a b c d h i j p q = grind arith

-- The sum of two transients that move, by their starts and ends, and by numbers that are their changes up to the cap.
pub moving_known : {cap : ℕ} → 2 ≤ cap → (x y : Transient) (m n : ℕ) → min x.changes cap ≡ min m cap → min y.changes cap ≡ min n cap → 1 ≤ m → 1 ≤ n
    → Known cap (sum2 x y) (x.start || y.start) (end_of x || end_of y) ((m + n) - (bit (x.start && y.start) + bit (end_of x && end_of y)))
moving_known {cap} h x y m n p q i j =
    let mx : 1 ≤ x.changes = omega arith in
    let my : 1 ≤ y.changes = omega arith in
    let cx = (word_counted x.start x.changes mx).enough in
    let cy = (word_counted y.start y.changes my).enough in
    let sum_is = moving_sum (x ∷ y ∷ []) (mx, (my, tt)) in
    record {
      starts = ap (λ (r : Transient). r.start) sum_is ∙ ap (λ (b : Bool). x.start || b) (or-false y.start);
      ends = sum_end (x ∷ y ∷ []) ∙ ap (λ (b : Bool). end_of x || b) (or-false (end_of y));
      counts = ap (λ (r : Transient). min r.changes cap) sum_is ∙ capped_sum cap x.changes y.changes m n x.start (end_of x) y.start (end_of y) h cx cy p q;
    }

-- What is known of two moving transients decides what is known of their sum.
pub known_moving_sum : {cap : ℕ} → 2 ≤ cap → (x y : Transient) {s e : Bool} {m : ℕ} {t f : Bool} {n : ℕ}
    → Known cap x s e m → Known cap y t f n → 1 ≤ m → 1 ≤ n
    → Known cap (sum2 x y) (s || t) (e || f) ((m + n) - (bit (s && t) + bit (e && f)))
known_moving_sum h x y {m} {n} k l p q = rw (← k.starts, ← k.ends, ← l.starts, ← l.ends) (moving_known h x y m n k.counts l.counts p q)

-- What is known of two transients decides what is known of their exclusive sum.
pub known_exclusive : {cap : ℕ} {x y : Transient} {s e : Bool} {m : ℕ} {t f : Bool} {n : ℕ}
    → Known cap x s e m → Known cap y t f n → Known cap (exclusive2 x y) (differ s t) (differ e f) (m + n)
known_exclusive {x} {y} k l =
    let p = k.counts in
    let q = l.counts in
    rw (← k.starts, ← k.ends, ← l.starts, ← l.ends) (record {
      starts = ap (differ x.start) (differ_false y.start);
      ends = exclusive_end (x ∷ y ∷ []) ∙ ap (differ (end_of x)) (differ_false (end_of y));
      counts = omega arith;
    })

-- What is known of two transients decides what is known of their operation: this start, this end, this count.
abbrev pub Decided : ℕ → (Transient → Transient → Transient) → Type 0
Decided cap op = (s e : Bool) (m : ℕ) (t f : Bool) (n : ℕ)
    → (a : Bool) × (b : Bool) × (k : ℕ) × ((x y : Transient) → Known cap x s e m → Known cap y t f n → Known cap (op x y) a b k)

-- It decides their sum,
pub sum_decided : (cap : ℕ) → 2 ≤ cap → Decided cap sum2
sum_decided cap h true e zero t f n = (true, true, 0, λ x y p q. rw (known_constant h p) (itself_known cap one_word))
sum_decided cap h false e zero t f n = (t, f, n, λ x y p q. rw (known_constant h p, sum_single y) q)
sum_decided cap h s e (suc m) true f zero = (true, true, 0, λ x y p q. rw (known_constant h q, sum_one_right x) (itself_known cap one_word))
sum_decided cap h s e (suc m) false f zero = (s, e, suc m, λ x y p q. rw (known_constant h q, sum_zero_right x) p)
sum_decided cap h s e (suc m) t f (suc n) = (
  s || t,
  e || f,
  (suc m + suc n) - (bit (s && t) + bit (e && f)),
  λ x y p q. known_moving_sum h x y p q (omega arith) (omega arith),
)

-- their product,
pub product_decided : (cap : ℕ) → 2 ≤ cap → Decided cap product2
product_decided cap h s e m t f n =
    let d = sum_decided cap h (not s) (not e) m (not t) (not f) n in
    (not d.0, not d.1, d.2, λ x y p q. known_complement (d.3 (complement x) (complement y) (known_complement p) (known_complement q)))

-- and their exclusive sum.
pub exclusive_decided : (cap : ℕ) → Decided cap exclusive2
exclusive_decided cap s e m t f n = (differ s t, differ e f, m + n, λ x y p q. known_exclusive p q)

-- An algebra that counts up to a cap.
module _ {cap : ℕ} {Entry : Type 0} {makes : Bool → Bool → ℕ → Entry} {stands_for : Entry → Transient} (laws : CountingLaws cap makes stands_for) where
  -- What is known decides the entry.
  pub known_entry : {t : Transient} {s e : Bool} {n : ℕ} → Known cap t s e n → entry_of makes t ≡ makes s e n
  known_entry {t} {n} k = rw (← k.starts, ← k.ends) (laws.capped t.start (end_of t) t.changes n k.counts)

  -- What a transient's entry stands for has that entry,
  pub entry_stands : (t : Transient) → entry_of makes (stands_for (entry_of makes t)) ≡ entry_of makes t
  entry_stands t = known_entry (laws.known t)

  -- its complement has that of the complement,
  pub entry_complement : (t : Transient) → entry_of makes (complement (stands_for (entry_of makes t))) ≡ entry_of makes (complement t)
  entry_complement t = known_entry (known_complement (laws.known t)) ∙ sym (known_entry (known_complement (itself_known cap t)))

  -- a decided operation on such has that of the operation,
  pub entry_operation : (op : Transient → Transient → Transient) → Decided cap op
      → (s t : Transient) → entry_of makes (op (stands_for (entry_of makes s)) (stands_for (entry_of makes t))) ≡ entry_of makes (op s t)
  entry_operation op decided s t =
      let d = decided s.start (end_of s) s.changes t.start (end_of t) t.changes in
      known_entry (d.3 (stands_for (entry_of makes s)) (stands_for (entry_of makes t)) (laws.known s) (laws.known t))
      ∙ sym (known_entry (d.3 s t (itself_known cap s) (itself_known cap t)))

  -- as the sum, the product and the exclusive sum have.
  pub entry_sum : (s t : Transient) → entry_of makes (sum2 (stands_for (entry_of makes s)) (stands_for (entry_of makes t))) ≡ entry_of makes (sum2 s t)
  entry_sum = entry_operation sum2 (sum_decided cap laws.two)

  pub entry_product : (s t : Transient) → entry_of makes (product2 (stands_for (entry_of makes s)) (stands_for (entry_of makes t))) ≡ entry_of makes (product2 s t)
  entry_product = entry_operation product2 (product_decided cap laws.two)

  pub entry_exclusive : (s t : Transient) → entry_of makes (exclusive2 (stands_for (entry_of makes s)) (stands_for (entry_of makes t))) ≡ entry_of makes (exclusive2 s t)
  entry_exclusive = entry_operation exclusive2 (exclusive_decided cap)

-- The end of a drive, from whether its changes are odd.
pub driven_end : (s : Bool) (n : ℕ) → flipped s n ≡ differ s (n % 2 == 1)
driven_end s n = let p = flipped_parity s n in grind (arith, nat_tests)

-- A letter as the code's number.
pub byte_bit : (b : Bool) → bool_byte b ≡ bit b
byte_bit b = grind arith
