-- Transients and their words.
use Rattle.std.specs.Prelude.{◌≡◌, ℕ, zero, suc, Bool, false, not, List, [], ◌∷◌, length, get_or, slice_index_or, refl}
use Rattle.std.proofs.Common.{sym, ap, ◌∙◌, arith}
use Rattle.std.proofs.Math.Bool.{not-not}
use Rattle.algebras.specs.Transient.{Transient, flipped, end_of, letters, word, complement, Alternates, TransientsAreWords}

-- Transients with the same start and changes are equal.
pub same_transient : (s t : Transient) → s.start ≡ t.start → s.changes ≡ t.changes → s ≡ t
same_transient s t p q = λ i. record { start = p i; changes = q i }

-- Flipping goes through not.
pub flipped_not : (b : Bool) (n : ℕ) → flipped (not b) n ≡ not (flipped b n)
flipped_not b zero = refl
flipped_not b (suc n) = ap not (flipped_not b n)

-- The complement of the complement is the transient.
pub complement_involution : (t : Transient) → complement (complement t) ≡ t
complement_involution t = same_transient (complement (complement t)) t (not-not t.start) refl

-- The complement ends in the other letter.
pub complement_end : (t : Transient) → end_of (complement t) ≡ not (end_of t)
complement_end t = flipped_not t.start t.changes

-- Neighbouring letters differ.
pub letters_alternate : (b : Bool) (n : ℕ) → Alternates (letters b n)
letters_alternate b zero = tt
letters_alternate b (suc zero) = (refl, tt)
letters_alternate b (suc (suc n)) = (refl, letters_alternate (not b) (suc n))

-- An alternating list is the letters from its first on.
pub alternating_letters : (b : Bool) (w : List Bool) → Alternates (b ∷ w) → (n : ℕ) × (letters b n ≡ b ∷ w)
alternating_letters b [] a = (zero, refl)
alternating_letters b (c ∷ w) a =
    let r = alternating_letters c w a.1 in
    (suc r.0, ap (λ (l : List Bool). b ∷ l) (ap (λ (d : Bool). letters d r.0) (sym a.0) ∙ r.1))

-- An alternating list is the word of a transient.
pub alternating_word : (w : List Bool) → Alternates w → (t : Transient) × (word t ≡ w)
alternating_word [] a = absurd a
alternating_word (b ∷ w) a =
    let r = alternating_letters b w a in
    (record { start = b; changes = r.0 }, r.1)

-- There is one letter more than changes.
pub letters_length : (b : Bool) (n : ℕ) → length (letters b n) ≡ suc n
letters_length b zero = refl
letters_length b (suc n) = ap suc (letters_length (not b) n)

-- The first letter is the one that the letters begin with.
pub letters_first : (b : Bool) (n : ℕ) (d : Bool) → slice_index_or (letters b n) 0 d ≡ b
letters_first b zero d = refl
letters_first b (suc n) d = refl

-- The last letter is the first, flipped once for each change.
pub letters_last : (b : Bool) (n : ℕ) (d : Bool) → slice_index_or (letters b n) n d ≡ flipped b n
letters_last b zero d = refl
letters_last b (suc n) d = letters_last (not b) n d ∙ flipped_not b n

-- A word is of one transient.
pub word_once : (s t : Transient) → word s ≡ word t → s ≡ t
word_once s t e =
    let p = sym (letters_first s.start s.changes false) in
    let q = letters_first t.start t.changes false in
    let m = letters_length s.start s.changes in
    let n = letters_length t.start t.changes in
    let l = ap length e in
    same_transient s t (p ∙ ap (λ (w : List Bool). get_or w 0 false) e ∙ q) (omega arith)

-- Transients are the alternating lists.
pub transients_are_words : TransientsAreWords
transients_are_words = record {
  alternates = λ t. letters_alternate t.start t.changes;
  every = alternating_word;
  once = word_once;
  letters_less_one = λ t. letters_length t.start t.changes;
  first = λ t. letters_first t.start t.changes;
  last = λ t. letters_last t.start t.changes;
}
