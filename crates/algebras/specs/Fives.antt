-- The five-valued algebra: a table of codes follows an operation where one test says so, and a symbol decides every operation.
use Rattle.std.specs.Prelude.{◌≡◌, ℕ, zero, suc, ◌≤◌, Bool, true, false, ◌&&◌, ◌⊎◌, List, [], ◌∷◌, ◌==◌, slice_index, refl}
use Rattle.std.proofs.Common.{sym, ap, ◌∙◌, inl, inr, ⊎_elim, arith}
use Rattle.std.proofs.lemmas.Bool.{eqb-true}
use Rattle.algebras.specs.declared.five.Symbol.{Symbol}
use Rattle.algebras.specs.declared.five.Symbol.TheVariants.{Zero, One, Rise, Fall, Half}
use Rattle.algebras.specs.declared.five.FiveGrade.{FiveGrade}
use Rattle.algebras.specs.Transient.{Transient, end_of, complement}
use Rattle.algebras.specs.Sums.{sum2, product2, exclusive2}
use Rattle.algebras.specs.Five.{symbol_code, all_symbols, symbol_of, symbol_by, symbol_for, symbol_word, stands_for, five, pair_place}
use Rattle.algebras.specs.SumsLemmas.{bit_small, Moves, word_counted, all_deducted, moving_sum, sum_swap, exclusive_swap}
use Rattle.algebras.specs.Counting.{sum_one_right, sum_zero_right}

-- Whether each symbol of a list passes a test.
abbrev pub each : (Symbol → Bool) → List Symbol → Bool
each test [] = true
each test (s ∷ ss) = test s && each test ss

-- A test that all symbols pass is passed by every one.
pub at_each : (test : Symbol → Bool) → each test all_symbols ≡ true → (s : Symbol) → test s ≡ true
at_each test p Zero = grind arith
at_each test p One = grind arith
at_each test p Rise = grind arith
at_each test p Fall = grind arith
at_each test p Half = grind arith

-- Whether a table has, for two symbols, the code of what an operation makes of their words,
abbrev pub entry_follows : (Transient → Transient → Transient) → List ℕ → Symbol → Symbol → Bool
entry_follows op table s t = slice_index table (pair_place s t) == symbol_code (symbol_for (op (symbol_word s) (symbol_word t)))

-- and for every two.
abbrev pub follows : (Transient → Transient → Transient) → List ℕ → Bool
follows op table = each (λ s. each (entry_follows op table s) all_symbols) all_symbols

-- Then it has the grade of what the operation makes of any two entries.
pub table_rule : (op : Transient → Transient → Transient) (table : List ℕ) → follows op table ≡ true
    → (x y : FiveGrade) → record { code = slice_index table (pair_place (symbol_of x) (symbol_of y)) } ≡ five (op (stands_for x) (stands_for y))
table_rule op table p x y =
    let row = at_each (λ s. each (entry_follows op table s) all_symbols) p (symbol_of x) in
    let here = at_each (entry_follows op table (symbol_of x)) row (symbol_of y) in
    ap (λ (n : ℕ). record { code = n }) (eqb-true (slice_index table (pair_place (symbol_of x) (symbol_of y))) (symbol_code (symbol_for (op (stands_for x) (stands_for y)))) here)

-- A symbol's code is read as the symbol.
pub code_read : (s : Symbol) → symbol_of (record { code = symbol_code s }) ≡ s
code_read Zero = refl
code_read One = refl
code_read Rise = refl
code_read Fall = refl
code_read Half = refl

-- A transient's grade stands for the word of its symbol.
pub grade_word : (t : Transient) → stands_for (five t) ≡ symbol_word (symbol_for t)
grade_word t = ap symbol_word (code_read (symbol_for t))

-- Two changes or more are one-half.
pub many_half : (t : Transient) → 2 ≤ t.changes → symbol_for t ≡ Half
many_half t h = go t.start t.changes h
  where
    go : (b : Bool) (n : ℕ) → 2 ≤ n → symbol_by b n ≡ Half
    go b zero h = absurd (omega arith)
    go b (suc zero) h = absurd (omega arith)
    go b (suc (suc n)) h = refl

-- A transient is the word of its symbol, or changes twice or more, as that word then does.
pub word_or_many : (t : Transient) → (symbol_word (symbol_for t) ≡ t) ⊎ ((2 ≤ (symbol_word (symbol_for t)).changes) × (2 ≤ t.changes))
word_or_many t = go t.start t.changes
  where
    go : (b : Bool) (n : ℕ) → (symbol_word (symbol_by b n) ≡ record { start = b; changes = n }) ⊎ ((2 ≤ (symbol_word (symbol_by b n)).changes) × (2 ≤ n))
    go false zero = inl refl
    go true zero = inl refl
    go false (suc zero) = inl refl
    go true (suc zero) = inl refl
    go b (suc (suc n)) = inr (omega arith, omega arith)

-- The complement has the symbol that the complement of the symbol's word has.
pub complement_symbol : (t : Transient) → symbol_for (complement (symbol_word (symbol_for t))) ≡ symbol_for (complement t)
complement_symbol t = go t.start t.changes
  where
    go : (b : Bool) (n : ℕ) → symbol_for (complement (symbol_word (symbol_by b n))) ≡ symbol_for (complement (record { start = b; changes = n }))
    go false zero = refl
    go true zero = refl
    go false (suc zero) = refl
    go true (suc zero) = refl
    go b (suc (suc n)) = refl

-- An operation that does not ask for the order, and makes one symbol of all that change twice or more, is decided by symbols.
module _ (op : Transient → Transient → Transient) (swap : (s t : Transient) → op s t ≡ op t s)
    (many : (r s t : Transient) → 2 ≤ r.changes → 2 ≤ s.changes → symbol_for (op r t) ≡ symbol_for (op s t)) where
  -- In its first place,
  pub first_symbol : (s t : Transient) → symbol_for (op (symbol_word (symbol_for s)) t) ≡ symbol_for (op s t)
  first_symbol s t =
      ⊎_elim (λ e. ap (λ (r : Transient). symbol_for (op r t)) e)
      (λ h. many (symbol_word (symbol_for s)) s t h.0 h.1)
      (word_or_many s)

  -- and so in both.
  pub both_symbols : (s t : Transient) → symbol_for (op (symbol_word (symbol_for s)) (symbol_word (symbol_for t))) ≡ symbol_for (op s t)
  both_symbols s t =
      let w : Transient = symbol_word (symbol_for t) in
      first_symbol s w
      ∙ ap symbol_for (swap s w)
      ∙ first_symbol t s
      ∙ ap symbol_for (swap t s)

-- The sum of two words that move changes at least as often as the first.
pub sum_grows : (s t : Transient) → Moves s → Moves t → s.changes ≤ (sum2 s t).changes
sum_grows s t h k =
    let d = all_deducted (s ∷ t ∷ []) (h, (k, tt)) in
    let e = ap (λ (r : Transient). r.changes) (moving_sum (s ∷ t ∷ []) (h, (k, tt))) in
    let n = (word_counted t.start t.changes k).enough in
    let a = bit_small s.start in
    let b = bit_small (end_of s) in
    omega arith

-- With a word that changes twice or more, the sum has a symbol that only the other word decides.
pub sum_many : (r s t : Transient) → 2 ≤ r.changes → 2 ≤ s.changes → symbol_for (sum2 r t) ≡ symbol_for (sum2 s t)
sum_many r s t h k = go t.start t.changes
  where
    moving : (q : Transient) → Moves q → symbol_for (sum2 r q) ≡ symbol_for (sum2 s q)
    moving q m =
        let a = sum_grows r q (omega arith) m in
        let b = sum_grows s q (omega arith) m in
        many_half (sum2 r q) (omega arith) ∙ sym (many_half (sum2 s q) (omega arith))

    go : (b : Bool) (n : ℕ) → symbol_for (sum2 r (record { start = b; changes = n })) ≡ symbol_for (sum2 s (record { start = b; changes = n }))
    go true zero = ap symbol_for (sum_one_right r ∙ sym (sum_one_right s))
    go false zero = ap symbol_for (sum_zero_right r) ∙ many_half r h ∙ sym (ap symbol_for (sum_zero_right s) ∙ many_half s k)
    go b (suc n) = moving (record { start = b; changes = suc n }) (omega arith)

-- The sum has the symbol that the sum of the symbols' words has,
pub sum_symbols : (s t : Transient) → symbol_for (sum2 (symbol_word (symbol_for s)) (symbol_word (symbol_for t))) ≡ symbol_for (sum2 s t)
sum_symbols s t = both_symbols sum2 (λ r q. sum_swap r q []) sum_many s t

-- the exclusive sum too,
pub exclusive_symbols : (s t : Transient) → symbol_for (exclusive2 (symbol_word (symbol_for s)) (symbol_word (symbol_for t))) ≡ symbol_for (exclusive2 s t)
exclusive_symbols s t =
    both_symbols exclusive2 (λ r q. exclusive_swap r q [])
    (λ r s t h k. many_half (exclusive2 r t) (omega arith) ∙ sym (many_half (exclusive2 s t) (omega arith))) s t

-- and the product, by complements and their sum.
pub product_symbols : (s t : Transient) → symbol_for (product2 (symbol_word (symbol_for s)) (symbol_word (symbol_for t))) ≡ symbol_for (product2 s t)
product_symbols s t =
    let w : Symbol → Transient = symbol_word in
    let u : Transient = complement (w (symbol_for s)) in
    let v : Transient = complement (w (symbol_for t)) in
    complement_alike (sum2 u v) (sum2 (complement s) (complement t))
    (sym (sum_symbols u v)
    ∙ ap (λ (q : Symbol). symbol_for (sum2 (w q) (w (symbol_for v)))) (complement_symbol s)
    ∙ ap (λ (q : Symbol). symbol_for (sum2 (w (symbol_for (complement s))) (w q))) (complement_symbol t)
    ∙ sum_symbols (complement s) (complement t))
  where
    complement_alike : (r q : Transient) → symbol_for r ≡ symbol_for q → symbol_for (complement r) ≡ symbol_for (complement q)
    complement_alike r q e = sym (complement_symbol r) ∙ ap (λ (a : Symbol). symbol_for (complement (symbol_word a))) e ∙ complement_symbol q

-- An operation that symbols decide is at grades the grade of its result.
pub operation_grades : (op : Transient → Transient → Transient)
    → ((s t : Transient) → symbol_for (op (symbol_word (symbol_for s)) (symbol_word (symbol_for t))) ≡ symbol_for (op s t))
    → (s t : Transient) → five (op (stands_for (five s)) (stands_for (five t))) ≡ five (op s t)
operation_grades op decided s t =
    ap (λ (r : Transient). five (op r (stands_for (five t)))) (grade_word s)
    ∙ ap (λ (r : Transient). five (op (symbol_word (symbol_for s)) r)) (grade_word t)
    ∙ ap (λ (a : Symbol). record { code = symbol_code a }) (decided s t)
