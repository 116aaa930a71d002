-- Sums, products and exclusive sums: how they are joined, and what they start and end with.
use Rattle.std.specs.Prelude.{◌≡◌, ℕ, zero, suc, ◌+◌, ◌-◌, ◌*◌, ◌≤◌, min, Bool, true, false, cond, not, ◌&&◌, ◌||◌, List, [], ◌∷◌, map, length, refl}
use Rattle.std.proofs.Common.{sym, ap, ◌∙◌, zero-add, suc-add, arith}
use Rattle.std.proofs.Math.Bool.{or-false}
use Rattle.std.proofs.lemmas.Bool.Decides.{nat_tests}
use Rattle.std.proofs.lemmas.Bool.{or_parts, or_right, or_from, cond-true, cond-false}
use Rattle.algebras.specs.Transient.{Transient, flipped, end_of, complement, zero_word, one_word, is_zero, is_one}
use Rattle.algebras.specs.Sums.{starts, ends, total_changes, without_zeros, deduction, sum_changes, sum_of_rest, sum, product, exclusive, joined, Joins, SumsOfTransients}
use Rattle.algebras.specs.Letters.{or_of, and_of, differ, xor_of, bit, ones}
use Rattle.algebras.specs.Words.{same_transient, complement_involution, complement_end}

-- A letter counts for one at most.
pub bit_small : (b : Bool) → bit b ≤ 1
bit_small b = grind arith

-- Letters that count the same are the same.
pub same_bit : (a b : Bool) → bit a ≡ bit b → a ≡ b
same_bit a b e = grind arith

-- A letter flipped n times differs from it by n, but for an even number.
pub flipped_parity : (b : Bool) (n : ℕ) → (q : ℕ) × (n + bit b ≡ bit (flipped b n) + 2 * q)
flipped_parity b zero = (0, omega arith)
flipped_parity b (suc n) =
    let r = flipped_parity b n in
    (r.0 + bit (flipped b n), grind arith)

-- OR is 1 where some letter is.
pub or_ones : (bs : List Bool) → bit (or_of bs) ≡ min 1 (ones bs)
or_ones [] = refl
or_ones (b ∷ bs) =
    let r = or_ones bs in
    grind arith

-- A word that moves has one change or more.
abbrev pub Moves : Transient → Type 0
Moves x = 1 ≤ x.changes

-- Each word of the list moves.
abbrev pub AllMove : List Transient → Type 0
AllMove [] = Unit {0}
AllMove (x ∷ xs) = Moves x × AllMove xs

-- What is known of T changes of moving words, of which M start and K end with 1.
pub record Counted (T M K : ℕ) : Type 0 where
  pub enough : M + K ≤ T
  pub half : ℕ
  pub parity : T + M ≡ K + 2 * half

-- One moving word, by its start and changes.
pub word_counted : (b : Bool) (n : ℕ) → 1 ≤ n → Counted n (bit b) (bit (flipped b n))
word_counted b n h =
    let r = flipped_parity b n in
    let s = bit_small b in
    let e = bit_small (flipped b n) in
    record { enough = omega arith; half = r.0; parity = r.1 }

-- Several moving words: their starts and ends at 1 are at most their changes, of the parity of the changes.
pub all_counted : (xs : List Transient) → AllMove xs → Counted (total_changes xs) (ones (starts xs)) (ones (ends xs))
all_counted [] h = record { enough = omega arith; half = 0; parity = omega arith }
all_counted (x ∷ xs) h =
    let r = word_counted x.start x.changes h.0 in
    let s = all_counted xs h.1 in
    record { enough = omega arith; half = r.half + s.half; parity = omega arith }

-- Moving words have a change each.
pub all_change : (xs : List Transient) → AllMove xs → length xs ≤ total_changes xs
all_change [] h = omega arith
all_change (x ∷ xs) h =
    let r = all_change xs h.1 in
    omega arith

-- The changes left after both deductions, in numbers.
pub deducted : (T M K : ℕ) → M + K ≤ T → (T - deduction M - deduction K) + M + K ≡ T + min 1 M + min 1 K
deducted T M K h = omega arith

-- `deducted` for a list of moving words.
pub all_deducted : (xs : List Transient) → AllMove xs
    → sum_changes xs + ones (starts xs) + ones (ends xs) ≡ total_changes xs + min 1 (ones (starts xs)) + min 1 (ones (ends xs))
all_deducted xs h = deducted (total_changes xs) (ones (starts xs)) (ones (ends xs)) (all_counted xs h).enough

-- The changes of a sum, and the letter it ends with, in numbers.
pub sum_parity : (T M K n : ℕ) → Counted T M K → n + M + K ≡ T + min 1 M + min 1 K → (e q : ℕ) → e ≤ 1 → n + min 1 M ≡ e + 2 * q → e ≡ min 1 K
sum_parity T M K n h d e q l p = omega arith

-- A word that is tested to be 0 is the word 0.
pub zero_is : (x : Transient) → is_zero x ≡ true → x ≡ zero_word
zero_is x e = grind (arith, nat_tests)

-- A word that is tested to be 1 is the word 1.
pub one_is : (x : Transient) → is_one x ≡ true → x ≡ one_word
one_is x e = grind (arith, nat_tests)

-- A word that is neither 0 nor 1 moves.
pub other_moves : (b : Bool) (n : ℕ) → is_zero (record { start = b; changes = n }) ≡ false → is_one (record { start = b; changes = n }) ≡ false → 1 ≤ n
other_moves b n z o = grind (arith, nat_tests)

-- A moving word is not 0.
pub moving_not_zero : (x : Transient) → Moves x → is_zero x ≡ false
moving_not_zero x h = grind (arith, nat_tests)

-- A moving word is not 1.
pub moving_not_one : (x : Transient) → Moves x → is_one x ≡ false
moving_not_one x h = grind (arith, nat_tests)

-- Where no word is 1, the words that remain without the words 0 move.
pub rest_moves : (xs : List Transient) → or_of (map is_one xs) ≡ false → AllMove (without_zeros xs)
rest_moves [] e = tt
rest_moves (x ∷ xs) e =
    let p = or_parts (is_one x) (or_of (map is_one xs)) e in
    go (is_zero x) refl p.0 (rest_moves xs p.1)
  where
    go : (z : Bool) → is_zero x ≡ z → is_one x ≡ false → AllMove (without_zeros xs) → AllMove (cond z (without_zeros xs) (x ∷ without_zeros xs))
    go true z o r = r
    go false z o r = (other_moves x.start x.changes z o, r)

-- The sum of moving words starts with OR of their starts.
pub rest_start : (xs : List Transient) → (sum_of_rest xs).start ≡ or_of (starts xs)
rest_start [] = refl
rest_start (x ∷ xs) = refl

-- The sum of moving words ends with OR of their ends.
pub rest_end : (xs : List Transient) → AllMove xs → end_of (sum_of_rest xs) ≡ or_of (ends xs)
rest_end [] h = refl
rest_end (x ∷ xs) h =
    let r : List Transient = x ∷ xs in
    let y : Transient = sum_of_rest r in
    let p = flipped_parity y.start y.changes in
    let s = ap (λ (m : ℕ). y.changes + m) (sym (or_ones (starts r))) ∙ p.1 in
    let e = sum_parity (total_changes r) (ones (starts r)) (ones (ends r)) y.changes (all_counted r h) (all_deducted r h)
    (bit (end_of y)) p.0 (bit_small (end_of y)) s in
    same_bit (end_of y) (or_of (ends r)) (e ∙ sym (or_ones (ends r)))

-- The sum of moving words moves, if there are any.
pub rest_moving : (x : Transient) (xs : List Transient) → AllMove (x ∷ xs) → Moves (sum_of_rest (x ∷ xs))
rest_moving x xs h =
    let f = all_counted (x ∷ xs) h in
    let g = all_change (x ∷ xs) h in
    still_moves (total_changes (x ∷ xs)) (ones (starts (x ∷ xs))) (ones (ends (x ∷ xs))) f.enough (omega arith)
  where
    still_moves : (T M K : ℕ) → M + K ≤ T → 1 ≤ T → 1 ≤ T - deduction M - deduction K
    still_moves T M K h g = omega arith

-- Where no word is 1, the sum is that of what remains.
pub sum_is_rest : (xs : List Transient) → or_of (map is_one xs) ≡ false → sum xs ≡ sum_of_rest (without_zeros xs)
sum_is_rest xs e = cond-false (or_of (map is_one xs)) one_word (sum_of_rest (without_zeros xs)) e

-- Where a word is 1, the sum is the word 1.
pub sum_is_one : (xs : List Transient) → or_of (map is_one xs) ≡ true → sum xs ≡ one_word
sum_is_one xs e = cond-true (or_of (map is_one xs)) one_word (sum_of_rest (without_zeros xs)) e

-- Nothing is left out of moving words.
pub without_none : (xs : List Transient) → AllMove xs → without_zeros xs ≡ xs
without_none [] h = refl
without_none (x ∷ xs) h =
    cond-false (is_zero x) (without_zeros xs) (x ∷ without_zeros xs) (moving_not_zero x h.0)
    ∙ ap (λ (r : List Transient). x ∷ r) (without_none xs h.1)

-- No moving word is 1.
pub moving_no_one : (xs : List Transient) → AllMove xs → or_of (map is_one xs) ≡ false
moving_no_one [] h = refl
moving_no_one (x ∷ xs) h = or_from (is_one x) (or_of (map is_one xs)) (moving_not_one x h.0) (moving_no_one xs h.1)

-- The sum of moving words, by their starts and changes.
pub moving_sum : (xs : List Transient) → AllMove xs → sum xs ≡ sum_of_rest xs
moving_sum xs h = sum_is_rest xs (moving_no_one xs h) ∙ ap sum_of_rest (without_none xs h)

-- OR of what remains, by any letter that the word 0 has as 0, is OR of the list.
pub or_of_rest : (letter : Transient → Bool) → letter zero_word ≡ false → (xs : List Transient) → or_of (map letter (without_zeros xs)) ≡ or_of (map letter xs)
or_of_rest letter at_zero [] = refl
or_of_rest letter at_zero (x ∷ xs) = go (is_zero x) refl (or_of_rest letter at_zero xs)
  where
    go : (z : Bool) → is_zero x ≡ z → or_of (map letter (without_zeros xs)) ≡ or_of (map letter xs)
        → or_of (map letter (cond z (without_zeros xs) (x ∷ without_zeros xs))) ≡ letter x || or_of (map letter xs)
    go true z r = r ∙ ap (λ (b : Bool). b || or_of (map letter xs)) (sym (ap letter (zero_is x z) ∙ at_zero))
    go false z r = ap (λ (b : Bool). letter x || b) r

-- Where a word is 1, OR is 1, by any letter that the word 1 has as 1.
pub or_of_ones : (letter : Transient → Bool) → letter one_word ≡ true → (xs : List Transient) → or_of (map is_one xs) ≡ true → or_of (map letter xs) ≡ true
or_of_ones letter at_one [] e = e
or_of_ones letter at_one (x ∷ xs) e = go (is_one x) refl (λ r. or_of_ones letter at_one xs r) e
  where
    go : (o : Bool) → is_one x ≡ o → (or_of (map is_one xs) ≡ true → or_of (map letter xs) ≡ true) → o || or_of (map is_one xs) ≡ true → letter x || or_of (map letter xs) ≡ true
    go true o r e = ap (λ (b : Bool). b || or_of (map letter xs)) (ap letter (one_is x o) ∙ at_one)
    go false o r e = or_right (letter x) (or_of (map letter xs)) (r e)

-- A sum has a letter of OR where the word 0 and the word 1 have it, and sums of moving words do.
pub sum_letter : (letter : Transient → Bool) → letter zero_word ≡ false → letter one_word ≡ true
    → ((xs : List Transient) → AllMove xs → letter (sum_of_rest xs) ≡ or_of (map letter xs))
    → (xs : List Transient) → letter (sum xs) ≡ or_of (map letter xs)
sum_letter letter at_zero at_one at_rest xs = go (or_of (map is_one xs)) refl
  where
    go : (o : Bool) → or_of (map is_one xs) ≡ o → letter (cond o one_word (sum_of_rest (without_zeros xs))) ≡ or_of (map letter xs)
    go true o = at_one ∙ sym (or_of_ones letter at_one xs o)
    go false o = at_rest (without_zeros xs) (rest_moves xs o) ∙ or_of_rest letter at_zero xs

-- A sum starts with OR of the starts.
pub sum_start : (xs : List Transient) → (sum xs).start ≡ or_of (starts xs)
sum_start = sum_letter (λ x. x.start) refl refl (λ xs h. rest_start xs)

-- A sum ends with OR of the ends.
pub sum_end : (xs : List Transient) → end_of (sum xs) ≡ or_of (ends xs)
sum_end = sum_letter end_of refl refl rest_end

-- OR with its first two exchanged.
pub or_swap : (a b c : Bool) → a || (b || c) ≡ b || (a || c)
or_swap a b c = grind arith

-- The changes of one moving word's sum are its own, in numbers.
pub single_deducted : (c s e : ℕ) → s ≤ 1 → e ≤ 1 → (c + 0) - deduction (s + 0) - deduction (e + 0) ≡ c
single_deducted c s e h k = omega arith

-- The sum of one word is the word.
pub sum_single : (x : Transient) → sum (x ∷ []) ≡ x
sum_single x = go x.start x.changes
  where
    go : (b : Bool) (n : ℕ) → sum (record { start = b; changes = n } ∷ []) ≡ record { start = b; changes = n }
    go true zero = refl
    go false zero = refl
    go b (suc n) =
        let y : Transient = record { start = b; changes = suc n } in
        moving_sum (y ∷ []) (omega arith, tt)
        ∙ same_transient (sum_of_rest (y ∷ [])) y (or-false b) (single_deducted (suc n) (bit b) (bit (end_of y)) (bit_small b) (bit_small (end_of y)))

-- The sum of moving words with the first two exchanged.
pub rest_swap : (x y : Transient) (zs : List Transient) → sum_of_rest (x ∷ y ∷ zs) ≡ sum_of_rest (y ∷ x ∷ zs)
rest_swap x y zs =
    same_transient (sum_of_rest (x ∷ y ∷ zs)) (sum_of_rest (y ∷ x ∷ zs))
    (or_swap x.start y.start (or_of (starts zs)))
    (swapped
    (add_swap x.changes y.changes (total_changes zs))
    (add_swap (bit x.start) (bit y.start) (ones (starts zs)))
    (add_swap (bit (end_of x)) (bit (end_of y)) (ones (ends zs))))
  where
    add_swap : (a b c : ℕ) → a + (b + c) ≡ b + (a + c)
    add_swap a b c = omega arith

    swapped : {T U M N K L : ℕ} → T ≡ U → M ≡ N → K ≡ L → T - deduction M - deduction K ≡ U - deduction N - deduction L
    swapped p q r = cc

-- The sum with the first two exchanged.
pub sum_swap : (x y : Transient) (zs : List Transient) → sum (x ∷ y ∷ zs) ≡ sum (y ∷ x ∷ zs)
sum_swap x y zs =
    let p = or_swap (is_one x) (is_one y) (or_of (map is_one zs)) in
    let q = go (is_zero x) (is_zero y) in
    cc
  where
    go : (a b : Bool) → sum_of_rest (cond a (cond b (without_zeros zs) (y ∷ without_zeros zs)) (x ∷ cond b (without_zeros zs) (y ∷ without_zeros zs)))
        ≡ sum_of_rest (cond b (cond a (without_zeros zs) (x ∷ without_zeros zs)) (y ∷ cond a (without_zeros zs) (x ∷ without_zeros zs)))
    go true true = refl
    go true false = refl
    go false true = refl
    go false false = rest_swap x y (without_zeros zs)

-- The changes of a sum with a sum, in numbers: A all at once, and B with the sum Y, which starts with S and ends with E.
pub deducted_twice : (c s e T M K S E Y A B : ℕ) → S ≡ min 1 M → E ≡ min 1 K
    → Y + M + K ≡ T + min 1 M + min 1 K
    → A + (s + M) + (e + K) ≡ (c + T) + min 1 (s + M) + min 1 (e + K)
    → B + (s + (S + 0)) + (e + (E + 0)) ≡ (c + (Y + 0)) + min 1 (s + (S + 0)) + min 1 (e + (E + 0))
    → B ≡ A
deducted_twice c s e T M K S E Y A B u v p q r = omega arith

-- The sum of moving words is that of the first and the sum of the others.
pub rest_joins : (x : Transient) (xs : List Transient) → Moves x → AllMove xs → sum_of_rest (x ∷ xs) ≡ sum (x ∷ sum_of_rest xs ∷ [])
rest_joins x [] h k = sym (sum_swap x zero_word [] ∙ moving_sum (x ∷ []) (h, tt))
rest_joins x (z ∷ zs) h k =
    let r : List Transient = z ∷ zs in
    let y : Transient = sum_of_rest r in
    let two : List Transient = x ∷ y ∷ [] in
    let m : AllMove two = (h, (rest_moving z zs k, tt)) in
    let c = deducted_twice x.changes (bit x.start) (bit (end_of x)) (total_changes r) (ones (starts r)) (ones (ends r))
    (bit y.start) (bit (end_of y)) y.changes (sum_changes (x ∷ r)) (sum_changes two)
    (or_ones (starts r)) (ap bit (rest_end r k) ∙ or_ones (ends r))
    (all_deducted r k) (all_deducted (x ∷ r) (h, k)) (all_deducted two m) in
    sym (moving_sum two m ∙ same_transient (sum_of_rest two) (sum_of_rest (x ∷ r)) (ap (λ (b : Bool). x.start || b) (or-false (or_of (starts r)))) c)

-- The sum of a list is that of its first and the sum of the others.
pub sum_joins_rest : (x : Transient) (xs : List Transient) → sum (x ∷ xs) ≡ sum (x ∷ sum xs ∷ [])
sum_joins_rest x xs = go x.start x.changes
  where
    to_second : (y : Transient) {s t : Transient} → s ≡ t → sum (y ∷ s ∷ []) ≡ sum (y ∷ t ∷ [])
    to_second y e = ap (λ t. sum (y ∷ t ∷ [])) e

    moving : (y : Transient) → Moves y → (o : Bool) → or_of (map is_one xs) ≡ o → sum (y ∷ xs) ≡ sum (y ∷ sum xs ∷ [])
    moving y h true o =
        sum_is_one (y ∷ xs) (or_right (is_one y) (or_of (map is_one xs)) o)
        ∙ sym (to_second y (sum_is_one xs o) ∙ sum_is_one (y ∷ one_word ∷ []) (or_right (is_one y) true refl))
    moving y h false o =
        sum_is_rest (y ∷ xs) (or_from (is_one y) (or_of (map is_one xs)) (moving_not_one y h) o)
        ∙ ap sum_of_rest (cond-false (is_zero y) (without_zeros xs) (y ∷ without_zeros xs) (moving_not_zero y h))
        ∙ rest_joins y (without_zeros xs) h (rest_moves xs o)
        ∙ sym (to_second y (sum_is_rest xs o))

    go : (b : Bool) (n : ℕ) → sum (record { start = b; changes = n } ∷ xs) ≡ sum (record { start = b; changes = n } ∷ sum xs ∷ [])
    go true zero = refl
    go false zero = sym (sum_single (sum xs))
    go b (suc n) = moving (record { start = b; changes = suc n }) (omega arith) (or_of (map is_one xs)) refl

-- An operation on lists that a list's first and the operation on its others decide, whatever the order, is joined two by two.
module _ (all : List Transient → Transient)
    (single : (x : Transient) → all (x ∷ []) ≡ x)
    (swap : (x y : Transient) (zs : List Transient) → all (x ∷ y ∷ zs) ≡ all (y ∷ x ∷ zs))
    (joins_rest : (x : Transient) (xs : List Transient) → all (x ∷ xs) ≡ all (x ∷ all xs ∷ [])) where
  -- Two joined with a third are the first joined with the other two.
  pub two_associate : (x y z : Transient) → all (all (x ∷ y ∷ []) ∷ z ∷ []) ≡ all (x ∷ all (y ∷ z ∷ []) ∷ [])
  two_associate x y z =
      swap (all (x ∷ y ∷ [])) z []
      ∙ sym (joins_rest z (x ∷ y ∷ []))
      ∙ swap z x (y ∷ [])
      ∙ joins_rest x (z ∷ y ∷ [])
      ∙ ap (λ t. all (x ∷ t ∷ [])) (swap z y [])

  -- The first two of a list can be joined first.
  pub two_first : (x y : Transient) (zs : List Transient) → all (all (x ∷ y ∷ []) ∷ zs) ≡ all (x ∷ y ∷ zs)
  two_first x y zs =
      joins_rest (all (x ∷ y ∷ [])) zs
      ∙ two_associate x y (all zs)
      ∙ sym (joins_rest x (y ∷ zs) ∙ ap (λ t. all (x ∷ t ∷ [])) (joins_rest y zs))

  -- A list joined two by two gives the operation on the list.
  pub joined_all : (x : Transient) (xs : List Transient) → joined (λ s t. all (s ∷ t ∷ [])) x xs ≡ all (x ∷ xs)
  joined_all x [] = sym (single x)
  joined_all x (y ∷ ys) = joined_all (all (x ∷ y ∷ [])) ys ∙ two_first x y ys

  -- Such an operation joins.
  pub joins : Joins all (λ s t. all (s ∷ t ∷ []))
  joins = record { from_first = joined_all; commutes = λ x y. swap x y []; associates = two_associate }

-- The product of one word is the word.
pub product_single : (x : Transient) → product (x ∷ []) ≡ x
product_single x = ap complement (sum_single (complement x)) ∙ complement_involution x

-- The product with the first two exchanged.
pub product_swap : (x y : Transient) (zs : List Transient) → product (x ∷ y ∷ zs) ≡ product (y ∷ x ∷ zs)
product_swap x y zs = ap complement (sum_swap (complement x) (complement y) (map complement zs))

-- The product of a list is that of its first and the product of the others.
pub product_joins_rest : (x : Transient) (xs : List Transient) → product (x ∷ xs) ≡ product (x ∷ product xs ∷ [])
product_joins_rest x xs =
    let s : Transient = sum (map complement xs) in
    ap complement (sum_joins_rest (complement x) (map complement xs) ∙ ap (λ t. sum (complement x ∷ t ∷ [])) (sym (complement_involution s)))

-- XOR with 0 last.
pub differ_false : (b : Bool) → differ b false ≡ b
differ_false b = grind arith

-- XOR with its first two exchanged.
pub differ_swap : (a b c : Bool) → differ a (differ b c) ≡ differ b (differ a c)
differ_swap a b c = grind arith

-- The exclusive sum of one word is the word.
pub exclusive_single : (x : Transient) → exclusive (x ∷ []) ≡ x
exclusive_single x = same_transient (exclusive (x ∷ [])) x (differ_false x.start) (omega arith)

-- The exclusive sum with the first two exchanged.
pub exclusive_swap : (x y : Transient) (zs : List Transient) → exclusive (x ∷ y ∷ zs) ≡ exclusive (y ∷ x ∷ zs)
exclusive_swap x y zs =
    same_transient (exclusive (x ∷ y ∷ zs)) (exclusive (y ∷ x ∷ zs)) (differ_swap x.start y.start (xor_of (starts zs))) (omega arith)

-- The exclusive sum of a list is that of its first and the exclusive sum of the others.
pub exclusive_joins_rest : (x : Transient) (xs : List Transient) → exclusive (x ∷ xs) ≡ exclusive (x ∷ exclusive xs ∷ [])
exclusive_joins_rest x xs =
    same_transient (exclusive (x ∷ xs)) (exclusive (x ∷ exclusive xs ∷ []))
    (ap (differ x.start) (sym (differ_false (xor_of (starts xs))))) (omega arith)

-- NOT of OR of flipped letters is AND of the letters.
pub not_or : (letter : Transient → Bool) → ((x : Transient) → letter (complement x) ≡ not (letter x))
    → (xs : List Transient) → not (or_of (map letter (map complement xs))) ≡ and_of (map letter xs)
not_or letter flips [] = refl
not_or letter flips (x ∷ xs) =
    ap (λ b. not (b || or_of (map letter (map complement xs)))) (flips x)
    ∙ go (letter x) (or_of (map letter (map complement xs)))
    ∙ ap (λ b. letter x && b) (not_or letter flips xs)
  where
    go : (a b : Bool) → not (not a || b) ≡ a && not b
    go a b = grind arith

-- A product starts with AND of the starts.
pub product_start : (xs : List Transient) → (product xs).start ≡ and_of (starts xs)
product_start xs = ap not (sum_start (map complement xs)) ∙ not_or (λ x. x.start) (λ x. refl) xs

-- A product ends with AND of the ends.
pub product_end : (xs : List Transient) → end_of (product xs) ≡ and_of (ends xs)
product_end xs =
    complement_end (sum (map complement xs)) ∙ ap not (sum_end (map complement xs)) ∙ not_or end_of complement_end xs

-- XOR goes through not on the right.
pub differ_not_right : (a b : Bool) → differ a (not b) ≡ not (differ a b)
differ_not_right a b = grind arith

-- XOR goes through not on the left.
pub differ_not_left : (a b : Bool) → differ (not a) b ≡ not (differ a b)
differ_not_left a b = grind arith

-- XOR of letters flipped m and n times is XOR of the letters, flipped m + n times.
pub flipped_differ : (a b : Bool) (m n : ℕ) → flipped (differ a b) (m + n) ≡ differ (flipped a m) (flipped b n)
flipped_differ a b zero n = ap (flipped (differ a b)) (zero-add n) ∙ go n
  where
    go : (k : ℕ) → flipped (differ a b) k ≡ differ a (flipped b k)
    go zero = refl
    go (suc k) = ap not (go k) ∙ sym (differ_not_right a (flipped b k))
flipped_differ a b (suc m) n =
    ap (flipped (differ a b)) (suc-add m n)
    ∙ ap not (flipped_differ a b m n)
    ∙ sym (differ_not_left (flipped a m) (flipped b n))

-- An exclusive sum ends with XOR of the ends.
pub exclusive_end : (xs : List Transient) → end_of (exclusive xs) ≡ xor_of (ends xs)
exclusive_end [] = refl
exclusive_end (x ∷ xs) =
    flipped_differ x.start (xor_of (starts xs)) x.changes (total_changes xs) ∙ ap (differ (end_of x)) (exclusive_end xs)

-- Sums, products and exclusive sums are joined two by two, and follow their functions.
pub sums_of_transients : SumsOfTransients
sums_of_transients = record {
  sum_joins = joins sum sum_single sum_swap sum_joins_rest;
  product_joins = joins product product_single product_swap product_joins_rest;
  exclusive_joins = joins exclusive exclusive_single exclusive_swap exclusive_joins_rest;
  sum_follows = record { at_start = sum_start; at_end = sum_end };
  product_follows = record { at_start = product_start; at_end = product_end };
  exclusive_follows = record { at_start = λ xs. refl; at_end = exclusive_end };
}
