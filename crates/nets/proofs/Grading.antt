-- Under the laws, the grade worked from grades is the grade of the transient.
use Rattle.std.proofs.Common.{◌≡◌, ℕ, zero, suc, ◌<◌, List, [], ◌∷◌, ◌++◌, map, length, get_or, take, set, sym, refl, ap, ◌∙◌, arith}
use Rattle.std.proofs.lemmas.List.{get_or-take, map_push, length_push, take_more_set}
use Rattle.algebras.specs.declared.algebra.Algebra.{Ghosts}
use Rattle.algebras.specs.declared.kind.Kind.{Kind}
use Rattle.algebras.specs.declared.kind.Kind.TheVariants.{Buffer, Inverter, And, Or, Xor, Nand, Nor, Xnor}
use Rattle.algebras.specs.Kinds.{gate_transient}
use Rattle.algebras.specs.Sums.{joined, sum, product, exclusive, sum2, product2, exclusive2, Joins}
use Rattle.algebras.specs.Transient.{Transient, complement, zero_word}
use Rattle.algebras.specs.SumsLemmas.{sums_of_transients}
use Rattle.nets.proofs.Wiring.{transients_push}
use Rattle.nets.specs.Wires.{Plain, input, gate, Below, Within}
use Rattle.nets.specs.Transients.{transient_after, transients, transient}
use Rattle.nets.specs.Working.{gate_grade, entry, entries, worked, Kept}

-- What the laws of an algebra say of its operations on grades.
pub record Lawful {X G : Type 0} (L : Ghosts X G) (a : X) : Type 0 where
  pub reads_grade : (t : Transient) → L.reads a (L.grade a t) ≡ L.grade a t
  pub complements_grade : (t : Transient) → L.complements a (L.grade a t) ≡ L.grade a (complement t)
  pub sums_grades : (s t : Transient) → L.sums a (L.grade a s) (L.grade a t) ≡ L.grade a (sum2 s t)
  pub products_grades : (s t : Transient) → L.products a (L.grade a s) (L.grade a t) ≡ L.grade a (product2 s t)
  pub exclusives_grades : (s t : Transient) → L.exclusives a (L.grade a s) (L.grade a t) ≡ L.grade a (exclusive2 s t)

-- The first of a list, joined with nothing of the others.
pub joined_first : {X : Type 0} (x : X) (xs : List X) → joined (λ (y z : X). y) x xs ≡ x
joined_first x [] = refl
joined_first x (y ∷ ys) = joined_first x ys

-- An element of a list of images.
pub get_or_images : {X Y : Type 0} (f : X → Y) (xs : List X) (i : ℕ) (d : X) → get_or (map f xs) i (f d) ≡ f (get_or xs i d)
get_or_images f [] i d = refl
get_or_images f (x ∷ xs) zero d = refl
get_or_images f (x ∷ xs) (suc i) d = get_or_images f xs i d

-- Joining grades gives the grade of the joined transients.
pub joined_grades : {G : Type 0} (grade : Transient → G) (op : G → G → G) (two : Transient → Transient → Transient)
    → ((s t : Transient) → op (grade s) (grade t) ≡ grade (two s t)) → (x : Transient) (xs : List Transient) → joined op (grade x) (map grade xs) ≡ grade (joined two x xs)
joined_grades grade op two law x [] = refl
joined_grades grade op two law x (y ∷ ys) = ap (λ g. joined op g (map grade ys)) (law x y) ∙ joined_grades grade op two law (two x y) ys

module _ {X G : Type 0} (L : Ghosts X G) (a : X) (laws : Lawful L a) where
  -- The same for an operation on lists.
  pub all_grades : (op : G → G → G) (all : List Transient → Transient) (two : Transient → Transient → Transient) → Joins all two
      → ((s t : Transient) → op (L.grade a s) (L.grade a t) ≡ L.grade a (two s t))
      → (x : Transient) (xs : List Transient) → joined op (L.grade a x) (map (L.grade a) xs) ≡ L.grade a (all (x ∷ xs))
  all_grades op all two js law x xs = joined_grades (L.grade a) op two law x xs ∙ ap (L.grade a) (js.from_first x xs)

  -- The product, the sum and the exclusive sum of grades.
  pub product_grade : (x : Transient) (xs : List Transient) → joined (L.products a) (L.grade a x) (map (L.grade a) xs) ≡ L.grade a (product (x ∷ xs))
  product_grade = all_grades (L.products a) product product2 sums_of_transients.product_joins laws.products_grades

  pub sum_grade : (x : Transient) (xs : List Transient) → joined (L.sums a) (L.grade a x) (map (L.grade a) xs) ≡ L.grade a (sum (x ∷ xs))
  sum_grade = all_grades (L.sums a) sum sum2 sums_of_transients.sum_joins laws.sums_grades

  pub exclusive_grade : (x : Transient) (xs : List Transient) → joined (L.exclusives a) (L.grade a x) (map (L.grade a) xs) ≡ L.grade a (exclusive (x ∷ xs))
  exclusive_grade = all_grades (L.exclusives a) exclusive exclusive2 sums_of_transients.exclusive_joins laws.exclusives_grades

  -- The grade of a gate whose pins' entries are grades.
  pub gate_grades : (k : Kind) (x : Transient) (xs : List Transient) → gate_grade L a k (map (L.grade a) (x ∷ xs)) ≡ L.grade a (gate_transient k (x ∷ xs))
  gate_grades Buffer x xs = ap (L.reads a) (joined_first (L.grade a x) (map (L.grade a) xs)) ∙ laws.reads_grade x
  gate_grades Inverter x xs = ap (L.complements a) (joined_first (L.grade a x) (map (L.grade a) xs)) ∙ laws.complements_grade x
  gate_grades And x xs = product_grade x xs
  gate_grades Or x xs = sum_grade x xs
  gate_grades Xor x xs = exclusive_grade x xs
  gate_grades Nand x xs = ap (L.complements a) (product_grade x xs) ∙ laws.complements_grade (product (x ∷ xs))
  gate_grades Nor x xs = ap (L.complements a) (sum_grade x xs) ∙ laws.complements_grade (sum (x ∷ xs))
  gate_grades Xnor x xs = ap (L.complements a) (exclusive_grade x xs) ∙ laws.complements_grade (exclusive (x ∷ xs))

module _ {X G : Type 0} (L : Ghosts X G) (a : X) (n : ℕ) (column : List G) (ts : List Transient) (kept : take n column ≡ map (L.grade a) ts) where
  -- An entry of a kept column is the grade of a transient.
  pub entry_kept : (w : ℕ) → w < n → entry L a column w ≡ L.grade a (get_or ts w zero_word)
  entry_kept w h =
      sym (get_or-take n column w (L.grade a zero_word) h)
      ∙ ap (λ (c : List G). get_or c w (L.grade a zero_word)) kept
      ∙ get_or_images (L.grade a) ts w zero_word

  -- The same for pins.
  pub entries_kept : (ps : List ℕ) → Below n ps → entries L a column ps ≡ map (L.grade a) (map (λ p. get_or ts p zero_word) ps)
  entries_kept [] below = refl
  entries_kept (p ∷ ps) below =
      let first = entry_kept p (below 0 (omega arith)) in
      let others = entries_kept ps (λ k h. below (suc k) (omega arith)) in
      cc

  -- The grade worked for a wire is that of its transient.
  pub worked_kept : Lawful L a → (w : Plain) → Within n w → worked L a column w ≡ L.grade a (transient_after ts w)
  worked_kept laws (input b c) within = refl
  worked_kept laws (gate k []) within = absurd (omega (arith, within.0))
  worked_kept laws (gate k (p ∷ ps)) within =
      ap (gate_grade L a k) (entries_kept (p ∷ ps) within.1)
      ∙ gate_grades L a laws k (get_or ts p zero_word) (map (λ q. get_or ts q zero_word) ps)

-- Filling the next entry keeps a column.
pub kept_push : {X G : Type 0} (L : Ghosts X G) (a : X) → Lawful L a → (ws : List Plain) (w : Plain) (column : List G)
    → Within (length ws) w → length ws < length column → Kept L a ws column → Kept L a (ws ++ w ∷ []) (set column (length ws) (worked L a column w))
kept_push L a laws ws w column within long kept =
    ap (λ (n : ℕ). take n (set column (length ws) (worked L a column w))) (length_push ws w)
    ∙ take_more_set column (length ws) (worked L a column w) long
    ∙ ap (λ c. c ++ worked L a column w ∷ []) kept
    ∙ ap (λ g. map (L.grade a) (transients ws) ++ g ∷ []) (worked_kept L a (length ws) column (transients ws) kept laws w within)
    ∙ sym (map_push (L.grade a) (transients ws) (transient_after (transients ws) w))
    ∙ sym (ap (map (L.grade a)) (transients_push ws w))

-- In a kept column, the entry of a standing wire is the grade of its transient.
pub standing_kept : {X G : Type 0} (L : Ghosts X G) (a : X) (ws : List Plain) (column : List G) → Kept L a ws column → (w : ℕ) → w < length ws → entry L a column w ≡ L.grade a (transient ws w)
standing_kept L a ws column kept w h = entry_kept L a (length ws) column (transients ws) kept w h
