-- Transients: the series of values that a wire takes, as non-empty words of 0s and 1s whose neighbours differ.
use Rattle.std.specs.Prelude.{◌≡◌, ℕ, zero, suc, Bool, true, false, not, ◌&&◌, List, [], ◌∷◌, length, ◌==◌, slice_index_or}

-- A transient, by its first letter and its changes, which are its letters less one.
pub record Transient : Type 0 where
  pub start : Bool
  pub changes : ℕ

-- A letter, flipped so many times.
abbrev pub flipped : Bool → ℕ → Bool
flipped b zero = b
flipped b (suc n) = not (flipped b n)

-- The last letter: the start, flipped once for each change.
abbrev pub end_of : Transient → Bool
end_of t = flipped t.start t.changes

-- The letters from b on, with so many changes to come.
abbrev pub letters : Bool → ℕ → List Bool
letters b zero = b ∷ []
letters b (suc n) = b ∷ letters (not b) n

-- The word of a transient: 0101 for start 0 and three changes.
abbrev pub word : Transient → List Bool
word t = letters t.start t.changes

-- Every letter flipped.
abbrev pub complement : Transient → Transient
complement t = record { start = not t.start; changes = t.changes }

-- The transient of a drive: the word with a start and so many changes.
abbrev pub driven : Bool → ℕ → Transient
driven b n = record { start = b; changes = n }

-- The words of one letter.
abbrev pub zero_word : Transient
zero_word = record { start = false; changes = 0 }

abbrev pub one_word : Transient
one_word = record { start = true; changes = 0 }

abbrev pub is_zero : Transient → Bool
is_zero t = not t.start && t.changes == 0

abbrev pub is_one : Transient → Bool
is_one t = t.start && t.changes == 0

-- A word of which neighbours differ, and that has a letter at least.
abbrev pub Alternates : List Bool → Type 0
Alternates [] = ⊥
Alternates (b ∷ []) = Unit {0}
Alternates (b ∷ c ∷ w) = (c ≡ not b) × Alternates (c ∷ w)

-- Transients are words: their words are exactly the alternating lists, each of one transient, with its start as the first letter,
-- its end as the last, and one letter more than changes.
pub record TransientsAreWords : Type 0 where
  pub alternates : (t : Transient) → Alternates (word t)
  pub every : (w : List Bool) → Alternates w → (t : Transient) × (word t ≡ w)
  pub once : (s t : Transient) → word s ≡ word t → s ≡ t
  pub letters_less_one : (t : Transient) → length (word t) ≡ suc t.changes
  pub first : (t : Transient) (d : Bool) → slice_index_or (word t) 0 d ≡ t.start
  pub last : (t : Transient) (d : Bool) → slice_index_or (word t) t.changes d ≡ end_of t
