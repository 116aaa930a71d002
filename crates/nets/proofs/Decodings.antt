-- The pins in a body, one by one.
use Rattle.std.proofs.Common.{◌≡◌, ℕ, zero, suc, ◌+◌, ◌*◌, ◌/◌, ◌<◌, List, [], ◌∷◌, length, get_or, sym, refl, ap, ◌∙◌, arith}
use Rattle.nets.specs.Records.{pins_in}

-- A body has a pin for every two bytes.
pub pins_length : (bs : List ℕ) → length (pins_in bs) ≡ length bs / 2
pins_length [] = refl
pins_length (low ∷ []) = refl
pins_length (low ∷ high ∷ bs) = let h = pins_length bs in omega arith

-- The k-th pin is in bytes 2k and 2k + 1.
pub pins_at : (bs : List ℕ) (k : ℕ) → k < length bs / 2 → get_or (pins_in bs) k 0 ≡ get_or bs (2 * k) 0 + 256 * get_or bs (2 * k + 1) 0
pins_at [] k h = absurd (omega arith)
pins_at (low ∷ []) k h = absurd (omega arith)
pins_at (low ∷ high ∷ bs) zero h = refl
pins_at (low ∷ high ∷ bs) (suc k) h =
    pins_at bs k (omega arith)
    ∙ joined
  where
    even : 2 * suc k ≡ suc (suc (2 * k))
    even = omega arith

    odd : 2 * suc k + 1 ≡ suc (suc (2 * k + 1))
    odd = omega arith

    joined : get_or bs (2 * k) 0 + 256 * get_or bs (2 * k + 1) 0 ≡ get_or (low ∷ high ∷ bs) (2 * suc k) 0 + 256 * get_or (low ∷ high ∷ bs) (2 * suc k + 1) 0
    joined =
        sym (ap (λ (i : ℕ). get_or (low ∷ high ∷ bs) i 0 + 256 * get_or (low ∷ high ∷ bs) (2 * suc k + 1) 0) even
        ∙ ap (λ (i : ℕ). get_or bs (2 * k) 0 + 256 * get_or (low ∷ high ∷ bs) i 0) odd)
