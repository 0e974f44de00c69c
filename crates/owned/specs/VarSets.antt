-- Sets of variables as bits of a word.
use Rattle.std.specs.Prelude.{◌≡◌, ℕ, zero, suc, ◌/◌, ◌%◌, ◌^◌, ◌<◌, ◌≤◌, Bool, List, [], ◌∷◌, ◌==◌, ◌≢◌}

abbrev pub bit_of : ℕ → ℕ → Bool
bit_of m i = m / 2 ^ i % 2 == 1

-- the first n bits, the lowest first
unfoldable pub bits : ℕ → ℕ → List Bool
bits zero m = []
bits (suc n) m = (m % 2 == 1) ∷ bits n (m / 2)

-- r is the first of n bits that differ, or n
pub record FirstDifference (a b n r : ℕ) : Type 0 where
  pub within : r ≤ n
  pub same : (i : ℕ) → i < r → bit_of a i ≡ bit_of b i
  pub other : r < n → bit_of a r ≢ bit_of b r
