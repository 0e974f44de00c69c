-- Words of bits as lists: setting, clearing and reading a bit, and words that differ in none.
-- The lists are read from the lowest bit on, so each lemma goes by halving the word.
use Rattle.std.proofs.Common.{◌≡◌, ℕ, zero, suc, ◌+◌, ◌*◌, ◌/◌, ◌%◌, ◌^◌, ◌<◌, ◌≤◌, max, Bool, true, false, eqb, List, [], ◌∷◌, length, get_or, set, sym, refl, ap, ◌∙◌, inl, inr, one-mul, subst, below_more, arith}
use Prim.Native.Nat.{differ}
use lib.Bits.{bit_or, bit_xor, or_step, xor_step, or_zero_r, xor_zero_r, shifted_half, shifted_even}
use Rattle.std.proofs.lemmas.Nat.{shr-shr}
use Rattle.std.proofs.lemmas.List.{ext_get_or, get_or_past, set_past, set-get_or, get_or-set_same, get_or-set_other}
use Rattle.std.proofs.lemmas.Bool.{eqb-true, eq-eqb, ne_eqb, and_parts, cases_lt, both_ways}
use Rattle.owned.specs.Kept.{Full, alike, alike1}
use Rattle.owned.specs.VarSets.{bit_of, bits, FirstDifference}

half : (i : ℕ) → 2 ^ suc i / 2 ≡ 2 ^ i
half i = ap (λ m. m / 2) (sym (one-mul (2 ^ suc i))) ∙ shifted_half 1 i ∙ one-mul (2 ^ i)

even : (i : ℕ) → 2 ^ suc i % 2 ≡ 0
even i = ap (λ m. m % 2) (sym (one-mul (2 ^ suc i))) ∙ shifted_even 1 i

shifted : (i m : ℕ) → bit_of m (suc i) ≡ bit_of (m / 2) i
shifted i m = let e : suc i ≡ 1 + i = omega arith in ap (λ k. eqb (m / 2 ^ k % 2) 1) e ∙ ap (λ q. eqb (q % 2) 1) (sym (shr-shr m 1 i))

odd : (m : ℕ) → bit_of m 0 ≡ true → m % 2 ≡ 1
odd m h = let e : m / 1 ≡ m = omega arith in eqb-true (m % 2) 1 (rw e at h)

differ_zero : (x : ℕ) → x < 2 → differ x 0 ≡ x
differ_zero zero h = refl
differ_zero (suc zero) h = refl
differ_zero (suc (suc x)) h = absurd (omega arith)

pub length_bits : (n m : ℕ) → length (bits n m) ≡ n
unfolding bits
length_bits zero m = refl
length_bits (suc n) m = ap suc (length_bits n (m / 2))

pub bits_set : (n i m : ℕ) → bits n (bit_or m (2 ^ i)) ≡ set (bits n m) i true
unfolding bits
bits_set zero i m = refl
bits_set (suc n) zero m =
    let q : bit_or m 1 ≡ m / 2 * 2 + max (m % 2) 1 = or_step m 1 ∙ ap (λ z. z * 2 + max (m % 2) 1) (or_zero_r (m / 2)) in
    let low : bit_or m 1 % 2 ≡ 1 = omega (arith, q) in
    let high : bit_or m 1 / 2 ≡ m / 2 = omega (arith, q) in
    rw (low, high)
bits_set (suc n) (suc i) m =
    let q : bit_or m (2 ^ suc i) ≡ bit_or (m / 2) (2 ^ i) * 2 + max (m % 2) 0 = or_step m (2 ^ suc i) ∙ (λ k. bit_or (m / 2) (half i k) * 2 + max (m % 2) (even i k)) in
    let low : bit_or m (2 ^ suc i) % 2 ≡ m % 2 = omega (arith, q) in
    let high : bit_or m (2 ^ suc i) / 2 ≡ bit_or (m / 2) (2 ^ i) = omega (arith, q) in
    rw (low, high) (ap (λ l. eqb (m % 2) 1 ∷ l) (bits_set n i (m / 2)))

-- a bit that is set, cleared
pub bits_clear : (n i m : ℕ) → bit_of m i ≡ true → bits n (bit_xor m (2 ^ i)) ≡ set (bits n m) i false
unfolding bits
bits_clear zero i m h = refl
bits_clear (suc n) zero m h =
    let one : m % 2 ≡ 1 = odd m h in
    let q : bit_xor m 1 ≡ m / 2 * 2 + 0 = xor_step m 1 ∙ ap (λ z. z * 2 + differ (m % 2) 1) (xor_zero_r (m / 2)) ∙ ap (λ z. m / 2 * 2 + differ z 1) one in
    let low : bit_xor m 1 % 2 ≡ 0 = omega (arith, q) in
    let high : bit_xor m 1 / 2 ≡ m / 2 = omega (arith, q) in
    rw (low, high)
bits_clear (suc n) (suc i) m h =
    let q : bit_xor m (2 ^ suc i) ≡ bit_xor (m / 2) (2 ^ i) * 2 + m % 2 =
    xor_step m (2 ^ suc i) ∙ (λ k. bit_xor (m / 2) (half i k) * 2 + differ (m % 2) (even i k)) ∙ ap (λ z. bit_xor (m / 2) (2 ^ i) * 2 + z) (differ_zero (m % 2) (omega arith))
    in
    let low : bit_xor m (2 ^ suc i) % 2 ≡ m % 2 = omega (arith, q) in
    let high : bit_xor m (2 ^ suc i) / 2 ≡ bit_xor (m / 2) (2 ^ i) = omega (arith, q) in
    rw (low, high) (ap (λ l. eqb (m % 2) 1 ∷ l) (bits_clear n i (m / 2) (sym (shifted i m) ∙ h)))

pub bits_get : (n i m : ℕ) → i < n → get_or (bits n m) i false ≡ bit_of m i
unfolding bits
bits_get zero i m h = absurd (omega arith)
bits_get (suc n) zero m h = let e : m / 1 ≡ m = omega arith in rw e
bits_get (suc n) (suc i) m h = bits_get n i (m / 2) (omega arith) ∙ sym (shifted i m)

pub bits_zero : (n i : ℕ) → get_or (bits n 0) i false ≡ false
unfolding bits
bits_zero zero i = refl
bits_zero (suc n) zero = refl
bits_zero (suc n) (suc i) = bits_zero n i

-- lists of bits are alike where they are the same
alike1_same : (a b : Bool) → alike1 a b ≡ true → a ≡ b
alike1_same true true e = refl
alike1_same true false e = sym e
alike1_same false true e = e
alike1_same false false e = refl

alike1_refl : (a : Bool) → alike1 a a ≡ true
alike1_refl true = refl
alike1_refl false = refl

pub alike_same : (c d : Full) → alike c d ≡ true → c ≡ d
alike_same [] [] e = refl
alike_same [] (b ∷ d) e = cc
alike_same (a ∷ c) [] e = cc
alike_same (a ∷ c) (b ∷ d) e = let p = and_parts (alike1 a b) (alike c d) e in let q = alike1_same a b p.0 in let r = alike_same c d p.1 in cc

pub alike_refl : (c : Full) → alike c c ≡ true
alike_refl [] = refl
alike_refl (a ∷ c) = rw (alike1_refl a) (alike_refl c)

-- by the first difference
pub bits_alike : (n a b r : ℕ) → FirstDifference a b n r → alike (bits n a) (bits n b) ≡ eqb r n
bits_alike n a b r f =
    elim (cases_lt r n) [
      | inl l ↦ differs l (alike (bits n a) (bits n b)) refl ∙ sym (ne_eqb r n (λ e. omega (arith, e)))
      | inr l ↦ ap (λ c. alike (bits n a) c) (sym (same l)) ∙ alike_refl (bits n a) ∙ sym (eq-eqb r n (omega (arith, f.within)))
    ]
  where
    same : n ≤ r → bits n a ≡ bits n b
    same l =
        ext_get_or false (bits n a) (bits n b) (length_bits n a ∙ sym (length_bits n b)) (λ i h.
        let k : i < n = omega (arith, length_bits n a) in
        bits_get n i a k ∙ f.same i (omega arith) ∙ sym (bits_get n i b k))

    differs : r < n → (t : Bool) → alike (bits n a) (bits n b) ≡ t → t ≡ false
    differs l false e = refl
    differs l true e = absurd (f.other l (sym (bits_get n r a l) ∙ ap (λ c. get_or c r false) (alike_same (bits n a) (bits n b) e) ∙ bits_get n r b l))

-- the variables of a procedure as bits
module _ (n k x : ℕ) where
  pub full_there : (b : Bool) → b ≡ bit_of k x → x < n → b ≡ get_or (bits n k) x false
  full_there b e h = e ∙ sym (bits_get n x k h)

  pub full_past : n ≤ x → false ≡ get_or (bits n k) x false
  full_past h = sym (get_or_past (bits n k) x false (omega (arith, length_bits n k)))

  pub full_within : true ≡ get_or (bits n k) x false → x < n
  full_within h = elim (cases_lt x n) [ inl l ↦ l | inr l ↦ absurd (both_ways (get_or (bits n k) x false) (sym (full_past l)) (sym h)) ]

  pub full_bit : true ≡ get_or (bits n k) x false → bit_of k x ≡ true
  full_bit h = sym (bits_get n x k (full_within h)) ∙ sym h

  pub fill_bit : (r : ℕ) → r ≡ bit_or k (2 ^ x) → bits n r ≡ set (bits n k) x true
  fill_bit r e = ap (bits n) e ∙ bits_set n x k

  pub fill_past : n ≤ x → bits n k ≡ set (bits n k) x true
  fill_past h = sym (set_past (bits n k) x true (omega (arith, length_bits n k)))

  pub clear_bit : (r : ℕ) → r ≡ bit_xor k (2 ^ x) → true ≡ get_or (bits n k) x false → bits n r ≡ set (bits n k) x false
  clear_bit r e h = ap (bits n) e ∙ bits_clear n x k (full_bit h)

  pub clear_empty : false ≡ get_or (bits n k) x false → bits n k ≡ set (bits n k) x false
  clear_empty h = sym (ap (λ b. set (bits n k) x b) h ∙ set-get_or (bits n k) x false)

-- one bit set, and the others
pub bit_set : (m i : ℕ) → bit_of (bit_or m (2 ^ i)) i ≡ true
bit_set m i =
    sym (bits_get (i + 1) i (bit_or m (2 ^ i)) (omega arith))
    ∙ ap (λ bs. get_or bs i false) (bits_set (i + 1) i m)
    ∙ get_or-set_same (bits (i + 1) m) i true false (omega (arith, length_bits (i + 1) m))

pub bit_kept : (m i j : ℕ) → (j ≡ i → ⊥) → bit_of (bit_or m (2 ^ i)) j ≡ bit_of m j
bit_kept m i j ne =
    sym (bits_get (j + 1) j (bit_or m (2 ^ i)) (omega arith))
    ∙ ap (λ bs. get_or bs j false) (bits_set (j + 1) i m)
    ∙ get_or-set_other (bits (j + 1) m) i j true false ne
    ∙ bits_get (j + 1) j m (omega arith)

-- A set that is made one variable after the other: those below x are as P has them, and the others are not in it yet.
abbrev pub Made : (ℕ → Bool → Type 0) → ℕ → ℕ → Type 0
Made P x m = ((y : ℕ) → y < x → P y (bit_of m y)) × ((y : ℕ) → x ≤ y → bit_of m y ≡ false)

pub made_none : (P : ℕ → Bool → Type 0) → Made P 0 0
made_none P = (λ y l. absurd (omega arith), λ y l. sym (bits_get (y + 1) y 0 (omega arith)) ∙ bits_zero (y + 1) y)

pub with_bit : (P : ℕ → Bool → Type 0) (x m r : ℕ) → r ≡ bit_or m (2 ^ x) → P x true → Made P x m → Made P (x + 1) r
with_bit P x m r e p h = (
  below_more _ _ (λ y l. subst (λ b. P y b) (sym (kept y (λ z. omega (arith, z)))) (h.0 y l)) (subst (λ b. P x b) (sym (ap (λ k. bit_of k x) e ∙ bit_set m x)) p),
  λ y l. kept y (λ z. omega (arith, z)) ∙ h.1 y (omega arith),
)
  where
    kept : (y : ℕ) → (y ≡ x → ⊥) → bit_of r y ≡ bit_of m y
    kept y ne = ap (λ k. bit_of k y) e ∙ bit_kept m x y ne

pub without_bit : (P : ℕ → Bool → Type 0) (x m r : ℕ) → r ≡ m → P x false → Made P x m → Made P (x + 1) r
without_bit P x m r e p h = (
  below_more _ _ (λ y l. subst (λ k. P y (bit_of k y)) (sym e) (h.0 y l)) (subst (λ b. P x b) (sym (ap (λ k. bit_of k x) e ∙ h.1 x (omega arith))) p),
  λ y l. ap (λ k. bit_of k y) e ∙ h.1 y (omega arith),
)

-- a word whose bits are those of a list
pub bits_are : (n k : ℕ) (cs : List Bool) → length cs ≡ n → ((j : ℕ) → j < n → bit_of k j ≡ get_or cs j false) → bits n k ≡ cs
bits_are n k cs m h = ext_get_or false (bits n k) cs (length_bits n k ∙ sym m) (λ j l. let o : j < n = omega (arith, length_bits n k) in bits_get n j k o ∙ h j o)
