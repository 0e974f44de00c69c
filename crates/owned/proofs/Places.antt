-- Places of a list: what `slice_get` says after `set`, and beside `get_or`.
-- By recursion on the list; what is past the end is ruled out by what is said to be there.
use Rattle.std.proofs.Common.{◌≡◌, ℕ, zero, suc, ◌<◌, List, [], ◌∷◌, ◌++◌, length, get_or, set, Some, None, Option, refl, ap, arith}
use Rattle.std.specs.List.{slice_get}

-- nothing is Some and None
pub none_some : {A B : Type 0} (a : A) → ◌≡◌ {A = Option A} None (Some a) → B
none_some a e = let z : ◌≡◌ {A = ℕ} 0 1 = cc in let y : ⊥ = omega arith in elim y [ ]

module _ {A : Type 0} where
  pub nth_lt : (xs : List A) (i : ℕ) (x : A) → slice_get xs i ≡ Some x → i < length xs
  nth_lt [] i x e = none_some x e
  nth_lt (y ∷ xs) zero x e = omega arith
  nth_lt (y ∷ xs) (suc i) x e = let l = nth_lt xs i x e in omega arith

  pub get_or_nth : (xs : List A) (i : ℕ) (x d : A) → slice_get xs i ≡ Some x → get_or xs i d ≡ x
  get_or_nth [] i x d e = none_some x e
  get_or_nth (y ∷ xs) zero x d e = cc
  get_or_nth (y ∷ xs) (suc i) x d e = get_or_nth xs i x d e

  pub nth_set : (xs : List A) (i : ℕ) (x y : A) → slice_get xs i ≡ Some x → slice_get (set xs i y) i ≡ Some y
  nth_set [] i x y e = none_some x e
  nth_set (z ∷ xs) zero x y e = refl
  nth_set (z ∷ xs) (suc i) x y e = nth_set xs i x y e

  pub nth_set_other : (xs : List A) (i j : ℕ) (y : A) → (i ≡ j → ⊥) → slice_get (set xs i y) j ≡ slice_get xs j
  nth_set_other [] i j y ne = refl
  nth_set_other (x ∷ xs) zero zero y ne = elim (ne refl) [ ]
  nth_set_other (x ∷ xs) zero (suc j) y ne = refl
  nth_set_other (x ∷ xs) (suc i) zero y ne = refl
  nth_set_other (x ∷ xs) (suc i) (suc j) y ne = nth_set_other xs i j y (λ e. ne (ap suc e))

  pub set_nth : (xs : List A) (i : ℕ) (x : A) → slice_get xs i ≡ Some x → set xs i x ≡ xs
  set_nth [] i x e = refl
  set_nth (y ∷ xs) zero x e = ap (λ z. z ∷ xs) (cc)
  set_nth (y ∷ xs) (suc i) x e = ap (λ zs. y ∷ zs) (set_nth xs i x e)

  -- what is found where something was put is that
  pub set_found : (xs : List A) (i : ℕ) (x y : A) → slice_get (set xs i y) i ≡ Some x → x ≡ y
  set_found [] i x y e = none_some x e
  set_found (z ∷ xs) zero x y e = cc
  set_found (z ∷ xs) (suc i) x y e = set_found xs i x y e

  -- the default put into a place is what is read there, also past the end
  pub get_or_set_default : (xs : List A) (i : ℕ) (d : A) → get_or (set xs i d) i d ≡ d
  get_or_set_default [] i d = refl
  get_or_set_default (x ∷ xs) zero d = refl
  get_or_set_default (x ∷ xs) (suc i) d = get_or_set_default xs i d

  pub nth_front : (xs ys : List A) (i : ℕ) → i < length xs → slice_get (xs ++ ys) i ≡ slice_get xs i
  nth_front [] ys i l = let z : ⊥ = omega arith in elim z [ ]
  nth_front (x ∷ xs) ys zero l = refl
  nth_front (x ∷ xs) ys (suc i) l = nth_front xs ys i (omega arith)
