-- Marks of arguments: in a call that fits, an argument is lent just where the one called says so.
-- By recursion on the arguments and the marks beside them.
use Rattle.std.proofs.Common.{◌≡◌, ℕ, zero, suc, ◌<◌, true, false, ◌&&◌, eqb, ltb, List, [], ◌∷◌, length, get_or, Some, refl, ap, ◌∙◌, arith}
use Rattle.std.specs.List.{slice_get}
use Rattle.std.proofs.lemmas.Bool.{eqb-true, eq-eqb, ltb-true, and_parts, both_ways}
use Rattle.owned.specs.Program.{Arg}
use Rattle.owned.specs.Values.{fits}
use Rattle.owned.proofs.Places.{none_some}

-- an argument that is lent is one where the one called says so, and the other way round
pub fits_lent : (bs : List Arg) (ms : List ℕ) (i : ℕ) (a : Arg) (m : ℕ) → fits bs ms ≡ true → slice_get bs i ≡ Some a → a.lent ≡ suc m → eqb (get_or ms i 0) 1 ≡ true
fits_lent [] ms i a m f e l = none_some a e
fits_lent (b ∷ bs) [] i a m f e l = elim (both_ways false refl f) [ ]
fits_lent (b ∷ bs) (k ∷ ms) zero a m f e l =
    let (f₁, _) = and_parts (eqb b.lent k && ltb k 2) _ f in let (f₂, f₃) = and_parts (eqb b.lent k) _ f₁ in
    let q₁ : b.lent ≡ k = eqb-true b.lent k f₂ in let q₂ : k < 2 = ltb-true k 2 f₃ in let q₃ : b ≡ a = cc in let q₄ : b.lent ≡ suc m = rw q₃ l in
    eq-eqb k 1 (omega arith)
fits_lent (b ∷ bs) (k ∷ ms) (suc i) a m f e l = fits_lent bs ms i a m (and_parts (eqb b.lent k && ltb k 2) _ f).1 e l

pub fits_arg : (bs : List Arg) (ms : List ℕ) (i : ℕ) → fits bs ms ≡ true → eqb (get_or ms i 0) 1 ≡ true → (a : Arg) × (slice_get bs i ≡ Some a) × (a.lent ≡ 1)
fits_arg [] [] i f e = elim (both_ways false refl e) [ ]
fits_arg [] (k ∷ ms) i f e = elim (both_ways false refl f) [ ]
fits_arg (b ∷ bs) [] i f e = elim (both_ways false refl f) [ ]
fits_arg (b ∷ bs) (k ∷ ms) zero f e = let (f₁, _) = and_parts (eqb b.lent k && ltb k 2) _ f in (b, refl, eqb-true b.lent k (and_parts (eqb b.lent k) _ f₁).0 ∙ eqb-true k 1 e)
fits_arg (b ∷ bs) (k ∷ ms) (suc i) f e = fits_arg bs ms i (and_parts (eqb b.lent k && ltb k 2) _ f).1 e

pub fits_many : (bs : List Arg) (ms : List ℕ) → fits bs ms ≡ true → length bs ≡ length ms
fits_many [] [] f = refl
fits_many [] (k ∷ ms) f = elim (both_ways false refl f) [ ]
fits_many (b ∷ bs) [] f = elim (both_ways false refl f) [ ]
fits_many (b ∷ bs) (k ∷ ms) f = ap suc (fits_many bs ms (and_parts (eqb b.lent k && ltb k 2) _ f).1)
