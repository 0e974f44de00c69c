-- The variables that are given back as a procedure ends, as bits: those that the definition lists.
-- Each bit is compared with its place in the list.
use Rattle.std.proofs.Common.{◌≡◌, ℕ, zero, suc, ◌+◌, ◌<◌, Bool, false, not, ◌&&◌, List, [], ◌∷◌, length, get_or, sym, refl, ap, ◌∙◌, arith}
use Rattle.owned.specs.Program.{Sig}
use Rattle.owned.specs.Runs.{stays}
use Rattle.owned.specs.Kept.{is_num}
use Rattle.owned.specs.VarSets.{bit_of, bits}
use Rattle.linker.specs.Code.{released}
use Rattle.owned.proofs.Bits.{bits_are}

-- whether a variable is given back
abbrev pub freed : Sig → ℕ → Bool
freed p x = not (is_num p x) && not (stays p x)

released_get : (p : Sig) (i : ℕ) (ks : List ℕ) (j : ℕ) → j < length ks → get_or (released p i ks) j false ≡ freed p (i + j)
released_get p i [] j l = absurd (omega arith)
released_get p i (k ∷ ks) zero l = let e : i + 0 ≡ i = omega arith in ap (λ z. freed p z) (sym e)
released_get p i (k ∷ ks) (suc j) l = let e : i + 1 + j ≡ i + suc j = omega arith in released_get p (i + 1) ks j (omega arith) ∙ ap (λ z. freed p z) e

length_released : (p : Sig) (i : ℕ) (ks : List ℕ) → length (released p i ks) ≡ length ks
length_released p i [] = refl
length_released p i (k ∷ ks) = ap suc (length_released p (i + 1) ks)

pub released_all : (p : Sig) (k : ℕ) → ((x : ℕ) → x < length p.kinds → bit_of k x ≡ freed p x) → bits (length p.kinds) k ≡ released p 0 p.kinds
released_all p k f =
    bits_are (length p.kinds) k (released p 0 p.kinds) (length_released p 0 p.kinds) (λ j l.
    let z : 0 + j ≡ j = omega arith in
    f j l ∙ sym (released_get p 0 p.kinds j l ∙ ap (λ q. freed p q) z))
