-- Whole procedures and programs: what is full at the start, and each procedure's verdict joined to the program's.
-- The loop over procedures says of those left what the definition says of all.
use Rattle.std.proofs.Common.{◌≡◌, ℕ, zero, suc, ◌+◌, ◌<◌, ◌≤◌, Bool, true, false, ◌&&◌, ◌||◌, T, eqb, ltb, List, [], ◌∷◌, length, get_or, drop, Some, None, Option, sym, refl, ap, ◌∙◌, subst, arith, leb→le}
use Rattle.std.specs.List.{slice_get}
use Rattle.std.proofs.lemmas.List.{drop_all}
use Rattle.std.proofs.lemmas.Bool.{le-leb, lt-leb}
use Rattle.owned.specs.declared.varset.VarSet.{VarSet}
use Rattle.owned.specs.Program.{S, Sig, Proc, Prog}
use Rattle.owned.specs.Rows.{ok_p, ok_ps}
use Rattle.owned.specs.Kept.{Full, is_full, is_num, there, keeps, begins, ends_well, kept1, kept_all}
use Rattle.owned.specs.VarSets.{bit_of}
use Rattle.owned.specs.Ends.{SignatureIn, Placed}
use Rattle.owned.specs.Views.{Seen, full_of, ThereS, SaysS, Sees, Found, SaysKept, Fine}
use Rattle.owned.proofs.Chains.{T_and}
use Rattle.owned.proofs.Programs.{sig_off, ok_off}
use Rattle.owned.proofs.Bits.{bits_are}
use Rattle.owned.proofs.Layouts.{placed_at, placed_length, signature_in}

-- full at the start
abbrev pub starts_full : Sig → ℕ → Bool
starts_full p x = ltb x (length p.args) || is_num p x

begins_get : (i : ℕ) (p : Sig) (ks : List ℕ) (j : ℕ) → j < length ks → get_or (begins i p ks) j false ≡ (ltb (i + j) (length p.args) || eqb (get_or ks j 0) 0)
begins_get i p [] j l = absurd (omega arith)
begins_get i p (k ∷ ks) zero l = let e : i + 0 ≡ i = omega arith in rw e
begins_get i p (k ∷ ks) (suc j) l = let e : i + suc j ≡ i + 1 + j = omega arith in begins_get (i + 1) p ks j (omega arith) ∙ ap (λ z. ltb z (length p.args) || eqb (get_or ks j 0) 0) (sym e)

length_begins : (i : ℕ) (p : Sig) (ks : List ℕ) → length (begins i p ks) ≡ length ks
length_begins i p [] = refl
length_begins i p (k ∷ ks) = ap suc (length_begins (i + 1) p ks)

-- a set that has the variables that start full, and no others
pub begun_all : (m : Seen) (k : VarSet) → ((x : ℕ) → x < length m.sig.kinds → bit_of k.0 x ≡ starts_full m.sig x) → full_of m k ≡ begins 0 m.sig m.sig.kinds
begun_all m k f =
    bits_are (length m.sig.kinds) k.0 (begins 0 m.sig m.sig.kinds) (length_begins 0 m.sig m.sig.kinds) (λ j l.
    let z : 0 + j ≡ j = omega arith in
    f j l ∙ sym (begins_get 0 m.sig m.sig.kinds j l ∙ ap (λ q. ltb q (length m.sig.args) || eqb (get_or m.sig.kinds j 0) 0) z))

-- procedures
module _ (m : Seen) where
  verdict : Prog → S → Bool
  verdict g s = ends_well m.sig (keeps g m.sig s (begins 0 m.sig m.sig.kinds))

  pub kept_args : m.sig.result < length m.sig.args → SaysKept m false
  kept_args l g p s rest e = sym (ap (λ b. b && (there m.sig m.sig.result && ends_well m.sig (keeps g m.sig s (begins 0 m.sig m.sig.kinds)))) (lt-leb (length m.sig.args) m.sig.result l))

  module _ (l : length m.sig.args ≤ m.sig.result) where
    looked : (b : Bool) → b ≡ there m.sig m.sig.result → (g : Prog) (s : S) → kept1 g (record { sig = m.sig; body = s }) ≡ (b && verdict g s)
    unfolding verdict
    looked b t g s =
        ap (λ c. c && (there m.sig m.sig.result && ends_well m.sig (keeps g m.sig s (begins 0 m.sig m.sig.kinds)))) (le-leb (length m.sig.args) m.sig.result l)
        ∙ ap (λ c. c && ends_well m.sig (keeps g m.sig s (begins 0 m.sig m.sig.kinds))) (sym t)

    pub kept_missing : false ≡ there m.sig m.sig.result → SaysKept m false
    kept_missing t g p s rest e = sym (looked false t g s)

    module _ (t : true ≡ there m.sig m.sig.result) (k : VarSet) (b : full_of m k ≡ begins 0 m.sig m.sig.kinds) where
      ends : (g : Prog) (s : S) (c : Option Full) → keeps g m.sig s (full_of m k) ≡ c → kept1 g (record { sig = m.sig; body = s }) ≡ ends_well m.sig c
      unfolding verdict
      ends g s c e = looked true t g s ∙ ap (λ d. ends_well m.sig (keeps g m.sig s d)) (sym b) ∙ ap (λ d. ends_well m.sig d) e

      pub kept_none : SaysS m m.body k None → SaysKept m false
      kept_none f g p s rest e = sym (ends g s None (f g p s rest e))

      pub kept_some : (a : VarSet × ℕ) (d : Bool) → SaysS m m.body k (Some a) → d ≡ is_full (full_of m a.0) m.sig.result → SaysKept m d
      kept_some a d f q g p s rest e = q ∙ sym (ends g s (Some (full_of m a.0)) (f g p s rest e).0)

-- programs
nth_drop : (g : Prog) (f : ℕ) (q : Proc) → slice_get g f ≡ Some q → drop f g ≡ q ∷ drop (f + 1) g
nth_drop [] f q h = let z : ◌≡◌ {A = ℕ} 0 1 = cc h in absurd (omega arith)
nth_drop (p ∷ ps) zero q h = let e : p ≡ q = cc h in ap (λ z. z ∷ ps) e
nth_drop (p ∷ ps) (suc f) q h = let e : suc f + 1 ≡ suc (f + 1) = omega arith in nth_drop ps f q h ∙ ap (λ z. q ∷ drop z (p ∷ ps)) (sym e)

pub ok_at : (g : Prog) (f : ℕ) (q : Proc) → T (ok_ps g) → slice_get g f ≡ Some q → T (ok_p q)
ok_at [] f q h e = let z : ◌≡◌ {A = ℕ} 0 1 = cc e in absurd (omega arith)
ok_at (p ∷ ps) zero q h e = let d : p ≡ q = cc e in subst (λ z. T (ok_p z)) d (T_and (ok_p p) (ok_ps ps) h).0
ok_at (p ∷ ps) (suc f) q h e = ok_at ps f q (T_and (ok_p p) (ok_ps ps) h).1 e

-- where the table says, a signature is in the rows
pub begins_at : (ws ts : List ℕ) (g : Prog) → Placed ws ts g → (f : ℕ) → f < length ts → SignatureIn ws (get_or ts f 0)
begins_at ws ts g p f l = let u = placed_at ws ts g f p l in signature_in ws (get_or ts f 0) u.0 u.2.0 u.2.1

-- the procedures from f on, beside all
abbrev pub Rest : List ℕ → List ℕ → ℕ → Type 0
Rest ws ts f = (g : Prog) → Placed ws ts g → kept_all g (drop f g) ≡ kept_all g g

module _ (ws ts : List ℕ) (f : ℕ) (m : Seen) (v : Found ws ts f m) where
  same : (q : Proc) → Sees m q → q ≡ record { sig = m.sig; body = q.body }
  same q s = λ z. record { sig = sym s.sig z; body = q.body }

  placed : (g : Prog) → Placed ws ts g → Placed m.rows m.starts g
  placed g p = subst (λ us. Placed us m.starts g) (sym v.rows) (subst (λ us. Placed ws us g) (sym v.starts) p)

  pub found_few : Fine ws ts → length m.sig.kinds ≤ 32
  found_few k =
      let u = v.sees k.g k.placed in
      let o = sig_off u.0.sig (ok_off u.0 (ok_at k.g f u.0 k.ok u.1)).0 in
      rw u.2.sig (leb→le (length u.0.sig.kinds) 32 o.kinds)

  pub found_there : Fine ws ts → ThereS m m.body
  found_there k = let u = v.sees k.g k.placed in record { g = k.g; placed = placed k.g k.placed; here = (u.0.body, u.2.body.0, u.2.body.1) }

  kept_is : (g : Prog) → Placed ws ts g → (b : Bool) → SaysKept m b → kept_all g (drop f g) ≡ (b && kept_all g (drop (f + 1) g))
  kept_is g p b k =
      let u = v.sees g p in
      ap (λ l. kept_all g l) (nth_drop g f u.0 u.1) ∙ ap (λ c. c && kept_all g (drop (f + 1) g)) (ap (λ q. kept1 g q) (same u.0 u.2) ∙ sym (k g (placed g p) u.0.body u.2.body.0 u.2.body.1))

  pub rest_careless : SaysKept m false → Rest ws ts f → (g : Prog) → Placed ws ts g → false ≡ kept_all g g
  rest_careless k h g p = sym (kept_is g p false k) ∙ h g p

  pub rest_more : SaysKept m true → Rest ws ts f → Rest ws ts (f + 1)
  rest_more k h g p = sym (kept_is g p true k) ∙ h g p

pub rest_done : (ws ts : List ℕ) (f : ℕ) → length ts ≤ f → Rest ws ts f → (g : Prog) → Placed ws ts g → true ≡ kept_all g g
rest_done ws ts f l h g p = ap (λ x. kept_all g x) (sym (drop_all f g (omega (arith, placed_length ws ts g p)))) ∙ h g p
