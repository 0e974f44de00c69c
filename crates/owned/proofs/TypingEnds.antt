-- How a procedure begins and ends, with trees: what it begins with is typed, and at the end all variables but the
-- result and the lent arguments are bare.
use Rattle.std.proofs.Common.{◌≡◌, ℕ, zero, suc, ◌+◌, ◌<◌, ◌≤◌, Bool, true, false, eqb, ◌⊎◌, List, [], ◌∷◌, ◌++◌, length, get_or, drop, set, Some, sym, refl, ap, ◌∙◌, inl, inr, add-zero, arith}
use lib.Dec.{eqb-suc-zero}
use Rattle.std.specs.List.{slice_get}
use Rattle.std.proofs.lemmas.List.{length-set, get_or_past}
use Rattle.std.proofs.lemmas.Bool.{or_parts, or_cases, cases_eq, cases_lt, both_ways, false≢true}
use Rattle.owned.specs.Program.{Sig, kind, is_lent}
use Rattle.owned.specs.Runs.{stays}
use Rattle.owned.specs.Kept.{is_full, begins}
use Rattle.owned.specs.Values.{Tree, weight, of_kind, St, fine, set_v, with_room, blank, ends}
use Rattle.owned.proofs.Places.{none_some, nth_set, nth_set_other, nth_front}
use Rattle.owned.proofs.TypingRules.{begins_full, Shaped}
use Rattle.owned.proofs.Typing.{allowed, whole_allowed, whole_number, nth_tree, Has, VarsTyped, nowhere}
use Rattle.owned.proofs.TypingCalls.{Whole}

-- only an argument is lent
pub lent_lt : (p : Sig) (x : ℕ) → is_lent p x ≡ true → x < length p.args
lent_lt p x e = go (cases_lt x (length p.args))
  where
    go : (x < length p.args) ⊎ (length p.args ≤ x) → x < length p.args
    go (inl l) = l
    go (inr l) = elim (both_ways false refl (rw (get_or_past p.args x 0 l) at e)) [ ]

-- the variables from x on are given back, but for those that stay
pub record EndTyped (p : Sig) (x : ℕ) (ks : List ℕ) (w : St) : Type 0 where
  pub u : St
  pub is : ends p x ks w ≡ fine u
  pub many : length u.vars ≡ length w.vars
  pub keep : (y : ℕ) → (y < x) ⊎ (stays p y ≡ true) → slice_get u.vars y ≡ slice_get w.vars y
  pub gone : (y : ℕ) → x ≤ y → y < length w.vars → stays p y ≡ false → slice_get u.vars y ≡ Some Tree.bare

pub ends_typed : (p : Sig) (x : ℕ) (ks : List ℕ) (w : St) → x + length ks ≡ length w.vars → ((y : ℕ) (t : Tree) → slice_get w.vars (x + y) ≡ Some t → of_kind (get_or ks y 0) t ≡ true) → EndTyped p x ks w
ends_typed p x [] w l k = record { u = w; is = refl; many = refl; keep = λ y h. refl; gone = λ y le lt. (let z : ⊥ = omega arith in elim z [ ]) }
ends_typed p x (j ∷ ks) w l k = go (stays p x) refl (λ w' l' k'. ends_typed p (x + 1) ks w' l' k')
  where
    shift : (y : ℕ) (t : Tree) → slice_get w.vars (x + 1 + y) ≡ Some t → of_kind (get_or ks y 0) t ≡ true
    shift y t e = k (suc y) t (ap (slice_get w.vars) (omega arith) ∙ e)

    -- what is said of the variables from x + 1 on, and of x
    gone1 : (u : St) (ws : List Tree) → length ws ≡ length w.vars → ((y : ℕ) → x + 1 ≤ y → y < length ws → stays p y ≡ false → slice_get u.vars y ≡ Some Tree.bare) → (stays p x ≡ false → slice_get u.vars x ≡ Some Tree.bare)
        → (y : ℕ) → x ≤ y → y < length w.vars → stays p y ≡ false → slice_get u.vars y ≡ Some Tree.bare
    gone1 u ws lw f h y le lt s = fin (cases_eq x y)
      where
        fin : (x ≡ y) ⊎ (x ≡ y → ⊥) → slice_get u.vars y ≡ Some Tree.bare
        fin (inl r) = rw (← r) (h (rw r s))
        fin (inr ne) = f y (omega arith) (omega arith) s

    keep_stays : (u : St) → ((y : ℕ) → (y < x + 1) ⊎ (stays p y ≡ true) → slice_get u.vars y ≡ slice_get w.vars y) → (y : ℕ) → (y < x) ⊎ (stays p y ≡ true) → slice_get u.vars y ≡ slice_get w.vars y
    keep_stays u f y (inl h) = f y (inl (omega arith))
    keep_stays u f y (inr h) = f y (inr h)

    keep_gone : (u : St) → stays p x ≡ false → ((y : ℕ) → (y < x + 1) ⊎ (stays p y ≡ true) → slice_get u.vars y ≡ slice_get (set w.vars x Tree.bare) y) → (y : ℕ) → (y < x) ⊎ (stays p y ≡ true) → slice_get u.vars y ≡ slice_get w.vars y
    keep_gone u s f y (inl h) = f y (inl (omega arith)) ∙ nth_set_other w.vars x y Tree.bare (λ r. (let z : ⊥ = omega arith in z))
    keep_gone u s f y (inr h) = f y (inr h) ∙ nth_set_other w.vars x y Tree.bare (λ r. both_ways (stays p y) (rw r at s) h)

    emptied : (t : Tree) → slice_get w.vars x ≡ Some t → of_kind j t ≡ true → stays p x ≡ false → EndTyped p (x + 1) ks (with_room (set_v w x Tree.bare) (weight t + w.room)) → EndTyped p x (j ∷ ks) w
    emptied t et kt s E = let e = E.is in let nl : is_lent p x ≡ false = (or_parts (eqb x p.result) _ s).1 in
        record {
          u = E.u;
          is = rw (s, et, kt, nl) e;
          many = E.many ∙ length-set w.vars x Tree.bare;
          keep = keep_gone E.u s E.keep;
          gone = gone1 E.u (set w.vars x Tree.bare) (length-set w.vars x Tree.bare) E.gone (λ h. E.keep x (inl (omega arith)) ∙ nth_set w.vars x t Tree.bare et);
        }

    go : (b : Bool) → stays p x ≡ b → ((w' : St) → x + 1 + length ks ≡ length w'.vars → ((y : ℕ) (t : Tree) → slice_get w'.vars (x + 1 + y) ≡ Some t → of_kind (get_or ks y 0) t ≡ true) → EndTyped p (x + 1) ks w') → EndTyped p x (j ∷ ks) w
    go true s ih = let E = ih w (omega arith) shift in let e = E.is in
        record { u = E.u; is = rw (s, e) refl; many = E.many; keep = keep_stays E.u E.keep; gone = gone1 E.u w.vars refl E.gone (λ h. elim (both_ways (stays p x) h s) [ ]) }
    go false s ih =
        let (t, et) = nth_tree w.vars x (omega arith) in
        emptied t et (k 0 t (ap (slice_get w.vars) (add-zero x) ∙ et)) s (ih (with_room (set_v w x Tree.bare) (weight t + w.room)) (omega (arith, length-set w.vars x Tree.bare))
        (λ y u e. shift y u (sym (nth_set_other w.vars x (x + 1 + y) Tree.bare (λ r. (let z : ⊥ = omega arith in z))) ∙ e)))

-- what a procedure begins with
blank_many : (ks : List ℕ) → length (blank ks) ≡ length ks
blank_many [] = refl
blank_many (k ∷ ks) = ap suc (blank_many ks)

begun_many : (ts : List Tree) (ks : List ℕ) → length ts ≤ length ks → length (ts ++ blank (drop (length ts) ks)) ≡ length ks
begun_many [] ks l = blank_many ks
begun_many (t ∷ ts) [] l = let z : ⊥ = omega arith in elim z [ ]
begun_many (t ∷ ts) (k ∷ ks) l = ap suc (begun_many ts ks (omega arith))

blank_allowed : (ks : List ℕ) (x : ℕ) (t : Tree) → slice_get (blank ks) x ≡ Some t → allowed (get_or ks x 0) t ≡ true
blank_allowed [] x t e = none_some t e
blank_allowed (zero ∷ ks) zero t e = let q : t ≡ Tree.num 0 = cc in rw q refl
blank_allowed (suc k ∷ ks) zero t e = let e' = rw (eqb-suc-zero k) at e in let q : t ≡ Tree.bare = cc in rw q refl
blank_allowed (k ∷ ks) (suc x) t e = blank_allowed ks x t e

begun_allowed : (ts : List Tree) (ks : List ℕ) → length ts ≤ length ks → Whole ks ts → (x : ℕ) (t : Tree) → slice_get (ts ++ blank (drop (length ts) ks)) x ≡ Some t → allowed (get_or ks x 0) t ≡ true
begun_allowed [] ks l f x t e = blank_allowed ks x t e
begun_allowed (u ∷ ts) [] l f x t e = let z : ⊥ = omega arith in elim z [ ]
begun_allowed (u ∷ ts) (k ∷ ks) l f zero t e = let (v, ev, fv) = f 0 (omega arith) in let q : v ≡ t = cc in whole_allowed k t (rw q at fv)
begun_allowed (u ∷ ts) (k ∷ ks) l f (suc x) t e = begun_allowed ts ks (omega arith) (λ y m. f (suc y) (omega arith)) x t e

pub begun_typed : (p : Sig) (ts : List Tree) → Shaped p → length ts ≡ length p.args → Whole p.kinds ts → VarsTyped p (begins 0 p p.kinds) nowhere (ts ++ blank (drop (length ts) p.kinds))
begun_typed p ts ft len fil = record { len = many; ok = oks; has = λ x e _. by_case x (or_cases (is_full (begins 0 p p.kinds) x) (is_lent p x) e); gone = λ x e. elim (false≢true e) [ ] }
  where
    us : List Tree
    us = ts ++ blank (drop (length ts) p.kinds)

    many : length us ≡ length p.kinds
    many = begun_many ts p.kinds (omega (arith, ft.fits))

    oks : (x : ℕ) (t : Tree) → slice_get us x ≡ Some t → allowed (kind p x) t ≡ true
    oks = begun_allowed ts p.kinds (omega (arith, ft.fits)) fil

    argument : (x : ℕ) → x < length ts → Has p us x
    argument x l = let (t, et, ft) = fil x l in (t, nth_front ts (blank (drop (length ts) p.kinds)) x l ∙ et, ft)

    number : (x : ℕ) → kind p x ≡ 0 → (t : Tree) × (slice_get us x ≡ Some t) → Has p us x
    number x z (t, et) = let (m, em) = whole_number t (rw z at (oks x t et)) in (Tree.num m, et ∙ ap Some em, rw z refl)

    by_full : (x : ℕ) → (x < length p.kinds) × ((0 + x < length p.args) ⊎ (kind p x ≡ 0)) → Has p us x
    by_full x (l, inl m) = argument x (omega arith)
    by_full x (l, inr z) = number x z (nth_tree us x (omega (arith, many)))

    by_case : (x : ℕ) → (is_full (begins 0 p p.kinds) x ≡ true) ⊎ (is_lent p x ≡ true) → Has p us x
    by_case x (inl e) = by_full x (begins_full 0 p p.kinds x e)
    by_case x (inr e) = argument x (omega (arith, lent_lt p x e))
