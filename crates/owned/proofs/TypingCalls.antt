-- Arguments that keep the rules: they can be handed over, each is whole and of its kind, and if the one called leaves
-- what was lent to it whole and no other box, the caller's variables can be restored.
use Rattle.std.proofs.Common.{◌≡◌, ℕ, zero, suc, ◌+◌, ◌<◌, ◌≤◌, Bool, true, false, cond, ◌||◌, eqb, ltb, ◌⊎◌, List, [], ◌∷◌, length, get_or, set, Some, sym, refl, ap, ◌∙◌, inl, inr, add-zero, arith}
use lib.Dec.{eqb-suc-zero}
use Rattle.std.specs.List.{slice_get}
use Rattle.std.proofs.lemmas.List.{length-set}
use Rattle.std.proofs.lemmas.Bool.{ltb-true, eqb-true, eqb-false, eq-eqb, lt-ltb, and_parts, and_from, or_parts, or_cases, or_left, or_right, not-true, cases_eq, both_ways}
use Rattle.owned.specs.Program.{Arg, Sig, kind, is_lent}
use Rattle.owned.specs.Kept.{Full, is_full, again, hands}
use Rattle.owned.specs.Rows.{marks}
use Rattle.owned.specs.Values.{Tree, St, took, set_v, hand_one, hand, fits, boxless, one_back, restore}
use Rattle.owned.proofs.Places.{none_some, nth_set, nth_set_other}
use Rattle.owned.proofs.TypingRules.{when_parts, when_full, Argument, argument}
use Rattle.owned.proofs.Typing.{whole, whole_allowed, Has, VarsTyped, allowed_set, number_at, box_at, TookTyped, take_typed}

-- what a procedure leaves when it ends: what was lent to it, whole, and no other boxes
pub record Leaves (ks : List ℕ) (bs : List Arg) (us : List Tree) : Type 0 where
  pub many : length bs ≤ length us
  pub lent : (i : ℕ) (a : Arg) (m : ℕ) → slice_get bs i ≡ Some a → a.lent ≡ suc m → (u : Tree) × (slice_get us i ≡ Some u) × (whole (get_or ks i 0) u ≡ true)
  pub boxes : (i : ℕ) (t : Tree) → slice_get us i ≡ Some (Tree.box t) → (a : Arg) × (m : ℕ) × (slice_get bs i ≡ Some a) × (a.lent ≡ suc m)

-- trees of the kinds ks, whole
abbrev pub Whole : List ℕ → List Tree → Type 0
Whole ks ts = (y : ℕ) → y < length ts → (t : Tree) × (slice_get ts y ≡ Some t) × (whole (get_or ks y 0) t ≡ true)

pub record HandTyped (p : Sig) (bs : List Arg) (ms ks : List ℕ) (d : Full) (out : ℕ → Bool) (w : St) : Type 0 where
  pub ts : List Tree
  pub u : St
  pub is : hand p bs w ≡ took ts u
  pub many : length ts ≡ length bs
  pub fit : fits bs ms ≡ true
  pub filled : Whole ks ts
  pub back : (us : List Tree) → Leaves ks bs us → (tv : List Tree) × (restore bs us u.vars ≡ Some tv) × VarsTyped p d out tv

pub boxless_all : (us : List Tree) → ((i : ℕ) (t : Tree) → slice_get us i ≡ Some (Tree.box t) → ⊥) → boxless us ≡ true
boxless_all [] f = refl
boxless_all (Tree.num m ∷ us) f = boxless_all us (λ i. f (suc i))
boxless_all (Tree.bare ∷ us) f = boxless_all us (λ i. f (suc i))
boxless_all (Tree.box t ∷ us) f = elim (f 0 t refl) [ ]

leaves_tail : (k : ℕ) (ks : List ℕ) (a : Arg) (bs : List Arg) (u : Tree) (us : List Tree) → Leaves (k ∷ ks) (a ∷ bs) (u ∷ us) → Leaves ks bs us
leaves_tail k ks a bs u us r = let l = r.many in record { many = omega arith; lent = λ i. r.lent (suc i); boxes = λ i. r.boxes (suc i) }

whole_cons : (k : ℕ) (ks : List ℕ) (t : Tree) (ts : List Tree) → whole k t ≡ true → Whole ks ts → Whole (k ∷ ks) (t ∷ ts)
whole_cons k ks t ts f g zero l = (t, refl, f)
whole_cons k ks t ts f g (suc y) l = g y (omega arith)

fits_cons : (a : Arg) (bs : List Arg) (m : ℕ) (ms : List ℕ) → a.lent ≡ m → m < 2 → fits bs ms ≡ true → fits (a ∷ bs) (m ∷ ms) ≡ true
fits_cons a bs m ms e l f = and_from _ _ (and_from _ _ (eq-eqb a.lent m e) (lt-ltb m 2 l)) f

hand_is : (p : Sig) (a : Arg) (bs : List Arg) (w : St) (t : Tree) (u : St) (ts : List Tree) (u' : St) → hand_one p a.lent (kind p a.of) a.of w ≡ took t u → hand p bs u ≡ took ts u' → hand p (a ∷ bs) w ≡ took (t ∷ ts) u'
hand_is p a bs w t u ts u' e h = rw (e, h)

-- a box lent out, and back
lend_typed : (p : Sig) (c : Full) (out : ℕ → Bool) (ts : List Tree) (x k : ℕ) (u : Tree) → slice_get ts x ≡ Some u → kind p x ≡ suc k → VarsTyped p c out ts → VarsTyped p c (λ y. eqb y x || out y) (set ts x Tree.bare)
lend_typed p c out ts x k u e z i = record { len = length-set ts x Tree.bare ∙ i.len; ok = allowed_set p ts x Tree.bare i.ok (rw z refl); has = has1; gone = gone1 }
  where
    has1 : (y : ℕ) → (is_full c y || is_lent p y) ≡ true → (eqb y x || out y) ≡ false → Has p (set ts x Tree.bare) y
    has1 y f o = let (o₁, o₂) = or_parts (eqb y x) _ o in let (t, et, ft) = i.has y f o₂ in (t, nth_set_other ts x y Tree.bare (λ r. eqb-false y x o₁ (sym r)) ∙ et, ft)

    gone1 : (y : ℕ) → (eqb y x || out y) ≡ true → slice_get (set ts x Tree.bare) y ≡ Some Tree.bare
    gone1 y o = go (cases_eq x y)
      where
        other : (eqb y x ≡ true) ⊎ (out y ≡ true) → (x ≡ y → ⊥) → slice_get (set ts x Tree.bare) y ≡ Some Tree.bare
        other (inl r) ne = elim (ne (sym (eqb-true y x r))) [ ]
        other (inr r) ne = nth_set_other ts x y Tree.bare ne ∙ i.gone y r

        go : (x ≡ y) ⊎ (x ≡ y → ⊥) → slice_get (set ts x Tree.bare) y ≡ Some Tree.bare
        go (inl r) = rw (← r) (nth_set ts x u Tree.bare e)
        go (inr ne) = other (or_cases (eqb y x) (out y) o) ne

unlend_typed : (p : Sig) (c : Full) (out : ℕ → Bool) (ts : List Tree) (x : ℕ) (u : Tree) → out x ≡ false → whole (kind p x) u ≡ true → VarsTyped p c (λ y. eqb y x || out y) ts → VarsTyped p c out (set ts x u)
unlend_typed p c out ts x u o f i = record { len = length-set ts x u ∙ i.len; ok = allowed_set p ts x u i.ok (whole_allowed (kind p x) u f); has = has1; gone = gone1 }
  where
    has1 : (y : ℕ) → (is_full c y || is_lent p y) ≡ true → out y ≡ false → Has p (set ts x u) y
    has1 y g oy = go (eqb y x) refl
      where
        go : (b : Bool) → eqb y x ≡ b → Has p (set ts x u) y
        go true r = let r' = eqb-true y x r in let q = i.gone x (or_left (eqb x x) (out x) (eq-eqb x x refl)) in (u, rw r' (nth_set ts x Tree.bare u q), rw r' f)
        go false r = let (t, et, ft) = i.has y g (rw r oy) in (t, nth_set_other ts x y u (λ z. eqb-false y x r (sym z)) ∙ et, ft)

    gone1 : (y : ℕ) → out y ≡ true → slice_get (set ts x u) y ≡ Some Tree.bare
    gone1 y oy = go (cases_eq x y)
      where
        go : (x ≡ y) ⊎ (x ≡ y → ⊥) → slice_get (set ts x u) y ≡ Some Tree.bare
        go (inl r) = elim (both_ways (out y) (rw r at o) oy) [ ]
        go (inr ne) = nth_set_other ts x y u ne ∙ i.gone y (or_right (eqb y x) (out y) oy)

cond_same : {A : Type 0} (b : Bool) (x : A) → cond b x x ≡ x
cond_same true x = refl
cond_same false x = refl

module _ (p q : Sig) (i : ℕ) (a : Arg) (bs : List Arg) (ms ks : List ℕ) (c d : Full) (out : ℕ → Bool) (w : St) (st : Argument p q i a bs c d) (off : (y : ℕ) → out y ≡ true → again y (a ∷ bs) ≡ false)
    (ih : (c' : Full) (out' : ℕ → Bool) (w' : St) → hands p q (i + 1) bs c' ≡ Some d → ((y : ℕ) → out' y ≡ true → again y bs ≡ false) → VarsTyped p c' out' w'.vars → HandTyped p bs ms ks d out' w') (ty : VarsTyped p c out w.vars) where
  here : out a.of ≡ false
  here = go (out a.of) refl
    where
      go : (b : Bool) → out a.of ≡ b → out a.of ≡ false
      go true e = elim (both_ways (eqb a.of a.of) (or_parts (eqb a.of a.of) _ (off a.of e)).0 (eq-eqb a.of a.of refl)) [ ]
      go false e = e

  off_tail : (y : ℕ) → out y ≡ true → again y bs ≡ false
  off_tail y e = (or_parts (eqb y a.of) _ (off y e)).1

  -- an argument that is no lent box leaves nothing to restore
  no_back : (k : ℕ) (u₀ : St) → ((us : List Tree) → Leaves ks bs us → (tv : List Tree) × (restore bs us u₀.vars ≡ Some tv) × VarsTyped p d out tv) → ((m : ℕ) → a.lent ≡ suc m → k ≡ 0)
      → (us : List Tree) → Leaves (k ∷ ks) (a ∷ bs) us → (tv : List Tree) × (restore (a ∷ bs) us u₀.vars ≡ Some tv) × VarsTyped p d out tv
  no_back k u₀ back kz [] r = let z : ⊥ = omega (arith, r.many) in elim z [ ]
  no_back k u₀ back kz (u ∷ us) r = let (tv, e, y) = back us (leaves_tail k ks a bs u us r) in (tv, rw e (go a.lent refl u refl), y)
    where
      go : (m : ℕ) → a.lent ≡ m → (t : Tree) → u ≡ t → {tv : List Tree} → one_back m t a.of (Some tv) ≡ Some tv
      go m e (Tree.num j) eu = refl
      go zero e Tree.bare eu = refl
      go (suc m) e Tree.bare eu = let (v, ev, fv) = r.lent 0 a m refl e in let q : v ≡ Tree.bare = cc in elim (both_ways false refl (rw (q, kz m e) at fv)) [ ]
      go zero e (Tree.box t) eu = let (b, m, eb, em) = r.boxes 0 t (ap Some eu) in let q : b ≡ a = cc in let z : ⊥ = omega (arith, sym em ∙ (rw (← q) at e)) in elim z [ ]
      go (suc m) e (Tree.box t) eu = let (v, ev, fv) = r.lent 0 a m refl e in let q : v ≡ Tree.box t = cc in elim (both_ways false refl (rw (q, kz m e) at fv)) [ ]

  number_is : (m j : ℕ) → slice_get w.vars a.of ≡ Some (Tree.num j) → hand_one p m 0 a.of w ≡ took (Tree.num j) w
  number_is zero j e = rw e refl
  number_is (suc m) j e = rw e refl

  hand_one_typed : (m k : ℕ) → a.lent ≡ m → m < 2 → kind p a.of ≡ k → HandTyped p (a ∷ bs) (m ∷ ms) (k ∷ ks) d out w
  hand_one_typed m zero e l z = go (number_at p c out w.vars a.of st.inside z ty) (ih c out w (rw (z, cond_same (eqb a.lent 1) c) at st.later) off_tail ty)
    where
      go : (j : ℕ) × (slice_get w.vars a.of ≡ Some (Tree.num j)) → HandTyped p bs ms ks d out w → HandTyped p (a ∷ bs) (m ∷ ms) (0 ∷ ks) d out w
      go (j, ej) H = record {
        ts = Tree.num j ∷ H.ts;
        u = H.u;
        is = hand_is p a bs w (Tree.num j) w H.ts H.u (rw z (number_is a.lent j ej)) H.is;
        many = ap suc H.many;
        fit = fits_cons a bs m ms e l H.fit;
        filled = whole_cons 0 ks (Tree.num j) H.ts refl H.filled;
        back = no_back 0 H.u H.back (λ _ _. refl);
      }
  hand_one_typed zero (suc k) e l z = go (take_typed p c out w a.of (suc k) z here (rw e at st.may) ty)
    where
      with_rest : (T : TookTyped p c out w a.of (suc k)) → HandTyped p bs ms ks d out T.u → HandTyped p (a ∷ bs) (0 ∷ ms) (suc k ∷ ks) d out w
      with_rest T H = let t = T.is in record {
        ts = T.t ∷ H.ts;
        u = H.u;
        is = hand_is p a bs w T.t T.u H.ts H.u (rw (e, z) t) H.is;
        many = ap suc H.many;
        fit = fits_cons a bs 0 ms e (omega arith) H.fit;
        filled = whole_cons (suc k) ks T.t H.ts T.isfull H.filled;
        back = no_back (suc k) H.u H.back (λ m' e'. (let f : ⊥ = omega (arith, sym e ∙ e') in elim f [ ]));
      }

      go : TookTyped p c out w a.of (suc k) → HandTyped p (a ∷ bs) (0 ∷ ms) (suc k ∷ ks) d out w
      go T = with_rest T (ih (cond (eqb (suc k) 0) c (set c a.of false)) out T.u (rw (e, z) at st.later) off_tail T.typed)
  hand_one_typed (suc zero) (suc k) e l z = go (box_at p c out w.vars a.of k st.isfull here z ty)
    where
      off_lent : (y : ℕ) → (eqb y a.of || out y) ≡ true → again y bs ≡ false
      off_lent y o = go (or_cases (eqb y a.of) (out y) o)
        where
          go : (eqb y a.of ≡ true) ⊎ (out y ≡ true) → again y bs ≡ false
          go (inl r) = let r' = eqb-true y a.of r in rw r' (not-true (again a.of bs) (rw (z, eqb-suc-zero k) at st.once))
          go (inr r) = off_tail y r

      with_rest : (t : Tree) → slice_get w.vars a.of ≡ Some (Tree.box t) → whole k t ≡ true → HandTyped p bs ms ks d (λ y. eqb y a.of || out y) (set_v w a.of Tree.bare) → HandTyped p (a ∷ bs) (1 ∷ ms) (suc k ∷ ks) d out w
      with_rest t et ft H = record {
        ts = Tree.box t ∷ H.ts;
        u = H.u;
        is = hand_is p a bs w (Tree.box t) (set_v w a.of Tree.bare) H.ts H.u (rw (e, et) refl) H.is;
        many = ap suc H.many;
        fit = fits_cons a bs 1 ms e (omega arith) H.fit;
        filled = whole_cons (suc k) ks (Tree.box t) H.ts ft H.filled;
        back = back1;
      }
        where
          put_back : (u : Tree) (us tv : List Tree) → restore bs us H.u.vars ≡ Some tv → VarsTyped p d (λ y. eqb y a.of || out y) tv → whole (suc k) u ≡ true → (tv' : List Tree) × (restore (a ∷ bs) (u ∷ us) H.u.vars ≡ Some tv') × VarsTyped p d out tv'
          put_back (Tree.num j) us tv er y f = elim (both_ways false refl f) [ ]
          put_back Tree.bare us tv er y f = elim (both_ways false refl f) [ ]
          put_back (Tree.box v) us tv er y f = let b = y.gone a.of (or_left (eqb a.of a.of) (out a.of) (eq-eqb a.of a.of refl)) in (set tv a.of (Tree.box v), rw (er, e, b) refl, unlend_typed p d out tv a.of (Tree.box v) here (rw z f) y)

          back1 : (us : List Tree) → Leaves (suc k ∷ ks) (a ∷ bs) us → (tv : List Tree) × (restore (a ∷ bs) us H.u.vars ≡ Some tv) × VarsTyped p d out tv
          back1 [] r = let z : ⊥ = omega (arith, r.many) in elim z [ ]
          back1 (u ∷ us) r = let (tv, er, y) = H.back us (leaves_tail (suc k) ks a bs u us r) in let (v, ev, fv) = r.lent 0 a 0 refl e in let q : v ≡ u = cc in put_back u us tv er y (rw q at fv)

      go : (u : Tree) × (slice_get w.vars a.of ≡ Some (Tree.box u)) × (whole k u ≡ true) → HandTyped p (a ∷ bs) (1 ∷ ms) (suc k ∷ ks) d out w
      go (t, et, ft) = with_rest t et ft (ih c (λ y. eqb y a.of || out y) (set_v w a.of Tree.bare) (rw e at st.later) off_lent (lend_typed p c out w.vars a.of k (Tree.box t) et z ty))
  hand_one_typed (suc (suc m)) (suc k) e l z = let f : ⊥ = omega arith in elim f [ ]

pub hand_typed : (p q : Sig) (bs : List Arg) (i : ℕ) (ms ks : List ℕ) (c d : Full) (out : ℕ → Bool) (w : St) → marks bs ≡ true → ((y : ℕ) → get_or q.args (i + y) 0 ≡ get_or ms y 0) → ((y : ℕ) → get_or q.kinds (i + y) 0 ≡ get_or ks y 0) → i + length ms ≡ length q.args → length ms ≤ length ks
    → hands p q i bs c ≡ Some d → ((y : ℕ) → out y ≡ true → again y bs ≡ false) → VarsTyped p c out w.vars → HandTyped p bs ms ks d out w
hand_typed p q [] i [] ks c d out w mk sm sk l₁ l₂ hh off ty =
    let (_, cd) = when_full (eqb i (length q.args)) c d hh in
    record {
      ts = [];
      u = w;
      is = refl;
      many = refl;
      fit = refl;
      filled = λ y l. (let z : ⊥ = omega arith in elim z [ ]);
      back = λ us r. (w.vars, rw (boxless_all us (λ j t e. (let (a, m, ea, em) = r.boxes j t e in none_some a ea))) refl, rw (← cd) ty);
    }
hand_typed p q [] i (m ∷ ms) ks c d out w mk sm sk l₁ l₂ hh off ty = let e = eqb-true i (length q.args) (when_parts (eqb i (length q.args)) (Some c) d hh).0 in let z : ⊥ = omega arith in elim z [ ]
hand_typed p q (a ∷ bs) i [] ks c d out w mk sm sk l₁ l₂ hh off ty = let e = (argument p q i a bs c d hh).within in let z : ⊥ = omega arith in elim z [ ]
hand_typed p q (a ∷ bs) i (m ∷ ms) [] c d out w mk sm sk l₁ l₂ hh off ty = let z : ⊥ = omega arith in elim z [ ]
hand_typed p q (a ∷ bs) i (m ∷ ms) (k ∷ ks) c d out w mk sm sk l₁ l₂ hh off ty =
    let st = argument p q i a bs c d hh in
    let (mk₁, mk₂) = and_parts (ltb a.lent 2) _ mk in
    let em : a.lent ≡ m = st.mark ∙ (rw add-zero at (sm 0)) in
    let ek : kind p a.of ≡ k = st.kinded ∙ (rw add-zero at (sk 0)) in
    let l : m < 2 = rw (← em) (ltb-true a.lent 2 mk₁) in
    hand_one_typed p q i a bs ms ks c d out w st off
    (λ c' out' w' hh' off' ty'. hand_typed p q bs (i + 1) ms ks c' d out' w' mk₂ (λ y. ap (λ z. get_or q.args z 0) (omega arith) ∙ sm (suc y)) (λ y. ap (λ z. get_or q.kinds z 0) (omega arith) ∙ sk (suc y)) (omega arith) (omega arith) hh' off' ty')
    ty m k em l ek
