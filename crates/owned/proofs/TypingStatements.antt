-- A statement that keeps the rules does not fault on the value machine, and what it says is full afterwards is.
-- One lemma for each, from the test that `keeps` makes of it.
use Rattle.std.proofs.Common.{◌≡◌, ℕ, zero, suc, ◌+◌, ◌<◌, ◌≤◌, true, false, not, ◌&&◌, eqb, leb, length, set, Some, refl, ap, ◌∙◌, add-one, arith}
use lib.Dec.{eqb-suc-zero}
use Rattle.std.specs.List.{slice_get}
use Rattle.std.proofs.lemmas.Bool.{ltb-true, leb-true, eqb-true, eqb-false, and_parts, not-true, false≢true}
use Rattle.owned.specs.Program.{E, S, Sig, kind, is_lent}
use Rattle.owned.specs.Kept.{Full, is_full, there, is_num, numbers, gives, full_after_give, takes}
use Rattle.owned.specs.Values.{Tree, St, into, new_at, set_v, with_room, simple}
use Rattle.owned.proofs.Typing.{whole, allowed, whole_kind, whole_allowed, whole_number, VarsTyped, nowhere, refill_typed, set_typed, box_at, NoFault, into_typed, number_typed, TookTyped, take_typed, value_typed}

module _ (p : Sig) (c : Full) (w : St) (i : VarsTyped p c nowhere w.vars) where
  pub set_number_typed : (x : ℕ) (e : E) → (takes p x && (is_num p x && numbers p e)) ≡ true → NoFault (simple p (S.set x e) w) (λ z. VarsTyped p c nowhere z.vars)
  set_number_typed x e h =
      let (t, h₁) = and_parts (takes p x) _ h in let (z, m) = and_parts (is_num p x) _ h₁ in let (v, ev) = value_typed p c w e m i in
      rw ev (number_typed p c x v w (eqb-true (kind p x) 0 z) t i)

  pub box_typed : (x y : ℕ) → (takes p x && (gives p c y && (eqb (kind p x) (kind p y + 1) && not (eqb x y)))) ≡ true → NoFault (simple p (S.box x y) w) (λ z. VarsTyped p (set (full_after_give p c y) x true) nowhere z.vars)
  box_typed x y h =
      let (t, h₁) = and_parts (takes p x) _ h in let (g, h₂) = and_parts (gives p c y) _ h₁ in
      let e : kind p x ≡ suc (kind p y) = eqb-true (kind p x) (kind p y + 1) (and_parts (eqb (kind p x) (kind p y + 1)) _ h₂).0 ∙ add-one (kind p y) in
      let T = take_typed p c nowhere w y (kind p y) refl refl g i in let q = T.is in
      rw q (go t e T T.u.room)
    where
      go : takes p x ≡ true → kind p x ≡ suc (kind p y) → (T : TookTyped p c nowhere w y (kind p y)) (r : ℕ) → NoFault (new_at r T.u T.t (λ b z. into p (kind p x) x b z)) (λ z. VarsTyped p (set (full_after_give p c y) x true) nowhere z.vars)
      go t e T zero = tt
      go t e T (suc r) = into_typed p (full_after_give p c y) x (kind p x) (Tree.box T.t) (with_room T.u r) true refl t (rw e T.isfull) (λ _. rw e T.isfull) T.typed

  pub move_typed : (x y : ℕ) → (takes p x && (gives p c y && (eqb (kind p x) (kind p y) && not (eqb x y)))) ≡ true → NoFault (simple p (S.move x y) w) (λ z. VarsTyped p (set (full_after_give p c y) x true) nowhere z.vars)
  move_typed x y h =
      let (t, h₁) = and_parts (takes p x) _ h in let (g, h₂) = and_parts (gives p c y) _ h₁ in
      let e : kind p x ≡ kind p y = eqb-true (kind p x) (kind p y) (and_parts (eqb (kind p x) (kind p y)) _ h₂).0 in
      go t e (take_typed p c nowhere w y (kind p y) refl refl g i)
    where
      go : takes p x ≡ true → kind p x ≡ kind p y → TookTyped p c nowhere w y (kind p y) → NoFault (simple p (S.move x y) w) (λ z. VarsTyped p (set (full_after_give p c y) x true) nowhere z.vars)
      go t e T = let q = T.is in rw q (into_typed p (full_after_give p c y) x (kind p x) T.t T.u true refl t (whole_allowed (kind p x) T.t (rw e T.isfull)) (λ _. rw e T.isfull) T.typed)

  pub unbox_typed : (x y : ℕ) → (takes p x && (gives p c y && (eqb (kind p y) (kind p x + 1) && not (eqb x y)))) ≡ true → NoFault (simple p (S.unbox x y) w) (λ z. VarsTyped p (set (set c y false) x true) nowhere z.vars)
  unbox_typed x y h =
      let (t, h₁) = and_parts (takes p x) _ h in let (g, h₂) = and_parts (gives p c y) _ h₁ in
      let e : kind p y ≡ suc (kind p x) = eqb-true (kind p y) (kind p x + 1) (and_parts (eqb (kind p y) (kind p x + 1)) _ h₂).0 ∙ add-one (kind p x) in
      let (l, g') = and_parts (there p y) _ g in
      let (f, nl) = and_parts (is_full c y) _ (rw (e, eqb-suc-zero (kind p x)) at g') in
      go t e (ltb-true y (length p.kinds) l) (not-true (is_lent p y) nl) (box_at p c nowhere w.vars y (kind p x) f refl e i)
    where
      go : takes p x ≡ true → kind p y ≡ suc (kind p x) → y < length p.kinds → is_lent p y ≡ false → (u : Tree) × (slice_get w.vars y ≡ Some (Tree.box u)) × (whole (kind p x) u ≡ true) → NoFault (simple p (S.unbox x y) w) (λ z. VarsTyped p (set (set c y false) x true) nowhere z.vars)
      go t e l nl (u, ev, fu) = rw (ev, nl) (into_typed p (set c y false) x (kind p x) u (with_room (set_v w y Tree.bare) (suc w.room)) true refl t (whole_allowed (kind p x) u fu) (λ _. fu)
          (set_typed p c nowhere w.vars y Tree.bare false refl l nl (rw e refl) (λ z. elim (false≢true z) [ ]) i))

  pub look_typed : (x y : ℕ) → (takes p x && (is_num p x && (eqb (kind p y) 1 && (is_full c y && there p y)))) ≡ true → NoFault (simple p (S.look x y) w) (λ z. VarsTyped p c nowhere z.vars)
  look_typed x y h =
      let (t, h₁) = and_parts (takes p x) _ h in let (z, h₂) = and_parts (is_num p x) _ h₁ in let (e, h₃) = and_parts (eqb (kind p y) 1) _ h₂ in let (f, l) = and_parts (is_full c y) _ h₃ in
      let (u, ev, fu) = box_at p c nowhere w.vars y 0 f refl (eqb-true (kind p y) 1 e) i in let (m, em) = whole_number u fu in
      let ev' : slice_get w.vars y ≡ Some (Tree.box (Tree.num m)) = ev ∙ ap Some (ap Tree.box em) in
      rw ev' (number_typed p c x m w (eqb-true (kind p x) 0 z) t i)

  pub fill_typed : (x y : ℕ) → (is_full c x && (there p x && (gives p c y && (eqb (kind p x) (kind p y + 1) && not (eqb x y))))) ≡ true → NoFault (simple p (S.fill x y) w) (λ z. VarsTyped p (full_after_give p c y) nowhere z.vars)
  fill_typed x y h =
      let (f, h₁) = and_parts (is_full c x) _ h in let (l, h₂) = and_parts (there p x) _ h₁ in let (g, h₃) = and_parts (gives p c y) _ h₂ in let (q, h₄) = and_parts (eqb (kind p x) (kind p y + 1)) _ h₃ in
      let e : kind p x ≡ suc (kind p y) = eqb-true (kind p x) (kind p y + 1) q ∙ add-one (kind p y) in
      go (ltb-true x (length p.kinds) l) e (eqb-false x y (not-true (eqb x y) h₄)) (box_at p c nowhere w.vars x (kind p y) f refl e i) (take_typed p c nowhere w y (kind p y) refl refl g i)
    where
      go : x < length p.kinds → kind p x ≡ suc (kind p y) → (x ≡ y → ⊥) → (u : Tree) × (slice_get w.vars x ≡ Some (Tree.box u)) × (whole (kind p y) u ≡ true) → TookTyped p c nowhere w y (kind p y) → NoFault (simple p (S.fill x y) w) (λ z. VarsTyped p (full_after_give p c y) nowhere z.vars)
      go l e ne (o, eo, fo) T =
          let r = T.is in let ex : slice_get T.u.vars x ≡ Some (Tree.box o) = T.others x ne ∙ eo in let ko = whole_kind (kind p y) o fo in
          rw r (rw (ex, ko) (refill_typed p (full_after_give p c y) nowhere T.u.vars x (Tree.box T.t) refl l (rw e T.isfull) T.typed))

  pub drop_typed : (x : ℕ) → (takes p x && leb 1 (kind p x)) ≡ true → NoFault (simple p (S.drop x) w) (λ z. VarsTyped p (set c x false) nowhere z.vars)
  drop_typed x h = let (t, k) = and_parts (takes p x) _ h in into_typed p c x (kind p x) Tree.bare w false refl t (go (kind p x) (leb-true 1 (kind p x) k)) (λ z. elim (false≢true z) [ ]) i
    where
      go : (k : ℕ) → 1 ≤ k → allowed k Tree.bare ≡ true
      go zero l = let z : ⊥ = omega arith in elim z [ ]
      go (suc k) l = refl

  pub show_typed : (e : E) → numbers p e ≡ true → NoFault (simple p (S.show e) w) (λ z. VarsTyped p c nowhere z.vars)
  show_typed e h = let (v, ev) = value_typed p c w e h i in rw ev i
