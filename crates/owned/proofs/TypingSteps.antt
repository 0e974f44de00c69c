-- At every moment of a run on the value machine of a program that keeps the rules: no fault.
-- The pending statements keep the rules from what is full on, and each caller can take back what it lent.
use Rattle.std.proofs.Common.{◌≡◌, ℕ, zero, suc, Bool, true, false, cond, ◌&&◌, eqb, ◌⊎◌, List, [], ◌∷◌, length, get_or, set, Some, sym, refl, ap, ◌∙◌, inl, inr, zero-add, arith}
use Rattle.std.specs.List.{slice_get}
use Rattle.std.proofs.lemmas.List.{length-set}
use Rattle.std.proofs.lemmas.Bool.{eqb-true, eq-eqb, and_parts, or_cases, or_left, or_right, cases_eq, both_ways, false≢true}
use Rattle.owned.specs.Program.{Arg, S, Sig, Proc, Prog, kind, is_lent}
use Rattle.owned.specs.Runs.{stays}
use Rattle.owned.specs.Machine.{push}
use Rattle.owned.specs.Kept.{Full, is_full, is_num, numbers, takes, joined, keeps, hands, begins, starts, kept}
use Rattle.owned.specs.Rows.{ok_s, ok_ps}
use Rattle.owned.specs.Values.{Tree, St, R, fine, fault, full, spent, deep, with_vars, with_left, fits, restore, Frame, Mach, going, stopped, and_m, turn_m, call_m, step_s, back, step, steps, start}
use Rattle.owned.proofs.Places.{nth_lt, nth_set_other, set_found}
use Rattle.owned.proofs.Marks.{fits_lent, fits_arg, fits_many}
use Rattle.owned.proofs.TypingRules.{when_parts, when_full, both_parts, joined_parts, called_parts, Keeps, keeps_push, Shaped, Sound, sound}
use Rattle.owned.proofs.Typing.{whole, allowed_kind, whole_allowed, Has, VarsTyped, nowhere, number_at, NoFault, into_typed, value_typed}
use Rattle.owned.proofs.TypingStatements.{set_number_typed, box_typed, move_typed, unbox_typed, look_typed, fill_typed, drop_typed, show_typed}
use Rattle.owned.proofs.TypingCalls.{Leaves, Whole, HandTyped, hand_typed, boxless_all}
use Rattle.owned.proofs.TypingEnds.{lent_lt, EndTyped, ends_typed, begun_typed}

-- a caller that waits for q: if what was lent comes back whole, its variables are typed again
pub record Waits (g : Prog) (q : Sig) (f : Frame) : Type 0 where
  pub shape : Shaped f.sig
  pub mask : Full
  pub can_take : takes f.sig f.dest ≡ true
  pub kinded : kind f.sig f.dest ≡ kind q q.result
  pub todo : Keeps g f.sig f.todo (set mask f.dest true)
  pub fit : fits f.args q.args ≡ true
  pub back : (us : List Tree) → Leaves q.kinds f.args us → (tv : List Tree) × (restore f.args us f.vars ≡ Some tv) × VarsTyped f.sig mask nowhere tv

abbrev pub Stack : Prog → Sig → List Frame → Type 0
Stack g q [] = (length q.args ≡ 0) × (kind q q.result ≡ 0)
Stack g q (f ∷ fs) = Waits g q f × Stack g f.sig fs

pub record Open (g : Prog) (p : Sig) (ss : List S) (w : St) (fs : List Frame) : Type 0 where
  pub shape : Shaped p
  pub mask : Full
  pub todo : Keeps g p ss mask
  pub typed : VarsTyped p mask nowhere w.vars
  pub stack : Stack g p fs

abbrev pub Typed : Prog → Mach → Type 0
Typed g (going d p ss w fs) = Open g p ss w fs
Typed g (stopped r) = NoFault r (λ w. Unit {0})

-- a lent variable is whole
pub lent_has : (p : Sig) (c : Full) (ts : List Tree) (x : ℕ) → is_lent p x ≡ true → VarsTyped p c nowhere ts → Has p ts x
lent_has p c ts x l i = i.has x (or_right (is_full c x) (is_lent p x) l) refl

result_stays : (p : Sig) → stays p p.result ≡ true
result_stays p = or_left (eqb p.result p.result) (is_lent p p.result) (eq-eqb p.result p.result refl)

-- boxes left at the end are lent or the result
left_box : (p : Sig) (w : St) (E : EndTyped p 0 p.kinds w) (i : ℕ) (t : Tree) → slice_get E.u.vars i ≡ Some (Tree.box t) → (i ≡ p.result) ⊎ (is_lent p i ≡ true)
left_box p w E i t e = go (stays p i) refl
  where
    by : (eqb i p.result ≡ true) ⊎ (is_lent p i ≡ true) → (i ≡ p.result) ⊎ (is_lent p i ≡ true)
    by (inl q) = inl (eqb-true i p.result q)
    by (inr q) = inr q

    go : (b : Bool) → stays p i ≡ b → (i ≡ p.result) ⊎ (is_lent p i ≡ true)
    go true s = by (or_cases (eqb i p.result) _ s)
    go false s = let l = nth_lt E.u.vars i (Tree.box t) e in let b = E.gone i (omega arith) (omega (arith, E.many)) s in let z : ◌≡◌ {A = ℕ} 0 1 = cc in let y : ⊥ = omega arith in elim y [ ]

-- what a procedure that ended leaves beside its result
leaves : (p : Sig) (sh : Shaped p) (c : Full) (w : St) (bs : List Arg) → fits bs p.args ≡ true → VarsTyped p c nowhere w.vars → (E : EndTyped p 0 p.kinds w) → Leaves p.kinds bs (set E.u.vars p.result Tree.bare)
leaves p sh c w bs fb ty E = record { many = omega (arith, length-set E.u.vars p.result Tree.bare, E.many, ty.len, sh.fits, fits_many bs p.args fb); lent = lent1; boxes = boxes1 }
  where
    lent1 : (i : ℕ) (a : Arg) (m : ℕ) → slice_get bs i ≡ Some a → a.lent ≡ suc m → (u : Tree) × (slice_get (set E.u.vars p.result Tree.bare) i ≡ Some u) × (whole (kind p i) u ≡ true)
    lent1 i a m e l =
        let il = fits_lent bs p.args i a m fb e l in let lt = lent_lt p i il in
        let (t, et, f) = lent_has p c w.vars i il ty in
        (t, nth_set_other E.u.vars p.result i Tree.bare (λ r. (let z : ⊥ = omega (arith, sh.out) in z)) ∙ (E.keep i (inr (or_right (eqb i p.result) (is_lent p i) il)) ∙ et), f)

    boxes1 : (i : ℕ) (t : Tree) → slice_get (set E.u.vars p.result Tree.bare) i ≡ Some (Tree.box t) → (a : Arg) × (m : ℕ) × (slice_get bs i ≡ Some a) × (a.lent ≡ suc m)
    boxes1 i t e = go (cases_eq p.result i)
      where
        by : (p.result ≡ i → ⊥) → (i ≡ p.result) ⊎ (is_lent p i ≡ true) → (a : Arg) × (m : ℕ) × (slice_get bs i ≡ Some a) × (a.lent ≡ suc m)
        by ne (inl q) = elim (ne (sym q)) [ ]
        by ne (inr q) = let (a, ea, la) = fits_arg bs p.args i fb q in (a, 0, ea, la)

        go : (p.result ≡ i) ⊎ (p.result ≡ i → ⊥) → (a : Arg) × (m : ℕ) × (slice_get bs i ≡ Some a) × (a.lent ≡ suc m)
        go (inl q) = let r = set_found E.u.vars p.result (Tree.box t) Tree.bare (rw (← q) at e) in let z : ◌≡◌ {A = ℕ} 0 1 = cc in let y : ⊥ = omega arith in elim y [ ]
        go (inr ne) = by ne (left_box p w E i t (sym (nth_set_other E.u.vars p.result i Tree.bare ne) ∙ e))

module _ (g : Prog) where
  -- a procedure's end
  back_typed : (d : ℕ) (p : Sig) (sh : Shaped p) (c : Full) (w : St) (fs : List Frame) → is_full c p.result ≡ true → VarsTyped p c nowhere w.vars → (E : EndTyped p 0 p.kinds w) → Stack g p fs → Typed g (back d p fs E.u)
  back_typed d p sh c w [] fr ty E (na, kz) = go (number_at p c nowhere w.vars p.result sh.isvar kz ty)
    where
      none_left : (m : ℕ) → slice_get E.u.vars p.result ≡ Some (Tree.num m) → (i : ℕ) (t : Tree) → slice_get E.u.vars i ≡ Some (Tree.box t) → (i ≡ p.result) ⊎ (is_lent p i ≡ true) → ⊥
      none_left m e i t q (inl r) = let q' = rw r at q in let z : ◌≡◌ {A = ℕ} 0 1 = cc in omega arith
      none_left m e i t q (inr r) = let l = lent_lt p i r in omega arith

      go : (m : ℕ) × (slice_get w.vars p.result ≡ Some (Tree.num m)) → Typed g (back d p [] E.u)
      go (m, em) =
          let e : slice_get E.u.vars p.result ≡ Some (Tree.num m) = E.keep p.result (inr (result_stays p)) ∙ em in
          let sp = boxless_all E.u.vars (λ i t q. none_left m e i t q (left_box p w E i t q)) in
          rw (e, sp) tt
  back_typed d p sh c w (f ∷ fs) fr ty E (wt, st) = go (ty.has p.result (or_left (is_full c p.result) (is_lent p p.result) fr) refl) (wt.back (set E.u.vars p.result Tree.bare) (leaves p sh c w f.args wt.fit ty E))
    where
      resumed : (r : R) → NoFault r (λ z. VarsTyped f.sig (set wt.mask f.dest true) nowhere z.vars) → Typed g (and_m r (λ u. going (suc d) f.sig f.todo u fs))
      resumed (fine u) y = record { shape = wt.shape; mask = set wt.mask f.dest true; todo = wt.todo; typed = y; stack = st }
      resumed fault y = y
      resumed full y = tt
      resumed spent y = tt
      resumed deep y = tt

      go : Has p w.vars p.result → (tv : List Tree) × (restore f.args (set E.u.vars p.result Tree.bare) f.vars ≡ Some tv) × VarsTyped f.sig wt.mask nowhere tv → Typed g (back d p (f ∷ fs) E.u)
      go (t, et, ft) (tv, er, y) =
          let e : slice_get E.u.vars p.result ≡ Some t = E.keep p.result (inr (result_stays p)) ∙ et in
          let k : whole (kind f.sig f.dest) t ≡ true = rw wt.kinded ft in
          rw (e, er) (resumed _ (into_typed f.sig wt.mask f.dest (kind f.sig f.dest) t (with_vars E.u tv) true refl wt.can_take (whole_allowed (kind f.sig f.dest) t k) (λ _. k) y))

  turn_typed : (l : ℕ) (w : St) (k : St → Mach) → ((j : ℕ) → Typed g (k (with_left w j))) → Typed g (turn_m l w k)
  turn_typed zero w k h = tt
  turn_typed (suc l) w k h = h l

  cond_typed : (b : Bool) (m m' : Mach) → Typed g m → Typed g m' → Typed g (cond b m m')
  cond_typed true m m' h h' = h
  cond_typed false m m' h h' = h'

module _ (g : Prog) (sounds : (f : ℕ) (q : Proc) → slice_get g f ≡ Some q → Sound g q) where
  -- a call
  call_typed : (d f : ℕ) (q : Proc) (bs : List Arg) (ts : List Tree) (w : St) (fs : List Frame) → slice_get g f ≡ Some q → fits bs q.sig.args ≡ true → length ts ≡ length q.sig.args → Whole q.sig.kinds ts → Stack g q.sig fs → Typed g (call_m g d f bs ts w fs)
  call_typed zero f q bs ts w fs e fb len fil st = tt
  call_typed (suc d) f q bs ts w fs e fb len fil st =
      let sd = sounds f q e in
      rw (e, fb) (turn_typed g w.left w _ (λ l. record { shape = sd.shape; mask = begins 0 q.sig q.sig.kinds; todo = keeps_push g q.sig q.body [] _ sd.after sd.marked sd.keeping sd.isfull; typed = begun_typed q.sig ts sd.shape len fil; stack = st }))

  module _ (d : ℕ) (p : Sig) (ss : List S) (w : St) (fs : List Frame) where
    on : {rest : List S} (o : Open g p rest w fs) (ss' : List S) (c : Full) (u : St) → Keeps g p ss' c → VarsTyped p c nowhere u.vars → Typed g (going d p ss' u fs)
    on o ss' c u k y = record { shape = o.shape; mask = c; todo = k; typed = y; stack = o.stack }

    after : {rest : List S} (o : Open g p rest w fs) (c c' : Full) (r : R) → Keeps g p ss c → c' ≡ c → NoFault r (λ z. VarsTyped p c' nowhere z.vars) → Typed g (and_m r (λ u. going d p ss u fs))
    after o c c' (fine u) k e y = on o ss c u k (rw e at y)
    after o c c' fault k e y = y
    after o c c' full k e y = tt
    after o c c' spent k e y = tt
    after o c c' deep k e y = tt

    calls : (x f : ℕ) (bs : List Arg) (o : Open g p (S.call x f bs ∷ ss) w fs) (q : Proc) (mask : Full) → slice_get g f ≡ Some q → takes p x ≡ true → kind p x ≡ kind q.sig q.sig.result → Keeps g p ss (set mask x true) → HandTyped p bs q.sig.args q.sig.kinds mask nowhere w → Typed g (step_s g d p (S.call x f bs) ss w fs)
    calls x f bs o q mask e t ek k H = let h = H.is in
        rw h (call_typed d f q bs H.ts H.u (record { sig = p; dest = x; todo = ss; args = bs; vars = H.u.vars } ∷ fs) e H.fit (H.many ∙ fits_many bs q.sig.args H.fit) H.filled
        (record { shape = o.shape; mask = mask; can_take = t; kinded = ek; todo = k; fit = H.fit; back = H.back }, o.stack))

    statement_typed : (a : S) → Open g p (a ∷ ss) w fs → Typed g (step_s g d p a ss w fs)
    statement_typed S.skip o = let (c, _, h, k) = o.todo in let e : o.mask ≡ c = cc in on o ss o.mask w (rw e k) o.typed
    statement_typed (S.then a b) o =
        let (c, oks, h, k) = o.todo in let (oa, ob) = and_parts (ok_s a) _ oks in let (c', ha, hb) = both_parts (keeps g p a o.mask) (λ e. keeps g p b e) c h in
        on o (push a (push b ss)) o.mask w (keeps_push g p a (push b ss) o.mask c' oa ha (keeps_push g p b ss c' c ob hb k)) o.typed
    statement_typed (S.set x e) o = let (c, _, h, k) = o.todo in let (q, r) = when_full (takes p x && (is_num p x && numbers p e)) _ c h in after o c _ _ k r (set_number_typed p o.mask w o.typed x e q)
    statement_typed (S.box x y) o = let (c, _, h, k) = o.todo in let (q, r) = when_full _ _ c h in after o c _ _ k r (box_typed p o.mask w o.typed x y q)
    statement_typed (S.unbox x y) o = let (c, _, h, k) = o.todo in let (q, r) = when_full _ _ c h in after o c _ _ k r (unbox_typed p o.mask w o.typed x y q)
    statement_typed (S.look x y) o = let (c, _, h, k) = o.todo in let (q, r) = when_full _ _ c h in after o c _ _ k r (look_typed p o.mask w o.typed x y q)
    statement_typed (S.fill x y) o = let (c, _, h, k) = o.todo in let (q, r) = when_full _ _ c h in after o c _ _ k r (fill_typed p o.mask w o.typed x y q)
    statement_typed (S.move x y) o = let (c, _, h, k) = o.todo in let (q, r) = when_full _ _ c h in after o c _ _ k r (move_typed p o.mask w o.typed x y q)
    statement_typed (S.drop x) o = let (c, _, h, k) = o.todo in let (q, r) = when_full _ _ c h in after o c _ _ k r (drop_typed p o.mask w o.typed x q)
    statement_typed (S.if e a b) o =
        let (c, oks, h, k) = o.todo in let (oa, ob) = and_parts (ok_s a) _ oks in let (m, h') = when_parts (numbers p e) (joined (keeps g p a o.mask) (keeps g p b o.mask)) c h in
        let (ha, hb) = joined_parts _ _ c h' in let (v, ev) = value_typed p o.mask w e m o.typed in
        rw ev (cond_typed g (eqb v 0) _ _ (on o (push b ss) o.mask w (keeps_push g p b ss o.mask c ob hb k) o.typed) (on o (push a ss) o.mask w (keeps_push g p a ss o.mask c oa ha k) o.typed))
    statement_typed (S.while e a) o =
        let (c, oks, h, k) = o.todo in let (m, h') = when_parts (numbers p e) (joined (Some o.mask) (keeps g p a o.mask)) c h in
        let (cd, ha) = joined_parts (Some o.mask) (keeps g p a o.mask) c h' in let cd' : o.mask ≡ c = cc in let (v, ev) = value_typed p o.mask w e m o.typed in
        rw ev (cond_typed g (eqb v 0) _ _ (on o ss o.mask w (rw cd' k) o.typed) (turn_typed g w.left w _ (λ l.
        on o (push a (S.while e a ∷ ss)) o.mask (with_left w l) (keeps_push g p a (S.while e a ∷ ss) o.mask c oks ha (c, oks, (rw cd' at h), k)) o.typed)))
    statement_typed (S.call x f bs) o =
        let (c, mk, h, k) = o.todo in
        let (t, h₁) = when_parts (takes p x) _ c h in
        let (q, e, h₂) = called_parts (slice_get g f) _ c h₁ in
        let (ke, h₃) = when_parts (eqb (kind p x) (kind q.sig q.sig.result)) _ c h₂ in
        let (c', h₄, h₅) = both_parts (hands p q.sig 0 bs o.mask) _ c h₃ in
        let (h₆, cd) = when_full _ (set c' x true) c h₅ in
        calls x f bs o q c' e t (eqb-true (kind p x) (kind q.sig q.sig.result) ke) (rw cd k)
        (hand_typed p q.sig bs 0 q.sig.args q.sig.kinds o.mask c' nowhere w mk (λ y. ap (λ z. get_or q.sig.args z 0) (zero-add y)) (λ y. ap (λ z. get_or q.sig.kinds z 0) (zero-add y)) (omega arith) (sounds f q e).shape.fits h₄ (λ y z. elim (false≢true z) [ ]) o.typed)
    statement_typed (S.show e) o = let (c, _, h, k) = o.todo in let (q, r) = when_full (numbers p e) _ c h in after o c _ _ k r (show_typed p o.mask w o.typed e q)

  pub step_typed : (m : Mach) → Typed g m → Typed g (step g m)
  step_typed (stopped r) h = h
  step_typed (going d p (a ∷ ss) w fs) o = statement_typed d p ss w fs a o
  step_typed (going d p [] w fs) o = go (ends_typed p 0 p.kinds w (omega (arith, o.typed.len)) (λ y t e. allowed_kind (kind p y) t (o.typed.ok y t (ap (slice_get w.vars) (sym (zero-add y)) ∙ e))))
    where
      go : EndTyped p 0 p.kinds w → Typed g (step g (going d p [] w fs))
      go E = let e = E.is in rw e (back_typed g d p o.shape o.mask w fs o.todo o.typed E o.stack)

  pub steps_typed : (k : ℕ) (m : Mach) → Typed g m → Typed g (steps g k m)
  steps_typed zero m h = h
  steps_typed (suc k) m h = steps_typed k (step g m) (step_typed m h)

pub start_typed : (g : Prog) (cells depth turns : ℕ) → ok_ps g ≡ true → kept g ≡ true → Typed g (start g cells depth turns)
start_typed [] cells depth turns o k = elim (both_ways false refl k) [ ]
start_typed (q ∷ ps) cells depth turns o k =
    let (e₁, e₂) = and_parts (eqb (length q.sig.args) 0) _ (and_parts (starts (q ∷ ps)) _ k).0 in
    let na : length q.sig.args ≡ 0 = eqb-true (length q.sig.args) 0 e₁ in
    call_typed (q ∷ ps) (sound (q ∷ ps) o k) depth 0 q [] [] _ [] refl (no_args q.sig.args na) (sym na) (λ y l. (let z : ⊥ = omega arith in elim z [ ])) (na, eqb-true (kind q.sig q.sig.result) 0 e₂)
  where
    no_args : (ms : List ℕ) → length ms ≡ 0 → fits [] ms ≡ true
    no_args [] e = refl
    no_args (m ∷ ms) e = let z : ⊥ = omega arith in elim z [ ]
