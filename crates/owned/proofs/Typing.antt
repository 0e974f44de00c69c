-- Typing of trees: variables have trees of their kinds, and those that the rules call full are whole.
-- Here: trees and variables, what is put into one or taken out of one, and numbers. No memory in this part.
use Rattle.std.proofs.Common.{◌≡◌, ℕ, zero, suc, ◌+◌, ◌-◌, ◌*◌, ◌%◌, ◌^◌, ◌<◌, Bool, true, false, cond, ◌||◌, eqb, ltb, ◌⊎◌, List, [], ◌∷◌, length, get_or, set, Some, sym, refl, ap, ◌∙◌, inl, inr, arith}
use lib.Dec.{eqb-suc-zero}
use Rattle.std.specs.List.{slice_get}
use Rattle.std.proofs.lemmas.List.{length-set, get_or-set_other}
use Rattle.std.proofs.lemmas.Option.{slice_get-get_or}
use Rattle.std.proofs.lemmas.Bool.{ltb-true, eqb-true, and_parts, or_cases, or_left, not-true, cases_eq, both_ways, false≢true}
use Rattle.owned.specs.Program.{E, Sig, kind, is_lent, bit}
use Rattle.owned.specs.Runs.{May, with_m}
use Rattle.owned.specs.Kept.{Full, is_full, there, numbers, gives, takes}
use Rattle.owned.specs.Values.{Tree, of_kind, St, R, fine, fault, full, spent, deep, value, into, took, taken, set_v}
use Rattle.owned.proofs.Places.{nth_set, nth_set_other, set_found, get_or_nth}

-- a whole tree of kind k has a number below k boxes; a variable of kind k may also be bare
abbrev pub whole : ℕ → Tree → Bool
whole zero (Tree.num m) = true
whole zero Tree.bare = false
whole zero (Tree.box t) = false
whole (suc k) (Tree.num m) = false
whole (suc k) Tree.bare = false
whole (suc k) (Tree.box t) = whole k t

abbrev pub allowed : ℕ → Tree → Bool
allowed zero t = whole zero t
allowed (suc k) (Tree.num m) = false
allowed (suc k) Tree.bare = true
allowed (suc k) (Tree.box t) = whole k t

pub whole_kind : (k : ℕ) (t : Tree) → whole k t ≡ true → of_kind k t ≡ true
whole_kind zero (Tree.num m) e = refl
whole_kind zero Tree.bare e = e
whole_kind zero (Tree.box t) e = e
whole_kind (suc k) (Tree.num m) e = e
whole_kind (suc k) Tree.bare e = refl
whole_kind (suc k) (Tree.box t) e = whole_kind k t e

pub allowed_kind : (k : ℕ) (t : Tree) → allowed k t ≡ true → of_kind k t ≡ true
allowed_kind zero t e = whole_kind zero t e
allowed_kind (suc k) (Tree.num m) e = e
allowed_kind (suc k) Tree.bare e = refl
allowed_kind (suc k) (Tree.box t) e = whole_kind k t e

pub whole_allowed : (k : ℕ) (t : Tree) → whole k t ≡ true → allowed k t ≡ true
whole_allowed zero t e = e
whole_allowed (suc k) (Tree.num m) e = e
whole_allowed (suc k) Tree.bare e = refl
whole_allowed (suc k) (Tree.box t) e = e

pub whole_number : (t : Tree) → whole 0 t ≡ true → (m : ℕ) × (t ≡ Tree.num m)
whole_number (Tree.num m) e = (m, refl)
whole_number Tree.bare e = elim (both_ways false refl e) [ ]
whole_number (Tree.box t) e = elim (both_ways false refl e) [ ]

pub whole_box : (k : ℕ) (t : Tree) → whole (suc k) t ≡ true → (u : Tree) × (t ≡ Tree.box u) × (whole k u ≡ true)
whole_box k (Tree.num m) e = elim (both_ways false refl e) [ ]
whole_box k Tree.bare e = elim (both_ways false refl e) [ ]
whole_box k (Tree.box t) e = (t, refl, e)

-- a variable that is there has a tree
pub nth_tree : (ts : List Tree) (x : ℕ) → x < length ts → (t : Tree) × (slice_get ts x ≡ Some t)
nth_tree ts x l = (get_or ts x Tree.bare, slice_get-get_or ts x Tree.bare l)

-- Variables have trees of their kinds; those said to be full are whole, and lent ones; but what is out, lent to
-- another, is bare meanwhile.
abbrev pub Has : Sig → List Tree → ℕ → Type 0
Has p ts x = (t : Tree) × (slice_get ts x ≡ Some t) × (whole (kind p x) t ≡ true)

pub record VarsTyped (p : Sig) (c : Full) (out : ℕ → Bool) (ts : List Tree) : Type 0 where
  pub len : length ts ≡ length p.kinds
  pub ok : (x : ℕ) (t : Tree) → slice_get ts x ≡ Some t → allowed (kind p x) t ≡ true
  pub has : (x : ℕ) → (is_full c x || is_lent p x) ≡ true → out x ≡ false → Has p ts x
  pub gone : (x : ℕ) → out x ≡ true → slice_get ts x ≡ Some Tree.bare

abbrev pub nowhere : ℕ → Bool
nowhere x = false

full_set : (c : Full) (x : ℕ) (b : Bool) → is_full (set c x b) x ≡ true → b ≡ true
full_set [] x b e = cc
full_set (d ∷ c) zero b e = e
full_set (d ∷ c) (suc x) b e = full_set c x b e

pub allowed_set : (p : Sig) (ts : List Tree) (x : ℕ) (u : Tree) → ((y : ℕ) (t : Tree) → slice_get ts y ≡ Some t → allowed (kind p y) t ≡ true) → allowed (kind p x) u ≡ true → (y : ℕ) (t : Tree) → slice_get (set ts x u) y ≡ Some t → allowed (kind p y) t ≡ true
allowed_set p ts x u h o y t e = go (cases_eq x y)
  where
    go : (x ≡ y) ⊎ (x ≡ y → ⊥) → allowed (kind p y) t ≡ true
    go (inl q) = let r : t ≡ u = set_found ts x t u (rw (← q) at e) in rw (← q, r) o
    go (inr ne) = h y t (sym (nth_set_other ts x y u ne) ∙ e)

gone_set : (ts : List Tree) (x : ℕ) (u : Tree) (out : ℕ → Bool) → ((y : ℕ) → out y ≡ true → slice_get ts y ≡ Some Tree.bare) → out x ≡ false → (y : ℕ) → out y ≡ true → slice_get (set ts x u) y ≡ Some Tree.bare
gone_set ts x u out h o y e = go (cases_eq x y)
  where
    go : (x ≡ y) ⊎ (x ≡ y → ⊥) → slice_get (set ts x u) y ≡ Some Tree.bare
    go (inl q) = elim (both_ways (out y) (rw q at o) e) [ ]
    go (inr ne) = nth_set_other ts x y u ne ∙ h y e

-- a tree put into a variable, where it is whole if it has to be and other variables are full or not as before
put_typed : (p : Sig) (c c' : Full) (out : ℕ → Bool) (ts : List Tree) (x : ℕ) (u : Tree) → out x ≡ false → x < length p.kinds → allowed (kind p x) u ≡ true → ((is_full c' x || is_lent p x) ≡ true → whole (kind p x) u ≡ true) → ((y : ℕ) → (y ≡ x → ⊥) → is_full c' y ≡ is_full c y)
    → VarsTyped p c out ts → VarsTyped p c' out (set ts x u)
put_typed p c c' out ts x u o l k f same i = record { len = length-set ts x u ∙ i.len; ok = allowed_set p ts x u i.ok k; has = has1; gone = gone_set ts x u out i.gone o }
  where
    has1 : (y : ℕ) → (is_full c' y || is_lent p y) ≡ true → out y ≡ false → Has p (set ts x u) y
    has1 y e q = go (cases_eq y x)
      where
        go : (y ≡ x) ⊎ (y ≡ x → ⊥) → Has p (set ts x u) y
        go (inl r) = let (t, et) = nth_tree ts x (omega (arith, i.len)) in (u, rw r (nth_set ts x t u et), rw r (f (rw r at e)))
        go (inr ne) = let (t, et, ft) = i.has y (rw (same y ne) at e) q in (t, nth_set_other ts x y u (λ r. ne (sym r)) ∙ et, ft)

-- a whole tree, into any variable
pub refill_typed : (p : Sig) (c : Full) (out : ℕ → Bool) (ts : List Tree) (x : ℕ) (u : Tree) → out x ≡ false → x < length p.kinds → whole (kind p x) u ≡ true → VarsTyped p c out ts → VarsTyped p c out (set ts x u)
refill_typed p c out ts x u o l f i = put_typed p c c out ts x u o l (whole_allowed (kind p x) u f) (λ _. f) (λ y ne. refl) i

-- any tree that is allowed, into one that is not lent
pub set_typed : (p : Sig) (c : Full) (out : ℕ → Bool) (ts : List Tree) (x : ℕ) (u : Tree) (b : Bool) → out x ≡ false → x < length p.kinds → is_lent p x ≡ false → allowed (kind p x) u ≡ true → (b ≡ true → whole (kind p x) u ≡ true) → VarsTyped p c out ts → VarsTyped p (set c x b) out (set ts x u)
set_typed p c out ts x u b o l nl k f i = put_typed p c (set c x b) out ts x u o l k (λ e. f (full_set c x b (is_full_lem (or_cases (is_full (set c x b) x) (is_lent p x) e)))) (λ y ne. get_or-set_other c x y b false ne) i
  where
    is_full_lem : (is_full (set c x b) x ≡ true) ⊎ (is_lent p x ≡ true) → is_full (set c x b) x ≡ true
    is_full_lem (inl z) = z
    is_full_lem (inr z) = elim (both_ways (is_lent p x) nl z) [ ]

-- a number variable has a number, a full box variable a box
pub number_at : (p : Sig) (c : Full) (out : ℕ → Bool) (ts : List Tree) (x : ℕ) → x < length p.kinds → kind p x ≡ 0 → VarsTyped p c out ts → (m : ℕ) × (slice_get ts x ≡ Some (Tree.num m))
number_at p c out ts x l e i = let (t, et) = nth_tree ts x (omega (arith, i.len)) in go t et (i.ok x t et)
  where
    go : (t : Tree) → slice_get ts x ≡ Some t → allowed (kind p x) t ≡ true → (m : ℕ) × (slice_get ts x ≡ Some (Tree.num m))
    go t et o = let (m, em) = whole_number t (rw e at o) in (m, et ∙ ap Some em)

pub box_at : (p : Sig) (c : Full) (out : ℕ → Bool) (ts : List Tree) (x k : ℕ) → is_full c x ≡ true → out x ≡ false → kind p x ≡ suc k → VarsTyped p c out ts → (u : Tree) × (slice_get ts x ≡ Some (Tree.box u)) × (whole k u ≡ true)
box_at p c out ts x k f o e i = let (t, et, ft) = i.has x (or_left (is_full c x) (is_lent p x) f) o in go t et ft
  where
    go : (t : Tree) → slice_get ts x ≡ Some t → whole (kind p x) t ≡ true → (u : Tree) × (slice_get ts x ≡ Some (Tree.box u)) × (whole k u ≡ true)
    go t et ft = let (u, eu, fu) = whole_box k t (rw e at ft) in (u, et ∙ ap Some eu, fu)

-- no fault, and Q where it is done
abbrev pub NoFault : R → (St → Type 0) → Type 0
NoFault (fine w) Q = Q w
NoFault fault Q = ⊥
NoFault full Q = Unit {0}
NoFault spent Q = Unit {0}
NoFault deep Q = Unit {0}

pub takes_parts : (p : Sig) (x : ℕ) → takes p x ≡ true → (x < length p.kinds) × (is_lent p x ≡ false)
takes_parts p x t = let (l, m) = and_parts (there p x) _ t in (ltb-true x (length p.kinds) l, not-true (is_lent p x) m)

module _ (p : Sig) where
  -- a variable that can take has a tree of its kind, so that giving it back is no fault
  into_fine : (c : Full) (x k : ℕ) (u : Tree) (w : St) (Q : List Tree → Type 0) → kind p x ≡ k → takes p x ≡ true → VarsTyped p c nowhere w.vars → Q (set w.vars x u) → NoFault (into p k x u w) (λ z. Q z.vars)
  into_fine c x k u w Q ek t i q =
      let (l, nl) = takes_parts p x t in
      let (v, ev) = nth_tree w.vars x (omega (arith, i.len)) in
      let kv : of_kind k v ≡ true = allowed_kind k v (rw ek at (i.ok x v ev)) in
      rw (ev, kv, nl) q

  pub into_typed : (c : Full) (x k : ℕ) (u : Tree) (w : St) (b : Bool) → kind p x ≡ k → takes p x ≡ true → allowed k u ≡ true → (b ≡ true → whole k u ≡ true) → VarsTyped p c nowhere w.vars → NoFault (into p k x u w) (λ z. VarsTyped p (set c x b) nowhere z.vars)
  into_typed c x k u w b ek t o f i = let (l, nl) = takes_parts p x t in into_fine c x k u w (VarsTyped p (set c x b) nowhere) ek t i (set_typed p c nowhere w.vars x u b refl l nl (rw ek o) (λ z. rw ek (f z)) i)

  -- a number, with what is full as it was
  pub number_typed : (c : Full) (x m : ℕ) (w : St) → kind p x ≡ 0 → takes p x ≡ true → VarsTyped p c nowhere w.vars → NoFault (into p 0 x (Tree.num m) w) (λ z. VarsTyped p c nowhere z.vars)
  number_typed c x m w ek t i = let (l, nl) = takes_parts p x t in into_fine c x 0 (Tree.num m) w (VarsTyped p c nowhere) ek t i (refill_typed p c nowhere w.vars x (Tree.num m) refl l (rw ek refl) i)

  -- a tree taken out of a variable that can give
  pub record TookTyped (c : Full) (out : ℕ → Bool) (w : St) (y k : ℕ) : Type 0 where
    pub t : Tree
    pub u : St
    pub is : taken p k w y ≡ took t u
    pub isfull : whole k t ≡ true
    pub typed : VarsTyped p (cond (eqb k 0) c (set c y false)) out u.vars
    pub others : (x : ℕ) → (x ≡ y → ⊥) → slice_get u.vars x ≡ slice_get w.vars x

  pub take_typed : (c : Full) (out : ℕ → Bool) (w : St) (y k : ℕ) → kind p y ≡ k → out y ≡ false → gives p c y ≡ true → VarsTyped p c out w.vars → TookTyped c out w y k
  take_typed c out w y zero e o g i =
      let l : y < length p.kinds = ltb-true y (length p.kinds) (and_parts (there p y) _ g).0 in
      let (m, et) = number_at p c out w.vars y l e i in
      record { t = Tree.num m; u = w; is = rw et refl; isfull = refl; typed = i; others = λ x ne. refl }
  take_typed c out w y (suc k) e o g i =
      let (l, g') = and_parts (there p y) _ g in
      let (f, nl) = and_parts (is_full c y) _ (rw (e, eqb-suc-zero k) at g') in
      go (ltb-true y (length p.kinds) l) (not-true (is_lent p y) nl) (box_at p c out w.vars y k f o e i)
    where
      go : y < length p.kinds → is_lent p y ≡ false → (u : Tree) × (slice_get w.vars y ≡ Some (Tree.box u)) × (whole k u ≡ true) → TookTyped c out w y (suc k)
      go l nl (u, et, fu) = record {
        t = Tree.box u;
        u = set_v w y Tree.bare;
        is = rw (et, nl) refl;
        isfull = fu;
        typed = rw (eqb-suc-zero k) (set_typed p c out w.vars y Tree.bare false o l nl (rw e refl) (λ z. elim (false≢true z) [ ]) i);
        others = λ x ne. nth_set_other w.vars y x Tree.bare (λ z. ne (sym z));
      }

  -- numbers have values
  both_ok : (a b : May) (f : ℕ → ℕ → ℕ) → (m : ℕ) × (a ≡ May.ok m) → (m : ℕ) × (b ≡ May.ok m) → (m : ℕ) × (with_m a (λ x. with_m b (λ y. May.ok (f x y))) ≡ May.ok m)
  both_ok a b f (x, e) (y, g) = (f x y, rw (e, g))

  pub value_typed : (c : Full) (w : St) (e : E) → numbers p e ≡ true → VarsTyped p c nowhere w.vars → (m : ℕ) × (value w e ≡ May.ok m)
  value_typed c w (E.num k) t i = (k, refl)
  value_typed c w (E.var x) t i =
      let (l, z) = and_parts (there p x) _ t in
      let (m, em) = number_at p c nowhere w.vars x (ltb-true x (length p.kinds) l) (eqb-true (kind p x) 0 z) i in (m, rw (get_or_nth w.vars x (Tree.num m) Tree.bare em) refl)
  value_typed c w (E.add a b) t i = let t' = and_parts (numbers p a) _ t in both_ok (value w a) (value w b) (λ x y. (x + y) % 2 ^ 32) (value_typed c w a t'.0 i) (value_typed c w b t'.1 i)
  value_typed c w (E.sub a b) t i = let t' = and_parts (numbers p a) _ t in both_ok (value w a) (value w b) (λ x y. (x + 2 ^ 32 - y) % 2 ^ 32) (value_typed c w a t'.0 i) (value_typed c w b t'.1 i)
  value_typed c w (E.mul a b) t i = let t' = and_parts (numbers p a) _ t in both_ok (value w a) (value w b) (λ x y. x * y % 2 ^ 32) (value_typed c w a t'.0 i) (value_typed c w b t'.1 i)
  value_typed c w (E.less a b) t i = let t' = and_parts (numbers p a) _ t in both_ok (value w a) (value w b) (λ x y. bit (ltb x y)) (value_typed c w a t'.0 i) (value_typed c w b t'.1 i)
