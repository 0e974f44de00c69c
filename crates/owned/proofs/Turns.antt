-- The turns left never grow: whatever a statement, a call or the end of a procedure does, at most as many are left as before.
-- One lemma for each way in which a run is put together, then one for statements and one for calls.
use Rattle.std.proofs.Common.{ℕ, zero, suc, ◌+◌, ◌<◌, ◌≤◌, Bool, true, false, cond, eqb, List, [], ◌∷◌, Some, None, Option, arith}
use Rattle.std.specs.List.{slice_get}
use Rattle.owned.specs.Program.{E, Arg, S, Sig, Proc, Prog, kind}
use Rattle.owned.specs.Runs.{Val, n, at, nothing, Cell, free, holds, St, R, fine, fault, full, spent, deep, bind, May, ok, bad, value, as_num, num, get, with_vars, with_left, set_v, set_c, cell_at, in_box, held_in, give, Chooser, new_at, Took, took, missing, with_t, taken_box, taken, into, hand_one, more, onto, hand, turn_at, exec, opening, stays, end_one, ends, run_s, enter, run_p}

-- what a call does with the values handed to it, and then goes on with
abbrev pub Call : Type 0
Call = ℕ → List Val → St → (Val → St → R) → R

-- a run that is done has at most l turns left
abbrev pub AtMost : ℕ → R → Type 0
AtMost l (fine t) = t.left ≤ l
AtMost l (fault f) = Unit {0}
AtMost l full = Unit {0}
AtMost l spent = Unit {0}
AtMost l deep = Unit {0}

-- what was taken out leaves at most l turns
abbrev pub TookAtMost : {A : Type 0} → ℕ → Took A → Type 0
TookAtMost l (took v t) = t.left ≤ l
TookAtMost l missing = Unit {0}

-- a call leaves at most l turns to what goes on after it
abbrev pub CallAtMost : Call → Type 0
CallAtMost x = (l f : ℕ) (vs : List Val) (s : St) (k : Val → St → R) → s.left ≤ l → ((v : Val) (t : St) → t.left ≤ l → AtMost l (k v t)) → AtMost l (x f vs s k)

at_most_more : (l l' : ℕ) (r : R) → l ≤ l' → AtMost l r → AtMost l' r
at_most_more l l' (fine t) h e = omega arith
at_most_more l l' (fault f) h e = tt
at_most_more l l' full h e = tt
at_most_more l l' spent h e = tt
at_most_more l l' deep h e = tt

module _ (l : ℕ) where
  at_most_bind : (r : R) (k : St → R) → AtMost l r → ((t : St) → t.left ≤ l → AtMost l (k t)) → AtMost l (bind r k)
  at_most_bind (fine t) k h g = g t h
  at_most_bind (fault f) k h g = tt
  at_most_bind full k h g = tt
  at_most_bind spent k h g = tt
  at_most_bind deep k h g = tt

  at_most_num : (m : May) (k : ℕ → R) → ((a : ℕ) → AtMost l (k a)) → AtMost l (num m k)
  at_most_num bad k g = tt
  at_most_num (ok a) k g = g a

  at_most_cond : (b : Bool) (r r' : R) → AtMost l r → AtMost l r' → AtMost l (cond b r r')
  at_most_cond true r r' h h' = h
  at_most_cond false r r' h h' = h'

  at_most_in_box : (v : Val) (k : ℕ → ℕ → R) → ((a b : ℕ) → AtMost l (k a b)) → AtMost l (in_box v k)
  at_most_in_box (n m) k g = tt
  at_most_in_box nothing k g = tt
  at_most_in_box (at a b) k g = g a b

  at_most_held_in : (b : ℕ) (c : Cell) (k : Val → R) → ((v : Val) → AtMost l (k v)) → AtMost l (held_in b c k)
  at_most_held_in b free k g = tt
  at_most_held_in b (holds c v) k g = at_most_cond (eqb b c) (k v) (fault 2) (g v) tt

  at_most_new_at : (o : Option ℕ) (s : St) (v : Val) (k : Val → St → R) → s.left ≤ l → ((w : Val) (t : St) → t.left ≤ l → AtMost l (k w t)) → AtMost l (new_at o s v k)
  at_most_new_at None s v k h g = tt
  at_most_new_at (Some a) s v k h g = g _ _ h

  at_most_with_t : {A : Type 0} (o : Took A) (k : A → St → R) → TookAtMost l o → ((v : A) (t : St) → t.left ≤ l → AtMost l (k v t)) → AtMost l (with_t o k)
  at_most_with_t (took v t) k h g = g v t h
  at_most_with_t missing k h g = tt

  at_most_turn_at : (m : ℕ) (s : St) (k : St → R) → ((i : ℕ) → i < m → AtMost l (k (with_left s i))) → AtMost l (turn_at m s k)
  at_most_turn_at zero s k g = tt
  at_most_turn_at (suc m) s k g = g m (omega arith)

  at_most_give : (k : ℕ) (v : Val) (s : St) → s.left ≤ l → AtMost l (give k v s)
  at_most_give zero v s h = h
  at_most_give (suc k) (n m) s h = tt
  at_most_give (suc k) nothing s h = h
  at_most_give (suc k) (at a b) s h = at_most_held_in b (cell_at s a) _ (λ v. at_most_bind (give k v s) _ (at_most_give k v s h) (λ t e. e))

  pub at_most_into : (k x : ℕ) (v : Val) (s : St) → s.left ≤ l → AtMost l (into k x v s)
  at_most_into k x v s h = at_most_bind (give k (get s x) s) _ (at_most_give k (get s x) s h) (λ t e. e)

  at_most_taken_box : (s : St) (x : ℕ) (v : Val) → s.left ≤ l → TookAtMost l (taken_box s x v)
  at_most_taken_box s x (n m) h = tt
  at_most_taken_box s x nothing h = tt
  at_most_taken_box s x (at a b) h = h

  at_most_taken : (k : ℕ) (s : St) (x : ℕ) → s.left ≤ l → TookAtMost l (taken k s x)
  at_most_taken zero s x h = h
  at_most_taken (suc k) s x h = at_most_taken_box s x (get s x) h

  at_most_hand_one : (m k x : ℕ) (s : St) → s.left ≤ l → TookAtMost l (hand_one m k x s)
  at_most_hand_one zero k x s h = at_most_taken k s x h
  at_most_hand_one (suc m) k x s h = h

  at_most_add_value : (v : Val) (o : Took (List Val)) → TookAtMost l o → TookAtMost l (more v o)
  at_most_add_value v (took vs t) h = h
  at_most_add_value v missing h = tt

  at_most_onto : (o : Took Val) (k : Val → St → Took (List Val)) → TookAtMost l o → ((v : Val) (t : St) → t.left ≤ l → TookAtMost l (k v t)) → TookAtMost l (onto o k)
  at_most_onto (took v t) k h g = g v t h
  at_most_onto missing k h g = tt

  pub at_most_hand : (p : Sig) (as₁ : List Arg) (s : St) → s.left ≤ l → TookAtMost l (hand p as₁ s)
  at_most_hand p [] s h = h
  at_most_hand p (a ∷ as₁) s h = at_most_onto (hand_one a.lent (kind p a.of) a.of s) _ (at_most_hand_one a.lent (kind p a.of) a.of s h) (λ v t e. at_most_add_value v (hand p as₁ t) (at_most_hand p as₁ t e))

  at_most_end_one : (b : Bool) (k x : ℕ) (s : St) → s.left ≤ l → AtMost l (end_one b k x s)
  at_most_end_one true k x s h = h
  at_most_end_one false k x s h = at_most_into k x nothing s h

  pub at_most_ends : (p : Sig) (x : ℕ) (ks : List ℕ) (s : St) → s.left ≤ l → AtMost l (ends p x ks s)
  at_most_ends p x [] s h = h
  at_most_ends p x (k ∷ ks) s h = at_most_bind (end_one (stays p x) k x s) _ (at_most_end_one (stays p x) k x s h) (λ t e. at_most_ends p (x + 1) ks t e)

-- a statement, where calls and loops from their test on leave no more turns than they found
module _ (ch : Chooser) (p : Sig) (x : Call) (hx : CallAtMost x) (w : E → S → St → R) (hw : (e : E) (b : S) (t : St) → AtMost t.left (w e b t)) where
  pub at_most_exec : (l : ℕ) (a : S) (s : St) → s.left ≤ l → AtMost l (exec ch p x w a s)
  at_most_exec l S.skip s h = h
  at_most_exec l (S.then a b) s h = at_most_bind l (exec ch p x w a s) _ (at_most_exec l a s h) (λ t e. at_most_exec l b t e)
  at_most_exec l (S.set i e) s h = at_most_num l (value s e) _ (λ k. h)
  at_most_exec l (S.box i j) s h = at_most_with_t l (taken (kind p j) s j) _ (at_most_taken l (kind p j) s j h) (λ v t e. at_most_new_at l (ch t.made t.cells) t v _ e (λ b u f. at_most_into l (kind p i) i b u f))
  at_most_exec l (S.unbox i j) s h = at_most_in_box l (get s j) _ (λ a b. at_most_held_in l b (cell_at s a) _ (λ v. at_most_into l (kind p i) i v (set_v (set_c s a free) j nothing) h))
  at_most_exec l (S.look i j) s h = at_most_in_box l (get s j) _ (λ a b. at_most_held_in l b (cell_at s a) _ (λ v. at_most_num l (as_num v) _ (λ k. h)))
  at_most_exec l (S.fill i j) s h =
      at_most_in_box l (get s i) _ (λ a b. at_most_with_t l (taken (kind p j) s j) _ (at_most_taken l (kind p j) s j h)
      (λ v t e. at_most_held_in l b (cell_at t a) _ (λ old. at_most_bind l (give (kind p j) old t) _ (at_most_give l (kind p j) old t e) (λ u f. f))))
  at_most_exec l (S.move i j) s h = at_most_with_t l (taken (kind p j) s j) _ (at_most_taken l (kind p j) s j h) (λ v t e. at_most_into l (kind p i) i v t e)
  at_most_exec l (S.drop i) s h = at_most_into l (kind p i) i nothing s h
  at_most_exec l (S.if e a b) s h = at_most_num l (value s e) _ (λ k. at_most_cond l (eqb k 0) _ _ (at_most_exec l b s h) (at_most_exec l a s h))
  at_most_exec l (S.while e a) s h =
      at_most_num l (value s e) _ (λ k. at_most_cond l (eqb k 0) _ _ h (at_most_turn_at l s.left s _
      (λ i lt. at_most_bind l (exec ch p x w a (with_left s i)) _ (at_most_exec l a (with_left s i) (omega arith)) (λ u f. at_most_more u.left l (w e a u) f (hw e a u)))))
  at_most_exec l (S.call i f as₁) s h = at_most_with_t l (hand p as₁ s) _ (at_most_hand l p as₁ s h) (λ vs t e. hx l f vs t _ e (λ v u g. at_most_into l (kind p i) i v u g))
  at_most_exec l (S.show e) s h = at_most_num l (value s e) _ (λ k. h)

pub at_most_run_s : (ch : Chooser) (p : Sig) (x : Call) → CallAtMost x → (j : ℕ) (a : S) (s : St) → AtMost s.left (run_s ch p x j a s)
at_most_run_s ch p x hx zero a s = tt
at_most_run_s ch p x hx (suc j) a s = at_most_exec ch p x hx _ (λ e b t. at_most_run_s ch p x hx j (S.while e b) t) s.left a s (omega arith)

pub at_most_run_p : (ch : Chooser) (g : Prog) (d : ℕ) → CallAtMost (run_p ch d g)
at_most_run_p ch g zero l f vs s k h c = tt
at_most_run_p ch g (suc d) l f vs s k h c = go (slice_get g f) (at_most_run_p ch g d)
  where
    go : (o : Option Proc) → CallAtMost (run_p ch d g) → AtMost l (enter o (λ p. turn_at s.left s (λ t. bind (run_s ch p.sig (λ h ys z c. run_p ch d g h ys z c) (suc t.left) p.body (opening p.sig vs t))
        (λ u. bind (ends p.sig 0 p.sig.kinds u) (λ v. k (get v p.sig.result) (with_vars v s.vars))))))
    go None hd = tt
    go (Some p) hd = at_most_turn_at l s.left s _ (λ i lt. at_most_bind l _ _
        (at_most_more i l _ (omega arith) (at_most_run_s ch p.sig (run_p ch d g) hd (suc i) p.body (opening p.sig vs (with_left s i))))
        (λ u e. at_most_bind l _ _ (at_most_ends l p.sig 0 p.sig.kinds u e) (λ v e'. c (get v p.sig.result) (with_vars v s.vars) e')))
