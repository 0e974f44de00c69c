-- What a state of the machine means: the result of the run once all that is pending is done.
-- Every step keeps that meaning, and the start means what the whole run gives, for every choice of cells.
use Rattle.std.proofs.Common.{◌≡◌, ℕ, zero, suc, Bool, true, false, cond, eqb, List, [], ◌∷◌, Some, None, Option, sym, refl, ap, ◌∙◌}
use mathlib.Core.Path.{fun_ext}
use Rattle.std.specs.List.{slice_get}
use Rattle.owned.specs.Program.{S, Sig, Proc, Prog, kind}
use Rattle.owned.specs.Runs.{Val, St, R, fine, fault, full, spent, deep, bind, May, ok, bad, value, num, get, with_vars, with_left, into, Took, took, missing, with_t, hand, turn_at, Chooser, opening, ends, run_s, enter, run_p, last, at_start, run_by}
use Rattle.owned.specs.Machine.{Frame, Mach, going, stopped, push, and_m, num_m, turn_m, hand_m, enter_m, call_m, simple, step_s, back, step, start}
use Rattle.owned.proofs.Turns.{at_most_run_p}
use Rattle.owned.proofs.Fuel.{loop, does, does_run}

-- the pending statements one after the other, in a procedure from which d more calls may be opened
abbrev pub pending : Chooser → Prog → ℕ → Sig → List S → St → R
pending ch g d p [] s = fine s
pending ch g d p (a ∷ ss) s = bind (does ch p (run_p ch d g) a s) (λ t. pending ch g d p ss t)

-- the end of a procedure, and then what its callers have pending
abbrev pub leaving : Chooser → Prog → ℕ → Sig → List Frame → St → R
leaving ch g d p [] u = bind (ends p 0 p.kinds u) (λ v. last (get v p.result) (with_vars v []))
leaving ch g d p (f ∷ fs) u =
    bind (ends p 0 p.kinds u) (λ v. bind (into (kind f.sig f.dest) f.dest (get v p.result) (with_vars v f.vars))
    (λ w. bind (pending ch g (suc d) f.sig f.todo w) (λ z. leaving ch g (suc d) f.sig fs z)))

abbrev pub meaning : Chooser → Prog → Mach → R
meaning ch g (stopped r) = r
meaning ch g (going d p ss s fs) = bind (pending ch g d p ss s) (λ u. leaving ch g d p fs u)

bind_bind : (r : R) (k c : St → R) → bind (bind r k) c ≡ bind r (λ t. bind (k t) c)
bind_bind (fine t) k c = refl
bind_bind (fault f) k c = refl
bind_bind full k c = refl
bind_bind spent k c = refl
bind_bind deep k c = refl

bind_fine : (r : R) → bind r (λ t. fine t) ≡ r
bind_fine (fine t) = refl
bind_fine (fault f) = refl
bind_fine full = refl
bind_fine spent = refl
bind_fine deep = refl

bind_ext : (r : R) (k c : St → R) → ((t : St) → k t ≡ c t) → bind r k ≡ bind r c
bind_ext r k c g = ap (λ (f : St → R). bind r f) (fun_ext g)

module _ (ch : Chooser) (g : Prog) where
  -- a machine that does r, and then c
  abbrev Means : (St → R) → Mach → R → Type 0
  Means c m r = meaning ch g m ≡ bind r c

  means_and : (r : R) (k : St → Mach) → Means (λ t. meaning ch g (k t)) (and_m r k) r
  means_and (fine t) k = refl
  means_and (fault f) k = refl
  means_and full k = refl
  means_and spent k = refl
  means_and deep k = refl

  means_num : (c : St → R) (m : May) (k : ℕ → Mach) (k' : ℕ → R) → ((a : ℕ) → Means c (k a) (k' a)) → Means c (num_m m k) (num m k')
  means_num c bad k k' h = refl
  means_num c (ok a) k k' h = h a

  means_cond : (c : St → R) (b : Bool) (m m' : Mach) (r r' : R) → Means c m r → Means c m' r' → Means c (cond b m m') (cond b r r')
  means_cond c true m m' r r' h h' = h
  means_cond c false m m' r r' h h' = h'

  means_turn : (c : St → R) (l : ℕ) (s : St) (k : St → Mach) (k' : St → R) → ((t : St) → Means c (k t) (k' t)) → Means c (turn_m l s k) (turn_at l s k')
  means_turn c zero s k k' h = refl
  means_turn c (suc l) s k k' h = h (with_left s l)

  means_enter : (c : St → R) (o : Option Proc) (k : Proc → Mach) (k' : Proc → R) → ((q : Proc) → Means c (k q) (k' q)) → Means c (enter_m o k) (enter o k')
  means_enter c None k k' h = refl
  means_enter c (Some q) k k' h = h q

  means_hand : (c : St → R) (o : Took (List Val)) (k : List Val → St → Mach) (k' : List Val → St → R) → ((vs : List Val) (t : St) → Means c (k vs t) (k' vs t)) → Means c (hand_m o k) (with_t o k')
  means_hand c (took vs t) k k' h = h vs t
  means_hand c missing k k' h = refl

  -- a pair that is pushed in two parts is still done one after the other
  pending_push : (d : ℕ) (p : Sig) (a : S) (ss : List S) (s : St) → pending ch g d p (push a ss) s ≡ bind (does ch p (run_p ch d g) a s) (λ t. pending ch g d p ss t)
  pending_push d p S.skip ss s = refl
  pending_push d p (S.then a b) ss s =
      pending_push d p a (push b ss) s ∙ bind_ext (does ch p (run_p ch d g) a s) _ _ (λ t. pending_push d p b ss t)
      ∙ sym (bind_bind (does ch p (run_p ch d g) a s) (λ t. does ch p (run_p ch d g) b t) (λ t. pending ch g d p ss t))
  pending_push d p (S.set x e) ss s = refl
  pending_push d p (S.box x y) ss s = refl
  pending_push d p (S.unbox x y) ss s = refl
  pending_push d p (S.look x y) ss s = refl
  pending_push d p (S.fill x y) ss s = refl
  pending_push d p (S.move x y) ss s = refl
  pending_push d p (S.drop x) ss s = refl
  pending_push d p (S.if e a b) ss s = refl
  pending_push d p (S.while e a) ss s = refl
  pending_push d p (S.call x f as₁) ss s = refl
  pending_push d p (S.show e) ss s = refl

  means_push : (d : ℕ) (p : Sig) (a : S) (ss : List S) (s : St) (fs : List Frame) → Means (λ t. meaning ch g (going d p ss t fs)) (going d p (push a ss) s fs) (does ch p (run_p ch d g) a s)
  means_push d p a ss s fs =
      ap (λ r. bind r (λ u. leaving ch g d p fs u)) (pending_push d p a ss s)
      ∙ bind_bind (does ch p (run_p ch d g) a s) (λ t. pending ch g d p ss t) (λ u. leaving ch g d p fs u)

  -- a procedure's body
  abbrev ran : ℕ → Proc → St → R
  ran d q s = run_s ch q.sig (λ h ys z c. run_p ch d g h ys z c) (suc s.left) q.body s

  means_body : (d : ℕ) (q : Proc) (s : St) (fs : List Frame) → Means (λ u. leaving ch g d q.sig fs u) (going d q.sig (push q.body []) s fs) (ran d q s)
  means_body d q s fs = means_push d q.sig q.body [] s fs ∙ ap (λ r. bind r (λ u. leaving ch g d q.sig fs u)) (sym (does_run ch q.sig (run_p ch d g) (at_most_run_p ch g d) q.body s))

  -- the end of what is called is the caller's next statement
  module _ (d : ℕ) (p : Sig) (i : ℕ) (ss : List S) (fs : List Frame) (q : Proc) (vars : List Val) where
    abbrev caller : Frame
    caller = record { sig = p; dest = i; todo = ss; vars = vars }

    -- the called procedure's end, and its result put into the caller's variable
    abbrev ended : St → R
    ended z = bind (ends q.sig 0 q.sig.kinds z) (λ v. into (kind p i) i (get v q.sig.result) (with_vars v vars))

    means_called : (s : St) → Means (λ t. meaning ch g (going (suc d) p ss t fs)) (going d q.sig (push q.body []) s (caller ∷ fs)) (bind (ran d q s) ended)
    means_called s =
        means_body d q s (caller ∷ fs)
        ∙ bind_ext (ran d q s) _ _ (λ z. sym (bind_bind (ends q.sig 0 q.sig.kinds z) (λ v. into (kind p i) i (get v q.sig.result) (with_vars v vars)) (λ t. meaning ch g (going (suc d) p ss t fs))))
        ∙ sym (bind_bind (ran d q s) ended (λ t. meaning ch g (going (suc d) p ss t fs)))

  means_call : (d : ℕ) (p : Sig) (i f : ℕ) (vs : List Val) (t : St) (ss : List S) (fs : List Frame) →
      Means (λ u. meaning ch g (going d p ss u fs)) (call_m g d f vs t (record { sig = p; dest = i; todo = ss; vars = t.vars } ∷ fs)) (run_p ch d g f vs t (λ v u. into (kind p i) i v u))
  means_call zero p i f vs t ss fs = refl
  means_call (suc d) p i f vs t ss fs = means_enter _ (slice_get g f) _ _ (λ q. means_turn _ t.left t _ (λ u. bind (ran d q (opening q.sig vs u)) (ended d p i ss fs q t.vars)) (λ u. means_called d p i ss fs q t.vars (opening q.sig vs u)))

  means_step_s : (d : ℕ) (p : Sig) (a : S) (ss : List S) (s : St) (fs : List Frame) → Means (λ t. meaning ch g (going d p ss t fs)) (step_s ch g d p a ss s fs) (does ch p (run_p ch d g) a s)
  means_step_s d p S.skip ss s fs = refl
  means_step_s d p (S.then a b) ss s fs = means_push d p (S.then a b) ss s fs
  means_step_s d p (S.set x e) ss s fs = means_and (simple ch p (S.set x e) s) (λ t. going d p ss t fs)
  means_step_s d p (S.box x y) ss s fs = means_and (simple ch p (S.box x y) s) (λ t. going d p ss t fs)
  means_step_s d p (S.unbox x y) ss s fs = means_and (simple ch p (S.unbox x y) s) (λ t. going d p ss t fs)
  means_step_s d p (S.look x y) ss s fs = means_and (simple ch p (S.look x y) s) (λ t. going d p ss t fs)
  means_step_s d p (S.fill x y) ss s fs = means_and (simple ch p (S.fill x y) s) (λ t. going d p ss t fs)
  means_step_s d p (S.move x y) ss s fs = means_and (simple ch p (S.move x y) s) (λ t. going d p ss t fs)
  means_step_s d p (S.drop x) ss s fs = means_and (simple ch p (S.drop x) s) (λ t. going d p ss t fs)
  means_step_s d p (S.if e a b) ss s fs = means_num _ (value s e) _ _ (λ k. means_cond _ (eqb k 0) _ _ _ _ (means_push d p b ss s fs) (means_push d p a ss s fs))
  means_step_s d p (S.while e a) ss s fs =
      means_num _ (value s e) _ _ (λ k. means_cond _ (eqb k 0) _ _ _ _ refl (means_turn (λ t. meaning ch g (going d p ss t fs)) s.left s _ (λ t. bind (does ch p (run_p ch d g) a t) (loop ch p (run_p ch d g) e a))
      (λ t. means_push d p (S.then a (S.while e a)) ss t fs
      ∙ ap (λ (f : St → R). bind (bind (does ch p (run_p ch d g) a t) f) (λ u. meaning ch g (going d p ss u fs))) (fun_ext (λ u. sym (does_run ch p (run_p ch d g) (at_most_run_p ch g d) (S.while e a) u))))))
  means_step_s d p (S.call x f as₁) ss s fs = means_hand _ (hand p as₁ s) _ _ (λ vs t. means_call d p x f vs t ss fs)
  means_step_s d p (S.show e) ss s fs = means_and (simple ch p (S.show e) s) (λ t. going d p ss t fs)

  pub step_keeps_meaning : (m : Mach) → meaning ch g (step ch g m) ≡ meaning ch g m
  step_keeps_meaning (stopped r) = refl
  step_keeps_meaning (going d p [] s []) = means_and (ends p 0 p.kinds s) (λ v. back d p [] v)
  step_keeps_meaning (going d p [] s (f ∷ fs)) =
      means_and (ends p 0 p.kinds s) (λ v. back d p (f ∷ fs) v)
      ∙ bind_ext (ends p 0 p.kinds s) _ _ (λ v. means_and _ (λ w. going (suc d) f.sig f.todo w fs))
  step_keeps_meaning (going d p (a ∷ ss) s fs) = means_step_s d p a ss s fs ∙ sym (bind_bind (does ch p (run_p ch d g) a s) (λ t. pending ch g d p ss t) (λ u. leaving ch g d p fs u))

  pub start_means_run : (cells depth turns : ℕ) → meaning ch g (start g cells depth turns) ≡ run_by ch g cells depth turns
  start_means_run cells zero turns = refl
  start_means_run cells (suc d) turns =
      means_enter (λ t. fine t) (slice_get g 0) _ _ (λ q. means_turn (λ t. fine t) turns (at_start cells turns) _ (λ u. bind (ran d q (opening q.sig [] u)) (λ z. leaving ch g d q.sig [] z))
      (λ u. means_body d q (opening q.sig [] u) [] ∙ sym (bind_fine (bind (ran d q (opening q.sig [] u)) (λ z. leaving ch g d q.sig [] z)))))
      ∙ bind_fine (run_by ch g cells (suc d) turns)
