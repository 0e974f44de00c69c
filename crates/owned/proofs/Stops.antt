-- The machine stops: a bound on the steps to come, of the turns left and of the statements pending, falls with each step.
-- A turn pays for more steps than the program has words, and without one no statement takes more steps than it has words.
use Rattle.std.proofs.Common.{◌≡◌, ℕ, zero, suc, ◌+◌, ◌*◌, ◌<◌, ◌≤◌, Bool, true, false, cond, eqb, List, [], ◌∷◌, length, Some, None, Option, sym, refl, ap, ◌∙◌, mul-le-mul_right, suc-mul, arith, length-append}
use Rattle.std.specs.List.{slice_get}
use Rattle.owned.specs.Program.{S, Sig, Proc, Prog, kind}
use Rattle.owned.specs.Runs.{Val, St, R, fine, fault, full, spent, deep, May, ok, bad, value, get, with_vars, with_left, into, Took, took, missing, hand, Chooser, opening, ends, at_start}
use Rattle.owned.specs.Machine.{Frame, Mach, going, stopped, push, and_m, num_m, turn_m, hand_m, enter_m, call_m, simple, step_s, step, steps, start}
use Rattle.owned.specs.Rows.{row_s, row_ps}
use Rattle.owned.specs.Says.{MachineRuns}
use Rattle.owned.proofs.Turns.{AtMost, TookAtMost, at_most_into, at_most_hand, at_most_ends, at_most_exec}
use Rattle.owned.proofs.Meaning.{meaning, step_keeps_meaning, start_means_run}

-- how many statements stand inside a statement
abbrev inside : S → ℕ
inside S.skip = 0
inside (S.then a b) = 2 + (inside a + inside b)
inside (S.set x e) = 0
inside (S.box x y) = 0
inside (S.unbox x y) = 0
inside (S.look x y) = 0
inside (S.fill x y) = 0
inside (S.move x y) = 0
inside (S.drop x) = 0
inside (S.if e a b) = 2 + (inside a + inside b)
inside (S.while e a) = 1 + inside a
inside (S.call x f as₁) = 0
inside (S.show e) = 0

-- the statement itself and those inside, each of which takes a step at most until the next turn
abbrev size : S → ℕ
size a = 1 + inside a

abbrev sizes : List S → ℕ
sizes [] = 0
sizes (a ∷ ss) = size a + sizes ss

-- what waits in the callers: their statements, and a step to return to each
abbrev waiting : List Frame → ℕ
waiting [] = 0
waiting (f ∷ fs) = 1 + (sizes f.todo + waiting fs)

-- a turn pays for each of these statements
abbrev Small : ℕ → List S → Type 0
Small B [] = Unit {0}
Small B (a ∷ ss) = (size a < B) × Small B ss

abbrev SmallFrames : ℕ → List Frame → Type 0
SmallFrames B [] = Unit {0}
SmallFrames B (f ∷ fs) = Small B f.todo × SmallFrames B fs

-- at most i steps are to come, where a turn pays for B
abbrev Within : ℕ → ℕ → Mach → Type 0
Within B i (stopped r) = Unit {0}
Within B i (going d p ss s fs) = (s.left * B + (sizes ss + (waiting fs + 1)) ≤ i) × Small B ss × SmallFrames B fs

-- what is pushed in parts is no larger
push_small : (B : ℕ) (a : S) (ss : List S) → size a < B → Small B ss → (sizes (push a ss) ≤ size a + sizes ss) × Small B (push a ss)
push_small B S.skip ss h hs = (omega arith, (h, hs))
push_small B (S.then a b) ss h hs =
    let q : (sizes (push b ss) ≤ size b + sizes ss) × Small B (push b ss) = push_small B b ss (omega arith) hs in
    let r : (sizes (push a (push b ss)) ≤ size a + sizes (push b ss)) × Small B (push a (push b ss)) = push_small B a (push b ss) (omega arith) q.1 in
    (omega arith, r.1)
push_small B (S.set x e) ss h hs = (omega arith, (h, hs))
push_small B (S.box x y) ss h hs = (omega arith, (h, hs))
push_small B (S.unbox x y) ss h hs = (omega arith, (h, hs))
push_small B (S.look x y) ss h hs = (omega arith, (h, hs))
push_small B (S.fill x y) ss h hs = (omega arith, (h, hs))
push_small B (S.move x y) ss h hs = (omega arith, (h, hs))
push_small B (S.drop x) ss h hs = (omega arith, (h, hs))
push_small B (S.if e a b) ss h hs = (omega arith, (h, hs))
push_small B (S.while e a) ss h hs = (omega arith, (h, hs))
push_small B (S.call x f as₁) ss h hs = (omega arith, (h, hs))
push_small B (S.show e) ss h hs = (omega arith, (h, hs))

module _ (B i : ℕ) where
  within_and : (l : ℕ) (r : R) (k : St → Mach) → AtMost l r → ((t : St) → t.left ≤ l → Within B i (k t)) → Within B i (and_m r k)
  within_and l (fine t) k h c = c t h
  within_and l (fault f) k h c = tt
  within_and l full k h c = tt
  within_and l spent k h c = tt
  within_and l deep k h c = tt

  within_num : (m : May) (k : ℕ → Mach) → ((a : ℕ) → Within B i (k a)) → Within B i (num_m m k)
  within_num bad k c = tt
  within_num (ok a) k c = c a

  within_cond : (b : Bool) (m m' : Mach) → Within B i m → Within B i m' → Within B i (cond b m m')
  within_cond true m m' h h' = h
  within_cond false m m' h h' = h'

  within_turn : (l : ℕ) (s : St) (k : St → Mach) → ((j : ℕ) → j * B + B ≡ l * B → Within B i (k (with_left s j))) → Within B i (turn_m l s k)
  within_turn zero s k c = tt
  within_turn (suc l) s k c = c l (sym (suc-mul l B))

  within_hand : (l : ℕ) (o : Took (List Val)) (k : List Val → St → Mach) → TookAtMost l o → ((vs : List Val) (t : St) → t.left ≤ l → Within B i (k vs t)) → Within B i (hand_m o k)
  within_hand l (took vs t) k h c = c vs t h
  within_hand l missing k h c = tt

  within_push : (d : ℕ) (p : Sig) (a : S) (ss : List S) (s : St) (fs : List Frame) → size a < B → Small B ss → SmallFrames B fs → s.left * B + (size a + (sizes ss + (waiting fs + 1))) ≤ i → Within B i (going d p (push a ss) s fs)
  within_push d p a ss s fs h hs hf l = let q = push_small B a ss h hs in (omega arith, q.1, hf)

-- each step leaves one less to come, where a turn pays for every procedure's body
module _ (ch : Chooser) (g : Prog) (B : ℕ) (bodies : (f : ℕ) (q : Proc) → slice_get g f ≡ Some q → size q.body < B) where
  within_call : (i d f : ℕ) (vs : List Val) (t : St) (fs : List Frame) → SmallFrames B fs → t.left * B + waiting fs ≤ i → Within B i (call_m g d f vs t fs)
  within_call i zero f vs t fs hf h = tt
  within_call i (suc d) f vs t fs hf h = go (slice_get g f) refl
    where
      go : (o : Option Proc) → slice_get g f ≡ o → Within B i (enter_m o (λ q. turn_m t.left t (λ u. going d q.sig (push q.body []) (opening q.sig vs u) fs)))
      go None e = tt
      go (Some q) e = within_turn B i t.left t _ (λ j ej. let k : size q.body < B = bodies f q e in within_push B i d q.sig q.body [] (opening q.sig vs (with_left t j)) fs k tt hf (omega arith))

  within_simple : (i d : ℕ) (p : Sig) (a : S) (ss : List S) (s : St) (fs : List Frame) → Within B (suc i) (going d p (a ∷ ss) s fs) → Within B i (and_m (simple ch p a s) (λ t. going d p ss t fs))
  within_simple i d p a ss s fs h =
      within_and B i s.left (simple ch p a s) _ (at_most_exec ch p (λ f vs t k. deep) (λ l f vs t k e c. tt) (λ e b t. deep) (λ e b t. tt) s.left a s (omega arith))
      (λ t l. (omega (arith, mul-le-mul_right B l), h.1.1, h.2))

  within_step_s : (i d : ℕ) (p : Sig) (a : S) (ss : List S) (s : St) (fs : List Frame) → Within B (suc i) (going d p (a ∷ ss) s fs) → Within B i (step_s ch g d p a ss s fs)
  within_step_s i d p S.skip ss s fs h = (omega arith, h.1.1, h.2)
  within_step_s i d p (S.then a b) ss s fs h =
      let q = push_small B b ss (omega arith) h.1.1 in
      within_push B i d p a (push b ss) s fs (omega arith) q.1 h.2 (omega arith)
  within_step_s i d p (S.set x e) ss s fs h = within_simple i d p (S.set x e) ss s fs h
  within_step_s i d p (S.box x y) ss s fs h = within_simple i d p (S.box x y) ss s fs h
  within_step_s i d p (S.unbox x y) ss s fs h = within_simple i d p (S.unbox x y) ss s fs h
  within_step_s i d p (S.look x y) ss s fs h = within_simple i d p (S.look x y) ss s fs h
  within_step_s i d p (S.fill x y) ss s fs h = within_simple i d p (S.fill x y) ss s fs h
  within_step_s i d p (S.move x y) ss s fs h = within_simple i d p (S.move x y) ss s fs h
  within_step_s i d p (S.drop x) ss s fs h = within_simple i d p (S.drop x) ss s fs h
  within_step_s i d p (S.if e a b) ss s fs h =
      within_num B i (value s e) _ (λ k. within_cond B i (eqb k 0) _ _ (within_push B i d p b ss s fs (omega arith) h.1.1 h.2 (omega arith)) (within_push B i d p a ss s fs (omega arith) h.1.1 h.2 (omega arith)))
  within_step_s i d p (S.while e a) ss s fs h =
      within_num B i (value s e) _ (λ k. within_cond B i (eqb k 0) _ _ (omega arith, h.1.1, h.2)
      (within_turn B i s.left s _ (λ j ej. within_push B i d p a (S.while e a ∷ ss) (with_left s j) fs (omega arith) h.1 h.2 (omega arith))))
  within_step_s i d p (S.call x f as₁) ss s fs h =
      within_hand B i s.left (hand p as₁ s) _ (at_most_hand s.left p as₁ s (omega arith)) (λ vs t l. within_call i d f vs t _ (h.1.1, h.2) (omega (arith, mul-le-mul_right B l)))
  within_step_s i d p (S.show e) ss s fs h = within_simple i d p (S.show e) ss s fs h

  within_step : (i : ℕ) (m : Mach) → Within B (suc i) m → Within B i (step ch g m)
  within_step i (stopped r) h = tt
  within_step i (going d p [] s []) h = within_and B i s.left (ends p 0 p.kinds s) _ (at_most_ends s.left p 0 p.kinds s (omega arith)) (λ v l. tt)
  within_step i (going d p [] s (f ∷ fs)) h =
      within_and B i s.left (ends p 0 p.kinds s) _ (at_most_ends s.left p 0 p.kinds s (omega arith))
      (λ v l. within_and B i s.left (into (kind f.sig f.dest) f.dest (get v p.result) (with_vars v f.vars)) _
      (at_most_into s.left (kind f.sig f.dest) f.dest (get v p.result) (with_vars v f.vars) l) (λ w l'. (omega (arith, mul-le-mul_right B l'), h.2.0, h.2.1)))
  within_step i (going d p (a ∷ ss) s fs) h = within_step_s i d p a ss s fs h

  stops : (i : ℕ) (m : Mach) → Within B i m → steps ch g i m ≡ stopped (meaning ch g m)
  stops zero (stopped r) h = refl
  stops zero (going d p ss s fs) h = absurd (omega arith)
  stops (suc i) m h = stops i (step ch g m) (within_step i m h) ∙ ap stopped (step_keeps_meaning ch g m)

-- a statement has a word at least for each that stands inside it
size_words : (a : S) → size a ≤ length (row_s a)
size_words S.skip = omega arith
size_words (S.then a b) = simp length-append (omega (arith, size_words a, size_words b))
size_words (S.set x e) = omega arith
size_words (S.box x y) = omega arith
size_words (S.unbox x y) = omega arith
size_words (S.look x y) = omega arith
size_words (S.fill x y) = omega arith
size_words (S.move x y) = omega arith
size_words (S.drop x) = omega arith
size_words (S.if e a b) = simp length-append (omega (arith, size_words a, size_words b))
size_words (S.while e a) = simp length-append (omega (arith, size_words a))
size_words (S.call x f as₁) = omega arith
size_words (S.show e) = omega arith

body_words : (g : Prog) (f : ℕ) (q : Proc) → slice_get g f ≡ Some q → size q.body ≤ length (row_ps g)
body_words [] f q e = let z : ◌≡◌ {A = ℕ} 0 1 = cc in absurd (omega arith)
body_words (p ∷ ps) zero q e = let z : p ≡ q = cc in rw (← z) (simp length-append (omega (arith, size_words p.body)))
body_words (p ∷ ps) (suc f) q e = simp length-append (omega (arith, body_words ps f q e))

pub machine_runs : MachineRuns
machine_runs ch g cells depth turns i h =
    let bodies : (f : ℕ) (q : Proc) → slice_get g f ≡ Some q → size q.body < suc (length (row_ps g)) = λ f q e. omega (arith, body_words g f q e) in
    stops ch g (suc (length (row_ps g))) bodies i (start g cells depth turns) (within_call ch g (suc (length (row_ps g))) bodies i depth 0 [] (at_start cells turns) [] tt (omega arith))
    ∙ ap stopped (start_means_run ch g cells depth turns)
