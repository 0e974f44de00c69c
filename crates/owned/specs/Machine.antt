-- What a run is step by step: the same as `run`, with the pending statements and the suspended callers spelled out.
use Rattle.std.specs.Prelude.{ℕ, zero, suc, cond, List, [], ◌∷◌, Some, None, Option, ◌==◌}
use Rattle.std.specs.List.{slice_get}
use Rattle.owned.specs.Program.{S, Sig, Proc, Prog, kind}
use Rattle.owned.specs.Runs.{Val, St, R, fine, fault, full, spent, deep, May, ok, bad, Took, took, missing, Chooser, value, get, with_vars, with_left, into, hand, exec, opening, ends, last, at_start}

-- a caller that waits: its variables, the statements it goes on with, and where the result goes
pub record Frame : Type 0 where
  pub sig : Sig
  pub dest : ℕ
  pub todo : List S
  pub vars : List Val

-- A run that goes on: how many more calls may be open, the running procedure's signature, its pending statements,
-- the state, and the callers, the innermost first. Or how it ended.
pub data Mach : Type 0 where
  going : ℕ → Sig → List S → St → List Frame → Mach
  stopped : R → Mach

-- A statement before others. A pair is two of them, so that it takes no step of its own.
abbrev pub push : S → List S → List S
push S.skip ss = S.skip ∷ ss
push (S.then a b) ss = push a (push b ss)
push (S.set x e) ss = S.set x e ∷ ss
push (S.box x y) ss = S.box x y ∷ ss
push (S.unbox x y) ss = S.unbox x y ∷ ss
push (S.look x y) ss = S.look x y ∷ ss
push (S.fill x y) ss = S.fill x y ∷ ss
push (S.move x y) ss = S.move x y ∷ ss
push (S.drop x) ss = S.drop x ∷ ss
push (S.if e a b) ss = S.if e a b ∷ ss
push (S.while e a) ss = S.while e a ∷ ss
push (S.call x f as₁) ss = S.call x f as₁ ∷ ss
push (S.show e) ss = S.show e ∷ ss

-- an outcome, a number, a turn, arguments and a procedure, each with what the machine does next
abbrev pub and_m : R → (St → Mach) → Mach
and_m (fine s) k = k s
and_m (fault f) k = stopped (fault f)
and_m full k = stopped full
and_m spent k = stopped spent
and_m deep k = stopped deep

abbrev pub num_m : May → (ℕ → Mach) → Mach
num_m bad k = stopped (fault 3)
num_m (ok a) k = k a

abbrev pub turn_m : ℕ → St → (St → Mach) → Mach
turn_m zero s k = stopped spent
turn_m (suc l) s k = k (with_left s l)

abbrev pub hand_m : Took (List Val) → (List Val → St → Mach) → Mach
hand_m (took vs t) k = k vs t
hand_m missing k = stopped (fault 1)

abbrev pub enter_m : Option Proc → (Proc → Mach) → Mach
enter_m None k = stopped (fault 4)
enter_m (Some p) k = k p

-- a call, with so many more that may be open
abbrev pub call_m : Prog → ℕ → ℕ → List Val → St → List Frame → Mach
call_m g zero f vs t fs = stopped deep
call_m g (suc d) f vs t fs = enter_m (slice_get g f) (λ q. turn_m t.left t (λ u. going d q.sig (push q.body []) (opening q.sig vs u) fs))

-- a statement that neither calls nor takes a turn
abbrev pub simple : Chooser → Sig → S → St → R
simple ch p a s = exec ch p (λ f vs t k. deep) (λ e b t. deep) a s

-- one statement before the pending ones
abbrev pub step_s : Chooser → Prog → ℕ → Sig → S → List S → St → List Frame → Mach
step_s ch g d p S.skip ss s fs = going d p ss s fs
step_s ch g d p (S.then a b) ss s fs = going d p (push a (push b ss)) s fs
step_s ch g d p (S.set x e) ss s fs = and_m (simple ch p (S.set x e) s) (λ t. going d p ss t fs)
step_s ch g d p (S.box x y) ss s fs = and_m (simple ch p (S.box x y) s) (λ t. going d p ss t fs)
step_s ch g d p (S.unbox x y) ss s fs = and_m (simple ch p (S.unbox x y) s) (λ t. going d p ss t fs)
step_s ch g d p (S.look x y) ss s fs = and_m (simple ch p (S.look x y) s) (λ t. going d p ss t fs)
step_s ch g d p (S.fill x y) ss s fs = and_m (simple ch p (S.fill x y) s) (λ t. going d p ss t fs)
step_s ch g d p (S.move x y) ss s fs = and_m (simple ch p (S.move x y) s) (λ t. going d p ss t fs)
step_s ch g d p (S.drop x) ss s fs = and_m (simple ch p (S.drop x) s) (λ t. going d p ss t fs)
step_s ch g d p (S.if e a b) ss s fs = num_m (value s e) (λ k. cond (k == 0) (going d p (push b ss) s fs) (going d p (push a ss) s fs))
step_s ch g d p (S.while e a) ss s fs = num_m (value s e) (λ k. cond (k == 0) (going d p ss s fs) (turn_m s.left s (λ t. going d p (push a (S.while e a ∷ ss)) t fs)))
step_s ch g d p (S.call x f as₁) ss s fs = hand_m (hand p as₁ s) (λ vs t. call_m g d f vs t (record { sig = p; dest = x; todo = ss; vars = t.vars } ∷ fs))
step_s ch g d p (S.show e) ss s fs = and_m (simple ch p (S.show e) s) (λ t. going d p ss t fs)

-- a procedure that ended: its result goes to the caller, or is the run's
abbrev pub back : ℕ → Sig → List Frame → St → Mach
back d p [] v = stopped (last (get v p.result) (with_vars v []))
back d p (f ∷ fs) v = and_m (into (kind f.sig f.dest) f.dest (get v p.result) (with_vars v f.vars)) (λ w. going (suc d) f.sig f.todo w fs)

abbrev pub step : Chooser → Prog → Mach → Mach
step ch g (stopped r) = stopped r
step ch g (going d p [] s fs) = and_m (ends p 0 p.kinds s) (λ v. back d p fs v)
step ch g (going d p (a ∷ ss) s fs) = step_s ch g d p a ss s fs

abbrev pub steps : Chooser → Prog → ℕ → Mach → Mach
steps ch g zero m = m
steps ch g (suc i) m = steps ch g i (step ch g m)

-- the call of procedure 0
abbrev pub start : Prog → ℕ → ℕ → ℕ → Mach
start g cells depth turns = call_m g depth 0 [] (at_start cells turns) []
