-- What follows from simulation and typing: a program that keeps the rules never faults, leaves nothing, does what it
-- does on trees whichever free cells it gets, has one holder for each cell at every moment, and takes strict steps.
use Rattle.std.proofs.Common.{◌≡◌, ℕ, zero, suc, ◌+◌, ◌*◌, true, List, [], ◌∷◌, length, sym, ap, ◌∙◌, subst, arith}
use Rattle.owned.specs.Program.{S, Sig, Prog}
use Rattle.owned.specs.Runs.{n, St, R, fine, fault, full, spent, deep, Chooser, first_free, run_by, run, used}
use Rattle.owned.specs.Machine.{Frame, Mach, going, stopped, step, steps, start}
use Rattle.owned.specs.Strict.{strict}
use Rattle.owned.specs.Kept.{kept}
use Rattle.owned.specs.Rows.{row_ps, ok_ps}
use Rattle.owned.specs.Values
use Rattle.owned.specs.Values.{Tree}
use Rattle.owned.specs.Holders.{Chooses, Held}
use Rattle.owned.specs.Says.{MachineRuns, NeverFaults, NothingLeft, Alike, ValueReading, Same, AnyCells, OneHolder, StepsStrictly}
use Rattle.owned.proofs.TypingRules.{rows_ok, sound}
use Rattle.owned.proofs.Simulation.{first_chooses}
use Rattle.owned.proofs.SimulationSteps.{MachSim, Empty, NoFault, agreed, strict_sim, step_sim, start_sim}
use Rattle.owned.proofs.TypingSteps.{Typed, step_typed, start_typed}
use Rattle.owned.proofs.Refinement.{step_strict}
use Rattle.owned.proofs.Holding.{held}

-- the machine does what the value machine does, and that is typed
pub record Safe (g : Prog) (m : Mach) (v : Values.Mach) : Type 0 where
  pub sim : MachSim Empty m v
  pub typed : Typed g v

-- what is typed has not come to a fault
typed_well : (g : Prog) (v : Values.Mach) → Typed g v → NoFault Empty v
typed_well g (Values.going d p ss w fs) t = tt
typed_well g (Values.stopped (Values.fine w)) t = tt
typed_well g (Values.stopped Values.fault) t = t
typed_well g (Values.stopped Values.full) t = tt
typed_well g (Values.stopped Values.spent) t = tt
typed_well g (Values.stopped Values.deep) t = tt

module _ (g : Prog) (o : ok_ps g ≡ true) (k : kept g ≡ true) (ch : Chooser) (c : Chooses ch) where
  -- every step keeps it
  pub step_safe : (m : Mach) (v : Values.Mach) → Safe g m v → Safe g (step ch g m) (Values.step g v)
  step_safe m v h = record { sim = step_sim Empty ch c g m v h.sim; typed = step_typed g (sound g o k) v h.typed }

  -- so a step is the strict one
  pub safe_strict : (m : Mach) (v : Values.Mach) → Safe g m v → step ch g m ≡ strict ch g m
  safe_strict m v h = agreed Empty (step ch g m) (strict ch g m) (Values.step g v) (typed_well g (Values.step g v) (step_typed g (sound g o k) v h.typed)) (strict_sim Empty ch c g m v h.sim) (step_strict ch g m)

  steps_safe : (i : ℕ) (m : Mach) (v : Values.Mach) → Safe g m v → Safe g (steps ch g i m) (Values.steps g i v)
  steps_safe zero m v h = h
  steps_safe (suc i) m v h = steps_safe i (step ch g m) (Values.step g v) (step_safe m v h)

  pub always_safe : (cells depth turns i : ℕ) → Safe g (steps ch g i (start g cells depth turns)) (Values.steps g i (Values.start g cells depth turns))
  always_safe cells depth turns i = steps_safe i (start g cells depth turns) (Values.start g cells depth turns) (record { sim = start_sim g cells depth turns; typed = start_typed g cells depth turns o k })

-- a machine that stopped did not go on
not_going : {B : Type 0} (r : R) (d : ℕ) (p : Sig) (ss : List S) (s : St) (fs : List Frame) → stopped r ≡ going d p ss s fs → B
not_going r d p ss s fs e = let z : ◌≡◌ {A = ℕ} 0 1 = cc in let y : ⊥ = omega arith in elim y [ ]

-- one that goes on holds what its trees say
safe_held : (g : Prog) (d : ℕ) (p : Sig) (ss : List S) (s : St) (fs : List Frame) (v : Values.Mach) → Safe g (going d p ss s fs) v → Held g p ss s fs
safe_held g d p ss s fs (Values.going d' p' ss' w vfs) h =
    let o = h.sim in let e = o.is in
    let e₁ : p ≡ p' = cc in let e₂ : ss ≡ ss' = cc in let e₃ : s ≡ o.s = cc in let e₄ : fs ≡ o.hs = cc in
    rw (e₁, e₂, e₃, e₄) (held g p' ss' o.s o.hs w vfs o.ws o.gs o.sim o.stack h.typed)
safe_held g d p ss s fs (Values.stopped (Values.fine w)) h = not_going (fine h.sim.s) d p ss s fs (sym h.sim.is)
safe_held g d p ss s fs (Values.stopped Values.fault) h = elim h.typed [ ]
safe_held g d p ss s fs (Values.stopped Values.full) h = not_going full d p ss s fs (sym h.sim)
safe_held g d p ss s fs (Values.stopped Values.spent) h = not_going spent d p ss s fs (sym h.sim)
safe_held g d p ss s fs (Values.stopped Values.deep) h = not_going deep d p ss s fs (sym h.sim)

pub one_holder : OneHolder
one_holder t g ch cells depth turns i d p ss s fs r k c e = safe_held g d p ss s fs _ (subst (λ m. Safe g m (Values.steps g i (Values.start g cells depth turns))) e (always_safe g (rows_ok t g r) k ch c cells depth turns i))

pub steps_strictly : StepsStrictly
steps_strictly t g ch cells depth turns i r k c = let o = rows_ok t g r in safe_strict g o k ch c (steps ch g i (start g cells depth turns)) (Values.steps g i (Values.start g cells depth turns)) (always_safe g o k ch c cells depth turns i)

-- and one that stopped ended as the value machine did
safe_alike : (g : Prog) (r : R) (v : Values.Mach) → Safe g (stopped r) v → Alike r v
safe_alike g r (Values.going d p ss w fs) h = let o = h.sim in not_going r d p ss o.s o.hs o.is
safe_alike g r (Values.stopped (Values.fine w)) h =
    let s = h.sim in let e = s.is in
    record { state = s.s; is = cc; result = s.result; vars = s.vars; trees = s.trees; shown = sym s.shown; left = sym s.left; clean = s.clean }
safe_alike g r (Values.stopped Values.fault) h = h.typed
safe_alike g r (Values.stopped Values.full) h = let e = h.sim in cc
safe_alike g r (Values.stopped Values.spent) h = let e = h.sim in cc
safe_alike g r (Values.stopped Values.deep) h = let e = h.sim in cc

-- no fault is alike, and what is done is clean
no_fault : (f : ℕ) (v : Values.Mach) → Alike (fault f) v → ⊥
no_fault f (Values.going d p ss w fs) a = a
no_fault f (Values.stopped (Values.fine w)) a = let q = a.is in let z : ◌≡◌ {A = ℕ} 0 1 = cc in omega arith
no_fault f (Values.stopped Values.fault) a = a
no_fault f (Values.stopped Values.full) a = let z : ◌≡◌ {A = ℕ} 0 1 = cc in omega arith
no_fault f (Values.stopped Values.spent) a = let z : ◌≡◌ {A = ℕ} 0 1 = cc in omega arith
no_fault f (Values.stopped Values.deep) a = let z : ◌≡◌ {A = ℕ} 0 1 = cc in omega arith

-- two that end as the same value machine end alike
alike_same : (r r' : R) (v : Values.Mach) → Alike r v → Alike r' v → Same r r'
alike_same r r' (Values.going d p ss w fs) a b = elim a [ ]
alike_same r r' (Values.stopped (Values.fine w)) a b =
    let e = a.is in let f = b.is in
    let rs : a.result ≡ b.result = same_number a.result b.result (sym a.trees ∙ b.trees) in
    rw e (b.state, f, a.vars ∙ (ap (λ m. n m ∷ []) rs ∙ sym b.vars), a.shown ∙ sym b.shown, a.left ∙ sym b.left, a.clean, b.clean)
  where
    same_number : (x y : ℕ) → Tree.num x ∷ [] ≡ Tree.num y ∷ [] → x ≡ y
    same_number x y e = cc
alike_same r r' (Values.stopped Values.fault) a b = elim a [ ]
alike_same r r' (Values.stopped Values.full) a b = rw a b
alike_same r r' (Values.stopped Values.spent) a b = rw a b
alike_same r r' (Values.stopped Values.deep) a b = rw a b

-- a run that ends as itself is clean where it is done
same_clean : (t : St) → Same (fine t) (fine t) → used t.cells ≡ 0
same_clean t h = h.5

module _ (machine_runs : MachineRuns) where
  -- a run with any choice of cells ends as the value machine does
  pub alike : (g : Prog) (ch : Chooser) (cells depth turns : ℕ) → ok_ps g ≡ true → kept g ≡ true → Chooses ch → Alike (run_by ch g cells depth turns) (Values.run g cells depth turns)
  alike g ch cells depth turns o k c =
      let i : ℕ = turns * suc (length (row_ps g)) + 1 in
      safe_alike g (run_by ch g cells depth turns) (Values.run g cells depth turns) (subst (λ m. Safe g m (Values.run g cells depth turns)) (machine_runs ch g cells depth turns i (omega arith)) (always_safe g o k ch c cells depth turns i))

  pub value_reading : ValueReading
  value_reading s g cells depth turns r k = alike g first_free cells depth turns (rows_ok s g r) k first_chooses

  pub any_cells : AnyCells
  any_cells s g ch ch' cells depth turns r k c c' = alike_same (run_by ch g cells depth turns) (run_by ch' g cells depth turns) (Values.run g cells depth turns) (alike g ch cells depth turns (rows_ok s g r) k c) (alike g ch' cells depth turns (rows_ok s g r) k c')

  pub faultless : (g : Prog) (cells depth turns f : ℕ) → ok_ps g ≡ true → kept g ≡ true → run g cells depth turns ≡ fault f → ⊥
  faultless g cells depth turns f o k e = no_fault f (Values.run g cells depth turns) (subst (λ z. Alike z (Values.run g cells depth turns)) e (alike g first_free cells depth turns o k first_chooses))

  pub never_faults : NeverFaults
  never_faults s g cells depth turns f r k e = faultless g cells depth turns f (rows_ok s g r) k e

  pub nothing_left : NothingLeft
  nothing_left s g cells depth turns t r k e = same_clean t (subst (λ z. Same z z) e (any_cells s g first_free first_free cells depth turns r k first_chooses first_chooses))
