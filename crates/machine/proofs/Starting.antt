-- A run from its start: the first procedure is entered, and as many steps as the definition's machine takes are enough.
use Rattle.std.proofs.Common.{◌≡◌, ℕ, zero, suc, ◌+◌, ◌-◌, ◌<◌, ◌≤◌, true, leb, [], ◌∷◌, length, get_or, Some, None, Err, Option, Result, sym, refl, ap, ◌∙◌, subst, arith}
use Rattle.std.specs.List.{slice_get}
use Rattle.std.proofs.lemmas.Bool.{and_parts, leb-true}
use Rattle.owned.specs.Program.{Proc, Prog}
use Rattle.owned.specs.Kept.{kept}
use Rattle.owned.specs.Rows.{ok_sig, ok_p, ok_ps}
use Rattle.owned.specs.Runs.{fault, spent, deep, first_free, with_left, opening, at_start, run}
use Rattle.owned.specs.Machine.{Mach, going, stopped, push, turn_m, enter_m, call_m, step, steps, start}
use Rattle.linker.specs.Code.{ProcAt}
use Rattle.owned.specs.Values
use Rattle.owned.proofs.Places.{none_some}
use Rattle.owned.proofs.Simulation.{first_chooses}
use Rattle.owned.proofs.Stops.{machine_runs}
use Rattle.owned.proofs.Safety.{Safe, step_safe, safe_strict, always_safe, faultless}
use Rattle.owned.proofs.TypingRules.{sound}
use Rattle.machine.specs.declared.machine.Halt.{Halt}
use Rattle.machine.specs.declared.machine.Halt.TheVariants.{Spent}
use Rattle.machine.specs.Memory.{Control, Memory, with_turns, entered}
use Rattle.machine.specs.Represents.{Shown, Shows}
use Rattle.machine.specs.Operations.{NoFault}
use Rattle.machine.specs.Calls.{Blanked, Opened}
use Rattle.machine.specs.Running.{strictly, Runs, CanRun, CameOut, Starts, CanStart, Ran}
use Rattle.machine.proofs.Branching.{turn_off, turn_on}
use Rattle.machine.proofs.Calling.{opened_rep}
use Rattle.machine.proofs.WholeRuns.{same_stop}

-- at most 32 variables
few_kinds : (g : Prog) → ok_ps g ≡ true → (f : ℕ) (q : Proc) → slice_get g f ≡ Some q → length q.sig.kinds ≤ 32
few_kinds [] o f q e = none_some q e
few_kinds (p ∷ ps) o zero q e = let z : p ≡ q = cc in rw (sym z) (leb-true (length p.sig.kinds) 32 (and_parts (leb (length p.sig.kinds) 32) _ (and_parts (ok_sig p.sig) _ (and_parts (ok_p p) _ o).0).0).0)
few_kinds (p ∷ ps) o (suc f) q e = few_kinds ps (and_parts (ok_p p) _ o).1 f q e

-- strict steps are steps
strict_steps : (g : Prog) (o : ok_ps g ≡ true) (k : kept g ≡ true) (i : ℕ) (m : Mach) (v : Values.Mach) → Safe g m v → strictly g i m ≡ steps first_free g i m
strict_steps g o k zero m v h = refl
strict_steps g o k (suc i) m v h = ap (strictly g i) (sym (safe_strict g o k first_free first_chooses m v h)) ∙ strict_steps g o k i (step first_free g m) (Values.step g v) (step_safe g o k first_free first_chooses m v h)

module _ {g : Prog} {cells d turns k : ℕ} {c : Control} {m : Memory} (h : Starts g cells d turns k c m) where
  all_steps : strictly g k (start g cells d turns) ≡ stopped (run g cells d turns)
  all_steps = strict_steps g h.fine h.keeps k (start g cells d turns) _ (always_safe g h.fine h.keeps first_free first_chooses cells d turns 0) ∙ machine_runs first_free g cells d turns k h.steps

  well : NoFault (run g cells d turns)
  well f e = faultless machine_runs g cells d turns f h.fine h.keeps e

  too_deep : c.depth ≡ 0 → run g cells d turns ≡ deep
  too_deep z = same_stop g k (start g cells d turns) deep (run g cells d turns) all_steps (ap (λ y. call_m g y 0 [] (at_start cells turns) []) (sym h.depth ∙ z))

  -- the first procedure
  pub record Begins : Type 0 where
    pub e : ℕ
    pub proc : Proc
    pub depth : d ≡ suc e
    pub there : slice_get g 0 ≡ Some proc
    pub is : start g cells d turns ≡ turn_m turns (at_start cells turns) (λ u. going e proc.sig (push proc.body []) (opening proc.sig [] u) [])

  pub begins : (c.depth ≡ 0 → ⊥) → Begins
  begins nz = go d refl (slice_get g 0) refl
    where
      go : (y : ℕ) → d ≡ y → (o : Option Proc) → slice_get g 0 ≡ o → Begins
      go zero de o i = absurd (nz (h.depth ∙ de))
      go (suc e) de None i = absurd (well 4 (same_stop g k (start g cells d turns) (fault 4) (run g cells d turns) all_steps (ap (λ y. call_m g y 0 [] (at_start cells turns) []) de ∙ ap (λ o. enter_m o (λ q. turn_m turns (at_start cells turns) (λ u. going e q.sig (push q.body []) (opening q.sig [] u) []))) i)))
      go (suc e) de (Some q) i = record { e = e; proc = q; depth = de; there = i; is = ap (λ y. call_m g y 0 [] (at_start cells turns) []) de ∙ ap (λ o. enter_m o (λ q. turn_m turns (at_start cells turns) (λ u. going e q.sig (push q.body []) (opening q.sig [] u) []))) i }

  no_turns : (c.depth ≡ 0 → ⊥) → c.turns ≡ 0 → run g cells d turns ≡ spent
  no_turns nz z = same_stop g k (start g cells d turns) spent (run g cells d turns) all_steps ((begins nz).is ∙ turn_off turns (at_start cells turns) _ (sym h.turns ∙ z))

  module _ (nz : c.depth ≡ 0 → ⊥) (size : c.size ≡ length m.frames) where
    row : ProcAt c.code 0 (begins nz).proc
    row = h.linked 0 (begins nz).proc (begins nz).there

    few : length (begins nz).proc.sig.kinds ≤ 32
    few = few_kinds g h.fine 0 (begins nz).proc (begins nz).there

    two_frames : c.base + 80 ≤ length m.frames
    two_frames = omega (arith, h.base, h.room, (begins nz).depth, size)

    pub can_open : (8 ≤ length c.code.procs) × (0 < c.depth) × (c.base + 40 + get_or c.code.procs 1 0 ≤ length m.frames)
    can_open = (row.room, omega (arith, nz), omega (arith, row.many, few, two_frames))

    shown_none : Shows c.output []
    shown_none = subst (λ b. Shown b c.output.shown c.output.count []) (sym h.over) (rw h.count refl, omega (arith, h.count))

    begun : {m₃ : Memory} → (c.turns ≡ 0 → ⊥) → Blanked (c.base + 40) 0 (get_or c.code.procs 1 0) m m₃
        → Runs g k (entered (with_turns c (c.turns - 1)) 0 m.frames) m₃ (begins nz).e (begins nz).proc.sig (push (begins nz).proc.body []) (opening (begins nz).proc.sig [] (with_left (at_start cells turns) (c.turns - 1))) [] (run g cells d turns)
    begun {m₃} nt b =
        record {
          rep = opened_rep (with_turns c (c.turns - 1)) {vs = []} (with_left (at_start cells turns) (c.turns - 1)) row few (omega arith) refl two_frames (record { room = omega (arith, two_frames); each = λ x l. absurd (omega arith) })
              h.heap shown_none refl b
              h.linked (few_kinds g h.fine) (λ f q i. (sound g h.fine h.keeps f q i).shape.fits) (h.depth ∙ (begins nz).depth) (omega (arith, h.base, h.room, (begins nz).depth)) [] (omega (arith, h.small, (begins nz).depth)) (omega (arith, h.base));
          steps = subst (λ (z : Mach). strictly g k z ≡ stopped (run g cells d turns)) ((begins nz).is ∙ turn_on turns (at_start cells turns) _ (c.turns - 1) (omega (arith, h.turns, nt))) all_steps;
          well = well;
        }

module _ {k : ℕ} {c : Control} {m : Memory} where
  pub run_spent : (c.depth ≡ 0 → ⊥) → c.turns ≡ 0 → Ran k c m c (Err Spent)
  run_spent nz z g cells d turns h = no_turns h nz z

  module _ (nz : c.depth ≡ 0 → ⊥) (size : c.size ≡ length m.frames) where
    pub run_open : CanStart k c m → (8 ≤ length c.code.procs) × (0 < c.depth) × (c.base + 40 + get_or c.code.procs 1 0 ≤ length m.frames)
    run_open s = can_open s.starts nz size

    module _ {c₁ : Control} {m₁ : Memory} (nt : c.turns ≡ 0 → ⊥) (o : Opened (with_turns c (c.turns - 1)) m 0 0 c₁ m₁) where
      pub run_can : CanStart k c m → CanRun k c₁ m₁
      run_can s = rw o.here (record { prog = s.prog; depth = _; sig = _; todo = _; state = _; callers = _; outcome = _; runs = begun s.starts nz size nt o.blank })

      pub run_end : (c₂ : Control) (r : Result ℕ Halt) → CameOut k c₁ m₁ c₂ r → Ran k c m c₂ r
      run_end c₂ r out g cells d turns h = (rw o.here at out) g _ _ _ _ _ _ (begun h nz size nt o.blank)
