-- Whole runs: each turn of the loop takes a step, and as many steps are left as bring the run to its end.
use Rattle.std.proofs.Common.{◌≡◌, ℕ, zero, suc, ◌+◌, ◌-◌, ◌<◌, List, drop, Ok, Err, sym, refl, ap, ◌∙◌, subst, arith}
use Rattle.std.proofs.lemmas.List.{drop-drop}
use Rattle.owned.specs.Program.{S, Sig, Prog}
use Rattle.owned.specs.Runs.{first_free, St, R, fault, full, spent, deep}
use Rattle.owned.specs.Machine.{Frame, Mach, going, stopped}
use Rattle.machine.specs.declared.machine.Halt.{Halt}
use Rattle.machine.specs.declared.machine.Halt.TheVariants.{Full, Spent, Deep}
use Rattle.machine.specs.declared.machine.Progress.TheVariants as progress
use Rattle.machine.specs.Memory.{Control, Memory}
use Rattle.owned.specs.Strict.{strict}
use Rattle.machine.specs.Steps.{Kept}
use Rattle.machine.specs.Running.{strictly, Steps, CanAdvance, Advanced, Done, Runs, CanRun, CameOut}

still : (g : Prog) (k : ℕ) (r : R) → strictly g k (stopped r) ≡ stopped r
still g zero r = refl
still g (suc k) r = still g k r

-- a machine that stopped stays so
pub same_stop : (g : Prog) (k : ℕ) (w : Mach) (q r : R) → strictly g k w ≡ stopped r → w ≡ stopped q → r ≡ q
same_stop g k w q r e f = let h : strictly g k (stopped q) ≡ stopped r = rw f at e in let i : stopped q ≡ stopped r = sym (still g k q) ∙ h in cc

-- a step is left
some_left : (g : Prog) (k d : ℕ) (p : Sig) (ss : List S) (s : St) (fs : List Frame) (r : R) → strictly g k (going d p ss s fs) ≡ stopped r → (0 < k) × (strictly g (k - 1) (strict first_free g (going d p ss s fs)) ≡ stopped r)
some_left g zero d p ss s fs r e = let z : ◌≡◌ {A = ℕ} 0 1 = cc in absurd (omega arith)
some_left g (suc k) d p ss s fs r e = let i : suc k - 1 ≡ k = omega arith in (omega arith, rw i e)

-- what is left of a run
pub record Still (g : Prog) (k : ℕ) (c : Control) (m : Memory) (r : R) : Type 0 where
  pub d : ℕ
  pub p : Sig
  pub todo : List S
  pub s : St
  pub fs : List Frame
  pub runs : Runs g k c m d p todo s fs r

pub record GoingOn (k : ℕ) (c : Control) (m : Memory) (k₁ : ℕ) (c₁ : Control) (m₁ : Memory) : Type 0 where
  pub carried : (g : Prog) (d : ℕ) (p : Sig) (ss : List S) (s : St) (fs : List Frame) (r : R) → Runs g k c m d p ss s fs r → Still g k₁ c₁ m₁ r
  pub kept : Kept c c₁

pub kept_on : {c c₁ c₂ : Control} → Kept c c₁ → Kept c₁ c₂ → Kept c c₂
kept_on {c} {c₁} {c₂} a b = record { out = b.out ∙ a.out; long = b.long ∙ a.long; more = omega (arith, a.more, b.more); past = b.past ∙ later }
  where
    later : drop c₂.output.count c₁.output.shown ≡ drop c₂.output.count c.output.shown
    later =
        let n = c₂.output.count - c₁.output.count in
        let z : c₁.output.count + n ≡ c₂.output.count = omega (arith, b.more) in
        subst (λ i. drop i c₁.output.shown ≡ drop i c.output.shown) z (sym (drop-drop n c₁.output.count c₁.output.shown) ∙ ap (drop n) a.past ∙ drop-drop n c₁.output.count c.output.shown)

module _ {g : Prog} {k : ℕ} {c : Control} {m : Memory} {r : R} (h : Still g k c m r) where
  next : (0 < k) × (strictly g (k - 1) (strict first_free g (going h.d h.p h.todo h.s h.fs)) ≡ stopped r)
  next = some_left g k h.d h.p h.todo h.s h.fs r h.runs.steps

  -- the run does not come to a fault, and so the step does not
  steps : Steps g c m h.d h.p h.todo h.s h.fs
  steps = record { rep = h.runs.rep; well = λ f e. h.runs.well f (same_stop g (k - 1) _ (fault f) r next.1 e) }

module _ {k k₁ : ℕ} {c c₁ : Control} {m m₁ : Memory} (h : GoingOn k c m k₁ c₁ m₁) where
  now : (w : CanRun k c m) → Still w.prog k₁ c₁ m₁ w.outcome
  now w = h.carried w.prog w.depth w.sig w.todo w.state w.callers w.outcome w.runs

  pub run_left : CanRun k c m → 0 < k₁
  run_left w = (next (now w)).0

  pub run_step : CanRun k c m → CanAdvance c₁ m₁
  run_step w = let s = now w in record { prog = w.prog; depth = s.d; sig = s.p; todo = s.todo; state = s.s; callers = s.fs; steps = steps s }

  pub run_again : {c₂ : Control} {m₂ : Memory} (q : ℕ) → Advanced c₁ m₁ c₂ m₂ (Ok (progress.Going q)) → Kept c₁ c₂ → GoingOn k c m (k₁ - 1) c₂ m₂
  run_again q st kp = record {
    carried = λ g d p ss s fs r o. (
        let u = h.carried g d p ss s fs r o in
        let n = st g u.d u.p u.todo u.s u.fs (steps u) in
        record { d = n.d; p = n.p; todo = n.todo; s = n.s; fs = n.fs; runs = record { rep = n.rep; steps = rw n.is at (next u).1; well = u.runs.well } });
    kept = kept_on h.kept kp;
  }

  pub run_done : (c₂ : Control) (m₂ : Memory) (w : ℕ) → Advanced c₁ m₁ c₂ m₂ (Ok (progress.Done w)) → CameOut k c m c₂ (Ok w)
  run_done c₂ m₂ w st g d p ss s fs r q =
      let u = h.carried g d p ss s fs r q in
      let n = st g u.d u.p u.todo u.s u.fs (steps u) in
      subst (Done c₂ w) (sym (same_stop g (k₁ - 1) _ n.0 r (next u).1 n.1)) n.2

  pub run_halt : (c₂ : Control) (m₂ : Memory) (f : Halt) → Advanced c₁ m₁ c₂ m₂ (Err f) → CameOut k c m c₂ (Err f)
  run_halt c₂ m₂ Full st g d p ss s fs r q = let u = h.carried g d p ss s fs r q in same_stop g (k₁ - 1) _ full r (next u).1 (st g u.d u.p u.todo u.s u.fs (steps u))
  run_halt c₂ m₂ Spent st g d p ss s fs r q = let u = h.carried g d p ss s fs r q in same_stop g (k₁ - 1) _ spent r (next u).1 (st g u.d u.p u.todo u.s u.fs (steps u))
  run_halt c₂ m₂ Deep st g d p ss s fs r q = let u = h.carried g d p ss s fs r q in same_stop g (k₁ - 1) _ deep r (next u).1 (st g u.d u.p u.todo u.s u.fs (steps u))
