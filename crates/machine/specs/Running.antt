-- A step of the machine, and whole runs of it.
use Rattle.std.specs.Prelude.{◌≡◌, ℕ, zero, suc, ◌+◌, ◌*◌, ◌^◌, ◌<◌, ◌≤◌, true, false, List, [], ◌∷◌, length, replicate, Ok, Err, Result, ◌≢◌}
use Rattle.owned.specs.Program.{S, Sig, Prog}
use Rattle.owned.specs.Runs.{first_free, n, free, St, R, fine, fault, full, spent, deep, run}
use Rattle.owned.specs.Kept.{kept}
use Rattle.owned.specs.Rows.{row_ps, ok_ps}
use Rattle.linker.specs.Code.{Linked}
use Rattle.owned.specs.Machine.{Frame, Mach, going, stopped}
use Rattle.machine.specs.declared.machine.Halt.{Halt}
use Rattle.machine.specs.declared.machine.Halt.TheVariants.{Full, Spent, Deep}
use Rattle.machine.specs.declared.machine.Progress.{Progress}
use Rattle.machine.specs.declared.machine.Progress.TheVariants as progress
use Rattle.machine.specs.Memory.{Control, Memory}
use Rattle.machine.specs.Represents.{Heap, Shows, Represents}
use Rattle.owned.specs.Strict.{strict}
use Rattle.machine.specs.Operations.{NoFault}
use Rattle.machine.specs.Steps.{Going, After}

-- a run that goes on, and whose next step does not come to a fault
pub record Steps (g : Prog) (c : Control) (m : Memory) (d : ℕ) (p : Sig) (ss : List S) (s : St) (fs : List Frame) : Type 0 where
  pub rep : Represents g c m d p ss s fs
  pub well : (f : ℕ) → strict first_free g (going d p ss s fs) ≢ stopped (fault f)

pub record CanAdvance (c : Control) (m : Memory) : Type 0 where
  pub prog : Prog
  pub depth : ℕ
  pub sig : Sig
  pub todo : List S
  pub state : St
  pub callers : List Frame
  pub steps : Steps prog c m depth sig todo state callers

-- how it came out: a number as the result, the numbers shown, and the turns left
pub record Done (c : Control) (w : ℕ) (r : R) : Type 0 where
  pub end : St
  pub is : r ≡ fine end
  pub result : end.vars ≡ n w ∷ []
  pub shown : Shows c.output end.shown
  pub left : c.turns ≡ end.left

-- what comes of a step: the run goes on, or is done, or stops
abbrev pub ComesTo : Prog → Control → Memory → Mach → Result Progress Halt → Type 0
ComesTo g c m w (Ok (progress.Going q)) = Going g c m w
ComesTo g c m w (Ok (progress.Done k)) = (r : R) × (w ≡ stopped r) × Done c k r
ComesTo g c m w (Err h) = After g c m w (Err h)

abbrev pub Advanced : Control → Memory → Control → Memory → Result Progress Halt → Type 0
Advanced c m c₁ m₁ o = (g : Prog) (d : ℕ) (p : Sig) (ss : List S) (s : St) (fs : List Frame) → Steps g c m d p ss s fs → ComesTo g c₁ m₁ (strict first_free g (going d p ss s fs)) o

-- where it goes on
abbrev pub Onward : Control → Result Progress Halt → Type 0
Onward c (Ok (progress.Going q)) = q ≡ c.pos
Onward c (Ok (progress.Done k)) = Unit {0}
Onward c (Err h) = Unit {0}

-- so many strict steps
abbrev pub strictly : Prog → ℕ → Mach → Mach
strictly g zero w = w
strictly g (suc i) w = strictly g i (strict first_free g w)

-- a run that stops with r within so many steps
pub record Runs (g : Prog) (k : ℕ) (c : Control) (m : Memory) (d : ℕ) (p : Sig) (ss : List S) (s : St) (fs : List Frame) (r : R) : Type 0 where
  pub rep : Represents g c m d p ss s fs
  pub steps : strictly g k (going d p ss s fs) ≡ stopped r
  pub well : NoFault r

pub record CanRun (k : ℕ) (c : Control) (m : Memory) : Type 0 where
  pub prog : Prog
  pub depth : ℕ
  pub sig : Sig
  pub todo : List S
  pub state : St
  pub callers : List Frame
  pub outcome : R
  pub runs : Runs prog k c m depth sig todo state callers outcome

abbrev pub Came : Control → R → Result ℕ Halt → Type 0
Came c r (Ok w) = Done c w r
Came c r (Err Full) = r ≡ full
Came c r (Err Spent) = r ≡ spent
Came c r (Err Deep) = r ≡ deep

abbrev pub CameOut : ℕ → Control → Memory → Control → Result ℕ Halt → Type 0
CameOut k c m c₁ o = (g : Prog) (d : ℕ) (p : Sig) (ss : List S) (s : St) (fs : List Frame) (r : R) → Runs g k c m d p ss s fs r → Came c₁ r o

-- A machine that stands before the run of g with a cells, depth d and t turns: g keeps the rules and is in the
-- tables, all cells are free, nothing is shown, and there is room for the frames and for so many steps.
pub record Starts (g : Prog) (a d t k : ℕ) (c : Control) (m : Memory) : Type 0 where
  pub fine : ok_ps g ≡ true
  pub keeps : kept g ≡ true
  pub linked : Linked c.code g
  pub base : c.base ≡ 0
  pub depth : c.depth ≡ d
  pub small : d < 2 ^ 32
  pub turns : c.turns ≡ t
  pub heap : Heap m.store (replicate a free)
  pub count : c.output.count ≡ 0
  pub over : c.output.over ≡ false
  pub room : 40 * (d + 1) ≤ c.size
  pub steps : t * suc (length (row_ps g)) + 1 ≤ k

pub record CanStart (k : ℕ) (c : Control) (m : Memory) : Type 0 where
  pub prog : Prog
  pub cells : ℕ
  pub depth : ℕ
  pub turns : ℕ
  pub starts : Starts prog cells depth turns k c m

-- the outcome is that of the definition, whichever program, cells, depth and turns the machine stands before
abbrev pub Ran : ℕ → Control → Memory → Control → Result ℕ Halt → Type 0
Ran k c m c₁ o = (g : Prog) (cells depth turns : ℕ) → Starts g cells depth turns k c m → Came c₁ (run g cells depth turns) o
