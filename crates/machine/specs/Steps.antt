-- What a step of the machine asks for and does.
use Rattle.std.specs.Prelude.{◌≡◌, ℕ, ◌<◌, ◌≤◌, List, ◌∷◌, length, drop, Ok, Err, Result, ◌≢◌}
use Rattle.owned.specs.Program.{E, Arg, S, Sig, Prog}
use Rattle.owned.specs.Runs.{first_free, St, fault, full, spent, deep}
use Rattle.owned.specs.Machine.{Frame, Mach, going, stopped}
use Rattle.machine.specs.declared.machine.Halt.{Halt}
use Rattle.machine.specs.declared.machine.Halt.TheVariants.{Full, Spent, Deep}
use Rattle.machine.specs.Memory.{Control, Memory}
use Rattle.machine.specs.Represents.{Represents}
use Rattle.owned.specs.Strict.{strict_s}

-- a machine that goes on, as memory has it
pub record Going (g : Prog) (c : Control) (m : Memory) (w : Mach) : Type 0 where
  pub d : ℕ
  pub p : Sig
  pub todo : List S
  pub s : St
  pub fs : List Frame
  pub is : w ≡ going d p todo s fs
  pub rep : Represents g c m d p todo s fs

-- what comes of a step
abbrev pub After : Prog → Control → Memory → Mach → Result (Unit {0}) Halt → Type 0
After g c m w (Ok u) = Going g c m w
After g c m w (Err Full) = w ≡ stopped full
After g c m w (Err Spent) = w ≡ stopped spent
After g c m w (Err Deep) = w ≡ stopped deep

-- the same of a step that gives the place where the machine goes on, and that place
abbrev pub halted : Result ℕ Halt → Result (Unit {0}) Halt
halted (Ok q) = Ok tt
halted (Err h) = Err h

abbrev pub Next : Control → Result ℕ Halt → Type 0
Next c (Ok q) = q ≡ c.pos
Next c (Err h) = Unit {0}

-- a statement a that comes next, and does not come to a fault
pub record Ready (g : Prog) (c : Control) (m : Memory) (d : ℕ) (p : Sig) (a : S) (ss : List S) (s : St) (fs : List Frame) : Type 0 where
  pub rep : Represents g c m d p (a ∷ ss) s fs
  pub well : (f : ℕ) → strict_s first_free g d p a ss s fs ≢ stopped (fault f)

-- one of the statements that are made by `a` comes next
pub record CanStep (A : Type 0) (a : A → S) (c : Control) (m : Memory) : Type 0 where
  pub prog : Prog
  pub depth : ℕ
  pub sig : Sig
  pub parts : A
  pub rest : List S
  pub state : St
  pub callers : List Frame
  pub ready : Ready prog c m depth sig (a parts) rest state callers
  pub here : c.pos < length c.code.rows
  pub room : c.pos < length c.code.follow

abbrev pub Stepped : (A : Type 0) (a : A → S) → Control → Memory → Control → Memory → Result (Unit {0}) Halt → Type 0
Stepped A a c m c₁ m₁ r = (g : Prog) (d : ℕ) (p : Sig) (v : A) (ss : List S) (s : St) (fs : List Frame) → Ready g c m d p (a v) ss s fs → After g c₁ m₁ (strict_s first_free g d p (a v) ss s fs) r

-- The numbers shown before stay, and so do the words past those shown.
pub record Kept (c c₁ : Control) : Type 0 where
  pub out : c₁.output.out ≡ c.output.out
  pub long : length c₁.output.shown ≡ length c.output.shown
  pub more : c.output.count ≤ c₁.output.count
  pub past : drop c₁.output.count c₁.output.shown ≡ drop c₁.output.count c.output.shown

-- any statement, an `if`, a `while`, and a call, by their parts
abbrev pub any_s : S → S
any_s a = a

abbrev pub if_s : E × S × S → S
if_s v = S.if v.0 v.1 v.2

abbrev pub while_s : E × S → S
while_s v = S.while v.0 v.1

abbrev pub call_s : ℕ → ℕ → List Arg → S
call_s x f as₁ = S.call x f as₁
