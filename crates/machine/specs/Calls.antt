-- What the parts of a call and of a return ask for and do.
use Rattle.std.specs.Prelude.{◌≡◌, ℕ, ◌+◌, ◌*◌, ◌<◌, ◌≤◌, true, List, [], ◌∷◌, ◌++◌, length, drop, ◌≢◌, slice_index}
use Rattle.std.specs.List.{slice_get}
use Rattle.owned.specs.Program.{Arg, Sig, Prog, kind}
use Rattle.owned.specs.Rows.{row_as}
use Rattle.owned.specs.Runs.{first_free, Val, St, R, fine, fault, took, stays}
use Rattle.owned.specs.Machine.{Frame, going, stopped}
use Rattle.machine.specs.Memory.{Control, Store, Memory, set_word, with_frames, entered}
use Rattle.machine.specs.Represents.{Means, Vars, Heap, State, Row, Represents}
use Rattle.machine.specs.Operations.{NoFault}
use Rattle.owned.specs.Strict.{pass_one, pass, closes, strict}
use Rattle.machine.specs.Steps.{Going}

-- an argument handed over or lent
pub record PassesOne (c : Control) (m : Memory) (x l : ℕ) (p : Sig) (s : St) (v : Val) (t : St) : Type 0 where
  pub state : State c m p s
  pub passes : pass_one l (kind p x) x s ≡ took v t

abbrev pub CanPassOne : Control → Memory → ℕ → ℕ → Type 0
CanPassOne c m x l = (p : Sig) × (s : St) × (v : Val) × (t : St) × PassesOne c m x l p s v t

pub record PassedOne (c : Control) (m : Memory) (x l : ℕ) (c₁ : Control) (m₁ : Memory) (w : ℕ) : Type 0 where
  pub here : c₁ ≡ c
  pub long : length m₁.frames ≡ length m.frames
  pub beyond : (i : ℕ) → 40 ≤ i → slice_index m₁.frames (c.base + i) ≡ slice_index m.frames (c.base + i)
  pub state : (p : Sig) (s : St) (v : Val) (t : St) → PassesOne c m x l p s v t → State c m₁ p t × Means v w

-- the arguments that stand from place i on, n of them, into the next frame
pub record Passes (c : Control) (m : Memory) (i k : ℕ) (p : Sig) (s : St) (bs : List Arg) (vs : List Val) (t : St) : Type 0 where
  pub state : State c m p s
  pub args : (rest : List ℕ) × (drop i c.code.rows ≡ row_as bs ++ rest)
  pub many : length bs ≡ k
  pub passes : pass p bs s ≡ took vs t

pub record CanPass (c : Control) (m : Memory) (i k : ℕ) : Type 0 where
  pub sig : Sig
  pub before : St
  pub args : List Arg
  pub vals : List Val
  pub after : St
  pub passes : Passes c m i k sig before args vals after
  pub room : c.base + 40 + k ≤ length m.frames

pub record Passed (c : Control) (m : Memory) (i k : ℕ) (c₁ : Control) (m₁ : Memory) : Type 0 where
  pub here : c₁ ≡ c
  pub long : length m₁.frames ≡ length m.frames
  pub state : (p : Sig) (s : St) (bs : List Arg) (vs : List Val) (t : St) → Passes c m i k p s bs vs t → State c m₁ p t × Vars vs m₁.frames (c.base + 40)

-- a caller that waits: where it goes on, its number, and where the result goes
abbrev pub suspended : Control → Memory → ℕ → Memory
suspended c m x = set_word (set_word (set_word m (c.base + 32) (slice_index c.code.follow c.pos)) (c.base + 33) c.procedure) (c.base + 34) x

-- the variables of the frame at b from n on are 0, up to k
pub record Blanked (b n k : ℕ) (m m₁ : Memory) : Type 0 where
  pub same : m₁ ≡ with_frames m m₁.frames
  pub long : length m₁.frames ≡ length m.frames
  pub kept : (i : ℕ) → i < n → slice_index m₁.frames (b + i) ≡ slice_index m.frames (b + i)
  pub zeros : (i : ℕ) → n ≤ i → i < k → slice_index m₁.frames (b + i) ≡ 0

-- a procedure entered
pub record Opened (c : Control) (m : Memory) (f n : ℕ) (c₁ : Control) (m₁ : Memory) : Type 0 where
  pub here : c₁ ≡ entered c f m.frames
  pub blank : Blanked (c.base + 40) n (slice_index c.code.procs (8 * f + 1)) m m₁

-- the end of a procedure
pub record Closes (c : Control) (m : Memory) (p : Sig) (s : St) (r : R) : Type 0 where
  pub state : State c m p s
  pub row : Row c.code c.procedure p
  pub closes : closes p 0 p.kinds s ≡ r
  pub well : NoFault r

pub record CanClose (c : Control) (m : Memory) : Type 0 where
  pub sig : Sig
  pub state : St
  pub result : R
  pub closes : Closes c m sig state result
  pub room : 8 * c.procedure + 8 ≤ length c.code.procs

-- cells are given back, and the result and lent variables stay
pub record ClosedTo (m : Store) (p : Sig) (s : St) (r : R) : Type 0 where
  pub end : St
  pub is : r ≡ fine end
  pub heap : Heap m end.cells
  pub shown : end.shown ≡ s.shown
  pub left : end.left ≡ s.left
  pub kept : (y : ℕ) → stays p y ≡ true → slice_get end.vars y ≡ slice_get s.vars y

pub record Closed (c : Control) (m : Memory) (c₁ : Control) (m₁ : Memory) : Type 0 where
  pub here : c₁ ≡ c
  pub frames : m₁.frames ≡ m.frames
  pub end : (p : Sig) (s : St) (r : R) → Closes c m p s r → ClosedTo m₁.store p s r

-- back to the caller
pub record Leaves (g : Prog) (c : Control) (m : Memory) (d : ℕ) (p : Sig) (s : St) (f : Frame) (fs : List Frame) : Type 0 where
  pub rep : Represents g c m d p [] s (f ∷ fs)
  pub well : (x : ℕ) → strict first_free g (going d p [] s (f ∷ fs)) ≢ stopped (fault x)

pub record CanLeave (c : Control) (m : Memory) : Type 0 where
  pub prog : Prog
  pub depth : ℕ
  pub sig : Sig
  pub state : St
  pub caller : Frame
  pub callers : List Frame
  pub leaves : Leaves prog c m depth sig state caller callers

abbrev pub Left : Control → Memory → Control → Memory → Type 0
Left c m c₁ m₁ = (g : Prog) (d : ℕ) (p : Sig) (s : St) (f : Frame) (fs : List Frame) → Leaves g c m d p s f fs → Going g c₁ m₁ (strict first_free g (going d p [] s (f ∷ fs)))
