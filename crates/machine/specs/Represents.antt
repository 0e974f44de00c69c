-- What the words in memory stand for.
use Rattle.std.specs.Prelude.{◌≡◌, ℕ, ◌+◌, ◌*◌, ◌^◌, ◌<◌, ◌≤◌, Bool, true, false, List, [], ◌∷◌, ◌++◌, length, get_or, take, drop, Some, slice_index, slice_index_or}
use Rattle.std.specs.List.{slice_get}
use Rattle.owned.specs.Program.{S, Sig, Proc, Prog}
use Rattle.owned.specs.Runs.{Val, n, at, nothing, Cell, free, holds, St}
use Rattle.owned.specs.Machine.{Frame}
use Rattle.owned.specs.FreeList.{FreeList}
use Rattle.linker.specs.Code.{Code, Pends, ProcAt}
use Rattle.machine.specs.Memory.{Numbers, Control, Store, Memory}

-- a value in a word: a number itself, a box by its cell's number and one more, nothing as 0
abbrev pub Means : Val → ℕ → Type 0
Means (n k) w = w ≡ k
Means (at a b) w = w ≡ a + 1
Means nothing w = w ≡ 0

-- variables in words, from place b on
pub record Vars (vs : List Val) (ws : List ℕ) (b : ℕ) : Type 0 where
  pub room : b + length vs ≤ length ws
  pub each : (x : ℕ) → x < length vs → Means (slice_index_or vs x nothing) (slice_index ws (b + x))

-- so many cells: those in use by what they hold, the others by the free list
pub record Heap (s : Store) (cs : List Cell) : Type 0 where
  pub list : FreeList s.links s.head cs
  pub many : length cs ≡ s.many
  pub fits : s.many < 2 ^ 32
  pub room : s.many ≤ length s.contents
  pub content : (a b : ℕ) (v : Val) → slice_index_or cs a free ≡ holds b v → Means v (slice_index s.contents a)

-- numbers shown in the first words, or more of them than there are words
abbrev pub Shown : Bool → List ℕ → ℕ → List ℕ → Type 0
Shown false ws k l = (take k ws ≡ l) × (k ≤ length ws)
Shown true ws k l = (length ws < length l) × (length ws ≤ k)

abbrev pub Shows : Numbers → List ℕ → Type 0
Shows o l = Shown o.over o.shown o.count l

-- the state of the procedure that is running
pub record State (c : Control) (m : Memory) (p : Sig) (s : St) : Type 0 where
  pub kinds : (rest : List ℕ) × (drop c.kinds c.code.rows ≡ p.kinds ++ rest)
  pub few : length p.kinds ≤ 32
  pub vars : Vars s.vars m.frames c.base
  pub long : length s.vars ≡ length p.kinds
  pub cells : Heap m.store s.cells
  pub shown : Shows c.output s.shown
  pub turns : c.turns ≡ s.left

-- no pair is pending: it is pushed as its two statements
abbrev pub single : S → Bool
single S.skip = true
single (S.then a b) = false
single (S.set x e) = true
single (S.box x y) = true
single (S.unbox x y) = true
single (S.look x y) = true
single (S.fill x y) = true
single (S.move x y) = true
single (S.drop x) = true
single (S.if e a b) = true
single (S.while e a) = true
single (S.call x f as₁) = true
single (S.show e) = true

abbrev pub Singles : List S → Type 0
Singles [] = Unit {0}
Singles (a ∷ ss) = (single a ≡ true) × Singles ss

-- a procedure by its number, with some body
abbrev pub Row : Code → ℕ → Sig → Type 0
Row c f p = (b : S) × ProcAt c f (record { sig = p; body = b })

-- a caller that waits, in the frame at place b of the words ws
pub record FrameAt (c : Code) (ws : List ℕ) (b : ℕ) (f : Frame) : Type 0 where
  pub pends : Pends c (slice_index ws (b + 32)) f.todo
  pub singles : Singles f.todo
  pub row : Row c (slice_index ws (b + 33)) f.sig
  pub few : length f.sig.kinds ≤ 32
  pub vars : Vars f.vars ws b
  pub long : length f.vars ≡ length f.sig.kinds
  pub dest : get_or ws (b + 34) 0 ≡ f.dest

-- The callers, the innermost just below place b. The first procedure's frame is the second one: the words of the
-- first are nobody's.
abbrev pub Frames : Code → List ℕ → ℕ → List Frame → Type 0
Frames c ws b [] = b ≡ 40
Frames c ws b (f ∷ fs) = (a : ℕ) × (b ≡ a + 40) × FrameAt c ws a f × Frames c ws a fs

-- what is around the running procedure: the tables of the whole program, the callers, and room for d more calls;
-- total: open calls and those that may be opened are counted in a word
pub record Context (g : Prog) (c : Control) (d : ℕ) (fs : List Frame) : Type 0 where
  pub procs : (f : ℕ) (q : Proc) → slice_get g f ≡ Some q → ProcAt c.code f q
  pub few : (f : ℕ) (q : Proc) → slice_get g f ≡ Some q → length q.sig.kinds ≤ 32
  pub args : (f : ℕ) (q : Proc) → slice_get g f ≡ Some q → length q.sig.args ≤ length q.sig.kinds
  pub frames : Frames c.code c.below c.base fs
  pub depth : c.depth ≡ d
  pub room : c.base + 40 * (d + 1) ≤ c.size
  pub below : length c.below ≡ c.base
  pub total : d + length fs < 2 ^ 32

-- a run that goes on
pub record Represents (g : Prog) (c : Control) (m : Memory) (d : ℕ) (p : Sig) (ss : List S) (s : St) (fs : List Frame) : Type 0 where
  pub state : State c m p s
  pub pends : Pends c.code c.pos ss
  pub singles : Singles ss
  pub row : Row c.code c.procedure p
  pub context : Context g c d fs
