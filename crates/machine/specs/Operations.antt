-- What the operations on variables and cells ask for and do. Memory does not determine the state that it stands for,
-- so each asks for some state, and says of every one what comes of it.
use Rattle.std.specs.Prelude.{◌≡◌, ℕ, zero, suc, ◌+◌, ◌-◌, ◌*◌, ◌%◌, ◌^◌, ◌<◌, ◌≤◌, Bool, ◌&&◌, ◌||◌, List, ◌++◌, length, drop, Some, None, Ok, Err, Option, Result, ◌≢◌, nat_le, nat_lt, slice_index, slice_set}
use Rattle.machine.specs.declared.machine.Halt.{Halt}
use Rattle.machine.specs.declared.machine.Halt.TheVariants.{Full, Spent, Deep}
use Rattle.owned.specs.Program.{E, S, Sig, bit, kind}
use Rattle.owned.specs.Runs.{first_free, Val, at, Cell, free, holds, St, R, fine, fault, full, ok, value, get, took, first}
use Rattle.owned.specs.Rows.{row_e}
use Rattle.owned.specs.FreeList.{InUse}
use Rattle.linker.specs.Code.{Code, AtE}
use Rattle.machine.specs.Memory.{Control, Store, Memory, with_output, shows}
use Rattle.machine.specs.Represents.{Means, Heap, State}
use Rattle.owned.specs.Strict.{freed, fetched, place, perform}

-- a cell given back
pub record CellFreed (m : Store) (a : ℕ) (m₁ : Store) : Type 0 where
  pub many : m₁.many ≡ m.many
  pub contents : m₁.contents ≡ m.contents
  pub heap : (cs : List Cell) → Heap m cs → InUse cs a → Heap m₁ (slice_set cs a free)

-- a cell for a new box, whose word is the result
pub record CellMade (m : Store) (w : ℕ) (m₁ : Store) (x : ℕ) (cs : List Cell) (v : Val) : Type 0 where
  pub cell : ℕ
  pub word : x ≡ cell + 1
  pub chosen : first cs 0 ≡ Some cell
  pub heap : (b : ℕ) → Heap m₁ (slice_set cs cell (holds b v))

abbrev pub Allocated : Store → ℕ → Store → Option ℕ → Type 0
Allocated m w m₁ None = (m₁ ≡ m) × ((cs : List Cell) → Heap m cs → first cs 0 ≡ None)
Allocated m w m₁ (Some x) = (m₁.many ≡ m.many) × ((cs : List Cell) (v : Val) → Heap m cs → Means v w → CellMade m w m₁ x cs v)

-- a value v of kind k given back, which leaves the cells ds
pub record Releases (m : Store) (k w : ℕ) (v : Val) (cs ds : List Cell) : Type 0 where
  pub heap : Heap m cs
  pub means : Means v w
  pub freed : freed k v cs ≡ Some ds

abbrev pub CanRelease : Store → ℕ → ℕ → Type 0
CanRelease m k w = (v : Val) × (cs : List Cell) × (ds : List Cell) × Releases m k w v cs ds

pub record Released (m : Store) (k w : ℕ) (m₁ : Store) : Type 0 where
  pub many : m₁.many ≡ m.many
  pub contents : m₁.contents ≡ m.contents
  pub heap : (v : Val) (cs ds : List Cell) → Releases m k w v cs ds → Heap m₁ ds

-- a variable's value taken out
pub record Takes (c : Control) (m : Memory) (x : ℕ) (p : Sig) (s : St) (v : Val) (t : St) : Type 0 where
  pub state : State c m p s
  pub takes : fetched (kind p x) s x ≡ took v t

abbrev pub CanTake : Control → Memory → ℕ → Type 0
CanTake c m x = (p : Sig) × (s : St) × (v : Val) × (t : St) × Takes c m x p s v t

-- the words past the variables stay
pub record TookOut (c : Control) (m : Memory) (x : ℕ) (c₁ : Control) (m₁ : Memory) (w : ℕ) : Type 0 where
  pub here : c₁ ≡ c
  pub long : length m₁.frames ≡ length m.frames
  pub beyond : (i : ℕ) → 40 ≤ i → slice_index m₁.frames (c.base + i) ≡ slice_index m.frames (c.base + i)
  pub state : (p : Sig) (s : St) (v : Val) (t : St) → Takes c m x p s v t → State c m₁ p t × Means v w

-- a value put into a variable
pub record Puts (c : Control) (m : Memory) (x w : ℕ) (p : Sig) (s : St) (v : Val) (t : St) : Type 0 where
  pub state : State c m p s
  pub means : Means v w
  pub puts : place (kind p x) x v s ≡ fine t

abbrev pub CanPut : Control → Memory → ℕ → ℕ → Type 0
CanPut c m x w = (p : Sig) × (s : St) × (v : Val) × (t : St) × Puts c m x w p s v t

pub record PutIn (c : Control) (m : Memory) (x w : ℕ) (c₁ : Control) (m₁ : Memory) : Type 0 where
  pub here : c₁ ≡ c
  pub state : (p : Sig) (s : St) (v : Val) (t : St) → Puts c m x w p s v t → State c m₁ p t

-- the cell of the box in a variable
pub record Points (c : Control) (m : Memory) (x : ℕ) (p : Sig) (s : St) (a b : ℕ) : Type 0 where
  pub state : State c m p s
  pub points : get s x ≡ at a b

abbrev pub CanPoint : Control → Memory → ℕ → Type 0
CanPoint c m x = (p : Sig) × (s : St) × (a : ℕ) × (b : ℕ) × Points c m x p s a b

abbrev pub PointsAt : Control → Memory → ℕ → ℕ → Type 0
PointsAt c m x r = (p : Sig) (s : St) (a b : ℕ) → Points c m x p s a b → r ≡ a

-- an expression from place i on, in words and in the tables
pub record ExprAt (c : Code) (e : E) (i : ℕ) : Type 0 where
  pub words : (rest : List ℕ) × (drop i c.rows ≡ row_e e ++ rest)
  pub table : AtE c e i

-- an expression's value
pub record Evaluates (c : Control) (m : Memory) (i : ℕ) (p : Sig) (s : St) (e : E) (k : ℕ) : Type 0 where
  pub state : State c m p s
  pub expr : ExprAt c.code e i
  pub value : value s e ≡ ok k

pub record CanEvaluate (c : Control) (m : Memory) (i : ℕ) : Type 0 where
  pub sig : Sig
  pub state : St
  pub expr : E
  pub number : ℕ
  pub evaluates : Evaluates c m i sig state expr number
  pub here : i < length c.code.rows

abbrev pub Evaluated : Control → Memory → ℕ → ℕ → Type 0
Evaluated c m i r = (p : Sig) (s : St) (e : E) (k : ℕ) → Evaluates c m i p s e k → r ≡ k

-- the expression at a place has operands, and one of them has operands itself
abbrev pub nests : List ℕ → ℕ → Bool
nests ws i = nat_le 2 (slice_index ws i) && (nat_le 2 (slice_index ws (i + 1)) || nat_le 2 (slice_index ws (i + 3)))

-- two numbers put together, by the first word of the expression
abbrev pub combined : ℕ → ℕ → ℕ → ℕ
combined zero x y = 0
combined (suc zero) x y = 0
combined (suc (suc zero)) x y = (x + y) % 2 ^ 32
combined (suc (suc (suc zero))) x y = (x + 2 ^ 32 - y) % 2 ^ 32
combined (suc (suc (suc (suc zero)))) x y = x * y % 2 ^ 32
combined (suc (suc (suc (suc (suc w))))) x y = bit (nat_lt x y)

-- a statement that comes to no fault
abbrev pub NoFault : R → Type 0
NoFault r = (f : ℕ) → r ≢ fault f

pub record Does (c : Control) (m : Memory) (a : S) (p : Sig) (s : St) (r : R) : Type 0 where
  pub state : State c m p s
  pub does : perform first_free p a s ≡ r
  pub well : NoFault r

pub record Ended (c : Control) (m : Memory) (p : Sig) (r : R) : Type 0 where
  pub end : St
  pub is : r ≡ fine end
  pub state : State c m p end

abbrev pub CanDo : Control → Memory → S → Type 0
CanDo c m a = (p : Sig) × (s : St) × (r : R) × Does c m a p s r

pub record Did (c : Control) (m : Memory) (a : S) (c₁ : Control) (m₁ : Memory) : Type 0 where
  pub here : c₁ ≡ c
  pub state : (p : Sig) (s : St) (r : R) → Does c m a p s r → Ended c m₁ p r

-- with an expression that stands at a place
abbrev pub CanDoAt : Control → Memory → (E → S) → ℕ → Type 0
CanDoAt c m a i = (p : Sig) × (s : St) × (r : R) × (e : E) × Does c m (a e) p s r × ExprAt c.code e i

pub record DidAt (c : Control) (m : Memory) (a : E → S) (i : ℕ) (c₁ : Control) (m₁ : Memory) : Type 0 where
  pub here : c₁ ≡ c
  pub state : (p : Sig) (s : St) (r : R) (e : E) → Does c m (a e) p s r → ExprAt c.code e i → Ended c m₁ p r

-- a number shown, or one too many
pub record Showed (c : Control) (m : Memory) (i : ℕ) (c₁ : Control) (m₁ : Memory) : Type 0 where
  pub word : ℕ
  pub here : c₁ ≡ with_output c (shows c.output word)
  pub same : m₁ ≡ m
  pub state : (p : Sig) (s : St) (r : R) (e : E) → Does c m (S.show e) p s r → ExprAt c.code e i → Ended c₁ m₁ p r

-- a statement that may find no free cell
abbrev pub Transferred : Control → Memory → S → Control → Memory → Result (Unit {0}) Halt → Type 0
Transferred c m a c₁ m₁ (Ok u) = Did c m a c₁ m₁
Transferred c m a c₁ m₁ (Err Full) = (p : Sig) (s : St) (r : R) → Does c m a p s r → r ≡ full
Transferred c m a c₁ m₁ (Err Spent) = ⊥
Transferred c m a c₁ m₁ (Err Deep) = ⊥

-- statements by their names
abbrev pub set_s : ℕ → E → S
set_s = S.set

abbrev pub drop_s : ℕ → S
drop_s = S.drop

abbrev pub show_s : E → S
show_s = S.show
