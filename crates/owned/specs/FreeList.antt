-- The free cells chained in ascending order through one link word for each cell.
use Rattle.std.specs.Prelude.{◌≡◌, ℕ, zero, suc, ◌+◌, ◌<◌, ◌≤◌, List, [], ◌∷◌, length, drop, Some, None, Option, slice_index, slice_index_or, slice_set}
use Rattle.owned.specs.declared.names.CellIndex.{CellIndex}
use Rattle.owned.specs.Runs.{Val, nothing, Cell, free, holds, first}

-- the first free cell that is not before i, or how many cells there are
abbrev pub next_free : List Cell → ℕ → ℕ
next_free [] i = 0
next_free (c ∷ cs) (suc i) = suc (next_free cs i)
next_free (free ∷ cs) zero = 0
next_free (holds b v ∷ cs) zero = suc (next_free cs zero)

-- a cell that is there and free
abbrev pub FreeAt : List Cell → ℕ → Type 0
FreeAt cs a = slice_index_or cs a (holds 0 nothing) ≡ free

-- a cell that is there and belongs to a box
abbrev pub InUse : List Cell → ℕ → Type 0
InUse cs a = (b : ℕ) × (v : Val) × (slice_index_or cs a free ≡ holds b v)

-- The head is the first free cell, and the link of each free cell is the next one. The end of the chain is how many cells
-- there are. The links of cells in use may be anything, and there may be words past the last link.
pub record FreeList (links : List ℕ) (head : ℕ) (cs : List Cell) : Type 0 where
  pub linked : length cs ≤ length links
  pub begins : head ≡ next_free cs 0
  pub next : (a : ℕ) → FreeAt cs a → slice_index links a ≡ next_free cs (a + 1)

-- the cell that a new box gets, and the free list once it is in use, whatever it holds
pub record FirstFree (links : List ℕ) (rest : ℕ) (cs : List Cell) (a : ℕ) : Type 0 where
  pub chosen : first cs 0 ≡ Some a
  pub within : a < length cs
  pub left : (b : ℕ) (v : Val) → FreeList links rest (slice_set cs a (holds b v))

-- nothing exactly where no cell is free, and then the head stays
abbrev pub TakenFirst : List ℕ → ℕ → ℕ → List Cell → Option CellIndex → Type 0
TakenFirst links head rest cs None = (first cs 0 ≡ None) × (rest ≡ head)
TakenFirst links head rest cs (Some cell) = FirstFree links rest cs cell.0

-- the free list with one more cell; the words past the last link stay
pub record GivenBack (links links' : List ℕ) (head : ℕ) (cs : List Cell) (a : ℕ) : Type 0 where
  pub list : FreeList links' head (slice_set cs a free)
  pub past : drop (length cs) links' ≡ drop (length cs) links
