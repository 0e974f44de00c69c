-- Who holds which cell: ownership, the count of holders, and the choice of a free cell.
use Rattle.std.specs.Prelude.{◌≡◌, ℕ, zero, suc, ◌+◌, true, cond, List, [], ◌∷◌, ◌++◌, Some, None, Option, ◌==◌, ◌≢◌, slice_index_or, slice_set}
use Rattle.std.specs.List.{slice_get}
use Rattle.owned.specs.Program.{S, Sig, Prog, bit, kind, is_lent}
use Rattle.owned.specs.Runs.{Val, n, at, nothing, Cell, free, holds, St, fine, Chooser, give, get, cell_at, with_cells, used}
use Rattle.owned.specs.Machine.{Frame}
use Rattle.owned.specs.Strict.{freed}
use Rattle.owned.specs.Kept.{Full, is_full, both, keeps, ends_well}
use Rattle.owned.specs.Values.{Tree, weight, of_kind}

-- The value v is the tree t laid out in cells that are in use, each its own, and P holds of the cells once these are
-- free. P is the rest of the world: other variables, callers, another program on the same cells.
abbrev pub Owns : Tree → Val → (List Cell → Type 0) → List Cell → Type 0
Owns (Tree.num m) v P cs = (v ≡ n m) × P cs
Owns Tree.bare v P cs = (v ≡ nothing) × P cs
Owns (Tree.box t) v P cs = (a : ℕ) × (b : ℕ) × (w : Val) × (v ≡ at a b) × (slice_get cs a ≡ Some (holds b w)) × Owns t w P (slice_set cs a free)

-- variables, one after the other
abbrev pub OwnsAll : List Tree → List Val → (List Cell → Type 0) → List Cell → Type 0
OwnsAll [] [] P cs = P cs
OwnsAll [] (v ∷ vs) P cs = ⊥
OwnsAll (t ∷ ts) [] P cs = ⊥
OwnsAll (t ∷ ts) (v ∷ vs) P cs = Owns t v (OwnsAll ts vs P) cs

-- how many cells are free
abbrev pub frees : List Cell → ℕ
frees [] = 0
frees (free ∷ cs) = suc (frees cs)
frees (holds b v ∷ cs) = frees cs

-- a choice of a cell is right: it is there and free, and where there is no choice none is free
abbrev pub Chosen : List Cell → Option ℕ → Type 0
Chosen cs None = frees cs ≡ 0
Chosen cs (Some a) = slice_get cs a ≡ Some free

abbrev pub Chooses : Chooser → Type 0
Chooses ch = (i : ℕ) (cs : List Cell) → Chosen cs (ch i cs)

-- what is left once a value has been given back
pub record Released (k : ℕ) (v : Val) (t : Tree) (P : List Cell → Type 0) (s : St) : Type 0 where
  pub left : List Cell
  pub does : give k v s ≡ fine (with_cells s left)
  pub rest : P left
  pub more : frees left ≡ weight t + frees s.cells

-- Giving back a box keeps ownership, whatever is in the box: it ends well, frees the cells of its tree and no other,
-- and leaves the rest of the world as it is.
abbrev pub ReleaseKeeps : Type 1
ReleaseKeeps = (k : ℕ) (t : Tree) (v : Val) (P : List Cell → Type 0) (s : St) → of_kind k t ≡ true → Owns t v P s.cells → Released k v t P s

-- The same of strict steps, in which each cell must still be its box's as its turn comes: what is left of the cells.
pub record Freed (k : ℕ) (v : Val) (t : Tree) (P : List Cell → Type 0) (cs : List Cell) : Type 0 where
  pub left : List Cell
  pub does : freed k v cs ≡ Some left
  pub rest : P left
  pub more : frees left ≡ weight t + frees cs

-- More than the one before: it is what the proofs of the promise's fields use, and the one before follows.
abbrev pub StrictReleaseKeeps : Type 1
StrictReleaseKeeps = (k : ℕ) (t : Tree) (v : Val) (P : List Cell → Type 0) (cs : List Cell) → of_kind k t ≡ true → Owns t v P cs → Freed k v t P cs

-- how often a value refers to the cell a; values; what cells hold; and a cell in use is one
abbrev pub refers : ℕ → Val → ℕ
refers a (n m) = 0
refers a nothing = 0
refers a (at c b) = bit (a == c)

abbrev pub refer_all : ℕ → List Val → ℕ
refer_all a [] = 0
refer_all a (v ∷ vs) = refers a v + refer_all a vs

abbrev pub inside : ℕ → Cell → ℕ
inside a free = 0
inside a (holds b v) = refers a v

abbrev pub within : ℕ → List Cell → ℕ
within a [] = 0
within a (c ∷ cs) = inside a c + within a cs

abbrev pub busy : Cell → ℕ
busy free = 0
busy (holds b v) = 1

-- a procedure's variables without the lent arguments; the marks of its arguments are given
abbrev pub mine : {A : Type 0} → List ℕ → List A → List A
mine [] vs = vs
mine (m ∷ ms) [] = []
mine (m ∷ ms) (v ∷ vs) = cond (m == 1) (mine ms vs) (v ∷ mine ms vs)

-- the variables of all open procedures, lent arguments left out
abbrev pub owners : Sig → List Val → List Frame → List Val
owners p vs [] = mine p.args vs
owners p vs (f ∷ fs) = mine p.args vs ++ owners f.sig f.vars fs

-- a lent argument that is a box is a variable of the procedure below; the last one has none
abbrev pub LentBelow : Sig → List Val → List Frame → Type 0
LentBelow p vs [] = (x : ℕ) → is_lent p x ≢ true
LentBelow p vs (f ∷ fs) = ((x a b : ℕ) → is_lent p x ≡ true → slice_index_or vs x nothing ≡ at a b → (y : ℕ) × (slice_index_or f.vars y nothing ≡ at a b)) × LentBelow f.sig f.vars fs

-- a value of kind k: a number, or a box whose cell is in use and holds a value of the kind below
abbrev pub Filled : ℕ → Val → List Cell → Type 0
Filled zero v cs = (m : ℕ) × (v ≡ n m)
Filled (suc k) v cs = (a : ℕ) × (b : ℕ) × (w : Val) × (v ≡ at a b) × (slice_index_or cs a free ≡ holds b w) × Filled k w cs

-- what is full after pending statements, if they keep the rules
abbrev pub keeps_all : Prog → Sig → List S → Full → Option Full
keeps_all g p [] c = Some c
keeps_all g p (a ∷ ss) c = both (keeps g p a c) (λ d. keeps_all g p ss d)

-- What is true of a state, with the running procedure's signature, its pending statements and the callers.
--   owned: the variables of open procedures that are no lent arguments are trees, each box in a cell of its own that
--     is in use, and if these were free every cell would be;
--   once: so each cell in use is referred to once, by such a variable or from a cell in use, and no free cell is;
--   lent: a lent argument that is a box is a variable of the procedure below;
--   keeping: the pending statements keep the rules, with the variables full that the mask says;
--   filled: and each of these holds a value of its kind.
pub record Held (g : Prog) (p : Sig) (ss : List S) (s : St) (fs : List Frame) : Type 0 where
  pub owned : (ts : List Tree) × OwnsAll ts (owners p s.vars fs) (λ cs. used cs ≡ 0) s.cells
  pub once : (a : ℕ) → refer_all a (owners p s.vars fs) + within a s.cells ≡ busy (cell_at s a)
  pub lent : LentBelow p s.vars fs
  pub mask : Full
  pub keeping : ends_well p (keeps_all g p ss mask) ≡ true
  pub filled : (x : ℕ) → is_full mask x ≡ true → Filled (kind p x) (get s x) s.cells
