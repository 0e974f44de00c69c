-- Where in the rows what was decoded ends, as the code says it, and where procedures begin.
use Rattle.std.specs.Prelude.{◌≡◌, ℕ, ◌+◌, ◌<◌, ◌≤◌, List, [], ◌∷◌, ◌++◌, length, take, drop, Some, None, Option, IsSome, slice_index}
use Rattle.owned.specs.declared.decode.Expression.{Expression}
use Rattle.owned.specs.declared.decode.Statement.{Statement}
use Rattle.owned.specs.declared.decode.Shape.{Shape}
use Rattle.owned.specs.Program.{E, S, Prog}
use Rattle.owned.specs.Rows.{row_e, row_s, row_p}
use Rattle.owned.specs.Decode.{Hit, node_of, node_shape, head_of, head_shape, read_ps}

-- the place where what was read ends
abbrev pub Ended : {A : Type 0} → List ℕ → Hit A → Option ℕ → Type 0
Ended ws None None = Unit {0}
Ended ws None (Some j) = ⊥
Ended ws (Some p) None = ⊥
Ended ws (Some p) (Some j) = (p.1 ≡ drop j ws) × (j ≤ length ws)

-- the word at a place, if it is there and at most m
abbrev pub WordUpTo : List ℕ → ℕ → ℕ → Option ℕ → Type 0
WordUpTo ws i m None = i < length ws → m < slice_index ws i
WordUpTo ws i m (Some w) = (i < length ws) × (w ≡ slice_index ws i) × (w ≤ m)

-- the head that begins at a place
abbrev pub FitsAt : {H : Type 0} → (H → Shape) → (List ℕ → Hit H) → List ℕ → ℕ → Option H → Type 0
FitsAt shape of ws i None = of (drop i ws) ≡ None
FitsAt shape of ws i (Some h) = (of (drop i ws) ≡ Some (h, drop (i + (shape h).words) ws)) × (i + (shape h).words ≤ length ws)

-- the rows go on at a place, and a head is read there
abbrev pub IsReadAt : {H : Type 0} → (H → Shape) → (List ℕ → Hit H) → List ℕ → ℕ → Type 0
IsReadAt {H} shape of ws i = (i ≤ length ws) × ((o : Option H) → FitsAt shape of ws i o → IsSome o)

abbrev pub NodeAt : List ℕ → ℕ → Option Expression → Type 0
NodeAt = FitsAt node_shape node_of

abbrev pub HeadAt : List ℕ → ℕ → Option Statement → Type 0
HeadAt = FitsAt head_shape head_of

-- an expression, a statement stands at a place
abbrev pub StandsE : List ℕ → ℕ → Type 0
StandsE ws i = (e : E) × (rest : List ℕ) × (drop i ws ≡ row_e e ++ rest)

abbrev pub StandsS : List ℕ → ℕ → Type 0
StandsS ws i = (s : S) × (rest : List ℕ) × (drop i ws ≡ row_s s ++ rest)

-- the words of a signature that begins at t are there: how many kinds and the kinds, how many marks and the marks, and
-- the result
abbrev pub SignatureIn : List ℕ → ℕ → Type 0
SignatureIn ws t = (t < length ws) × (t + 1 + slice_index ws t < length ws) × (t + 1 + slice_index ws t + 1 + slice_index ws (t + 1 + slice_index ws t) < length ws)

-- each procedure begins at its place
abbrev pub Placed : List ℕ → List ℕ → Prog → Type 0
Placed ws [] [] = Unit {0}
Placed ws [] (p ∷ ps) = ⊥
Placed ws (t ∷ ts) [] = ⊥
Placed ws (t ∷ ts) (p ∷ ps) = ((rest : List ℕ) × (drop t ws ≡ row_p p rest)) × Placed ws ts ps

-- the words are n procedures, whose places are the first n of the table
pub record Whole (ws ts : List ℕ) (n : ℕ) : Type 0 where
  pub g : Prog
  pub many : length g ≡ n
  pub few : n ≤ 64
  pub placed : Placed ws (take n ts) g
  pub read : read_ps 64 ws ≡ Some g

abbrev pub Tabled : List ℕ → List ℕ → Option ℕ → Type 0
Tabled ws ts None = read_ps 64 ws ≡ None
Tabled ws ts (Some n) = Whole ws ts n
