-- What `go` promises.
use Rattle.std.specs.Prelude.{◌≡◌, ℕ, ◌+◌, ◌*◌, ◌<◌, ◌≤◌, Bool, true, false, ◌↔◌, List, [], ◌∷◌, length, take, drop, Ok, Err, codes, Result}
use Rattle.owned.specs.Program.{Prog}
use Rattle.owned.specs.Runs.{n, St, fine, full, spent, deep, run, used}
use Rattle.owned.specs.Kept.{kept}
use Rattle.owned.specs.Rows.{Rows}
use Rattle.owned.specs.Says.{floor}
use Rattle.machine.specs.declared.machine.Halt.{Halt}
use Rattle.machine.specs.declared.machine.Halt.TheVariants.{Full, Spent, Deep}
use Rattle.interpreter.specs.declared.outcome.Ran.{Ran}
use Rattle.interpreter.specs.declared.outcome.Ran.TheVariants as ran

-- what each answer says: the rows, cells, open calls and turns, and the words for numbers before and after
abbrev pub GoSays : List ℕ → ℕ → ℕ → ℕ → List ℕ → List ℕ → Ran → Type 0
GoSays s c d k o o' (ran.Done r m l) = (g : Prog) × (t : St) × Rows s g × (kept g ≡ true) × (run g c d k ≡ fine t) × (t.vars ≡ n r ∷ []) × (m ≡ length t.shown) × (l ≡ t.left) × (used t.cells ≡ 0) × (take m o' ≡ t.shown) × (drop m o' ≡ drop m o)
GoSays s c d k o o' ran.Full = (g : Prog) × Rows s g × (kept g ≡ true) × (run g c d k ≡ full)
GoSays s c d k o o' ran.Spent = (g : Prog) × Rows s g × (kept g ≡ true) × (run g c d k ≡ spent)
GoSays s c d k o o' ran.Deep = (g : Prog) × Rows s g × (kept g ≡ true) × (run g c d k ≡ deep)
GoSays s c d k o o' ran.Unkept = (g : Prog) × Rows s g × (kept g ≡ false) × (o' ≡ o)
GoSays s c d k o o' ran.Unread = ((g : Prog) → Rows s g → ⊥) × (o' ≡ o)
GoSays s c d k o o' ran.OutFull = (g : Prog) × (t : St) × Rows s g × (kept g ≡ true) × (run g c d k ≡ fine t) × (length o < length t.shown)
GoSays s c d k o o' ran.Small = o' ≡ o

pub record GoPost (s : List ℕ) (c d k : ℕ) (o o' : List ℕ) (w : ℕ) (r : Ran) : Type 0 where
  pub says : GoSays s c d k o o' r
  pub small : (w < floor s + (2 * c + 512 * d)) ↔ (r ≡ ran.Small)

-- a program that keeps the rules, and enough work words
pub record CanGo (s : List ℕ) (c d w : ℕ) : Type 0 where
  pub prog : Prog
  pub rows : Rows s prog
  pub keeps : kept prog ≡ true
  pub room : floor s + (2 * c + 512 * d) ≤ w

-- an answer of its run
abbrev pub is_run : Ran → Bool
is_run (ran.Done r m l) = true
is_run ran.Full = true
is_run ran.Spent = true
is_run ran.Deep = true
is_run ran.Unkept = false
is_run ran.Unread = false
is_run ran.OutFull = true
is_run ran.Small = false

abbrev pub Went : List ℕ → ℕ → ℕ → ℕ → List ℕ → List ℕ → Ran → Type 0
Went s c d k o o' r = (is_run r ≡ true) × GoSays s c d k o o' r

-- how an outcome is told
abbrev pub stopped_by : Halt → Ran
stopped_by Full = ran.Full
stopped_by Spent = ran.Spent
stopped_by Deep = ran.Deep

abbrev pub ended : Result ℕ Halt → Bool → ℕ → ℕ → Ran
ended (Ok w) true m l = ran.OutFull
ended (Ok w) false m l = ran.Done w m l
ended (Err h) over m l = stopped_by h

-- the word for each answer
abbrev pub named : Ran → List ℕ
named (ran.Done r m l) = codes "done"
named ran.Full = codes "full"
named ran.Spent = codes "spent"
named ran.Deep = codes "deep"
named ran.Unkept = codes "unkept"
named ran.Unread = codes "unread"
named ran.OutFull = codes "out full"
named ran.Small = codes "small"
