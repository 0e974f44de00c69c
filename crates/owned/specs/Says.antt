-- The theorems, as types, and what the public calls promise.
use Rattle.std.specs.Prelude.{◌≡◌, ℕ, suc, ◌+◌, ◌*◌, ◌<◌, ◌≤◌, true, false, ◌↔◌, List, [], ◌∷◌, length, codes, ◌≢◌}
use Rattle.owned.specs.declared.Judged.{Judged}
use Rattle.owned.specs.declared.Judged.TheVariants.{Keeps, Careless, NoProgram, Few}
use Rattle.owned.specs.Program.{S, Sig, Prog}
use Rattle.owned.specs.Runs.{n, St, R, fine, fault, full, spent, deep, Chooser, first_free, run_by, run, used}
use Rattle.owned.specs.Machine.{Frame, going, stopped, step, steps, start}
use Rattle.owned.specs.Strict.{strict}
use Rattle.owned.specs.Kept.{kept}
use Rattle.owned.specs.Rows.{row_ps, Rows}
use Rattle.owned.specs.Values
use Rattle.owned.specs.Values.{Tree}
use Rattle.owned.specs.Holders.{Chooses, Held}
use Rattle.owned.specs.Decode.{ExactDecoder}
use Rattle.owned.specs.Worked.{Worked}

-- rows are the writing of at most one program
abbrev pub OneProgram : Type 0
OneProgram = (s : List ℕ) (g h : Prog) → Rows s g → Rows s h → g ≡ h

-- the machine and the run agree, however cells are chosen, and the machine stops
abbrev pub MachineRuns : Type 0
MachineRuns =
    (ch : Chooser) (g : Prog) (cells depth turns i : ℕ) → turns * suc (length (row_ps g)) + 1 ≤ i → steps ch g i (start g cells depth turns) ≡ stopped (run_by ch g cells depth turns)

-- more cells, depth and turns change nothing but the turns left, for every program
abbrev pub More : Type 0
More =
    (g : Prog) (cells depth turns c d k : ℕ) (t : St) →
    run g cells depth turns ≡ fine t → (u : St) × (run g (cells + c) (depth + d) (turns + k) ≡ fine u) × (u.shown ≡ t.shown) × (u.vars ≡ t.vars) × (u.left ≡ t.left + k)

-- a program that keeps the rules never faults
abbrev pub NeverFaults : Type 0
NeverFaults = (s : List ℕ) (g : Prog) (cells depth turns f : ℕ) → Rows s g → kept g ≡ true → run g cells depth turns ≢ fault f

-- and where it is done every cell is free
abbrev pub NothingLeft : Type 0
NothingLeft = (s : List ℕ) (g : Prog) (cells depth turns : ℕ) (t : St) → Rows s g → kept g ≡ true → run g cells depth turns ≡ fine t → used t.cells ≡ 0

-- a run that is done, beside one on trees: the same number as result, the same numbers shown and turns left, and all
-- cells free
pub record Done (r : R) (w : Values.St) : Type 0 where
  pub state : St
  pub is : r ≡ fine state
  pub result : ℕ
  pub vars : state.vars ≡ n result ∷ []
  pub trees : w.vars ≡ Tree.num result ∷ []
  pub shown : state.shown ≡ w.shown
  pub left : state.left ≡ w.left
  pub clean : used state.cells ≡ 0

-- A run ends as the value machine does: full, spent or deep alike, or done alike; and neither is a fault, nor does the
-- value machine go on.
abbrev pub Alike : R → Values.Mach → Type 0
Alike r (Values.going d p ss w fs) = ⊥
Alike r (Values.stopped (Values.fine w)) = Done r w
Alike r (Values.stopped Values.fault) = ⊥
Alike r (Values.stopped Values.full) = r ≡ full
Alike r (Values.stopped Values.spent) = r ≡ spent
Alike r (Values.stopped Values.deep) = r ≡ deep

-- The value reading: a program that keeps the rules does what it would do if variables held trees and memory were one
-- number.
abbrev pub ValueReading : Type 0
ValueReading = (s : List ℕ) (g : Prog) (cells depth turns : ℕ) → Rows s g → kept g ≡ true → Alike (run g cells depth turns) (Values.run g cells depth turns)

-- taking the first free cell is a right choice
abbrev pub FirstFreeChooses : Type 0
FirstFreeChooses = Chooses first_free

-- two runs that end alike: with the same variables, numbers shown and turns left, and all cells free
abbrev pub Same : R → R → Type 0
Same (fine s) r = (t : St) × (r ≡ fine t) × (s.vars ≡ t.vars) × (s.shown ≡ t.shown) × (s.left ≡ t.left) × (used s.cells ≡ 0) × (used t.cells ≡ 0)
Same (fault f) r = ⊥
Same full r = r ≡ full
Same spent r = r ≡ spent
Same deep r = r ≡ deep

-- which free cells new boxes get makes no difference
abbrev pub AnyCells : Type 0
AnyCells =
    (s : List ℕ) (g : Prog) (ch ch' : Chooser) (cells depth turns : ℕ) → Rows s g → kept g ≡ true → Chooses ch → Chooses ch' → Same (run_by ch g cells depth turns) (run_by ch' g cells depth turns)

-- At every moment of a run of a program that keeps the rules, whichever free cells new boxes get, each cell in use has
-- one holder, and what the rules call full is full.
abbrev pub OneHolder : Type 0
OneHolder =
    (s : List ℕ) (g : Prog) (ch : Chooser) (cells depth turns i d : ℕ) (p : Sig) (ss : List S) (t : St) (fs : List Frame) → Rows s g → kept g ≡ true → Chooses ch →
    steps ch g i (start g cells depth turns) ≡ going d p ss t fs → Held g p ss t fs

-- At every moment of such a run the next step is the strict one, which faults where a cell is given back that is no
-- longer its box's or a variable is not there: so it may be taken in memory without a test.
abbrev pub StepsStrictly : Type 0
StepsStrictly =
    (s : List ℕ) (g : Prog) (ch : Chooser) (cells depth turns i : ℕ) → Rows s g → kept g ≡ true → Chooses ch →
    step ch g (steps ch g i (start g cells depth turns)) ≡ strict ch g (steps ch g i (start g cells depth turns))

-- the theorems that every promise carries
pub record Parts : Type 0 where
  pub one_program : OneProgram
  pub decoder : ExactDecoder
  pub worked : Worked
  pub machine : MachineRuns
  pub more : More
  pub one_holder : OneHolder
  pub strict : StepsStrictly
  pub first_free : FirstFreeChooses
  pub value_reading : ValueReading
  pub never_faults : NeverFaults
  pub nothing_left : NothingLeft
  pub any_cells : AnyCells

-- what each answer of `judge` says of the rows
abbrev pub JudgedSays : List ℕ → Judged → Type 0
JudgedSays s Keeps = (g : Prog) × Rows s g × (kept g ≡ true)
JudgedSays s Careless = (g : Prog) × Rows s g × (kept g ≡ false)
JudgedSays s NoProgram = (g : Prog) → Rows s g → ⊥
JudgedSays s Few = Unit {0}

-- the words for each answer
abbrev pub named : Judged → List ℕ
named Keeps = codes "keeps"
named Careless = codes "careless"
named NoProgram = codes "no program"
named Few = codes "few"

-- how many work words judging asks for
abbrev pub floor : List ℕ → ℕ
floor s = 8192 + 4 * length s

-- `judge` on the rows s, with w work words
pub record JudgedPost (s : List ℕ) (w : ℕ) (r : Judged) : Type 0 where
  pub says : JudgedSays s r
  pub parts : Parts
  pub few : (w < floor s) ↔ (r ≡ Few)
