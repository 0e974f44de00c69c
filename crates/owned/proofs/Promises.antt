-- The public promises, from what the code found: the theorems that they carry, and what each answer says.
-- An answer other than too few work words is one of three, each with its own reason.
use Rattle.std.proofs.Common.{◌≡◌, ℕ, ◌<◌, ◌≤◌, true, false, leb, List, length, Some, None, sym, refl, ap, arith, leb→le}
use Rattle.std.proofs.lemmas.Bool.{leb-true, leb-false}
use Rattle.owned.specs.declared.Judged.{Judged}
use Rattle.owned.specs.declared.Judged.TheVariants.{Keeps, Careless, NoProgram, Few}
use Rattle.owned.specs.Program.{Prog}
use Rattle.owned.specs.Kept.{kept}
use Rattle.owned.specs.Decode.{read_ps}
use Rattle.owned.specs.Ends.{Placed}
use Rattle.owned.specs.Views.{Fine}
use Rattle.owned.specs.Says.{Parts, JudgedSays, JudgedPost, floor}
use Rattle.owned.proofs.Chains.{T_and}
use Rattle.owned.proofs.Programs.{exact_decoder, read_rows, rows_read, one_program}
use Rattle.owned.proofs.Examples.{worked}
use Rattle.owned.proofs.Stops.{machine_runs}
use Rattle.owned.proofs.More.{more}
use Rattle.owned.proofs.Simulation.{first_chooses}
use Rattle.owned.proofs.Safety.{one_holder, steps_strictly, value_reading, never_faults, nothing_left, any_cells}

pub parts : Parts
parts = record {
  one_program = one_program;
  decoder = exact_decoder;
  worked = worked;
  machine = machine_runs;
  more = more;
  one_holder = one_holder;
  strict = steps_strictly;
  first_free = first_chooses;
  value_reading = value_reading machine_runs;
  never_faults = never_faults machine_runs;
  nothing_left = nothing_left machine_runs;
  any_cells = any_cells machine_runs;
}

pub fine : (s us ts : List ℕ) (g : Prog) → Placed us ts g → read_ps 64 s ≡ Some g → Fine us ts
fine s us ts g p e = record { g = g; placed = p; ok = ((exact_decoder.programs 64 s g).0 e).2 }

pub few_post : (s : List ℕ) (w : ℕ) → false ≡ leb (floor s) w → JudgedPost s w Few
few_post s w h = record { says = tt; parts = parts; few = (λ l. refl, λ e. leb-false (floor s) w (sym h)) }

abbrev is_few : Judged → ℕ
is_few Keeps = 0
is_few Careless = 0
is_few NoProgram = 0
is_few Few = 1

module _ (s : List ℕ) (w : ℕ) (h : true ≡ leb (floor s) w) where
  post : (r : Judged) → is_few r ≡ 0 → JudgedSays s r → JudgedPost s w r
  post r z j = record { says = j; parts = parts; few = (λ l. absurd (omega (arith, l, leb-true (floor s) w (sym h))), λ e. absurd (omega (arith, z, ap is_few e))) }

  -- too many words are no program
  pub long_post : 16384 < length s → JudgedPost s w NoProgram
  long_post l = post NoProgram refl (λ g r. omega (arith, leb→le (length s) 16384 (T_and (leb (length s) 16384) _ r.fine).0))

  -- what is not read is no program
  pub unread_post : read_ps 64 s ≡ None → JudgedPost s w NoProgram
  unread_post e = post NoProgram refl (λ g r. let f = read_rows s g r in let z : ◌≡◌ {A = ℕ} 0 1 = cc in omega arith)

  -- what is read is the program that it was read as
  module _ (l : length s ≤ 16384) (us ts : List ℕ) (g : Prog) (placed : Placed us ts g) (read : read_ps 64 s ≡ Some g) where
    pub keeps_post : ((h : Prog) → Placed us ts h → true ≡ kept h) → JudgedPost s w Keeps
    keeps_post f = post Keeps refl (g, rows_read s g l read, sym (f g placed))

    pub careless_post : ((h : Prog) → Placed us ts h → false ≡ kept h) → JudgedPost s w Careless
    careless_post f = post Careless refl (g, rows_read s g l read, sym (f g placed))
