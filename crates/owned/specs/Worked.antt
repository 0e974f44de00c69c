-- Worked programs: what the definitions say of them.
use Rattle.std.specs.Prelude.{◌≡◌, ℕ, true, false, [], ◌∷◌, length}
use Rattle.owned.specs.Program.{E, S, Proc, Prog}
use Rattle.owned.specs.Runs.{n, St, R, fine, fault, full, spent, deep, run, used}
use Rattle.owned.specs.Kept.{kept}
use Rattle.owned.specs.Rows.{row_ps}

-- a procedure that is lent a box of a number: variables 0 the box, 1 the result, 2 a number
abbrev pub borrower : S → Proc
borrower s = record { sig = record { kinds = 1 ∷ 0 ∷ 0 ∷ []; args = 1 ∷ []; result = 1 }; body = s }

-- the first procedure: variables 0 the result, 1 a number, 2 a box, 3 a box of a box, 4 a box
abbrev pub main : S → Proc
main s = record { sig = record { kinds = 0 ∷ 0 ∷ 1 ∷ 2 ∷ 1 ∷ []; args = []; result = 0 }; body = s }

-- the second procedure, lent the box in 2
abbrev pub lend : S
lend = S.call 1 1 (record { of = 2; lent = 1 } ∷ [])

-- a box with 41
abbrev pub boxed : S → S
boxed s = S.then (S.set 1 (E.num 41)) (S.then (S.box 2 1) s)

-- boxes 41, boxes the box, unboxes it again, lends it to one who adds 1, and looks
abbrev pub lending : Prog
lending =
    record { sig = record { kinds = 0 ∷ 0 ∷ 1 ∷ 2 ∷ []; args = []; result = 0 }; body = boxed (S.then (S.box 3 2) (S.then (S.unbox 2 3) (S.then lend (S.look 0 2)))) } ∷
    borrower (S.then (S.look 2 0) (S.then (S.set 2 (E.add (E.var 2) (E.num 1))) (S.fill 0 2))) ∷ []

-- looks into a box that was moved into another
abbrev pub moved : Prog
moved = main (boxed (S.then (S.box 3 2) (S.look 0 2))) ∷ []

-- lends a box to one who drops it, and looks; in the second its cell is a box again by then
abbrev pub dropped : Prog
dropped = main (boxed (S.then lend (S.look 0 2))) ∷ borrower (S.drop 0) ∷ []

abbrev pub reused : Prog
reused = main (boxed (S.then lend (S.then (S.box 4 1) (S.look 0 2)))) ∷ borrower (S.drop 0) ∷ []

-- leaves a box of a box to the end
abbrev pub left : Prog
left = main (boxed (S.box 3 2)) ∷ []

-- a run is done with this result and so many turns left, and every cell is free
abbrev pub DoneWith : ℕ → ℕ → R → Type 0
DoneWith m l r = (t : St) × (r ≡ fine t) × (t.vars ≡ n m ∷ []) × (t.left ≡ l) × (used t.cells ≡ 0)

pub record Worked : Type 0 where
  pub lending_words : length (row_ps lending) ≡ 56
  pub lending_keeps : kept lending ≡ true
  pub lending_done : DoneWith 42 0 (run lending 2 2 2)
  pub lending_full : run lending 1 2 2 ≡ full
  pub lending_spent : run lending 2 2 1 ≡ spent
  pub lending_deep : run lending 2 1 2 ≡ deep
  pub moved_careless : kept moved ≡ false
  pub moved_faults : run moved 2 1 1 ≡ fault 1
  pub dropped_careless : kept dropped ≡ false
  pub dropped_faults : run dropped 2 2 2 ≡ fault 2
  pub reused_careless : kept reused ≡ false
  pub reused_faults : run reused 2 2 2 ≡ fault 2
  pub left_keeps : kept left ≡ true
  pub left_done : DoneWith 0 0 (run left 2 1 1)
