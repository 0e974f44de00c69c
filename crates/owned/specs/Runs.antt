-- What a program does, with all that can go wrong with boxes.
use Rattle.std.specs.Prelude.{ℕ, zero, suc, ◌+◌, ◌-◌, ◌*◌, ◌%◌, ◌^◌, Bool, true, false, cond, ◌||◌, List, [], ◌∷◌, ◌++◌, length, drop, replicate, Some, None, Option, ◌==◌, nat_lt, slice_index_or, slice_set}
use Rattle.std.specs.List.{slice_get}
use Rattle.owned.specs.Program.{E, Arg, S, Sig, Proc, Prog, bit, kind, is_lent}

-- a value: a number, a box (its cell, and a stamp: how many boxes had been made before it), or nothing (an empty box variable)
pub data Val : Type 0 where
  n : ℕ → Val
  at : ℕ → ℕ → Val
  nothing : Val

-- a cell is free, or belongs to the box with this stamp and holds a value
pub data Cell : Type 0 where
  free : Cell
  holds : ℕ → Val → Cell

-- the running procedure's variables, the cells, the numbers shown, the turns left, and how many boxes were made
pub record St : Type 0 where
  pub vars : List Val
  pub cells : List Cell
  pub shown : List ℕ
  pub left : ℕ
  pub made : ℕ

-- How a part of a run ends. Faults: 1 empty where a box was wanted, 2 a cell used that is free or belongs to another box,
-- 3 not a number, 4 a procedure that isn't there, or a result that is no number.
pub data R : Type 0 where
  fine : St → R
  fault : ℕ → R
  full : R
  spent : R
  deep : R

abbrev pub bind : R → (St → R) → R
bind (fine s) k = k s
bind (fault f) k = fault f
bind full k = full
bind spent k = spent
bind deep k = deep

-- a number, if there is one
pub data May : Type 0 where
  ok : ℕ → May
  bad : May

abbrev pub with_m : May → (ℕ → May) → May
with_m bad k = bad
with_m (ok a) k = k a

abbrev pub as_num : Val → May
as_num (n k) = ok k
as_num (at a b) = bad
as_num nothing = bad

abbrev pub get : St → ℕ → Val
get s x = slice_index_or s.vars x nothing

abbrev pub value : St → E → May
value s (E.num k) = ok k
value s (E.var x) = as_num (get s x)
value s (E.add a b) = with_m (value s a) (λ x. with_m (value s b) (λ y. ok ((x + y) % 2 ^ 32)))
value s (E.sub a b) = with_m (value s a) (λ x. with_m (value s b) (λ y. ok ((x + 2 ^ 32 - y) % 2 ^ 32)))
value s (E.mul a b) = with_m (value s a) (λ x. with_m (value s b) (λ y. ok (x * y % 2 ^ 32)))
value s (E.less a b) = with_m (value s a) (λ x. with_m (value s b) (λ y. ok (bit (nat_lt x y))))

abbrev pub num : May → (ℕ → R) → R
num bad k = fault 3
num (ok a) k = k a

abbrev pub cell_at : St → ℕ → Cell
cell_at s a = slice_index_or s.cells a free

abbrev pub with_vars : St → List Val → St
with_vars s vs = record { vars = vs; cells = s.cells; shown = s.shown; left = s.left; made = s.made }

abbrev pub with_cells : St → List Cell → St
with_cells s cs = record { vars = s.vars; cells = cs; shown = s.shown; left = s.left; made = s.made }

abbrev pub with_left : St → ℕ → St
with_left s l = record { vars = s.vars; cells = s.cells; shown = s.shown; left = l; made = s.made }

abbrev pub set_v : St → ℕ → Val → St
set_v s x v = with_vars s (slice_set s.vars x v)

abbrev pub set_c : St → ℕ → Cell → St
set_c s a c = with_cells s (slice_set s.cells a c)

abbrev pub in_box : Val → (ℕ → ℕ → R) → R
in_box (n m) k = fault 1
in_box nothing k = fault 1
in_box (at a b) k = k a b

-- what a cell holds, if it belongs to the box with stamp b
abbrev pub held_in : ℕ → Cell → (Val → R) → R
held_in b free k = fault 2
held_in b (holds c v) k = cond (b == c) (k v) (fault 2)

abbrev pub held : St → ℕ → ℕ → (Val → R) → R
held s a b k = held_in b (cell_at s a) k

-- giving back a value of kind k: what is in the box first, then its cell
abbrev pub give : ℕ → Val → St → R
give zero v s = fine s
give (suc k) (n m) s = fault 1
give (suc k) nothing s = fine s
give (suc k) (at a b) s = held s a b (λ v. bind (give k v s) (λ t. fine (set_c t a free)))

-- the first free cell, counting from i
abbrev pub first : List Cell → ℕ → Option ℕ
first [] i = None
first (free ∷ cs) i = Some i
first (holds b v ∷ cs) i = first cs (i + 1)

-- Which cell the next box gets, by how many boxes were made before it and by the cells; where there is none, the run is full.
abbrev pub Chooser : Type 0
Chooser = ℕ → List Cell → Option ℕ

abbrev pub first_free : Chooser
first_free i cs = first cs 0

-- a new box at a cell, with the next stamp
abbrev pub box_at : St → ℕ → Val → St
box_at s a v = record { vars = s.vars; cells = slice_set s.cells a (holds s.made v); shown = s.shown; left = s.left; made = s.made + 1 }

abbrev pub new_at : Option ℕ → St → Val → (Val → St → R) → R
new_at None s v k = full
new_at (Some a) s v k = k (at a s.made) (box_at s a v)

abbrev pub new : Chooser → St → Val → (Val → St → R) → R
new ch s v k = new_at (ch s.made s.cells) s v k

-- what was taken out and the state it leaves, or nothing where a box variable was empty
pub data Took (A : Type 0) : Type 0 where
  took : A → St → Took A
  missing : Took A

abbrev pub with_t : {A : Type 0} → Took A → (A → St → R) → R
with_t (took v t) k = k v t
with_t missing k = fault 1

abbrev pub taken_box : St → ℕ → Val → Took Val
taken_box s x (n m) = missing
taken_box s x nothing = missing
taken_box s x (at a b) = took (at a b) (set_v s x nothing)

-- a variable's value taken out: a number stays, a box leaves nothing behind
abbrev pub taken : ℕ → St → ℕ → Took Val
taken zero s x = took (get s x) s
taken (suc k) s x = taken_box s x (get s x)

-- a value put into a variable of kind k, what was there given back
abbrev pub into : ℕ → ℕ → Val → St → R
into k x v s = bind (give k (get s x) s) (λ t. fine (set_v t x v))

-- arguments handed over leave their variables, lent ones stay
abbrev pub hand_one : ℕ → ℕ → ℕ → St → Took Val
hand_one zero k x s = taken k s x
hand_one (suc m) k x s = took (get s x) s

abbrev pub more : Val → Took (List Val) → Took (List Val)
more v (took vs t) = took (v ∷ vs) t
more v missing = missing

abbrev pub onto : Took Val → (Val → St → Took (List Val)) → Took (List Val)
onto (took v t) k = k v t
onto missing k = missing

abbrev pub hand : Sig → List Arg → St → Took (List Val)
hand p [] s = took [] s
hand p (a ∷ as₁) s = onto (hand_one a.lent (kind p a.of) a.of s) (λ v t. more v (hand p as₁ t))

abbrev pub turn_at : ℕ → St → (St → R) → R
turn_at zero s k = spent
turn_at (suc l) s k = k (with_left s l)

-- one turn less
abbrev pub turn : St → (St → R) → R
turn s k = turn_at s.left s k

-- ch: the choice of cells; p: the running procedure; x: what a call does with values; w: what a loop does from its test on
abbrev pub exec : Chooser → Sig → (ℕ → List Val → St → (Val → St → R) → R) → (E → S → St → R) → S → St → R
exec ch p x w S.skip s = fine s
exec ch p x w (S.then a b) s = bind (exec ch p x w a s) (λ t. exec ch p x w b t)
exec ch p x w (S.set i e) s = num (value s e) (λ k. fine (set_v s i (n k)))
exec ch p x w (S.box i j) s = with_t (taken (kind p j) s j) (λ v t. new ch t v (λ b u. into (kind p i) i b u))
exec ch p x w (S.unbox i j) s = in_box (get s j) (λ a b. held s a b (λ v. into (kind p i) i v (set_v (set_c s a free) j nothing)))
exec ch p x w (S.look i j) s = in_box (get s j) (λ a b. held s a b (λ v. num (as_num v) (λ k. fine (set_v s i (n k)))))
exec ch p x w (S.fill i j) s =
    in_box (get s i) (λ a b. with_t (taken (kind p j) s j) (λ v t. held t a b (λ old. bind (give (kind p j) old t) (λ u. fine (set_c u a (holds b v))))))
exec ch p x w (S.move i j) s = with_t (taken (kind p j) s j) (λ v t. into (kind p i) i v t)
exec ch p x w (S.drop i) s = into (kind p i) i nothing s
exec ch p x w (S.if e a b) s = num (value s e) (λ k. cond (k == 0) (exec ch p x w b s) (exec ch p x w a s))
exec ch p x w (S.while e a) s = num (value s e) (λ k. cond (k == 0) (fine s) (turn s (λ t. bind (exec ch p x w a t) (λ u. w e a u))))
exec ch p x w (S.call i f as₁) s = with_t (hand p as₁ s) (λ vs t. x f vs t (λ v u. into (kind p i) i v u))
exec ch p x w (S.show e) s = num (value s e) (λ k. fine (record { vars = s.vars; cells = s.cells; shown = s.shown ++ (k ∷ []); left = s.left; made = s.made }))

-- what variables hold before anything is put into them
abbrev pub blank : List ℕ → List Val
blank [] = []
blank (k ∷ ks) = cond (k == 0) (n 0) nothing ∷ blank ks

-- a procedure's variables as it begins: its arguments, the others blank
abbrev pub opening : Sig → List Val → St → St
opening p vs s = with_vars s (vs ++ blank (drop (length vs) p.kinds))

-- the result and lent arguments are not given back when a procedure ends
abbrev pub stays : Sig → ℕ → Bool
stays p x = x == p.result || is_lent p x

abbrev pub end_one : Bool → ℕ → ℕ → St → R
end_one true k x s = fine s
end_one false k x s = into k x nothing s

-- the variables from x on, whose kinds are given, in order
abbrev pub ends : Sig → ℕ → List ℕ → St → R
ends p x [] s = fine s
ends p x (k ∷ ks) s = bind (end_one (stays p x) k x s) (λ t. ends p (x + 1) ks t)

-- A statement with at most j turns of loops one after the other. A turn takes one of those left, so that with j
-- greater than these it is never j that ends a run.
abbrev pub run_s : Chooser → Sig → (ℕ → List Val → St → (Val → St → R) → R) → ℕ → S → St → R
run_s ch p x zero a s = spent
run_s ch p x (suc j) a s = exec ch p x (λ e b t. run_s ch p x j (S.while e b) t) a s

abbrev pub enter : Option Proc → (Proc → R) → R
enter None k = fault 4
enter (Some p) k = k p

-- A call with d open at most: that is looked at before the turn. Afterwards the caller's variables are as they
-- were once the arguments had been handed over.
abbrev pub run_p : Chooser → ℕ → Prog → ℕ → List Val → St → (Val → St → R) → R
run_p ch zero g f vs s k = deep
run_p ch (suc d) g f vs s k =
    enter (slice_get g f) (λ p. turn s (λ t. bind (run_s ch p.sig (λ h ys z c. run_p ch d g h ys z c) (suc t.left) p.body (opening p.sig vs t))
    (λ u. bind (ends p.sig 0 p.sig.kinds u) (λ v. k (get v p.sig.result) (with_vars v s.vars)))))

-- the program's result has to be a number
abbrev pub last : Val → St → R
last (n m) s = fine (with_vars s (n m ∷ []))
last (at a b) s = fault 4
last nothing s = fault 4

-- so many free cells and turns, before anything is done
abbrev pub at_start : ℕ → ℕ → St
at_start cells turns = record { vars = []; cells = replicate cells free; shown = []; left = turns; made = 0 }

-- procedure 0, with no arguments, on so many free cells
abbrev pub run_by : Chooser → Prog → ℕ → ℕ → ℕ → R
run_by ch g cells depth turns = run_p ch depth g 0 [] (at_start cells turns) last

-- a new box gets the first free cell
abbrev pub run : Prog → ℕ → ℕ → ℕ → R
run g cells depth turns = run_by first_free g cells depth turns

-- cells that are in use
abbrev pub used : List Cell → ℕ
used [] = 0
used (free ∷ cs) = used cs
used (holds b v ∷ cs) = 1 + used cs
