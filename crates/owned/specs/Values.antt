-- The value machine: what a program does if variables hold trees and memory is a number, the cells that are free.
-- There are no references in it: a box is where its tree is, lending moves it into the one called and back at the
-- end. It is strict: whatever ownership forbids is a fault (a variable that is not there, taking from or assigning to
-- a lent argument, giving back a tree of another kind, a box that would be left behind or put where one is).
-- The names are those of Runs and Machine where a definition is the counterpart of one there.
use Rattle.std.specs.Prelude.{ℕ, zero, suc, ◌+◌, ◌-◌, ◌*◌, ◌%◌, ◌^◌, Bool, true, false, cond, not, ◌&&◌, List, [], ◌∷◌, ◌++◌, length, drop, Some, None, Option, ◌==◌, nat_lt, slice_index_or, slice_set}
use Rattle.std.specs.List.{slice_get}
use Rattle.owned.specs.Program.{E, Arg, S, Sig, Proc, Prog, bit, kind, is_lent}
use Rattle.owned.specs.Runs.{May, ok, bad, with_m, stays}
use Rattle.owned.specs.Machine.{push}
use Rattle.owned.specs.Rows.{row_ps}

-- what a variable is worth: a number, nothing, or a box with a tree in it
pub data Tree : Type 0 where
  num : ℕ → Tree
  bare : Tree
  box : Tree → Tree

-- how many cells a tree takes
abbrev pub weight : Tree → ℕ
weight (Tree.num m) = 0
weight Tree.bare = 0
weight (Tree.box t) = suc (weight t)

-- a tree that a variable of kind k can have: a number, or boxes in one another, at most as many as k says, and
-- where there are fewer nothing is in the last
abbrev pub of_kind : ℕ → Tree → Bool
of_kind zero (Tree.num m) = true
of_kind zero Tree.bare = false
of_kind zero (Tree.box t) = false
of_kind (suc k) (Tree.num m) = false
of_kind (suc k) Tree.bare = true
of_kind (suc k) (Tree.box t) = of_kind k t

-- the running procedure's variables, the cells that are free, the numbers shown and the turns left
pub record St : Type 0 where
  pub vars : List Tree
  pub room : ℕ
  pub shown : List ℕ
  pub left : ℕ

-- how a part of a run ends
pub data R : Type 0 where
  fine : St → R
  fault : R
  full : R
  spent : R
  deep : R

abbrev pub bind : R → (St → R) → R
bind (fine w) k = k w
bind fault k = fault
bind full k = full
bind spent k = spent
bind deep k = deep

-- what has to be there, what has to hold, and what has to be a box
abbrev pub need : {A : Type 0} → Option A → (A → R) → R
need None k = fault
need (Some a) k = k a

abbrev pub guard : Bool → R → R
guard true r = r
guard false r = fault

abbrev pub in_box : Tree → (Tree → R) → R
in_box (Tree.num m) k = fault
in_box Tree.bare k = fault
in_box (Tree.box t) k = k t

abbrev pub as_num : Tree → May
as_num (Tree.num m) = ok m
as_num Tree.bare = bad
as_num (Tree.box t) = bad

abbrev pub value : St → E → May
value w (E.num k) = ok k
value w (E.var x) = as_num (slice_index_or w.vars x Tree.bare)
value w (E.add a b) = with_m (value w a) (λ x. with_m (value w b) (λ y. ok ((x + y) % 2 ^ 32)))
value w (E.sub a b) = with_m (value w a) (λ x. with_m (value w b) (λ y. ok ((x + 2 ^ 32 - y) % 2 ^ 32)))
value w (E.mul a b) = with_m (value w a) (λ x. with_m (value w b) (λ y. ok (x * y % 2 ^ 32)))
value w (E.less a b) = with_m (value w a) (λ x. with_m (value w b) (λ y. ok (bit (nat_lt x y))))

abbrev pub number : May → (ℕ → R) → R
number bad k = fault
number (ok a) k = k a

abbrev pub with_vars : St → List Tree → St
with_vars w ts = record { vars = ts; room = w.room; shown = w.shown; left = w.left }

abbrev pub with_room : St → ℕ → St
with_room w r = record { vars = w.vars; room = r; shown = w.shown; left = w.left }

abbrev pub with_left : St → ℕ → St
with_left w l = record { vars = w.vars; room = w.room; shown = w.shown; left = l }

abbrev pub set_v : St → ℕ → Tree → St
set_v w x t = with_vars w (slice_set w.vars x t)

-- a tree put into a variable of kind k that is not lent, what was there given back
abbrev pub into : Sig → ℕ → ℕ → Tree → St → R
into p k x t w = need (slice_get w.vars x) (λ u. guard (of_kind k u && not (is_lent p x)) (fine (with_room (set_v w x t) (weight u + w.room))))

-- what was taken out and the state it leaves, or nothing where ownership forbids it
pub data Took (A : Type 0) : Type 0 where
  took : A → St → Took A
  missing : Took A

abbrev pub with_t : {A : Type 0} → Took A → (A → St → R) → R
with_t (took t w) k = k t w
with_t missing k = fault

-- a variable's tree taken out: a number stays, a box leaves nothing behind and must not be lent
abbrev pub taken_as : Sig → ℕ → St → ℕ → Option Tree → Took Tree
taken_as p k w y None = missing
taken_as p k w y (Some Tree.bare) = missing
taken_as p zero w y (Some (Tree.num m)) = took (Tree.num m) w
taken_as p (suc k) w y (Some (Tree.num m)) = missing
taken_as p zero w y (Some (Tree.box t)) = missing
taken_as p (suc k) w y (Some (Tree.box t)) = cond (is_lent p y) missing (took (Tree.box t) (set_v w y Tree.bare))

abbrev pub taken : Sig → ℕ → St → ℕ → Took Tree
taken p k w y = taken_as p k w y (slice_get w.vars y)

-- a new box takes a cell
abbrev pub new_at : ℕ → St → Tree → (Tree → St → R) → R
new_at zero w t k = full
new_at (suc r) w t k = k (Tree.box t) (with_room w r)

abbrev pub new : St → Tree → (Tree → St → R) → R
new w t k = new_at w.room w t k

-- a statement that neither calls nor takes a turn
abbrev pub simple : Sig → S → St → R
simple p S.skip w = fine w
simple p (S.then a b) w = fault
simple p (S.set i e) w = number (value w e) (λ k. into p 0 i (Tree.num k) w)
simple p (S.box i j) w = with_t (taken p (kind p j) w j) (λ t u. new u t (λ b z. into p (kind p i) i b z))
simple p (S.unbox i j) w =
    need (slice_get w.vars j) (λ u. in_box u (λ t. guard (not (is_lent p j)) (into p (kind p i) i t (with_room (set_v w j Tree.bare) (suc w.room)))))
simple p (S.look i j) w = need (slice_get w.vars j) (λ u. in_box u (λ t. number (as_num t) (λ m. into p 0 i (Tree.num m) w)))
simple p (S.fill i j) w =
    with_t (taken p (kind p j) w j) (λ t u. need (slice_get u.vars i) (λ b. in_box b (λ old. guard (of_kind (kind p j) old) (fine (with_room (set_v u i (Tree.box t)) (weight old + u.room))))))
simple p (S.move i j) w = with_t (taken p (kind p j) w j) (λ t u. into p (kind p i) i t u)
simple p (S.drop i) w = into p (kind p i) i Tree.bare w
simple p (S.if e a b) w = fault
simple p (S.while e a) w = fault
simple p (S.call i f as₁) w = fault
simple p (S.show e) w = number (value w e) (λ k. fine (record { vars = w.vars; room = w.room; shown = w.shown ++ (k ∷ []); left = w.left }))

-- an argument that is lent moves too
abbrev pub lent_as : St → ℕ → Option Tree → Took Tree
lent_as w x None = missing
lent_as w x (Some (Tree.num m)) = took (Tree.num m) w
lent_as w x (Some Tree.bare) = missing
lent_as w x (Some (Tree.box t)) = took (Tree.box t) (set_v w x Tree.bare)

abbrev pub hand_one : Sig → ℕ → ℕ → ℕ → St → Took Tree
hand_one p zero k x w = taken p k w x
hand_one p (suc m) k x w = lent_as w x (slice_get w.vars x)

abbrev pub more : Tree → Took (List Tree) → Took (List Tree)
more t (took ts w) = took (t ∷ ts) w
more t missing = missing

abbrev pub onto : Took Tree → (Tree → St → Took (List Tree)) → Took (List Tree)
onto (took t w) k = k t w
onto missing k = missing

abbrev pub hand : Sig → List Arg → St → Took (List Tree)
hand p [] w = took [] w
hand p (a ∷ as₁) w = onto (hand_one p a.lent (kind p a.of) a.of w) (λ t u. more t (hand p as₁ u))

-- arguments are lent just where the one called says so, and marks are 0 or 1
abbrev pub fits : List Arg → List ℕ → Bool
fits [] [] = true
fits [] (m ∷ ms) = false
fits (a ∷ as₁) [] = false
fits (a ∷ as₁) (m ∷ ms) = (a.lent == m && nat_lt m 2) && fits as₁ ms

-- what variables hold before anything is put into them
abbrev pub blank : List ℕ → List Tree
blank [] = []
blank (k ∷ ks) = cond (k == 0) (Tree.num 0) Tree.bare ∷ blank ks

abbrev pub opening : Sig → List Tree → St → St
opening p ts w = with_vars w (ts ++ blank (drop (length ts) p.kinds))

-- a procedure ends: its variables from x on are given back, but for the result and lent arguments
abbrev pub end_one : Bool → Sig → ℕ → ℕ → St → R
end_one true p k x w = fine w
end_one false p k x w = into p k x Tree.bare w

abbrev pub ends : Sig → ℕ → List ℕ → St → R
ends p x [] w = fine w
ends p x (k ∷ ks) w = bind (end_one (stays p x) p k x w) (λ u. ends p (x + 1) ks u)

-- no box is among the trees
abbrev pub boxless : List Tree → Bool
boxless [] = true
boxless (Tree.num m ∷ ts) = boxless ts
boxless (Tree.bare ∷ ts) = boxless ts
boxless (Tree.box t ∷ ts) = false

-- a box put back into the caller's variables, where there is nothing now
abbrev pub put_back : ℕ → Tree → List Tree → Option Tree → Option (List Tree)
put_back x u tv None = None
put_back x u tv (Some (Tree.num m)) = None
put_back x u tv (Some Tree.bare) = Some (slice_set tv x u)
put_back x u tv (Some (Tree.box t)) = None

-- what an argument's variable is worth in the end: a box that was lent goes back, and no other is left
abbrev pub one_back : ℕ → Tree → ℕ → Option (List Tree) → Option (List Tree)
one_back m u x None = None
one_back m (Tree.num k) x (Some tv) = Some tv
one_back zero Tree.bare x (Some tv) = Some tv
one_back (suc m) Tree.bare x (Some tv) = None
one_back zero (Tree.box t) x (Some tv) = None
one_back (suc m) (Tree.box t) x (Some tv) = put_back x (Tree.box t) tv (slice_get tv x)

-- the caller's variables with what it had lent, from the variables us of the one that ended
abbrev pub restore : List Arg → List Tree → List Tree → Option (List Tree)
restore [] us tv = cond (boxless us) (Some tv) None
restore (a ∷ as₁) [] tv = None
restore (a ∷ as₁) (u ∷ us) tv = one_back a.lent u a.of (restore as₁ us tv)

-- a caller that waits: also which arguments it gave
pub record Frame : Type 0 where
  pub sig : Sig
  pub dest : ℕ
  pub todo : List S
  pub args : List Arg
  pub vars : List Tree

pub data Mach : Type 0 where
  going : ℕ → Sig → List S → St → List Frame → Mach
  stopped : R → Mach

abbrev pub and_m : R → (St → Mach) → Mach
and_m (fine w) k = k w
and_m fault k = stopped fault
and_m full k = stopped full
and_m spent k = stopped spent
and_m deep k = stopped deep

abbrev pub num_m : May → (ℕ → Mach) → Mach
num_m bad k = stopped fault
num_m (ok a) k = k a

abbrev pub turn_m : ℕ → St → (St → Mach) → Mach
turn_m zero w k = stopped spent
turn_m (suc l) w k = k (with_left w l)

abbrev pub hand_m : Took (List Tree) → (List Tree → St → Mach) → Mach
hand_m (took ts w) k = k ts w
hand_m missing k = stopped fault

abbrev pub enter_m : Option Proc → (Proc → Mach) → Mach
enter_m None k = stopped fault
enter_m (Some p) k = k p

abbrev pub begin_m : ℕ → Proc → List Tree → St → List Frame → Mach
begin_m d q ts w fs = turn_m w.left w (λ u. going d q.sig (push q.body []) (opening q.sig ts u) fs)

-- a call with these arguments, and so many more that may be open
abbrev pub call_m : Prog → ℕ → ℕ → List Arg → List Tree → St → List Frame → Mach
call_m g zero f as₁ ts w fs = stopped deep
call_m g (suc d) f as₁ ts w fs = enter_m (slice_get g f) (λ q. cond (fits as₁ q.sig.args) (begin_m d q ts w fs) (stopped fault))

abbrev pub step_s : Prog → ℕ → Sig → S → List S → St → List Frame → Mach
step_s g d p S.skip ss w fs = going d p ss w fs
step_s g d p (S.then a b) ss w fs = going d p (push a (push b ss)) w fs
step_s g d p (S.set x e) ss w fs = and_m (simple p (S.set x e) w) (λ u. going d p ss u fs)
step_s g d p (S.box x y) ss w fs = and_m (simple p (S.box x y) w) (λ u. going d p ss u fs)
step_s g d p (S.unbox x y) ss w fs = and_m (simple p (S.unbox x y) w) (λ u. going d p ss u fs)
step_s g d p (S.look x y) ss w fs = and_m (simple p (S.look x y) w) (λ u. going d p ss u fs)
step_s g d p (S.fill x y) ss w fs = and_m (simple p (S.fill x y) w) (λ u. going d p ss u fs)
step_s g d p (S.move x y) ss w fs = and_m (simple p (S.move x y) w) (λ u. going d p ss u fs)
step_s g d p (S.drop x) ss w fs = and_m (simple p (S.drop x) w) (λ u. going d p ss u fs)
step_s g d p (S.if e a b) ss w fs = num_m (value w e) (λ k. cond (k == 0) (going d p (push b ss) w fs) (going d p (push a ss) w fs))
step_s g d p (S.while e a) ss w fs = num_m (value w e) (λ k. cond (k == 0) (going d p ss w fs) (turn_m w.left w (λ u. going d p (push a (S.while e a ∷ ss)) u fs)))
step_s g d p (S.call x f as₁) ss w fs =
    hand_m (hand p as₁ w) (λ ts u. call_m g d f as₁ ts u (record { sig = p; dest = x; todo = ss; args = as₁; vars = u.vars } ∷ fs))
step_s g d p (S.show e) ss w fs = and_m (simple p (S.show e) w) (λ u. going d p ss u fs)

-- the run's result is a number, and no box is left; a call's result goes to the caller, with what was lent
abbrev pub last : Sig → St → R
last p w = need (slice_get w.vars p.result) (λ t. number (as_num t) (λ m. guard (boxless w.vars) (fine (with_vars w (Tree.num m ∷ [])))))

abbrev pub returns : Sig → Frame → St → R
returns p f w =
    need (slice_get w.vars p.result) (λ t. need (restore f.args (slice_set w.vars p.result Tree.bare) f.vars)
    (λ tv. into f.sig (kind f.sig f.dest) f.dest t (with_vars w tv)))

abbrev pub back : ℕ → Sig → List Frame → St → Mach
back d p [] w = stopped (last p w)
back d p (f ∷ fs) w = and_m (returns p f w) (λ u. going (suc d) f.sig f.todo u fs)

abbrev pub step : Prog → Mach → Mach
step g (stopped r) = stopped r
step g (going d p [] w fs) = and_m (ends p 0 p.kinds w) (λ u. back d p fs u)
step g (going d p (a ∷ ss) w fs) = step_s g d p a ss w fs

abbrev pub steps : Prog → ℕ → Mach → Mach
steps g zero m = m
steps g (suc i) m = steps g i (step g m)

abbrev pub start : Prog → ℕ → ℕ → ℕ → Mach
start g cells depth turns = call_m g depth 0 [] [] (record { vars = []; room = cells; shown = []; left = turns }) []

-- as many steps as it takes any run to end
abbrev pub run : Prog → ℕ → ℕ → ℕ → Mach
run g cells depth turns = steps g (turns * suc (length (row_ps g)) + 1) (start g cells depth turns)
