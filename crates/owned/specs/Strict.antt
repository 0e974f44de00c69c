-- A strict step: what memory could not do is a fault. A box's cell must still be its own once what was in it is given
-- back, so that a cell given back twice is a fault, and a variable has to be there. For a program that keeps the rules
-- it is the step of the definition.
use Rattle.std.specs.Prelude.{ℕ, zero, suc, ◌+◌, Bool, true, false, cond, List, [], ◌∷◌, ◌++◌, length, Some, None, Option, ◌==◌, slice_index_or, slice_set}
use Rattle.std.specs.List.{slice_get}
use Rattle.owned.specs.Program.{Arg, S, Sig, Prog, kind}
use Rattle.owned.specs.Runs.{Val, n, at, nothing, Cell, free, holds, St, R, fine, fault, deep, bind, as_num, value, num, get, with_vars, with_cells, set_v, set_c, in_box, held, Chooser, new, Took, took, missing, with_t, taken_box, more, onto, opening, stays, last}
use Rattle.owned.specs.Machine.{Frame, Mach, going, stopped, push, and_m, num_m, turn_m, hand_m, enter_m}

-- what is in a cell, if it is that of the box with stamp b
abbrev pub opened_by : ℕ → Cell → (Val → Option (List Cell)) → Option (List Cell)
opened_by b free k = None
opened_by b (holds c v) k = cond (b == c) (k v) None

-- the box's cell once what was in it is given back: it has to be the box's still
abbrev pub closed : ℕ → ℕ → Option (List Cell) → Option (List Cell)
closed a b None = None
closed a b (Some cs) = opened_by b (slice_index_or cs a free) (λ v. Some (slice_set cs a free))

-- what is left of cells once a value of kind k is given back
abbrev pub freed : ℕ → Val → List Cell → Option (List Cell)
freed zero v cs = Some cs
freed (suc k) (n m) cs = None
freed (suc k) nothing cs = Some cs
freed (suc k) (at a b) cs = opened_by b (slice_index_or cs a free) (λ v. closed a b (freed k v cs))

-- what has to be there
abbrev pub or_fault : {A : Type 0} → Option A → (A → R) → R
or_fault None k = fault 1
or_fault (Some a) k = k a

-- a value put into a variable of kind k that is there, what was there given back
abbrev pub place : ℕ → ℕ → Val → St → R
place k x v s = or_fault (slice_get s.vars x) (λ u. or_fault (freed k u s.cells) (λ cs. fine (set_v (with_cells s cs) x v)))

-- a number put into a variable that is there
abbrev pub assign : ℕ → ℕ → St → R
assign x k s = or_fault (slice_get s.vars x) (λ u. fine (set_v s x (n k)))

-- a value taken out of a variable that is there
abbrev pub taken_at : ℕ → St → ℕ → Option Val → Took Val
taken_at k s x None = missing
taken_at zero s x (Some v) = took v s
taken_at (suc k) s x (Some v) = taken_box s x v

abbrev pub fetched : ℕ → St → ℕ → Took Val
fetched k s x = taken_at k s x (slice_get s.vars x)

-- arguments handed over or lent
abbrev pub lent_at : St → Option Val → Took Val
lent_at s None = missing
lent_at s (Some v) = took v s

abbrev pub pass_one : ℕ → ℕ → ℕ → St → Took Val
pass_one zero k x s = fetched k s x
pass_one (suc m) k x s = lent_at s (slice_get s.vars x)

abbrev pub pass : Sig → List Arg → St → Took (List Val)
pass p [] s = took [] s
pass p (a ∷ as₁) s = onto (pass_one a.lent (kind p a.of) a.of s) (λ v t. more v (pass p as₁ t))

-- a statement that neither calls nor takes a turn; a cell that is filled is still its box's
abbrev pub perform : Chooser → Sig → S → St → R
perform ch p S.skip s = fine s
perform ch p (S.then a b) s = fault 1
perform ch p (S.set i e) s = num (value s e) (λ k. assign i k s)
perform ch p (S.box i j) s = with_t (fetched (kind p j) s j) (λ v t. new ch t v (λ b u. place (kind p i) i b u))
perform ch p (S.unbox i j) s = in_box (get s j) (λ a b. held s a b (λ v. place (kind p i) i v (set_v (set_c s a free) j nothing)))
perform ch p (S.look i j) s = in_box (get s j) (λ a b. held s a b (λ v. num (as_num v) (λ k. assign i k s)))
perform ch p (S.fill i j) s =
    in_box (get s i) (λ a b. with_t (fetched (kind p j) s j) (λ v t. held t a b (λ old. or_fault (freed (kind p j) old t.cells)
    (λ cs. held (with_cells t cs) a b (λ w. fine (set_c (with_cells t cs) a (holds b v)))))))
perform ch p (S.move i j) s = with_t (fetched (kind p j) s j) (λ v t. place (kind p i) i v t)
perform ch p (S.drop i) s = place (kind p i) i nothing s
perform ch p (S.if e a b) s = fault 1
perform ch p (S.while e a) s = fault 1
perform ch p (S.call i f as₁) s = fault 1
perform ch p (S.show e) s = num (value s e) (λ k. fine (record { vars = s.vars; cells = s.cells; shown = s.shown ++ (k ∷ []); left = s.left; made = s.made }))

-- a call: with as many arguments as the procedure has
abbrev pub enters : Prog → ℕ → ℕ → List Val → St → List Frame → Mach
enters g zero f vs t fs = stopped deep
enters g (suc d) f vs t fs =
    enter_m (slice_get g f) (λ q. cond (length vs == length q.sig.args) (turn_m t.left t (λ u. going d q.sig (push q.body []) (opening q.sig vs u) fs)) (stopped (fault 4)))

abbrev pub strict_s : Chooser → Prog → ℕ → Sig → S → List S → St → List Frame → Mach
strict_s ch g d p S.skip ss s fs = going d p ss s fs
strict_s ch g d p (S.then a b) ss s fs = going d p (push a (push b ss)) s fs
strict_s ch g d p (S.set x e) ss s fs = and_m (perform ch p (S.set x e) s) (λ t. going d p ss t fs)
strict_s ch g d p (S.box x y) ss s fs = and_m (perform ch p (S.box x y) s) (λ t. going d p ss t fs)
strict_s ch g d p (S.unbox x y) ss s fs = and_m (perform ch p (S.unbox x y) s) (λ t. going d p ss t fs)
strict_s ch g d p (S.look x y) ss s fs = and_m (perform ch p (S.look x y) s) (λ t. going d p ss t fs)
strict_s ch g d p (S.fill x y) ss s fs = and_m (perform ch p (S.fill x y) s) (λ t. going d p ss t fs)
strict_s ch g d p (S.move x y) ss s fs = and_m (perform ch p (S.move x y) s) (λ t. going d p ss t fs)
strict_s ch g d p (S.drop x) ss s fs = and_m (perform ch p (S.drop x) s) (λ t. going d p ss t fs)
strict_s ch g d p (S.if e a b) ss s fs = num_m (value s e) (λ k. cond (k == 0) (going d p (push b ss) s fs) (going d p (push a ss) s fs))
strict_s ch g d p (S.while e a) ss s fs = num_m (value s e) (λ k. cond (k == 0) (going d p ss s fs) (turn_m s.left s (λ t. going d p (push a (S.while e a ∷ ss)) t fs)))
strict_s ch g d p (S.call x f as₁) ss s fs = hand_m (pass p as₁ s) (λ vs t. enters g d f vs t (record { sig = p; dest = x; todo = ss; vars = t.vars } ∷ fs))
strict_s ch g d p (S.show e) ss s fs = and_m (perform ch p (S.show e) s) (λ t. going d p ss t fs)

-- the end of a procedure
abbrev pub close_one : Bool → ℕ → ℕ → St → R
close_one true k x s = fine s
close_one false k x s = place k x nothing s

abbrev pub closes : Sig → ℕ → List ℕ → St → R
closes p x [] s = fine s
closes p x (k ∷ ks) s = bind (close_one (stays p x) k x s) (λ t. closes p (x + 1) ks t)

abbrev pub returned : ℕ → Sig → List Frame → St → Mach
returned d p [] v = stopped (or_fault (slice_get v.vars p.result) (λ u. last u (with_vars v [])))
returned d p (f ∷ fs) v =
    and_m (or_fault (slice_get v.vars p.result) (λ u. place (kind f.sig f.dest) f.dest u (with_vars v f.vars))) (λ w. going (suc d) f.sig f.todo w fs)

abbrev pub strict : Chooser → Prog → Mach → Mach
strict ch g (stopped r) = stopped r
strict ch g (going d p [] s fs) = and_m (closes p 0 p.kinds s) (λ v. returned d p fs v)
strict ch g (going d p (a ∷ ss) s fs) = strict_s ch g d p a ss s fs
