-- A strict step that comes to no fault is the step of the definition, for every program and any choice of cells.
-- Part by part: where the strict one finds what it needs, the other finds the same.
use Rattle.std.proofs.Common.{◌≡◌, ℕ, zero, suc, ◌+◌, Bool, true, false, cond, eqb, List, [], ◌∷◌, length, get_or, set, Some, None, Option, sym, refl, subst}
use Rattle.std.specs.List.{slice_get}
use Rattle.owned.specs.Program.{Arg, S, Sig, Proc, Prog, kind}
use Rattle.owned.specs.Runs.{Val, n, at, nothing, Cell, free, holds, St, R, fine, fault, full, spent, deep, bind, May, ok, bad, num, value, as_num, get, with_vars, with_cells, set_v, set_c, cell_at, in_box, held_in, give, Took, took, missing, with_t, taken_box, taken, into, hand_one, more, onto, hand, Chooser, new_at, opening, stays, end_one, ends, last}
use Rattle.owned.specs.Machine.{Frame, Mach, going, stopped, push, and_m, turn_m, hand_m, enter_m, call_m, simple, back, step_s, step}
use Rattle.owned.specs.Strict.{opened_by, closed, freed, or_fault, place, assign, taken_at, fetched, lent_at, pass_one, pass, perform, enters, close_one, closes, returned, strict_s, strict}
use Rattle.owned.proofs.Places.{none_some, get_or_nth}

-- cells given back are those of the definition
pub freed_give : (k : ℕ) (v : Val) (s : St) (ds : List Cell) → freed k v s.cells ≡ Some ds → give k v s ≡ fine (with_cells s ds)
freed_give zero v s ds e = let q : ds ≡ s.cells = cc in rw q refl
freed_give (suc k) (n m) s ds e = none_some ds e
freed_give (suc k) nothing s ds e = let q : ds ≡ s.cells = cc in rw q refl
freed_give (suc k) (at a b) s ds e = found (λ v es i. freed_give k v s es i) (cell_at s a) e
  where
    last_cell : (es : List Cell) (c : Cell) → opened_by b c (λ w. Some (set es a free)) ≡ Some ds → set es a free ≡ ds
    last_cell es free f = none_some ds f
    last_cell es (holds x w) f = same (eqb b x) f
      where
        same : (q : Bool) → cond q (Some (set es a free)) None ≡ Some ds → set es a free ≡ ds
        same false f = none_some ds f
        same true f = cc

    Inside : Type 0
    Inside = (v : Val) (es : List Cell) → freed k v s.cells ≡ Some es → give k v s ≡ fine (with_cells s es)

    inner : Inside → (v : Val) (o : Option (List Cell)) → freed k v s.cells ≡ o → closed a b o ≡ Some ds → bind (give k v s) (λ t. fine (set_c t a free)) ≡ fine (with_cells s ds)
    inner ih v None i f = none_some ds f
    inner ih v (Some es) i f = rw (ih v es i, last_cell es (get_or es a free) f) refl

    found : Inside → (c : Cell) → opened_by b c (λ v. closed a b (freed k v s.cells)) ≡ Some ds → held_in b c (λ v. bind (give k v s) (λ t. fine (set_c t a free))) ≡ fine (with_cells s ds)
    found ih free f = none_some ds f
    found ih (holds x v) f = same (eqb b x) f
      where
        same : (q : Bool) → cond q (closed a b (freed k v s.cells)) None ≡ Some ds → cond q (bind (give k v s) (λ t. fine (set_c t a free))) (fault 2) ≡ fine (with_cells s ds)
        same false f = none_some ds f
        same true f = inner ih v (freed k v s.cells) refl f

-- an outcome is the strict one, unless that is a fault
abbrev pub Refines : R → R → Type 0
Refines r (fine t) = r ≡ fine t
Refines r (fault f) = Unit {0}
Refines r full = r ≡ full
Refines r spent = r ≡ spent
Refines r deep = r ≡ deep

refines_self : (r : R) → Refines r r
refines_self (fine t) = refl
refines_self (fault f) = tt
refines_self full = refl
refines_self spent = refl
refines_self deep = refl

-- what was taken, likewise
abbrev pub RefinesTook : {A : Type 0} → Took A → Took A → Type 0
RefinesTook r (took v t) = r ≡ took v t
RefinesTook r missing = Unit {0}

took_self : {A : Type 0} (r : Took A) → RefinesTook r r
took_self (took v t) = refl
took_self missing = tt

-- each way to go on from a part
refines_bind : (r r' : R) (k k' : St → R) → Refines r r' → ((t : St) → Refines (k t) (k' t)) → Refines (bind r k) (bind r' k')
refines_bind r (fine t) k k' e f = rw e (f t)
refines_bind r (fault x) k k' e f = tt
refines_bind r full k k' e f = rw e refl
refines_bind r spent k k' e f = rw e refl
refines_bind r deep k k' e f = rw e refl

refines_there : {A : Type 0} (r : R) (o : Option A) (k : A → R) → ((a : A) → o ≡ Some a → Refines r (k a)) → Refines r (or_fault o k)
refines_there r None k f = tt
refines_there r (Some a) k f = f a refl

refines_number : (m : May) (k k' : ℕ → R) → ((a : ℕ) → Refines (k a) (k' a)) → Refines (num m k) (num m k')
refines_number bad k k' f = tt
refines_number (ok a) k k' f = f a

refines_box : (v : Val) (k k' : ℕ → ℕ → R) → ((a b : ℕ) → Refines (k a b) (k' a b)) → Refines (in_box v k) (in_box v k')
refines_box (n m) k k' f = tt
refines_box nothing k k' f = tt
refines_box (at a b) k k' f = f a b

refines_held : (b : ℕ) (c : Cell) (k k' : Val → R) → ((v : Val) → Refines (k v) (k' v)) → Refines (held_in b c k) (held_in b c k')
refines_held b free k k' f = tt
refines_held b (holds x v) k k' f = go (eqb b x)
  where
    go : (q : Bool) → Refines (cond q (k v) (fault 2)) (cond q (k' v) (fault 2))
    go true = f v
    go false = tt

refines_still : (r : R) (b : ℕ) (c : Cell) → Refines r (held_in b c (λ v. r))
refines_still r b free = tt
refines_still r b (holds x v) = go (eqb b x)
  where
    go : (q : Bool) → Refines r (cond q r (fault 2))
    go true = refines_self r
    go false = tt

refines_took : {A : Type 0} (r r' : Took A) (k k' : A → St → R) → RefinesTook r r' → ((v : A) (t : St) → Refines (k v t) (k' v t)) → Refines (with_t r k) (with_t r' k')
refines_took r (took v t) k k' e f = rw e (f v t)
refines_took r missing k k' e f = tt

refines_new : (o : Option ℕ) (s : St) (v : Val) (k k' : Val → St → R) → ((x : Val) (t : St) → Refines (k x t) (k' x t)) → Refines (new_at o s v k) (new_at o s v k')
refines_new None s v k k' f = refl
refines_new (Some a) s v k k' f = f _ _

-- a value put into a variable, a value taken out of one, arguments
place_into : (k x : ℕ) (v : Val) (s : St) → Refines (into k x v s) (place k x v s)
place_into k x v s =
    refines_there (into k x v s) (slice_get s.vars x) _ (λ u e. refines_there (into k x v s) (freed k u s.cells) _ (λ cs f. rw (get_or_nth s.vars x u nothing e, freed_give k u s cs f) refl))

assign_set : (x k : ℕ) (s : St) → Refines (fine (set_v s x (n k))) (assign x k s)
assign_set x k s = refines_there (fine (set_v s x (n k))) (slice_get s.vars x) _ (λ u e. refl)

fetched_taken : (k : ℕ) (s : St) (x : ℕ) → RefinesTook (taken k s x) (fetched k s x)
fetched_taken k s x = go k (slice_get s.vars x) refl
  where
    go : (k : ℕ) (o : Option Val) → slice_get s.vars x ≡ o → RefinesTook (taken k s x) (taken_at k s x o)
    go k None e = tt
    go zero (Some v) e = rw (get_or_nth s.vars x v nothing e) refl
    go (suc k) (Some v) e = rw (get_or_nth s.vars x v nothing e) (took_self (taken_box s x v))

lent_there : (s : St) (x : ℕ) → RefinesTook (took (get s x) s) (lent_at s (slice_get s.vars x))
lent_there s x = go (slice_get s.vars x) refl
  where
    go : (o : Option Val) → slice_get s.vars x ≡ o → RefinesTook (took (get s x) s) (lent_at s o)
    go None e = tt
    go (Some v) e = rw (get_or_nth s.vars x v nothing e) refl

pass_hand : (p : Sig) (as₁ : List Arg) (s : St) → RefinesTook (hand p as₁ s) (pass p as₁ s)
pass_hand p [] s = refl
pass_hand p (a ∷ as₁) s = first (pass_one a.lent (kind p a.of) a.of s) (one a.lent) (λ t. pass_hand p as₁ t)
  where
    one : (m : ℕ) → RefinesTook (hand_one m (kind p a.of) a.of s) (pass_one m (kind p a.of) a.of s)
    one zero = fetched_taken (kind p a.of) s a.of
    one (suc m) = lent_there s a.of

    rest : (v : Val) (r r' : Took (List Val)) → RefinesTook r r' → RefinesTook (more v r) (more v r')
    rest v r (took vs t) e = rw e refl
    rest v r missing e = tt

    first : (o : Took Val) → RefinesTook (hand_one a.lent (kind p a.of) a.of s) o → ((t : St) → RefinesTook (hand p as₁ t) (pass p as₁ t)) → RefinesTook (hand p (a ∷ as₁) s) (onto o (λ v t. more v (pass p as₁ t)))
    first (took v t) e f = rw e (rest v (hand p as₁ t) (pass p as₁ t) (f t))
    first missing e f = tt

-- what was in a box given back, and the box filled again
refill : (k : ℕ) (old : Val) (t : St) (cs : List Cell) (a b : ℕ) (v : Val) → freed k old t.cells ≡ Some cs
    → Refines (bind (give k old t) (λ u. fine (set_c u a (holds b v)))) (held_in b (cell_at (with_cells t cs) a) (λ w. fine (set_c (with_cells t cs) a (holds b v))))
refill k old t cs a b v f =
    subst (λ (z : R). Refines (bind z (λ u. fine (set_c u a (holds b v)))) (held_in b (cell_at (with_cells t cs) a) (λ w. fine (set_c (with_cells t cs) a (holds b v))))) (sym (freed_give k old t cs f))
    (refines_still (fine (set_c (with_cells t cs) a (holds b v))) b (cell_at (with_cells t cs) a))

-- a statement that neither calls nor takes a turn
perform_simple : (ch : Chooser) (p : Sig) (a : S) (s : St) → Refines (simple ch p a s) (perform ch p a s)
perform_simple ch p S.skip s = refl
perform_simple ch p (S.then a b) s = tt
perform_simple ch p (S.set i e) s = refines_number (value s e) _ _ (λ k. assign_set i k s)
perform_simple ch p (S.box i j) s = refines_took (taken (kind p j) s j) (fetched (kind p j) s j) _ _ (fetched_taken (kind p j) s j) (λ v t. refines_new (ch t.made t.cells) t v _ _ (λ b u. place_into (kind p i) i b u))
perform_simple ch p (S.unbox i j) s = refines_box (get s j) _ _ (λ a b. refines_held b (cell_at s a) _ _ (λ v. place_into (kind p i) i v (set_v (set_c s a free) j nothing)))
perform_simple ch p (S.look i j) s = refines_box (get s j) _ _ (λ a b. refines_held b (cell_at s a) _ _ (λ v. refines_number (as_num v) _ _ (λ k. assign_set i k s)))
perform_simple ch p (S.fill i j) s =
    refines_box (get s i) _ _ (λ a b. refines_took (taken (kind p j) s j) (fetched (kind p j) s j) _ _ (fetched_taken (kind p j) s j) (λ v t.
    refines_held b (cell_at t a) _ _ (λ old. refines_there _ (freed (kind p j) old t.cells) _ (λ cs f. refill (kind p j) old t cs a b v f))))
perform_simple ch p (S.move i j) s = refines_took (taken (kind p j) s j) (fetched (kind p j) s j) _ _ (fetched_taken (kind p j) s j) (λ v t. place_into (kind p i) i v t)
perform_simple ch p (S.drop i) s = place_into (kind p i) i nothing s
perform_simple ch p (S.if e a b) s = tt
perform_simple ch p (S.while e a) s = tt
perform_simple ch p (S.call i f as₁) s = tt
perform_simple ch p (S.show e) s = refines_number (value s e) _ _ (λ k. refl)

-- the end of a procedure
closes_ends : (p : Sig) (x : ℕ) (ks : List ℕ) (s : St) → Refines (ends p x ks s) (closes p x ks s)
closes_ends p x [] s = refl
closes_ends p x (k ∷ ks) s = refines_bind (end_one (stays p x) k x s) (close_one (stays p x) k x s) _ _ (one (stays p x)) (λ t. closes_ends p (x + 1) ks t)
  where
    one : (b : Bool) → Refines (end_one b k x s) (close_one b k x s)
    one true = refl
    one false = place_into k x nothing s

-- a machine after a step is the strict one, unless that is a fault
abbrev pub RefinesMach : Mach → Mach → Type 0
RefinesMach m (going d p ss s fs) = m ≡ going d p ss s fs
RefinesMach m (stopped (fine s)) = m ≡ stopped (fine s)
RefinesMach m (stopped (fault f)) = Unit {0}
RefinesMach m (stopped full) = m ≡ stopped full
RefinesMach m (stopped spent) = m ≡ stopped spent
RefinesMach m (stopped deep) = m ≡ stopped deep

mach_self : (m : Mach) → RefinesMach m m
mach_self (going d p ss s fs) = refl
mach_self (stopped (fine s)) = refl
mach_self (stopped (fault f)) = tt
mach_self (stopped full) = refl
mach_self (stopped spent) = refl
mach_self (stopped deep) = refl

mach_stopped : (r r' : R) → Refines r r' → RefinesMach (stopped r) (stopped r')
mach_stopped r (fine s) e = rw e refl
mach_stopped r (fault f) e = tt
mach_stopped r full e = rw e refl
mach_stopped r spent e = rw e refl
mach_stopped r deep e = rw e refl

mach_and : (r r' : R) (k k' : St → Mach) → Refines r r' → ((t : St) → RefinesMach (k t) (k' t)) → RefinesMach (and_m r k) (and_m r' k')
mach_and r (fine t) k k' e f = rw e (f t)
mach_and r (fault x) k k' e f = tt
mach_and r full k k' e f = rw e refl
mach_and r spent k k' e f = rw e refl
mach_and r deep k k' e f = rw e refl

mach_hand : (r r' : Took (List Val)) (k k' : List Val → St → Mach) → RefinesTook r r' → ((vs : List Val) (t : St) → RefinesMach (k vs t) (k' vs t)) → RefinesMach (hand_m r k) (hand_m r' k')
mach_hand r (took vs t) k k' e f = rw e (f vs t)
mach_hand r missing k k' e f = tt

pub enters_call : (g : Prog) (d f : ℕ) (vs : List Val) (t : St) (fs : List Frame) → RefinesMach (call_m g d f vs t fs) (enters g d f vs t fs)
enters_call g zero f vs t fs = refl
enters_call g (suc d) f vs t fs = go (slice_get g f)
  where
    checked : (b : Bool) (m : Mach) → RefinesMach m (cond b m (stopped (fault 4)))
    checked true m = mach_self m
    checked false m = tt

    begin : Proc → Mach
    begin q = turn_m t.left t (λ u. going d q.sig (push q.body []) (opening q.sig vs u) fs)

    go : (o : Option Proc) → RefinesMach (enter_m o (λ q. begin q)) (enter_m o (λ q. cond (eqb (length vs) (length q.sig.args)) (begin q) (stopped (fault 4))))
    go None = tt
    go (Some q) = checked (eqb (length vs) (length q.sig.args)) (begin q)

returned_back : (d : ℕ) (p : Sig) (fs : List Frame) (v : St) → RefinesMach (back d p fs v) (returned d p fs v)
returned_back d p [] v = mach_stopped _ _ (refines_there _ (slice_get v.vars p.result) _ (λ u e. rw (get_or_nth v.vars p.result u nothing e) (refines_self (last u (with_vars v [])))))
returned_back d p (f ∷ fs) v =
    mach_and _ _ _ _ (refines_there _ (slice_get v.vars p.result) _ (λ u e. rw (get_or_nth v.vars p.result u nothing e) (place_into (kind f.sig f.dest) f.dest u (with_vars v f.vars)))) (λ w. refl)

module _ (ch : Chooser) (g : Prog) where
  after : (d : ℕ) (p : Sig) (a : S) (ss : List S) (s : St) (fs : List Frame) → RefinesMach (and_m (simple ch p a s) (λ t. going d p ss t fs)) (and_m (perform ch p a s) (λ t. going d p ss t fs))
  after d p a ss s fs = mach_and (simple ch p a s) (perform ch p a s) _ _ (perform_simple ch p a s) (λ t. refl)

  statement_strict : (d : ℕ) (p : Sig) (a : S) (ss : List S) (s : St) (fs : List Frame) → RefinesMach (step_s ch g d p a ss s fs) (strict_s ch g d p a ss s fs)
  statement_strict d p S.skip ss s fs = refl
  statement_strict d p (S.then a b) ss s fs = refl
  statement_strict d p (S.set x e) ss s fs = after d p (S.set x e) ss s fs
  statement_strict d p (S.box x y) ss s fs = after d p (S.box x y) ss s fs
  statement_strict d p (S.unbox x y) ss s fs = after d p (S.unbox x y) ss s fs
  statement_strict d p (S.look x y) ss s fs = after d p (S.look x y) ss s fs
  statement_strict d p (S.fill x y) ss s fs = after d p (S.fill x y) ss s fs
  statement_strict d p (S.move x y) ss s fs = after d p (S.move x y) ss s fs
  statement_strict d p (S.drop x) ss s fs = after d p (S.drop x) ss s fs
  statement_strict d p (S.if e a b) ss s fs = mach_self (step_s ch g d p (S.if e a b) ss s fs)
  statement_strict d p (S.while e a) ss s fs = mach_self (step_s ch g d p (S.while e a) ss s fs)
  statement_strict d p (S.call x f as₁) ss s fs = mach_hand (hand p as₁ s) (pass p as₁ s) _ _ (pass_hand p as₁ s) (λ vs t. enters_call g d f vs t (record { sig = p; dest = x; todo = ss; vars = t.vars } ∷ fs))
  statement_strict d p (S.show e) ss s fs = after d p (S.show e) ss s fs

  pub step_strict : (m : Mach) → RefinesMach (step ch g m) (strict ch g m)
  step_strict (stopped r) = mach_self (stopped r)
  step_strict (going d p [] s fs) = mach_and (ends p 0 p.kinds s) (closes p 0 p.kinds s) _ _ (closes_ends p 0 p.kinds s) (λ v. returned_back d p fs v)
  step_strict (going d p (a ∷ ss) s fs) = statement_strict d p a ss s fs
