-- The two machines go step for step, as long as the value machine does not fault, with any choice of free cells.
-- B is what others have in the same cells: a run leaves it alone.
use Rattle.std.proofs.Common.{◌≡◌, ℕ, zero, suc, ◌≤◌, Bool, true, false, cond, eqb, List, [], ◌∷◌, length, get_or, drop, set, replicate, Some, None, Option, sym, refl, ap, ◌∙◌, subst, arith, length-append}
use Rattle.std.specs.List.{slice_get}
use Rattle.std.proofs.lemmas.List.{get_or_append_left}
use Rattle.std.proofs.lemmas.Bool.{eq-eqb}
use Rattle.owned.specs.Program.{Arg, S, Sig, Proc, Prog, kind, is_lent}
use Rattle.owned.specs.Runs.{Val, n, at, nothing, Cell, free, St, R, fine, fault, full, spent, deep, May, ok, bad, value, get, with_vars, with_left, Took, Chooser, blank, opening, last, used, at_start}
use Rattle.owned.specs.Machine.{Frame, Mach, going, stopped, push, and_m, num_m, turn_m, hand_m, enter_m, call_m, step, start}
use Rattle.owned.specs.Strict.{or_fault, place, pass, perform, enters, returned, strict_s, strict}
use Rattle.owned.specs.Values
use Rattle.owned.specs.Values.{Tree, fits, boxless, restore}
use Rattle.owned.specs.Holders.{Owns, OwnsAll, frees, Chooses}
use Rattle.owned.proofs.Places.{nth_lt}
use Rattle.owned.proofs.Marks.{fits_arg, fits_many}
use Rattle.owned.proofs.Refinement.{RefinesMach, enters_call, step_strict}
use Rattle.owned.proofs.Trees.{owns_map, pull, stow}
use Rattle.owned.proofs.Simulation.{Sim, Simulated, sim_need, var_there, value_same, place_sim}
use Rattle.owned.proofs.SimulationStatements.{perform_sim, closes_sim}
use Rattle.owned.proofs.SimulationCalls.{patch, patch_append, Lends, Given, HandSim, pass_sim}
use Rattle.owned.proofs.SimulationReturn.{begun, begun_owns, boxless_owns, unmoved_result, restore_sim}

module _ (B : List Cell → Type 0) where
  -- what suspended procedures hold and have not lent: gs has the values of each without the boxes lent to the one above
  abbrev pub Below : List Values.Frame → List (List Val) → List Cell → Type 0
  Below [] gs cs = B cs
  Below (f ∷ fs) [] cs = ⊥
  Below (f ∷ fs) (gv ∷ gs) cs = OwnsAll f.vars gv (Below fs gs) cs

  -- a procedure h that waits for q, which began with ws; ws' is what it began with itself
  pub record Waits (q : Sig) (ws : List Val) (f : Values.Frame) (gv : List Val) (h : Frame) (ws' : List Val) : Type 0 where
    pub is : h ≡ record { sig = f.sig; dest = f.dest; todo = f.todo; vars = patch f.args ws gv }
    pub fit : fits f.args q.args ≡ true
    pub many : length f.args ≤ length ws
    pub same : (x : ℕ) → is_lent f.sig x ≡ true → get_or (patch f.args ws gv) x nothing ≡ get_or ws' x nothing
    pub lends : (x c b : ℕ) → is_lent q x ≡ true → get_or ws x nothing ≡ at c b → (y : ℕ) × (get_or (patch f.args ws gv) y nothing ≡ at c b)

  abbrev pub Stack : Sig → List Val → List Values.Frame → List (List Val) → List Frame → Type 0
  Stack q ws [] gs hs = hs ≡ []
  Stack q ws (f ∷ fs) [] hs = ⊥
  Stack q ws (f ∷ fs) (gv ∷ gs) [] = ⊥
  Stack q ws (f ∷ fs) (gv ∷ gs) (h ∷ hs) = (ws' : List Val) × Waits q ws f gv h ws' × Stack f.sig ws' fs gs hs

  -- a machine that goes on as the value machine does
  pub record Open (m : Mach) (d : ℕ) (p : Sig) (ss : List S) (w : Values.St) (fs : List Values.Frame) : Type 0 where
    pub s : St
    pub hs : List Frame
    pub ws : List Val
    pub gs : List (List Val)
    pub is : m ≡ going d p ss s hs
    pub sim : Sim p (Below fs gs) ws s w
    pub stack : Stack p ws fs gs hs

  -- and one that is done
  pub record Closed (m : Mach) (w : Values.St) : Type 0 where
    pub s : St
    pub result : ℕ
    pub is : m ≡ stopped (fine s)
    pub vars : s.vars ≡ n result ∷ []
    pub trees : w.vars ≡ Tree.num result ∷ []
    pub shown : w.shown ≡ s.shown
    pub left : w.left ≡ s.left
    pub clean : B s.cells
    pub room : w.room ≡ frees s.cells

  abbrev pub MachSim : Mach → Values.Mach → Type 0
  MachSim m (Values.going d p ss w fs) = Open m d p ss w fs
  MachSim m (Values.stopped (Values.fine w)) = Closed m w
  MachSim m (Values.stopped Values.fault) = Unit {0}
  MachSim m (Values.stopped Values.full) = m ≡ stopped full
  MachSim m (Values.stopped Values.spent) = m ≡ stopped spent
  MachSim m (Values.stopped Values.deep) = m ≡ stopped deep

  and_sim : (Q : St → Values.St → Type 0) (r : R) (v : Values.R) (k : St → Mach) (k' : Values.St → Values.Mach) → Simulated Q r v → ((s : St) (w : Values.St) → Q s w → MachSim (k s) (k' w)) → MachSim (and_m r k) (Values.and_m v k')
  and_sim Q r (Values.fine w) k k' (s, e, q) f = rw e (f s w q)
  and_sim Q r Values.fault k k' h f = tt
  and_sim Q r Values.full k k' h f = rw h refl
  and_sim Q r Values.spent k k' h f = rw h refl
  and_sim Q r Values.deep k k' h f = rw h refl

  turn_sim : (s : St) (w : Values.St) (k : St → Mach) (k' : Values.St → Values.Mach) → w.left ≡ s.left → ((l : ℕ) → MachSim (k (with_left s l)) (k' (Values.with_left w l))) → MachSim (turn_m s.left s k) (Values.turn_m w.left w k')
  turn_sim s w k k' e f = subst (λ (l : ℕ). MachSim (turn_m s.left s k) (Values.turn_m l w k')) (sym e) (go s.left)
    where
      go : (l : ℕ) → MachSim (turn_m l s k) (Values.turn_m l w k')
      go zero = refl
      go (suc l) = f l

  cond_sim : (b : Bool) (m m' : Mach) (v v' : Values.Mach) → MachSim m v → MachSim m' v' → MachSim (cond b m m') (cond b v v')
  cond_sim true m m' v v' h h' = h
  cond_sim false m m' v v' h h' = h'

  num_sim : (m : May) (k : ℕ → Mach) (k' : ℕ → Values.Mach) → ((a : ℕ) → MachSim (k a) (k' a)) → MachSim (num_m m k) (Values.num_m m k')
  num_sim bad k k' f = tt
  num_sim (ok a) k k' f = f a

  -- the value machine has not come to a fault
  abbrev pub NoFault : Values.Mach → Type 0
  NoFault (Values.going d p ss w fs) = Unit {0}
  NoFault (Values.stopped (Values.fine w)) = Unit {0}
  NoFault (Values.stopped Values.fault) = ⊥
  NoFault (Values.stopped Values.full) = Unit {0}
  NoFault (Values.stopped Values.spent) = Unit {0}
  NoFault (Values.stopped Values.deep) = Unit {0}

  -- then what goes as it does strictly goes so by the definition
  pub agreed : (m m' : Mach) (v : Values.Mach) → NoFault v → MachSim m' v → RefinesMach m m' → m ≡ m'
  agreed m m' (Values.going d p ss w fs) f h r = let e = h.is in (rw e at r) ∙ sym e
  agreed m m' (Values.stopped (Values.fine w)) f h r = let e = h.is in (rw e at r) ∙ sym e
  agreed m m' (Values.stopped Values.fault) f h r = elim f [ ]
  agreed m m' (Values.stopped Values.full) f h r = (rw h at r) ∙ sym h
  agreed m m' (Values.stopped Values.spent) f h r = (rw h at r) ∙ sym h
  agreed m m' (Values.stopped Values.deep) f h r = (rw h at r) ∙ sym h

  refined : (m m' : Mach) (v : Values.Mach) → MachSim m' v → RefinesMach m m' → MachSim m v
  refined m m' (Values.going d p ss w fs) h r = subst (λ z. MachSim z (Values.going d p ss w fs)) (sym (agreed m m' (Values.going d p ss w fs) tt h r)) h
  refined m m' (Values.stopped (Values.fine w)) h r = subst (λ z. MachSim z (Values.stopped (Values.fine w))) (sym (agreed m m' (Values.stopped (Values.fine w)) tt h r)) h
  refined m m' (Values.stopped Values.fault) h r = tt
  refined m m' (Values.stopped Values.full) h r = agreed m m' (Values.stopped Values.full) tt h r ∙ h
  refined m m' (Values.stopped Values.spent) h r = agreed m m' (Values.stopped Values.spent) tt h r ∙ h
  refined m m' (Values.stopped Values.deep) h r = agreed m m' (Values.stopped Values.deep) tt h r ∙ h

  -- a procedure begins
  enters_sim : (g : Prog) (d f : ℕ) (bs : List Arg) (ts : List Tree) (vs : List Val) (t : St) (w : Values.St) (fs : List Values.Frame) (hs : List Frame) (gs : List (List Val)) → OwnsAll ts vs (Below fs gs) t.cells → w.room ≡ frees t.cells → w.shown ≡ t.shown → w.left ≡ t.left
      → length vs ≡ length bs → ((q : Sig) → fits bs q.args ≡ true → Stack q (begun q vs) fs gs hs) → MachSim (enters g d f vs t hs) (Values.call_m g d f bs ts w fs)
  enters_sim g zero f bs ts vs t w fs hs gs o r s l m st = refl
  enters_sim g (suc d) f bs ts vs t w fs hs gs o r s l m st = go (slice_get g f)
    where
      begin : Proc → Mach
      begin q = turn_m t.left t (λ u. going d q.sig (push q.body []) (opening q.sig vs u) hs)

      checked : Proc → Mach
      checked q = cond (eqb (length vs) (length q.sig.args)) (begin q) (stopped (fault 4))

      fitting : (q : Proc) (b : Bool) → fits bs q.sig.args ≡ b → MachSim (checked q) (cond b (Values.begin_m d q ts w fs) (Values.stopped Values.fault))
      fitting q true e = rw (eq-eqb (length vs) (length q.sig.args) (m ∙ fits_many bs q.sig.args e)) (turn_sim t w _ _ l (λ j. record {
        s = _;
        hs = hs;
        ws = begun q.sig vs;
        gs = gs;
        is = refl;
        stack = st q.sig e;
        sim = record { own = begun_owns q.sig ts vs (Below fs gs) t.cells o; same = λ x e. refl; room = r; shown = s; left = refl };
      }))
      fitting q false e = tt

      go : (o : Option Proc) → MachSim (enter_m o (λ q. checked q)) (Values.enter_m o (λ q. cond (fits bs q.sig.args) (Values.begin_m d q ts w fs) (Values.stopped Values.fault)))
      go None = tt
      go (Some q) = fitting q (fits bs q.sig.args) refl

  -- a run begins
  pub begin_sim : (g : Prog) (d : ℕ) (t : St) (w : Values.St) → B t.cells → w.room ≡ frees t.cells → w.shown ≡ t.shown → w.left ≡ t.left → MachSim (call_m g d 0 [] t []) (Values.call_m g d 0 [] [] w [])
  begin_sim g d t w o r s l = refined (call_m g d 0 [] t []) (enters g d 0 [] t []) (Values.call_m g d 0 [] [] w []) (enters_sim g d 0 [] [] [] t w [] [] [] o r s l refl (λ q f. refl)) (enters_call g d 0 [] t [])

  -- a procedure returns
  return_sim : (d : ℕ) (p : Sig) (ws : List Val) (f : Values.Frame) (fs : List Values.Frame) (gv : List Val) (gs : List (List Val)) (h : Frame) (hs : List Frame) (ws' : List Val) (s : St) (w : Values.St) → Sim p (Below (f ∷ fs) (gv ∷ gs)) ws s w → Waits p ws f gv h ws'
      → Simulated (Sim f.sig (Below fs gs) ws') (or_fault (slice_get s.vars p.result) (λ u. place (kind f.sig f.dest) f.dest u (with_vars s (patch f.args ws gv)))) (Values.returns p f w)
  return_sim d p ws f fs gv gs h hs ws' s w i wt =
      let v : Val = get s p.result in let P : List Cell → Type 0 = Below fs gs in let vs : List Val = patch f.args ws gv in
      sim_need (Sim f.sig P ws') _ (slice_get w.vars p.result) _ (λ t e.
      sim_need (Sim f.sig P ws') _ (restore f.args (set w.vars p.result Tree.bare) f.vars) _ (λ tv q. (
      let o = pull w.vars s.vars p.result t (Below (f ∷ fs) (gv ∷ gs)) s.cells e i.own in
      let o' : Owns t v (OwnsAll tv vs P) s.cells = owns_map t v _ (OwnsAll tv vs P) s.cells
      (λ ds z. restore_sim f.args (set w.vars p.result Tree.bare) (set s.vars p.result nothing) ws f.vars gv P ds tv wt.many (unmoved_result p f.args w.vars s.vars ws p.result wt.fit i.same) q z) o in
      let K : ℕ = kind f.sig f.dest in
      subst (λ (z : Option Val). Simulated (Sim f.sig P ws') (or_fault z (λ u. place K f.dest u (with_vars s vs))) (Values.into f.sig K f.dest t (Values.with_vars w tv)))
      (sym (var_there w.vars s.vars p.result t (Below (f ∷ fs) (gv ∷ gs)) s.cells e i.own))
      (place_sim f.sig P ws' (kind f.sig f.dest) f.dest t v (with_vars s vs) (Values.with_vars w tv) (record { own = stow t v tv vs P s.cells o'; same = wt.same; room = i.room; shown = i.shown; left = i.left })))))

  -- the run's result
  last_sim : (p : Sig) (ws : List Val) (gs : List (List Val)) (s : St) (w : Values.St) → Sim p (Below [] gs) ws s w → MachSim (stopped (or_fault (slice_get s.vars p.result) (λ u. last u (with_vars s [])))) (Values.stopped (Values.last p w))
  last_sim p ws gs s w i = go (slice_get w.vars p.result) refl
    where
      ended : (m : ℕ) → slice_get w.vars p.result ≡ Some (Tree.num m) → (b : Bool) → boxless w.vars ≡ b → MachSim (stopped (or_fault (slice_get s.vars p.result) (λ u. last u (with_vars s [])))) (Values.stopped (Values.guard b (Values.fine (Values.with_vars w (Tree.num m ∷ [])))))
      ended m e false b = tt
      ended m e true b =
          let q = (pull w.vars s.vars p.result (Tree.num m) (Below [] gs) s.cells e i.own).0 in
          record { s = with_vars s (n m ∷ []); result = m; is = rw (var_there w.vars s.vars p.result (Tree.num m) (Below [] gs) s.cells e i.own, q) refl; vars = refl; trees = refl; shown = i.shown; left = i.left; clean = boxless_owns w.vars s.vars (Below [] gs) s.cells b i.own; room = i.room }

      go : (o : Option Tree) → slice_get w.vars p.result ≡ o → MachSim (stopped (or_fault (slice_get s.vars p.result) (λ u. last u (with_vars s [])))) (Values.stopped (Values.need o (λ t. Values.number (Values.as_num t) (λ m. Values.guard (boxless w.vars) (Values.fine (Values.with_vars w (Tree.num m ∷ [])))))))
      go None e = tt
      go (Some (Tree.num m)) e = ended m e (boxless w.vars) refl
      go (Some Tree.bare) e = tt
      go (Some (Tree.box t)) e = tt

  returned_sim : (d : ℕ) (p : Sig) (ws : List Val) (fs : List Values.Frame) (gs : List (List Val)) (hs : List Frame) (s : St) (w : Values.St) → Stack p ws fs gs hs → Sim p (Below fs gs) ws s w → MachSim (returned d p hs s) (Values.back d p fs w)
  returned_sim d p ws [] gs hs s w st i = rw st (last_sim p ws gs s w i)
  returned_sim d p ws (f ∷ fs) [] hs s w st i = elim st [ ]
  returned_sim d p ws (f ∷ fs) (gv ∷ gs) [] s w st i = elim st [ ]
  returned_sim d p ws (f ∷ fs) (gv ∷ gs) (h ∷ hs) s w (ws', wt, st) i =
      subst (λ z. MachSim (returned d p (z ∷ hs) s) (Values.back d p (f ∷ fs) w)) (sym wt.is)
      (and_sim (Sim f.sig (Below fs gs) ws') _ (Values.returns p f w) _ _ (return_sim d p ws f fs gv gs h hs ws' s w i wt) (λ s' w' i'. record { s = s'; hs = hs; ws = ws'; gs = gs; is = refl; sim = i'; stack = st }))

  -- a step
  module _ (ch : Chooser) (c : Chooses ch) (g : Prog) where
    module _ (d : ℕ) (p : Sig) (ss : List S) (s : St) (w : Values.St) (fs : List Values.Frame) (hs : List Frame) (ws : List Val) (gs : List (List Val)) (i : Sim p (Below fs gs) ws s w) (st : Stack p ws fs gs hs) where
      on : (rest : List S) (t : St) (u : Values.St) → Sim p (Below fs gs) ws t u → MachSim (going d p rest t hs) (Values.going d p rest u fs)
      on rest t u j = record { s = t; hs = hs; ws = ws; gs = gs; is = refl; sim = j; stack = st }

      after : (a : S) → MachSim (and_m (perform ch p a s) (λ t. going d p ss t hs)) (Values.and_m (Values.simple p a w) (λ u. Values.going d p ss u fs))
      after a = and_sim (Sim p (Below fs gs) ws) (perform ch p a s) (Values.simple p a w) _ _ (perform_sim p (Below fs gs) ws ch s w i c a) (λ t u j. on ss t u j)

      -- what a caller is while it waits
      waits : (x : ℕ) (bs : List Arg) (r : Took (List Val)) (ts : List Tree) (w' : Values.St) (G : Given p (Below fs gs) ws bs r ts w') (q : Sig) → fits bs q.args ≡ true
          → Waits q (begun q G.vs) (record { sig = p; dest = x; todo = ss; args = bs; vars = w'.vars }) G.gv (record { sig = p; dest = x; todo = ss; vars = G.u.vars }) ws
      waits x bs r ts w' G q fb = go G.vs G.u G.gv G.vars G.many G.same G.lends
        where
          go : (vs : List Val) (u : St) (gv : List Val) → u.vars ≡ patch bs vs gv → length vs ≡ length bs → ((y : ℕ) → is_lent p y ≡ true → get u y ≡ get_or ws y nothing)
              → Lends bs vs u.vars → Waits q (begun q vs) (record { sig = p; dest = x; todo = ss; args = bs; vars = w'.vars }) gv (record { sig = p; dest = x; todo = ss; vars = u.vars }) ws
          go vs u gv ev mn sm ln =
              let tail : List Val = blank (drop (length vs) q.kinds) in
              let pm : patch bs (begun q vs) gv ≡ u.vars = patch_append bs vs tail gv mn ∙ sym ev in
              record {
                is = ap (λ l. record { sig = p; dest = x; todo = ss; vars = l }) (sym pm);
                fit = fb;
                many = omega (arith, length-append vs tail);
                same = λ y l. (rw pm (sm y l));
                lends = λ y k b l e. (let (a, ea, la) = fits_arg bs q.args y fb l in let n = nth_lt bs y a ea in rw pm (ln y a 0 k b ea la (sym (get_or_append_left vs tail nothing y (omega arith)) ∙ e)));
              }

      called : (x f : ℕ) (bs : List Arg) (r : Took (List Val)) (o : Values.Took (List Tree)) → HandSim p (Below fs gs) ws bs r o
          → MachSim (hand_m r (λ vs t. enters g d f vs t (record { sig = p; dest = x; todo = ss; vars = t.vars } ∷ hs))) (Values.hand_m o (λ ts t. Values.call_m g d f bs ts t (record { sig = p; dest = x; todo = ss; args = bs; vars = t.vars } ∷ fs)))
      called x f bs r Values.missing G = tt
      called x f bs r (Values.took ts w') G =
          let e = G.is in
          rw e (enters_sim g d f bs ts G.vs G.u w' (record { sig = p; dest = x; todo = ss; args = bs; vars = w'.vars } ∷ fs) (record { sig = p; dest = x; todo = ss; vars = G.u.vars } ∷ hs) (G.gv ∷ gs) G.own G.room G.shown G.left G.many
          (λ q fb. (ws, waits x bs r ts w' G q fb, st)))

      statement_sim : (a : S) → MachSim (strict_s ch g d p a ss s hs) (Values.step_s g d p a ss w fs)
      statement_sim S.skip = on ss s w i
      statement_sim (S.then a b) = on (push a (push b ss)) s w i
      statement_sim (S.set x e) = after (S.set x e)
      statement_sim (S.box x y) = after (S.box x y)
      statement_sim (S.unbox x y) = after (S.unbox x y)
      statement_sim (S.look x y) = after (S.look x y)
      statement_sim (S.fill x y) = after (S.fill x y)
      statement_sim (S.move x y) = after (S.move x y)
      statement_sim (S.drop x) = after (S.drop x)
      statement_sim (S.if e a b) = rw (value_same (Below fs gs) s w e i.own) (num_sim (value s e) _ _ (λ k. cond_sim (eqb k 0) _ _ _ _ (on (push b ss) s w i) (on (push a ss) s w i)))
      statement_sim (S.while e a) = rw (value_same (Below fs gs) s w e i.own) (num_sim (value s e) _ _ (λ k. cond_sim (eqb k 0) _ _ _ _ (on ss s w i) (turn_sim s w _ _ i.left (λ l.
          on (push a (S.while e a ∷ ss)) (with_left s l) (Values.with_left w l) (record { own = i.own; same = i.same; room = i.room; shown = i.shown; left = refl })))))
      statement_sim (S.call x f bs) = called x f bs (pass p bs s) (Values.hand p bs w) (pass_sim p bs (Below fs gs) ws s w i)
      statement_sim (S.show e) = after (S.show e)

    pub strict_sim : (m : Mach) (v : Values.Mach) → MachSim m v → MachSim (strict ch g m) (Values.step g v)
    strict_sim m (Values.going d p [] w fs) o = let e = o.is in
        rw e (and_sim (Sim p (Below fs o.gs) o.ws) _ (Values.ends p 0 p.kinds w) _ _ (closes_sim p (Below fs o.gs) o.ws 0 p.kinds o.s w o.sim) (λ s' w' i'. returned_sim d p o.ws fs o.gs o.hs s' w' o.stack i'))
    strict_sim m (Values.going d p (a ∷ ss) w fs) o = let e = o.is in rw e (statement_sim d p ss o.s w fs o.hs o.ws o.gs o.sim o.stack a)
    strict_sim m (Values.stopped (Values.fine w)) o = let e = o.is in rw e (record { s = o.s; result = o.result; is = refl; vars = o.vars; trees = o.trees; shown = o.shown; left = o.left; clean = o.clean; room = o.room })
    strict_sim m (Values.stopped Values.fault) o = tt
    strict_sim m (Values.stopped Values.full) o = rw o refl
    strict_sim m (Values.stopped Values.spent) o = rw o refl
    strict_sim m (Values.stopped Values.deep) o = rw o refl

    -- so a step is what the strict one is
    pub step_sim : (m : Mach) (v : Values.Mach) → MachSim m v → MachSim (step ch g m) (Values.step g v)
    step_sim m v h = refined (step ch g m) (strict ch g m) (Values.step g v) (strict_sim m v h) (step_strict ch g m)

-- a run by itself: every cell is free at the start, and nobody has any
abbrev pub Empty : List Cell → Type 0
Empty cs = used cs ≡ 0

none_used : (c : ℕ) → used (replicate c free) ≡ 0
none_used zero = refl
none_used (suc c) = none_used c

all_free : (c : ℕ) → c ≡ frees (replicate c free)
all_free zero = refl
all_free (suc c) = ap suc (all_free c)

pub start_sim : (g : Prog) (cells depth turns : ℕ) → MachSim Empty (start g cells depth turns) (Values.start g cells depth turns)
start_sim g cells depth turns = begin_sim Empty g depth (at_start cells turns) _ (none_used cells) (all_free cells) refl refl
