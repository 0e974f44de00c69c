-- One holder for each cell, from ownership by trees: as each tree is given back, the count of what refers to a cell
-- and the count of cells in use fall together; and a caller holds again what it lent, if that were given back now.
use Rattle.std.proofs.Common.{◌≡◌, ℕ, zero, suc, ◌+◌, ◌≤◌, Bool, true, false, cond, eqb, ◌⊎◌, List, [], ◌∷◌, ◌++◌, length, get_or, set, Some, sym, refl, ap, ◌∙◌, inl, inr, arith}
use lib.Dec.{eqb-zero-suc, eqb-suc-zero, eqb-suc-suc}
use Rattle.std.specs.List.{slice_get}
use Rattle.std.proofs.lemmas.List.{get_or-set_other}
use Rattle.std.proofs.lemmas.Bool.{cases_eq, both_ways, or_left}
use Rattle.owned.specs.Program.{Arg, S, Sig, Prog, bit, kind, is_lent}
use Rattle.owned.specs.Runs.{Val, nothing, Cell, free, holds, St, get, used}
use Rattle.owned.specs.Machine.{Frame}
use Rattle.owned.specs.Kept.{Full, is_full}
use Rattle.owned.specs.Values
use Rattle.owned.specs.Values.{Tree, fits}
use Rattle.owned.specs.Holders.{Owns, OwnsAll, refers, refer_all, within, busy, mine, owners, LentBelow, Filled, Held}
use Rattle.owned.proofs.Places.{none_some, get_or_nth, get_or_set_default}
use Rattle.owned.proofs.Marks.{fits_lent, fits_arg, fits_many}
use Rattle.owned.proofs.Trees.{owns_map, all_map, pull, stow, owns_append}
use Rattle.owned.proofs.TypingRules.{keeps_all_lem, Shaped}
use Rattle.owned.proofs.Typing.{whole, VarsTyped, nowhere}
use Rattle.owned.proofs.TypingCalls.{Leaves}
use Rattle.owned.proofs.TypingEnds.{lent_lt}
use Rattle.owned.proofs.TypingSteps
use Rattle.owned.proofs.TypingSteps.{lent_has}
use Rattle.owned.proofs.Simulation.{Sim}
use Rattle.owned.proofs.SimulationCalls.{patch}
use Rattle.owned.proofs.SimulationReturn.{Unmoved, restore_sim}
use Rattle.owned.proofs.SimulationSteps.{Below, Stack, Empty}

-- freeing a cell: what it holds refers no more, and it is not in use
within_free : (cs : List Cell) (a c b : ℕ) (v : Val) → slice_get cs c ≡ Some (holds b v) → within a cs ≡ refers a v + within a (set cs c free)
within_free [] a c b v e = none_some (holds b v) e
within_free (d ∷ cs) a zero b v e = let q : d ≡ holds b v = cc in rw q (omega arith)
within_free (d ∷ cs) a (suc c) b v e = let h = within_free cs a c b v e in omega arith

busy_free : (cs : List Cell) (a c b : ℕ) (v : Val) → slice_get cs c ≡ Some (holds b v) → busy (get_or cs a free) ≡ bit (eqb a c) + busy (get_or (set cs c free) a free)
busy_free [] a c b v e = none_some (holds b v) e
busy_free (d ∷ cs) zero zero b v e = let q : d ≡ holds b v = cc in rw q
busy_free (d ∷ cs) zero (suc c) b v e = rw eqb-zero-suc (omega arith)
busy_free (d ∷ cs) (suc a) zero b v e = rw eqb-suc-zero (omega arith)
busy_free (d ∷ cs) (suc a) (suc c) b v e = rw eqb-suc-suc (busy_free cs a c b v e)

-- as many refer to the cell a, r of them from elsewhere, as there are in use
abbrev Balanced : ℕ → ℕ → List Cell → Type 0
Balanced a r cs = r + within a cs ≡ busy (get_or cs a free)

balance : (t : Tree) (v : Val) (cs : List Cell) (a r : ℕ) → Owns t v (Balanced a r) cs → Balanced a (refers a v + r) cs
balance (Tree.num m) v cs a r h = rw h.0 (omega (arith, h.1))
balance Tree.bare v cs a r h = rw h.0 (omega (arith, h.1))
balance (Tree.box t) v cs a r (c, b, w, e, q, h) = rw e (omega (arith, balance t w (set cs c free) a r h, within_free cs a c b w q, busy_free cs a c b w q))

balance_all : (ts : List Tree) (vs : List Val) (cs : List Cell) (a r : ℕ) → OwnsAll ts vs (Balanced a r) cs → Balanced a (refer_all a vs + r) cs
balance_all [] [] cs a r h = omega (arith, h)
balance_all [] (v ∷ vs) cs a r h = elim h [ ]
balance_all (t ∷ ts) [] cs a r h = elim h [ ]
balance_all (t ∷ ts) (v ∷ vs) cs a r h =
    omega (arith, balance t v cs a (refer_all a vs + r) (owns_map t v (OwnsAll ts vs (Balanced a r)) (Balanced a (refer_all a vs + r)) cs (λ ds p. balance_all ts vs ds a r p) h))

-- where no cell is in use nothing refers
none_within : (cs : List Cell) (a : ℕ) → used cs ≡ 0 → within a cs ≡ 0
none_within [] a e = refl
none_within (free ∷ cs) a e = let h = none_within cs a e in omega arith
none_within (holds b v ∷ cs) a e = let z : ⊥ = omega arith in elim z [ ]

none_busy : (cs : List Cell) (a : ℕ) → used cs ≡ 0 → busy (get_or cs a free) ≡ 0
none_busy [] a e = refl
none_busy (free ∷ cs) zero e = refl
none_busy (free ∷ cs) (suc a) e = none_busy cs a e
none_busy (holds b v ∷ cs) a e = let z : ⊥ = omega arith in elim z [ ]

-- where the cells in use are all owned, each is referred to once
one_each : (ts : List Tree) (vs : List Val) (cs : List Cell) (a : ℕ) → OwnsAll ts vs Empty cs → refer_all a vs + within a cs ≡ busy (get_or cs a free)
one_each ts vs cs a o = let h = balance_all ts vs cs a 0 (all_map ts vs Empty (Balanced a 0) cs (λ ds e. omega (arith, none_within ds a e, none_busy ds a e)) o) in omega arith

-- of a procedure's variables only the lent arguments, the others empty
abbrev theirs : {A : Type 0} → A → List ℕ → List A → List A
theirs d [] vs = []
theirs d (m ∷ ms) [] = []
theirs d (m ∷ ms) (v ∷ vs) = cond (eqb m 1) v d ∷ theirs d ms vs

theirs_many : {A : Type 0} (d : A) (ms : List ℕ) (vs : List A) → length ms ≤ length vs → length (theirs d ms vs) ≡ length ms
theirs_many d [] vs l = refl
theirs_many d (m ∷ ms) [] l = let z : ⊥ = omega arith in elim z [ ]
theirs_many d (m ∷ ms) (v ∷ vs) l = ap suc (theirs_many d ms vs (omega arith))

theirs_lent : {A : Type 0} (d : A) (ms : List ℕ) (vs : List A) (x : ℕ) (v : A) → eqb (get_or ms x 0) 1 ≡ true → slice_get vs x ≡ Some v → slice_get (theirs d ms vs) x ≡ Some v
theirs_lent d [] vs x v l e = elim (both_ways false refl l) [ ]
theirs_lent d (m ∷ ms) [] x v l e = none_some v e
theirs_lent d (m ∷ ms) (u ∷ vs) zero v l e = rw l e
theirs_lent d (m ∷ ms) (u ∷ vs) (suc x) v l e = theirs_lent d ms vs x v l e

theirs_value : (ms : List ℕ) (vs : List Val) (x : ℕ) → eqb (get_or ms x 0) 1 ≡ true → get_or (theirs nothing ms vs) x nothing ≡ get_or vs x nothing
theirs_value [] vs x l = elim (both_ways false refl l) [ ]
theirs_value (m ∷ ms) [] x l = refl
theirs_value (m ∷ ms) (v ∷ vs) zero l = rw l refl
theirs_value (m ∷ ms) (v ∷ vs) (suc x) l = theirs_value ms vs x l

theirs_box : (ms : List ℕ) (ts : List Tree) (x : ℕ) (t : Tree) → slice_get (theirs Tree.bare ms ts) x ≡ Some (Tree.box t) → eqb (get_or ms x 0) 1 ≡ true
theirs_box [] ts x t e = none_some (Tree.box t) e
theirs_box (m ∷ ms) [] x t e = none_some (Tree.box t) e
theirs_box (m ∷ ms) (u ∷ ts) zero t e = go (eqb m 1) refl
  where
    go : (b : Bool) → eqb m 1 ≡ b → eqb m 1 ≡ true
    go true q = q
    go false q = let e' = rw q at e in let z : ◌≡◌ {A = ℕ} 0 1 = cc in let y : ⊥ = omega arith in elim y [ ]
theirs_box (m ∷ ms) (u ∷ ts) (suc x) t e = theirs_box ms ts x t e

-- variables are a procedure's own ones and the lent arguments
parted : (ms : List ℕ) (ts : List Tree) (vs : List Val) (P : List Cell → Type 0) (cs : List Cell) → OwnsAll ts vs P cs → OwnsAll (mine ms ts) (mine ms vs) (OwnsAll (theirs Tree.bare ms ts) (theirs nothing ms vs) P) cs
parted [] ts vs P cs h = h
parted (m ∷ ms) [] [] P cs h = h
parted (m ∷ ms) [] (v ∷ vs) P cs h = elim h [ ]
parted (m ∷ ms) (t ∷ ts) [] P cs h = elim h [ ]
parted (m ∷ ms) (t ∷ ts) (v ∷ vs) P cs h = go (eqb m 1) (owns_map t v (OwnsAll ts vs P) (OwnsAll (mine ms ts) (mine ms vs) Rest) cs (λ ds p. parted ms ts vs P ds p) h)
  where
    Rest : List Cell → Type 0
    Rest = OwnsAll (theirs Tree.bare ms ts) (theirs nothing ms vs) P

    go : (b : Bool) → Owns t v (OwnsAll (mine ms ts) (mine ms vs) Rest) cs
        → OwnsAll (cond b (mine ms ts) (t ∷ mine ms ts)) (cond b (mine ms vs) (v ∷ mine ms vs)) (OwnsAll (cond b t Tree.bare ∷ theirs Tree.bare ms ts) (cond b v nothing ∷ theirs nothing ms vs) P) cs
    go true o = stow t v (mine ms ts) (mine ms vs) Rest cs o
    go false o = owns_map t v (OwnsAll (mine ms ts) (mine ms vs) Rest) (OwnsAll (mine ms ts) (mine ms vs) (λ ds. (nothing ≡ nothing) × Rest ds)) cs (λ ds p. all_map (mine ms ts) (mine ms vs) Rest (λ es. (nothing ≡ nothing) × Rest es) ds (λ es q. (refl, q)) p) o

-- what was lent could go back now
lent_leaves : (p : Sig) (c : Full) (ts : List Tree) (bs : List Arg) → Shaped p → fits bs p.args ≡ true → VarsTyped p c nowhere ts → Leaves p.kinds bs (theirs Tree.bare p.args ts)
lent_leaves p c ts bs sh fb ty = record {
  many = omega (arith, theirs_many Tree.bare p.args ts (omega (arith, sh.fits, ty.len)), fits_many bs p.args fb);
  lent = λ i a m e l. (let il = fits_lent bs p.args i a m fb e l in let (t, et, ft) = lent_has p c ts i il ty in (t, theirs_lent Tree.bare p.args ts i t il et, ft));
  boxes = λ i t e. (let (a, ea, la) = fits_arg bs p.args i fb (theirs_box p.args ts i t e) in (a, 0, ea, la));
}

no_marks : {A : Type 0} (ms : List ℕ) (vs : List A) → length ms ≡ 0 → mine ms vs ≡ vs
no_marks [] vs e = refl
no_marks (m ∷ ms) vs e = let z : ⊥ = omega arith in elim z [ ]

module _ (g : Prog) where
  -- ownership, procedure by procedure
  owned : (fs : List Values.Frame) (p : Sig) (c : Full) (ts : List Tree) (vs ws : List Val) (gs : List (List Val)) (hs : List Frame) → TypingSteps.Stack g p fs → Stack Empty p ws fs gs hs → Shaped p → VarsTyped p c nowhere ts
      → ((x : ℕ) → is_lent p x ≡ true → get_or vs x nothing ≡ get_or ws x nothing) → (us : List Tree) × ((cs : List Cell) → OwnsAll ts vs (Below Empty fs gs) cs → OwnsAll us (owners p vs hs) Empty cs)
  owned [] p c ts vs ws gs hs (na, _) st sh ty same = (ts, λ cs o. rw (st, no_marks p.args vs na) o)
  owned (f ∷ fs) p c ts vs ws [] hs sty st sh ty same = elim st [ ]
  owned (f ∷ fs) p c ts vs ws (gv ∷ gs) [] sty st sh ty same = elim st [ ]
  owned (f ∷ fs) p c ts vs ws (gv ∷ gs) (h ∷ hs) (wt, sty) (ws', wm, st) sh ty same =
      let below : List Val = patch f.args ws gv in
      let ts' : List Tree = theirs Tree.bare p.args ts in let vs' : List Val = theirs nothing p.args vs in
      let (tv, er, y) = wt.back ts' (lent_leaves p c ts f.args sh wt.fit ty) in
      let (us, k) = owned fs f.sig wt.mask tv below ws' gs hs sty st wt.shape y wm.same in
      let unmoved : Unmoved f.args ts' vs' ws = λ i b m u eb el eu nb. (let il = fits_lent f.args p.args i b m wt.fit eb el in theirs_value p.args vs i il ∙ same i il) in
      let is = wm.is in (
        mine p.args ts ++ us,
        λ cs o. rw is (owns_append (mine p.args ts) us (mine p.args vs) (owners f.sig below hs) Empty cs (all_map (mine p.args ts) (mine p.args vs) (OwnsAll ts' vs' (Below Empty (f ∷ fs) (gv ∷ gs))) (OwnsAll us (owners f.sig below hs) Empty) cs
            (λ ds q. k ds (restore_sim f.args ts' vs' ws f.vars gv (Below Empty fs gs) ds tv wm.many unmoved er q)) (parted p.args ts vs (Below Empty (f ∷ fs) (gv ∷ gs)) cs o))),
      )

  -- a lent box is in a variable of the procedure below
  lent_below : (fs : List Values.Frame) (p : Sig) (vs ws : List Val) (gs : List (List Val)) (hs : List Frame) → TypingSteps.Stack g p fs → Stack Empty p ws fs gs hs → ((x : ℕ) → is_lent p x ≡ true → get_or vs x nothing ≡ get_or ws x nothing) → LentBelow p vs hs
  lent_below [] p vs ws gs hs (na, _) st same = rw st (λ x l. (let lt = lent_lt p x l in omega arith))
  lent_below (f ∷ fs) p vs ws [] hs sty st same = elim st [ ]
  lent_below (f ∷ fs) p vs ws (gv ∷ gs) [] sty st same = elim st [ ]
  lent_below (f ∷ fs) p vs ws (gv ∷ gs) (h ∷ hs) (wt, sty) (ws', wm, st) same = let is = wm.is in
      rw is (λ x a b l e. wm.lends x a b l (sym (same x l) ∙ e), lent_below fs f.sig (patch f.args ws gv) ws' gs hs sty st wm.same)

-- a whole tree is laid out in cells in use, all the way down
filled_before : (k : ℕ) (v : Val) (cs : List Cell) (a : ℕ) → Filled k v (set cs a free) → Filled k v cs
filled_before zero v cs a h = h
filled_before (suc k) v cs a (c, b, w, e, q, h) = (c, b, w, e, go (cases_eq c a), filled_before k w cs a h)
  where
    go : (c ≡ a) ⊎ (c ≡ a → ⊥) → get_or cs c free ≡ holds b w
    go (inl r) = let q' = rw r at q in let f = get_or_set_default cs a free in let z : ◌≡◌ {A = ℕ} 0 1 = cc in let y : ⊥ = omega arith in elim y [ ]
    go (inr ne) = sym (get_or-set_other cs a c free free ne) ∙ q

owns_filled : (k : ℕ) (t : Tree) (v : Val) (P : List Cell → Type 0) (cs : List Cell) → whole k t ≡ true → Owns t v P cs → Filled k v cs
owns_filled zero (Tree.num m) v P cs f h = (m, h.0)
owns_filled zero Tree.bare v P cs f h = elim (both_ways false refl f) [ ]
owns_filled zero (Tree.box t) v P cs f h = elim (both_ways false refl f) [ ]
owns_filled (suc k) (Tree.num m) v P cs f h = elim (both_ways false refl f) [ ]
owns_filled (suc k) Tree.bare v P cs f h = elim (both_ways false refl f) [ ]
owns_filled (suc k) (Tree.box t) v P cs f (a, b, w, e, c, h) = (a, b, w, e, get_or_nth cs a (holds b w) free c, filled_before k w cs a (owns_filled k t w P (set cs a free) f h))

-- all that is said of a state
pub held : (g : Prog) (p : Sig) (ss : List S) (s : St) (hs : List Frame) (w : Values.St) (fs : List Values.Frame) (ws : List Val) (gs : List (List Val)) → Sim p (Below Empty fs gs) ws s w → Stack Empty p ws fs gs hs → TypingSteps.Open g p ss w fs → Held g p ss s hs
held g p ss s hs w fs ws gs i st o =
    let (us, k) = owned g fs p o.mask w.vars s.vars ws gs hs o.stack st o.shape o.typed i.same in
    let own = k s.cells i.own in
    record {
      owned = (us, own);
      once = λ a. one_each us (owners p s.vars hs) s.cells a own;
      lent = lent_below g fs p s.vars ws gs hs o.stack st i.same;
      mask = o.mask;
      keeping = keeps_all_lem g p ss o.mask o.todo;
      filled = λ x f. (let (t, et, ft) = o.typed.has x (or_left (is_full o.mask x) (is_lent p x) f) refl in owns_filled (kind p x) t (get s x) _ s.cells ft (pull w.vars s.vars x t (Below Empty fs gs) s.cells et i.own));
    }
