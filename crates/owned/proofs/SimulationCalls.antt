-- Calls: a box that is lent moves in the value machine and stays where it is with cells, and comes back at the end.
-- Between is `gv`, the caller's values without what it lent: the callee owns its arguments beside those.
use Rattle.std.proofs.Common.{◌≡◌, ℕ, zero, suc, true, false, ◌⊎◌, List, [], ◌∷◌, ◌++◌, length, get_or, set, Some, None, Option, sym, refl, ap, ◌∙◌, subst, inl, inr, arith}
use Rattle.std.specs.List.{slice_get}
use Rattle.std.proofs.lemmas.List.{get_or-set_other, set-set}
use Rattle.std.proofs.lemmas.Bool.{cases_eq}
use Rattle.owned.specs.Program.{Arg, Sig, kind, is_lent}
use Rattle.owned.specs.Runs.{Val, n, at, nothing, Cell, St, set_v, get, Took, took}
use Rattle.owned.specs.Strict.{fetched, pass}
use Rattle.owned.specs.Kept.{again}
use Rattle.owned.specs.Values
use Rattle.owned.specs.Values.{Tree}
use Rattle.owned.specs.Holders.{Owns, OwnsAll, frees}
use Rattle.owned.proofs.Places.{none_some, nth_set, set_nth, get_or_nth, get_or_set_default}
use Rattle.owned.proofs.Trees.{all_map, pull, stow, unstow}
use Rattle.owned.proofs.Simulation.{Sim, var_there, TookSim, take_sim}
use Rattle.owned.proofs.SimulationArguments.{pass_apart, bare_apart}

-- a caller's values from those without what it lent: the lent boxes put back
abbrev pub patch_one : ℕ → Val → ℕ → List Val → List Val
patch_one zero v x gv = gv
patch_one (suc m) (n k) x gv = gv
patch_one (suc m) nothing x gv = gv
patch_one (suc m) (at a b) x gv = set gv x (at a b)

abbrev pub patch : List Arg → List Val → List Val → List Val
patch [] vs gv = gv
patch (a ∷ as₁) [] gv = gv
patch (a ∷ as₁) (v ∷ vs) gv = patch_one a.lent v a.of (patch as₁ vs gv)

pub patch_append : (bs : List Arg) (vs zs gv : List Val) → length vs ≡ length bs → patch bs (vs ++ zs) gv ≡ patch bs vs gv
patch_append [] vs zs gv e = refl
patch_append (b ∷ bs) [] zs gv e = let z : ⊥ = omega arith in elim z [ ]
patch_append (b ∷ bs) (v ∷ vs) zs gv e = ap (λ l. patch_one b.lent v b.of l) (patch_append bs vs zs gv (omega arith))

-- each box that is lent is in a variable of the caller, whose values are us
abbrev pub Lends : List Arg → List Val → List Val → Type 0
Lends bs vs us = (i : ℕ) (a : Arg) (m c b : ℕ) → slice_get bs i ≡ Some a → a.lent ≡ suc m → get_or vs i nothing ≡ at c b → (y : ℕ) × (get_or us y nothing ≡ at c b)

lends_cons : (a : Arg) (bs : List Arg) (v : Val) (vs us : List Val) → ((m c b : ℕ) → a.lent ≡ suc m → v ≡ at c b → (y : ℕ) × (get_or us y nothing ≡ at c b)) → Lends bs vs us → Lends (a ∷ bs) (v ∷ vs) us
lends_cons a bs v vs us h f zero b m c d eb el ev = let q : a ≡ b = cc in h m c d (rw q el) ev
lends_cons a bs v vs us h f (suc i) b m c d eb el ev = f i b m c d eb el ev

-- also where an empty variable is filled
lends_set : (bs : List Arg) (vs us : List Val) (x : ℕ) (v : Val) → slice_get us x ≡ Some nothing → Lends bs vs us → Lends bs vs (set us x v)
lends_set bs vs us x v em f i a m c b ea el ev = let (y, ey) = f i a m c b ea el ev in (y, get_or-set_other us x y v nothing (λ r. empty y ey r) ∙ ey)
  where
    empty : (y : ℕ) → get_or us y nothing ≡ at c b → y ≡ x → ⊥
    empty y ey r = let ex = rw r at ey in let q = get_or_nth us x nothing nothing em in let z : ◌≡◌ {A = ℕ} 0 1 = cc in omega arith

-- What is known once arguments are handed over: the callee's values own its trees beside what the caller has left,
-- the caller's variables are those with the lent boxes put back, and each lent box is one of them.
pub record Given (p : Sig) (P : List Cell → Type 0) (ws : List Val) (bs : List Arg) (r : Took (List Val)) (ts : List Tree) (w : Values.St) : Type 0 where
  pub vs : List Val
  pub u : St
  pub gv : List Val
  pub is : r ≡ took vs u
  pub own : OwnsAll ts vs (OwnsAll w.vars gv P) u.cells
  pub vars : u.vars ≡ patch bs vs gv
  pub many : length vs ≡ length bs
  pub same : (x : ℕ) → is_lent p x ≡ true → get u x ≡ get_or ws x nothing
  pub lends : Lends bs vs u.vars
  pub room : w.room ≡ frees u.cells
  pub shown : w.shown ≡ u.shown
  pub left : w.left ≡ u.left

abbrev pub HandSim : Sig → (List Cell → Type 0) → List Val → List Arg → Took (List Val) → Values.Took (List Tree) → Type 0
HandSim p P ws bs r (Values.took ts w) = Given p P ws bs r ts w
HandSim p P ws bs r Values.missing = Unit {0}

-- lent arguments are as they came, also where the same variable is emptied in both
same_blank : (p : Sig) (ws vs : List Val) (x : ℕ) → ((y : ℕ) → is_lent p y ≡ true → get_or vs y nothing ≡ get_or ws y nothing) → (y : ℕ) → is_lent p y ≡ true → get_or (set vs x nothing) y nothing ≡ get_or (set ws x nothing) y nothing
same_blank p ws vs x h y l = go (cases_eq y x)
  where
    go : (y ≡ x) ⊎ (y ≡ x → ⊥) → get_or (set vs x nothing) y nothing ≡ get_or (set ws x nothing) y nothing
    go (inl q) = rw q (get_or_set_default vs x nothing ∙ sym (get_or_set_default ws x nothing))
    go (inr ne) = rw (get_or-set_other vs x y nothing nothing ne, get_or-set_other ws x y nothing nothing ne) (h y l)

-- and where it is filled again with what it had
same_refill : (p : Sig) (ws vs : List Val) (x : ℕ) (v : Val) → slice_get vs x ≡ Some nothing → (is_lent p x ≡ true → v ≡ get_or ws x nothing) → ((y : ℕ) → is_lent p y ≡ true → get_or vs y nothing ≡ get_or (set ws x nothing) y nothing)
    → (y : ℕ) → is_lent p y ≡ true → get_or (set vs x v) y nothing ≡ get_or ws y nothing
same_refill p ws vs x v th was h y l = go (cases_eq y x)
  where
    go : (y ≡ x) ⊎ (y ≡ x → ⊥) → get_or (set vs x v) y nothing ≡ get_or ws y nothing
    go (inl q) = rw q (get_or_nth (set vs x v) x v nothing (nth_set vs x nothing v th) ∙ was (rw q at l))
    go (inr ne) = get_or-set_other vs x y v nothing ne ∙ (h y l ∙ get_or-set_other ws x y nothing nothing ne)

module _ (p : Sig) (a : Arg) (bs : List Arg) (P : List Cell → Type 0) (ws : List Val) (s : St) (w : Values.St) (i : Sim p P ws s w)
    (ih : (P' : List Cell → Type 0) (ws' : List Val) (s' : St) (w' : Values.St) → Sim p P' ws' s' w' → HandSim p P' ws' bs (pass p bs s') (Values.hand p bs w')) where
  -- one that is handed over, before the others
  over : (t : Tree) (v : Val) (s' : St) → a.lent ≡ 0 → fetched (kind p a.of) s a.of ≡ took v s' → (o : Values.Took (List Tree)) → HandSim p (Owns t v P) ws bs (pass p bs s') o → HandSim p P ws (a ∷ bs) (pass p (a ∷ bs) s) (Values.more t o)
  over t v s' m e Values.missing G = tt
  over t v s' m e (Values.took ts w'') G =
      let q = G.is in
      record {
        vs = v ∷ G.vs;
        u = G.u;
        gv = G.gv;
        is = rw (m, e, q) refl;
        own = unstow t v ts G.vs (OwnsAll w''.vars G.gv P) G.u.cells (all_map ts G.vs (OwnsAll w''.vars G.gv (Owns t v P)) (Owns t v (OwnsAll w''.vars G.gv P)) G.u.cells (unstow t v w''.vars G.gv P) G.own);
        vars = rw m G.vars;
        many = ap suc G.many;
        same = G.same;
        lends = lends_cons a bs v G.vs G.u.vars (λ k c d el ev. (let z : ⊥ = omega (arith, sym m ∙ el) in elim z [ ])) G.lends;
        room = G.room;
        shown = G.shown;
        left = G.left;
      }

  -- a number that is lent
  lent_number : (m k : ℕ) → a.lent ≡ suc m → slice_get w.vars a.of ≡ Some (Tree.num k) → (o : Values.Took (List Tree)) → HandSim p P ws bs (pass p bs s) o → HandSim p P ws (a ∷ bs) (pass p (a ∷ bs) s) (Values.more (Tree.num k) o)
  lent_number m k e q Values.missing G = tt
  lent_number m k e q (Values.took ts w'') G =
      let r = G.is in let qv = (pull w.vars s.vars a.of (Tree.num k) P s.cells q i.own).0 in
      record { vs = get s a.of ∷ G.vs; u = G.u; gv = G.gv; is = rw (e, var_there w.vars s.vars a.of (Tree.num k) P s.cells q i.own, r) refl; own = (qv, G.own); vars = rw (e, qv) G.vars; many = ap suc G.many; same = G.same; lends = lends_cons a bs (get s a.of) G.vs G.u.vars (λ j c d el ev. (let z : ◌≡◌ {A = ℕ} 0 1 = cc in let y : ⊥ = omega arith in elim y [ ])) G.lends; room = G.room; shown = G.shown; left = G.left }

  -- A box that is lent: what the others do with its variable emptied, as in the value machine, is what they do with it
  -- in its place.
  lent_box : (m : ℕ) (t : Tree) → a.lent ≡ suc m → slice_get w.vars a.of ≡ Some (Tree.box t) → (o : Values.Took (List Tree)) → Values.hand p bs (Values.set_v w a.of Tree.bare) ≡ o
      → HandSim p (Owns (Tree.box t) (get s a.of) P) (set ws a.of nothing) bs (pass p bs (set_v s a.of nothing)) o → HandSim p P ws (a ∷ bs) (pass p (a ∷ bs) s) (Values.more (Tree.box t) o)
  lent_box m t e q Values.missing eo G = tt
  lent_box m t e q (Values.took ts w'') eo G =
      let v : Val = get s a.of in
      let o = pull w.vars s.vars a.of (Tree.box t) P s.cells q i.own in
      let isat = o.3 in
      let th : slice_get s.vars a.of ≡ Some v = var_there w.vars s.vars a.of (Tree.box t) P s.cells q i.own in
      let na : again a.of bs ≡ false = bare_apart p bs (Values.set_v w a.of Tree.bare) a.of ts w'' eo (nth_set w.vars a.of (Tree.box t) Tree.bare q) in
      let (un, st) = pass_apart p bs (set_v s a.of nothing) a.of v G.vs G.u na G.is in
      let hs : pass p bs s ≡ took G.vs (set_v G.u a.of v) = rw (set-set s.vars a.of nothing v, set_nth s.vars a.of v th) at un in
      let em : slice_get G.u.vars a.of ≡ Some nothing = st ∙ nth_set s.vars a.of v nothing th in
      record {
        vs = v ∷ G.vs;
        u = set_v G.u a.of v;
        gv = G.gv;
        is = rw (e, th, hs) refl;
        own = unstow (Tree.box t) v ts G.vs (OwnsAll w''.vars G.gv P) G.u.cells (all_map ts G.vs (OwnsAll w''.vars G.gv (Owns (Tree.box t) v P)) (Owns (Tree.box t) v (OwnsAll w''.vars G.gv P)) G.u.cells (unstow (Tree.box t) v w''.vars G.gv P) G.own);
        vars = rw (e, isat) (ap (λ l. set l a.of (at o.0 o.1)) G.vars);
        many = ap suc G.many;
        same = same_refill p ws G.u.vars a.of v em (i.same a.of) G.same;
        lends = lends_cons a bs v G.vs (set G.u.vars a.of v) (λ j k d el ev. (a.of, get_or_nth (set G.u.vars a.of v) a.of v nothing (nth_set G.u.vars a.of nothing v em) ∙ ev)) (lends_set bs G.vs G.u.vars a.of v em G.lends);
        room = G.room;
        shown = G.shown;
        left = G.left;
      }

  by_tree : (m : ℕ) → a.lent ≡ suc m → (o : Option Tree) → slice_get w.vars a.of ≡ o → HandSim p P ws (a ∷ bs) (pass p (a ∷ bs) s) (Values.onto (Values.lent_as w a.of o) (λ t u. Values.more t (Values.hand p bs u)))
  by_tree m e None q = tt
  by_tree m e (Some (Tree.num k)) q = lent_number m k e q (Values.hand p bs w) (ih P ws s w i)
  by_tree m e (Some Tree.bare) q = tt
  by_tree m e (Some (Tree.box t)) q = lent_box m t e q (Values.hand p bs (Values.set_v w a.of Tree.bare)) refl (ih (Owns (Tree.box t) (get s a.of) P) (set ws a.of nothing) (set_v s a.of nothing) (Values.set_v w a.of Tree.bare)
      (record { own = stow (Tree.box t) (get s a.of) (set w.vars a.of Tree.bare) (set s.vars a.of nothing) P s.cells (pull w.vars s.vars a.of (Tree.box t) P s.cells q i.own); same = same_blank p ws s.vars a.of i.same; room = i.room; shown = i.shown; left = i.left }))

  by_taken : a.lent ≡ 0 → (o : Values.Took Tree) → TookSim p P ws s (fetched (kind p a.of) s a.of) o → HandSim p P ws (a ∷ bs) (pass p (a ∷ bs) s) (Values.onto o (λ t u. Values.more t (Values.hand p bs u)))
  by_taken e Values.missing q = tt
  by_taken e (Values.took t w') (v, s', e', i', _) = over t v s' e e' (Values.hand p bs w') (ih (Owns t v P) ws s' w' i')

  by_mark : (m : ℕ) → a.lent ≡ m → HandSim p P ws (a ∷ bs) (pass p (a ∷ bs) s) (Values.hand p (a ∷ bs) w)
  by_mark zero e = subst (λ (c : ℕ). HandSim p P ws (a ∷ bs) (pass p (a ∷ bs) s) (Values.onto (Values.hand_one p c (kind p a.of) a.of w) (λ t u. Values.more t (Values.hand p bs u)))) (sym e) (by_taken e (Values.taken p (kind p a.of) w a.of) (take_sim p P ws (kind p a.of) s w a.of i))
  by_mark (suc m) e = subst (λ (c : ℕ). HandSim p P ws (a ∷ bs) (pass p (a ∷ bs) s) (Values.onto (Values.hand_one p c (kind p a.of) a.of w) (λ t u. Values.more t (Values.hand p bs u)))) (sym e) (by_tree m e (slice_get w.vars a.of) refl)

pub pass_sim : (p : Sig) (bs : List Arg) (P : List Cell → Type 0) (ws : List Val) (s : St) (w : Values.St) → Sim p P ws s w → HandSim p P ws bs (pass p bs s) (Values.hand p bs w)
pass_sim p [] P ws s w i = record { vs = []; u = s; gv = s.vars; is = refl; own = i.own; vars = refl; many = refl; same = i.same; lends = λ j a m c b e l q. none_some a e; room = i.room; shown = i.shown; left = i.left }
pass_sim p (a ∷ bs) P ws s w i = by_mark p a bs P ws s w i (λ P' ws' s' w' i'. pass_sim p bs P' ws' s' w' i') a.lent refl
