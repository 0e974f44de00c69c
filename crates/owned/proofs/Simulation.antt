-- What a strict statement does with cells is what it does with trees, wherever the latter is no fault; a new box may get
-- any free cell. No rules here: the value machine's own tests say all that is needed of the trees.
use Rattle.std.proofs.Common.{◌≡◌, ℕ, zero, suc, ◌+◌, Bool, true, false, cond, not, ◌&&◌, ◌⊎◌, List, [], ◌∷◌, get_or, set, Some, None, Option, refl, inl, inr, arith}
use Rattle.std.specs.List.{slice_get}
use Rattle.std.proofs.lemmas.List.{get_or-set_other}
use Rattle.std.proofs.lemmas.Option.{slice_get-get_or}
use Rattle.std.proofs.lemmas.Bool.{and_parts, not-true, cases_eq, both_ways}
use Rattle.owned.specs.Program.{E, Sig, is_lent}
use Rattle.owned.specs.Runs.{Val, nothing, Cell, free, holds, St, R, fine, full, spent, deep, bind, May, ok, bad, as_num, value, num, set_v, with_cells, get, Took, took, first}
use Rattle.owned.specs.Strict.{place, fetched}
use Rattle.owned.specs.Values
use Rattle.owned.specs.Values.{Tree, of_kind}
use Rattle.owned.specs.Holders.{Owns, OwnsAll, frees, Chosen}
use Rattle.owned.specs.Says.{FirstFreeChooses}
use Rattle.owned.proofs.Places.{nth_lt, set_found}
use Rattle.owned.proofs.Trees.{owns_rest, free_tree, all_map, pull, put, stow, unstow, owns_many}

-- One procedure's variables, beside P: its values own its trees, and lent ones are as they came, which was ws.
pub record Sim (p : Sig) (P : List Cell → Type 0) (ws : List Val) (s : St) (w : Values.St) : Type 0 where
  pub own : OwnsAll w.vars s.vars P s.cells
  pub same : (x : ℕ) → is_lent p x ≡ true → get s x ≡ get_or ws x nothing
  pub room : w.room ≡ frees s.cells
  pub shown : w.shown ≡ s.shown
  pub left : w.left ≡ s.left

-- an outcome with cells is that with trees, unless the latter is a fault
abbrev pub Simulated : (St → Values.St → Type 0) → R → Values.R → Type 0
Simulated Q r (Values.fine w) = (s : St) × (r ≡ fine s) × Q s w
Simulated Q r Values.fault = Unit {0}
Simulated Q r Values.full = r ≡ full
Simulated Q r Values.spent = r ≡ spent
Simulated Q r Values.deep = r ≡ deep

pub sim_bind : (Q Q' : St → Values.St → Type 0) (r : R) (v : Values.R) (k : St → R) (k' : Values.St → Values.R) → Simulated Q r v → ((s : St) (w : Values.St) → Q s w → Simulated Q' (k s) (k' w)) → Simulated Q' (bind r k) (Values.bind v k')
sim_bind Q Q' r (Values.fine w) k k' (s, e, q) f = rw e (f s w q)
sim_bind Q Q' r Values.fault k k' h f = tt
sim_bind Q Q' r Values.full k k' h f = rw h refl
sim_bind Q Q' r Values.spent k k' h f = rw h refl
sim_bind Q Q' r Values.deep k k' h f = rw h refl

-- the value machine's tests may be taken to hold
pub sim_need : {A : Type 0} (Q : St → Values.St → Type 0) (r : R) (o : Option A) (k : A → Values.R) → ((a : A) → o ≡ Some a → Simulated Q r (k a)) → Simulated Q r (Values.need o k)
sim_need Q r None k f = tt
sim_need Q r (Some a) k f = f a refl

pub sim_guard : (Q : St → Values.St → Type 0) (r : R) (b : Bool) (v : Values.R) → (b ≡ true → Simulated Q r v) → Simulated Q r (Values.guard b v)
sim_guard Q r true v f = f refl
sim_guard Q r false v f = tt

pub sim_box : (Q : St → Values.St → Type 0) (r : R) (t : Tree) (k : Tree → Values.R) → ((u : Tree) → t ≡ Tree.box u → Simulated Q r (k u)) → Simulated Q r (Values.in_box t k)
sim_box Q r (Tree.num m) k f = tt
sim_box Q r Tree.bare k f = tt
sim_box Q r (Tree.box u) k f = f u refl

pub sim_tree_number : (Q : St → Values.St → Type 0) (r : R) (t : Tree) (k : ℕ → Values.R) → ((m : ℕ) → t ≡ Tree.num m → Simulated Q r (k m)) → Simulated Q r (Values.number (Values.as_num t) k)
sim_tree_number Q r (Tree.num m) k f = f m refl
sim_tree_number Q r Tree.bare k f = tt
sim_tree_number Q r (Tree.box u) k f = tt

pub sim_number : (Q : St → Values.St → Type 0) (m : May) (k : ℕ → R) (k' : ℕ → Values.R) → ((a : ℕ) → Simulated Q (k a) (k' a)) → Simulated Q (num m k) (Values.number m k')
sim_number Q bad k k' f = tt
sim_number Q (ok a) k k' f = f a

-- lent arguments stay as they came if another variable is set
pub same_set : (p : Sig) (ws vs : List Val) (x : ℕ) (w : Val) → ((y : ℕ) → is_lent p y ≡ true → get_or vs y nothing ≡ get_or ws y nothing) → is_lent p x ≡ false → (y : ℕ) → is_lent p y ≡ true → get_or (set vs x w) y nothing ≡ get_or ws y nothing
same_set p ws vs x w h l y e = go (cases_eq y x)
  where
    go : (y ≡ x) ⊎ (y ≡ x → ⊥) → get_or (set vs x w) y nothing ≡ get_or ws y nothing
    go (inl q) = elim (both_ways (is_lent p x) l (rw q at e)) [ ]
    go (inr ne) = rw (get_or-set_other vs x y w nothing ne) (h y e)

-- each variable is there
pub var_there : (ts : List Tree) (vs : List Val) (x : ℕ) (t : Tree) (P : List Cell → Type 0) (cs : List Cell) → slice_get ts x ≡ Some t → OwnsAll ts vs P cs → slice_get vs x ≡ Some (get_or vs x nothing)
var_there ts vs x t P cs e h = slice_get-get_or vs x nothing (omega (arith, nth_lt ts x t e, owns_many ts vs P cs h))

-- numbers
number_same : (t : Tree) (v : Val) (P : List Cell → Type 0) (cs : List Cell) → Owns t v P cs → Values.as_num t ≡ as_num v
number_same (Tree.num m) v P cs h = rw h.0
number_same Tree.bare v P cs h = rw h.0
number_same (Tree.box t) v P cs (a, b, w, e, c, h) = rw e

var_same : (ts : List Tree) (vs : List Val) (x : ℕ) (P : List Cell → Type 0) (cs : List Cell) → OwnsAll ts vs P cs → Values.as_num (get_or ts x Tree.bare) ≡ as_num (get_or vs x nothing)
var_same [] [] x P cs h = refl
var_same [] (v ∷ vs) x P cs h = elim h [ ]
var_same (t ∷ ts) [] x P cs h = elim h [ ]
var_same (t ∷ ts) (v ∷ vs) zero P cs h = number_same t v (OwnsAll ts vs P) cs h
var_same (t ∷ ts) (v ∷ vs) (suc x) P cs h = let (ds, q) = owns_rest t v (OwnsAll ts vs P) cs h in var_same ts vs x P ds q

pub value_same : (P : List Cell → Type 0) (s : St) (w : Values.St) (e : E) → OwnsAll w.vars s.vars P s.cells → Values.value w e ≡ value s e
value_same P s w (E.num k) o = refl
value_same P s w (E.var x) o = var_same w.vars s.vars x P s.cells o
value_same P s w (E.add a b) o = rw (value_same P s w a o, value_same P s w b o)
value_same P s w (E.sub a b) o = rw (value_same P s w a o, value_same P s w b o)
value_same P s w (E.mul a b) o = rw (value_same P s w a o, value_same P s w b o)
value_same P s w (E.less a b) o = rw (value_same P s w a o, value_same P s w b o)

-- a box found where something else was put was there before
box_stays : (ts : List Tree) (vs : List Val) (y i : ℕ) (o : Tree) → slice_get (set ts y Tree.bare) i ≡ Some (Tree.box o) → get_or (set vs y nothing) i nothing ≡ get_or vs i nothing
box_stays ts vs y i o e = go (cases_eq i y)
  where
    go : (i ≡ y) ⊎ (i ≡ y → ⊥) → get_or (set vs y nothing) i nothing ≡ get_or vs i nothing
    go (inl q) = let r = set_found ts y (Tree.box o) Tree.bare (rw q at e) in let z : ◌≡◌ {A = ℕ} 0 1 = cc in let f : ⊥ = omega arith in elim f [ ]
    go (inr ne) = get_or-set_other vs y i nothing nothing ne

-- the first free cell is a choice
first_is : (cs : List Cell) (i : ℕ) (o : Option ℕ) → first cs i ≡ o → (o ≡ None → frees cs ≡ 0) × ((a : ℕ) → o ≡ Some a → (j : ℕ) × (a ≡ i + j) × (slice_get cs j ≡ Some free))
first_is [] i o e = (λ _. refl, λ a q. (let z : ◌≡◌ {A = ℕ} 0 1 = cc in let y : ⊥ = omega arith in elim y [ ]))
first_is (free ∷ cs) i o e = (λ q. (let z : ◌≡◌ {A = ℕ} 0 1 = cc in let y : ⊥ = omega arith in elim y [ ]), λ a q. (let z : a ≡ i = cc in (0, omega arith, refl)))
first_is (holds b v ∷ cs) i o e = let (f, g) = first_is cs (i + 1) o e in (f, λ a q. (let (j, q₁, q₂) = g a q in (suc j, omega arith, q₂)))

pub first_chooses : FirstFreeChooses
first_chooses i cs = go (first cs 0) refl
  where
    go : (o : Option ℕ) → first cs 0 ≡ o → Chosen cs o
    go None e = (first_is cs 0 None e).0 refl
    go (Some a) e = let (j, q₁, q₂) = (first_is cs 0 (Some a) e).1 a refl in let q : a ≡ j = omega arith in rw q q₂

module _ (p : Sig) (P : List Cell → Type 0) (ws : List Val) where
  -- a tree put into a variable
  pub place_sim : (k x : ℕ) (t : Tree) (v : Val) (s : St) (w : Values.St) → Sim p (Owns t v P) ws s w → Simulated (Sim p P ws) (place k x v s) (Values.into p k x t w)
  place_sim k x t v s w i =
      sim_need (Sim p P ws) (place k x v s) (slice_get w.vars x) _ (λ u e.
      sim_guard (Sim p P ws) (place k x v s) (of_kind k u && not (is_lent p x)) _ (λ c. (
      let (ck, cl) = and_parts (of_kind k u) _ c in
      let Q : List Cell → Type 0 = OwnsAll (set w.vars x Tree.bare) (set s.vars x nothing) (Owns t v P) in
      let G = free_tree k u (get s x) Q s.cells ck (pull w.vars s.vars x u (Owns t v P) s.cells e i.own) in
      let th = var_there w.vars s.vars x u (Owns t v P) s.cells e i.own in
      let d = G.does in (
        set_v (with_cells s G.left) x v,
        rw (th, d) refl,
        record {
          own = put w.vars s.vars x u t v P G.left e (unstow t v (set w.vars x Tree.bare) (set s.vars x nothing) P G.left G.rest);
          same = same_set p ws s.vars x v i.same (not-true (is_lent p x) cl);
          room = omega (arith, G.more, i.room);
          shown = i.shown;
          left = i.left;
        },
      ))))

  -- a value with no cells, in hand
  pub in_hand : (t : Tree) (v : Val) (s : St) (w : Values.St) → ((ds : List Cell) → P ds → Owns t v P ds) → Sim p P ws s w → Sim p (Owns t v P) ws s w
  in_hand t v s w f i = record { own = all_map w.vars s.vars P (Owns t v P) s.cells f i.own; same = i.same; room = i.room; shown = i.shown; left = i.left }

  -- a tree taken out of a variable; the other boxes are where they were
  abbrev pub TookSim : St → Took Val → Values.Took Tree → Type 0
  TookSim s r Values.missing = Unit {0}
  TookSim s r (Values.took t w) = (v : Val) × (u : St) × (r ≡ took v u) × Sim p (Owns t v P) ws u w × ((i : ℕ) (o : Tree) → slice_get w.vars i ≡ Some (Tree.box o) → get u i ≡ get s i)

  pub take_sim : (k : ℕ) (s : St) (w : Values.St) (y : ℕ) → Sim p P ws s w → TookSim s (fetched k s y) (Values.taken p k w y)
  take_sim k s w y i = go k (slice_get w.vars y) refl
    where
      boxed : (k : ℕ) (t : Tree) → slice_get w.vars y ≡ Some (Tree.box t) → (b : Bool) → is_lent p y ≡ b → TookSim s (fetched (suc k) s y) (cond b Values.missing (Values.took (Tree.box t) (Values.set_v w y Tree.bare)))
      boxed k t e true l = tt
      boxed k t e false l =
          let o = pull w.vars s.vars y (Tree.box t) P s.cells e i.own in
          let q = o.3 in
          let th = var_there w.vars s.vars y (Tree.box t) P s.cells e i.own in
          (get s y, set_v s y nothing, rw (th, q) refl, record { own = stow (Tree.box t) (get s y) (set w.vars y Tree.bare) (set s.vars y nothing) P s.cells o; same = same_set p ws s.vars y nothing i.same l; room = i.room; shown = i.shown; left = i.left }, λ j o' e'. box_stays w.vars s.vars y j o' e')

      go : (k : ℕ) (o : Option Tree) → slice_get w.vars y ≡ o → TookSim s (fetched k s y) (Values.taken_as p k w y o)
      go k None e = tt
      go zero (Some (Tree.num m)) e =
          let q = (pull w.vars s.vars y (Tree.num m) P s.cells e i.own).0 in
          (get s y, s, rw (var_there w.vars s.vars y (Tree.num m) P s.cells e i.own) refl, in_hand (Tree.num m) (get s y) s w (λ ds h. (q, h)) i, λ j o' e'. refl)
      go (suc k) (Some (Tree.num m)) e = tt
      go zero (Some Tree.bare) e = tt
      go (suc k) (Some Tree.bare) e = tt
      go zero (Some (Tree.box t)) e = tt
      go (suc k) (Some (Tree.box t)) e = boxed k t e (is_lent p y) refl
