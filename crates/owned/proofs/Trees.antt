-- Ownership by recursion on the tree: what a value that is a tree holds, and what may be done with it.
-- The frame lemma carries the rest: a cell in use outside a tree stays as it is while the tree is given back.
use Rattle.std.proofs.Common.{◌≡◌, ℕ, zero, suc, false, List, [], ◌∷◌, ◌++◌, length, get_or, set, Some, sym, refl, ap, ◌∙◌, arith}
use Rattle.std.specs.List.{slice_get}
use Rattle.std.proofs.lemmas.List.{set-set, set_comm}
use Rattle.std.proofs.lemmas.Bool.{eq-eqb, both_ways}
use Rattle.owned.specs.Runs.{Val, n, at, nothing, Cell, free, holds, St, R, held}
use Rattle.owned.specs.Values.{Tree}
use Rattle.owned.specs.Holders.{Owns, OwnsAll, frees, ReleaseKeeps, StrictReleaseKeeps}
use Rattle.owned.proofs.Refinement.{freed_give}
use Rattle.owned.proofs.Places.{none_some, get_or_nth, nth_set, nth_set_other, set_nth}

-- what is in a box whose cell is in use
pub held_is : (s : St) (a b : ℕ) (v : Val) (k : Val → R) → slice_get s.cells a ≡ Some (holds b v) → held s a b k ≡ k v
held_is s a b v k e = rw (get_or_nth s.cells a (holds b v) free e, eq-eqb b b refl)

pub owns_map : (t : Tree) (v : Val) (P Q : List Cell → Type 0) (cs : List Cell) → ((ds : List Cell) → P ds → Q ds) → Owns t v P cs → Owns t v Q cs
owns_map (Tree.num m) v P Q cs f h = (h.0, f cs h.1)
owns_map Tree.bare v P Q cs f h = (h.0, f cs h.1)
owns_map (Tree.box t) v P Q cs f (a, b, w, e, c, h) = (a, b, w, e, c, owns_map t w P Q (set cs a free) f h)

-- the rest of the world holds of some cells
pub owns_rest : (t : Tree) (v : Val) (P : List Cell → Type 0) (cs : List Cell) → Owns t v P cs → (ds : List Cell) × P ds
owns_rest (Tree.num m) v P cs h = (cs, h.1)
owns_rest Tree.bare v P cs h = (cs, h.1)
owns_rest (Tree.box t) v P cs (a, b, w, e, c, h) = owns_rest t w P (set cs a free) h

-- a cell that was freed is no other cell in use
apart : (cs : List Cell) (a a' b b' : ℕ) (w w' : Val) → slice_get cs a ≡ Some (holds b w) → slice_get (set cs a free) a' ≡ Some (holds b' w') → a ≡ a' → ⊥
apart cs a a' b b' w w' e e' q = let z : ◌≡◌ {A = ℕ} 0 1 = cc (e', nth_set cs a (holds b w) free e, ap (slice_get (set cs a free)) q) in omega arith

-- the frame lemma
pub frame : (t : Tree) (v : Val) (P : List Cell → Type 0) (cs : List Cell) (a b : ℕ) (w : Val) → slice_get cs a ≡ Some (holds b w) → Owns t v P (set cs a free) → Owns t v (λ ds. (slice_get ds a ≡ Some (holds b w)) × P (set ds a free)) cs
frame (Tree.num m) v P cs a b w e h = (h.0, (e, h.1))
frame Tree.bare v P cs a b w e h = (h.0, (e, h.1))
frame (Tree.box t) v P cs a b w e (a', b', w', q, c, h) =
    let ne = apart cs a a' b b' w w' e c in
    (a', b', w', q, sym (nth_set_other cs a a' free ne) ∙ c, frame t w' P (set cs a' free) a b w (nth_set_other cs a' a free (λ r. ne (sym r)) ∙ e) (rw (set_comm cs a a' free free ne) at h))

-- two values may be given back in either order
pub exchange : (t : Tree) (v : Val) (u : Tree) (w : Val) (P : List Cell → Type 0) (cs : List Cell) → Owns t v (Owns u w P) cs → Owns u w (Owns t v P) cs
exchange (Tree.num m) v u w P cs h = owns_map u w P (λ ds. (v ≡ n m) × P ds) cs (λ ds p. (h.0, p)) h.1
exchange Tree.bare v u w P cs h = owns_map u w P (λ ds. (v ≡ nothing) × P ds) cs (λ ds p. (h.0, p)) h.1
exchange (Tree.box t) v u w P cs (a, b, v', e, c, h) =
    owns_map u w (λ ds. (slice_get ds a ≡ Some (holds b v')) × Owns t v' P (set ds a free)) (Owns (Tree.box t) v P) cs (λ ds p. (a, b, v', e, p.0, p.1))
    (frame u w (Owns t v' P) cs a b v' c (exchange t v' u w P (set cs a free) h))

-- a cell made a box's
pub refilled : (t : Tree) (v : Val) (P : List Cell → Type 0) (cs : List Cell) (a b : ℕ) (c : Cell) → slice_get cs a ≡ Some c → Owns t v P (set cs a free) → Owns (Tree.box t) (at a b) P (set cs a (holds b v))
refilled t v P cs a b c e h = (a, b, v, refl, nth_set cs a c (holds b v) e, rw set-set h)

pub allocated : (t : Tree) (v : Val) (P : List Cell → Type 0) (cs : List Cell) (a b : ℕ) → slice_get cs a ≡ Some free → Owns t v P cs → Owns (Tree.box t) (at a b) P (set cs a (holds b v))
allocated t v P cs a b e h = refilled t v P cs a b free e (rw (set_nth cs a free e) h)

-- how many cells are free as one is taken, freed or filled again
pub frees_take : (cs : List Cell) (a b : ℕ) (v : Val) → slice_get cs a ≡ Some free → frees cs ≡ suc (frees (set cs a (holds b v)))
frees_take [] a b v e = none_some free e
frees_take (free ∷ cs) zero b v e = refl
frees_take (free ∷ cs) (suc a) b v e = ap suc (frees_take cs a b v e)
frees_take (holds c w ∷ cs) zero b v e = cc
frees_take (holds c w ∷ cs) (suc a) b v e = frees_take cs a b v e

pub frees_free : (cs : List Cell) (a b : ℕ) (v : Val) → slice_get cs a ≡ Some (holds b v) → frees (set cs a free) ≡ suc (frees cs)
frees_free [] a b v e = none_some (holds b v) e
frees_free (free ∷ cs) zero b v e = cc
frees_free (free ∷ cs) (suc a) b v e = ap suc (frees_free cs a b v e)
frees_free (holds c w ∷ cs) zero b v e = refl
frees_free (holds c w ∷ cs) (suc a) b v e = frees_free cs a b v e

pub frees_fill : (cs : List Cell) (a b b' : ℕ) (v w : Val) → slice_get cs a ≡ Some (holds b v) → frees (set cs a (holds b' w)) ≡ frees cs
frees_fill [] a b b' v w e = refl
frees_fill (free ∷ cs) zero b b' v w e = cc
frees_fill (free ∷ cs) (suc a) b b' v w e = ap suc (frees_fill cs a b b' v w e)
frees_fill (holds c u ∷ cs) zero b b' v w e = refl
frees_fill (holds c u ∷ cs) (suc a) b b' v w e = frees_fill cs a b b' v w e

-- giving back: what is in a box is given back while the box's cell is framed
pub free_tree : StrictReleaseKeeps
free_tree zero (Tree.num m) v P cs o h = record { left = cs; does = refl; rest = h.1; more = omega arith }
free_tree zero Tree.bare v P cs o h = elim (both_ways false refl o) [ ]
free_tree zero (Tree.box t) v P cs o h = elim (both_ways false refl o) [ ]
free_tree (suc k) (Tree.num m) v P cs o h = elim (both_ways false refl o) [ ]
free_tree (suc k) Tree.bare v P cs o h = record { left = cs; does = rw h.0 refl; rest = h.1; more = omega arith }
free_tree (suc k) (Tree.box t) v P cs o (a, b, w, e, c, h) =
    let G = free_tree k t w (λ ds. (slice_get ds a ≡ Some (holds b w)) × P (set ds a free)) cs o (frame t w P cs a b w c h) in
    let d = G.does in
    record {
      left = set G.left a free;
      does = rw (e, get_or_nth cs a (holds b w) free c, eq-eqb b b refl, d, get_or_nth G.left a (holds b w) free G.rest.0, eq-eqb b b refl) refl;
      rest = G.rest.1;
      more = omega (arith, frees_free G.left a b w G.rest.0, G.more);
    }

pub release : ReleaseKeeps
release k t v P s o h = let G = free_tree k t v P s.cells o h in record { left = G.left; does = freed_give k v s G.left G.does; rest = G.rest; more = G.more }

-- variables
pub all_map : (ts : List Tree) (vs : List Val) (P Q : List Cell → Type 0) (cs : List Cell) → ((ds : List Cell) → P ds → Q ds) → OwnsAll ts vs P cs → OwnsAll ts vs Q cs
all_map [] [] P Q cs f h = f cs h
all_map [] (v ∷ vs) P Q cs f h = elim h [ ]
all_map (t ∷ ts) [] P Q cs f h = elim h [ ]
all_map (t ∷ ts) (v ∷ vs) P Q cs f h = owns_map t v (OwnsAll ts vs P) (OwnsAll ts vs Q) cs (λ ds p. all_map ts vs P Q ds f p) h

-- a variable's tree taken out: nothing is left behind
pub pull : (ts : List Tree) (vs : List Val) (x : ℕ) (t : Tree) (P : List Cell → Type 0) (cs : List Cell) → slice_get ts x ≡ Some t → OwnsAll ts vs P cs → Owns t (get_or vs x nothing) (OwnsAll (set ts x Tree.bare) (set vs x nothing) P) cs
pull [] vs x t P cs e h = none_some t e
pull (u ∷ ts) [] x t P cs e h = elim h [ ]
pull (u ∷ ts) (v ∷ vs) zero t P cs e h = let q : u ≡ t = cc in owns_map t v (OwnsAll ts vs P) (λ ds. (nothing ≡ nothing) × OwnsAll ts vs P ds) cs (λ ds p. (refl, p)) (rw q at h)
pull (u ∷ ts) (v ∷ vs) (suc x) t P cs e h =
    let Q : List Cell → Type 0 = OwnsAll (set ts x Tree.bare) (set vs x nothing) P in
    exchange u v t (get_or vs x nothing) Q cs (owns_map u v (OwnsAll ts vs P) (Owns t (get_or vs x nothing) Q) cs (λ ds p. pull ts vs x t P ds e p) h)

-- and one put where nothing is
pub put : (ts : List Tree) (vs : List Val) (x : ℕ) (u t : Tree) (w : Val) (P : List Cell → Type 0) (cs : List Cell) → slice_get ts x ≡ Some u → Owns t w (OwnsAll (set ts x Tree.bare) (set vs x nothing) P) cs → OwnsAll (set ts x t) (set vs x w) P cs
put [] vs x u t w P cs e h = none_some u e
put (u' ∷ ts) [] zero u t w P cs e h = (owns_rest t w (λ ds. ⊥) cs h).1
put (u' ∷ ts) [] (suc x) u t w P cs e h = (owns_rest t w (λ ds. ⊥) cs h).1
put (u' ∷ ts) (v ∷ vs) zero u t w P cs e h = owns_map t w (λ ds. (nothing ≡ nothing) × OwnsAll ts vs P ds) (OwnsAll ts vs P) cs (λ ds p. p.1) h
put (u' ∷ ts) (v ∷ vs) (suc x) u t w P cs e h =
    let Q : List Cell → Type 0 = OwnsAll (set ts x Tree.bare) (set vs x nothing) P in
    owns_map u' v (Owns t w Q) (OwnsAll (set ts x t) (set vs x w) P) cs (λ ds p. put ts vs x u t w P ds e p) (exchange t w u' v Q cs h)

-- a value beside the variables, before them or after
pub stow : (t : Tree) (v : Val) (ts : List Tree) (vs : List Val) (P : List Cell → Type 0) (cs : List Cell) → Owns t v (OwnsAll ts vs P) cs → OwnsAll ts vs (Owns t v P) cs
stow t v [] [] P cs h = h
stow t v [] (w ∷ vs) P cs h = (owns_rest t v (λ ds. ⊥) cs h).1
stow t v (u ∷ ts) [] P cs h = (owns_rest t v (λ ds. ⊥) cs h).1
stow t v (u ∷ ts) (w ∷ vs) P cs h = owns_map u w (Owns t v (OwnsAll ts vs P)) (OwnsAll ts vs (Owns t v P)) cs (λ ds p. stow t v ts vs P ds p) (exchange t v u w (OwnsAll ts vs P) cs h)

pub unstow : (t : Tree) (v : Val) (ts : List Tree) (vs : List Val) (P : List Cell → Type 0) (cs : List Cell) → OwnsAll ts vs (Owns t v P) cs → Owns t v (OwnsAll ts vs P) cs
unstow t v [] [] P cs h = h
unstow t v [] (w ∷ vs) P cs h = elim h [ ]
unstow t v (u ∷ ts) [] P cs h = elim h [ ]
unstow t v (u ∷ ts) (w ∷ vs) P cs h = exchange u w t v (OwnsAll ts vs P) cs (owns_map u w (OwnsAll ts vs (Owns t v P)) (Owns t v (OwnsAll ts vs P)) cs (λ ds p. unstow t v ts vs P ds p) h)

pub owns_append : (ts us : List Tree) (vs ws : List Val) (P : List Cell → Type 0) (cs : List Cell) → OwnsAll ts vs (OwnsAll us ws P) cs → OwnsAll (ts ++ us) (vs ++ ws) P cs
owns_append [] us [] ws P cs h = h
owns_append [] us (v ∷ vs) ws P cs h = elim h [ ]
owns_append (t ∷ ts) us [] ws P cs h = elim h [ ]
owns_append (t ∷ ts) us (v ∷ vs) ws P cs h = owns_map t v (OwnsAll ts vs (OwnsAll us ws P)) (OwnsAll (ts ++ us) (vs ++ ws) P) cs (λ ds p. owns_append ts us vs ws P ds p) h

-- as many values as trees
pub owns_many : (ts : List Tree) (vs : List Val) (P : List Cell → Type 0) (cs : List Cell) → OwnsAll ts vs P cs → length ts ≡ length vs
owns_many [] [] P cs h = refl
owns_many [] (v ∷ vs) P cs h = elim h [ ]
owns_many (t ∷ ts) [] P cs h = elim h [ ]
owns_many (t ∷ ts) (v ∷ vs) P cs h = let (ds, p) = owns_rest t v (OwnsAll ts vs P) cs h in ap suc (owns_many ts vs P ds p)
