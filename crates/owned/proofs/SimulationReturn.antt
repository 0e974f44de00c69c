-- How a call begins and returns, with cells and with trees: what was lent is where it was, so that the caller's values
-- with the lent boxes put back own the trees that the value machine restores.
use Rattle.std.proofs.Common.{◌≡◌, ℕ, zero, suc, ◌≤◌, Bool, true, false, cond, ◌⊎◌, List, [], ◌∷◌, ◌++◌, length, get_or, drop, set, Some, None, Option, sym, refl, ◌∙◌, inl, inr, arith}
use lib.Dec.{eqb-suc-zero}
use Rattle.std.specs.List.{slice_get}
use Rattle.std.proofs.lemmas.List.{get_or-set_other}
use Rattle.std.proofs.lemmas.Bool.{cases_eq, both_ways}
use Rattle.owned.specs.Program.{Arg, Sig, is_lent}
use Rattle.owned.specs.Runs.{Val, n, at, nothing, Cell, blank}
use Rattle.owned.specs.Values
use Rattle.owned.specs.Values.{Tree, fits, boxless, put_back, one_back, restore}
use Rattle.owned.specs.Holders.{Owns, OwnsAll}
use Rattle.owned.proofs.Places.{none_some, set_found}
use Rattle.owned.proofs.Marks.{fits_lent}
use Rattle.owned.proofs.Trees.{owns_map, all_map, pull, put, owns_append, owns_many}
use Rattle.owned.proofs.SimulationCalls.{patch_one, patch}

-- variables that are blank hold nothing
blank_owns : (ks : List ℕ) (P : List Cell → Type 0) (cs : List Cell) → P cs → OwnsAll (Values.blank ks) (blank ks) P cs
blank_owns [] P cs h = h
blank_owns (zero ∷ ks) P cs h = (refl, blank_owns ks P cs h)
blank_owns (suc k ∷ ks) P cs h = rw (eqb-suc-zero k) (refl, blank_owns ks P cs h)

-- what a procedure begins with, from its arguments
abbrev pub begun : Sig → List Val → List Val
begun q vs = vs ++ blank (drop (length vs) q.kinds)

pub begun_owns : (q : Sig) (ts : List Tree) (vs : List Val) (P : List Cell → Type 0) (cs : List Cell) → OwnsAll ts vs P cs → OwnsAll (ts ++ Values.blank (drop (length ts) q.kinds)) (begun q vs) P cs
begun_owns q ts vs P cs o =
    let ks : List ℕ = drop (length vs) q.kinds in
    rw (owns_many ts vs P cs o) (owns_append ts (Values.blank ks) vs (blank ks) P cs (all_map ts vs P (OwnsAll (Values.blank ks) (blank ks) P) cs (blank_owns ks P) o))

-- variables with no box hold nothing
pub boxless_owns : (us : List Tree) (hs : List Val) (Q : List Cell → Type 0) (cs : List Cell) → boxless us ≡ true → OwnsAll us hs Q cs → Q cs
boxless_owns [] [] Q cs e h = h
boxless_owns [] (v ∷ hs) Q cs e h = elim h [ ]
boxless_owns (u ∷ us) [] Q cs e h = elim h [ ]
boxless_owns (Tree.num m ∷ us) (v ∷ hs) Q cs e h = boxless_owns us hs Q cs e h.1
boxless_owns (Tree.bare ∷ us) (v ∷ hs) Q cs e h = boxless_owns us hs Q cs e h.1
boxless_owns (Tree.box t ∷ us) (v ∷ hs) Q cs e h = elim (both_ways false refl e) [ ]

-- the values hs of lent arguments that are not bare are those they came with
abbrev pub Unmoved : List Arg → List Tree → List Val → List Val → Type 0
Unmoved bs us hs vs = (i : ℕ) (a : Arg) (m : ℕ) (u : Tree) → slice_get bs i ≡ Some a → a.lent ≡ suc m → slice_get us i ≡ Some u → (u ≡ Tree.bare → ⊥) → get_or hs i nothing ≡ get_or vs i nothing

-- also with the result taken out
pub unmoved_result : (p : Sig) (bs : List Arg) (us : List Tree) (hs ws : List Val) (r : ℕ) → fits bs p.args ≡ true → ((x : ℕ) → is_lent p x ≡ true → get_or hs x nothing ≡ get_or ws x nothing) → Unmoved bs (set us r Tree.bare) (set hs r nothing) ws
unmoved_result p bs us hs ws r f same i a m u eb el eu nb = go (cases_eq i r)
  where
    go : (i ≡ r) ⊎ (i ≡ r → ⊥) → get_or (set hs r nothing) i nothing ≡ get_or ws i nothing
    go (inl q) = elim (nb (set_found us r u Tree.bare (rw q at eu))) [ ]
    go (inr ne) = get_or-set_other hs r i nothing nothing ne ∙ same i (fits_lent bs p.args i a m f eb el)

module _ (a : Arg) (u : Tree) (h v : Val) (gv : List Val) (P : List Cell → Type 0) (cs : List Cell) (tv tv' : List Tree)
    (o : Owns u h (OwnsAll tv gv P) cs) (e : one_back a.lent u a.of (Some tv) ≡ Some tv') (l : (m : ℕ) → a.lent ≡ suc m → (u ≡ Tree.bare → ⊥) → h ≡ v) where
  back_one : (m : ℕ) → a.lent ≡ m → (t : Tree) → u ≡ t → OwnsAll tv' (patch_one m v a.of gv) P cs
  back_one zero q (Tree.num k) r = let o' = rw r at o in let e' : tv ≡ tv' = cc (rw (q, r) at e) in rw (← e') o'.1
  back_one zero q Tree.bare r = let o' = rw r at o in let e' : tv ≡ tv' = cc (rw (q, r) at e) in rw (← e') o'.1
  back_one zero q (Tree.box t) r = none_some tv' (rw (q, r) at e)
  back_one (suc m) q (Tree.num k) r =
      let o' = rw r at o in let e' : tv ≡ tv' = cc (rw (q, r) at e) in
      let hv : h ≡ v = l m q (λ z. (let y : ◌≡◌ {A = ℕ} 0 1 = cc (r, z) in omega arith)) in let vk : v ≡ n k = sym hv ∙ o'.0 in rw (← e', vk) o'.1
  back_one (suc m) q Tree.bare r = none_some tv' (rw (q, r) at e)
  back_one (suc m) q (Tree.box t) r = go (slice_get tv a.of) refl (rw (q, r) at e) (rw r at o) (l m q (λ z. (let y : ◌≡◌ {A = ℕ} 0 1 = cc (r, z) in omega arith)))
    where
      go : (s : Option Tree) → slice_get tv a.of ≡ s → put_back a.of (Tree.box t) tv (slice_get tv a.of) ≡ Some tv' → Owns (Tree.box t) h (OwnsAll tv gv P) cs → h ≡ v → OwnsAll tv' (patch_one (suc m) v a.of gv) P cs
      go None c f o' hv = none_some tv' (rw c at f)
      go (Some (Tree.num k)) c f o' hv = none_some tv' (rw c at f)
      go (Some (Tree.box k)) c f o' hv = none_some tv' (rw c at f)
      go (Some Tree.bare) c f o' hv =
          let e' : set tv a.of (Tree.box t) ≡ tv' = cc (rw c at f) in
          let ha = o'.3 in let b : Val = at o'.0 o'.1 in let va : v ≡ b = sym hv ∙ ha in
          let w : OwnsAll (set tv a.of (Tree.box t)) (set gv a.of b) P cs = put tv gv a.of Tree.bare (Tree.box t) b P cs c
          (owns_map (Tree.box t) b (OwnsAll tv gv P) (OwnsAll (set tv a.of Tree.bare) (set gv a.of nothing) P) cs (λ ds p. (pull tv gv a.of Tree.bare P ds c p).1) (o'.0, o'.1, o'.2, refl, o'.4, o'.5)) in
          rw (← e', va) w

pub restore_sim : (bs : List Arg) (us : List Tree) (hs vs : List Val) (tv : List Tree) (gv : List Val) (P : List Cell → Type 0) (cs : List Cell) (tv' : List Tree) → length bs ≤ length vs → Unmoved bs us hs vs → restore bs us tv ≡ Some tv' → OwnsAll us hs (OwnsAll tv gv P) cs → OwnsAll tv' (patch bs vs gv) P cs
restore_sim [] us hs vs tv gv P cs tv' le l e h = go (boxless us) refl e
  where
    go : (b : Bool) → boxless us ≡ b → cond b (Some tv) None ≡ Some tv' → OwnsAll tv' gv P cs
    go true q r = let z : tv ≡ tv' = cc in rw (← z) (boxless_owns us hs (OwnsAll tv gv P) cs q h)
    go false q r = none_some tv' r
restore_sim (a ∷ as₁) [] hs vs tv gv P cs tv' le l e h = none_some tv' e
restore_sim (a ∷ as₁) (u ∷ us) [] vs tv gv P cs tv' le l e h = elim h [ ]
restore_sim (a ∷ as₁) (u ∷ us) (x ∷ hs) [] tv gv P cs tv' le l e h = let z : ⊥ = omega arith in elim z [ ]
restore_sim (a ∷ as₁) (u ∷ us) (x ∷ hs) (v ∷ vs) tv gv P cs tv' le l e h = go (restore as₁ us tv) refl (λ tv₁ q ds p. restore_sim as₁ us hs vs tv gv P ds tv₁ (omega arith) (λ i. l (suc i)) q p)
  where
    go : (r : Option (List Tree)) → restore as₁ us tv ≡ r → ((tv₁ : List Tree) → restore as₁ us tv ≡ Some tv₁ → (ds : List Cell) → OwnsAll us hs (OwnsAll tv gv P) ds → OwnsAll tv₁ (patch as₁ vs gv) P ds) → OwnsAll tv' (patch (a ∷ as₁) (v ∷ vs) gv) P cs
    go None q ih = none_some tv' (rw q at e)
    go (Some tv₁) q ih = back_one a u x v (patch as₁ vs gv) P cs tv₁ tv' (owns_map u x (OwnsAll us hs (OwnsAll tv gv P)) (OwnsAll tv₁ (patch as₁ vs gv) P) cs (ih tv₁ q) h) (rw q at e) (λ m c f. l 0 a m u refl c refl f) a.lent refl u refl
