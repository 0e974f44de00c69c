-- Arguments of a call and other variables: an argument neither sees nor changes a variable that is not among them.
-- A variable that is bare is none in the value machine, so that a box lent once is not lent or handed over again.
use Rattle.std.proofs.Common.{◌≡◌, ℕ, zero, suc, Bool, true, false, cond, eqb, List, [], ◌∷◌, Some, None, Option, sym, refl, ◌∙◌, arith}
use Rattle.std.specs.List.{slice_get}
use Rattle.std.proofs.lemmas.List.{set_comm}
use Rattle.std.proofs.lemmas.Bool.{eqb-false, ne_eqb, or_from, or_parts}
use Rattle.owned.specs.Program.{Arg, Sig, kind, is_lent}
use Rattle.owned.specs.Runs.{Val, n, at, nothing, St, set_v, Took, took, missing, taken_box, more}
use Rattle.owned.specs.Strict.{taken_at, lent_at, pass_one, pass}
use Rattle.owned.specs.Kept.{again}
use Rattle.owned.specs.Values
use Rattle.owned.specs.Values.{Tree}
use Rattle.owned.proofs.Places.{nth_set_other}

-- nothing was taken where something is missing
not_took : {A B : Type 0} (v : A) (t : St) → ◌≡◌ {A = Took A} missing (took v t) → B
not_took v t e = let z : ◌≡◌ {A = ℕ} 0 1 = cc in let y : ⊥ = omega arith in elim y [ ]

not_took_tree : {A B : Type 0} (t : A) (w : Values.St) → ◌≡◌ {A = Values.Took A} Values.missing (Values.took t w) → B
not_took_tree t w e = let z : ◌≡◌ {A = ℕ} 0 1 = cc in let y : ⊥ = omega arith in elim y [ ]

-- an argument in another variable neither sees nor changes x
one_apart : (m k y : ℕ) (s : St) (x : ℕ) (v v' : Val) (t : St) → (x ≡ y → ⊥) → pass_one m k y s ≡ took v' t → (pass_one m k y (set_v s x v) ≡ took v' (set_v t x v)) × (slice_get t.vars x ≡ slice_get s.vars x)
one_apart zero k y s x v v' t ne e = rw (nth_set_other s.vars x y v ne) (go k (slice_get s.vars y) e)
  where
    box : (w : Val) → taken_box s y w ≡ took v' t → (taken_box (set_v s x v) y w ≡ took v' (set_v t x v)) × (slice_get t.vars x ≡ slice_get s.vars x)
    box (n m) e = not_took v' t e
    box nothing e = not_took v' t e
    box (at a b) e =
        let e₁ : v' ≡ at a b = cc in let e₂ : t ≡ set_v s y nothing = cc in
        (rw (e₁, e₂, set_comm s.vars x y v nothing ne) refl, rw e₂ (nth_set_other s.vars y x nothing (λ r. ne (sym r))))

    go : (k : ℕ) (o : Option Val) → taken_at k s y o ≡ took v' t → (taken_at k (set_v s x v) y o ≡ took v' (set_v t x v)) × (slice_get t.vars x ≡ slice_get s.vars x)
    go k None e = not_took v' t e
    go zero (Some w) e = let e₁ : v' ≡ w = cc in let e₂ : t ≡ s = cc in (rw (e₁, e₂) refl, rw e₂ refl)
    go (suc k) (Some w) e = box w e
one_apart (suc m) k y s x v v' t ne e = rw (nth_set_other s.vars x y v ne) (go (slice_get s.vars y) e)
  where
    go : (o : Option Val) → lent_at s o ≡ took v' t → (lent_at (set_v s x v) o ≡ took v' (set_v t x v)) × (slice_get t.vars x ≡ slice_get s.vars x)
    go None e = not_took v' t e
    go (Some w) e = let e₁ : v' ≡ w = cc in let e₂ : t ≡ s = cc in (rw (e₁, e₂) refl, rw e₂ refl)

pub pass_apart : (p : Sig) (bs : List Arg) (s : St) (x : ℕ) (v : Val) (vs : List Val) (u : St) → again x bs ≡ false → pass p bs s ≡ took vs u → (pass p bs (set_v s x v) ≡ took vs (set_v u x v)) × (slice_get u.vars x ≡ slice_get s.vars x)
pass_apart p [] s x v vs u a e = let e₁ : vs ≡ [] = cc in let e₂ : u ≡ s = cc in (rw (e₁, e₂) refl, rw e₂ refl)
pass_apart p (b ∷ bs) s x v vs u a e = go (pass_one b.lent (kind p b.of) b.of s) refl (λ t vs' u' q. pass_apart p bs t x v vs' u' (or_parts (eqb x b.of) _ a).1 q)
  where
    Rest : Type 0
    Rest = (t : St) (vs' : List Val) (u' : St) → pass p bs t ≡ took vs' u' → (pass p bs (set_v t x v) ≡ took vs' (set_v u' x v)) × (slice_get u'.vars x ≡ slice_get t.vars x)

    tail : Rest → (w : Val) (t : St) (o : Took (List Val)) → pass p bs t ≡ o → more w o ≡ took vs u → (more w (pass p bs (set_v t x v)) ≡ took vs (set_v u x v)) × (slice_get u.vars x ≡ slice_get t.vars x)
    tail ih w t (took vs' u') q r = let e₁ : vs ≡ w ∷ vs' = cc in let e₂ : u' ≡ u = cc in let (h, z) = ih t vs' u' q in (rw (h, e₁, e₂) refl, rw e₂ at z)
    tail ih w t missing q r = not_took vs u r

    go : (o : Took Val) → pass_one b.lent (kind p b.of) b.of s ≡ o → Rest → (pass p (b ∷ bs) (set_v s x v) ≡ took vs (set_v u x v)) × (slice_get u.vars x ≡ slice_get s.vars x)
    go (took w t) q ih =
        let (h, z) = one_apart b.lent (kind p b.of) b.of s x v w t (eqb-false x b.of (or_parts (eqb x b.of) _ a).0) q in
        let (h₂, z₂) = tail ih w t (pass p bs t) refl (rw q at e) in
        (rw h h₂, z₂ ∙ z)
    go missing q ih = not_took vs u (rw q at e)

-- a variable that is bare is no argument of a call that is made, and stays bare
one_bare : (p : Sig) (m k y : ℕ) (w : Values.St) (x : ℕ) (t : Tree) (u : Values.St) → Values.hand_one p m k y w ≡ Values.took t u → slice_get w.vars x ≡ Some Tree.bare → (x ≡ y → ⊥) × (slice_get u.vars x ≡ Some Tree.bare)
one_bare p m k y w x t u e b = go m k (slice_get w.vars y) refl (at_tree m k e)
  where
    one_as : ℕ → ℕ → Option Tree → Values.Took Tree
    one_as zero k o = Values.taken_as p k w y o
    one_as (suc m) k o = Values.lent_as w y o

    at_tree : (m k : ℕ) → Values.hand_one p m k y w ≡ Values.took t u → one_as m k (slice_get w.vars y) ≡ Values.took t u
    at_tree zero k e = e
    at_tree (suc m) k e = e

    other : (o : Tree) → slice_get w.vars y ≡ Some o → (o ≡ Tree.bare → ⊥) → x ≡ y → ⊥
    other o q f r = f (cc (rw r at b))

    stayed : (o : Tree) → slice_get w.vars y ≡ Some o → (o ≡ Tree.bare → ⊥) → u ≡ w → (x ≡ y → ⊥) × (slice_get u.vars x ≡ Some Tree.bare)
    stayed o q f r = (other o q f, rw r b)

    moved : (o : Tree) → slice_get w.vars y ≡ Some (Tree.box o) → u ≡ Values.set_v w y Tree.bare → (x ≡ y → ⊥) × (slice_get u.vars x ≡ Some Tree.bare)
    moved o q r = let ne = other (Tree.box o) q (λ z. (let y : ◌≡◌ {A = ℕ} 0 1 = cc in omega arith)) in (ne, rw r (nth_set_other w.vars y x Tree.bare (λ z. ne (sym z)) ∙ b))

    unless_lent : (b : Bool) (o : Tree) → slice_get w.vars y ≡ Some (Tree.box o) → cond b Values.missing (Values.took (Tree.box o) (Values.set_v w y Tree.bare)) ≡ Values.took t u → (x ≡ y → ⊥) × (slice_get u.vars x ≡ Some Tree.bare)
    unless_lent true o q r = not_took_tree t u r
    unless_lent false o q r = moved o q cc

    go : (m k : ℕ) (o : Option Tree) → slice_get w.vars y ≡ o → one_as m k o ≡ Values.took t u → (x ≡ y → ⊥) × (slice_get u.vars x ≡ Some Tree.bare)
    go zero k None q r = not_took_tree t u r
    go (suc m) k None q r = not_took_tree t u r
    go zero zero (Some (Tree.num j)) q r = stayed (Tree.num j) q (λ z. (let y : ◌≡◌ {A = ℕ} 0 1 = cc in omega arith)) cc
    go zero (suc k) (Some (Tree.num j)) q r = not_took_tree t u r
    go (suc m) k (Some (Tree.num j)) q r = stayed (Tree.num j) q (λ z. (let y : ◌≡◌ {A = ℕ} 0 1 = cc in omega arith)) cc
    go zero zero (Some Tree.bare) q r = not_took_tree t u r
    go zero (suc k) (Some Tree.bare) q r = not_took_tree t u r
    go (suc m) k (Some Tree.bare) q r = not_took_tree t u r
    go zero zero (Some (Tree.box o)) q r = not_took_tree t u r
    go zero (suc k) (Some (Tree.box o)) q r = unless_lent (is_lent p y) o q r
    go (suc m) k (Some (Tree.box o)) q r = moved o q cc

pub bare_apart : (p : Sig) (bs : List Arg) (w : Values.St) (x : ℕ) (ts : List Tree) (w' : Values.St) → Values.hand p bs w ≡ Values.took ts w' → slice_get w.vars x ≡ Some Tree.bare → again x bs ≡ false
bare_apart p [] w x ts w' e b = refl
bare_apart p (a ∷ bs) w x ts w' e b = go (Values.hand_one p a.lent (kind p a.of) a.of w) refl (λ u ts' z q c. bare_apart p bs u x ts' z q c)
  where
    Rest : Type 0
    Rest = (u : Values.St) (ts' : List Tree) (z : Values.St) → Values.hand p bs u ≡ Values.took ts' z → slice_get u.vars x ≡ Some Tree.bare → again x bs ≡ false

    tail : Rest → (t : Tree) (o : Values.Took (List Tree)) (u : Values.St) → slice_get u.vars x ≡ Some Tree.bare → Values.hand p bs u ≡ o → Values.more t o ≡ Values.took ts w' → again x bs ≡ false
    tail ih t (Values.took ts' z) u c q r = ih u ts' z q c
    tail ih t Values.missing u c q r = not_took_tree ts w' r

    go : (o : Values.Took Tree) → Values.hand_one p a.lent (kind p a.of) a.of w ≡ o → Rest → again x (a ∷ bs) ≡ false
    go (Values.took t u) q ih =
        let (ne, c) = one_bare p a.lent (kind p a.of) a.of w x t u q b in
        or_from (eqb x a.of) (again x bs) (ne_eqb x a.of ne) (tail ih t (Values.hand p bs u) u c refl (rw q at e))
    go Values.missing q ih = not_took_tree ts w' (rw q at e)
