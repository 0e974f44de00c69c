-- What a result with no fault came from.
use Rattle.std.proofs.Common.{◌≡◌, ℕ, Bool, true, false, cond, eqb, Some, None, Option, sym, refl, ◌∙◌}
use Rattle.std.specs.List.{slice_get}
use Rattle.owned.specs.Runs.{Val, n, at, nothing, Cell, free, holds, St, R, fine, fault, full, May, ok, bad, num, cell_at, set_v, with_cells, in_box, held, first, first_free, new, box_at, Took, took, missing, with_t}
use Rattle.owned.specs.Strict.{freed, or_fault, place}
use Rattle.machine.specs.Operations.{NoFault}

module _ {r : R} (well : NoFault r) where
  pub there_of : {A : Type 0} (o : Option A) (k : A → R) → or_fault o k ≡ r → (a : A) × (o ≡ Some a) × (k a ≡ r)
  there_of None k e = absurd (well 1 (sym e))
  there_of (Some a) k e = (a, refl, e)

  pub place_of : (k x : ℕ) (v : Val) (s : St) → place k x v s ≡ r → (t : St) × (place k x v s ≡ fine t) × (r ≡ fine t)
  place_of k x v s e =
      let o = there_of (slice_get s.vars x) (λ u. or_fault (freed k u s.cells) (λ cs. fine (set_v (with_cells s cs) x v))) e in
      let q = there_of (freed k o.0 s.cells) (λ cs. fine (set_v (with_cells s cs) x v)) o.2 in
      (set_v (with_cells s q.0) x v, e ∙ sym q.2, sym q.2)

  pub took_of : {A : Type 0} (o : Took A) (k : A → St → R) → with_t o k ≡ r → (v : A) × (t : St) × (o ≡ took v t) × (k v t ≡ r)
  took_of missing k e = absurd (well 1 (sym e))
  took_of (took v t) k e = (v, t, refl, e)

  pub box_of : (v : Val) (k : ℕ → ℕ → R) → in_box v k ≡ r → (a : ℕ) × (b : ℕ) × (v ≡ at a b) × (k a b ≡ r)
  box_of (n m) k e = absurd (well 1 (sym e))
  box_of nothing k e = absurd (well 1 (sym e))
  box_of (at a b) k e = (a, b, refl, e)

  pub held_of : (s : St) (a b : ℕ) (k : Val → R) → held s a b k ≡ r → (c : ℕ) × (v : Val) × (cell_at s a ≡ holds c v) × (k v ≡ r)
  held_of s a b k e = go (cell_at s a) refl
    where
      same : (q : Bool) (c : ℕ) (v : Val) → cell_at s a ≡ holds c v → cond q (k v) (fault 2) ≡ r → (c : ℕ) × (v : Val) × (cell_at s a ≡ holds c v) × (k v ≡ r)
      same true c v i h = (c, v, i, h)
      same false c v i h = absurd (well 2 (sym h))

      go : (c : Cell) → cell_at s a ≡ c → (c : ℕ) × (v : Val) × (cell_at s a ≡ holds c v) × (k v ≡ r)
      go free i = absurd (well 2 (sym (rw i at e)))
      go (holds c v) i = same (eqb b c) c v i (rw i at e)

  pub number_of : (m : May) (k : ℕ → R) → num m k ≡ r → (a : ℕ) × (m ≡ ok a) × (k a ≡ r)
  number_of bad k e = absurd (well 3 (sym e))
  number_of (ok a) k e = (a, refl, e)

pub new_none : (s : St) (v : Val) (k : Val → St → R) → first s.cells 0 ≡ None → new first_free s v k ≡ full
new_none s v k e = rw e

pub new_some : (s : St) (v : Val) (k : Val → St → R) (a : ℕ) → first s.cells 0 ≡ Some a → new first_free s v k ≡ k (at a s.made) (box_at s a v)
new_some s v k a e = rw e
