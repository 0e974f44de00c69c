-- Giving cells back and taking them, in words: the free list says where, and a box's word says which cell.
use Rattle.std.proofs.Common.{◌≡◌, ℕ, zero, suc, ◌+◌, ◌-◌, ◌<◌, Bool, true, false, cond, eqb, ◌⊎◌, List, length, get_or, set, Some, None, Option, sym, refl, ◌∙◌, subst, inl, inr, arith, length-set}
use Rattle.std.proofs.lemmas.List.{get_or-set_same, get_or-set_other}
use Rattle.std.proofs.lemmas.Bool.{cases_eq}
use Rattle.owned.specs.Runs.{Val, n, at, nothing, Cell, free, holds}
use Rattle.owned.specs.FreeList.{FreeList, InUse, GivenBack}
use Rattle.owned.proofs.Places.{none_some}
use Rattle.machine.specs.Memory.{Store}
use Rattle.machine.specs.Represents.{Means, Heap}
use Rattle.owned.specs.Strict.{opened_by, closed, freed}
use Rattle.machine.specs.Operations.{CellFreed, Releases, CanRelease, Released}
use Rattle.machine.proofs.Words.{in_use_there, not_holds}

-- a cell given back: the others hold what they held
pub cell_freed : {m : Store} {a k h : ℕ} {l : List ℕ} → k ≡ m.many → ((cs : List Cell) → FreeList m.links m.head cs → InUse cs a → GivenBack m.links l h cs a) → CellFreed m a (record { many = k; contents = m.contents; links = l; head = h })
cell_freed {m} {a} {k} {h} {l} e g = record { many = e; contents = refl; heap = λ cs r u. record { list = (g cs r.list u).list; many = length-set cs a free ∙ r.many ∙ sym e; fits = rw e r.fits; room = rw e r.room; content = λ i b v e. still cs r u i b v e (cases_eq i a) } }
  where
    still : (cs : List Cell) → Heap m cs → InUse cs a → (i b : ℕ) (v : Val) → get_or (set cs a free) i free ≡ holds b v → (i ≡ a) ⊎ (i ≡ a → ⊥) → Means v (get_or m.contents i 0)
    still cs r (b', v', eu) i b v e (inl q) = not_holds b v (sym (get_or-set_same cs a free free (in_use_there cs a b' v' eu)) ∙ rw q at e)
    still cs r u i b v e (inr ne) = r.content i b v (sym (get_or-set_other cs a i free free ne) ∙ e)

-- a box that is given back: what is in it first, and then its cell, which is still its own
pub record Opened (m : Store) (k w : ℕ) (cs ds : List Cell) : Type 0 where
  pub inside : Val
  pub room : w - 1 < length m.contents
  pub left : List Cell
  pub inner : Releases m (k - 1) (get_or m.contents (w - 1) 0) inside cs left
  pub still : InUse left (w - 1)
  pub end : set left (w - 1) free ≡ ds

pub opens : {m : Store} {k w : ℕ} {v : Val} {cs ds : List Cell} → 0 < k → 0 < w → Releases m k w v cs ds → Opened m k w cs ds
opens {m} {k} {w} {v} {cs} {ds} lk lw r = go k refl v lk r.means r.freed
  where
    last : (a b : ℕ) → w - 1 ≡ a → (u : Val) → w - 1 < length m.contents → (es : List Cell) → Releases m (k - 1) (get_or m.contents (w - 1) 0) u cs es → (c : Cell) → get_or es a free ≡ c → opened_by b c (λ z. Some (set es a free)) ≡ Some ds → Opened m k w cs ds
    last a b z u l es i free e f = none_some ds f
    last a b z u l es i (holds x v') e f = same (eqb b x) f
      where
        same : (q : Bool) → cond q (Some (set es a free)) None ≡ Some ds → Opened m k w cs ds
        same false f = none_some ds f
        same true f = record { inside = u; room = l; left = es; inner = i; still = (x, v', rw z e); end = cc }

    inner : (j a b : ℕ) → k - 1 ≡ j → w - 1 ≡ a → (u : Val) → Means u (get_or m.contents a 0) → w - 1 < length m.contents → (o : Option (List Cell)) → freed j u cs ≡ o → closed a b o ≡ Some ds → Opened m k w cs ds
    inner j a b ej z u me l None e f = none_some ds f
    inner j a b ej z u me l (Some es) e f = last a b z u l es (record { heap = r.heap; means = rw z me; freed = rw ej e }) (get_or es a free) refl f

    found : (j a b : ℕ) → k - 1 ≡ j → w ≡ a + 1 → (c : Cell) → get_or cs a free ≡ c → opened_by b c (λ u. closed a b (freed j u cs)) ≡ Some ds → Opened m k w cs ds
    found j a b ej ea free e f = none_some ds f
    found j a b ej ea (holds x u) e f = same (eqb b x) f
      where
        same : (q : Bool) → cond q (closed a b (freed j u cs)) None ≡ Some ds → Opened m k w cs ds
        same false f = none_some ds f
        same true f =
            let l = in_use_there cs a x u e in
            inner j a b ej (omega arith) u (r.heap.content a x u e) (omega (arith, l, r.heap.many, r.heap.room)) (freed j u cs) refl f

    go : (i : ℕ) → k ≡ i → (v : Val) → 0 < i → Means v w → freed i v cs ≡ Some ds → Opened m k w cs ds
    go zero ek v l me f = absurd (omega arith)
    go (suc i) ek (n x) l me f = none_some ds f
    go (suc i) ek nothing l me f = absurd (omega arith)
    go (suc i) ek (at a b) l me f = found i a b (omega arith) me (get_or cs a free) refl f

-- nothing to give back
pub nothing_held : {m : Store} {k w : ℕ} → (0 < k → 0 < w → ⊥) → Released m k w m
nothing_held {m} {k} {w} z = record { many = refl; contents = refl; heap = λ v cs ds r. subst (λ es. Heap m es) (same k w v cs ds z r.means r.freed) r.heap }
  where
    same : (k w : ℕ) (u : Val) (es ds : List Cell) → (0 < k → 0 < w → ⊥) → Means u w → freed k u es ≡ Some ds → es ≡ ds
    same zero w u es ds z me f = cc
    same (suc k) w (n x) es ds z me f = none_some ds f
    same (suc k) w nothing es ds z me f = cc
    same (suc k) w (at a b) es ds z me f = absurd (z (omega arith) (omega arith))

-- a box: its content can be read and given back, then its cell, and that is all
module _ {m : Store} {k w : ℕ} (lk : 0 < k) (lw : 0 < w) where
  pub can_release_inside : CanRelease m k w → CanRelease m (k - 1) (get_or m.contents (w - 1) 0)
  can_release_inside (v, cs, ds, r) = let o = opens lk lw r in (o.inside, cs, o.left, o.inner)

  module _ {m₁ : Store} (i : Released m (k - 1) (get_or m.contents (w - 1) 0) m₁) where
    pub cell_in_use : CanRelease m k w → (es : List Cell) × Heap m₁ es × InUse es (w - 1)
    cell_in_use (v, cs, ds, r) = let o = opens lk lw r in (o.left, i.heap o.inside cs o.left o.inner, o.still)

    pub box_released : {m₂ : Store} → CellFreed m₁ (w - 1) m₂ → Released m k w m₂
    box_released {m₂} f = record {
      many = f.many ∙ i.many;
      contents = f.contents ∙ i.contents;
      heap = λ v cs ds r. (let o = opens lk lw r in rw (sym o.end) (f.heap o.left (i.heap o.inside cs o.left o.inner) o.still));
    }
