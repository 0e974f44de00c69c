-- The free list: where the next free cell is, before and after a cell is taken or given back, by induction on the cells;
-- then that the chain of links stays right when the first free cell is taken and when a cell is put back into its place.
use Rattle.std.proofs.Common.{◌≡◌, ℕ, zero, suc, ◌+◌, ◌<◌, ◌≤◌, ◌≢◌, ◌⊎◌, List, [], ◌∷◌, length, get_or, set, replicate, Some, None, sym, refl, ap, ◌∙◌, subst, inl, inr, add-one, arith}
use Rattle.std.proofs.lemmas.List.{length-set, length-replicate, get_or-set_same, get_or-set_other, get_or_default, drop-set-lt}
use Rattle.std.proofs.lemmas.Bool.{cases_order}
use Rattle.owned.specs.Runs.{Val, nothing, Cell, free, holds, first}
use Rattle.owned.specs.FreeList.{next_free, FreeAt, InUse, FreeList, GivenBack}

free_within : (cs : List Cell) (a : ℕ) → FreeAt cs a → a < length cs
free_within [] a f = let z : ◌≡◌ {A = ℕ} 0 1 = cc in omega arith
free_within (c ∷ cs) zero f = omega arith
free_within (c ∷ cs) (suc a) f = omega (arith, free_within cs a f)

used_within : (cs : List Cell) (a : ℕ) → InUse cs a → a < length cs
used_within [] a u = let e = u.2 in let z : ◌≡◌ {A = ℕ} 0 1 = cc in omega arith
used_within (c ∷ cs) zero u = omega arith
used_within (c ∷ cs) (suc a) u = omega (arith, used_within cs a u)

next_within : (cs : List Cell) (i : ℕ) → next_free cs i ≤ length cs
next_within [] i = omega arith
next_within (c ∷ cs) (suc i) = omega (arith, next_within cs i)
next_within (free ∷ cs) zero = omega arith
next_within (holds b v ∷ cs) zero = omega (arith, next_within cs 0)

next_from : (cs : List Cell) (i : ℕ) → i ≤ length cs → i ≤ next_free cs i
next_from [] i h = h
next_from (c ∷ cs) (suc i) h = omega (arith, next_from cs i (omega arith))
next_from (free ∷ cs) zero h = omega arith
next_from (holds b v ∷ cs) zero h = omega arith

next_free_lem : (cs : List Cell) (i : ℕ) → next_free cs i < length cs → FreeAt cs (next_free cs i)
next_free_lem [] i h = absurd (omega arith)
next_free_lem (c ∷ cs) (suc i) h = next_free_lem cs i (omega arith)
next_free_lem (free ∷ cs) zero h = refl
next_free_lem (holds b v ∷ cs) zero h = next_free_lem cs 0 (omega arith)

next_least : (cs : List Cell) (i k : ℕ) → i ≤ k → FreeAt cs k → next_free cs i ≤ k
next_least [] i k h f = omega arith
next_least (c ∷ cs) (suc i) zero h f = absurd (omega arith)
next_least (c ∷ cs) (suc i) (suc k) h f = omega (arith, next_least cs i k (omega arith) f)
next_least (free ∷ cs) zero k h f = omega arith
next_least (holds b v ∷ cs) zero zero h f = let z : ◌≡◌ {A = ℕ} 0 1 = cc in omega arith
next_least (holds b v ∷ cs) zero (suc k) h f = omega (arith, next_least cs 0 k (omega arith) f)

-- no cell is free between i and the next free one
next_between : (cs : List Cell) (i a : ℕ) → i ≤ a → a < next_free cs i → next_free cs i ≡ next_free cs (suc a)
next_between [] i a h l = absurd (omega arith)
next_between (c ∷ cs) (suc i) zero h l = absurd (omega arith)
next_between (c ∷ cs) (suc i) (suc a) h l = ap suc (next_between cs i a (omega arith) (omega arith))
next_between (free ∷ cs) zero a h l = absurd (omega arith)
next_between (holds b v ∷ cs) zero zero h l = refl
next_between (holds b v ∷ cs) zero (suc a) h l = ap suc (next_between cs 0 a (omega arith) (omega arith))

next_all_free : (n i : ℕ) → i ≤ n → next_free (replicate n free) i ≡ i
next_all_free zero i h = omega arith
next_all_free (suc n) zero h = refl
next_all_free (suc n) (suc i) h = ap suc (next_all_free n i (omega arith))

-- what is done to a cell does not change which is the next free one after it
next_after : (cs : List Cell) (a i : ℕ) (c : Cell) → a < i → next_free (set cs a c) i ≡ next_free cs i
next_after [] a i c l = refl
next_after (d ∷ cs) a zero c l = absurd (omega arith)
next_after (d ∷ cs) zero (suc i) c l = refl
next_after (d ∷ cs) (suc a) (suc i) c l = ap suc (next_after cs a i c (omega arith))

-- once the next free cell is in use, it is the one after it
next_taken : (cs : List Cell) (i a b : ℕ) (v : Val) → next_free cs i ≡ a → next_free (set cs a (holds b v)) i ≡ next_free cs (suc a)
next_taken [] i a b v e = refl
next_taken (c ∷ cs) (suc i) zero b v e = absurd (omega arith)
next_taken (c ∷ cs) (suc i) (suc a) b v e = ap suc (next_taken cs i a b v (omega arith))
next_taken (free ∷ cs) zero zero b v e = refl
next_taken (free ∷ cs) zero (suc a) b v e = absurd (omega arith)
next_taken (holds d w ∷ cs) zero zero b v e = absurd (omega arith)
next_taken (holds d w ∷ cs) zero (suc a) b v e = ap suc (next_taken cs 0 a b v (omega arith))

-- a cell that is freed before the next free one is the next free one
next_freed : (cs : List Cell) (i a : ℕ) → a < length cs → i ≤ a → a ≤ next_free cs i → next_free (set cs a free) i ≡ a
next_freed [] i a l h m = absurd (omega arith)
next_freed (c ∷ cs) (suc i) zero l h m = absurd (omega arith)
next_freed (c ∷ cs) (suc i) (suc a) l h m = ap suc (next_freed cs i a (omega arith) (omega arith) (omega arith))
next_freed (c ∷ cs) zero zero l h m = refl
next_freed (free ∷ cs) zero (suc a) l h m = absurd (omega arith)
next_freed (holds b v ∷ cs) zero (suc a) l h m = ap suc (next_freed cs 0 a (omega arith) (omega arith) (omega arith))

-- one that is freed after it leaves it
next_before : (cs : List Cell) (i a : ℕ) → next_free cs i < a → next_free (set cs a free) i ≡ next_free cs i
next_before [] i a l = refl
next_before (c ∷ cs) i zero l = absurd (omega arith)
next_before (c ∷ cs) (suc i) (suc a) l = ap suc (next_before cs i a (omega arith))
next_before (free ∷ cs) zero (suc a) l = refl
next_before (holds b v ∷ cs) zero (suc a) l = ap suc (next_before cs 0 a (omega arith))

-- a new box gets the next free cell from 0, and none where that is how many cells there are
pub first_some : (cs : List Cell) (i : ℕ) → next_free cs 0 < length cs → first cs i ≡ Some (i + next_free cs 0)
first_some [] i h = absurd (omega arith)
first_some (free ∷ cs) i h = let e : i ≡ i + 0 = omega arith in ap (λ j. Some j) e
first_some (holds b v ∷ cs) i h =
    let e : i + 1 + next_free cs 0 ≡ i + suc (next_free cs 0) = omega arith in
    first_some cs (i + 1) (omega arith) ∙ ap (λ j. Some j) e

pub first_none : (cs : List Cell) (i : ℕ) → next_free cs 0 ≡ length cs → first cs i ≡ None
first_none [] i e = refl
first_none (free ∷ cs) i e = absurd (omega arith)
first_none (holds b v ∷ cs) i e = first_none cs (i + 1) (omega arith)

free_other : (cs : List Cell) (a k : ℕ) (c : Cell) → k ≢ a → FreeAt (set cs a c) k → FreeAt cs k
free_other cs a k c n f = sym (get_or-set_other cs a k c (holds 0 nothing) n) ∙ f

-- a cell in use is not free
used_not_free : (cs : List Cell) (a k : ℕ) → InUse cs a → FreeAt cs k → k ≢ a
used_not_free cs a k u f e =
    let d = get_or_default cs a free (holds 0 nothing) (used_within cs a u) in
    let w = u.2 in
    let g : get_or cs a (holds 0 nothing) ≡ free = ap (λ j. get_or cs j (holds 0 nothing)) (sym e) ∙ f in
    let z : ◌≡◌ {A = ℕ} 0 1 = cc in
    omega arith

-- so many cells, each linked to the next
pub all_linked : (links : List ℕ) (n : ℕ) → n ≤ length links → ((k : ℕ) → k < n → get_or links k 0 ≡ k + 1) → FreeList links 0 (replicate n free)
all_linked links n w f =
    let e = length-replicate n free in
    record {
      linked = omega arith;
      begins = sym (next_all_free n 0 (omega arith));
      next = λ a m. let h : a < n = omega (arith, free_within (replicate n free) a m) in f a h ∙ sym (next_all_free n (a + 1) (omega arith));
    }

module _ (links : List ℕ) (head : ℕ) (cs : List Cell) (l : FreeList links head cs) where
  -- the link of a free cell
  link : (a : ℕ) → FreeAt cs a → get_or links a 0 ≡ next_free cs (suc a)
  link a f = l.next a f ∙ ap (λ i. next_free cs i) (add-one a)

  -- the links ascend
  pub link_after : (a : ℕ) → FreeAt cs a → a < get_or links a 0
  link_after a f = omega (arith, link a f, next_from cs (suc a) (free_within cs a f))

  pub none_free : head ≡ length cs → first cs 0 ≡ None
  none_free e = first_none cs 0 (sym l.begins ∙ e)

  pub head_within : head ≢ length cs → head < length cs
  head_within n = let b = l.begins in omega (arith, next_within cs 0)

  module _ (h : head < length cs) where
    head_free : FreeAt cs head
    head_free = subst (λ i. FreeAt cs i) (sym l.begins) (next_free_lem cs 0 (omega (arith, l.begins)))

    pub first_head : first cs 0 ≡ Some head
    first_head = let e : 0 + next_free cs 0 ≡ head = omega (arith, l.begins) in first_some cs 0 (omega (arith, l.begins)) ∙ ap (λ i. Some i) e

    -- the list without its head
    pub taken : (b : ℕ) (v : Val) → FreeList links (get_or links head 0) (set cs head (holds b v))
    taken b v =
        let e = length-set cs head (holds b v) in
        record {
          linked = omega (arith, l.linked);
          begins = link head head_free ∙ sym (next_taken cs 0 head b v (sym l.begins));
          next = λ a f.
              let n = used_not_free (set cs head (holds b v)) head a (b, v, get_or-set_same cs head (holds b v) free h) f in
              let g = free_other cs head a (holds b v) n f in
              let after : head < a + 1 = omega (arith, l.begins, next_least cs 0 a (omega arith) g) in
              l.next a g ∙ sym (next_after cs head (a + 1) (holds b v) after);
        }

  module _ (a : ℕ) (u : InUse cs a) where
    here : a < length cs
    here = used_within cs a u

    pub link_there : a < length links
    link_there = omega (arith, here, l.linked)

    next_not_here : (i : ℕ) → next_free cs i ≢ a
    next_not_here i e = used_not_free cs a (next_free cs i) u (next_free_lem cs i (omega (arith, here))) e

    -- the list with the cell in it: its own link and those after it, the head and the links before it
    relinked :
        (links' : List ℕ) (head' : ℕ) →
        length links' ≡ length links →
        get_or links' a 0 ≡ next_free cs (suc a) →
        ((k : ℕ) → a < k → get_or links' k 0 ≡ get_or links k 0) →
        head' ≡ next_free (set cs a free) 0 →
        ((k : ℕ) → k < a → FreeAt cs k → get_or links' k 0 ≡ next_free (set cs a free) (suc k)) →
        FreeList links' head' (set cs a free)
    relinked links' head' same own after begins before =
        let e = length-set cs a free in
        record {
          linked = omega (arith, l.linked);
          begins = begins;
          next = λ k f. rw (add-one k) (go k f (cases_order k a));
        }
      where
        go : (k : ℕ) → FreeAt (set cs a free) k → (k ≡ a) ⊎ ((k < a) ⊎ (a < k)) → get_or links' k 0 ≡ next_free (set cs a free) (suc k)
        go k f (inl q) =
            let n : a < suc a = omega arith in
            rw q (own ∙ sym (next_after cs a (suc a) free n))
        go k f (inr (inl m)) = before k m (free_other cs a k free (omega arith) f)
        go k f (inr (inr m)) = after k m ∙ link k (free_other cs a k free (omega arith) f) ∙ sym (next_after cs a (suc k) free (omega arith))

    -- a cell before all that are free becomes the head
    pub given_first : a < head → GivenBack links (set links a head) a cs a
    given_first h =
        record {
          list = relinked (set links a head) a (length-set links a head)
              (get_or-set_same links a head 0 link_there ∙ l.begins ∙ next_between cs 0 a (omega arith) (omega (arith, l.begins)))
              (λ k m. get_or-set_other links a k head 0 (omega arith))
              (sym (next_freed cs 0 a here (omega arith) (omega (arith, l.begins))))
              (λ k m f. absurd (omega (arith, l.begins, next_least cs 0 k (omega arith) f)));
          past = drop-set-lt (length cs) links a head here;
        }

    -- the walk begins at the head
    pub walk_begin : head ≤ a → FreeAt cs head × (head < a)
    walk_begin h = (head_free (omega (arith, here)), omega (arith, l.begins, next_not_here 0))

    module _ (p : ℕ) (f : FreeAt cs p) where
      -- it goes on to another free cell while that is before the one that is given back
      pub walk_more : get_or links p 0 < a → FreeAt cs (get_or links p 0)
      walk_more h = subst (λ i. FreeAt cs i) (sym (link p f)) (next_free_lem cs (suc p) (omega (arith, here, link p f)))

      -- the links with the cell between that free one and the next
      abbrev between : List ℕ
      between = set (set links a (get_or links p 0)) p a

      others : (k : ℕ) → k ≢ p → k ≢ a → get_or between k 0 ≡ get_or links k 0
      others k n m = get_or-set_other (set links a (get_or links p 0)) p k a 0 n ∙ get_or-set_other links a k (get_or links p 0) 0 m

      -- the walk ends at the last free cell before the one that is given back
      pub given_after : p < a → a ≤ get_or links p 0 → GivenBack links between head cs a
      given_after b h =
          record {
            list = relinked between head (length-set (set links a (get_or links p 0)) p a ∙ length-set links a (get_or links p 0))
                (get_or-set_other (set links a (get_or links p 0)) p a a 0 (omega arith) ∙ get_or-set_same links a (get_or links p 0) 0 link_there ∙ link p f ∙ next_between cs (suc p) a b (omega (arith, link p f, next_not_here (suc p))))
                (λ k n. others k (omega arith) (omega arith))
                (l.begins ∙ sym (next_before cs 0 a (omega (arith, next_least cs 0 p (omega arith) f))))
                (λ k n g. before k n g (cases_order k p));
            past = drop-set-lt (length cs) (set links a (get_or links p 0)) p a (omega (arith, here)) ∙ drop-set-lt (length cs) links a (get_or links p 0) here;
          }
        where
          before : (k : ℕ) → k < a → FreeAt cs k → (k ≡ p) ⊎ ((k < p) ⊎ (p < k)) → get_or between k 0 ≡ next_free (set cs a free) (suc k)
          before k n g (inl q) =
              let m = length-set links a (get_or links p 0) in
              rw q (get_or-set_same (set links a (get_or links p 0)) p a 0 (omega (arith, link_there)) ∙ sym (next_freed cs (suc p) a here b (omega (arith, link p f))))
          before k n g (inr (inl m)) = others k (omega arith) (omega arith) ∙ link k g ∙ sym (next_before cs (suc k) a (omega (arith, next_least cs (suc k) p m f)))
          before k n g (inr (inr m)) = absurd (omega (arith, link p f, next_least cs (suc p) k m g))
