-- Reading and writing what the words stand for: words of the rows, variables, and cells.
-- Variables and cells are said place by place, so that a write is looked at once, at its place and at another.
use Rattle.std.proofs.Common.{◌≡◌, ℕ, zero, suc, ◌+◌, ◌<◌, ◌≤◌, ◌⊎◌, List, [], ◌∷◌, ◌++◌, length, get_or, drop, set, Some, sym, refl, ap, ◌∙◌, inl, inr, arith, length-append, length-drop, length-set}
use Rattle.std.specs.List.{slice_get}
use Rattle.std.proofs.lemmas.List.{get_or-set_same, get_or-set_other, get_or-drop, get_or_append_left}
use Rattle.std.proofs.lemmas.Bool.{cases_eq}
use Rattle.owned.specs.Program.{Sig, kind}
use Rattle.owned.specs.Runs.{Val, at, nothing, Cell, free, holds, St, get, set_v}
use Rattle.owned.specs.FreeList.{next_free, FreeAt}
use Rattle.owned.proofs.Places.{nth_lt, get_or_nth}
use Rattle.machine.specs.Memory.{Control, Store, Memory, set_word, set_content}
use Rattle.machine.specs.Represents.{Means, Vars, Heap, State}

-- the words of a list that begins at a place
pub word_in : (i : ℕ) (ws us : List ℕ) (j : ℕ) → drop i ws ≡ us → j < length us → (i + j < length ws) × (get_or ws (i + j) 0 ≡ get_or us j 0)
word_in i ws us j e l = (omega (arith, length-drop i ws, ap length e), sym (get_or-drop i ws j 0) ∙ ap (λ zs. get_or zs j 0) e)

-- variables
pub vars_write : (vs : List Val) (ws : List ℕ) (b x : ℕ) (v : Val) (w : ℕ) → Vars vs ws b → Means v w → x < length vs → Vars (set vs x v) (set ws (b + x) w) b
vars_write vs ws b x v w r m l = record { room = omega (arith, r.room, length-set vs x v, length-set ws (b + x) w); each = λ y h. at_place y (omega (arith, h, length-set vs x v)) (cases_eq y x) }
  where
    at_place : (y : ℕ) → y < length vs → (y ≡ x) ⊎ (y ≡ x → ⊥) → Means (get_or (set vs x v) y nothing) (get_or (set ws (b + x) w) (b + y) 0)
    at_place y h (inl e) = rw (e, get_or-set_same vs x v nothing l, get_or-set_same ws (b + x) w 0 (omega (arith, r.room))) m
    at_place y h (inr ne) = rw (get_or-set_other vs x y v nothing ne, get_or-set_other ws (b + x) (b + y) w 0 (λ q. ne (omega (arith, q)))) (r.each y h)

-- a write elsewhere, or other words that are the same there
pub vars_same : (vs : List Val) (ws us : List ℕ) (b : ℕ) → b + length vs ≤ length us → ((x : ℕ) → x < length vs → get_or us (b + x) 0 ≡ get_or ws (b + x) 0) → Vars vs ws b → Vars vs us b
vars_same vs ws us b l s r = record { room = l; each = λ x h. rw (s x h) (r.each x h) }

-- cells: one that is in use has a place, and one that is filled holds the word
pub in_use_there : (cs : List Cell) (a b : ℕ) (v : Val) → get_or cs a free ≡ holds b v → a < length cs
in_use_there [] a b v e = let z : ◌≡◌ {A = ℕ} 0 1 = cc in absurd (omega arith)
in_use_there (c ∷ cs) zero b v e = omega arith
in_use_there (c ∷ cs) (suc a) b v e = let l = in_use_there cs a b v e in omega arith

pub not_holds : {B : Type 0} (b : ℕ) (v : Val) → free ≡ holds b v → B
not_holds b v e = let z : ◌≡◌ {A = ℕ} 0 1 = cc in absurd (omega arith)

module _ {c : Control} {m : Memory} {p : Sig} {s : St} (r : State c m p s) where
  pub get_var : (x : ℕ) → x < length s.vars → (c.base + x < length m.frames) × Means (get s x) (get_or m.frames (c.base + x) 0)
  get_var x l = (omega (arith, r.vars.room), r.vars.each x l)

  -- a variable that is there, by its value
  pub get_value : (x : ℕ) (v : Val) → slice_get s.vars x ≡ Some v → (c.base + x < length m.frames) × Means v (get_or m.frames (c.base + x) 0)
  get_value x v e = rw (get_or_nth s.vars x v nothing e) at (get_var x (nth_lt s.vars x v e))

  pub get_kind : (x : ℕ) → x < length s.vars → (c.kinds + x < length c.code.rows) × (get_or c.code.rows (c.kinds + x) 0 ≡ kind p x)
  get_kind x l =
      let h : x < length p.kinds = omega (arith, r.long) in
      let w = word_in c.kinds c.code.rows (p.kinds ++ r.kinds.0) x r.kinds.1 (omega (arith, length-append p.kinds r.kinds.0)) in
      (w.0, w.1 ∙ get_or_append_left p.kinds r.kinds.0 0 x h)

  pub with_var : (x : ℕ) (v : Val) (w : ℕ) → x < length s.vars → Means v w → State c (set_word m (c.base + x) w) p (set_v s x v)
  with_var x v w l h = record { kinds = r.kinds; few = r.few; vars = vars_write s.vars m.frames c.base x v w r.vars h l; long = length-set s.vars x v ∙ r.long; cells = r.cells; shown = r.shown; turns = r.turns }

  -- other cells, with the variables as they are
  pub with_heap : (m₁ : Memory) (t : St) → m₁.frames ≡ m.frames → Heap m₁.store t.cells → t.vars ≡ s.vars → t.shown ≡ s.shown → t.left ≡ s.left → State c m₁ p t
  with_heap m₁ t ef h ev es el = record { kinds = r.kinds; few = r.few; vars = rw (ef, ev) r.vars; long = rw ev r.long; cells = h; shown = rw es r.shown; turns = r.turns ∙ sym el }

-- a box is in a variable that is there
pub box_there : (vs : List Val) (x a b : ℕ) → get_or vs x nothing ≡ at a b → x < length vs
box_there [] x a b e = let z : ◌≡◌ {A = ℕ} 0 1 = cc in absurd (omega arith)
box_there (v ∷ vs) zero a b e = omega arith
box_there (v ∷ vs) (suc x) a b e = let l = box_there vs x a b e in omega arith

-- a cell in use that is filled again: the free cells are the same
next_kept : (cs : List Cell) (a b b' : ℕ) (u v : Val) (i : ℕ) → get_or cs a free ≡ holds b u → next_free (set cs a (holds b' v)) i ≡ next_free cs i
next_kept [] a b b' u v i e = refl
next_kept (free ∷ cs) zero b b' u v i e = not_holds b u e
next_kept (holds x y ∷ cs) zero b b' u v zero e = refl
next_kept (holds x y ∷ cs) zero b b' u v (suc i) e = refl
next_kept (free ∷ cs) (suc a) b b' u v zero e = refl
next_kept (holds x y ∷ cs) (suc a) b b' u v zero e = ap suc (next_kept cs a b b' u v 0 e)
next_kept (c ∷ cs) (suc a) b b' u v (suc i) e = ap suc (next_kept cs a b b' u v i e)

free_kept : (cs : List Cell) (a b b' : ℕ) (u v : Val) (i : ℕ) → get_or cs a free ≡ holds b u → FreeAt (set cs a (holds b' v)) i → FreeAt cs i
free_kept cs a b b' u v i e f = go (cases_eq i a)
  where
    go : (i ≡ a) ⊎ (i ≡ a → ⊥) → FreeAt cs i
    go (inl q) = not_holds b' v (sym (rw q at f) ∙ get_or-set_same cs a (holds b' v) (holds 0 nothing) (in_use_there cs a b u e))
    go (inr ne) = sym (get_or-set_other cs a i (holds b' v) (holds 0 nothing) ne) ∙ f

-- what cells hold once one of them is filled
pub content_set : (ws : List ℕ) (cs : List Cell) (a b' : ℕ) (v : Val) (w : ℕ) → a < length cs → a < length ws → Means v w → ((i b : ℕ) (u : Val) → get_or cs i free ≡ holds b u → Means u (get_or ws i 0))
    → (i b : ℕ) (u : Val) → get_or (set cs a (holds b' v)) i free ≡ holds b u → Means u (get_or (set ws a w) i 0)
content_set ws cs a b' v w l lw me h i b u e = go (cases_eq i a)
  where
    go : (i ≡ a) ⊎ (i ≡ a → ⊥) → Means u (get_or (set ws a w) i 0)
    go (inl q) =
        let z : holds b' v ≡ holds b u = sym (get_or-set_same cs a (holds b' v) free l) ∙ rw q at e in
        let y : v ≡ u = cc in
        rw (q, get_or-set_same ws a w 0 lw, ← y) me
    go (inr ne) = rw (get_or-set_other ws a i w 0 ne) (h i b u (sym (get_or-set_other cs a i (holds b' v) free ne) ∙ e))

pub heap_fill : {m : Store} {cs : List Cell} (a b b' : ℕ) (u v : Val) (w : ℕ) → get_or cs a free ≡ holds b u → Means v w → Heap m cs → Heap (set_content m a w) (set cs a (holds b' v))
heap_fill {m} {cs} a b b' u v w e me r =
    let l = in_use_there cs a b u e in
    record {
      list = record { linked = omega (arith, r.list.linked, length-set cs a (holds b' v)); begins = r.list.begins ∙ sym (next_kept cs a b b' u v 0 e); next = λ i f. r.list.next i (free_kept cs a b b' u v i e f) ∙ sym (next_kept cs a b b' u v (i + 1) e) };
      many = length-set cs a (holds b' v) ∙ r.many;
      fits = r.fits;
      room = omega (arith, r.room, length-set m.contents a w);
      content = content_set m.contents cs a b' v w l (omega (arith, l, r.many, r.room)) me r.content;
    }
