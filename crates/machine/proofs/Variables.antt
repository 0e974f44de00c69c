-- Values taken out of variables and put into them, in words.
use Rattle.std.proofs.Common.{◌≡◌, ℕ, zero, suc, ◌+◌, ◌<◌, List, length, get_or, Some, None, Option, sym, refl, ap, ◌∙◌, subst, arith, length-set}
use Rattle.std.proofs.lemmas.List.{get_or-set_other}
use Rattle.std.specs.List.{slice_get}
use Rattle.owned.specs.Program.{Sig, kind}
use Rattle.owned.specs.Runs.{Val, n, at, nothing, Cell, St, fine, fault, set_v, with_cells, Took, took, missing}
use Rattle.owned.proofs.Places.{nth_lt}
use Rattle.machine.specs.Memory.{Control, Store, Memory, set_word, with_store}
use Rattle.machine.specs.Represents.{State}
use Rattle.owned.specs.Strict.{freed, or_fault, place, taken_at, fetched}
use Rattle.machine.specs.Operations.{Releases, CanRelease, Released, Takes, CanTake, TookOut, Puts, CanPut, PutIn}
use Rattle.machine.proofs.Words.{get_var, get_value, get_kind, with_var, with_heap}

-- what a result that is fine came from
pub fault_fine : {B : Type 0} (f : ℕ) (t : St) → fault f ≡ fine t → B
fault_fine f t e = let z : ◌≡◌ {A = ℕ} 0 1 = cc in absurd (omega arith)

pub not_took : {A B : Type 0} (v : A) (t : St) → ◌≡◌ {A = Took A} missing (took v t) → B
not_took v t e = let z : ◌≡◌ {A = ℕ} 0 1 = cc in absurd (omega arith)

-- a variable that was taken from is there
pub fetched_there : (k : ℕ) (s : St) (x : ℕ) (v : Val) (t : St) → fetched k s x ≡ took v t → (u : Val) × (slice_get s.vars x ≡ Some u) × (taken_at k s x (Some u) ≡ took v t)
fetched_there k s x v t e = go (slice_get s.vars x) refl e
  where
    go : (o : Option Val) → slice_get s.vars x ≡ o → taken_at k s x o ≡ took v t → (u : Val) × (slice_get s.vars x ≡ Some u) × (taken_at k s x (Some u) ≡ took v t)
    go None i f = not_took v t f
    go (Some u) i f = (u, i, f)

module _ {c : Control} {m : Memory} {x : ℕ} where
  pub take_there : {p : Sig} {s : St} {v : Val} {t : St} → Takes c m x p s v t → x < length s.vars
  take_there {p} {s} {v} {t} g = let h = fetched_there (kind p x) s x v t g.takes in nth_lt s.vars x h.0 h.1

  module _ {k w : ℕ} (ek : k ≡ get_or c.code.rows (c.kinds + x) 0) (ew : w ≡ get_or m.frames (c.base + x) 0) where
    kind_is : {p : Sig} {s : St} {v : Val} {t : St} → Takes c m x p s v t → k ≡ kind p x
    kind_is g = ek ∙ (get_kind g.state x (take_there g)).1

    pub took_number : k ≡ 0 → TookOut c m x c m w
    took_number z = record {
      here = refl;
      long = refl;
      beyond = λ i l. refl;
      state = λ p s v t g. (
          let h = fetched_there (kind p x) s x v t g.takes in
          let q : kind p x ≡ 0 = sym (kind_is g) ∙ z in
          let b = number (kind p x) s v t h.0 q h.2 in
          (subst (State c m p) b.1 g.state, rw (ew, ← b.0) (get_value g.state x h.0 h.1).1));
    }
      where
        number : (j : ℕ) (s : St) (v : Val) (t : St) (u : Val) → j ≡ 0 → taken_at j s x (Some u) ≡ took v t → (u ≡ v) × (s ≡ t)
        number zero s v t u z f = (cc, cc)
        number (suc j) s v t u z f = absurd (omega arith)

    pub took_box : {c₁ : Control} {m₁ : Memory} → CanTake c m x → 0 < k → c₁ ≡ c → m₁ ≡ set_word m (c.base + x) 0 → TookOut c m x c₁ m₁ w
    took_box {c₁} {m₁} can l hc hm = record {
      here = hc;
      long = ap (λ (z : Memory). length z.frames) hm ∙ length-set m.frames (c.base + x) 0;
      beyond = λ i h. (rw hm (get_or-set_other m.frames (c.base + x) (c.base + i) 0 0 (λ q. omega (arith, q, h, take_there can.4, can.4.state.few, can.4.state.long))));
      state = λ p s v t g. (
          let h = fetched_there (kind p x) s x v t g.takes in
          let b = boxed (kind p x) s v t h.0 (omega (arith, l, kind_is g)) h.2 in
          (rw (hm, ← b.1) (with_var g.state x nothing 0 (take_there g) refl), rw (ew, ← b.0) (get_value g.state x h.0 h.1).1));
    }
      where
        boxed : (j : ℕ) (s : St) (v : Val) (t : St) (u : Val) → 0 < j → taken_at j s x (Some u) ≡ took v t → (u ≡ v) × (set_v s x nothing ≡ t)
        boxed zero s v t u l f = absurd (omega arith)
        boxed (suc j) s v t (n i) l f = not_took v t f
        boxed (suc j) s v t nothing l f = not_took v t f
        boxed (suc j) s v t (at a b) l f = (cc, cc)

-- putting in: what was there is given back first
pub record Placing (x : ℕ) (k : ℕ) (v : Val) (s t : St) : Type 0 where
  pub old : Val
  pub cells : List Cell
  pub there : slice_get s.vars x ≡ Some old
  pub freed : freed k old s.cells ≡ Some cells
  pub is : set_v (with_cells s cells) x v ≡ t

pub placing : (k x : ℕ) (v : Val) (s t : St) → place k x v s ≡ fine t → Placing x k v s t
placing k x v s t e = go (slice_get s.vars x) refl e
  where
    given : (u : Val) → slice_get s.vars x ≡ Some u → (o : Option (List Cell)) → freed k u s.cells ≡ o → or_fault o (λ cs. fine (set_v (with_cells s cs) x v)) ≡ fine t → Placing x k v s t
    given u i None j f = fault_fine 1 t f
    given u i (Some cs) j f = record { old = u; cells = cs; there = i; freed = j; is = cc }

    go : (o : Option Val) → slice_get s.vars x ≡ o → or_fault o (λ u. or_fault (freed k u s.cells) (λ cs. fine (set_v (with_cells s cs) x v))) ≡ fine t → Placing x k v s t
    go None i f = fault_fine 1 t f
    go (Some u) i f = given u i (freed k u s.cells) refl f

module _ {c : Control} {m : Memory} {x w : ℕ} where
  put_there : {p : Sig} {s : St} {v : Val} {t : St} → Puts c m x w p s v t → x < length s.vars
  put_there {p} {s} {v} {t} g = let h = placing (kind p x) x v s t g.puts in nth_lt s.vars x h.old h.there

  pub put_var : CanPut c m x w → c.base + x < length m.frames
  put_var h = (get_var h.4.state x (put_there h.4)).0

  module _ {k old : ℕ} (ek : k ≡ get_or c.code.rows (c.kinds + x) 0) (eo : old ≡ get_or m.frames (c.base + x) 0) where
    gives : {p : Sig} {s : St} {v : Val} {t : St} (g : Puts c m x w p s v t) (h : Placing x (kind p x) v s t) → Releases m.store k old h.old s.cells h.cells
    gives {p} {s} g h = record { heap = g.state.cells; means = rw eo (get_value g.state x h.old h.there).1; freed = rw (ek ∙ (get_kind g.state x (put_there g)).1) h.freed }

    pub put_releases : CanPut c m x w → CanRelease m.store k old
    put_releases r = let h = placing (kind r.0 x) x r.2 r.1 r.3 r.4.puts in (h.old, r.1.cells, h.cells, gives r.4 h)

    module _ {st : Store} (f : Released m.store k old st) where
      pub put_done : {c₁ : Control} {m₁ : Memory} → c₁ ≡ c → m₁ ≡ set_word (with_store m st) (c.base + x) w → PutIn c m x w c₁ m₁
      put_done {c₁} {m₁} hc hm = record {
        here = hc;
        state = λ p s v t g. (
            let h = placing (kind p x) x v s t g.puts in
            let r = with_heap g.state (with_store m st) (with_cells s h.cells) refl (f.heap h.old s.cells h.cells (gives g h)) refl refl refl in
            rw (hm, ← h.is) (with_var r x v w (put_there g) g.means));
      }
