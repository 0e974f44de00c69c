-- Statements, by their parts: each operation's result is what the next one asks for.
use Rattle.std.proofs.Common.{◌≡◌, ℕ, ◌+◌, ◌<◌, ◌≤◌, Bool, true, false, cond, ltb, List, [], ◌∷◌, ◌++◌, length, get_or, set, Some, None, sym, refl, ap, ◌∙◌, subst, add-one, arith, length-append, length-set, take-suc-set}
use Rattle.std.specs.List.{slice_get}
use Rattle.std.proofs.lemmas.List.{take_all}
use Rattle.std.proofs.lemmas.Bool.{ltb-true, ltb-false}
use Rattle.owned.specs.Program.{E, S, Sig, kind}
use Rattle.owned.specs.Runs.{Val, n, at, nothing, Cell, free, holds, St, R, fine, full, as_num, value, num, get, cell_at, set_v, set_c, with_cells, box_at, first, first_free, new}
use Rattle.owned.specs.FreeList.{InUse}
use Rattle.owned.proofs.Places.{nth_lt}
use Rattle.machine.specs.Memory.{Numbers, Control, Store, Memory, set_word, with_store, set_content, with_output, shows, showing, too_many}
use Rattle.machine.specs.Represents.{Means, Heap, Shown, Shows, State}
use Rattle.owned.specs.Strict.{freed, place, assign, fetched}
use Rattle.machine.specs.Operations.{CellFreed, CellMade, Allocated, Releases, CanRelease, Released, Takes, TookOut, Puts, CanPut, PutIn, Points, PointsAt, ExprAt, Evaluates, CanEvaluate, Evaluated, NoFault, Does, Ended, CanDo, Did, CanDoAt, DidAt, Showed}
use Rattle.machine.proofs.Words.{get_var, get_kind, with_var, with_heap, in_use_there, box_there, heap_fill}
use Rattle.machine.proofs.Variables.{take_there}
use Rattle.machine.proofs.Evaluating.{can, number_word}
use Rattle.machine.proofs.Results.{there_of, place_of, took_of, box_of, held_of, number_of, new_none, new_some}

-- a value put in as the last thing
module _ {c c₁ : Control} {m₁ : Memory} {x w : ℕ} (here : c₁ ≡ c) where
  puts_last : {p : Sig} {s : St} (v : Val) {r : R} → State c m₁ p s → Means v w → place (kind p x) x v s ≡ r → NoFault r → (t : St) × Puts c m₁ x w p s v t × (r ≡ fine t)
  puts_last {p} {s} v {r} st me e nf = let t = place_of nf (kind p x) x v s e in (t.0, record { state = st; means = me; puts = t.1 }, t.2)

  put_can : {p : Sig} {s : St} (v : Val) {r : R} → State c m₁ p s → Means v w → place (kind p x) x v s ≡ r → NoFault r → CanPut c₁ m₁ x w
  put_can {p} {s} v {r} st me e nf = let q = puts_last v st me e nf in rw here (p, s, v, q.0, q.1)

  put_end : {c₂ : Control} {m₂ : Memory} → PutIn c₁ m₁ x w c₂ m₂ → {p : Sig} {s : St} (v : Val) {r : R} → State c m₁ p s → Means v w → place (kind p x) x v s ≡ r → NoFault r → Ended c m₂ p r
  put_end {c₂} {m₂} put {p} {s} v {r} st me e nf =
      let q = puts_last v st me e nf in
      let i : PutIn c m₁ x w c₂ m₂ = subst (λ z. PutIn z m₁ x w c₂ m₂) here put in
      record { end = q.0; is = q.2; state = i.state p s v q.0 q.1 }

-- move
module _ {c : Control} {m : Memory} {x y : ℕ} where
  moves : (p : Sig) (s : St) (r : R) → Does c m (S.move x y) p s r → (v : Val) × (t : St) × Takes c m y p s v t × (place (kind p x) x v t ≡ r)
  moves p s r d = let t = took_of d.well (fetched (kind p y) s y) _ d.does in (t.0, t.1, record { state = d.state; takes = t.2 }, t.3)

  module _ {c₁ : Control} {m₁ : Memory} {w : ℕ} (k : TookOut c m y c₁ m₁ w) where
    pub move_put : CanDo c m (S.move x y) → CanPut c₁ m₁ x w
    move_put h = let t = moves h.0 h.1 h.2 h.3 in let u = k.state h.0 h.1 t.0 t.1 t.2 in put_can k.here t.0 u.0 u.1 t.3 h.3.well

    pub move_done : {c₂ : Control} {m₂ : Memory} → PutIn c₁ m₁ x w c₂ m₂ → Did c m (S.move x y) c₂ m₂
    move_done i = record { here = i.here ∙ k.here; state = λ p s r d. (let t = moves p s r d in let u = k.state p s t.0 t.1 t.2 in put_end k.here i t.0 u.0 u.1 t.3 d.well) }

-- drop
module _ {c : Control} {m : Memory} {x : ℕ} where
  pub drop_done : {c₁ : Control} {m₁ : Memory} → PutIn c m x 0 c₁ m₁ → Did c m (S.drop x) c₁ m₁
  drop_done i = record { here = i.here; state = λ p s r d. put_end refl i nothing d.state refl d.does d.well }

-- a box that is opened or looked into
pub record Opens (c : Control) (m : Memory) (y : ℕ) (p : Sig) (s : St) (r : R) (k : ℕ → ℕ → Val → R) : Type 0 where
  pub a : ℕ
  pub b : ℕ
  pub stamp : ℕ
  pub inside : Val
  pub points : Points c m y p s a b
  pub cell : cell_at s a ≡ holds stamp inside
  pub room : a < length m.store.contents
  pub means : Means inside (get_or m.store.contents a 0)
  pub end : k a b inside ≡ r

module _ {c : Control} {m : Memory} {y : ℕ} where
  opened : {p : Sig} {s : St} {r : R} (k : ℕ → ℕ → Val → R) → State c m p s → (a b stamp : ℕ) (v : Val) → get s y ≡ at a b → cell_at s a ≡ holds stamp v → k a b v ≡ r → Opens c m y p s r k
  opened {p} {s} {r} k st a b stamp v e h f =
      record { a = a; b = b; stamp = stamp; inside = v; points = record { state = st; points = e }; cell = h; room = omega (arith, in_use_there s.cells a stamp v h, st.cells.many, st.cells.room); means = st.cells.content a stamp v h; end = f }

-- look
module _ {c : Control} {m : Memory} {x y : ℕ} where
  looks : (p : Sig) (s : St) (r : R) → Does c m (S.look x y) p s r → Opens c m y p s r (λ a b v. num (as_num v) (λ k. assign x k s))
  looks p s r d =
      let t = box_of d.well (get s y) _ d.does in
      let u = held_of d.well s t.0 t.1 _ t.3 in
      opened _ d.state t.0 t.1 u.0 u.1 t.2 u.2 u.3

  look_at : (p : Sig) (s : St) (r : R) → Does c m (S.look x y) p s r → (k : ℕ) × (a : ℕ) × (b : ℕ) × Points c m y p s a b × (a < length m.store.contents) × (get_or m.store.contents a 0 ≡ k) × (x < length s.vars) × (fine (set_v s x (n k)) ≡ r)
  look_at p s r d =
      let o = looks p s r d in
      let k = number_of d.well (as_num o.inside) _ o.end in
      let t = there_of d.well (slice_get s.vars x) _ k.2 in
      (k.0, o.a, o.b, o.points, o.room, number_word o.inside _ k.0 o.means k.1, nth_lt s.vars x t.0 t.1, t.2)

  module _ {a : ℕ} (q : PointsAt c m y a) where
    pub look_cell : CanDo c m (S.look x y) → a < length m.store.contents
    look_cell h = let t = look_at h.0 h.1 h.2 h.3 in rw (q h.0 h.1 t.1 t.2 t.3) t.4

    pub look_there : CanDo c m (S.look x y) → c.base + x < length m.frames
    look_there h = (get_var h.3.state x (look_at h.0 h.1 h.2 h.3).6).0

    pub look_done : {c₁ : Control} {m₁ : Memory} → c₁ ≡ c → m₁ ≡ set_word m (c.base + x) (get_or m.store.contents a 0) → Did c m (S.look x y) c₁ m₁
    look_done {c₁} {m₁} hc hm = record {
      here = hc;
      state = λ p s r d. (
          let t = look_at p s r d in
          let e : get_or m.store.contents a 0 ≡ t.0 = rw (q p s t.1 t.2 t.3) t.5 in
          record { end = set_v s x (n t.0); is = sym t.7; state = rw hm (with_var d.state x (n t.0) _ t.6 e) });
    }

-- set
module _ {c : Control} {m : Memory} {x i : ℕ} where
  sets : (p : Sig) (s : St) (r : R) (e : E) → Does c m (S.set x e) p s r → ExprAt c.code e i → (k : ℕ) × Evaluates c m i p s e k × (x < length s.vars) × (fine (set_v s x (n k)) ≡ r)
  sets p s r e d w =
      let k = number_of d.well (value s e) _ d.does in
      let t = there_of d.well (slice_get s.vars x) _ k.2 in
      (k.0, record { state = d.state; expr = w; value = k.1 }, nth_lt s.vars x t.0 t.1, t.2)

  pub set_can : CanDoAt c m (S.set x) i → CanEvaluate c m i
  set_can h = can c m i (sets h.0 h.1 h.2 h.3 h.4 h.5).1

module _ {c : Control} {m : Memory} {x : ℕ} where
  pub set_there : (i : ℕ) → CanDoAt c m (S.set x) i → c.base + x < length m.frames
  set_there i h = (get_var h.4.state x (sets {i = i} h.0 h.1 h.2 h.3 h.4 h.5).2).0

  pub set_done : {i : ℕ} {c₁ : Control} {m₁ : Memory} {w : ℕ} → Evaluated c m i w → c₁ ≡ c → m₁ ≡ set_word m (c.base + x) w → DidAt c m (S.set x) i c₁ m₁
  set_done {i} {c₁} {m₁} {w} ev hc hm = record {
    here = hc;
    state = λ p s r e d q. (
        let t = sets p s r e d q in
        record { end = set_v s x (n t.0); is = sym t.3; state = rw hm (with_var d.state x (n t.0) w t.2 (ev p s e t.0 t.1)) });
  }

-- box
module _ {c : Control} {m : Memory} {x y : ℕ} where
  boxes : (p : Sig) (s : St) (r : R) → Does c m (S.box x y) p s r → (v : Val) × (t : St) × Takes c m y p s v t × (new first_free t v (λ b u. place (kind p x) x b u) ≡ r)
  boxes p s r d = let t = took_of d.well (fetched (kind p y) s y) _ d.does in (t.0, t.1, record { state = d.state; takes = t.2 }, t.3)

  module _ {c₁ : Control} {m₁ : Memory} {w : ℕ} (k : TookOut c m y c₁ m₁ w) where
    taken : (p : Sig) (s : St) (r : R) (d : Does c m (S.box x y) p s r) → State c m₁ p (boxes p s r d).1 × Means (boxes p s r d).0 w
    taken p s r d = let t = boxes p s r d in k.state p s t.0 t.1 t.2

    heap_at : (p : Sig) (s : St) (r : R) (d : Does c m (S.box x y) p s r) → Heap m₁.store (boxes p s r d).1.cells
    heap_at p s r d = (taken p s r d).0.cells

    pub box_heap : CanDo c m (S.box x y) → (cs : List Cell) × Heap m₁.store cs
    box_heap h = (_, heap_at h.0 h.1 h.2 h.3)

    pub box_full : ((cs : List Cell) → Heap m₁.store cs → first cs 0 ≡ None) → (p : Sig) (s : St) (r : R) → Does c m (S.box x y) p s r → r ≡ full
    box_full f p s r d = let t = boxes p s r d in sym t.3 ∙ new_none t.1 t.0 _ (f t.1.cells (heap_at p s r d))

    module _ {st : Store} {b : ℕ} (f : Allocated m₁.store w st (Some b)) where
      made : (p : Sig) (s : St) (r : R) (d : Does c m (S.box x y) p s r) → CellMade m₁.store w st b (boxes p s r d).1.cells (boxes p s r d).0
      made p s r d = let t = boxes p s r d in f.1 t.1.cells t.0 (heap_at p s r d) (taken p s r d).1

      box_state : (p : Sig) (s : St) (r : R) (d : Does c m (S.box x y) p s r) → State c (with_store m₁ st) p (box_at (boxes p s r d).1 (made p s r d).cell (boxes p s r d).0)
      box_state p s r d = let t = boxes p s r d in with_heap (taken p s r d).0 (with_store m₁ st) (box_at t.1 (made p s r d).cell t.0) refl ((made p s r d).heap t.1.made) refl refl refl

      last_put : (p : Sig) (s : St) (r : R) (d : Does c m (S.box x y) p s r) → place (kind p x) x (at (made p s r d).cell (boxes p s r d).1.made) (box_at (boxes p s r d).1 (made p s r d).cell (boxes p s r d).0) ≡ r
      last_put p s r d = let t = boxes p s r d in sym (new_some t.1 t.0 (λ b u. place (kind p x) x b u) (made p s r d).cell (made p s r d).chosen) ∙ t.3

      pub box_put : CanDo c m (S.box x y) → CanPut c₁ (with_store m₁ st) x b
      box_put h = put_can k.here (at (made h.0 h.1 h.2 h.3).cell (boxes h.0 h.1 h.2 h.3).1.made) (box_state h.0 h.1 h.2 h.3) (made h.0 h.1 h.2 h.3).word (last_put h.0 h.1 h.2 h.3) h.3.well

      pub box_done : {c₂ : Control} {m₂ : Memory} → PutIn c₁ (with_store m₁ st) x b c₂ m₂ → Did c m (S.box x y) c₂ m₂
      box_done i = record { here = i.here ∙ k.here; state = λ p s r d. put_end k.here i (at (made p s r d).cell (boxes p s r d).1.made) (box_state p s r d) (made p s r d).word (last_put p s r d) d.well }

-- unbox
module _ {c : Control} {m : Memory} {x y : ℕ} where
  unboxes : (p : Sig) (s : St) (r : R) → Does c m (S.unbox x y) p s r → Opens c m y p s r (λ a b v. place (kind p x) x v (set_v (set_c s a free) y nothing))
  unboxes p s r d =
      let t = box_of d.well (get s y) _ d.does in
      let u = held_of d.well s t.0 t.1 _ t.3 in
      opened _ d.state t.0 t.1 u.0 u.1 t.2 u.2 u.3

  module _ {a : ℕ} (q : PointsAt c m y a) where
    same : (p : Sig) (s : St) (r : R) (d : Does c m (S.unbox x y) p s r) → a ≡ (unboxes p s r d).a
    same p s r d = let t = unboxes p s r d in q p s t.a t.b t.points

    pub unbox_room : CanDo c m (S.unbox x y) → a < length m.store.contents
    unbox_room h = rw (same h.0 h.1 h.2 h.3) (unboxes h.0 h.1 h.2 h.3).room

    in_use : (p : Sig) (s : St) (r : R) (d : Does c m (S.unbox x y) p s r) → InUse s.cells a
    in_use p s r d = let t = unboxes p s r d in (t.stamp, t.inside, rw (same p s r d) t.cell)

    pub unbox_in_use : CanDo c m (S.unbox x y) → (cs : List Cell) × Heap m.store cs × InUse cs a
    unbox_in_use h = (h.1.cells, h.3.state.cells, in_use h.0 h.1 h.2 h.3)

    module _ {st : Store} (f : CellFreed m.store a st) where
      freed_state : (p : Sig) (s : St) (r : R) (d : Does c m (S.unbox x y) p s r) → State c (with_store m st) p (set_c s (unboxes p s r d).a free)
      freed_state p s r d = rw (sym (same p s r d)) (with_heap d.state (with_store m st) (set_c s a free) refl (f.heap s.cells d.state.cells (in_use p s r d)) refl refl refl)

      there : (p : Sig) (s : St) (r : R) (d : Does c m (S.unbox x y) p s r) → y < length s.vars
      there p s r d = let t = unboxes p s r d in box_there s.vars y t.a t.b t.points.points

      module _ {c₁ : Control} {m₁ : Memory} (h₁ : c₁ ≡ c) (e₁ : m₁ ≡ set_word (with_store m st) (c.base + y) 0) where
        emptied : (p : Sig) (s : St) (r : R) (d : Does c m (S.unbox x y) p s r) → State c m₁ p (set_v (set_c s (unboxes p s r d).a free) y nothing)
        emptied p s r d = rw e₁ (with_var (freed_state p s r d) y nothing 0 (there p s r d) refl)

        meant : (p : Sig) (s : St) (r : R) (d : Does c m (S.unbox x y) p s r) → Means (unboxes p s r d).inside (get_or m.store.contents a 0)
        meant p s r d = rw (same p s r d) (unboxes p s r d).means

        pub unbox_put : CanDo c m (S.unbox x y) → CanPut c₁ m₁ x (get_or m.store.contents a 0)
        unbox_put h = put_can h₁ (unboxes h.0 h.1 h.2 h.3).inside (emptied h.0 h.1 h.2 h.3) (meant h.0 h.1 h.2 h.3) (unboxes h.0 h.1 h.2 h.3).end h.3.well

        pub unbox_done : {c₂ : Control} {m₂ : Memory} → PutIn c₁ m₁ x (get_or m.store.contents a 0) c₂ m₂ → Did c m (S.unbox x y) c₂ m₂
        unbox_done i = record { here = i.here ∙ h₁; state = λ p s r d. put_end h₁ i (unboxes p s r d).inside (emptied p s r d) (meant p s r d) (unboxes p s r d).end d.well }

-- fill
pub record Fills (c : Control) (m : Memory) (x y : ℕ) (p : Sig) (s : St) (r : R) : Type 0 where
  pub a : ℕ
  pub b : ℕ
  pub v : Val
  pub u : St
  pub points : Points c m x p s a b
  pub takes : Takes c m y p s v u
  pub stamp : ℕ
  pub old : Val
  pub cell : cell_at u a ≡ holds stamp old
  pub cells : List Cell
  pub freed : freed (kind p y) old u.cells ≡ Some cells
  pub stamp₁ : ℕ
  pub old₁ : Val
  pub cell₁ : get_or cells a free ≡ holds stamp₁ old₁
  pub end : fine (set_c (with_cells u cells) a (holds b v)) ≡ r

module _ {c : Control} {m : Memory} {x y : ℕ} where
  fills : (p : Sig) (s : St) (r : R) → Does c m (S.fill x y) p s r → Fills c m x y p s r
  fills p s r d =
      let t = box_of d.well (get s x) _ d.does in
      let k = took_of d.well (fetched (kind p y) s y) _ t.3 in
      let u = held_of d.well k.1 t.0 t.1 _ k.3 in
      let g = there_of d.well (freed (kind p y) u.1 k.1.cells) _ u.3 in
      let z = held_of d.well (with_cells k.1 g.0) t.0 t.1 _ g.2 in
      record {
        a = t.0;
        b = t.1;
        v = k.0;
        u = k.1;
        points = record { state = d.state; points = t.2 };
        takes = record { state = d.state; takes = k.2 };
        stamp = u.0;
        old = u.1;
        cell = u.2;
        cells = g.0;
        freed = g.1;
        stamp₁ = z.0;
        old₁ = z.1;
        cell₁ = z.2;
        end = z.3;
      }

  module _ {a : ℕ} (q : PointsAt c m x a) {c₁ : Control} {m₁ : Memory} {w : ℕ} (k : TookOut c m y c₁ m₁ w) where
    pub record Filling (p : Sig) (s : St) (r : R) (t : Fills c m x y p s r) : Type 0 where
      pub state : State c m₁ p t.u
      pub means : Means t.v w
      pub same : a ≡ t.a
      pub room : a < length m₁.store.contents
      pub old : Means t.old (get_or m₁.store.contents a 0)

    filling : (p : Sig) (s : St) (r : R) (t : Fills c m x y p s r) → Filling p s r t
    filling p s r t =
        let o = k.state p s t.v t.u t.takes in
        let e : a ≡ t.a = q p s t.a t.b t.points in
        let h = o.0.cells in
        record { state = o.0; means = o.1; same = e; room = omega (arith, in_use_there t.u.cells t.a t.stamp t.old t.cell, h.many, h.room, e); old = rw e (h.content t.a t.stamp t.old t.cell) }

    there_y : (p : Sig) (s : St) (r : R) (t : Fills c m x y p s r) → y < length t.u.vars
    there_y p s r t = omega (arith, take_there t.takes, t.takes.state.long, (filling p s r t).state.long)

    pub fill_room : CanDo c m (S.fill x y) → a < length m₁.store.contents
    fill_room h = (filling h.0 h.1 h.2 (fills h.0 h.1 h.2 h.3)).room

    module _ {kd : ℕ} (ek : kd ≡ get_or c₁.code.rows (c₁.kinds + y) 0) where
      fill_gives : (p : Sig) (s : St) (r : R) (t : Fills c m x y p s r) → Releases m₁.store kd (get_or m₁.store.contents a 0) t.old t.u.cells t.cells
      fill_gives p s r t =
          let f = filling p s r t in
          let e : kd ≡ kind p y = ek ∙ ap (λ (z : Control). get_or z.code.rows (z.kinds + y) 0) k.here ∙ (get_kind f.state y (there_y p s r t)).1 in
          record { heap = f.state.cells; means = f.old; freed = rw e t.freed }

      pub fill_release : CanDo c m (S.fill x y) → CanRelease m₁.store kd (get_or m₁.store.contents a 0)
      fill_release h = let t = fills h.0 h.1 h.2 h.3 in (t.old, t.u.cells, t.cells, fill_gives h.0 h.1 h.2 t)

      module _ {st : Store} (g : Released m₁.store kd (get_or m₁.store.contents a 0) st) where
        pub fill_index : CanDo c m (S.fill x y) → a < length st.contents
        fill_index h = rw g.contents (fill_room h)

        pub fill_done : Did c m (S.fill x y) c₁ (with_store m₁ (set_content st a w))
        fill_done = record {
          here = k.here;
          state = λ p s r d. (
              let t = fills p s r d in
              let f = filling p s r t in
              let i : Heap st t.cells = g.heap t.old t.u.cells t.cells (fill_gives p s r t) in
              let j : Heap (set_content st t.a w) (set t.cells t.a (holds t.b t.v)) = heap_fill t.a t.stamp₁ t.b t.old₁ t.v w t.cell₁ f.means i in
              record {
                end = set_c (with_cells t.u t.cells) t.a (holds t.b t.v);
                is = sym t.end;
                state = rw f.same (with_heap f.state (with_store m₁ (set_content st t.a w)) (set_c (with_cells t.u t.cells) t.a (holds t.b t.v)) refl j refl refl refl);
              });
        }

-- show
module _ {c : Control} {m : Memory} {i : ℕ} where
  shows_it : (p : Sig) (s : St) (r : R) (e : E) → Does c m (S.show e) p s r → ExprAt c.code e i → (k : ℕ) × Evaluates c m i p s e k × (fine (record { vars = s.vars; cells = s.cells; shown = s.shown ++ (k ∷ []); left = s.left; made = s.made }) ≡ r)
  shows_it p s r e d w = let k = number_of d.well (value s e) _ d.does in (k.0, record { state = d.state; expr = w; value = k.1 }, k.2)

  pub show_can : CanDoAt c m S.show i → CanEvaluate c m i
  show_can h = can c m i (shows_it h.0 h.1 h.2 h.3 h.4 h.5).1

-- one more number shown
shown_more : (b : Bool) (ws : List ℕ) (k : ℕ) (l : List ℕ) (w : ℕ) → Shown b ws k l → k < length ws → Shown b (set ws k w) (k + 1) (l ++ (w ∷ []))
shown_more false ws k l w h lt = (rw (add-one, take-suc-set ws k w lt, h.0) refl, omega (arith, length-set ws k w))
shown_more true ws k l w h lt = absurd (omega (arith, h.1))

shown_over : (b : Bool) (ws : List ℕ) (k : ℕ) (l : List ℕ) (w : ℕ) → Shown b ws k l → length ws ≤ k → Shown true ws k (l ++ (w ∷ []))
shown_over false ws k l w h le = (omega (arith, length-append l (w ∷ []), ap length h.0, ap length (take_all k ws le)), le)
shown_over true ws k l w h le = (omega (arith, length-append l (w ∷ []), h.0), h.1)

shows_more : (o : Numbers) (l : List ℕ) (w : ℕ) → Shows o l → Shows (shows o w) (l ++ (w ∷ []))
shows_more o l w h = go (ltb o.count (length o.shown)) refl
  where
    go : (b : Bool) → ltb o.count (length o.shown) ≡ b → Shows (cond b (showing o w) (too_many o)) (l ++ (w ∷ []))
    go true e = shown_more o.over o.shown o.count l w h (ltb-true o.count (length o.shown) e)
    go false e = shown_over o.over o.shown o.count l w h (ltb-false o.count (length o.shown) e)

module _ {c : Control} {m : Memory} where
  show_state : (w : ℕ) {p : Sig} {s : St} → State c m p s → State (with_output c (shows c.output w)) m p (record { vars = s.vars; cells = s.cells; shown = s.shown ++ (w ∷ []); left = s.left; made = s.made })
  show_state w {p} {s} st = record { kinds = st.kinds; few = st.few; vars = st.vars; long = st.long; cells = st.cells; shown = shows_more c.output s.shown w st.shown; turns = st.turns }

  pub show_done : {i w : ℕ} {c₁ : Control} {m₁ : Memory} → Evaluated c m i w → c₁ ≡ with_output c (shows c.output w) → m₁ ≡ m → Showed c m i c₁ m₁
  show_done {i} {w} {c₁} {m₁} ev hc hm = record {
    word = w;
    here = hc;
    same = hm;
    state = λ p s r e d q. (
        let t = shows_it p s r e d q in
        let z = ev p s e t.0 t.1 in
        record { end = _; is = sym t.2; state = rw (hc, hm, z) (show_state t.0 d.state) });
  }
