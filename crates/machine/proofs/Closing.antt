-- The end of a procedure: the bits of a word say which variables hold a box that is given back, one after the other.
use Rattle.std.proofs.Common.{◌≡◌, ℕ, zero, suc, ◌+◌, ◌-◌, ◌*◌, ◌/◌, ◌%◌, ◌<◌, ◌≤◌, Bool, true, false, not, ◌&&◌, eqb, ◌⊎◌, List, [], ◌∷◌, length, get_or, drop, Some, None, Option, sym, refl, ap, ◌∙◌, subst, inl, inr, add-one, arith, drop-cons}
use Rattle.std.specs.List.{slice_get}
use Rattle.std.proofs.lemmas.List.{drop_all}
use Rattle.std.proofs.lemmas.Bool.{eq-eqb, ne_eqb, eqb-true, both_ways}
use Rattle.owned.specs.Program.{Sig, kind}
use Rattle.owned.specs.Kept.{is_num}
use Rattle.owned.specs.VarSets.{bits}
use Rattle.linker.specs.Code.{released}
use Rattle.owned.specs.Runs.{Val, nothing, Cell, St, R, fine, bind, set_v, with_cells, stays}
use Rattle.owned.proofs.Places.{nth_set_other}
use Rattle.machine.specs.Memory.{Control, Store, Memory, with_store}
use Rattle.machine.specs.Represents.{Means, Heap}
use Rattle.owned.specs.Strict.{freed, or_fault, close_one, closes}
use Rattle.machine.specs.Operations.{NoFault, Releases, CanRelease, Released}
use Rattle.machine.specs.Calls.{Closes, CanClose, ClosedTo, Closed}
use Rattle.machine.proofs.Words.{get_value, get_kind}
use Rattle.owned.proofs.Places.{nth_lt}

-- variables from x on are still to be given back
pub record Rest (m : Store) (x mask : ℕ) (p : Sig) (s : St) (r : R) : Type 0 where
  pub mid : St
  pub heap : Heap m mid.cells
  pub closes : closes p x (drop x p.kinds) mid ≡ r
  pub shown : mid.shown ≡ s.shown
  pub left : mid.left ≡ s.left
  pub later : (y : ℕ) → (x ≤ y) ⊎ (stays p y ≡ true) → slice_get mid.vars y ≡ slice_get s.vars y
  pub bits : bits (length p.kinds - x) mask ≡ released p x (drop x p.kinds)
  pub within : x ≤ length p.kinds

-- the next variable
record Next (x mask : ℕ) (p : Sig) : Type 0 where
  pub kinds : drop x p.kinds ≡ kind p x ∷ drop (x + 1) p.kinds
  pub bit : eqb (mask % 2) 1 ≡ (not (is_num p x) && not (stays p x))
  pub bits : bits (length p.kinds - (x + 1)) (mask / 2) ≡ released p (x + 1) (drop (x + 1) p.kinds)

next : (x mask : ℕ) (p : Sig) → x < length p.kinds → bits (length p.kinds - x) mask ≡ released p x (drop x p.kinds) → Next x mask p
unfolding bits
next x mask p l e =
    let k : drop x p.kinds ≡ kind p x ∷ drop (x + 1) p.kinds = rw (add-one, drop-cons p.kinds x 0 l) refl in
    let n : length p.kinds - x ≡ suc (length p.kinds - (x + 1)) = omega arith in
    let h : eqb (mask % 2) 1 ∷ bits (length p.kinds - (x + 1)) (mask / 2) ≡ (not (is_num p x) && not (stays p x)) ∷ released p (x + 1) (drop (x + 1) p.kinds) = rw (n, k) at e in
    record { kinds = k; bit = cc; bits = cc }

module _ {m : Store} {x mask : ℕ} {p : Sig} {s : St} {r : R} (h : Rest m x mask p s r) (l : x < length p.kinds) (well : NoFault r) where
  the_next : Next x mask p
  the_next = next x mask p l h.bits

  begun : bind (close_one (stays p x) (kind p x) x h.mid) (λ t. closes p (x + 1) (drop (x + 1) p.kinds) t) ≡ r
  begun = rw the_next.kinds at h.closes

  on : (m₁ : Store) (t : St) → Heap m₁ t.cells → closes p (x + 1) (drop (x + 1) p.kinds) t ≡ r → t.shown ≡ h.mid.shown → t.left ≡ h.mid.left → ((y : ℕ) → (x + 1 ≤ y) ⊎ (stays p y ≡ true) → slice_get t.vars y ≡ slice_get h.mid.vars y) → Rest m₁ (x + 1) (mask / 2) p s r
  on m₁ t hp c es el v = record { mid = t; heap = hp; closes = c; shown = es ∙ h.shown; left = el ∙ h.left; later = λ y q. v y q ∙ h.later y (further y q); bits = the_next.bits; within = omega arith }
    where
      further : (y : ℕ) → (x + 1 ≤ y) ⊎ (stays p y ≡ true) → (x ≤ y) ⊎ (stays p y ≡ true)
      further y (inl q) = inl (omega arith)
      further y (inr q) = inr q

  -- one that does not stay
  pub record Given : Type 0 where
    pub old : Val
    pub left : List Cell
    pub there : slice_get h.mid.vars x ≡ Some old
    pub freed : freed (kind p x) old h.mid.cells ≡ Some left
    pub go_on : (m₁ : Store) → Heap m₁ left → Rest m₁ (x + 1) (mask / 2) p s r

  given : stays p x ≡ false → Given
  given e = go (slice_get h.mid.vars x) refl (rw e at begun)
    where
      other : (y : ℕ) → (x + 1 ≤ y) ⊎ (stays p y ≡ true) → x ≡ y → ⊥
      other y (inl q) z = omega (arith, q, z)
      other y (inr q) z = both_ways (stays p x) e (rw (sym z) at q)

      free : (u : Val) → slice_get h.mid.vars x ≡ Some u → (o : Option (List Cell)) → freed (kind p x) u h.mid.cells ≡ o → bind (or_fault o (λ cs. fine (set_v (with_cells h.mid cs) x nothing))) (λ t. closes p (x + 1) (drop (x + 1) p.kinds) t) ≡ r → Given
      free u i None j f = absurd (well 1 (sym f))
      free u i (Some cs) j f = record { old = u; left = cs; there = i; freed = j; go_on = λ m₁ hp. on m₁ (set_v (with_cells h.mid cs) x nothing) hp f refl refl (λ y q. nth_set_other h.mid.vars x y nothing (other y q)) }

      go : (o : Option Val) → slice_get h.mid.vars x ≡ o → bind (or_fault o (λ u. or_fault (freed (kind p x) u h.mid.cells) (λ cs. fine (set_v (with_cells h.mid cs) x nothing)))) (λ t. closes p (x + 1) (drop (x + 1) p.kinds) t) ≡ r → Given
      go None i f = absurd (well 1 (sym f))
      go (Some u) i f = free u i (freed (kind p x) u h.mid.cells) refl f

  pub next_marked : mask % 2 ≡ 1 → Given
  next_marked z = go (stays p x) refl (is_num p x) (sym the_next.bit ∙ eq-eqb (mask % 2) 1 z)
    where
      go : (b : Bool) → stays p x ≡ b → (a : Bool) → (not a && not (stays p x)) ≡ true → Given
      go false e a f = given e
      go true e true f = absurd (both_ways false refl f)
      go true e false f = absurd (both_ways false refl (rw e at f))

  pub next_unmarked : (mask % 2 ≡ 1 → ⊥) → Rest m (x + 1) (mask / 2) p s r
  next_unmarked ne = go (stays p x) refl (is_num p x) refl
    where
      number : (k : ℕ) → k ≡ 0 → (u : Val) (cs ds : List Cell) → freed k u cs ≡ Some ds → cs ≡ ds
      number zero z u cs ds f = cc
      number (suc k) z u cs ds f = absurd (omega arith)

      go : (b : Bool) → stays p x ≡ b → (a : Bool) → is_num p x ≡ a → Rest m (x + 1) (mask / 2) p s r
      go true e a f = on m h.mid h.heap (rw e at begun) refl refl (λ y q. refl)
      go false e true f = let t = given e in t.go_on m (subst (λ cs. Heap m cs) (number (kind p x) (eqb-true (kind p x) 0 f) t.old h.mid.cells t.left t.freed) h.heap)
      go false e false f = absurd (both_ways (eqb (mask % 2) 1) (ne_eqb (mask % 2) 1 ne) (the_next.bit ∙ rw (e, f) refl))

-- with no bit left, nothing more is given back
idle : (n : ℕ) {m : Store} (x mask : ℕ) {p : Sig} {s : St} {r : R} → x + n ≡ length p.kinds → mask ≡ 0 → NoFault r → Rest m x mask p s r → Rest m (length p.kinds) 0 p s r
idle zero {m} x mask {p} {s} {r} e z well h = let q : x ≡ length p.kinds = omega arith in subst (λ y. Rest m y 0 p s r) q (rw z at h)
idle (suc n) {m} x mask {p} {s} {r} e z well h = idle n (x + 1) (mask / 2) (omega arith) (rw z refl) well (next_unmarked h (omega arith) well (λ q. omega (arith, q, ap (λ y. y % 2) z)))

ended : {m : Store} {x mask : ℕ} {p : Sig} {s : St} {r : R} → length p.kinds ≤ x → Rest m x mask p s r → ClosedTo m p s r
ended {m} {x} {mask} {p} {s} {r} l h =
    let z : closes p x [] h.mid ≡ r = rw (drop_all x p.kinds l) at h.closes in
    record { end = h.mid; is = sym z; heap = h.heap; shown = h.shown; left = h.left; kept = λ y e. h.later y (inr e) }

-- how far the end of a procedure has come
pub record CloseSofar (c : Control) (m : Memory) (c₁ : Control) (m₁ : Memory) (x mask : ℕ) : Type 0 where
  pub here : c₁ ≡ c
  pub frames : m₁.frames ≡ m.frames
  pub rest : (p : Sig) (s : St) (r : R) → Closes c m p s r → Rest m₁.store x mask p s r

module _ {c : Control} {m : Memory} {many : ℕ} (em : many ≡ get_or c.code.procs (8 * c.procedure + 1) 0) where
  is_many : {p : Sig} {s : St} {r : R} → Closes c m p s r → many ≡ length p.kinds
  is_many k = em ∙ k.row.1.many

  module _ {c₁ : Control} {m₁ : Memory} {x mask : ℕ} (h : CloseSofar c m c₁ m₁ x mask) where
    pub close_end : (many ≤ x) ⊎ (mask ≡ 0) → Closed c m c₁ m₁
    close_end z = record { here = h.here; frames = h.frames; end = λ p s r k. go p s r k z }
      where
        go : (p : Sig) (s : St) (r : R) → Closes c m p s r → (many ≤ x) ⊎ (mask ≡ 0) → ClosedTo m₁.store p s r
        go p s r k (inl l) = ended (omega (arith, l, is_many k)) (h.rest p s r k)
        go p s r k (inr q) = let t = h.rest p s r k in ended (omega arith) (idle (length p.kinds - x) x mask (omega (arith, t.within)) q k.well t)

    module _ (l : x < many) where
      inside : {p : Sig} {s : St} {r : R} → Closes c m p s r → x < length p.kinds
      inside k = omega (arith, l, is_many k)

      pub close_unmarked : (mask % 2 ≡ 1 → ⊥) → CloseSofar c m c₁ m₁ (x + 1) (mask / 2)
      close_unmarked ne = record { here = h.here; frames = h.frames; rest = λ p s r k. next_unmarked (h.rest p s r k) (inside k) k.well ne }

      module _ (z : mask % 2 ≡ 1) where
        marked : {p : Sig} {s : St} {r : R} (k : Closes c m p s r) → Given (h.rest p s r k) (inside k) k.well
        marked {p} {s} {r} k = next_marked (h.rest p s r k) (inside k) k.well z

        there : {p : Sig} {s : St} {r : R} (k : Closes c m p s r) → slice_get s.vars x ≡ Some (marked k).old
        there {p} {s} {r} k = sym ((h.rest p s r k).later x (inl (omega arith))) ∙ (marked k).there

        var : {p : Sig} {s : St} {r : R} (k : Closes c m p s r) → (c.base + x < length m.frames) × Means (marked k).old (get_or m.frames (c.base + x) 0)
        var k = get_value k.state x (marked k).old (there k)

        kinded : {p : Sig} {s : St} {r : R} (k : Closes c m p s r) → (c.kinds + x < length c.code.rows) × (get_or c.code.rows (c.kinds + x) 0 ≡ kind p x)
        kinded {p} {s} {r} k = get_kind k.state x (nth_lt s.vars x (marked k).old (there k))

        pub close_kind : CanClose c m → c₁.kinds + x < length c₁.code.rows
        close_kind k = rw h.here (kinded k.closes).0

        module _ {kd w : ℕ} (ek : kd ≡ get_or c₁.code.rows (c₁.kinds + x) 0) (ew : w ≡ get_or m₁.frames (c₁.base + x) 0) where
          releases : {p : Sig} {s : St} {r : R} (k : Closes c m p s r) → Releases m₁.store kd w (marked k).old (h.rest p s r k).mid.cells (marked k).left
          releases {p} {s} {r} k =
              let a : kd ≡ kind p x = ek ∙ ap (λ (z : Control). get_or z.code.rows (z.kinds + x) 0) h.here ∙ (kinded k).1 in
              let b : w ≡ get_or m.frames (c.base + x) 0 = ew ∙ ap (λ (z : Control). get_or m₁.frames (z.base + x) 0) h.here ∙ ap (λ F. get_or F (c.base + x) 0) h.frames in
              record { heap = (h.rest p s r k).heap; means = rw b (var k).1; freed = rw a (marked k).freed }

          pub close_release : CanClose c m → CanRelease m₁.store kd w
          close_release k = (_, _, _, releases k.closes)

          pub close_marked : {st : Store} → Released m₁.store kd w st → CloseSofar c m c₁ (with_store m₁ st) (x + 1) (mask / 2)
          close_marked {st} f = record {
            here = h.here;
            frames = h.frames;
            rest = λ p s r k. (marked k).go_on st (f.heap (marked k).old (h.rest p s r k).mid.cells (marked k).left (releases k));
          }
