-- A run that is done is done in the same way with more cells, depth and turns: the larger run simulates it.
-- Its states have free cells after the others and more turns left; one lemma for each way in which a run is put together.
use Rattle.std.proofs.Common.{◌≡◌, ℕ, zero, suc, ◌+◌, ◌-◌, ◌*◌, ◌%◌, ◌^◌, ◌<◌, ◌≤◌, Bool, true, false, cond, eqb, ltb, List, [], ◌∷◌, ◌++◌, length, get_or, replicate, Some, None, Option, sym, refl, ap, ◌∙◌, subst, ap₂, arith}
use Rattle.std.specs.List.{slice_get}
use Rattle.std.proofs.lemmas.List.{length-set, length-replicate, set-append_left, replicate-append-replicate}
use Rattle.owned.specs.Program.{E, Arg, S, Sig, Proc, Prog, bit, kind}
use Rattle.owned.specs.Runs.{Val, n, at, nothing, Cell, free, holds, St, R, fine, fault, full, spent, deep, bind, May, ok, bad, with_m, value, as_num, num, get, cell_at, with_vars, with_cells, with_left, set_v, set_c, in_box, held_in, give, first, first_free, box_at, new_at, Took, took, missing, with_t, taken_box, taken, into, hand_one, more as add_value, onto, hand, turn_at, exec, opening, stays, end_one, ends, run_s, enter, run_p, last, at_start}
use Rattle.owned.specs.Says.{More}
use Rattle.owned.proofs.Turns.{Call}

past_free : (c i : ℕ) → get_or (replicate c free) i free ≡ free
past_free zero i = refl
past_free (suc c) zero = refl
past_free (suc c) (suc i) = past_free c i

cell_append : (cs : List Cell) (c i : ℕ) → get_or (cs ++ replicate c free) i free ≡ get_or cs i free
cell_append [] c i = past_free c i
cell_append (x ∷ cs) c zero = refl
cell_append (x ∷ cs) c (suc i) = cell_append cs c i

in_use : (cs : List Cell) (i b : ℕ) (v : Val) → get_or cs i free ≡ holds b v → i < length cs
in_use [] i b v e = let z : ◌≡◌ {A = ℕ} 0 1 = cc in absurd (omega arith)
in_use (x ∷ cs) zero b v e = omega arith
in_use (x ∷ cs) (suc i) b v e = omega (arith, in_use cs i b v e)

first_append : (cs ds : List Cell) (i a : ℕ) → first cs i ≡ Some a → (first (cs ++ ds) i ≡ Some a) × (a < i + length cs)
first_append [] ds i a e = let z : ◌≡◌ {A = ℕ} 0 1 = cc in absurd (omega arith)
first_append (free ∷ cs) ds i a e = (e, (let z : i ≡ a = cc in omega arith))
first_append (holds b v ∷ cs) ds i a e = let h = first_append cs ds (i + 1) a e in (h.0, omega arith)

-- a memory of L cells; c more of them and k more turns
module _ (L c k : ℕ) where
  abbrev Has : St → Type 0
  Has s = length s.cells ≡ L

  abbrev up : St → St
  up s = record { vars = s.vars; cells = s.cells ++ replicate c free; shown = s.shown; left = s.left + k; made = s.made }

  -- where the first is done, so is the second, in the larger state
  abbrev Sim : R → R → Type 0
  Sim (fine t) r = (r ≡ fine (up t)) × Has t
  Sim (fault f) r = Unit {0}
  Sim full r = Unit {0}
  Sim spent r = Unit {0}
  Sim deep r = Unit {0}

  abbrev SimTook : {A : Type 0} → Took A → Took A → Type 0
  SimTook (took v t) o = (o ≡ took v (up t)) × Has t
  SimTook missing o = Unit {0}

  -- two ways to call, which simulate if what goes on after them does
  abbrev SimCall : Call → Call → Type 0
  SimCall x x' = (f : ℕ) (vs : List Val) (s : St) (g g' : Val → St → R) → Has s → ((v : Val) (t : St) → Has t → Sim (g v t) (g' v (up t))) → Sim (x f vs s g) (x' f vs (up s) g')

  sim_bind : (r r' : R) (g g' : St → R) → Sim r r' → ((t : St) → Has t → Sim (g t) (g' (up t))) → Sim (bind r g) (bind r' g')
  sim_bind (fine t) r' g g' h f = subst (λ q. Sim (g t) (bind q g')) (sym h.0) (f t h.1)
  sim_bind (fault x) r' g g' h f = tt
  sim_bind full r' g g' h f = tt
  sim_bind spent r' g g' h f = tt
  sim_bind deep r' g g' h f = tt

  sim_num : (m : May) (g g' : ℕ → R) → ((a : ℕ) → Sim (g a) (g' a)) → Sim (num m g) (num m g')
  sim_num bad g g' f = tt
  sim_num (ok a) g g' f = f a

  sim_cond : (b : Bool) (r r' q q' : R) → Sim r r' → Sim q q' → Sim (cond b r q) (cond b r' q')
  sim_cond true r r' q q' h h' = h
  sim_cond false r r' q q' h h' = h'

  value_up : (s : St) (e : E) → value (up s) e ≡ value s e
  value_up s (E.num j) = refl
  value_up s (E.var x) = refl
  value_up s (E.add a b) = ap₂ (λ v w. with_m v (λ x. with_m w (λ y. ok ((x + y) % 2 ^ 32)))) (value_up s a) (value_up s b)
  value_up s (E.sub a b) = ap₂ (λ v w. with_m v (λ x. with_m w (λ y. ok ((x + 2 ^ 32 - y) % 2 ^ 32)))) (value_up s a) (value_up s b)
  value_up s (E.mul a b) = ap₂ (λ v w. with_m v (λ x. with_m w (λ y. ok (x * y % 2 ^ 32)))) (value_up s a) (value_up s b)
  value_up s (E.less a b) = ap₂ (λ v w. with_m v (λ x. with_m w (λ y. ok (bit (ltb x y))))) (value_up s a) (value_up s b)

  sim_value : (s : St) (e : E) (g g' : ℕ → R) → ((a : ℕ) → Sim (g a) (g' a)) → Sim (num (value s e) g) (num (value (up s) e) g')
  sim_value s e g g' f = subst (λ m. Sim (num (value s e) g) (num m g')) (sym (value_up s e)) (sim_num (value s e) g g' f)

  set_c_up : (s : St) (a : ℕ) (x : Cell) → a < length s.cells → set_c (up s) a x ≡ up (set_c s a x)
  set_c_up s a x h = ap (λ cs. record { vars = s.vars; cells = cs; shown = s.shown; left = s.left + k; made = s.made }) (set-append_left s.cells (replicate c free) a x h)

  sim_set_c : (s : St) (a : ℕ) (x : Cell) → Has s → a < L → Sim (fine (set_c s a x)) (fine (set_c (up s) a x))
  sim_set_c s a x h l = (ap fine (set_c_up s a x (omega arith)), length-set s.cells a x ∙ h)

  sim_in_box : (v : Val) (g g' : ℕ → ℕ → R) → ((a b : ℕ) → Sim (g a b) (g' a b)) → Sim (in_box v g) (in_box v g')
  sim_in_box (n x) g g' f = tt
  sim_in_box nothing g g' f = tt
  sim_in_box (at a b) g g' f = f a b

  -- a cell in use is one of the first cells
  sim_held : (s : St) (a b : ℕ) (g g' : Val → R) → Has s → ((v : Val) → a < L → Sim (g v) (g' v)) → Sim (held_in b (cell_at s a) g) (held_in b (cell_at (up s) a) g')
  sim_held s a b g g' h f = subst (λ o. Sim (held_in b (cell_at s a) g) (held_in b o g')) (sym (cell_append s.cells c a)) (go (cell_at s a) refl)
    where
      go : (o : Cell) → cell_at s a ≡ o → Sim (held_in b o g) (held_in b o g')
      go free e = tt
      go (holds d v) e = let l : a < length s.cells = in_use s.cells a d v e in sim_cond (eqb b d) (g v) (g' v) (fault 2) (fault 2) (f v (omega arith)) tt

  sim_give : (j : ℕ) (v : Val) (s : St) → Has s → Sim (give j v s) (give j v (up s))
  sim_give zero v s h = (refl, h)
  sim_give (suc j) (n x) s h = tt
  sim_give (suc j) nothing s h = (refl, h)
  sim_give (suc j) (at a b) s h = sim_held s a b _ _ h (λ v l. sim_bind (give j v s) (give j v (up s)) _ _ (sim_give j v s h) (λ t ht. sim_set_c t a free ht l))

  sim_into : (j x : ℕ) (v : Val) (s : St) → Has s → Sim (into j x v s) (into j x v (up s))
  sim_into j x v s h = sim_bind (give j (get s x) s) (give j (get s x) (up s)) _ _ (sim_give j (get s x) s h) (λ t ht. (refl, ht))

  -- the first free cell stays the first
  sim_new : (s : St) (v : Val) (g g' : Val → St → R) → Has s → ((w : Val) (t : St) → Has t → Sim (g w t) (g' w (up t))) → Sim (new_at (first s.cells 0) s v g) (new_at (first (up s).cells 0) (up s) v g')
  sim_new s v g g' h f = go (first s.cells 0) refl
    where
      go : (o : Option ℕ) → first s.cells 0 ≡ o → Sim (new_at o s v g) (new_at (first (up s).cells 0) (up s) v g')
      go None e = tt
      go (Some a) e =
          let fa = first_append s.cells (replicate c free) 0 a e in
          rw (fa.0, set-append_left s.cells (replicate c free) a (holds s.made v) (omega arith)) (f (at a s.made) (box_at s a v) (length-set s.cells a (holds s.made v) ∙ h))

  sim_with_t : {A : Type 0} (o o' : Took A) (g g' : A → St → R) → SimTook o o' → ((v : A) (t : St) → Has t → Sim (g v t) (g' v (up t))) → Sim (with_t o g) (with_t o' g')
  sim_with_t (took v t) o' g g' h f = subst (λ q. Sim (g v t) (with_t q g')) (sym h.0) (f v t h.1)
  sim_with_t missing o' g g' h f = tt

  sim_taken_box : (s : St) (x : ℕ) (v : Val) → Has s → SimTook (taken_box s x v) (taken_box (up s) x v)
  sim_taken_box s x (n m) h = tt
  sim_taken_box s x nothing h = tt
  sim_taken_box s x (at a b) h = (refl, h)

  sim_taken : (j : ℕ) (s : St) (x : ℕ) → Has s → SimTook (taken j s x) (taken j (up s) x)
  sim_taken zero s x h = (refl, h)
  sim_taken (suc j) s x h = sim_taken_box s x (get s x) h

  sim_hand_one : (m j x : ℕ) (s : St) → Has s → SimTook (hand_one m j x s) (hand_one m j x (up s))
  sim_hand_one zero j x s h = sim_taken j s x h
  sim_hand_one (suc m) j x s h = (refl, h)

  sim_add_value : (v : Val) (o o' : Took (List Val)) → SimTook o o' → SimTook (add_value v o) (add_value v o')
  sim_add_value v (took vs t) o' h = (ap (add_value v) h.0, h.1)
  sim_add_value v missing o' h = tt

  sim_onto : (o o' : Took Val) (g g' : Val → St → Took (List Val)) → SimTook o o' → ((v : Val) (t : St) → Has t → SimTook (g v t) (g' v (up t))) → SimTook (onto o g) (onto o' g')
  sim_onto (took v t) o' g g' h f = subst (λ q. SimTook (g v t) (onto q g')) (sym h.0) (f v t h.1)
  sim_onto missing o' g g' h f = tt

  sim_hand : (p : Sig) (as₁ : List Arg) (s : St) → Has s → SimTook (hand p as₁ s) (hand p as₁ (up s))
  sim_hand p [] s h = (refl, h)
  sim_hand p (a ∷ as₁) s h = sim_onto _ _ _ _ (sim_hand_one a.lent (kind p a.of) a.of s h) (λ v t ht. sim_add_value v (hand p as₁ t) (hand p as₁ (up t)) (sim_hand p as₁ t ht))

  sim_turn : (l : ℕ) (s : St) (g g' : St → R) → Has s → ((t : St) → Has t → Sim (g t) (g' (up t))) → Sim (turn_at l s g) (turn_at (l + k) (up s) g')
  sim_turn zero s g g' h f = tt
  sim_turn (suc l) s g g' h f = let e : suc (l + k) ≡ suc l + k = omega arith in subst (λ m. Sim (g (with_left s l)) (turn_at m (up s) g')) e (f (with_left s l) h)

  -- a statement, where calls and loops from their test on simulate
  module _ (p : Sig) (x x' : Call) (hx : SimCall x x') (w w' : E → S → St → R) (hw : (e : E) (b : S) (t : St) → Has t → Sim (w e b t) (w' e b (up t))) where
    sim_exec : (a : S) (s : St) → Has s → Sim (exec first_free p x w a s) (exec first_free p x' w' a (up s))
    sim_exec S.skip s h = (refl, h)
    sim_exec (S.then a b) s h = sim_bind _ _ _ _ (sim_exec a s h) (λ t ht. sim_exec b t ht)
    sim_exec (S.set i e) s h = sim_value s e _ _ (λ j. (refl, h))
    sim_exec (S.box i j) s h = sim_with_t _ _ _ _ (sim_taken (kind p j) s j h) (λ v t ht. sim_new t v _ _ ht (λ b u hu. sim_into (kind p i) i b u hu))
    sim_exec (S.unbox i j) s h =
        sim_in_box (get s j) _ _ (λ a b. sim_held s a b _ _ h (λ v l. subst (λ u. Sim (into (kind p i) i v (set_v (set_c s a free) j nothing)) (into (kind p i) i v (set_v u j nothing))) (sym (set_c_up s a free (omega arith)))
        (sim_into (kind p i) i v (set_v (set_c s a free) j nothing) (length-set s.cells a free ∙ h))))
    sim_exec (S.look i j) s h = sim_in_box (get s j) _ _ (λ a b. sim_held s a b _ _ h (λ v l. sim_num (as_num v) _ _ (λ y. (refl, h))))
    sim_exec (S.fill i j) s h =
        sim_in_box (get s i) _ _ (λ a b. sim_with_t _ _ _ _ (sim_taken (kind p j) s j h)
        (λ v t ht. sim_held t a b _ _ ht (λ old l. sim_bind _ _ _ _ (sim_give (kind p j) old t ht) (λ u hu. sim_set_c u a (holds b v) hu l))))
    sim_exec (S.move i j) s h = sim_with_t _ _ _ _ (sim_taken (kind p j) s j h) (λ v t ht. sim_into (kind p i) i v t ht)
    sim_exec (S.drop i) s h = sim_into (kind p i) i nothing s h
    sim_exec (S.if e a b) s h = sim_value s e _ _ (λ j. sim_cond (eqb j 0) _ _ _ _ (sim_exec b s h) (sim_exec a s h))
    sim_exec (S.while e a) s h = sim_value s e _ _ (λ j. sim_cond (eqb j 0) _ _ _ _ (refl, h) (sim_turn s.left s _ _ h (λ t ht. sim_bind _ _ _ _ (sim_exec a t ht) (λ u hu. hw e a u hu))))
    sim_exec (S.call i f as₁) s h = sim_with_t _ _ _ _ (sim_hand p as₁ s h) (λ vs t ht. hx f vs t _ _ ht (λ v u hu. sim_into (kind p i) i v u hu))
    sim_exec (S.show e) s h = sim_value s e _ _ (λ j. (refl, h))

  sim_end_one : (b : Bool) (j x : ℕ) (s : St) → Has s → Sim (end_one b j x s) (end_one b j x (up s))
  sim_end_one true j x s h = (refl, h)
  sim_end_one false j x s h = sim_into j x nothing s h

  sim_ends : (p : Sig) (x : ℕ) (ks : List ℕ) (s : St) → Has s → Sim (ends p x ks s) (ends p x ks (up s))
  sim_ends p x [] s h = (refl, h)
  sim_ends p x (j ∷ ks) s h = sim_bind _ _ _ _ (sim_end_one (stays p x) j x s h) (λ t ht. sim_ends p (x + 1) ks t ht)

  -- fuel and depth may be more too
  sim_run_s : (p : Sig) (x x' : Call) → SimCall x x' → (j j' : ℕ) → j ≤ j' → (a : S) (s : St) → Has s → Sim (run_s first_free p x j a s) (run_s first_free p x' j' a (up s))
  sim_run_s p x x' hx zero j' e a s h = tt
  sim_run_s p x x' hx (suc j) zero e a s h = absurd (omega arith)
  sim_run_s p x x' hx (suc j) (suc j') e a s h = sim_exec p x x' hx _ _ (λ e' b t ht. sim_run_s p x x' hx j j' (omega arith) (S.while e' b) t ht) a s h

  sim_run_p : (q : Prog) (d d' : ℕ) → d ≤ d' → SimCall (run_p first_free d q) (run_p first_free d' q)
  sim_run_p q zero d' e f vs s g g' h c' = tt
  sim_run_p q (suc d) zero e f vs s g g' h c' = absurd (omega arith)
  sim_run_p q (suc d) (suc d') e f vs s g g' h c' = go (slice_get q f) (sim_run_p q d d' (omega arith))
    where
      -- what a call does once the procedure is found
      body : Proc → Call → (Val → St → R) → St → R
      body p x next t = bind (run_s first_free p.sig x (suc t.left) p.body (opening p.sig vs t)) (λ u. bind (ends p.sig 0 p.sig.kinds u) (λ v. next (get v p.sig.result) (with_vars v s.vars)))

      go : (o : Option Proc) → SimCall (run_p first_free d q) (run_p first_free d' q) → Sim (enter o (λ p. turn_at s.left s (body p (run_p first_free d q) g))) (enter o (λ p. turn_at (s.left + k) (up s) (body p (run_p first_free d' q) g')))
      go None hd = tt
      go (Some p) hd = sim_turn s.left s _ _ h (λ t ht. sim_bind _ _ _ _ (sim_run_s p.sig (run_p first_free d q) (run_p first_free d' q) hd (suc t.left) (suc (t.left + k)) (omega arith) p.body (opening p.sig vs t) ht)
          (λ u hu. sim_bind _ _ _ _ (sim_ends p.sig 0 p.sig.kinds u hu) (λ v hv. c' (get v p.sig.result) (with_vars v s.vars) hv)))

  sim_last : (v : Val) (s : St) → Has s → Sim (last v s) (last v (up s))
  sim_last (n x) s h = (refl, h)
  sim_last (at a b) s h = tt
  sim_last nothing s h = tt

pub more : More
more g cells depth turns c d k t e =
    let larger : R = run_p first_free (depth + d) g 0 [] (up cells c k (at_start cells turns)) last in
    let r = sim_run_p cells c k g depth (depth + d) (omega arith) 0 [] (at_start cells turns) last last (length-replicate cells free) (λ v u hu. sim_last cells c k v u hu) in
    let q : Sim cells c k (fine t) larger = subst (λ m. Sim cells c k m larger) e r in
    (up cells c k t, ap (λ cs. run_p first_free (depth + d) g 0 [] (with_cells (at_start cells (turns + k)) cs) last) (sym (replicate-append-replicate cells c free)) ∙ q.0, refl, refl, refl)
