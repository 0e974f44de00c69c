-- A call: its arguments are in the next frame, the caller's frame says how to come back, and the procedure is entered.
use Rattle.std.proofs.Common.{◌≡◌, ℕ, zero, suc, ◌+◌, ◌-◌, ◌*◌, ◌^◌, ◌<◌, ◌≤◌, Bool, true, false, cond, eqb, List, [], ◌∷◌, ◌++◌, length, get_or, take, drop, Some, None, Ok, Err, Option, sym, refl, ap, ◌∙◌, subst, arith, length-take, get_or-take}
use Rattle.std.specs.List.{slice_get}
use Rattle.std.proofs.lemmas.Bool.{eqb-true}
use Rattle.owned.specs.Program.{Arg, S, Sig, Proc, Prog, kind}
use Rattle.owned.specs.Rows.{row_as}
use Rattle.owned.specs.Runs.{first_free, Val, St, fault, spent, deep, Took, took, missing, more, onto, with_left, opening}
use Rattle.owned.specs.Machine.{Frame, Mach, going, stopped, push, turn_m, hand_m, enter_m}
use Rattle.linker.specs.Code.{ProcAt}
use Rattle.machine.specs.declared.machine.Halt.TheVariants.{Spent}
use Rattle.machine.specs.Memory.{Control, Memory, with_turns, entered}
use Rattle.machine.specs.Represents.{Vars, Heap, Shows, State, FrameAt, Frames, Represents}
use Rattle.owned.specs.Strict.{pass_one, pass, enters, strict_s}
use Rattle.machine.specs.Steps.{Going, Ready, CanStep, Stepped, call_s}
use Rattle.machine.specs.Calls.{Passes, CanPass, Passed, suspended, Blanked, Opened}
use Rattle.machine.proofs.Words.{word_in, vars_same}
use Rattle.machine.proofs.Variables.{not_took}
use Rattle.machine.proofs.Evaluating.{drop_past}
use Rattle.machine.proofs.Pending.{entered_pends, push_singles}
use Rattle.machine.proofs.Branching.{standing, turn_off, turn_on}
use Rattle.machine.proofs.Opening.{opened_vars, opened_long}
use Rattle.machine.proofs.Callers.{frames_same, noted_long, noted_other, noted_first, noted_second, noted_third}

-- as many values as arguments
pass_long : (p : Sig) (bs : List Arg) (s : St) (vs : List Val) (t : St) → pass p bs s ≡ took vs t → length vs ≡ length bs
pass_long p [] s vs t e = let b : vs ≡ [] = cc in ap length b
pass_long p (a ∷ bs) s vs t e = one (pass_one a.lent (kind p a.of) a.of s) e (λ u us t₁ q. pass_long p bs u us t₁ q)
  where
    all : (v : Val) (o : Took (List Val)) → more v o ≡ took vs t → ((us : List Val) (t₁ : St) → o ≡ took us t₁ → length us ≡ length bs) → length vs ≡ suc (length bs)
    all v missing f ih = not_took vs t f
    all v (took us t₁) f ih = let q : vs ≡ v ∷ us = cc in ap length q ∙ ap suc (ih us t₁ refl)

    one : (o : Took Val) → onto o (λ v u. more v (pass p bs u)) ≡ took vs t → ((u : St) (us : List Val) (t₁ : St) → pass p bs u ≡ took us t₁ → length us ≡ length bs) → length vs ≡ suc (length bs)
    one missing f ih = not_took vs t f
    one (took v u) f ih = all v (pass p bs u) f (ih u)

-- a procedure that is called, as it begins
pub record Enters (g : Prog) (d f : ℕ) (vs : List Val) (t : St) (fs : List Frame) (w : Mach) : Type 0 where
  pub e : ℕ
  pub proc : Proc
  pub depth : d ≡ suc e
  pub there : slice_get g f ≡ Some proc
  pub fits : length vs ≤ length proc.sig.kinds
  pub is : w ≡ turn_m t.left t (λ u. going e proc.sig (push proc.body []) (opening proc.sig vs u) fs)

pub entering : (g : Prog) (d f : ℕ) (vs : List Val) (t : St) (fs : List Frame) → ((x : ℕ) → enters g d f vs t fs ≡ stopped (fault x) → ⊥) → (d ≡ 0 → ⊥) → ((q : Proc) → slice_get g f ≡ Some q → length q.sig.args ≤ length q.sig.kinds) → Enters g d f vs t fs (enters g d f vs t fs)
entering g zero f vs t fs well nz args = absurd (nz refl)
entering g (suc e) f vs t fs well nz args = go (slice_get g f) refl well
  where
    fitting : (q : Proc) → slice_get g f ≡ Some q → (b : Bool) → eqb (length vs) (length q.sig.args) ≡ b → ((x : ℕ) → cond b (turn_m t.left t (λ u. going e q.sig (push q.body []) (opening q.sig vs u) fs)) (stopped (fault 4)) ≡ stopped (fault x) → ⊥) → Enters g (suc e) f vs t fs (enters g (suc e) f vs t fs)
    fitting q i false j w = absurd (w 4 refl)
    fitting q i true j w = record { e = e; proc = q; depth = refl; there = i; fits = omega (arith, eqb-true (length vs) (length q.sig.args) j, args q i); is = rw (i, j) refl }

    go : (o : Option Proc) → slice_get g f ≡ o → ((x : ℕ) → enter_m o (λ q. cond (eqb (length vs) (length q.sig.args)) (turn_m t.left t (λ u. going e q.sig (push q.body []) (opening q.sig vs u) fs)) (stopped (fault 4))) ≡ stopped (fault x) → ⊥) → Enters g (suc e) f vs t fs (enters g (suc e) f vs t fs)
    go None i w = absurd (w 4 refl)
    go (Some q) i w = fitting q i (eqb (length vs) (length q.sig.args)) refl w

-- a procedure's first state, in memory: frames below it are given
module _ (c : Control) {f : ℕ} {q : Proc} {vs : List Val} (s₀ : St) {m₂ m₃ : Memory} {n : ℕ}
    (row : ProcAt c.code f q) (few : length q.sig.kinds ≤ 32) (fits : length vs ≤ length q.sig.kinds) (en : n ≡ length vs)
    (room : c.base + 80 ≤ length m₂.frames) (vars : Vars vs m₂.frames (c.base + 40)) (heap : Heap m₂.store s₀.cells)
    (shown : Shows c.output s₀.shown) (turns : c.turns ≡ s₀.left)
    (b : Blanked (c.base + 40) n (get_or c.code.procs (8 * f + 1) 0) m₂ m₃) where
  pub opened_state : State (entered c f m₂.frames) m₃ q.sig (opening q.sig vs s₀)
  opened_state =
      let h : Blanked (c.base + 40) (length vs) (get_or c.code.procs (8 * f + 1) 0) m₂ m₃ = rw en at b in
      record {
        kinds = row.kinds;
        few = few;
        vars = opened_vars vs q.sig.kinds (c.base + 40) _ m₂ m₃ fits row.many (omega (arith, room, few, row.many)) vars h;
        long = opened_long vs q.sig.kinds fits;
        cells = subst (λ (z : Memory). Heap z.store s₀.cells) (sym b.same) heap;
        shown = shown;
        turns = turns;
      }

  module _ {g : Prog} {e : ℕ} (procs : (f : ℕ) (q : Proc) → slice_get g f ≡ Some q → ProcAt c.code f q) (all_few : (f : ℕ) (q : Proc) → slice_get g f ≡ Some q → length q.sig.kinds ≤ 32) (all_args : (f : ℕ) (q : Proc) → slice_get g f ≡ Some q → length q.sig.args ≤ length q.sig.kinds) (depth : c.depth ≡ suc e) (size : c.base + 40 * (suc e + 1) ≤ c.size)
      (fs₁ : List Frame) (total : e + length fs₁ < 2 ^ 32) (frames : Frames c.code (take (c.base + 40) m₂.frames) (c.base + 40) fs₁) where
    pub opened_rep : Represents g (entered c f m₂.frames) m₃ e q.sig (push q.body []) (opening q.sig vs s₀) fs₁
    opened_rep = record {
      state = opened_state;
      pends = rw row.body.1 (entered_pends c.code q.body row.body.0 (length c.code.rows) [] row.body.2 refl);
      singles = push_singles q.body [] tt;
      row = (q.body, row);
      context = record { procs = procs; few = all_few; args = all_args; frames = frames; depth = omega arith; room = omega arith; below = omega (arith, length-take (c.base + 40) m₂.frames, room); total = total };
    }

module _ (g : Prog) (c : Control) (m : Memory) (d : ℕ) (p : Sig) (x f : ℕ) (bs : List Arg) (ss : List S) (s : St) (fs : List Frame) (h : Ready g c m d p (S.call x f bs) ss s fs) where
  pub record Handed : Type 0 where
    pub vs : List Val
    pub t : St
    pub passes : pass p bs s ≡ took vs t

  pub handed : Handed
  handed = go (pass p bs s) refl
    where
      go : (o : Took (List Val)) → pass p bs s ≡ o → Handed
      go (took vs t) e = record { vs = vs; t = t; passes = e }
      go missing e = absurd (h.well 1 (ap (λ o. hand_m o (λ vs t. enters g d f vs t (record { sig = p; dest = x; todo = ss; vars = t.vars } ∷ fs))) e))

  abbrev caller : Frame
  caller = record { sig = p; dest = x; todo = ss; vars = handed.t.vars }

  stepped : strict_s first_free g d p (S.call x f bs) ss s fs ≡ enters g d f handed.vs handed.t (caller ∷ fs)
  stepped = ap (λ o. hand_m o (λ vs t. enters g d f vs t (record { sig = p; dest = x; todo = ss; vars = t.vars } ∷ fs))) handed.passes

  words : (get_or c.code.rows (c.pos + 3) 0 ≡ length bs) × (drop (c.pos + 4) c.code.rows ≡ row_as bs ++ (standing h).words.0)
  words = let w = (standing h).words in ((word_in c.pos c.code.rows _ 3 w.1 (omega arith)).1, drop_past c.pos c.code.rows (11 ∷ x ∷ f ∷ length bs ∷ []) _ w.1)

  pub call_passes : Passes c m (c.pos + 4) (get_or c.code.rows (c.pos + 3) 0) p s bs handed.vs handed.t
  call_passes = record { state = h.rep.state; args = ((standing h).words.0, words.1); many = sym words.0; passes = handed.passes }

  pub too_deep : c.depth ≡ 0 → strict_s first_free g d p (S.call x f bs) ss s fs ≡ stopped deep
  too_deep z = stepped ∙ ap (λ y. enters g y f handed.vs handed.t (caller ∷ fs)) (sym h.rep.context.depth ∙ z)

  module _ (nz : c.depth ≡ 0 → ⊥) where
    pub enter : Enters g d f handed.vs handed.t (caller ∷ fs) (enters g d f handed.vs handed.t (caller ∷ fs))
    enter = entering g d f handed.vs handed.t (caller ∷ fs) (λ y e. h.well y (stepped ∙ e)) (λ z. nz (h.rep.context.depth ∙ z)) (λ q i. h.rep.context.args f q i)

    pub the_row : ProcAt c.code f enter.proc
    the_row = h.rep.context.procs f enter.proc enter.there

    the_few : length enter.proc.sig.kinds ≤ 32
    the_few = h.rep.context.few f enter.proc enter.there

    given : get_or c.code.rows (c.pos + 3) 0 ≡ length handed.vs
    given = words.0 ∙ sym (pass_long p bs s handed.vs handed.t handed.passes)

    pub pass_room : (k : ℕ) → k ≡ c.size → c.base + 40 + get_or c.code.rows (c.pos + 3) 0 ≤ k
    pass_room k e = omega (arith, given, enter.fits, the_few, h.rep.context.room, enter.depth)

    pub open_room : (k : ℕ) → k ≡ c.size → c.base + 40 + get_or c.code.procs (8 * f + 1) 0 ≤ k
    open_room k e = omega (arith, the_row.many, the_few, h.rep.context.room, enter.depth)

    pub two_frames : c.base + 80 ≤ c.size
    two_frames = omega (arith, h.rep.context.room, enter.depth)

    module _ {m₁ : Memory} (got : State c m₁ p handed.t × Vars handed.vs m₁.frames (c.base + 40)) where
      pub no_turns : c.turns ≡ 0 → strict_s first_free g d p (S.call x f bs) ss s fs ≡ stopped spent
      no_turns z = stepped ∙ enter.is ∙ turn_off handed.t.left handed.t _ (sym got.0.turns ∙ z)

      module _ (below : c.below ≡ take c.base m₁.frames) (size : c.size ≡ length m₁.frames) where
        abbrev m₂ : Memory
        m₂ = suspended c m₁ x

        abbrev c₂ : Control
        c₂ = with_turns c (c.turns - 1)

        long₂ : length m₂.frames ≡ length m₁.frames
        long₂ = noted_long m₁.frames c.base _ _ x (omega (arith, two_frames, size))

        other : (i : ℕ) → (i ≡ c.base + 32 → ⊥) → (i ≡ c.base + 33 → ⊥) → (i ≡ c.base + 34 → ⊥) → get_or m₂.frames i 0 ≡ get_or m₁.frames i 0
        other = noted_other m₁.frames c.base _ _ x (omega (arith, two_frames, size))

        abbrev ws : List ℕ
        ws = take (c.base + 40) m₂.frames

        long_ws : length ws ≡ c.base + 40
        long_ws = omega (arith, length-take (c.base + 40) m₂.frames, long₂, two_frames, size)

        in_ws : (i : ℕ) → i < c.base + 40 → get_or ws i 0 ≡ get_or m₂.frames i 0
        in_ws i l = get_or-take (c.base + 40) m₂.frames i 0 l

        the_frame : FrameAt c.code ws c.base caller
        the_frame = record {
          pends = rw (in_ws (c.base + 32) (omega arith) ∙ noted_first m₁.frames c.base _ _ x (omega (arith, two_frames, size)) ∙ (standing h).next) h.rep.pends.2;
          singles = h.rep.singles.1;
          row = rw (in_ws (c.base + 33) (omega arith) ∙ noted_second m₁.frames c.base _ _ x (omega (arith, two_frames, size))) h.rep.row;
          few = got.0.few;
          vars = vars_same handed.t.vars m₁.frames ws c.base (omega (arith, long_ws, got.0.long, got.0.few)) (λ y l. in_ws (c.base + y) (omega (arith, got.0.long, got.0.few)) ∙ other (c.base + y) (λ q. omega (arith, q, l, got.0.long, got.0.few)) (λ q. omega (arith, q, l, got.0.long, got.0.few)) (λ q. omega (arith, q, l, got.0.long, got.0.few))) got.0.vars;
          long = got.0.long;
          dest = in_ws (c.base + 34) (omega arith) ∙ noted_third m₁.frames c.base _ _ x (omega (arith, two_frames, size));
        }

        the_frames : Frames c.code ws (c.base + 40) (caller ∷ fs)
        the_frames = (
          c.base,
          refl,
          the_frame,
          frames_same c.code c.below ws c.base fs (omega (arith, long_ws))
              (λ i l. in_ws i (omega arith) ∙ other i (λ q. omega (arith, q, l)) (λ q. omega (arith, q, l)) (λ q. omega (arith, q, l)) ∙ sym (ap (λ z. get_or z i 0) below ∙ get_or-take c.base m₁.frames i 0 l)) h.rep.context.frames,
        )

        next_vars : Vars handed.vs m₂.frames (c.base + 40)
        next_vars = vars_same handed.vs m₁.frames m₂.frames (c.base + 40) (omega (arith, long₂, got.1.room)) (λ y l. other (c.base + 40 + y) (λ q. omega (arith, q)) (λ q. omega (arith, q)) (λ q. omega (arith, q))) got.1

        pub call_going : {m₃ : Memory} → (c.turns ≡ 0 → ⊥) → Blanked (c.base + 40) (get_or c.code.rows (c.pos + 3) 0) (get_or c.code.procs (8 * f + 1) 0) m₂ m₃ → Going g (entered c₂ f m₂.frames) m₃ (strict_s first_free g d p (S.call x f bs) ss s fs)
        call_going {m₃} nt b =
            let z = h.rep.context in
            let y = got.0 in
            record {
              d = enter.e;
              p = enter.proc.sig;
              todo = push enter.proc.body [];
              s = opening enter.proc.sig handed.vs (with_left handed.t (c.turns - 1));
              fs = caller ∷ fs;
              is = stepped ∙ enter.is ∙ turn_on handed.t.left handed.t _ (c.turns - 1) (omega (arith, y.turns, nt));
              rep = opened_rep c₂ (with_left handed.t (c.turns - 1)) the_row the_few enter.fits given (omega (arith, two_frames, size, long₂)) next_vars
                  y.cells y.shown refl b
                  z.procs z.few z.args (z.depth ∙ enter.depth) (omega (arith, z.room, enter.depth)) (caller ∷ fs) (omega (arith, z.total, enter.depth)) the_frames;
            }

-- the same, by what each part of the code says
module _ {c : Control} {m : Memory} (x f : ℕ) {at : ℕ} (ea : at ≡ c.pos) {many : ℕ} (em : many ≡ get_or c.code.rows (c.pos + 3) 0) where
  module _ (nz : c.depth ≡ 0 → ⊥) (size : c.size ≡ length m.frames) where
    passes : {g : Prog} {d : ℕ} {p : Sig} {v : List Arg} {ss : List S} {s : St} {fs : List Frame} (h : Ready g c m d p (call_s x f v) ss s fs) → Passes c m (at + 4) many p s v (handed g c m d p x f v ss s fs h).vs (handed g c m d p x f v ss s fs h).t
    passes {g} {d} {p} {v} {ss} {s} {fs} h = rw (ea, em) (call_passes g c m d p x f v ss s fs h)

    pub call_can : CanStep (List Arg) (call_s x f) c m → CanPass c m (at + 4) many
    call_can k = record { sig = k.sig; before = k.state; args = k.parts; vals = _; after = _; passes = passes k.ready; room = rw em (pass_room k.prog c m k.depth k.sig x f k.parts k.rest k.state k.callers k.ready nz (length m.frames) (sym size)) }

    module _ {c₁ : Control} {m₁ : Memory} (q : Passed c m (at + 4) many c₁ m₁) where
      got : {g : Prog} {d : ℕ} {p : Sig} {v : List Arg} {ss : List S} {s : St} {fs : List Frame} (h : Ready g c m d p (call_s x f v) ss s fs) → State c m₁ p (handed g c m d p x f v ss s fs h).t × Vars (handed g c m d p x f v ss s fs h).vs m₁.frames (c.base + 40)
      got {g} {d} {p} {v} {ss} {s} {fs} h = q.state p s v _ _ (passes h)

      pub call_spent : c₁.turns ≡ 0 → Stepped (List Arg) (call_s x f) c m c₁ m₁ (Err Spent)
      call_spent z g d p v ss s fs h = no_turns g c m d p x f v ss s fs h nz (got h) (rw q.here at z)

      module _ {c₂ : Control} {m₂ : Memory} (e₂ : c₂ ≡ with_turns c₁ (c₁.turns - 1)) (f₂ : m₂ ≡ suspended c₁ m₁ x) where
        here₂ : c₂ ≡ with_turns c (c.turns - 1)
        here₂ = e₂ ∙ ap (λ (z : Control). with_turns z (z.turns - 1)) q.here

        mem₂ : m₂ ≡ suspended c m₁ x
        mem₂ = f₂ ∙ ap (λ (z : Control). suspended z m₁ x) q.here

        pub call_open : CanStep (List Arg) (call_s x f) c m → (8 * f + 8 ≤ length c₂.code.procs) × (0 < c₂.depth) × (c₂.base + 40 + get_or c₂.code.procs (8 * f + 1) 0 ≤ length m₂.frames)
        call_open k =
            let l : length (suspended c m₁ x).frames ≡ c.size = noted_long m₁.frames c.base _ _ x (omega (arith, two_frames k.prog c m k.depth k.sig x f k.parts k.rest k.state k.callers k.ready nz, size, q.long)) ∙ q.long ∙ sym size in
            rw (here₂, mem₂) ((the_row k.prog c m k.depth k.sig x f k.parts k.rest k.state k.callers k.ready nz).room, omega (arith, nz), open_room k.prog c m k.depth k.sig x f k.parts k.rest k.state k.callers k.ready nz (length (suspended c m₁ x).frames) l)

        pub call_done : {c₃ : Control} {m₃ : Memory} → (c₁.turns ≡ 0 → ⊥) → c₁.below ≡ take c₁.base m₁.frames → Opened c₂ m₂ f many c₃ m₃ → Stepped (List Arg) (call_s x f) c m c₃ m₃ (Ok tt)
        call_done {c₃} {m₃} nt below o g d p v ss s fs h =
            let o₁ : Opened (with_turns c (c.turns - 1)) (suspended c m₁ x) f many c₃ m₃ = rw (here₂, mem₂) at o in
            let b : Blanked (c.base + 40) (get_or c.code.rows (c.pos + 3) 0) (get_or c.code.procs (8 * f + 1) 0) (suspended c m₁ x) m₃ = rw em at o₁.blank in
            rw o₁.here (call_going g c m d p x f v ss s fs h nz (got h) (rw q.here at below) (size ∙ sym q.long) (rw q.here at nt) b)
