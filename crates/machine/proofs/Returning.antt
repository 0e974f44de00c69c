-- Back to the caller: its frame says where it goes on and where the result goes.
use Rattle.std.proofs.Common.{◌≡◌, ℕ, suc, ◌+◌, ◌-◌, ◌*◌, ◌<◌, ◌≤◌, true, List, [], ◌∷◌, length, get_or, take, Some, sym, refl, ap, ◌∙◌, subst, arith, length-take, get_or-take}
use Rattle.std.specs.List.{slice_get}
use Rattle.std.proofs.lemmas.Bool.{eq-eqb}
use Rattle.owned.specs.Program.{Sig, Prog, kind}
use Rattle.owned.specs.Runs.{first_free, Val, St, R, fine, with_vars, stays}
use Rattle.owned.specs.Machine.{Frame, going, and_m}
use Rattle.machine.specs.Memory.{Control, Memory, left}
use Rattle.machine.specs.Represents.{Means, State, FrameAt, Represents}
use Rattle.owned.specs.Strict.{or_fault, place, closes, returned, strict}
use Rattle.machine.specs.Operations.{NoFault, Puts, CanPut, PutIn}
use Rattle.machine.specs.Steps.{Going}
use Rattle.machine.specs.Calls.{Closes, CanClose, ClosedTo, Closed, Leaves, CanLeave, Left}
use Rattle.machine.proofs.Words.{get_value}
use Rattle.machine.proofs.Results.{there_of, place_of}
use Rattle.machine.proofs.Callers.{frame_same, frames_same}

-- the result stays
pub result_stays : (p : Sig) → stays p p.result ≡ true
result_stays p = rw (eq-eqb p.result p.result refl) refl

module _ {g : Prog} {c : Control} {m : Memory} {d : ℕ} {p : Sig} {s : St} {f : Frame} {fs : List Frame} (h : Leaves g c m d p s f fs) where
  leave_closes : Closes c m p s (closes p 0 p.kinds s)
  leave_closes = record { state = h.rep.state; row = h.rep.row; closes = refl; well = λ x e. h.well x (ap (λ z. and_m z (λ v. returned d p (f ∷ fs) v)) e) }

  row_room : 8 * c.procedure + 8 ≤ length c.code.procs
  row_room = h.rep.row.1.room

  module _ {c₁ : Control} {m₁ : Memory} (e : Closed c m c₁ m₁) where
    pub end : ClosedTo m₁.store p s (closes p 0 p.kinds s)
    end = e.end p s (closes p 0 p.kinds s) leave_closes

    given : Val → R
    given u = place (kind f.sig f.dest) f.dest u (with_vars end.end f.vars)

    came : strict first_free g (going d p [] s (f ∷ fs)) ≡ and_m (or_fault (slice_get end.end.vars p.result) given) (λ w. going (suc d) f.sig f.todo w fs)
    unfolding given
    came = ap (λ z. and_m z (λ v. returned d p (f ∷ fs) v)) end.is

    fine_all : NoFault (or_fault (slice_get end.end.vars p.result) given)
    fine_all x i = h.well x (came ∙ ap (λ z. and_m z (λ w. going (suc d) f.sig f.todo w fs)) i)

    -- the result, and what comes of putting it in
    pub record Result : Type 0 where
      pub value : Val
      pub after : St
      pub there : slice_get s.vars p.result ≡ Some value
      pub puts : place (kind f.sig f.dest) f.dest value (with_vars end.end f.vars) ≡ fine after
      pub is : strict first_free g (going d p [] s (f ∷ fs)) ≡ going (suc d) f.sig f.todo after fs

    pub result : Result
    unfolding given
    result =
        let o = there_of fine_all (slice_get end.end.vars p.result) given refl in
        let q = place_of fine_all (kind f.sig f.dest) f.dest o.0 (with_vars end.end f.vars) o.2 in
        record { value = o.0; after = q.0; there = sym (end.kept p.result (result_stays p)) ∙ o.1; puts = q.1; is = came ∙ ap (λ z. and_m z (λ w. going (suc d) f.sig f.todo w fs)) q.2 }

    word : (c.base + p.result < length m₁.frames) × Means result.value (get_or m₁.frames (c.base + p.result) 0)
    word = subst (λ F. (c.base + p.result < length F) × Means result.value (get_or F (c.base + p.result) 0)) (sym e.frames) (get_value h.rep.state p.result result.value result.there)

    module _ (below : c.below ≡ take c.base m₁.frames) (size : c.size ≡ length m₁.frames) where
      base_is : c.base - 40 ≡ h.rep.context.frames.0
      base_is = omega (arith, h.rep.context.frames.1)

      in_below : (i : ℕ) → i < c.base → get_or m₁.frames i 0 ≡ get_or c.below i 0
      in_below i l = sym (ap (λ z. get_or z i 0) below ∙ get_or-take c.base m₁.frames i 0 l)

      pub caller : FrameAt c.code m₁.frames h.rep.context.frames.0 f
      caller = frame_same c.code c.below m₁.frames h.rep.context.frames.0 f (omega (arith, h.rep.context.frames.1, h.rep.context.room, size)) (λ i l. in_below i (omega (arith, l, h.rep.context.frames.1))) h.rep.context.frames.2

      pub caller_state : State (left c m₁.frames) m₁ f.sig (with_vars end.end f.vars)
      caller_state =
          let r = h.rep.state in let y = end in
          record { kinds = rw base_is caller.row.1.kinds; few = caller.few; vars = rw base_is caller.vars; long = caller.long; cells = y.heap; shown = rw y.shown r.shown; turns = r.turns ∙ sym y.left }

      back_rep : {m₂ : Memory} → State (left c m₁.frames) m₂ f.sig result.after → Represents g (left c m₁.frames) m₂ (suc d) f.sig f.todo result.after fs
      back_rep st =
          let x = h.rep.context in
          let l : h.rep.context.frames.0 ≤ length m₁.frames = omega (arith, x.frames.1, x.room, size) in
          let k : length (take h.rep.context.frames.0 m₁.frames) ≡ h.rep.context.frames.0 = omega (arith, length-take h.rep.context.frames.0 m₁.frames) in
          record {
            state = st;
            pends = rw base_is caller.pends;
            singles = caller.singles;
            row = rw base_is caller.row;
            context = record {
              procs = x.procs;
              few = x.few;
              args = x.args;
              frames = rw base_is (frames_same c.code c.below (take h.rep.context.frames.0 m₁.frames) h.rep.context.frames.0 fs (omega arith) (λ i q. get_or-take h.rep.context.frames.0 m₁.frames i 0 q ∙ in_below i (omega (arith, q, x.frames.1))) x.frames.3);
              depth = omega (arith, x.depth);
              room = rw base_is (omega (arith, x.room, x.frames.1));
              below = rw base_is k;
              total = omega (arith, x.total);
            };
          }

      module _ {w : ℕ} (ew : w ≡ get_or m₁.frames (c.base + p.result) 0) where
        pub puts_back : Puts (left c m₁.frames) m₁ f.dest w f.sig (with_vars end.end f.vars) result.value result.after
        puts_back = record { state = caller_state; means = rw ew word.1; puts = result.puts }

        pub going_back : {c₂ : Control} {m₂ : Memory} → PutIn (left c m₁.frames) m₁ f.dest w c₂ m₂ → Going g c₂ m₂ (strict first_free g (going d p [] s (f ∷ fs)))
        going_back {c₂} {m₂} i = record { d = suc d; p = f.sig; todo = f.todo; s = result.after; fs = fs; is = result.is; rep = rw i.here (back_rep (i.state f.sig (with_vars end.end f.vars) result.value result.after puts_back)) }

pub leave_finish : {c : Control} {m : Memory} → CanLeave c m → CanClose c m
leave_finish h = record { sig = h.sig; state = h.state; result = _; closes = leave_closes h.leaves; room = row_room h.leaves }

module _ {c : Control} {m : Memory} {c₁ : Control} {m₁ : Memory} (e : Closed c m c₁ m₁) where
  -- the result's word, by the table
  result_word : {g : Prog} {d : ℕ} {p : Sig} {s : St} {f : Frame} {fs : List Frame} → Leaves g c m d p s f fs → get_or c.code.procs (8 * c.procedure + 2) 0 ≡ p.result
  result_word h = h.rep.row.1.result

  pub leave_result : CanLeave c m → (8 * c₁.procedure + 8 ≤ length c₁.code.procs) × (c₁.base + get_or c₁.code.procs (8 * c₁.procedure + 2) 0 < length m₁.frames)
  leave_result h = rw e.here (row_room h.leaves, rw (result_word h.leaves) (word h.leaves e).0)

  module _ (below : c₁.below ≡ take c₁.base m₁.frames) (size : c₁.size ≡ length m₁.frames) where
    below₀ : c.below ≡ take c.base m₁.frames
    below₀ = rw e.here at below

    size₀ : c.size ≡ length m₁.frames
    size₀ = rw e.here at size

    module _ {w : ℕ} (ew : w ≡ get_or m₁.frames (c₁.base + get_or c₁.code.procs (8 * c₁.procedure + 2) 0) 0) {c₂ : Control} {m₂ : Memory} (e₂ : c₂ ≡ left c₁ m₁.frames) (f₂ : m₂ ≡ m₁) {x : ℕ} (ex : x ≡ get_or m₁.frames (c₁.base - 40 + 34) 0) where
      here₂ : c₂ ≡ left c m₁.frames
      here₂ = e₂ ∙ ap (λ (z : Control). left z m₁.frames) e.here

      is_word : {g : Prog} {d : ℕ} {p : Sig} {s : St} {f : Frame} {fs : List Frame} → Leaves g c m d p s f fs → w ≡ get_or m₁.frames (c.base + p.result) 0
      is_word h = ew ∙ ap (λ (z : Control). get_or m₁.frames (z.base + get_or z.code.procs (8 * z.procedure + 2) 0) 0) e.here ∙ ap (λ i. get_or m₁.frames (c.base + i) 0) (result_word h)

      is_dest : {g : Prog} {d : ℕ} {p : Sig} {s : St} {f : Frame} {fs : List Frame} → Leaves g c m d p s f fs → x ≡ f.dest
      is_dest h = ex ∙ ap (λ (z : Control). get_or m₁.frames (z.base - 40 + 34) 0) e.here ∙ rw (base_is h e below₀ size₀) (caller h e below₀ size₀).dest

      pub leave_put : CanLeave c m → CanPut c₂ m₂ x w
      leave_put h = rw (here₂, f₂, is_dest h.leaves) (h.caller.sig, with_vars (end h.leaves e).end h.caller.vars, _, _, puts_back h.leaves e below₀ size₀ (is_word h.leaves))

      pub leave_done : {c₃ : Control} {m₃ : Memory} → PutIn c₂ m₂ x w c₃ m₃ → Left c m c₃ m₃
      leave_done {c₃} {m₃} i g d p s f fs h =
          let j : PutIn (left c m₁.frames) m₁ f.dest w c₃ m₃ = rw (here₂, f₂, is_dest h) at i in
          going_back h e below₀ size₀ (is_word h) j
