-- A step: with a statement pending it is the statement's, without one the procedure ends and its caller goes on, or
-- the run is done with the first procedure's result.
use Rattle.std.proofs.Common.{◌≡◌, ℕ, ◌+◌, ◌*◌, ◌<◌, ◌≤◌, List, [], ◌∷◌, length, get_or, Some, Ok, Err, sym, refl, ap, ◌∙◌, subst, arith}
use Rattle.std.specs.List.{slice_get}
use Rattle.owned.specs.Program.{S, Sig, Prog}
use Rattle.owned.specs.Runs.{first_free, Val, n, at, nothing, St, R, with_vars, last}
use Rattle.owned.specs.Machine.{Frame, going, stopped, and_m}
use Rattle.linker.specs.Code.{Code}
use Rattle.owned.specs.Strict.{or_fault, closes, returned, strict}
use Rattle.machine.specs.declared.machine.Halt.{Halt}
use Rattle.machine.specs.declared.machine.Progress.TheVariants as progress
use Rattle.machine.specs.Memory.{Control, Memory}
use Rattle.machine.specs.Represents.{Means, Shows, Frames}
use Rattle.machine.specs.Operations.{NoFault}
use Rattle.machine.specs.Steps.{Ready, CanStep, Stepped, any_s}
use Rattle.machine.specs.Calls.{Closes, CanClose, ClosedTo, Closed, CanLeave, Left}
use Rattle.machine.specs.Running.{Steps, CanAdvance, Done, Advanced}
use Rattle.machine.proofs.Words.{get_value}
use Rattle.machine.proofs.Results.{there_of}
use Rattle.machine.proofs.Branching.{in_rows, standing}
use Rattle.machine.proofs.Returning.{result_stays}

-- frames begin at the second
frames_base : (c : Code) (ws : List ℕ) (b : ℕ) (fs : List Frame) → Frames c ws b fs → 40 ≤ b
frames_base c ws b [] h = omega arith
frames_base c ws b (f ∷ fs) h = omega (arith, h.1)

-- the first procedure, with nothing pending
record Last (c : Control) (m : Memory) (g : Prog) (d : ℕ) (p : Sig) (ss : List S) (s : St) (fs : List Frame) : Type 0 where
  pub closing : Closes c m p s (closes p 0 p.kinds s)
  pub room : 8 * c.procedure + 8 ≤ length c.code.procs
  pub is : strict first_free g (going d p ss s fs) ≡ and_m (closes p 0 p.kinds s) (λ v. returned d p [] v)

module _ {c : Control} {m : Memory} where
  module _ (l : c.pos < length c.code.rows) where
    pub step_execute : CanAdvance c m → CanStep S any_s c m
    step_execute w = go w.todo w.steps
      where
        go : (ss : List S) → Steps w.prog c m w.depth w.sig ss w.state w.callers → CanStep S any_s c m
        go [] h = absurd (omega (arith, l, h.rep.pends))
        go (a ∷ ss) h =
            let r : Ready w.prog c m w.depth w.sig a ss w.state w.callers = record { rep = h.rep; well = h.well } in
            record { prog = w.prog; depth = w.depth; sig = w.sig; parts = a; rest = ss; state = w.state; callers = w.callers; ready = r; here = l; room = (standing r).room }

    pub executed_halt : (c₁ : Control) (m₁ : Memory) (f : Halt) → Stepped S any_s c m c₁ m₁ (Err f) → Advanced c m c₁ m₁ (Err f)
    executed_halt c₁ m₁ f st g d p [] s fs h = absurd (omega (arith, l, h.rep.pends))
    executed_halt c₁ m₁ f st g d p (a ∷ ss) s fs h = st g d p a ss s fs (record { rep = h.rep; well = h.well })

  module _ (l : length c.code.rows ≤ c.pos) where
    -- none is: a statement stands in the rows
    none : {B : Type 0} (g : Prog) (d : ℕ) (p : Sig) (a : S) (ss : List S) (s : St) (fs : List Frame) → Steps g c m d p (a ∷ ss) s fs → B
    none g d p a ss s fs h = absurd (omega (arith, l, in_rows (record { rep = h.rep; well = h.well })))

    module _ (z : 40 < c.base) where
      pub step_leave : CanAdvance c m → CanLeave c m
      step_leave w = go w.todo w.callers w.steps
        where
          go : (ss : List S) (fs : List Frame) → Steps w.prog c m w.depth w.sig ss w.state fs → CanLeave c m
          go (a ∷ ss) fs h = none w.prog w.depth w.sig a ss w.state fs h
          go [] [] h = absurd (omega (arith, z, h.rep.context.frames))
          go [] (f ∷ fs) h = record { prog = w.prog; depth = w.depth; sig = w.sig; state = w.state; caller = f; callers = fs; leaves = record { rep = h.rep; well = h.well } }

      pub left_on : {c₁ : Control} {m₁ : Memory} (q : ℕ) → Left c m c₁ m₁ → Advanced c m c₁ m₁ (Ok (progress.Going q))
      left_on q st g d p (a ∷ ss) s fs h = none g d p a ss s fs h
      left_on q st g d p [] s [] h = absurd (omega (arith, z, h.rep.context.frames))
      left_on q st g d p [] s (f ∷ fs) h = st g d p s f fs (record { rep = h.rep; well = h.well })

    module _ (z : c.base ≤ 40) where
      final : (g : Prog) (d : ℕ) (p : Sig) (ss : List S) (s : St) (fs : List Frame) → Steps g c m d p ss s fs → Last c m g d p ss s fs
      final g d p (a ∷ ss) s fs h = none g d p a ss s fs h
      final g d p [] s (f ∷ fs) h = absurd (omega (arith, z, h.rep.context.frames.1, frames_base c.code c.below h.rep.context.frames.0 fs h.rep.context.frames.3))
      final g d p [] s [] h = record {
        closing = record { state = h.rep.state; row = h.rep.row; closes = refl; well = λ f e. h.well f (ap (λ r. and_m r (λ v. returned d p [] v)) e) };
        room = h.rep.row.1.room;
        is = refl;
      }

      pub step_finish : CanAdvance c m → CanClose c m
      step_finish w = let t = final w.prog w.depth w.sig w.todo w.state w.callers w.steps in record { sig = w.sig; state = w.state; result = _; closes = t.closing; room = t.room }

      module _ {c₁ : Control} {m₁ : Memory} (e : Closed c m c₁ m₁) where
        -- what the variables that stay hold
        record Ended (g : Prog) (d : ℕ) (p : Sig) (ss : List S) (s : St) (fs : List Frame) : Type 0 where
          pub to : ClosedTo m₁.store p s (closes p 0 p.kinds s)
          pub value : Val
          pub there : slice_get s.vars p.result ≡ Some value
          pub is : strict first_free g (going d p ss s fs) ≡ stopped (last value (with_vars to.end []))

        ended : (g : Prog) (d : ℕ) (p : Sig) (ss : List S) (s : St) (fs : List Frame) → Steps g c m d p ss s fs → Ended g d p ss s fs
        ended g d p ss s fs h =
            let t = final g d p ss s fs h in
            let n = e.end p s _ t.closing in
            let i : strict first_free g (going d p ss s fs) ≡ stopped (or_fault (slice_get n.end.vars p.result) (λ u. last u (with_vars n.end []))) = t.is ∙ ap (λ r. and_m r (λ v. returned d p [] v)) n.is in
            let o = there_of (λ f q. h.well f (i ∙ ap stopped q)) (slice_get n.end.vars p.result) _ refl in
            record { to = n; value = o.0; there = sym (n.kept p.result (result_stays p)) ∙ o.1; is = i ∙ ap stopped (sym o.2) }

        word : (g : Prog) (d : ℕ) (p : Sig) (ss : List S) (s : St) (fs : List Frame) (h : Steps g c m d p ss s fs) → (c.base + p.result < length m₁.frames) × Means (ended g d p ss s fs h).value (get_or m₁.frames (c.base + p.result) 0)
        word g d p ss s fs h = let b = ended g d p ss s fs h in subst (λ F. (c.base + p.result < length F) × Means b.value (get_or F (c.base + p.result) 0)) (sym e.frames) (get_value h.rep.state p.result b.value b.there)

        pub step_result : CanAdvance c m → (8 * c₁.procedure + 8 ≤ length c₁.code.procs) × (c₁.base + get_or c₁.code.procs (8 * c₁.procedure + 2) 0 < length m₁.frames)
        step_result w =
            let q = w.steps in
            rw e.here ((final w.prog w.depth w.sig w.todo w.state w.callers q).room, rw q.rep.row.1.result (word w.prog w.depth w.sig w.todo w.state w.callers q).0)

        done : (w : ℕ) (v : Val) (t : St) (r : R) → NoFault r → Means v w → r ≡ last v (with_vars t []) → Shows c₁.output t.shown → c₁.turns ≡ t.left → Done c₁ w r
        done w (n j) t r nf me i sh tu = record { end = record { vars = n j ∷ []; cells = t.cells; shown = t.shown; left = t.left; made = t.made }; is = i; result = ap (λ z. n z ∷ []) (sym me); shown = sh; left = tu }
        done w (at a b) t r nf me i sh tu = absurd (nf 4 i)
        done w nothing t r nf me i sh tu = absurd (nf 4 i)

        pub finished : {w : ℕ} → w ≡ get_or m₁.frames (c₁.base + get_or c₁.code.procs (8 * c₁.procedure + 2) 0) 0 → Advanced c m c₁ m₁ (Ok (progress.Done w))
        finished {w} f g d p ss s fs h =
            let b = ended g d p ss s fs h in
            let y = h.rep.state in
            let x : w ≡ get_or m₁.frames (c.base + p.result) 0 = f ∙ ap (λ (z : Control). get_or m₁.frames (z.base + get_or z.code.procs (8 * z.procedure + 2) 0) 0) e.here ∙ ap (λ i. get_or m₁.frames (c.base + i) 0) h.rep.row.1.result in (
              last b.value (with_vars b.to.end []),
              b.is,
              done w b.value b.to.end (last b.value (with_vars b.to.end [])) (λ k q. h.well k (b.is ∙ ap stopped q)) (rw x (word g d p ss s fs h).1) refl
                  (subst (λ (z : Control). Shows z.output b.to.end.shown) (sym e.here) (subst (Shows c.output) (sym b.to.shown) y.shown))
                  (ap (λ (z : Control). z.turns) e.here ∙ y.turns ∙ sym b.to.left),
            )
