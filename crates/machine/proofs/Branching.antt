-- Going on in the program: past a statement, and to a part of an `if` or a `while`.
use Rattle.std.proofs.Common.{◌≡◌, ℕ, suc, ◌+◌, ◌<◌, cond, eqb, List, ◌∷◌, ◌++◌, length, get_or, Ok, Err, sym, refl, ap, ◌∙◌, arith}
use Rattle.std.proofs.lemmas.Bool.{eq-eqb, ne_eqb}
use Rattle.owned.specs.Program.{E, S, Sig, Prog}
use Rattle.owned.specs.Rows.{row_s}
use Rattle.owned.specs.Runs.{first_free, St, fault, spent, May, ok, bad, value, with_left}
use Rattle.owned.specs.Machine.{Frame, Mach, going, stopped, push, num_m, turn_m}
use Rattle.owned.specs.Strict.{strict_s}
use Rattle.linker.specs.Code.{Here, Pends}
use Rattle.machine.specs.declared.machine.Halt.TheVariants.{Spent}
use Rattle.machine.specs.Memory.{Control, Memory, go_to, with_turns}
use Rattle.machine.specs.Represents.{State, Context, Represents}
use Rattle.machine.specs.Operations.{Evaluates, CanEvaluate, Evaluated}
use Rattle.machine.specs.Steps.{Going, Ready, CanStep, Stepped, if_s, while_s}
use Rattle.machine.proofs.Evaluating.{can}
use Rattle.machine.proofs.Pending.{entered_pends, push_singles, stands, first_word, expr_next}

-- the machine at another place, the rest as it is
pub moved : {c : Control} {m : Memory} {p : Sig} {s : St} (q : ℕ) → State c m p s → State (go_to c q) m p s
moved q r = record { kinds = r.kinds; few = r.few; vars = r.vars; long = r.long; cells = r.cells; shown = r.shown; turns = r.turns }

pub moved_context : {g : Prog} {c : Control} {d : ℕ} {fs : List Frame} (q : ℕ) → Context g c d fs → Context g (go_to c q) d fs
moved_context q x = record { procs = x.procs; few = x.few; args = x.args; frames = x.frames; depth = x.depth; room = x.room; below = x.below; total = x.total }

module _ {g : Prog} {c : Control} {m : Memory} {d : ℕ} {p : Sig} {a : S} {ss : List S} {s : St} {fs : List Frame} (h : Ready g c m d p a ss s fs) where
  pub standing : Here c.code a c.pos h.rep.pends.0
  standing = stands c.code a c.pos h.rep.pends.0 h.rep.singles.0 h.rep.pends.1

  pub in_rows : c.pos < length c.code.rows
  in_rows = first_word c.code a c.pos h.rep.pends.0 standing

  -- past the statement, in a state that came of it
  pub past : {c₁ c₂ : Control} {m₁ m₂ : Memory} {t : St} → c₁ ≡ c → State c m₁ p t → c₂ ≡ go_to c₁ (get_or c₁.code.follow c₁.pos 0) → m₂ ≡ m₁ → Represents g c₂ m₂ d p ss t fs
  past {c₁} {c₂} {m₁} {m₂} {t} e r e₂ f =
      let i : c₂ ≡ go_to c h.rep.pends.0 = e₂ ∙ ap (λ (z : Control). go_to z (get_or z.code.follow z.pos 0)) e ∙ ap (λ q. go_to c q) standing.next in
      rw (i, f) (record { state = moved h.rep.pends.0 r; pends = h.rep.pends.2; singles = h.rep.singles.1; row = h.rep.row; context = moved_context h.rep.pends.0 h.rep.context })

-- a test that comes to a number
pub tested : (v : May) (k : ℕ → Mach) → ((f : ℕ) → num_m v k ≡ stopped (fault f) → ⊥) → (x : ℕ) × (v ≡ ok x)
tested bad k nf = absurd (nf 3 refl)
tested (ok x) k nf = (x, refl)

test_zero : (v : May) (x : ℕ) (m₀ m₁ : Mach) → v ≡ ok x → x ≡ 0 → num_m v (λ k. cond (eqb k 0) m₀ m₁) ≡ m₀
test_zero v x m₀ m₁ e z = rw (e, eq-eqb x 0 z)

test_more : (v : May) (x : ℕ) (m₀ m₁ : Mach) → v ≡ ok x → (x ≡ 0 → ⊥) → num_m v (λ k. cond (eqb k 0) m₀ m₁) ≡ m₁
test_more v x m₀ m₁ e z = rw (e, ne_eqb x 0 z)

pub turn_off : (l : ℕ) (s : St) (k : St → Mach) → l ≡ 0 → turn_m l s k ≡ stopped spent
turn_off l s k e = rw e

pub turn_on : (l : ℕ) (s : St) (k : St → Mach) (j : ℕ) → l ≡ suc j → turn_m l s k ≡ k (with_left s j)
turn_on l s k j e = rw e

-- if
module _ {c : Control} {m : Memory} where
  if_value : {g : Prog} {d : ℕ} {p : Sig} {v : E × S × S} {ss : List S} {s : St} {fs : List Frame} → Ready g c m d p (if_s v) ss s fs → (k : ℕ) × Evaluates c m (c.pos + 1) p s v.0 k
  if_value {v = v} {s = s} h =
      let k = tested (value s v.0) _ h.well in
      let w = (standing h).words in
      (k.0, record { state = h.rep.state; expr = record { words = expr_next c.code c.pos 9 v.0 (row_s v.1 ++ row_s v.2) w.0 w.1; table = (standing h).expr }; value = k.1 })

  pub if_can : CanStep (E × S × S) if_s c m → CanEvaluate c m (c.pos + 1)
  if_can h = can c m (c.pos + 1) (if_value h.ready).1

  -- on to a part of the `if`
  part_on : {g : Prog} {d : ℕ} {p : Sig} {v : E × S × S} {ss : List S} {s : St} {fs : List Frame} (h : Ready g c m d p (if_s v) ss s fs) (q : ℕ) (a : S) → Pends c.code q (push a ss) → strict_s first_free g d p (if_s v) ss s fs ≡ going d p (push a ss) s fs → Going g (go_to c q) m (strict_s first_free g d p (if_s v) ss s fs)
  part_on {d = d} {p = p} {ss = ss} {s = s} {fs = fs} h q a pd i = record { d = d; p = p; todo = push a ss; s = s; fs = fs; is = i; rep = record { state = moved q h.rep.state; pends = pd; singles = push_singles a ss h.rep.singles.1; row = h.rep.row; context = moved_context q h.rep.context } }

  pub if_second : {w : ℕ} → Evaluated c m (c.pos + 1) w → w ≡ 0 → Stepped (E × S × S) if_s c m (go_to c (get_or c.code.other c.pos 0)) m (Ok tt)
  if_second {w} ev z g d p v ss s fs h =
      let k = if_value h in
      let t = ev p s v.0 k.0 k.1 in
      let n = h.rep.pends in
      part_on h _ v.2 (rw n.1.2.enters (entered_pends c.code v.2 _ n.0 ss n.1.4 n.2)) (test_zero (value s v.0) k.0 _ _ k.1.value (sym t ∙ z))

  pub if_first : {w : ℕ} → Evaluated c m (c.pos + 1) w → (w ≡ 0 → ⊥) → Stepped (E × S × S) if_s c m (go_to c (get_or c.code.inner c.pos 0)) m (Ok tt)
  if_first {w} ev z g d p v ss s fs h =
      let k = if_value h in
      let t = ev p s v.0 k.0 k.1 in
      let n = h.rep.pends in
      part_on h _ v.1 (rw n.1.1.enters (entered_pends c.code v.1 _ n.0 ss n.1.3 n.2)) (test_more (value s v.0) k.0 _ _ k.1.value (λ q. z (t ∙ q)))

-- while
module _ {c : Control} {m : Memory} where
  while_value : {g : Prog} {d : ℕ} {p : Sig} {v : E × S} {ss : List S} {s : St} {fs : List Frame} → Ready g c m d p (while_s v) ss s fs → (k : ℕ) × Evaluates c m (c.pos + 1) p s v.0 k
  while_value {v = v} {s = s} h =
      let k = tested (value s v.0) _ h.well in
      let w = (standing h).words in
      (k.0, record { state = h.rep.state; expr = record { words = expr_next c.code c.pos 10 v.0 (row_s v.1) w.0 w.1; table = (standing h).expr }; value = k.1 })

  pub while_can : CanStep (E × S) while_s c m → CanEvaluate c m (c.pos + 1)
  while_can h = can c m (c.pos + 1) (while_value h.ready).1

  module _ {w : ℕ} (ev : Evaluated c m (c.pos + 1) w) where
    pub while_off : {c₁ : Control} {m₁ : Memory} → w ≡ 0 → c₁ ≡ go_to c (get_or c.code.follow c.pos 0) → m₁ ≡ m → Stepped (E × S) while_s c m c₁ m₁ (Ok tt)
    while_off z e₁ f g d p v ss s fs h =
        let k = while_value h in
        let t = ev p s v.0 k.0 k.1 in
        record { d = d; p = p; todo = ss; s = s; fs = fs; is = test_zero (value s v.0) k.0 _ _ k.1.value (sym t ∙ z); rep = past h refl h.rep.state e₁ f }

    pub while_spent : (w ≡ 0 → ⊥) → c.turns ≡ 0 → Stepped (E × S) while_s c m c m (Err Spent)
    while_spent z l g d p v ss s fs h =
        let k = while_value h in
        let t = ev p s v.0 k.0 k.1 in
        test_more (value s v.0) k.0 _ _ k.1.value (λ q. z (t ∙ q)) ∙ turn_off s.left s _ (sym h.rep.state.turns ∙ l)

    pub while_on : {l : ℕ} → (w ≡ 0 → ⊥) → l + 1 ≡ c.turns → Stepped (E × S) while_s c m (go_to (with_turns c l) (get_or c.code.inner c.pos 0)) m (Ok tt)
    while_on {l} z e g d p v ss s fs h =
        let k = while_value h in
        let t = ev p s v.0 k.0 k.1 in
        let n = h.rep.pends in
        let r = h.rep.state in
        let x = h.rep.context in
        record {
          d = d;
          p = p;
          todo = push v.1 (S.while v.0 v.1 ∷ ss);
          s = with_left s l;
          fs = fs;
          is = test_more (value s v.0) k.0 _ _ k.1.value (λ q. z (t ∙ q)) ∙ turn_on s.left s _ l (omega (arith, e, r.turns));
          rep = record {
            state = record { kinds = r.kinds; few = r.few; vars = r.vars; long = r.long; cells = r.cells; shown = r.shown; turns = refl };
            pends = rw n.1.1.enters (entered_pends c.code v.1 _ c.pos (S.while v.0 v.1 ∷ ss) n.1.2 n);
            singles = push_singles v.1 (S.while v.0 v.1 ∷ ss) h.rep.singles;
            row = h.rep.row;
            context = record { procs = x.procs; few = x.few; args = x.args; frames = x.frames; depth = x.depth; room = x.room; below = x.below; total = x.total };
          };
        }
