-- `go`: the memory that it cuts is where a run may start, and what the machine says is what the run came to.
use Rattle.std.proofs.Common.{◌≡◌, ℕ, suc, ◌+◌, ◌*◌, ◌^◌, ◌<◌, ◌≤◌, Bool, true, false, List, length, get_or, replicate, Ok, Err, Result, sym, refl, ap, ◌∙◌, subst, inl, inr, arith, length-take}
use Rattle.std.proofs.lemmas.List.{length-replicate, get_or-replicate, get_or_past}
use Rattle.std.proofs.lemmas.Bool.{cases_lt}
use Rattle.owned.specs.Runs.{Val, free, holds, run}
use Rattle.owned.specs.FreeList.{FreeList}
use Rattle.owned.proofs.TypingRules.{rows_ok}
use Rattle.owned.proofs.Stops.{machine_runs}
use Rattle.owned.proofs.Safety.{nothing_left}
use Rattle.machine.specs.declared.machine.Halt.{Halt}
use Rattle.machine.specs.declared.machine.Halt.TheVariants.{Full, Spent, Deep}
use Rattle.interpreter.specs.declared.outcome.Ran.{Ran}
use Rattle.machine.specs.Memory.{Control, Memory}
use Rattle.machine.specs.Represents.{Shown}
use Rattle.machine.specs.Steps.{Kept}
use Rattle.linker.specs.Links.{LinkedAll}
use Rattle.machine.specs.Running.{Starts, Came}
use Rattle.interpreter.specs.Going.{CanGo, Went, ended}
use Rattle.machine.proofs.Words.{not_holds}

-- free cells hold nothing
no_content : (n a b : ℕ) (v : Val) {A : Type 0} → get_or (replicate n free) a free ≡ holds b v → A
no_content n a b v e =
    not_holds b v (sym (elim (cases_lt a n) [ inl l ↦ get_or-replicate n a free free l | inr l ↦ get_or_past (replicate n free) a free (omega (arith, length-replicate n free, l)) ]) ∙ e)

module _ {s : List ℕ} {cells depth turns k w : ℕ} (h : CanGo s cells depth w) {c : Control} {m : Memory} where
  pub starting : LinkedAll c.code → c.code.rows ≡ s → c.base ≡ 0 → c.depth ≡ depth → depth < 2 ^ 32 → c.turns ≡ turns → m.store.many ≡ cells → FreeList m.store.links m.store.head (replicate cells free) → cells < 2 ^ 32 → cells ≤ length m.store.contents
      → c.output.count ≡ 0 → c.output.over ≡ false → 40 * (depth + 1) ≤ c.size → turns * suc (length s) + 1 ≤ k → Starts h.prog cells depth turns k c m
  starting l r b d sd t e f sc room n o size steps =
      record {
        fine = rows_ok s h.prog h.rows;
        keeps = h.keeps;
        linked = l h.prog (rw r h.rows);
        base = b;
        depth = d;
        small = sd;
        turns = t;
        heap = record { list = f; many = length-replicate cells free ∙ sym e; fits = rw e sc; room = rw e room; content = λ a x v q. no_content cells a x v q };
        count = n;
        over = o;
        room = size;
        steps = rw h.rows.rows steps;
      }

-- as many steps as the run takes
pub enough_steps : (t n b : ℕ) → b ≡ t → t * suc n + 1 ≤ b * (n + 1) + 1
enough_steps t n b e = let q : t * suc n ≡ b * (n + 1) = (λ i. sym e i * suc n) ∙ ap (λ z. b * z) (omega arith) in omega (arith, q)

-- what the machine says is what the run came to
module _ {s : List ℕ} {cells depth w : ℕ} (turns : ℕ) (h : CanGo s cells depth w) (c c₁ : Control) where
  pub told : (o : Result ℕ Halt) (b : Bool) → Came c₁ (run h.prog cells depth turns) o → Kept c c₁ → c₁.output.over ≡ b → Went s cells depth turns c.output.shown c₁.output.shown (ended o b c₁.output.count c₁.turns)
  told (Ok x) true a q e =
      let sh = subst (λ z. Shown z c₁.output.shown c₁.output.count a.end.shown) e a.shown in
      (refl, (h.prog, a.end, h.rows, h.keeps, a.is, omega (arith, sh.0, q.long)))
  told (Ok x) false a q e =
      let sh = subst (λ z. Shown z c₁.output.shown c₁.output.count a.end.shown) e a.shown in
      (refl, (h.prog, a.end, h.rows, h.keeps, a.is, a.result, omega (arith, length-take c₁.output.count c₁.output.shown, ap length sh.0, sh.1), a.left, nothing_left machine_runs s h.prog cells depth turns a.end h.rows h.keeps a.is, sh.0, q.past))
  told (Err Full) b a q e = (refl, (h.prog, h.rows, h.keeps, a))
  told (Err Spent) b a q e = (refl, (h.prog, h.rows, h.keeps, a))
  told (Err Deep) b a q e = (refl, (h.prog, h.rows, h.keeps, a))

pub went_as : (s : List ℕ) (c d k : ℕ) (b : List ℕ) {o o₁ : List ℕ} {r r₁ : Ran} → o ≡ o₁ → r ≡ r₁ → Went s c d k b o₁ r₁ → Went s c d k b o r
went_as s c d k b {o} {o₁} {r} e f g = subst (λ z. Went s c d k b z r) (sym e) (subst (λ z. Went s c d k b o₁ z) (sym f) g)
