-- A step: what the statement's head says is done, and the machine goes on after it.
use Rattle.std.proofs.Common.{◌≡◌, ℕ, ◌+◌, Bool, true, false, cond, ltb, List, [], ◌∷◌, length, get_or, Some, Ok, Err, Result, sym, refl, ap, ◌∙◌, subst, arith, length-set, drop-set-lt}
use Rattle.owned.specs.Program.{E, Arg, S, Sig, Prog}
use Rattle.owned.specs.Runs.{first_free, St, full}
use Rattle.owned.specs.Machine.{Frame, going, stopped, and_m}
use Rattle.owned.specs.Decode.{head_by, between}
use Rattle.owned.specs.declared.names.Var.{Var}
use Rattle.owned.specs.declared.decode.Transfer.{Transfer}
use Rattle.owned.specs.declared.decode.Transfer.TheVariants.{Box, Unbox, Look, Fill, Move}
use Rattle.owned.specs.declared.decode.Statement.{Statement}
use Rattle.owned.specs.declared.decode.Statement.TheVariants.{Skip, Then, Set, Between, Drop, If, While, Call, Show}
use Rattle.machine.specs.declared.machine.Halt.{Halt}
use Rattle.machine.specs.declared.machine.Halt.TheVariants.{Full, Spent, Deep}
use Rattle.machine.specs.Memory.{Numbers, Control, Memory, go_to, with_output, shows, showing, too_many}
use Rattle.machine.specs.Represents.{single, State, Represents}
use Rattle.owned.specs.Strict.{perform, strict_s}
use Rattle.machine.specs.Operations.{Does, Ended, CanDo, Did, CanDoAt, DidAt, Showed, Transferred, ExprAt}
use Rattle.machine.specs.Steps.{Going, After, Ready, CanStep, Stepped, Kept, any_s, if_s, while_s, call_s}
use Rattle.machine.proofs.Evaluating.{drop_past}
use Rattle.machine.proofs.Branching.{standing, past, moved}
use Rattle.machine.proofs.Heads.{fits_head}

abbrev Says : Control → Statement → Type 0
Says c hd = head_by (get_or c.code.rows c.pos 0) (get_or c.code.rows (c.pos + 1) 0) (get_or c.code.rows (c.pos + 2) 0) (get_or c.code.rows (c.pos + 3) 0) ≡ Some hd

-- what holds of every statement that can come next
abbrev All : Control → Memory → (S → Type 0) → Type 0
All c m P = (g : Prog) (d : ℕ) (p : Sig) (a : S) (ss : List S) (s : St) (fs : List Frame) → Ready g c m d p a ss s fs → P a

-- the same statement, as its head has it
as_is : {g : Prog} {c : Control} {m : Memory} {d : ℕ} {p : Sig} {a b : S} {ss : List S} {s : St} {fs : List Frame} → a ≡ b → Ready g c m d p a ss s fs → Ready g c m d p b ss s fs
as_is {g} {c} {m} {d} {p} {a} {b} {ss} {s} {fs} e h = subst (λ (z : S). Ready g c m d p z ss s fs) e h

-- statements by their parts: all that can come next are of this form
module _ {A : Type 0} (b : A → S) {c : Control} {m : Memory} (parts : All c m (λ a. (v : A) × (a ≡ b v))) where
  pub as_parts : CanStep S any_s c m → CanStep A b c m
  as_parts h = let q = parts h.prog h.depth h.sig h.parts h.rest h.state h.callers h.ready in record { prog = h.prog; depth = h.depth; sig = h.sig; parts = q.0; rest = h.rest; state = h.state; callers = h.callers; ready = as_is q.1 h.ready; here = h.here; room = h.room }

  pub stepped_by : (c₁ : Control) (m₁ : Memory) (r : Result (Unit {0}) Halt) → Stepped A b c m c₁ m₁ r → Stepped S any_s c m c₁ m₁ r
  stepped_by c₁ m₁ r k g d p a ss s fs h = let q = parts g d p a ss s fs h in subst (λ z. After g c₁ m₁ (strict_s first_free g d p z ss s fs) r) (sym q.1) (k g d p q.0 ss s fs (as_is q.1 h))

module _ {c : Control} {m : Memory} where
  if_parts : Says c If → All c m (λ a. (v : E × S × S) × (a ≡ if_s v))
  if_parts e g d p a ss s fs h = fits_head h e

  while_parts : Says c While → All c m (λ a. (v : E × S) × (a ≡ while_s v))
  while_parts e g d p a ss s fs h = fits_head h e

  call_parts : (x : Var) (f k : ℕ) → Says c (Call x f k) → All c m (λ a. (v : List Arg) × (a ≡ call_s x.0 f v))
  call_parts x f k e g d p a ss s fs h = let q = fits_head h e in (q.0, q.1)

  pub if_can : Says c If → CanStep S any_s c m → CanStep (E × S × S) if_s c m
  if_can e = as_parts if_s (if_parts e)

  pub if_done : (c₁ : Control) (m₁ : Memory) (r : Result (Unit {0}) Halt) → Says c If → Stepped (E × S × S) if_s c m c₁ m₁ r → Stepped S any_s c m c₁ m₁ r
  if_done c₁ m₁ r e = stepped_by if_s (if_parts e) c₁ m₁ r

  pub while_can : Says c While → CanStep S any_s c m → CanStep (E × S) while_s c m
  while_can e = as_parts while_s (while_parts e)

  pub while_done : (c₁ : Control) (m₁ : Memory) (r : Result (Unit {0}) Halt) → Says c While → Stepped (E × S) while_s c m c₁ m₁ r → Stepped S any_s c m c₁ m₁ r
  while_done c₁ m₁ r e = stepped_by while_s (while_parts e) c₁ m₁ r

  pub call_can : (x : Var) (f k : ℕ) → Says c (Call x f k) → CanStep S any_s c m → CanStep (List Arg) (call_s x.0 f) c m
  call_can x f k e = as_parts (call_s x.0 f) (call_parts x f k e)

  pub call_done : (x : Var) (f k : ℕ) (c₁ : Control) (m₁ : Memory) (r : Result (Unit {0}) Halt) → Says c (Call x f k) → Stepped (List Arg) (call_s x.0 f) c m c₁ m₁ r → Stepped S any_s c m c₁ m₁ r
  call_done x f k c₁ m₁ r e = stepped_by (call_s x.0 f) (call_parts x f k e) c₁ m₁ r

-- statements that are done at once
abbrev AtOnce : S → Type 0
AtOnce b = (g : Prog) (d : ℕ) (p : Sig) (ss : List S) (s : St) (fs : List Frame) → strict_s first_free g d p b ss s fs ≡ and_m (perform first_free p b s) (λ t. going d p ss t fs)

between_once : (o : Transfer) (x y : ℕ) → AtOnce (between o x y)
between_once Box x y g d p ss s fs = refl
between_once Unbox x y g d p ss s fs = refl
between_once Look x y g d p ss s fs = refl
between_once Fill x y g d p ss s fs = refl
between_once Move x y g d p ss s fs = refl

module _ {g : Prog} {c : Control} {m : Memory} {d : ℕ} {p : Sig} {b : S} {ss : List S} {s : St} {fs : List Frame} (once : AtOnce b) (h : Ready g c m d p b ss s fs) where
  does : Does c m b p s (perform first_free p b s)
  does = record { state = h.rep.state; does = refl; well = λ f e. h.well f (once g d p ss s fs ∙ ap (λ r. and_m r (λ t. going d p ss t fs)) e) }

  went : {c₁ c₂ : Control} {m₁ m₂ : Memory} → c₁ ≡ c → Ended c m₁ p (perform first_free p b s) → c₂ ≡ go_to c₁ (get_or c₁.code.follow c₁.pos 0) → m₂ ≡ m₁ → Going g c₂ m₂ (strict_s first_free g d p b ss s fs)
  went e n e₂ f = record { d = d; p = p; todo = ss; s = n.end; fs = fs; is = once g d p ss s fs ∙ ap (λ r. and_m r (λ t. going d p ss t fs)) n.is; rep = past h e n.state e₂ f }

module _ (b : S) (once : AtOnce b) {c : Control} {m : Memory} (is : All c m (λ a. a ≡ b)) where
  once_can : CanStep S any_s c m → CanDo c m b
  once_can h = (h.sig, h.state, perform first_free h.sig b h.state, does once (as_is (is h.prog h.depth h.sig h.parts h.rest h.state h.callers h.ready) h.ready))

  once_done : {c₁ c₂ : Control} {m₁ m₂ : Memory} → Did c m b c₁ m₁ → c₂ ≡ go_to c₁ (get_or c₁.code.follow c₁.pos 0) → m₂ ≡ m₁ → Stepped S any_s c m c₂ m₂ (Ok tt)
  once_done {c₁} {c₂} {m₁} {m₂} k e₂ f g d p a ss s fs h =
      let i = as_is (is g d p a ss s fs h) h in
      subst (λ z. Going g c₂ m₂ (strict_s first_free g d p z ss s fs)) (sym (is g d p a ss s fs h)) (went once i k.here (k.state p s (perform first_free p b s) (does once i)) e₂ f)

  once_err : (c₁ : Control) (m₁ : Memory) (f : Halt) → Transferred c m b c₁ m₁ (Err f) → Stepped S any_s c m c₁ m₁ (Err f)
  once_err c₁ m₁ Full k g d p a ss s fs h =
      let i = as_is (is g d p a ss s fs h) h in
      subst (λ z. strict_s first_free g d p z ss s fs ≡ stopped full) (sym (is g d p a ss s fs h)) (once g d p ss s fs ∙ ap (λ r. and_m r (λ t. going d p ss t fs)) (k p s (perform first_free p b s) (does once i)))
  once_err c₁ m₁ Spent k g d p a ss s fs h = absurd k
  once_err c₁ m₁ Deep k g d p a ss s fs h = absurd k

module _ {c : Control} {m : Memory} where
  pub transfer_can : (o : Transfer) (x y : Var) → Says c (Between o x y) → CanStep S any_s c m → CanDo c m (between o x.0 y.0)
  transfer_can o x y e = once_can (between o x.0 y.0) (between_once o x.0 y.0) (λ g d p a ss s fs h. fits_head h e)

  pub transfer_done : (o : Transfer) (x y : Var) {c₁ c₂ : Control} {m₁ m₂ : Memory} → Says c (Between o x y) → Did c m (between o x.0 y.0) c₁ m₁ → c₂ ≡ go_to c₁ (get_or c₁.code.follow c₁.pos 0) → m₂ ≡ m₁ → Stepped S any_s c m c₂ m₂ (Ok tt)
  transfer_done o x y e = once_done (between o x.0 y.0) (between_once o x.0 y.0) (λ g d p a ss s fs h. fits_head h e)

  pub transfer_err : (o : Transfer) (x y : Var) (c₁ : Control) (m₁ : Memory) (f : Halt) → Says c (Between o x y) → Transferred c m (between o x.0 y.0) c₁ m₁ (Err f) → Stepped S any_s c m c₁ m₁ (Err f)
  transfer_err o x y c₁ m₁ f e = once_err (between o x.0 y.0) (between_once o x.0 y.0) (λ g d p a ss s fs h. fits_head h e) c₁ m₁ f

  pub drop_can : (x : Var) → Says c (Drop x) → CanStep S any_s c m → CanDo c m (S.drop x.0)
  drop_can x e = once_can (S.drop x.0) (λ g d p ss s fs. refl) (λ g d p a ss s fs h. fits_head h e)

  pub drop_done : (x : Var) {c₁ c₂ : Control} {m₁ m₂ : Memory} → Says c (Drop x) → Did c m (S.drop x.0) c₁ m₁ → c₂ ≡ go_to c₁ (get_or c₁.code.follow c₁.pos 0) → m₂ ≡ m₁ → Stepped S any_s c m c₂ m₂ (Ok tt)
  drop_done x e = once_done (S.drop x.0) (λ g d p ss s fs. refl) (λ g d p a ss s fs h. fits_head h e)

  pub skip_done : {c₁ : Control} {m₁ : Memory} → Says c Skip → c₁ ≡ go_to c (get_or c.code.follow c.pos 0) → m₁ ≡ m → Stepped S any_s c m c₁ m₁ (Ok tt)
  skip_done {c₁} {m₁} e e₁ f g d p a ss s fs h =
      let q : a ≡ S.skip = fits_head h e in
      subst (λ z. Going g c₁ m₁ (strict_s first_free g d p z ss s fs)) (sym q) (record { d = d; p = p; todo = ss; s = s; fs = fs; is = refl; rep = past h refl h.rep.state e₁ f })

  -- no pair is pending
  pub no_pair : (c₁ : Control) (m₁ : Memory) (r : Result (Unit {0}) Halt) → Says c Then → Stepped S any_s c m c₁ m₁ r
  no_pair c₁ m₁ r e g d p a ss s fs h = let q = fits_head h e in let z : true ≡ false = sym h.rep.singles.0 ∙ ap single q.2 in let y : ◌≡◌ {A = ℕ} 0 1 = cc in absurd (omega arith)

  -- with an expression
  set_words : {g : Prog} {d : ℕ} {p : Sig} {x : ℕ} {e : E} {ss : List S} {s : St} {fs : List Frame} → Ready g c m d p (S.set x e) ss s fs → ExprAt c.code e (c.pos + 2)
  set_words {x = x} h = record { words = ((standing h).words.0, drop_past c.pos c.code.rows (2 ∷ x ∷ []) _ (standing h).words.1); table = (standing h).expr }

  pub set_can : (x : Var) → Says c (Set x) → CanStep S any_s c m → CanDoAt c m (S.set x.0) (c.pos + 2)
  set_can x e h =
      let q = fits_head h.ready e in
      let i = as_is q.1 h.ready in
      (h.sig, h.state, perform first_free h.sig (S.set x.0 q.0) h.state, q.0, does (λ g d p ss s fs. refl) i, set_words i)

  pub set_done : (x : Var) {c₁ c₂ : Control} {m₁ m₂ : Memory} → Says c (Set x) → DidAt c m (S.set x.0) (c.pos + 2) c₁ m₁ → c₂ ≡ go_to c₁ (get_or c₁.code.follow c₁.pos 0) → m₂ ≡ m₁ → Stepped S any_s c m c₂ m₂ (Ok tt)
  set_done x {c₁} {c₂} {m₁} {m₂} e k e₂ f g d p a ss s fs h =
      let q = fits_head h e in
      let i = as_is q.1 h in
      subst (λ z. Going g c₂ m₂ (strict_s first_free g d p z ss s fs)) (sym q.1) (went (λ g d p ss s fs. refl) i k.here (k.state p s (perform first_free p (S.set x.0 q.0) s) q.0 (does (λ g d p ss s fs. refl) i) (set_words i)) e₂ f)

  show_words : {g : Prog} {d : ℕ} {p : Sig} {e : E} {ss : List S} {s : St} {fs : List Frame} → Ready g c m d p (S.show e) ss s fs → ExprAt c.code e (c.pos + 1)
  show_words h = record { words = ((standing h).words.0, drop_past c.pos c.code.rows (12 ∷ []) _ (standing h).words.1); table = (standing h).expr }

  pub show_can : Says c Show → CanStep S any_s c m → CanDoAt c m S.show (c.pos + 1)
  show_can e h =
      let q = fits_head h.ready e in
      let i = as_is q.1 h.ready in
      (h.sig, h.state, perform first_free h.sig (S.show q.0) h.state, q.0, does (λ g d p ss s fs. refl) i, show_words i)

  -- past a number that was shown
  show_past : {g : Prog} {d : ℕ} {p : Sig} {b : S} {ss : List S} {s : St} {fs : List Frame} {c₁ c₂ : Control} {m₁ m₂ : Memory} {t : St} (o : Numbers) → Ready g c m d p b ss s fs → c₁ ≡ with_output c o → State c₁ m₁ p t → c₂ ≡ go_to c₁ (get_or c₁.code.follow c₁.pos 0) → m₂ ≡ m₁ → Represents g c₂ m₂ d p ss t fs
  show_past {g} {d} {p} {b} {ss} {s} {fs} {c₁} {c₂} {m₁} {m₂} {t} o h e r e₂ f =
      let x = h.rep.context in
      let y : State (with_output c o) m₁ p t = rw e at r in
      let i : c₂ ≡ go_to (with_output c o) h.rep.pends.0 = e₂ ∙ ap (λ (z : Control). go_to z (get_or z.code.follow z.pos 0)) e ∙ ap (λ j. go_to (with_output c o) j) (standing h).next in
      rw (i, f) (record { state = moved h.rep.pends.0 y; pends = h.rep.pends.2; singles = h.rep.singles.1; row = h.rep.row; context = record { procs = x.procs; few = x.few; args = x.args; frames = x.frames; depth = x.depth; room = x.room; below = x.below; total = x.total } })

  pub show_done : {c₁ c₂ : Control} {m₁ m₂ : Memory} → Says c Show → Showed c m (c.pos + 1) c₁ m₁ → c₂ ≡ go_to c₁ (get_or c₁.code.follow c₁.pos 0) → m₂ ≡ m₁ → Stepped S any_s c m c₂ m₂ (Ok tt)
  show_done {c₁} {c₂} {m₁} {m₂} e k e₂ f g d p a ss s fs h =
      let q = fits_head h e in
      let i = as_is q.1 h in
      let n = k.state p s (perform first_free p (S.show q.0) s) q.0 (does (λ g d p ss s fs. refl) i) (show_words i) in
      subst (λ z. Going g c₂ m₂ (strict_s first_free g d p z ss s fs)) (sym q.1) (record { d = d; p = p; todo = ss; s = n.end; fs = fs; is = ap (λ r. and_m r (λ t. going d p ss t fs)) n.is; rep = show_past (shows c.output k.word) i k.here n.state e₂ f })

shown_kept : (c : Control) (w : ℕ) (b : Bool) → ltb c.output.count (length c.output.shown) ≡ b → Kept c (with_output c (cond b (showing c.output w) (too_many c.output)))
shown_kept c w true e = let o = c.output in record { out = refl; long = length-set o.shown o.count w; more = omega arith; past = drop-set-lt (o.count + 1) o.shown o.count w (omega arith) }
shown_kept c w false e = record { out = refl; long = refl; more = omega arith; past = refl }

module _ {c c₁ : Control} (w : ℕ) (e : c₁ ≡ with_output c (shows c.output w)) where
  pub show_kept : {c₂ : Control} → c₂ ≡ go_to c₁ (get_or c₁.code.follow c₁.pos 0) → Kept c c₂
  show_kept {c₂} f =
      let k : Kept c c₁ = rw e (shown_kept c w (ltb c.output.count (length c.output.shown)) refl) in
      rw f (record { out = k.out; long = k.long; more = k.more; past = k.past })
