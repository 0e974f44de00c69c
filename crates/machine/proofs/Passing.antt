-- Arguments on their way into the next frame, one after the other.
use Rattle.std.proofs.Common.{◌≡◌, ℕ, zero, suc, ◌+◌, ◌<◌, ◌≤◌, ◌⊎◌, List, [], ◌∷◌, ◌++◌, length, get_or, drop, set, Some, None, Option, sym, refl, ap, ◌∙◌, subst, inl, inr, append_assoc, arith, length-append, length-set}
use Rattle.std.specs.List.{slice_get}
use Rattle.std.proofs.lemmas.List.{get_or-set_same, get_or-set_other, get_or_append_left, get_or-append-add}
use Rattle.std.proofs.lemmas.Bool.{cases_eq}
use Rattle.owned.specs.Program.{Arg, Sig, kind}
use Rattle.owned.specs.Rows.{row_as}
use Rattle.owned.specs.Runs.{Val, nothing, St, Took, took, missing, more, onto}
use Rattle.machine.specs.Memory.{Control, Memory, set_word}
use Rattle.machine.specs.Represents.{Means, Vars, State}
use Rattle.owned.specs.Strict.{lent_at, pass_one, pass}
use Rattle.machine.specs.Operations.{Takes, TookOut}
use Rattle.machine.specs.Calls.{PassesOne, CanPassOne, PassedOne, Passes, CanPass, Passed}
use Rattle.machine.proofs.Words.{word_in, get_value, vars_same}
use Rattle.machine.proofs.Variables.{not_took}
use Rattle.machine.proofs.Evaluating.{drop_past}

-- one that is handed over, and one that is lent
lends : (x l : ℕ) → (l ≡ 0 → ⊥) → (p : Sig) (s : St) (v : Val) (t : St) → pass_one l (kind p x) x s ≡ took v t → (slice_get s.vars x ≡ Some v) × (s ≡ t)
lends x zero ne p s v t e = absurd (ne refl)
lends x (suc l) ne p s v t e = go (slice_get s.vars x) refl e
  where
    go : (o : Option Val) → slice_get s.vars x ≡ o → lent_at s o ≡ took v t → (slice_get s.vars x ≡ Some v) × (s ≡ t)
    go None i f = not_took v t f
    go (Some u) i f = let q : u ≡ v = cc in (i ∙ ap Some q, cc)

module _ {c : Control} {m : Memory} {x l : ℕ} where
  takes : l ≡ 0 → {p : Sig} {s : St} {v : Val} {t : St} → PassesOne c m x l p s v t → Takes c m x p s v t
  takes z g = record { state = g.state; takes = rw z at g.passes }

  pub one_took : {c₁ : Control} {m₁ : Memory} {w : ℕ} → l ≡ 0 → TookOut c m x c₁ m₁ w → PassedOne c m x l c₁ m₁ w
  one_took z k = record { here = k.here; long = k.long; beyond = k.beyond; state = λ p s v t g. k.state p s v t (takes z g) }

  pub one_lent : {w : ℕ} → (l ≡ 0 → ⊥) → w ≡ get_or m.frames (c.base + x) 0 → PassedOne c m x l c m w
  one_lent {w} ne ew = record {
    here = refl;
    long = refl;
    beyond = λ i h. refl;
    state = λ p s v t g. (
        let e = lends x l ne p s v t g.passes in
        (subst (State c m p) e.1 g.state, rw ew (get_value g.state x v e.0).1));
  }

-- the first argument, and the others
pub record Splits (c : Control) (m : Memory) (i : ℕ) (p : Sig) (s : St) (bs : List Arg) (vs : List Val) (t : St) : Type 0 where
  pub others : List Arg
  pub v : Val
  pub us : List Val
  pub mid : St
  pub room : i + 1 < length c.code.rows
  pub one : PassesOne c m (get_or c.code.rows i 0) (get_or c.code.rows (i + 1) 0) p s v mid
  pub is : vs ≡ v ∷ us
  pub args : (rest : List ℕ) × (drop (i + 2) c.code.rows ≡ row_as others ++ rest)
  pub many : length bs ≡ suc (length others)
  pub passes : pass p others mid ≡ took us t

splits : (c : Control) (m : Memory) (i : ℕ) (p : Sig) (s : St) (bs : List Arg) (vs : List Val) (t : St) → 0 < length bs → State c m p s → (rest : List ℕ) → drop i c.code.rows ≡ row_as bs ++ rest → pass p bs s ≡ took vs t → Splits c m i p s bs vs t
splits c m i p s [] vs t l st rest w g = absurd (omega arith)
splits c m i p s (a ∷ bs) vs t l st rest w g = first (pass_one a.lent (kind p a.of) a.of s) refl g
  where
    all : (v : Val) (u : St) → pass_one a.lent (kind p a.of) a.of s ≡ took v u → (o : Took (List Val)) → pass p bs u ≡ o → more v o ≡ took vs t → Splits c m i p s (a ∷ bs) vs t
    all v u e missing q f = not_took vs t f
    all v u e (took us t₁) q f =
        let y : t₁ ≡ t = cc in
        let w₀ = word_in i c.code.rows _ 0 w (omega arith) in
        let w₁ = word_in i c.code.rows _ 1 w (omega arith) in
        let z : i + 0 ≡ i = omega arith in
        let e₀ : get_or c.code.rows i 0 ≡ a.of = rw z at w₀.1 in
        record { others = bs; v = v; us = us; mid = u; room = w₁.0; one = record { state = st; passes = rw (e₀, w₁.1) e }; is = cc; args = (rest, drop_past i c.code.rows (a.of ∷ a.lent ∷ []) _ w); many = refl; passes = rw y at q }

    first : (o : Took Val) → pass_one a.lent (kind p a.of) a.of s ≡ o → onto o (λ v u. more v (pass p bs u)) ≡ took vs t → Splits c m i p s (a ∷ bs) vs t
    first missing e f = not_took vs t f
    first (took v u) e f = all v u e (pass p bs u) refl f

-- the state is the same where only words past the variables are written
beyond_state : {c : Control} {m : Memory} {p : Sig} {s : St} (i w : ℕ) → State c m p s → State c (set_word m (c.base + 40 + i) w) p s
beyond_state {c} {m} {p} {s} i w r =
    record { kinds = r.kinds; few = r.few; vars = vars_same s.vars m.frames _ c.base (omega (arith, r.vars.room, length-set m.frames (c.base + 40 + i) w)) (λ x l. get_or-set_other m.frames (c.base + 40 + i) (c.base + x) w 0 (λ q. omega (arith, q, l, r.long, r.few))) r.vars; long = r.long; cells = r.cells; shown = r.shown; turns = r.turns }

-- one more value in words that follow one another
vars_more : (vs : List Val) (v : Val) (ws : List ℕ) (b w : ℕ) → Vars vs ws b → Means v w → b + length vs < length ws → Vars (vs ++ (v ∷ [])) (set ws (b + length vs) w) b
vars_more vs v ws b w r me l = record { room = omega (arith, length-append vs (v ∷ []), length-set ws (b + length vs) w); each = λ x h. at_place x (omega (arith, h, length-append vs (v ∷ []))) (cases_eq x (length vs)) }
  where
    at_place : (x : ℕ) → x < length vs + 1 → (x ≡ length vs) ⊎ (x ≡ length vs → ⊥) → Means (get_or (vs ++ (v ∷ [])) x nothing) (get_or (set ws (b + length vs) w) (b + x) 0)
    at_place x h (inl e) =
        let q : get_or (vs ++ (v ∷ [])) (length vs) nothing ≡ v = ap (λ i. get_or (vs ++ (v ∷ [])) i nothing) (omega arith) ∙ get_or-append-add vs (v ∷ []) 0 nothing in
        rw (e, q, get_or-set_same ws (b + length vs) w 0 l) me
    at_place x h (inr ne) =
        let k : x < length vs = omega arith in
        rw (get_or_append_left vs (v ∷ []) nothing x k, get_or-set_other ws (b + length vs) (b + x) w 0 (λ q. ne (omega (arith, q)))) (r.each x k)

-- how far the arguments have come
pub record Rest (c : Control) (m₁ : Memory) (i j k : ℕ) (p : Sig) (vs : List Val) (t : St) : Type 0 where
  pub mid : St
  pub others : List Arg
  pub done : List Val
  pub us : List Val
  pub state : State c m₁ p mid
  pub args : (rest : List ℕ) × (drop i c.code.rows ≡ row_as others ++ rest)
  pub many : j + length others ≡ k
  pub passes : pass p others mid ≡ took us t
  pub whole : vs ≡ done ++ us
  pub count : length done ≡ j
  pub words : Vars done m₁.frames (c.base + 40)

pub record PassSofar (c : Control) (m : Memory) (i k : ℕ) (c₁ : Control) (m₁ : Memory) (i₁ j : ℕ) : Type 0 where
  pub here : c₁ ≡ c
  pub long : length m₁.frames ≡ length m.frames
  pub rest : (p : Sig) (s : St) (bs : List Arg) (vs : List Val) (t : St) → Passes c m i k p s bs vs t → Rest c m₁ i₁ j k p vs t

pub pass_start : {c : Control} {m : Memory} {i i₁ k : ℕ} → i₁ ≡ i → c.base + 40 ≤ length m.frames → PassSofar c m i k c m i₁ 0
pass_start e l = rw e (record { here = refl; long = refl; rest = λ p s bs vs t g. record { mid = s; others = bs; done = []; us = vs; state = g.state; args = g.args; many = omega (arith, g.many); passes = g.passes; whole = refl; count = refl; words = record { room = omega arith; each = λ x h. absurd (omega arith) } } })

module _ {c : Control} {m : Memory} {i k : ℕ} {c₁ : Control} {m₁ : Memory} {i₁ j : ℕ} (h : PassSofar c m i k c₁ m₁ i₁ j) where
  pub pass_end : k ≤ j → Passed c m i k c₁ m₁
  pass_end l = record { here = h.here; long = h.long; state = λ p s bs vs t g. (let r = h.rest p s bs vs t g in ended p vs t r r.others r.passes (omega (arith, r.many))) }
    where
      nil : (xs : List Val) → xs ++ [] ≡ xs
      nil [] = refl
      nil (x ∷ xs) = ap (λ z. x ∷ z) (nil xs)

      ended : (p : Sig) (vs : List Val) (t : St) (r : Rest c m₁ i₁ j k p vs t) (bs : List Arg) → pass p bs r.mid ≡ took r.us t → length bs ≡ 0 → State c m₁ p t × Vars vs m₁.frames (c.base + 40)
      ended p vs t r [] e l =
          let a : r.mid ≡ t = cc in let b : r.us ≡ [] = cc in
          let w : vs ≡ r.done = r.whole ∙ ap (λ z. r.done ++ z) b ∙ nil r.done in
          (subst (State c m₁ p) a r.state, rw w r.words)
      ended p vs t r (b ∷ bs) e l = absurd (omega arith)

  module _ (l : j < k) where
    split : (p : Sig) (vs : List Val) (t : St) (r : Rest c m₁ i₁ j k p vs t) → Splits c m₁ i₁ p r.mid r.others r.us t
    split p vs t r = splits c m₁ i₁ p r.mid r.others r.us t (omega (arith, r.many)) r.state r.args.0 r.args.1 r.passes

    the_rest : (n : CanPass c m i k) → Rest c m₁ i₁ j k n.sig n.vals n.after
    the_rest n = h.rest n.sig n.before n.args n.vals n.after n.passes

    pub pass_room : CanPass c m i k → i₁ + 1 < length c₁.code.rows
    pass_room n = rw h.here (split _ _ _ (the_rest n)).room

    pub pass_can : CanPass c m i k → CanPassOne c₁ m₁ (get_or c₁.code.rows i₁ 0) (get_or c₁.code.rows (i₁ + 1) 0)
    pass_can n = let t = split _ _ _ (the_rest n) in rw h.here (n.sig, (the_rest n).mid, t.v, t.mid, t.one)

    module _ {c₂ : Control} {m₂ : Memory} {w : ℕ} (one : PassedOne c₁ m₁ (get_or c₁.code.rows i₁ 0) (get_or c₁.code.rows (i₁ + 1) 0) c₂ m₂ w) where
      pub pass_more : {c₃ : Control} {m₃ : Memory} → c₃ ≡ c₂ → m₃ ≡ set_word m₂ (c₂.base + 40 + j) w → CanPass c m i k → {i₂ : ℕ} → i₂ ≡ i₁ + 2 → PassSofar c m i k c₃ m₃ i₂ (j + 1)
      pass_more {c₃} {m₃} e₃ f₃ n {i₂} ei =
          let ec : c₂ ≡ c = one.here ∙ h.here in
          let o : PassedOne c m₁ (get_or c.code.rows i₁ 0) (get_or c.code.rows (i₁ + 1) 0) c₂ m₂ w = subst (λ (z : Control). PassedOne z m₁ (get_or z.code.rows i₁ 0) (get_or z.code.rows (i₁ + 1) 0) c₂ m₂ w) h.here one in
          let em : m₃ ≡ set_word m₂ (c.base + 40 + j) w = f₃ ∙ ap (λ (z : Control). set_word m₂ (z.base + 40 + j) w) ec in
          record {
            here = e₃ ∙ ec;
            long = ap (λ (z : Memory). length z.frames) em ∙ length-set m₂.frames (c.base + 40 + j) w ∙ o.long ∙ h.long;
            rest = λ p s bs vs t g. (
                let r = h.rest p s bs vs t g in
                let q = split p vs t r in
                let u = o.state p r.mid q.v q.mid q.one in
                let wd : Vars r.done m₂.frames (c.base + 40) = vars_same r.done m₁.frames m₂.frames (c.base + 40) (omega (arith, r.words.room, o.long)) (λ x lx. beyond m₁.frames m₂.frames c.base o.beyond x) r.words in
                let wm : Vars (r.done ++ (q.v ∷ [])) (set m₂.frames (c.base + 40 + length r.done) w) (c.base + 40) = vars_more r.done q.v m₂.frames (c.base + 40) w wd u.1 (omega (arith, r.count, n.room, o.long, h.long)) in
                record {
                  mid = q.mid;
                  others = q.others;
                  done = r.done ++ (q.v ∷ []);
                  us = q.us;
                  state = rw em (beyond_state j w u.0);
                  args = rw ei q.args;
                  many = omega (arith, r.many, q.many);
                  passes = q.passes;
                  whole = r.whole ∙ ap (λ z. r.done ++ z) q.is ∙ sym (append_assoc r.done (q.v ∷ []) q.us);
                  count = length-append r.done (q.v ∷ []) ∙ omega (arith, r.count);
                  words = rw em (subst (λ z. Vars (r.done ++ (q.v ∷ [])) (set m₂.frames (c.base + 40 + z) w) (c.base + 40)) r.count wm);
                });
          }
        where
          beyond : (F G : List ℕ) (b : ℕ) → ((i : ℕ) → 40 ≤ i → get_or G (b + i) 0 ≡ get_or F (b + i) 0) → (x : ℕ) → get_or G (b + 40 + x) 0 ≡ get_or F (b + 40 + x) 0
          beyond F G b f x = let e : b + 40 + x ≡ b + (40 + x) = omega arith in rw e (f (40 + x) (omega arith))
