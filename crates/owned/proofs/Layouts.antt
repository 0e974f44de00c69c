-- Where the parts of a procedure stand in the rows, from the place where it begins.
-- Each part is at the front of what is left, so one part after the other is cut off.
use Rattle.std.proofs.Common.{◌≡◌, ℕ, zero, suc, ◌+◌, ◌-◌, ◌<◌, ◌≤◌, List, [], ◌∷◌, ◌++◌, length, get_or, take, drop, Some, None, sym, refl, ap, ◌∙◌, arith}
use Rattle.std.specs.List.{slice_get}
use Rattle.std.proofs.lemmas.List.{drop-drop}
use Rattle.owned.specs.Program.{Proc, Prog, Sig}
use Rattle.owned.specs.Rows.{row_s, row_p}
use Rattle.owned.specs.Ends.{SignatureIn, Placed}
use Rattle.owned.specs.Views.{SeenAt, Found}

-- the word at a place where the rest begins with it
pub word_at : (i : ℕ) (ws : List ℕ) (x : ℕ) (us : List ℕ) → drop i ws ≡ x ∷ us → (i < length ws) × (get_or ws i 0 ≡ x) × (drop (i + 1) ws ≡ us)
word_at zero [] x us h = let z : ◌≡◌ {A = ℕ} 0 1 = cc h in absurd (omega arith)
word_at zero (w ∷ ws) x us h = (omega arith, cc h, cc h)
word_at (suc i) [] x us h = let z : ◌≡◌ {A = ℕ} 0 1 = cc h in absurd (omega arith)
word_at (suc i) (w ∷ ws) x us h =
    let t = word_at i ws x us h in
    let e : suc i + 1 ≡ suc (i + 1) = omega arith in
    (omega (arith, t.0), t.1, rw e t.2)

front : (ws xs us : List ℕ) → ws ≡ xs ++ us → (take (length xs) ws ≡ xs) × (drop (length xs) ws ≡ us)
front ws [] us h = (refl, h)
front [] (x ∷ xs) us h = let z : ◌≡◌ {A = ℕ} 0 1 = cc h in absurd (omega arith)
front (w ∷ ws) (x ∷ xs) us h = let a : w ≡ x = cc h in let b : ws ≡ xs ++ us = cc h in let t = front ws xs us b in ((λ z. a z ∷ t.0 z), t.1)

-- procedures by the table
pub placed_at : (ws ts : List ℕ) (g : Prog) (f : ℕ) → Placed ws ts g → f < length ts → (q : Proc) × (slice_get g f ≡ Some q) × ((rest : List ℕ) × (drop (get_or ts f 0) ws ≡ row_p q rest))
placed_at ws [] [] f h l = absurd (omega arith)
placed_at ws [] (p ∷ ps) f h l = absurd h
placed_at ws (t ∷ ts) [] f h l = absurd h
placed_at ws (t ∷ ts) (p ∷ ps) zero h l = (p, refl, h.0)
placed_at ws (t ∷ ts) (p ∷ ps) (suc f) h l = placed_at ws ts ps f h.1 (omega arith)

pub placed_past : (ws ts : List ℕ) (g : Prog) (f : ℕ) → Placed ws ts g → length ts ≤ f → slice_get g f ≡ None
placed_past ws [] [] f h l = refl
placed_past ws [] (p ∷ ps) f h l = absurd h
placed_past ws (t ∷ ts) [] f h l = absurd h
placed_past ws (t ∷ ts) (p ∷ ps) zero h l = absurd (omega arith)
placed_past ws (t ∷ ts) (p ∷ ps) (suc f) h l = placed_past ws ts ps f h.1 (omega arith)

pub placed_length : (ws ts : List ℕ) (g : Prog) → Placed ws ts g → length g ≡ length ts
placed_length ws [] [] h = refl
placed_length ws [] (p ∷ ps) h = absurd h
placed_length ws (t ∷ ts) [] h = absurd h
placed_length ws (t ∷ ts) (p ∷ ps) h = ap suc (placed_length ws ts ps h.1)

-- the parts of a procedure that begins at t
record Layout (ws : List ℕ) (t : ℕ) (q : Proc) (rest : List ℕ) : Type 0 where
  pub many : get_or ws t 0 ≡ length q.sig.kinds
  pub kinds : take (length q.sig.kinds) (drop (t + 1) ws) ≡ q.sig.kinds
  pub next : t + 1 + length q.sig.kinds < length ws
  pub few : get_or ws (t + 1 + length q.sig.kinds) 0 ≡ length q.sig.args
  pub args : take (length q.sig.args) (drop (t + 1 + length q.sig.kinds + 1) ws) ≡ q.sig.args
  pub last : t + 1 + length q.sig.kinds + 1 + length q.sig.args < length ws
  pub result : get_or ws (t + 1 + length q.sig.kinds + 1 + length q.sig.args) 0 ≡ q.sig.result
  pub body : drop (t + 1 + length q.sig.kinds + 1 + length q.sig.args + 1) ws ≡ row_s q.body ++ rest

layout : (ws : List ℕ) (t : ℕ) (q : Proc) (rest : List ℕ) → drop t ws ≡ row_p q rest → Layout ws t q rest
layout ws t q rest h =
    let n : ℕ = length q.sig.kinds in
    let m : ℕ = length q.sig.args in
    let a = word_at t ws _ _ h in
    let b = front (drop (t + 1) ws) q.sig.kinds _ a.2 in
    let c = word_at (t + 1 + n) ws _ _ (sym (drop-drop n (t + 1) ws) ∙ b.1) in
    let d = front (drop (t + 1 + n + 1) ws) q.sig.args _ c.2 in
    let e = word_at (t + 1 + n + 1 + m) ws _ _ (sym (drop-drop m (t + 1 + n + 1) ws) ∙ d.1) in
    record { many = a.1; kinds = b.0; next = c.0; few = c.1; args = d.0; last = e.0; result = e.1; body = e.2 }

module _ (ws : List ℕ) (t k a : ℕ) (ek : k ≡ get_or ws t 0) (ea : a ≡ get_or ws (t + 1 + k) 0) where
  lay : (q : Proc) (rest : List ℕ) → drop t ws ≡ row_p q rest → Layout ws t q rest × (k ≡ length q.sig.kinds) × (a ≡ length q.sig.args)
  lay q rest h =
      let y = layout ws t q rest h in
      let e : k ≡ length q.sig.kinds = ek ∙ y.many in
      (y, e, ea ∙ ap (λ z. get_or ws (t + 1 + z) 0) e ∙ y.few)

  -- what is cut out of the rows there is the procedure
  pub seen_at : (p : Sig) (body : ℕ) → p.kinds ≡ take (t + 1 + k - (t + 1)) (drop (t + 1) ws) → p.args ≡ take (t + 1 + k + 1 + a - (t + 1 + k + 1)) (drop (t + 1 + k + 1) ws) → p.result ≡ get_or ws (t + 1 + k + 1 + a) 0 → body ≡ t + 1 + k + 1 + a + 1 → SeenAt ws t p body
  seen_at p body e3 e4 e5 e6 =
      record {
        later = omega (arith, e6);
        sees = λ q rest h. (let u = lay q rest h in
            let c : t + 1 + k - (t + 1) ≡ length q.sig.kinds = omega (arith, u.1) in
            let d : t + 1 + k + 1 + a - (t + 1 + k + 1) ≡ length q.sig.args = omega (arith, u.2) in
            let b : t + 1 + k + 1 ≡ t + 1 + length q.sig.kinds + 1 = omega (arith, u.1) in
            let l : t + 1 + k + 1 + a ≡ t + 1 + length q.sig.kinds + 1 + length q.sig.args = omega (arith, u.1, u.2) in (
              (λ z. record {
                kinds = (e3 ∙ ap (λ v. take v (drop (t + 1) ws)) c ∙ u.0.kinds) z;
                args = (e4 ∙ (λ v. take (d v) (drop (b v) ws)) ∙ u.0.args) z;
                result = (e5 ∙ ap (λ v. get_or ws v 0) l ∙ u.0.result) z;
              }),
              ap (λ v. drop v ws) (e6 ∙ ap (λ v. v + 1) l) ∙ u.0.body,
            ));
      }

-- a procedure's signature is in the rows
pub signature_in : (ws : List ℕ) (t : ℕ) (q : Proc) (rest : List ℕ) → drop t ws ≡ row_p q rest → SignatureIn ws t
signature_in ws t q rest h =
    let y = layout ws t q rest h in
    let e : t + 1 + get_or ws t 0 ≡ t + 1 + length q.sig.kinds = omega (arith, y.many) in
    let f : get_or ws (t + 1 + get_or ws t 0) 0 ≡ length q.sig.args = ap (λ z. get_or ws z 0) e ∙ y.few in
    (omega (arith, y.next), omega (arith, e, y.next), omega (arith, e, f, y.last))

-- by the table
pub found : (ws ts : List ℕ) (f : ℕ) (p : Sig) (body : ℕ) → f < length ts → SeenAt ws (get_or ts f 0) p body → Found ws ts f (record { rows = ws; starts = ts; sig = p; body = body })
found ws ts f p body l v =
    record {
      rows = refl;
      starts = refl;
      sees = λ g h. (let u = placed_at ws ts g f h l in
          let w = v.sees u.0 u.2.0 u.2.1 in
          (u.0, u.1, record { sig = w.0; body = (u.2.0, w.1) }));
    }
