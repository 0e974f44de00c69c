-- Procedures in the tables: one is linked where it stands and its words are written, and those before it stay, so that
-- from the first to the last all of a program are.
use Rattle.std.proofs.Common.{◌≡◌, ℕ, zero, suc, ◌+◌, ◌*◌, ◌<◌, ◌≤◌, leb, ◌⊎◌, List, [], ◌∷◌, length, get_or, drop, Some, sym, refl, ap, ◌∙◌, subst, inl, inr, arith, leb→le, length-drop}
use Rattle.std.specs.List.{slice_get}
use Rattle.std.proofs.lemmas.List.{drop_all}
use Rattle.std.proofs.lemmas.Option.{slice_get_past as nth_past}
use Rattle.std.proofs.lemmas.Bool.{cases_lt}
use Rattle.owned.specs.Program.{Sig, Proc, Prog}
use Rattle.owned.specs.Rows.{row_s, row_p, row_ps, ok_ps, Rows}
use Rattle.owned.specs.VarSets.{bits}
use Rattle.owned.specs.Views.{SeenAt}
use Rattle.linker.specs.Code.{Code, At, released}
use Rattle.owned.proofs.Chains.{T_and}
use Rattle.owned.proofs.Programs.{sig_off, ok_off}
use Rattle.owned.proofs.Layouts.{word_at}
use Rattle.owned.proofs.Whole.{ok_at}
use Rattle.linker.specs.declared.Header.{Header}
use Rattle.linker.specs.Links.{Same, Agree, Within, Enters, Marked, MarkedTo, LinkedTo, StandsP, HeaderOf, HeaderAt, Noted, ProcBefore, ProcedureTo, LinkedAll}
use Rattle.linker.proofs.Positions.{agree_within, at_frame}
use Rattle.linker.proofs.Changes.{agree_trans}
use Rattle.linker.proofs.Stands.{past}

-- what was read of a procedure where it begins
pub header_at : (ws : List ℕ) (i : ℕ) (q : Sig) (body : ℕ) (h : Header) → SeenAt ws i q body → h.kinds ≡ i + 1 → h.many ≡ length q.kinds → h.result.0 ≡ q.result → bits (length q.kinds) h.released.0 ≡ released q 0 q.kinds → h.body ≡ body → HeaderAt ws i h
header_at ws i q body h v e1 e2 e3 e4 e5 =
    record {
      later = omega (arith, v.later, e5);
      says = λ p rest e. (let w = v.sees p rest e in
          record {
            kinds = (_, ap (λ k. drop k ws) e1 ∙ (word_at i ws _ _ e).2);
            many = e2 ∙ ap (λ (s : Sig). length s.kinds) w.0;
            result = e3 ∙ ap (λ (s : Sig). s.result) w.0;
            release = subst (λ (s : Sig). bits (length s.kinds) h.released.0 ≡ released s 0 s.kinds) w.0 e4;
            body = ap (λ k. drop k ws) e5 ∙ w.1;
          });
    }

-- one procedure: its body is marked, then linked, and its words are written
module _ (c c1 c2 d : Code) (f i end body : ℕ) (h : Header) (room : 512 ≤ length c.procs) (few : f < 64) (t : StandsP c.rows i) (v : HeaderAt c.rows i h)
    (m : MarkedTo c c1 h.body end) (l : LinkedTo c1 c2 h.body (length c1.rows)) (en : Enters c2.rows h.body body) (n : Noted c2 d f h body) where
  -- any procedure there
  module _ (p : Proc) (rest : List ℕ) (e : drop i c.rows ≡ row_p p rest) where
    of : HeaderOf c.rows p rest h
    of = v.says p rest e

    marked : (end ≡ h.body + length (row_s p.body)) × Marked c1 p.body h.body
    marked = m.marks p.body rest of.body

    linked : At c2 p.body h.body (length c1.rows) × Within c1 c2 h.body (h.body + length (row_s p.body))
    linked = l p.body rest (ap (λ ws. drop h.body ws) m.within.below.rows ∙ of.body) marked.1

  changed : Within c1 c2 h.body (h.body + length (row_s t.0.body))
  changed = (linked t.0 t.1 t.2).1

  rows_same : d.rows ≡ c.rows
  rows_same = n.rows ∙ changed.below.rows ∙ m.within.below.rows

  same : (xs ys : List ℕ) (a b : ℕ) → ys ≡ xs → Same xs ys a b
  same xs ys a b e = record { long = ap length e; each = λ k p q. ap (λ zs. get_or zs k 0) e }

  last_agree : (a b : ℕ) → Agree c2 d a b
  last_agree a b = record { rows = n.rows; follow = same c2.follow d.follow a b n.follow; inner = same c2.inner d.inner a b n.inner; other = same c2.other d.other a b n.other }

  procs_same : c2.procs ≡ c.procs
  procs_same = changed.procs ∙ m.within.procs

  pub procedure_to : ProcedureTo c d f i end
  procedure_to =
      record {
        later = omega (arith, v.later, m.later);
        near = m.near;
        agree =
            agree_trans c c2 d 0 i
            (agree_trans c c1 c2 0 i (agree_within c c1 0 h.body 0 i (omega arith) (omega (arith, v.later)) m.within.below) (agree_within c1 c2 0 h.body 0 i (omega arith) (omega (arith, v.later)) changed.below))
            (last_agree 0 i);
        long = n.long ∙ ap length procs_same;
        below = λ k q. n.below k q ∙ ap (λ ps. get_or ps k 0) procs_same;
        says = λ p rest e. (let w = of p rest e in
            let a = marked p rest e in
            let b = linked p rest e in
            let to : length c1.rows ≡ length d.rows = ap length (m.within.below.rows ∙ sym rows_same) in (
              record {
                is = record {
                  room = omega (arith, n.long, ap length procs_same);
                  kinds = (w.kinds.0, ap (λ k. drop k d.rows) n.kinds ∙ ap (λ ws. drop h.kinds ws) rows_same ∙ w.kinds.1);
                  many = n.many ∙ w.many;
                  result = n.result ∙ w.result;
                  body = (
                    h.body,
                    n.enters ∙ en p.body rest (ap (λ ws. drop h.body ws) (changed.below.rows ∙ m.within.below.rows) ∙ w.body),
                    subst (λ r. At d p.body h.body r) to (at_frame c2 d p.body h.body (length c1.rows) (last_agree h.body _) b.0),
                  );
                  release = ap (λ k. bits (length p.sig.kinds) k) n.release ∙ w.release;
                };
                ends = omega (arith, a.0);
              },
              ap (λ k. drop k c.rows) a.0 ∙ past c.rows h.body (row_s p.body) rest w.body,
            ));
      }

-- a procedure that is in the tables stays there
before_frame : (c d : Code) (k : ℕ) (p : Proc) (i j : ℕ) → i ≤ j → Agree c d 0 i → length d.procs ≡ length c.procs → ((a : ℕ) → a < 8 * k + 8 → get_or d.procs a 0 ≡ get_or c.procs a 0) → ProcBefore c k p i → ProcBefore d k p j
before_frame c d k p i j l a e f b =
    let u = b.is in
    record {
      is = record {
        room = omega (arith, u.room, e);
        kinds = (u.kinds.0, ap (λ z. drop z d.rows) (f (8 * k) (omega arith)) ∙ ap (λ ws. drop (get_or c.procs (8 * k) 0) ws) a.rows ∙ u.kinds.1);
        many = f (8 * k + 1) (omega arith) ∙ u.many;
        result = f (8 * k + 2) (omega arith) ∙ u.result;
        body = (
          u.body.0,
          f (8 * k + 3) (omega arith) ∙ u.body.1,
          subst (λ r. At d p.body u.body.0 r) (ap length (sym a.rows)) (at_frame c d p.body u.body.0 (length c.rows) (agree_within c d 0 i u.body.0 _ (omega arith) b.ends a) u.body.2),
        );
        release = ap (λ z. bits (length p.sig.kinds) z) (f (8 * k + 4) (omega arith)) ∙ u.release;
      };
      ends = omega (arith, b.ends);
    }

-- the first f procedures of a program are in the tables, and the others stand from i on
pub record Done (c : Code) (g : Prog) (f i : ℕ) : Type 0 where
  pub left : drop i c.rows ≡ row_ps (drop f g)
  pub each : (k : ℕ) (p : Proc) → k < f → slice_get g k ≡ Some p → ProcBefore c k p i

-- and so for whatever program the rows are
pub record Through (ws : List ℕ) (c : Code) (f i : ℕ) : Type 0 where
  pub rows : c.rows ≡ ws
  pub near : i ≤ length ws
  pub done : (g : Prog) → Rows ws g → Done c g f i

pub through_begin : (c : Code) → Through c.rows c 0 0
through_begin c = record { rows = refl; near = omega arith; done = λ g h. record { left = sym h.rows; each = λ k p l e. absurd (omega arith) } }

-- the procedure with number f, if there are so many
at_number : (g : Prog) (f : ℕ) → (drop f g ≡ []) ⊎ ((p : Proc) × (slice_get g f ≡ Some p) × (drop f g ≡ p ∷ drop (f + 1) g) × (f < length g))
at_number [] zero = inl refl
at_number [] (suc f) = inl refl
at_number (p ∷ ps) zero = inr (p, refl, refl, omega arith)
at_number (p ∷ ps) (suc f) =
    elim (at_number ps f) [
      | inl e ↦ inl e
      | inr u ↦ inr (u.0, u.1, u.2 ∙ (let e : suc f + 1 ≡ suc (f + 1) = omega arith in ap (λ z. u.0 ∷ drop z (p ∷ ps)) (sym e)), omega (arith, u.3))
    ]

module _ (ws : List ℕ) (c : Code) (f i : ℕ) (h : Through ws c f i) where
  -- there is a next procedure where rows are left
  next : i < length ws → (g : Prog) → Rows ws g → (p : Proc) × (slice_get g f ≡ Some p) × (drop i c.rows ≡ row_p p (row_ps (drop (f + 1) g))) × (f < length g)
  next l g r =
      let x = (h.done g r).left in
      elim (at_number g f) [
        | inl e ↦ absurd (omega (arith, ap length (x ∙ ap row_ps e), length-drop i c.rows, ap length h.rows))
        | inr u ↦ (u.0, u.1, x ∙ ap row_ps u.2, u.3)
      ]

  pub next_stands : i < length ws → (g : Prog) × Rows ws g → (f < 64) × StandsP c.rows i
  next_stands l (g, r) =
      let u = next l g r in
      let o = T_and (leb (length g) 64) (ok_ps g) (T_and (leb (length ws) 16384) _ r.fine).1 in
      let s = sig_off u.0.sig (ok_off u.0 (ok_at g f u.0 o.1 u.1)).0 in
      (omega (arith, u.3, leb→le (length g) 64 o.0), (u.0, row_ps (drop (f + 1) g), u.2, leb→le (length u.0.sig.kinds) 32 s.kinds))

  pub through_more : (d : Code) (j : ℕ) → i < length ws → ProcedureTo c d f i j → Through ws d (f + 1) j
  through_more d j l t =
      let a = t.agree in
      let n = ap length a.rows in
      record {
        rows = a.rows ∙ h.rows;
        near = omega (arith, t.near, ap length h.rows);
        done = λ g q. (let u = next l g q in
            let w = t.says u.0 (row_ps (drop (f + 1) g)) u.2 in
            record {
              left = ap (λ us. drop j us) a.rows ∙ w.1;
              each = λ k p b e. elim (cases_lt k f) [
                | inl s ↦ before_frame c d k p i j (omega (arith, t.later)) a t.long (λ z y. t.below z (omega arith)) ((h.done g q).each k p s e)
                | inr s ↦ (let x : k ≡ f = omega arith in let y : u.0 ≡ p = cc (u.1, e, x) in subst (λ z. ProcBefore d z p j) (sym x) (subst (λ z. ProcBefore d f z j) y w.0))
              ];
            });
      }

  pub through_done : length ws ≤ i → LinkedAll c
  through_done l g r k p e =
      let q = subst (λ us. Rows us g) h.rows r in
      let u = h.done g q in
      let z : drop f g ≡ [] = none (drop f g) (sym u.left ∙ drop_all i c.rows (omega (arith, ap length h.rows))) in
      (u.each k p (omega (arith, within g k e, length-drop f g, ap length z)) e).is
    where
      none : (qs : Prog) → row_ps qs ≡ [] → qs ≡ []
      none [] x = refl
      none (b ∷ bs) x = let y : ◌≡◌ {A = ℕ} 0 1 = cc x in absurd (omega arith)

      within : (g : Prog) (k : ℕ) → slice_get g k ≡ Some p → k < length g
      within g k x = elim (cases_lt k (length g)) [ inl b ↦ b | inr b ↦ (let m = nth_past g k b in let y : ◌≡◌ {A = ℕ} 0 1 = cc in absurd (omega arith)) ]

-- equal tables hold the same
pub linked_same : (c d : Code) → d.rows ≡ c.rows → d.follow ≡ c.follow → d.inner ≡ c.inner → d.other ≡ c.other → d.procs ≡ c.procs → LinkedAll c → LinkedAll d
linked_same c d e1 e2 e3 e4 e5 h =
    let e : c ≡ d = λ z. record { rows = sym e1 z; follow = sym e2 z; inner = sym e3 z; other = sym e4 z; procs = sym e5 z } in
    subst (λ x. LinkedAll x) e h
