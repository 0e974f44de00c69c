-- The first pass: where the parts of statements begin. A statement has no, one or two statements in it, and with two
-- it does not matter whether it is a pair or an `if`. The statement's expression is marked before its parts.
use Rattle.std.proofs.Common.{◌≡◌, ℕ, ◌+◌, ◌<◌, ◌≤◌, ◌⊎◌, List, [], ◌++◌, length, get_or, drop, Some, sym, refl, ap, ◌∙◌, subst, inl, inr, append_assoc, arith, length-append, length-drop}
use Rattle.std.proofs.lemmas.List.{get_or-set_same}
use Rattle.owned.specs.declared.decode.Transfer.TheVariants.{Box, Unbox, Look, Fill, Move}
use Rattle.owned.specs.declared.decode.Statement.{Statement}
use Rattle.owned.specs.declared.decode.Statement.TheVariants.{Skip, Then, Set, Between, Drop, If, While, Call, Show}
use Rattle.owned.specs.Program.{E, S}
use Rattle.owned.specs.Rows.{row_e, row_s}
use Rattle.linker.specs.Code.{Code, ExprOf}
use Rattle.owned.specs.Decode.{Parts, make}
use Rattle.owned.specs.Ends.{HeadAt}
use Rattle.owned.proofs.Reading.{see_s}
use Rattle.linker.specs.Links.{Room, part_rows, PartsFrom, PartsMarked, Agree, Within, Marked, MarkedTo}
use Rattle.owned.specs.Ends.{StandsS}
use Rattle.linker.proofs.Positions.{agree_within, expr_of_frame}
use Rattle.linker.proofs.Changes.{inner_at, other_at, within_refl, within_both, wrote_inner, wrote_other, agree_trans, room_stays, marked_frame}
use Rattle.linker.proofs.Stands.{past}

-- where the parts begin, by the lengths
begin_of : (ws : List ℕ) (i j : ℕ) (s : S) (rest : List ℕ) → drop i ws ≡ row_s s ++ rest → drop j ws ≡ part_rows s ++ rest → i ≤ length ws → j ≤ length ws → j + length (part_rows s) ≡ i + length (row_s s)
begin_of ws i j s rest e f l k = omega (arith, ap length e, ap length f, length-append (row_s s) rest, length-append (part_rows s) rest, length-drop i ws, length-drop j ws)

-- what is known of the statement at a place once its expression is marked
pub record Ready (c : Code) (i first : ℕ) (h : Statement) : Type 0 where
  pub room : Room c
  pub head : HeadAt c.rows i (Some h)
  pub there : StandsS c.rows i
  pub parts : PartsFrom c.rows i first
  pub marks : (s : S) (rest : List ℕ) → drop i c.rows ≡ row_s s ++ rest → ExprOf c s i

module _ (c b : Code) (i first : ℕ) (p : PartsMarked c b i first) where
  pub ready : Room c → (h : Statement) → HeadAt c.rows i (Some h) → StandsS c.rows i → Ready b i first h
  ready r h q t =
      let e = sym p.within.below.rows in
      record {
        room = room_stays c b (i + 1) first p.within r;
        head = subst (λ ws. HeadAt ws i (Some h)) e q;
        there = subst (λ ws. StandsS ws i) e t;
        parts = subst (λ ws. PartsFrom ws i first) e p.parts;
        marks = λ s rest f. p.marks s rest (ap (λ ws. drop i ws) e ∙ f);
      }

  -- then its parts are marked
  pub after : (h : Statement) → Ready b i first h → (d : Code) (end : ℕ) → MarkedTo b d i end → MarkedTo c d i end
  after h r d end m =
      let e = sym p.within.below.rows in
      let t = r.there in
      let l = begin_of b.rows i first t.0 t.1 t.2 (r.parts.parts t.0 t.1 t.2) (omega (arith, r.parts.later, r.parts.near)) r.parts.near in
      record {
        later = m.later;
        near = omega (arith, m.near, ap length e);
        within = within_both c b d (i + 1) first i end i end p.within m.within (omega arith) (omega arith) (omega (arith, l, (m.marks t.0 t.1 t.2).0)) (omega arith);
        marks = λ s rest f. m.marks s rest (ap (λ ws. drop i ws) (sym e) ∙ f);
      }

-- a statement without parts
leaf : (h : Statement) → (h ≡ Then → ⊥) → (h ≡ If → ⊥) → (h ≡ While → ⊥) → (v : Parts h) → (part_rows (make h v) ≡ []) × ((c : Code) (q : ℕ) → ExprOf c (make h v) q → Marked c (make h v) q)
leaf Skip t f w v = (refl, λ c q x. x)
leaf Then t f w v = absurd (t refl)
leaf (Set x) t f w v = (refl, λ c q x. x)
leaf (Between Box x y) t f w v = (refl, λ c q x. x)
leaf (Between Unbox x y) t f w v = (refl, λ c q x. x)
leaf (Between Look x y) t f w v = (refl, λ c q x. x)
leaf (Between Fill x y) t f w v = (refl, λ c q x. x)
leaf (Between Move x y) t f w v = (refl, λ c q x. x)
leaf (Drop x) t f w v = (refl, λ c q x. x)
leaf If t f w v = absurd (f refl)
leaf While t f w v = absurd (w refl)
leaf (Call x f n) t g w v = (refl, λ c q x. x)
leaf Show t f w v = (refl, λ c q x. x)

-- a statement with two parts: what it takes to be marked
record Two (s a b : S) : Type 0 where
  pub parts : part_rows s ≡ row_s a ++ row_s b
  pub marked : (d : Code) (i j : ℕ) → j + length (part_rows s) ≡ i + length (row_s s) → get_or d.inner i 0 ≡ j → get_or d.other i 0 ≡ j + length (row_s a) → Marked d a j → Marked d b (j + length (row_s a)) → ExprOf d s i → Marked d s i

two_then : (a b : S) → Two (S.then a b) a b
two_then a b =
    record {
      parts = refl;
      marked = λ d i j l p q ma mb me. (let e : j ≡ i + 1 = omega arith in
          (p ∙ e, q ∙ ap (λ z. z + length (row_s a)) e, subst (λ z. Marked d a z) e ma, subst (λ z. Marked d b (z + length (row_s a))) e mb));
    }

two_if : (e : E) (a b : S) → Two (S.if e a b) a b
two_if x a b =
    record {
      parts = refl;
      marked = λ d i j l p q ma mb me. (let e : j ≡ i + 1 + length (row_e x) = omega (arith, length-append (row_e x) (row_s a ++ row_s b)) in
          (p ∙ e, q ∙ ap (λ z. z + length (row_s a)) e, subst (λ z. Marked d a z) e ma, subst (λ z. Marked d b (z + length (row_s a))) e mb, me));
    }

see_two : (ws : List ℕ) (i : ℕ) (h : Statement) → HeadAt ws i (Some h) → (h ≡ Then) ⊎ (h ≡ If) → (s : S) (rest : List ℕ) → drop i ws ≡ row_s s ++ rest → (a : S) × (b : S) × Two s a b
see_two ws i h q (inl t) s rest e =
    let v = see_s (drop i ws) _ Then (subst (λ z. HeadAt ws i (Some z)) t q).0 s rest e in
    (v.0.ss.0, v.0.ss.1.0, subst (λ z. Two z v.0.ss.0 v.0.ss.1.0) v.1 (two_then v.0.ss.0 v.0.ss.1.0))
see_two ws i h q (inr t) s rest e =
    let v = see_s (drop i ws) _ If (subst (λ z. HeadAt ws i (Some z)) t q).0 s rest e in
    (v.0.ss.0, v.0.ss.1.0, subst (λ z. Two z v.0.ss.0 v.0.ss.1.0) v.1 (two_if v.0.es.0 v.0.ss.0 v.0.ss.1.0))

module _ (c : Code) (i first : ℕ) (h : Statement) (r : Ready c i first h) where
  here : i < length c.rows
  here = omega (arith, r.parts.later, r.parts.near)

  begins : (s : S) (rest : List ℕ) → drop i c.rows ≡ row_s s ++ rest → first + length (part_rows s) ≡ i + length (row_s s)
  begins s rest e = begin_of c.rows i first s rest e (r.parts.parts s rest e) (omega (arith, here)) r.parts.near

  -- the expression's words are kept as the first part is marked
  before : (d : Code) (end : ℕ) → MarkedTo (inner_at c i first) d first end → Agree c d (i + 1) first
  before d end m = agree_trans c (inner_at c i first) d (i + 1) first ((wrote_inner c i first).above first) (agree_within (inner_at c i first) d 0 first (i + 1) first (omega arith) (omega arith) m.within.below)

  expr_kept : (d : Code) → Agree c d (i + 1) first → (s : S) (rest : List ℕ) → drop i c.rows ≡ row_s s ++ rest → ExprOf d s i
  expr_kept d a s rest e = expr_of_frame c d s i first (omega (arith, begins s rest e)) a (r.marks s rest e)

  pub mark_leaf : (h ≡ Then → ⊥) → (h ≡ If → ⊥) → (h ≡ While → ⊥) → MarkedTo c c i first
  mark_leaf t f w =
      record {
        later = r.parts.later;
        near = r.parts.near;
        within = within_refl c i first;
        marks = λ s rest e. (let v = see_s (drop i c.rows) _ h r.head.0 s rest e in
            let u = leaf h t f w v.0 in
            let n : length (part_rows s) ≡ 0 = ap (λ z. length (part_rows z)) (sym v.1) ∙ ap length u.0 in
            (omega (arith, begins s rest e, n), subst (λ z. Marked c z i) v.1 (u.1 c i (subst (λ z. ExprOf c z i) (sym v.1) (r.marks s rest e)))));
      }

  module _ (is : (h ≡ Then) ⊎ (h ≡ If)) where
    -- the words of the two parts
    both : (s : S) (rest : List ℕ) → drop i c.rows ≡ row_s s ++ rest → (a : S) × (b : S) × Two s a b × (drop first c.rows ≡ row_s a ++ (row_s b ++ rest))
    both s rest e =
        let u = see_two c.rows i h r.head is s rest e in
        (u.0, u.1, u.2, r.parts.parts s rest e ∙ ap (λ us. us ++ rest) u.2.parts ∙ append_assoc (row_s u.0) (row_s u.1) rest)

    pub stands_one : StandsS c.rows first
    stands_one = let u = both r.there.0 r.there.1 r.there.2 in (u.0, row_s u.1 ++ r.there.1, u.3)

    module _ (d : Code) (second : ℕ) (m : MarkedTo (inner_at c i first) d first second) where
      second_at : (s : S) (rest : List ℕ) (e : drop i c.rows ≡ row_s s ++ rest) → drop second c.rows ≡ row_s (both s rest e).1 ++ rest
      second_at s rest e =
          let u = both s rest e in
          ap (λ k. drop k c.rows) (m.marks u.0 (row_s u.1 ++ rest) u.3).0 ∙ past c.rows first (row_s u.0) (row_s u.1 ++ rest) u.3

      changed : Within c (other_at d i second) i second
      changed =
          within_both c d (other_at d i second) i second i (i + 1) i second
          (within_both c (inner_at c i first) d i (i + 1) first second i second (wrote_inner c i first) m.within (omega arith) (omega (arith, r.parts.later)) (omega (arith, r.parts.later, m.later)) (omega arith))
          (wrote_other d i second) (omega arith) (omega arith) (omega arith) (omega (arith, r.parts.later, m.later))

      pub stands_two : StandsS d.rows second
      stands_two = let u = both r.there.0 r.there.1 r.there.2 in (u.1, r.there.1, ap (λ ws. drop second ws) m.within.below.rows ∙ second_at r.there.0 r.there.1 r.there.2)

      module _ (g : Code) (end : ℕ) (n : MarkedTo (other_at d i second) g second end) where
        -- the expression and the first part keep their marks, and the place of the whole its words
        kept : Agree d g (i + 1) second
        kept = agree_trans d (other_at d i second) g (i + 1) second ((wrote_other d i second).above second) (agree_within (other_at d i second) g 0 second (i + 1) second (omega arith) (omega arith) n.within.below)

        kept_expr : Agree c g (i + 1) first
        kept_expr = agree_trans c d g (i + 1) first (before d second m) (agree_within d g (i + 1) second (i + 1) first (omega arith) (omega (arith, m.later)) kept)

        inner_is : get_or g.inner i 0 ≡ first
        inner_is =
            n.within.below.inner.each i (omega arith) (omega (arith, r.parts.later, m.later))
            ∙ m.within.below.inner.each i (omega arith) r.parts.later
            ∙ get_or-set_same c.inner i first 0 (omega (arith, here, r.room.inner))

        other_is : get_or g.other i 0 ≡ second
        other_is =
            n.within.below.other.each i (omega arith) (omega (arith, r.parts.later, m.later))
            ∙ get_or-set_same d.other i second 0 (omega (arith, here, r.room.other, m.within.below.other.long))

        pub mark_two : MarkedTo c g i end
        mark_two =
            record {
              later = omega (arith, r.parts.later, m.later, n.later);
              near = omega (arith, n.near, ap length m.within.below.rows);
              within = within_both c (other_at d i second) g i second second end i end changed n.within (omega arith) (omega (arith, r.parts.later, m.later)) (omega (arith, n.later)) (omega arith);
              marks = λ s rest e. (let u = both s rest e in
                  let a = m.marks u.0 (row_s u.1 ++ rest) u.3 in
                  let b = n.marks u.1 rest (ap (λ ws. drop second ws) m.within.below.rows ∙ second_at s rest e) in
                  let l = begins s rest e in
                  let x = length-append (row_s u.0) (row_s u.1) in
                  let y = ap length u.2.parts in (
                    omega (arith, a.0, b.0, l, x, y),
                    u.2.marked g i first l inner_is (other_is ∙ a.0)
                        (marked_frame d g u.0 first (agree_within d g (i + 1) second first (first + length (row_s u.0)) (omega (arith, r.parts.later)) (omega (arith, a.0)) kept) a.1)
                        (subst (λ k. Marked g u.1 k) a.0 b.1)
                        (expr_kept g kept_expr s rest e),
                  ));
            }

  module _ (is : h ≡ While) where
    body : (s : S) (rest : List ℕ) → drop i c.rows ≡ row_s s ++ rest → (e : E) × (a : S) × (S.while e a ≡ s) × (drop first c.rows ≡ row_s a ++ rest)
    body s rest e =
        let v = see_s (drop i c.rows) _ While (subst (λ z. HeadAt c.rows i (Some z)) is r.head).0 s rest e in
        (v.0.es.0, v.0.ss.0, v.1, r.parts.parts s rest e ∙ ap (λ z. part_rows z ++ rest) (sym v.1))

    pub stands_body : StandsS c.rows first
    stands_body = let u = body r.there.0 r.there.1 r.there.2 in (u.1, r.there.1, u.3)

    pub mark_while : (d : Code) (end : ℕ) → MarkedTo (inner_at c i first) d first end → MarkedTo c d i end
    mark_while d end m =
        record {
          later = omega (arith, r.parts.later, m.later);
          near = m.near;
          within = within_both c (inner_at c i first) d i (i + 1) first end i end (wrote_inner c i first) m.within (omega arith) (omega (arith, r.parts.later)) (omega (arith, r.parts.later, m.later)) (omega arith);
          marks = λ s rest e. (let u = body s rest e in
              let a = m.marks u.1 rest u.3 in
              let l = begins s rest e in
              let x = ap (λ z. length (row_s z)) u.2 in
              let y = ap (λ z. length (part_rows z)) u.2 in
              let z : first ≡ i + 1 + length (row_e u.0) = omega (arith, l, x, y, length-append (row_e u.0) (row_s u.1)) in (
                omega (arith, a.0, l, y),
                subst (λ k. Marked d k i) u.2
                    (m.within.below.inner.each i (omega arith) r.parts.later ∙ get_or-set_same c.inner i first 0 (omega (arith, here, r.room.inner)) ∙ z, subst (λ k. Marked d u.1 k) z a.1, subst (λ k. ExprOf d k i) (sym u.2) (expr_kept d (before d end m) s rest e)),
              ));
        }
