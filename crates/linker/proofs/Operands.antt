-- The first pass over expressions: where second operands begin. What is written stands at an expression's own words,
-- so a statement's word and those of its parts are left as they are.
use Rattle.std.proofs.Common.{◌≡◌, ℕ, ◌+◌, ◌*◌, ◌++◌, length, drop, Some, sym, refl, ap, ◌∙◌, subst, arith}
use Rattle.std.proofs.lemmas.List.{get_or-set_same, length-set}
use Rattle.owned.specs.declared.decode.Operator.{Operator}
use Rattle.owned.specs.declared.decode.Operator.TheVariants.{Add, Sub, Mul, Less}
use Rattle.owned.specs.declared.decode.Expression.{Expression}
use Rattle.owned.specs.declared.decode.Expression.TheVariants.{Number, Variable, Binary}
use Rattle.owned.specs.declared.decode.Shape.{Shape}
use Rattle.owned.specs.declared.decode.Statement.{Statement}
use Rattle.owned.specs.Program.{E}
use Rattle.owned.specs.Rows.{row_e}
use Rattle.linker.specs.Code.{Code, Second, AtE}
use Rattle.owned.specs.Decode.{Tuple, binary, make_e, node_shape, head_shape}
use Rattle.owned.specs.Ends.{NodeAt, HeadAt}
use Rattle.owned.proofs.Reading.{see_e}
use Rattle.linker.specs.Links.{Room, EndE, part_rows, Agree, Within, MarkedE, PartsMarked}
use Rattle.owned.specs.Ends.{StandsE, StandsS}
use Rattle.linker.proofs.Positions.{agree_within, expr_frame}
use Rattle.linker.proofs.Changes.{inner_at, within_refl, within_both, within_more, wrote_inner, agree_trans}
use Rattle.linker.proofs.Stands.{past, end_leaf, split, stands_right, end_binary, own_words, its_expression, parts_past_expression, no_expression, parts_past_arguments}

-- a number or a variable
alone : (c : Code) (i : ℕ) (h : Expression) → ((o : Operator) → h ≡ Binary o → ⊥) → ((node_shape h).words ≡ 2) × ((es : Tuple E (node_shape h).exprs) → AtE c (make_e h es) i)
alone c i (Number k) n = (refl, λ es. tt)
alone c i (Variable x) n = (refl, λ es. tt)
alone c i (Binary o) n = absurd (n o refl)

pub mark_alone : (c : Code) (i : ℕ) (h : Expression) → ((o : Operator) → h ≡ Binary o → ⊥) → NodeAt c.rows i (Some h) → MarkedE c c i (i + 2)
mark_alone c i h n q =
    let l = alone c i h n in
    record {
      later = omega arith;
      near = omega (arith, l.0, q.1);
      ends = end_leaf c.rows i h n q;
      within = within_refl c i (i + 2);
      marks = λ e rest f. (let v = see_e (drop i c.rows) _ h q.0 e rest f in subst (λ z. AtE c z i) v.1 (l.1 v.0));
    }

-- two operands, whatever the operator
at_binary : (o : Operator) (c : Code) (a b : E) (q : ℕ) → Second c q (q + 1 + length (row_e a)) → AtE c a (q + 1) → AtE c b (q + 1 + length (row_e a)) → AtE c (binary o a b) q
at_binary Add c a b q s x y = (s, x, y)
at_binary Sub c a b q s x y = (s, x, y)
at_binary Mul c a b q s x y = (s, x, y)
at_binary Less c a b q s x y = (s, x, y)

module _ (c : Code) (room : Room c) (i : ℕ) (o : Operator) (q : NodeAt c.rows i (Some (Binary o))) (d : Code) (j : ℕ) (m : MarkedE c d (i + 1) j) where
  changed : Within c (inner_at d i j) i j
  changed = within_both c d (inner_at d i j) (i + 1) j i (i + 1) i j m.within (wrote_inner d i j) (omega arith) (omega arith) (omega arith) (omega (arith, m.later))

  pub there_right : StandsE c.rows i → StandsE d.rows j
  there_right t = subst (λ ws. StandsE ws j) (sym m.within.below.rows) (stands_right c.rows i o q j t m.ends).0

  module _ (g : Code) (k : ℕ) (n : MarkedE (inner_at d i j) g j k) where
    -- the first operand keeps its places
    kept : Agree d g (i + 1) j
    kept = agree_trans d (inner_at d i j) g (i + 1) j ((wrote_inner d i j).above j) (agree_within (inner_at d i j) g 0 j (i + 1) j (omega arith) (omega arith) n.within.below)

    second : Second g i j
    second =
        record {
          room = omega (arith, room.inner, q.1, m.within.below.inner.long, n.within.below.inner.long, length-set d.inner i j);
          is = n.within.below.inner.each i (omega arith) (omega (arith, m.later)) ∙ get_or-set_same d.inner i j 0 (omega (arith, room.inner, q.1, m.within.below.inner.long));
        }

    pub mark_binary : MarkedE c g i k
    mark_binary =
        record {
          later = omega (arith, m.later, n.later);
          near = omega (arith, n.near, ap length m.within.below.rows);
          ends = end_binary c.rows i o q j k m.ends (subst (λ ws. EndE ws j k) m.within.below.rows n.ends);
          within = within_both c (inner_at d i j) g i j j k i k changed n.within (omega arith) (omega (arith, m.later)) (omega (arith, n.later)) (omega arith);
          marks = λ e rest f. (let v = split c.rows i o q e rest f in
              let l = m.ends v.0 (row_e v.1 ++ rest) v.3 in
              let x = m.marks v.0 (row_e v.1 ++ rest) v.3 in
              let y = n.marks v.1 rest (ap (λ ws. drop j ws) m.within.below.rows ∙ ap (λ z. drop z c.rows) l ∙ past c.rows (i + 1) (row_e v.0) (row_e v.1 ++ rest) v.3) in
              subst (λ z. AtE g z i) v.2
              (at_binary o g v.0 v.1 i (subst (λ z. Second g i z) l second) (expr_frame d g v.0 (i + 1) (subst (λ z. Agree d g (i + 1) z) l kept) x) (subst (λ z. AtE g v.1 z) l y)));
        }

-- the expression in a statement, if there is one
module _ (c : Code) (i : ℕ) (h : Statement) (q : HeadAt c.rows i (Some h)) (sh : Shape) (same : sh ≡ head_shape h) (t : StandsS c.rows i) where
  pub parts_marked : (d : Code) (j : ℕ) → sh.exprs ≡ 1 → MarkedE c d (i + sh.words) j → PartsMarked c d i j
  parts_marked d j l m =
      record {
        parts = parts_past_expression c.rows i h q sh same t j l m.ends;
        within = within_more c d (i + sh.words) j (i + 1) j m.within (omega (arith, own_words h, ap (λ (k : Shape). k.words) same)) (omega arith);
        marks = λ s rest e. (let u = its_expression c.rows i h q sh same t l s rest e in u.2 d (m.marks u.0 (part_rows s ++ rest) u.1));
      }

  pub parts_unmarked : (sh.exprs ≡ 1 → ⊥) → PartsMarked c c i (i + sh.words + 2 * sh.args)
  parts_unmarked l =
      record {
        parts = parts_past_arguments c.rows i h q sh same t l;
        within = within_refl c (i + 1) (i + sh.words + 2 * sh.args);
        marks = no_expression c.rows i h q sh same t l c;
      }
