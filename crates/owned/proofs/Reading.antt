-- What stands at a place of the rows, by its head: any expression or statement written there has that head and parts.
-- So what a function found for the head holds of every statement that could be meant.
use Rattle.std.proofs.Common.{◌≡◌, ℕ, ◌+◌, ◌<◌, ◌≤◌, Bool, true, false, ◌&&◌, List, [], ◌++◌, length, drop, Some, None, Option, sym, refl, ap, ◌∙◌, subst, inl, inr, arith, rules, IsSome}
use Rattle.std.proofs.lemmas.List.{drop_all}
use Rattle.std.proofs.lemmas.Bool.{cases_lt}
use Rattle.owned.specs.declared.decode.Operator.{Operator}
use Rattle.owned.specs.declared.decode.Operator.TheVariants.{Add, Sub, Mul, Less}
use Rattle.owned.specs.declared.decode.Expression.{Expression}
use Rattle.owned.specs.declared.decode.Expression.TheVariants.{Number, Variable, Binary}
use Rattle.owned.specs.declared.decode.Statement.{Statement}
use Rattle.owned.specs.declared.names.Var.{Var}
use Rattle.owned.specs.declared.varset.VarSet.{VarSet}
use Rattle.owned.specs.Program.{E, S, Sig, Prog}
use Rattle.owned.specs.Rows.{row_e, row_s}
use Rattle.owned.specs.Kept.{Full, there, is_num, numbers, keeps}
use Rattle.owned.specs.Decode.{Hit, Tuple, node_of, node_shape, binary, make_e, head_of, head_shape, Parts, make}
use Rattle.owned.specs.Ends.{NodeAt, HeadAt, IsReadAt, StandsE, StandsS, Placed}
use Rattle.owned.specs.Views.{Seen, full_of, Numbered, SaysE, ThereE, KeptTo, SaysS, ThereS}
use Rattle.owned.proofs.Chains.{row_t}
use Rattle.owned.proofs.Expressions.{row_make_e, node_complete, ViewE, view_e}
use Rattle.owned.proofs.Statements.{row_parts, row_make, head_complete, View, view}

-- the first of two equal answers
hit_head : {H : Type 0} (h k : H) (us vs : List ℕ) → ◌≡◌ {A = Hit H} (Some (h, us)) (Some (k, vs)) → (h ≡ k) × (us ≡ vs)
hit_head {H} h k us vs e = let p : ◌≡◌ {A = H × List ℕ} (h, us) (k, vs) = cc in (ap (λ (q : H × List ℕ). q.0) p, ap (λ (q : H × List ℕ). q.1) p)

-- expressions
read_e_lem : (e : E) (rest : List ℕ) → (v : ViewE e) × (node_of (row_e e ++ rest) ≡ Some (v.head, row_t row_e (node_shape v.head).exprs v.operands rest))
read_e_lem e rest =
    let v = view_e e in
    (v, ap (λ t. node_of (row_e t ++ rest)) (sym v.same) ∙ ap node_of (row_make_e v.head v.operands rest) ∙ node_complete v.head (row_t row_e (node_shape v.head).exprs v.operands rest))

pub see_e : (us vs : List ℕ) (h : Expression) → node_of us ≡ Some (h, vs) → (e : E) (rest : List ℕ) → us ≡ row_e e ++ rest → (es : Tuple E (node_shape h).exprs) × (make_e h es ≡ e) × (vs ≡ row_t row_e (node_shape h).exprs es rest)
see_e us vs h k e rest q =
    let (v, r) = read_e_lem e rest in
    let (a, b) = hit_head h v.head vs (row_t row_e (node_shape v.head).exprs v.operands rest) (sym k ∙ ap node_of q ∙ r) in
    subst (λ z. ((es : Tuple E (node_shape z).exprs) × (make_e z es ≡ e) × (vs ≡ row_t row_e (node_shape z).exprs es rest))) (sym a) (v.operands, v.same, b)

no_node_there : (ws : List ℕ) (i : ℕ) → NodeAt ws i None → StandsE ws i → ⊥
no_node_there ws i k (e, rest, h) = let r = (read_e_lem e rest).1 in let q = ap node_of h in let z : ◌≡◌ {A = ℕ} 0 1 = cc in omega arith

numbers_binary : (p : Sig) (o : Operator) (a b : E) → numbers p (binary o a b) ≡ (numbers p a && numbers p b)
numbers_binary p Add a b = refl
numbers_binary p Sub a b = refl
numbers_binary p Mul a b = refl
numbers_binary p Less a b = refl

nearer : (m : Seen) (i j : ℕ) (b d : Bool) (rest : List ℕ) (o : Option ℕ) → i < j → d ≡ b → Numbered m j b rest o → Numbered m i d rest o
nearer m i j b d rest None l e k = e ∙ k
nearer m i j b d rest (Some z) l e k = (e ∙ k.0, k.1, k.2, omega (arith, k.3))

-- places are within the rows
nothing_there : (ws : List ℕ) (i : ℕ) (us : List ℕ) → drop i ws ≡ us → (us ≡ [] → ⊥) → i < length ws
nothing_there ws i us e f = elim (cases_lt i (length ws)) [ inl l ↦ l | inr l ↦ absurd (f (sym e ∙ drop_all i ws l)) ]

pub stands_e_within : (ws : List ℕ) (i : ℕ) → StandsE ws i → i < length ws
stands_e_within ws i (e, rest, h) = nothing_there ws i (row_e e ++ rest) h (λ z. let r = (read_e_lem e rest).1 in let q = ap node_of z in let y : ◌≡◌ {A = ℕ} 0 1 = cc in omega arith)

there_e : (ws : List ℕ) (i : ℕ) → StandsE ws i → (o : Option Expression) → NodeAt ws i o → IsSome o
there_e ws i t None k = absurd (no_node_there ws i k t)
there_e ws i t (Some h) k = search rules

pub read_there_e : (ws : List ℕ) (i : ℕ) → StandsE ws i → IsReadAt node_shape node_of ws i
read_there_e ws i t = (omega (arith, stands_e_within ws i t), there_e ws i t)

module _ (m : Seen) (i : ℕ) where
  pub says_number : (k : ℕ) → NodeAt m.rows i (Some (Number k)) → SaysE m i (Some (i + 2))
  says_number k q e rest h =
      let v = see_e (drop i m.rows) _ (Number k) q.0 e rest h in
      (ap (λ z. numbers m.sig z) (sym v.1), v.2, q.1, omega arith)

  module _ (x : Var) (q : NodeAt m.rows i (Some (Variable x))) where
    pub says_variable : (there m.sig x.0 && is_num m.sig x.0) ≡ true → SaysE m i (Some (i + 2))
    says_variable t e rest h =
        let v = see_e (drop i m.rows) _ (Variable x) q.0 e rest h in
        (ap (λ z. numbers m.sig z) (sym v.1) ∙ t, v.2, q.1, omega arith)

    pub says_no_variable : (there m.sig x.0 && is_num m.sig x.0) ≡ false → SaysE m i None
    says_no_variable t e rest h = let v = see_e (drop i m.rows) _ (Variable x) q.0 e rest h in ap (λ z. numbers m.sig z) (sym v.1) ∙ t

  module _ (o : Operator) (q : NodeAt m.rows i (Some (Binary o))) where
    split : (e : E) (rest : List ℕ) → drop i m.rows ≡ row_e e ++ rest → (a : E) × (b : E) × (e ≡ binary o a b) × (drop (i + 1) m.rows ≡ row_e a ++ (row_e b ++ rest))
    split e rest h = let v = see_e (drop i m.rows) _ (Binary o) q.0 e rest h in (v.0.0, v.0.1.0, sym v.1, v.2)

    pub there_left : ThereE m i → ThereE m (i + 1)
    there_left t = let v = split t.0 t.1 t.2 in (v.0, row_e v.1 ++ t.1, v.3)

    pub there_right : (j : ℕ) → ThereE m i → SaysE m (i + 1) (Some j) → ThereE m j × (i + 1 < j) × (j ≤ length m.rows)
    there_right j t f =
        let v = split t.0 t.1 t.2 in
        let u = f v.0 (row_e v.1 ++ t.1) v.3 in
        ((v.1, t.1, u.1), u.3, u.2)

    pub says_no_left : SaysE m (i + 1) None → SaysE m i None
    says_no_left f e rest h =
        let v = split e rest h in
        ap (λ z. numbers m.sig z) v.2 ∙ numbers_binary m.sig o v.0 v.1 ∙ ap (λ z. z && numbers m.sig v.1) (f v.0 (row_e v.1 ++ rest) v.3)

    pub says_both : (j : ℕ) (z : Option ℕ) → SaysE m (i + 1) (Some j) → SaysE m j z → SaysE m i z
    says_both j z f k e rest h =
        let v = split e rest h in
        let u = f v.0 (row_e v.1 ++ rest) v.3 in
        nearer m i j (numbers m.sig v.1) (numbers m.sig e) rest z (omega (arith, u.3))
        (ap (λ y. numbers m.sig y) v.2 ∙ numbers_binary m.sig o v.0 v.1 ∙ ap (λ y. y && numbers m.sig v.1) u.0)
        (k v.1 rest u.1)

-- statements
read_s_lem : (s : S) (rest : List ℕ) → (v : View s) × (head_of (row_s s ++ rest) ≡ Some (v.head, row_parts v.head v.parts rest))
read_s_lem s rest =
    let v = view s in
    (v, ap (λ t. head_of (row_s t ++ rest)) (sym v.same) ∙ ap head_of (row_make v.head v.parts rest) ∙ head_complete v.head (row_parts v.head v.parts rest))

pub see_s : (us vs : List ℕ) (h : Statement) → head_of us ≡ Some (h, vs) → (s : S) (rest : List ℕ) → us ≡ row_s s ++ rest → (v : Parts h) × (make h v ≡ s) × (vs ≡ row_parts h v rest)
see_s us vs h k s rest e =
    let (v, r) = read_s_lem s rest in
    let (a, b) = hit_head h v.head vs (row_parts v.head v.parts rest) (sym k ∙ ap head_of e ∙ r) in
    subst (λ z. ((p : Parts z) × (make z p ≡ s) × (vs ≡ row_parts z p rest))) (sym a) (v.parts, v.same, b)

no_head_there : (ws : List ℕ) (i : ℕ) → HeadAt ws i None → StandsS ws i → ⊥
no_head_there ws i k (s, rest, h) = let r = (read_s_lem s rest).1 in let q = ap head_of h in let z : ◌≡◌ {A = ℕ} 0 1 = cc in omega arith

pub stands_s_within : (ws : List ℕ) (i : ℕ) → StandsS ws i → i < length ws
stands_s_within ws i (s, rest, h) = nothing_there ws i (row_s s ++ rest) h (λ z. let r = (read_s_lem s rest).1 in let q = ap head_of z in let y : ◌≡◌ {A = ℕ} 0 1 = cc in omega arith)

there_s : (ws : List ℕ) (i : ℕ) → StandsS ws i → (o : Option Statement) → HeadAt ws i o → IsSome o
there_s ws i t None k = absurd (no_head_there ws i k t)
there_s ws i t (Some h) k = search rules

pub read_there_s : (ws : List ℕ) (i : ℕ) → StandsS ws i → IsReadAt head_shape head_of ws i
read_there_s ws i t = (omega (arith, stands_s_within ws i t), there_s ws i t)

module _ (m : Seen) (i : ℕ) (h : Statement) (is : HeadAt m.rows i (Some h)) where
  -- what holds of the head with any parts holds of every statement there
  pub by_head : (k : VarSet) (o : Option (VarSet × ℕ)) → ((g : Prog) → Placed m.rows m.starts g → (v : Parts h) (rest : List ℕ) → drop (i + (head_shape h).words) m.rows ≡ row_parts h v rest → KeptTo m i (keeps g m.sig (make h v) (full_of m k)) rest o) → SaysS m i k o
  by_head k o f g p s rest e =
      let t = see_s (drop i m.rows) (drop (i + (head_shape h).words) m.rows) h is.0 s rest e in
      subst (λ z. KeptTo m i (keeps g m.sig z (full_of m k)) rest o) t.1 (f g p t.0 rest t.2)

  pub parts_there : ThereS m i → (v : Parts h) × (rest : List ℕ) × (drop (i + (head_shape h).words) m.rows ≡ row_parts h v rest)
  parts_there t = let u = see_s (drop i m.rows) (drop (i + (head_shape h).words) m.rows) h is.0 t.here.0 t.here.1 t.here.2 in (u.0, t.here.1, u.2)

-- what holds from a later place on
pub later : (m : Seen) (i j : ℕ) (c : Option Full) (rest : List ℕ) (o : Option (VarSet × ℕ)) → i < j → KeptTo m j c rest o → KeptTo m i c rest o
later m i j c rest None l k = k
later m i j c rest (Some p) l k = (k.0, k.1, k.2, omega (arith, k.3))
