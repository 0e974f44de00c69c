-- What stands at a place of the rows: where it ends, where it is entered, where its parts begin.
-- The head that is read there is that of every expression or statement that could be meant.
use Rattle.std.proofs.Common.{◌≡◌, ℕ, zero, suc, ◌+◌, ◌*◌, ◌<◌, ◌≤◌, List, ◌++◌, length, drop, Some, sym, refl, ap, ◌∙◌, subst, append_assoc, arith, length-append, length-drop}
use lib.Seq.{drop-append_seam}
use Rattle.std.proofs.lemmas.List.{drop-drop}
use Rattle.owned.specs.declared.decode.Operator.{Operator}
use Rattle.owned.specs.declared.decode.Operator.TheVariants.{Add, Sub, Mul, Less}
use Rattle.owned.specs.declared.decode.Expression.{Expression}
use Rattle.owned.specs.declared.decode.Expression.TheVariants.{Number, Variable, Binary}
use Rattle.owned.specs.declared.decode.Transfer.TheVariants.{Box, Unbox, Look, Fill, Move}
use Rattle.owned.specs.declared.decode.Shape.{Shape}
use Rattle.owned.specs.declared.decode.Statement.{Statement}
use Rattle.owned.specs.declared.decode.Statement.TheVariants.{Skip, Then, Set, Between, Drop, If, While, Call, Show}
use Rattle.owned.specs.Program.{E, S, Arg}
use Rattle.owned.specs.Rows.{row_e, row_s}
use Rattle.linker.specs.Code.{Code, AtE, ExprOf, entry}
use Rattle.owned.specs.Decode.{Tuple, binary, head_shape, Parts, make}
use Rattle.owned.specs.Ends.{NodeAt, HeadAt, StandsE, StandsS}
use Rattle.owned.proofs.Chains.{row_t}
use Rattle.owned.proofs.Statements.{row_parts, row_a}
use Rattle.owned.proofs.Reading.{see_e, see_s}
use Rattle.linker.specs.Links.{EndE, Enters, part_rows, PartsFrom}

-- past the words at a place
pub past : (ws : List ℕ) (i : ℕ) (w rest : List ℕ) → drop i ws ≡ w ++ rest → drop (i + length w) ws ≡ rest
past ws i w rest h = sym (drop-drop (length w) i ws) ∙ ap (λ us. drop (length w) us) h ∙ drop-append_seam w rest

pub past_within : (ws : List ℕ) (i : ℕ) (w rest : List ℕ) → drop i ws ≡ w ++ rest → i ≤ length ws → i + length w ≤ length ws
past_within ws i w rest h l = omega (arith, ap length h, length-append w rest, length-drop i ws)

-- expressions
length_binary : (o : Operator) (a b : E) → length (row_e (binary o a b)) ≡ 1 + length (row_e a) + length (row_e b)
length_binary Add a b = omega (arith, length-append (row_e a) (row_e b))
length_binary Sub a b = omega (arith, length-append (row_e a) (row_e b))
length_binary Mul a b = omega (arith, length-append (row_e a) (row_e b))
length_binary Less a b = omega (arith, length-append (row_e a) (row_e b))

module _ (ws : List ℕ) (i : ℕ) where
  pub end_leaf : (h : Expression) → ((o : Operator) → h ≡ Binary o → ⊥) → NodeAt ws i (Some h) → EndE ws i (i + 2)
  end_leaf (Number k) n q e rest h = let v = see_e (drop i ws) _ (Number k) q.0 e rest h in ap (λ z. i + length (row_e z)) v.1
  end_leaf (Variable x) n q e rest h = let v = see_e (drop i ws) _ (Variable x) q.0 e rest h in ap (λ z. i + length (row_e z)) v.1
  end_leaf (Binary o) n q e rest h = absurd (n o refl)

  module _ (o : Operator) (q : NodeAt ws i (Some (Binary o))) where
    pub split : (e : E) (rest : List ℕ) → drop i ws ≡ row_e e ++ rest → (a : E) × (b : E) × (binary o a b ≡ e) × (drop (i + 1) ws ≡ row_e a ++ (row_e b ++ rest))
    split e rest h = let v = see_e (drop i ws) _ (Binary o) q.0 e rest h in (v.0.0, v.0.1.0, v.1, v.2)

    pub stands_left : StandsE ws i → StandsE ws (i + 1)
    stands_left t = let v = split t.0 t.1 t.2 in (v.0, row_e v.1 ++ t.1, v.3)

    pub stands_right : (j : ℕ) → StandsE ws i → EndE ws (i + 1) j → StandsE ws j × (i < j)
    stands_right j t f =
        let v = split t.0 t.1 t.2 in
        let e = f v.0 (row_e v.1 ++ t.1) v.3 in
        ((v.1, t.1, ap (λ k. drop k ws) e ∙ past ws (i + 1) (row_e v.0) (row_e v.1 ++ t.1) v.3), omega (arith, e))

    pub end_binary : (j k : ℕ) → EndE ws (i + 1) j → EndE ws j k → EndE ws i k
    end_binary j k f g e rest h =
        let v = split e rest h in
        let a = f v.0 (row_e v.1 ++ rest) v.3 in
        let b = g v.1 rest (ap (λ z. drop z ws) a ∙ past ws (i + 1) (row_e v.0) (row_e v.1 ++ rest) v.3) in
        omega (arith, a, b, length_binary o v.0 v.1, ap (λ z. length (row_e z)) v.2)

-- where a statement is entered
module _ (ws : List ℕ) (i : ℕ) where
  pub entered_here : (h : Statement) → (h ≡ Then → ⊥) → HeadAt ws i (Some h) → Enters ws i i
  entered_here h n q s rest e = let v = see_s (drop i ws) _ h q.0 s rest e in by h n v.0 ∙ ap (λ z. entry z i) v.1
    where
      by : (h : Statement) → (h ≡ Then → ⊥) → (v : Parts h) → i ≡ entry (make h v) i
      by Skip n v = refl
      by Then n v = absurd (n refl)
      by (Set x) n v = refl
      by (Between Box x y) n v = refl
      by (Between Unbox x y) n v = refl
      by (Between Look x y) n v = refl
      by (Between Fill x y) n v = refl
      by (Between Move x y) n v = refl
      by (Drop x) n v = refl
      by If n v = refl
      by While n v = refl
      by (Call x f m) n v = refl
      by Show n v = refl

  module _ (q : HeadAt ws i (Some Then)) where
    pub stands_first : StandsS ws i → StandsS ws (i + 1)
    stands_first t = let v = see_s (drop i ws) _ Then q.0 t.0 t.1 t.2 in (v.0.ss.0, row_s v.0.ss.1.0 ++ t.1, v.2)

    pub entered_first : (j : ℕ) → Enters ws (i + 1) j → Enters ws i j
    entered_first j f s rest e = let v = see_s (drop i ws) _ Then q.0 s rest e in f v.0.ss.0 (row_s v.0.ss.1.0 ++ rest) v.2 ∙ ap (λ z. entry z i) v.1

-- where the parts of a statement begin
length_args : (n : ℕ) (ts : Tuple Arg n) (rest : List ℕ) → length (row_t row_a n ts rest) ≡ 2 * n + length rest
length_args zero ts rest = omega arith
length_args (suc n) ts rest = omega (arith, length_args n ts.1 rest)

drop_args : (n : ℕ) (ts : Tuple Arg n) (rest : List ℕ) → drop (2 * n) (row_t row_a n ts rest) ≡ rest
drop_args zero ts rest = refl
drop_args (suc n) ts rest = let e : 2 * suc n ≡ suc (suc (2 * n)) = omega arith in rw e (drop_args n ts.1 rest)

-- the words of a statement with an expression: the expression's, then those of its parts
with_expression : (h : Statement) → (head_shape h).exprs ≡ 1 → (v : Parts h) (rest : List ℕ) → (e : E) × (row_parts h v rest ≡ row_e e ++ (part_rows (make h v) ++ rest)) × ((c : Code) (q : ℕ) → AtE c e (q + (head_shape h).words) → ExprOf c (make h v) q)
with_expression Skip l v rest = absurd (omega arith)
with_expression Then l v rest = absurd (omega arith)
with_expression (Set x) l v rest = (v.es.0, refl, λ c q a. a)
with_expression (Between o x y) l v rest = absurd (omega arith)
with_expression (Drop x) l v rest = absurd (omega arith)
with_expression If l v rest = (v.es.0, ap (λ us. row_e v.es.0 ++ us) (sym (append_assoc (row_s v.ss.0) (row_s v.ss.1.0) rest)), λ c q a. a)
with_expression While l v rest = (v.es.0, refl, λ c q a. a)
with_expression (Call x f n) l v rest = absurd (omega arith)
with_expression Show l v rest = (v.es.0, refl, λ c q a. a)

-- the words of another: its arguments, then those of its parts
with_none : (h : Statement) → ((head_shape h).exprs ≡ 1 → ⊥) → (v : Parts h) (rest : List ℕ) → (drop (2 * (head_shape h).args) (row_parts h v rest) ≡ part_rows (make h v) ++ rest) × (2 * (head_shape h).args ≤ length (row_parts h v rest)) × ((c : Code) (q : ℕ) → ExprOf c (make h v) q)
with_none Skip l v rest = (refl, omega arith, λ c q. tt)
with_none Then l v rest = (sym (append_assoc (row_s v.ss.0) (row_s v.ss.1.0) rest), omega arith, λ c q. tt)
with_none (Set x) l v rest = absurd (l refl)
with_none (Between Box x y) l v rest = (refl, omega arith, λ c q. tt)
with_none (Between Unbox x y) l v rest = (refl, omega arith, λ c q. tt)
with_none (Between Look x y) l v rest = (refl, omega arith, λ c q. tt)
with_none (Between Fill x y) l v rest = (refl, omega arith, λ c q. tt)
with_none (Between Move x y) l v rest = (refl, omega arith, λ c q. tt)
with_none (Drop x) l v rest = (refl, omega arith, λ c q. tt)
with_none If l v rest = absurd (l refl)
with_none While l v rest = absurd (l refl)
with_none (Call x f n) l v rest = (drop_args n v.as₁ rest, omega (arith, length_args n v.as₁ rest), λ c q. tt)
with_none Show l v rest = absurd (l refl)

-- every statement has words of its own
pub own_words : (h : Statement) → 0 < (head_shape h).words
own_words Skip = omega arith
own_words Then = omega arith
own_words (Set x) = omega arith
own_words (Between o x y) = omega arith
own_words (Drop x) = omega arith
own_words If = omega arith
own_words While = omega arith
own_words (Call x f n) = omega arith
own_words Show = omega arith

module _ (ws : List ℕ) (i : ℕ) (h : Statement) (q : HeadAt ws i (Some h)) where
  see : (s : S) (rest : List ℕ) → drop i ws ≡ row_s s ++ rest → (v : Parts h) × (make h v ≡ s) × (drop (i + (head_shape h).words) ws ≡ row_parts h v rest)
  see s rest e = see_s (drop i ws) (drop (i + (head_shape h).words) ws) h q.0 s rest e

  module _ (sh : Shape) (same : sh ≡ head_shape h) (t : StandsS ws i) where
    -- where its expression stands, and that this is the one to be marked
    pub its_expression : sh.exprs ≡ 1 → (s : S) (rest : List ℕ) → drop i ws ≡ row_s s ++ rest → (x : E) × (drop (i + sh.words) ws ≡ row_e x ++ (part_rows s ++ rest)) × ((c : Code) → AtE c x (i + sh.words) → ExprOf c s i)
    its_expression l s rest e =
        let w = ap (λ (k : Shape). k.words) same in
        let v = see s rest e in
        let u = with_expression h (ap (λ (k : Shape). k.exprs) (sym same) ∙ l) v.0 rest in (
          u.0,
          ap (λ k. drop (i + k) ws) w ∙ v.2 ∙ u.1 ∙ ap (λ z. row_e u.0 ++ (part_rows z ++ rest)) v.1,
          λ c a. subst (λ z. ExprOf c z i) v.1 (u.2 c i (subst (λ k. AtE c u.0 (i + k)) w a)),
        )

    pub stands_expression : sh.exprs ≡ 1 → StandsE ws (i + sh.words)
    stands_expression l = let u = its_expression l t.0 t.1 t.2 in (u.0, part_rows t.0 ++ t.1, u.1)

    pub parts_past_expression : (j : ℕ) → sh.exprs ≡ 1 → EndE ws (i + sh.words) j → PartsFrom ws i j
    parts_past_expression j l f =
        let o = own_words h in
        let w = ap (λ (k : Shape). k.words) same in
        let x = stands_expression l in
        let a = f x.0 x.1 x.2 in
        record {
          later = omega (arith, a);
          near = omega (arith, a, past_within ws (i + sh.words) (row_e x.0) x.1 x.2 (omega (arith, q.1)));
          parts = λ s rest e. (let u = its_expression l s rest e in
              ap (λ k. drop k ws) (f u.0 (part_rows s ++ rest) u.1) ∙ past ws (i + sh.words) (row_e u.0) (part_rows s ++ rest) u.1);
        }

    pub no_expression : (sh.exprs ≡ 1 → ⊥) → (c : Code) (s : S) (rest : List ℕ) → drop i ws ≡ row_s s ++ rest → ExprOf c s i
    no_expression l c s rest e = let v = see s rest e in subst (λ z. ExprOf c z i) v.1 ((with_none h (λ k. l (ap (λ (z : Shape). z.exprs) same ∙ k)) v.0 rest).2 c i)

    pub parts_past_arguments : (sh.exprs ≡ 1 → ⊥) → PartsFrom ws i (i + sh.words + 2 * sh.args)
    parts_past_arguments l =
        let o = own_words h in
        let n : (head_shape h).exprs ≡ 1 → ⊥ = λ k. l (ap (λ (z : Shape). z.exprs) same ∙ k) in
        let v = see t.0 t.1 t.2 in
        let u = with_none h n v.0 t.1 in
        subst (λ (k : Shape). PartsFrom ws i (i + k.words + 2 * k.args)) (sym same) (record {
          later = omega arith;
          near = omega (arith, q.1, u.1, ap length v.2, length-drop (i + (head_shape h).words) ws);
          parts = λ s rest e. (let w = see s rest e in
              sym (drop-drop (2 * (head_shape h).args) (i + (head_shape h).words) ws) ∙ ap (λ us. drop (2 * (head_shape h).args) us) w.2 ∙ (with_none h n w.0 rest).0 ∙ ap (λ z. part_rows z ++ rest) w.1);
        })
