-- The decoder of expressions reads just what is written: by the head, then by its operands.
-- Soundness goes along the decoder, completeness by the nesting that is left.
use Rattle.std.proofs.Common.{◌≡◌, ℕ, zero, suc, ◌+◌, ◌≤◌, max, List, [], ◌∷◌, ◌++◌, get_or, Some, sym, refl, ap, ◌∙◌, subst, append_assoc, arith, le→leb}
use Rattle.owned.specs.declared.decode.Operator.{Operator}
use Rattle.owned.specs.declared.decode.Operator.TheVariants.{Add, Sub, Mul, Less}
use Rattle.owned.specs.declared.decode.Expression.{Expression}
use Rattle.owned.specs.declared.decode.Expression.TheVariants.{Number, Variable, Binary}
use Rattle.owned.specs.Program.{E}
use Rattle.owned.specs.Rows.{row_e, deep_e}
use Rattle.owned.specs.Decode.{Tuple, many, variable, node_by, node_shape, node_of, binary, make_e, read_e}
use Rattle.owned.proofs.Chains.{Good, bind, passed, AllT, row_t, Sound, Complete, many_sound, many_complete, front1, front2, Fronted, fits_sound}

abbrev pub operator_code : Operator → ℕ
operator_code Add = 2
operator_code Sub = 3
operator_code Mul = 4
operator_code Less = 5

abbrev pub node_row : Expression → List ℕ
node_row (Number k) = 0 ∷ k ∷ []
node_row (Variable x) = 1 ∷ x.0 ∷ []
node_row (Binary o) = operator_code o ∷ []

by_word : (ws : List ℕ) (w : ℕ) → get_or ws 0 0 ≡ w → Fronted node_shape node_row ws (node_by w (get_or ws 1 0))
by_word ws zero e = front2 ws 0 e
by_word ws (suc zero) e = front2 ws 1 e
by_word ws (suc (suc zero)) e = front1 ws 2 e
by_word ws (suc (suc (suc zero))) e = front1 ws 3 e
by_word ws (suc (suc (suc (suc zero)))) e = front1 ws 4 e
by_word ws (suc (suc (suc (suc (suc zero))))) e = front1 ws 5 e
by_word ws (suc (suc (suc (suc (suc (suc w)))))) e = tt

pub node_sound : (ws : List ℕ) → Good (λ h us. ws ≡ node_row h ++ us) (node_of ws)
node_sound ws = fits_sound node_shape node_row ws (node_by (get_or ws 0 0) (get_or ws 1 0)) (by_word ws (get_or ws 0 0) refl)

pub node_complete : (h : Expression) (rest : List ℕ) → node_of (node_row h ++ rest) ≡ Some (h, rest)
node_complete (Number k) rest = passed _ _ (le→leb 2 _ (omega arith))
node_complete (Variable x) rest = passed _ _ (le→leb 2 _ (omega arith))
node_complete (Binary Add) rest = passed _ _ (le→leb 1 _ (omega arith))
node_complete (Binary Sub) rest = passed _ _ (le→leb 1 _ (omega arith))
node_complete (Binary Mul) rest = passed _ _ (le→leb 1 _ (omega arith))
node_complete (Binary Less) rest = passed _ _ (le→leb 1 _ (omega arith))

-- the rows of an expression are those of its head, then those of its operands
row_binary : (o : Operator) (a b : E) → row_e (binary o a b) ≡ operator_code o ∷ (row_e a ++ row_e b)
row_binary Add a b = refl
row_binary Sub a b = refl
row_binary Mul a b = refl
row_binary Less a b = refl

pub row_make_e : (h : Expression) (es : Tuple E (node_shape h).exprs) (rest : List ℕ) → row_e (make_e h es) ++ rest ≡ node_row h ++ row_t row_e (node_shape h).exprs es rest
row_make_e (Number k) es rest = refl
row_make_e (Variable x) es rest = refl
row_make_e (Binary o) es rest = rw (row_binary o es.0 es.1.0) (ap (λ l. operator_code o ∷ l) (append_assoc (row_e es.0) (row_e es.1.0) rest))

deep_binary : (o : Operator) (a b : E) → deep_e (binary o a b) ≡ 1 + max (deep_e a) (deep_e b)
deep_binary Add a b = refl
deep_binary Sub a b = refl
deep_binary Mul a b = refl
deep_binary Less a b = refl

deep_make_e : (d : ℕ) (h : Expression) (es : Tuple E (node_shape h).exprs) → AllT (λ e. deep_e e ≤ d) (node_shape h).exprs es → deep_e (make_e h es) ≤ suc d
deep_make_e d (Number k) es l = omega arith
deep_make_e d (Variable x) es l = omega arith
deep_make_e d (Binary o) es l = omega (arith, deep_binary o es.0 es.1.0, l.0, l.1.0)

made_deep_e : (d : ℕ) (h : Expression) (es : Tuple E (node_shape h).exprs) → deep_e (make_e h es) ≤ suc d → AllT (λ e. deep_e e ≤ d) (node_shape h).exprs es
made_deep_e d (Number k) es l = tt
made_deep_e d (Variable x) es l = tt
made_deep_e d (Binary o) es l = let e = deep_binary o es.0 es.1.0 in (omega arith, (omega arith, tt))

-- every expression is a head and its operands
pub record ViewE (e : E) : Type 0 where
  pub head : Expression
  pub operands : Tuple E (node_shape head).exprs
  pub same : make_e head operands ≡ e

pub view_e : (e : E) → ViewE e
view_e (E.num k) = record { head = Number k; operands = tt; same = refl }
view_e (E.var x) = record { head = Variable (variable x); operands = tt; same = refl }
view_e (E.add a b) = record { head = Binary Add; operands = (a, (b, tt)); same = refl }
view_e (E.sub a b) = record { head = Binary Sub; operands = (a, (b, tt)); same = refl }
view_e (E.mul a b) = record { head = Binary Mul; operands = (a, (b, tt)); same = refl }
view_e (E.less a b) = record { head = Binary Less; operands = (a, (b, tt)); same = refl }

pub sound_e : (d : ℕ) → Sound row_e (λ e. deep_e e ≤ d) (λ ws. read_e d ws)
sound_e zero ws = tt
sound_e (suc d) ws =
    bind _ _ (node_of ws) _ (node_sound ws) (λ h us e.
    bind _ _ (many (λ xs. read_e d xs) (node_shape h).exprs us) _ (many_sound row_e (λ e. deep_e e ≤ d) (λ xs. read_e d xs) (sound_e d) (node_shape h).exprs us) (λ es vs k.
    (e ∙ ap (λ z. node_row h ++ z) k.0 ∙ sym (row_make_e h es vs), deep_make_e d h es k.1)))

deep_some : (e : E) → deep_e e ≤ 0 → ⊥
deep_some (E.num k) l = omega arith
deep_some (E.var x) l = omega arith
deep_some (E.add a b) l = omega arith
deep_some (E.sub a b) l = omega arith
deep_some (E.mul a b) l = omega arith
deep_some (E.less a b) l = omega arith

made_complete : (d : ℕ) (h : Expression) (es : Tuple E (node_shape h).exprs) (rest : List ℕ) → Complete row_e (λ e. deep_e e ≤ d) (λ ws. read_e d ws) → deep_e (make_e h es) ≤ suc d → read_e (suc d) (row_e (make_e h es) ++ rest) ≡ Some (make_e h es, rest)
made_complete d h es rest f l =
    rw (row_make_e h es rest, node_complete h (row_t row_e (node_shape h).exprs es rest), many_complete row_e (λ e. deep_e e ≤ d) (λ ws. read_e d ws) f (node_shape h).exprs es rest (made_deep_e d h es l))

pub complete_e : (d : ℕ) → Complete row_e (λ e. deep_e e ≤ d) (λ ws. read_e d ws)
complete_e zero e rest l = absurd (deep_some e l)
complete_e (suc d) e rest l = let v = view_e e in subst (λ t. deep_e t ≤ suc d → read_e (suc d) (row_e t ++ rest) ≡ Some (t, rest)) v.same (made_complete d v.head v.operands rest (complete_e d)) l
