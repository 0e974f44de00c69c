-- How rows are decoded: what stands at the front of a list of words, and the words after it. The nesting that is
-- left is the decoder's fuel.
use Rattle.std.specs.Prelude.{◌≡◌, ℕ, zero, suc, ◌≤◌, Bool, true, false, ◌&&◌, T, ◌↔◌, List, [], ◌∷◌, ◌++◌, length, drop, Some, None, Option, nat_le, nat_lt, slice_index}
use Rattle.owned.specs.declared.names.Var.{Var}
use Rattle.owned.specs.declared.decode.Operator.{Operator}
use Rattle.owned.specs.declared.decode.Operator.TheVariants.{Add, Sub, Mul, Less}
use Rattle.owned.specs.declared.decode.Expression.{Expression}
use Rattle.owned.specs.declared.decode.Expression.TheVariants.{Number, Variable, Binary}
use Rattle.owned.specs.declared.decode.Transfer.{Transfer}
use Rattle.owned.specs.declared.decode.Transfer.TheVariants.{Box, Unbox, Look, Fill, Move}
use Rattle.owned.specs.declared.decode.Statement.{Statement}
use Rattle.owned.specs.declared.decode.Statement.TheVariants.{Skip, Then, Set, Between, Drop, If, While, Call, Show}
use Rattle.owned.specs.declared.decode.Shape.{Shape}
use Rattle.owned.specs.Program.{E, Arg, S, Sig, Proc, Prog}
use Rattle.owned.specs.Rows.{row_e, row_s, row_ps, deep_e, deep_s, ok_s, ok_ps}

-- what was read, and the words after it
abbrev pub Hit : Type 0 → Type 0
Hit A = Option (A × List ℕ)

abbrev pub chain : {A B : Type 0} → Hit A → (A → List ℕ → Hit B) → Hit B
chain None k = None
chain (Some p) k = k p.0 p.1

abbrev pub guard : {A : Type 0} → Bool → Hit A → Hit A
guard true r = r
guard false r = None

-- n things, one after the other
abbrev pub Tuple : Type 0 → ℕ → Type 0
Tuple A zero = Unit {0}
Tuple A (suc n) = A × Tuple A n

abbrev pub many : {A : Type 0} → (List ℕ → Hit A) → (n : ℕ) → List ℕ → Hit (Tuple A n)
many go zero ws = Some (tt, ws)
many go (suc n) ws = chain (go ws) (λ a us. chain (many go n us) (λ as₁ vs. Some ((a, as₁), vs)))

abbrev pub list_t : {A : Type 0} (n : ℕ) → Tuple A n → List A
list_t zero ts = []
list_t (suc n) ts = ts.0 ∷ list_t n ts.1

-- a head that its words say, if they are all there
abbrev pub fits : {H : Type 0} → (H → Shape) → List ℕ → Option H → Hit H
fits shape ws None = None
fits shape ws (Some h) = guard (nat_le (shape h).words (length ws)) (Some (h, drop (shape h).words ws))

-- a head at the front of words, by the first four of them
abbrev pub head_of_by : {H : Type 0} → (H → Shape) → (ℕ → ℕ → ℕ → ℕ → Option H) → List ℕ → Hit H
head_of_by shape by ws = fits shape ws (by (slice_index ws 0) (slice_index ws 1) (slice_index ws 2) (slice_index ws 3))

abbrev pub variable : ℕ → Var
variable x = record { 0 = x }

-- expressions: the head, by its first two words
abbrev pub node_by : ℕ → ℕ → Option Expression
node_by zero k = Some (Number k)
node_by (suc zero) k = Some (Variable (variable k))
node_by (suc (suc zero)) k = Some (Binary Add)
node_by (suc (suc (suc zero))) k = Some (Binary Sub)
node_by (suc (suc (suc (suc zero)))) k = Some (Binary Mul)
node_by (suc (suc (suc (suc (suc zero))))) k = Some (Binary Less)
node_by (suc (suc (suc (suc (suc (suc w)))))) k = None

abbrev pub node_shape : Expression → Shape
node_shape (Number k) = record { words = 2; exprs = 0; args = 0; subs = 0 }
node_shape (Variable x) = record { words = 2; exprs = 0; args = 0; subs = 0 }
node_shape (Binary o) = record { words = 1; exprs = 2; args = 0; subs = 0 }

abbrev pub node_of : List ℕ → Hit Expression
node_of = head_of_by node_shape (λ w x y n. node_by w x)

abbrev pub binary : Operator → E → E → E
binary Add a b = E.add a b
binary Sub a b = E.sub a b
binary Mul a b = E.mul a b
binary Less a b = E.less a b

abbrev pub make_e : (h : Expression) → Tuple E (node_shape h).exprs → E
make_e (Number k) es = E.num k
make_e (Variable x) es = E.var x.0
make_e (Binary o) es = binary o es.0 es.1.0

-- an expression at most d deep
abbrev pub read_e : ℕ → List ℕ → Hit E
read_e zero ws = None
read_e (suc d) ws = chain (node_of ws) (λ h us. chain (many (λ vs. read_e d vs) (node_shape h).exprs us) (λ es vs. Some (make_e h es, vs)))

-- statements: the head, by its first four words
abbrev pub head_by : ℕ → ℕ → ℕ → ℕ → Option Statement
head_by zero x y m = Some Skip
head_by (suc zero) x y m = Some Then
head_by (suc (suc zero)) x y m = Some (Set (variable x))
head_by (suc (suc (suc zero))) x y m = Some (Between Box (variable x) (variable y))
head_by (suc (suc (suc (suc zero)))) x y m = Some (Between Unbox (variable x) (variable y))
head_by (suc (suc (suc (suc (suc zero))))) x y m = Some (Between Look (variable x) (variable y))
head_by (suc (suc (suc (suc (suc (suc zero)))))) x y m = Some (Between Fill (variable x) (variable y))
head_by (suc (suc (suc (suc (suc (suc (suc zero))))))) x y m = Some (Between Move (variable x) (variable y))
head_by (suc (suc (suc (suc (suc (suc (suc (suc zero)))))))) x y m = Some (Drop (variable x))
head_by (suc (suc (suc (suc (suc (suc (suc (suc (suc zero))))))))) x y m = Some If
head_by (suc (suc (suc (suc (suc (suc (suc (suc (suc (suc zero)))))))))) x y m = Some While
head_by (suc (suc (suc (suc (suc (suc (suc (suc (suc (suc (suc zero))))))))))) x y m = Some (Call (variable x) y m)
head_by (suc (suc (suc (suc (suc (suc (suc (suc (suc (suc (suc (suc zero)))))))))))) x y m = Some Show
head_by (suc (suc (suc (suc (suc (suc (suc (suc (suc (suc (suc (suc (suc w))))))))))))) x y m = None

abbrev pub head_shape : Statement → Shape
head_shape Skip = record { words = 1; exprs = 0; args = 0; subs = 0 }
head_shape Then = record { words = 1; exprs = 0; args = 0; subs = 2 }
head_shape (Set x) = record { words = 2; exprs = 1; args = 0; subs = 0 }
head_shape (Between o x y) = record { words = 3; exprs = 0; args = 0; subs = 0 }
head_shape (Drop x) = record { words = 2; exprs = 0; args = 0; subs = 0 }
head_shape If = record { words = 1; exprs = 1; args = 0; subs = 2 }
head_shape While = record { words = 1; exprs = 1; args = 0; subs = 1 }
head_shape (Call x f m) = record { words = 4; exprs = 0; args = m; subs = 0 }
head_shape Show = record { words = 1; exprs = 1; args = 0; subs = 0 }

abbrev pub head_of : List ℕ → Hit Statement
head_of = head_of_by head_shape head_by

-- what follows a head
pub record Parts (h : Statement) : Type 0 where
  pub es : Tuple E (head_shape h).exprs
  pub as₁ : Tuple Arg (head_shape h).args
  pub ss : Tuple S (head_shape h).subs

abbrev pub between : Transfer → ℕ → ℕ → S
between Box x y = S.box x y
between Unbox x y = S.unbox x y
between Look x y = S.look x y
between Fill x y = S.fill x y
between Move x y = S.move x y

abbrev pub make : (h : Statement) → Parts h → S
make Skip v = S.skip
make Then v = S.then v.ss.0 v.ss.1.0
make (Set x) v = S.set x.0 v.es.0
make (Between o x y) v = between o x.0 y.0
make (Drop x) v = S.drop x.0
make If v = S.if v.es.0 v.ss.0 v.ss.1.0
make While v = S.while v.es.0 v.ss.0
make (Call x f m) v = S.call x.0 f (list_t m v.as₁)
make Show v = S.show v.es.0

abbrev pub word : List ℕ → Hit ℕ
word [] = None
word (w ∷ ws) = Some (w, ws)

abbrev pub below1 : ℕ → List ℕ → Hit ℕ
below1 k ws = chain (word ws) (λ w us. guard (nat_lt w k) (Some (w, us)))

abbrev pub read_a : List ℕ → Hit Arg
read_a ws = chain (word ws) (λ x us. chain (below1 2 us) (λ l vs. Some (record { of = x; lent = l }, vs)))

abbrev pub parts : (List ℕ → Hit E) → (List ℕ → Hit S) → (h : Statement) → List ℕ → Hit (Parts h)
parts re rs h ws =
    chain (many re (head_shape h).exprs ws) (λ es us. chain (many read_a (head_shape h).args us) (λ as₁ vs. chain (many rs (head_shape h).subs vs) (λ ss xs. Some (record { es = es; as₁ = as₁; ss = ss }, xs))))

-- a statement at most d deep
abbrev pub read_s : ℕ → List ℕ → Hit S
read_s zero ws = None
read_s (suc d) ws = chain (head_of ws) (λ h us. chain (parts (λ vs. read_e d vs) (λ vs. read_s d vs) h us) (λ v vs. Some (make h v, vs)))

-- a procedure: at most 32 variables of kinds below 9, then at most 8 arguments
abbrev pub read_sig : List ℕ → Hit Sig
read_sig ws =
    chain (word ws) (λ m us. guard (nat_le m 32) (chain (many (below1 9) m us) (λ ks vs. chain (word vs) (λ n xs. guard (nat_le n 8 && nat_le n m)
    (chain (many (below1 2) n xs) (λ as₁ ys. chain (word ys) (λ r zs. Some (record { kinds = list_t m ks; args = list_t n as₁; result = r }, zs))))))))

abbrev pub read_p : List ℕ → Hit Proc
read_p ws = chain (read_sig ws) (λ p us. chain (read_s 128 us) (λ b vs. Some (record { sig = p; body = b }, vs)))

abbrev pub onto : {A : Type 0} → A → Option (List A) → Option (List A)
onto a None = None
onto a (Some as₁) = Some (a ∷ as₁)

abbrev pub before : Hit Proc → (List ℕ → Option Prog) → Option Prog
before None k = None
before (Some p) k = onto p.0 (k p.1)

-- procedures up to the end of the words, at most k
abbrev pub read_ps : ℕ → List ℕ → Option Prog
read_ps zero [] = Some []
read_ps zero (w ∷ ws) = None
read_ps (suc k) [] = Some []
read_ps (suc k) (w ∷ ws) = before (read_p (w ∷ ws)) (λ us. read_ps k us)

-- The decoders answer just where the words are the writing of what they answer, within the limits.
pub record ExactDecoder : Type 0 where
  pub expressions : (d : ℕ) (ws : List ℕ) (e : E) (rest : List ℕ) → (read_e d ws ≡ Some (e, rest)) ↔ ((ws ≡ row_e e ++ rest) × (deep_e e ≤ d))
  pub statements : (d : ℕ) (ws : List ℕ) (s : S) (rest : List ℕ) → (read_s d ws ≡ Some (s, rest)) ↔ ((ws ≡ row_s s ++ rest) × (deep_s s ≤ d) × T (ok_s s))
  pub programs : (k : ℕ) (ws : List ℕ) (g : Prog) → (read_ps k ws ≡ Some g) ↔ ((ws ≡ row_ps g) × (length g ≤ k) × T (ok_ps g))
