-- What the words of an expression say of its value: a leaf is two words, any other has its two operands after one.
use Rattle.std.proofs.Common.{◌≡◌, ℕ, zero, suc, ◌+◌, ◌<◌, ◌≤◌, true, false, List, [], ◌∷◌, ◌++◌, length, get_or, drop, sym, refl, ap, ◌∙◌, subst, append_assoc, arith}
use Rattle.std.proofs.lemmas.List.{drop-drop}
use Rattle.std.proofs.lemmas.Bool.Decides.{nat_tests}
use Rattle.owned.specs.Program.{E, Sig}
use Rattle.owned.specs.Runs.{Val, n, at, nothing, St, May, ok, bad, as_num, with_m, value, get}
use Rattle.owned.specs.Rows.{row_e}
use Rattle.linker.specs.Code.{Second, AtE}
use Rattle.machine.specs.Memory.{Control, Memory}
use Rattle.machine.specs.Represents.{Means, State}
use Rattle.machine.specs.Operations.{Evaluates, CanEvaluate, Evaluated, combined, nests}
use Rattle.machine.proofs.Words.{word_in, get_var}

-- past the words that stand at a place
drop_front : (xs ys : List ℕ) → drop (length xs) (xs ++ ys) ≡ ys
drop_front [] ys = refl
drop_front (x ∷ xs) ys = drop_front xs ys

pub drop_past : (i : ℕ) (ws xs ys : List ℕ) → drop i ws ≡ xs ++ ys → drop (i + length xs) ws ≡ ys
drop_past i ws xs ys e = sym (drop-drop (length xs) i ws) ∙ ap (drop (length xs)) e ∙ drop_front xs ys

pub word_here : (i : ℕ) (ws us : List ℕ) (x : ℕ) → drop i ws ≡ x ∷ us → (i < length ws) × (get_or ws i 0 ≡ x)
word_here i ws us x e = let w = word_in i ws (x ∷ us) 0 e (omega arith) in let z : i + 0 ≡ i = omega arith in rw z at w

-- a number, by its word
pub number_word : (v : Val) (w k : ℕ) → Means v w → as_num v ≡ ok k → w ≡ k
number_word (n j) w k m e = let f : j ≡ k = cc in m ∙ f
number_word (at a b) w k m e = let z : ◌≡◌ {A = ℕ} 0 1 = cc in absurd (omega arith)
number_word nothing w k m e = let z : ◌≡◌ {A = ℕ} 0 1 = cc in absurd (omega arith)

number_there : (vs : List Val) (x k : ℕ) → as_num (get_or vs x nothing) ≡ ok k → x < length vs
number_there [] x k e = let z : ◌≡◌ {A = ℕ} 0 1 = cc in absurd (omega arith)
number_there (v ∷ vs) zero k e = omega arith
number_there (v ∷ vs) (suc x) k e = let l = number_there vs x k e in omega arith

with_m_ok : (m : May) (f : ℕ → May) (k : ℕ) → with_m m f ≡ ok k → (x : ℕ) × (m ≡ ok x) × (f x ≡ ok k)
with_m_ok bad f k e = let z : ◌≡◌ {A = ℕ} 0 1 = cc in absurd (omega arith)
with_m_ok (ok x) f k e = (x, refl, e)

module _ (c : Control) (m : Memory) (i : ℕ) where
  -- the first word is there
  pub first_there : (p : Sig) (s : St) (e : E) (k : ℕ) → Evaluates c m i p s e k → i < length c.code.rows
  first_there p s (E.num x) k v = (word_here i c.code.rows _ 0 v.expr.words.1).0
  first_there p s (E.var x) k v = (word_here i c.code.rows _ 1 v.expr.words.1).0
  first_there p s (E.add a b) k v = (word_here i c.code.rows _ 2 v.expr.words.1).0
  first_there p s (E.sub a b) k v = (word_here i c.code.rows _ 3 v.expr.words.1).0
  first_there p s (E.mul a b) k v = (word_here i c.code.rows _ 4 v.expr.words.1).0
  first_there p s (E.less a b) k v = (word_here i c.code.rows _ 5 v.expr.words.1).0

  pub can : {p : Sig} {s : St} {e : E} {k : ℕ} → Evaluates c m i p s e k → CanEvaluate c m i
  can {p} {s} {e} {k} v = record { sig = p; state = s; expr = e; number = k; evaluates = v; here = first_there p s e k v }

module _ (c : Control) (m : Memory) (i : ℕ) where
  -- a leaf: its second word is the number or the variable
  pub record Leaf (s : St) (e : E) (k : ℕ) : Type 0 where
    pub room : i + 1 < length c.code.rows
    pub long : length (row_e e) ≡ 2
    pub number : get_or c.code.rows i 0 ≡ 0 → get_or c.code.rows (i + 1) 0 ≡ k
    pub variable : (get_or c.code.rows i 0 ≡ 0 → ⊥) → (c.base + get_or c.code.rows (i + 1) 0 < length m.frames) × (get_or m.frames (c.base + get_or c.code.rows (i + 1) 0) 0 ≡ k)

  pub leaf : get_or c.code.rows i 0 < 2 → (p : Sig) (s : St) (e : E) (k : ℕ) → Evaluates c m i p s e k → Leaf s e k
  leaf l p s (E.num x) k v =
      let w = word_here i c.code.rows _ 0 v.expr.words.1 in
      let u = word_in i c.code.rows _ 1 v.expr.words.1 (omega arith) in
      let q = v.value in let z : x ≡ k = cc in
      record { room = u.0; long = refl; number = λ _. u.1 ∙ z; variable = λ ne. absurd (ne w.1) }
  leaf l p s (E.var x) k v =
      let w = word_here i c.code.rows _ 1 v.expr.words.1 in
      let u = word_in i c.code.rows _ 1 v.expr.words.1 (omega arith) in
      let g = get_var v.state x (number_there s.vars x k v.value) in
      record { room = u.0; long = refl; number = λ z. absurd (omega (arith, z, w.1)); variable = λ ne. rw u.1 (g.0, number_word (get s x) _ k g.1 v.value) }
  leaf l p s (E.add a b) k v = absurd (omega (arith, (word_here i c.code.rows _ 2 v.expr.words.1).1))
  leaf l p s (E.sub a b) k v = absurd (omega (arith, (word_here i c.code.rows _ 3 v.expr.words.1).1))
  leaf l p s (E.mul a b) k v = absurd (omega (arith, (word_here i c.code.rows _ 4 v.expr.words.1).1))
  leaf l p s (E.less a b) k v = absurd (omega (arith, (word_here i c.code.rows _ 5 v.expr.words.1).1))

  module _ (l : get_or c.code.rows i 0 < 2) where
    pub leaf_room : CanEvaluate c m i → i + 1 < length c.code.rows
    leaf_room h = (leaf l h.sig h.state h.expr h.number h.evaluates).room

    pub leaf_number : get_or c.code.rows i 0 ≡ 0 → Evaluated c m i (get_or c.code.rows (i + 1) 0)
    leaf_number z p s e k v = (leaf l p s e k v).number z

    pub leaf_load : (get_or c.code.rows i 0 ≡ 0 → ⊥) → CanEvaluate c m i → c.base + get_or c.code.rows (i + 1) 0 < length m.frames
    leaf_load ne h = ((leaf l h.sig h.state h.expr h.number h.evaluates).variable ne).0

    pub leaf_variable : {w : ℕ} → (get_or c.code.rows i 0 ≡ 0 → ⊥) → w ≡ get_or m.frames (c.base + get_or c.code.rows (i + 1) 0) 0 → Evaluated c m i w
    leaf_variable ne ew p s e k v = ew ∙ ((leaf l p s e k v).variable ne).1

  -- two operands, of which the table says where the second begins
  pub record Operands (p : Sig) (s : St) (k : ℕ) : Type 0 where
    pub a : E
    pub b : E
    pub x : ℕ
    pub y : ℕ
    pub room : i < length c.code.inner
    pub second : get_or c.code.inner i 0 ≡ i + 1 + length (row_e a)
    pub left : Evaluates c m (i + 1) p s a x
    pub right : Evaluates c m (i + 1 + length (row_e a)) p s b y
    pub whole : k ≡ combined (get_or c.code.rows i 0) x y

  joined : (o : ℕ) (p : Sig) (s : St) (a b : E) (k : ℕ) (rest : List ℕ) → State c m p s → drop i c.code.rows ≡ o ∷ ((row_e a ++ row_e b) ++ rest) → Second c.code i (i + 1 + length (row_e a)) × AtE c.code a (i + 1) × AtE c.code b (i + 1 + length (row_e a))
      → with_m (value s a) (λ x. with_m (value s b) (λ y. ok (combined o x y))) ≡ ok k → Operands p s k
  joined o p s a b k rest r w q h =
      let one = with_m_ok (value s a) (λ x. with_m (value s b) (λ y. ok (combined o x y))) k h in
      let two = with_m_ok (value s b) (λ y. ok (combined o one.0 y)) k one.2 in
      let f = word_here i c.code.rows _ o w in
      let t : drop (i + 1) c.code.rows ≡ row_e a ++ (row_e b ++ rest) = drop_past i c.code.rows (o ∷ []) _ w ∙ append_assoc (row_e a) (row_e b) rest in
      let u = two.2 in let z : k ≡ combined o one.0 two.0 = cc in
      record {
        a = a;
        b = b;
        x = one.0;
        y = two.0;
        room = q.0.room;
        second = q.0.is;
        left = record { state = r; expr = record { words = (row_e b ++ rest, t); table = q.1 }; value = one.1 };
        right = record { state = r; expr = record { words = (rest, drop_past (i + 1) c.code.rows (row_e a) (row_e b ++ rest) t); table = q.2 }; value = two.1 };
        whole = z ∙ ap (λ o. combined o one.0 two.0) (sym f.1);
      }

  pub operands : 2 ≤ get_or c.code.rows i 0 → (p : Sig) (s : St) (e : E) (k : ℕ) → Evaluates c m i p s e k → Operands p s k
  operands l p s (E.num x) k v = absurd (omega (arith, (word_here i c.code.rows _ 0 v.expr.words.1).1))
  operands l p s (E.var x) k v = absurd (omega (arith, (word_here i c.code.rows _ 1 v.expr.words.1).1))
  operands l p s (E.add a b) k v = joined 2 p s a b k v.expr.words.0 v.state v.expr.words.1 v.expr.table v.value
  operands l p s (E.sub a b) k v = joined 3 p s a b k v.expr.words.0 v.state v.expr.words.1 v.expr.table v.value
  operands l p s (E.mul a b) k v = joined 4 p s a b k v.expr.words.0 v.state v.expr.words.1 v.expr.table v.value
  operands l p s (E.less a b) k v = joined 5 p s a b k v.expr.words.0 v.state v.expr.words.1 v.expr.table v.value

module _ (c : Control) (m : Memory) (i : ℕ) (l : 2 ≤ get_or c.code.rows i 0) where
  parts : (h : CanEvaluate c m i) → Operands c m i h.sig h.state h.number
  parts h = operands c m i l h.sig h.state h.expr h.number h.evaluates

  pub second_there : CanEvaluate c m i → i < length c.code.inner
  second_there h = (parts h).room

  pub can_left : CanEvaluate c m i → CanEvaluate c m (i + 1)
  can_left h = can c m (i + 1) (parts h).left

  pub can_right : CanEvaluate c m i → CanEvaluate c m (get_or c.code.inner i 0)
  can_right h = let t = parts h in rw t.second (can c m (i + 1 + length (row_e t.a)) t.right)

  pub past_left : CanEvaluate c m i → i < get_or c.code.inner i 0
  past_left h = let t = parts h in omega (arith, t.second)

  pub both_done : {x y z : ℕ} → Evaluated c m (i + 1) x → Evaluated c m (get_or c.code.inner i 0) y → z ≡ combined (get_or c.code.rows i 0) x y → Evaluated c m i z
  both_done {x} {y} one two ez p s e k v =
      let t = operands c m i l p s e k v in
      let u = one p s t.a t.x t.left in
      let w = (rw t.second at two) p s t.b t.y t.right in
      ez ∙ (λ h. combined (get_or c.code.rows i 0) (u h) (w h)) ∙ sym t.whole

  -- after a leaf the second operand begins at once
  leaf_next : get_or c.code.rows (i + 1) 0 < 2 → (p : Sig) (s : St) (e : E) (k : ℕ) (v : Evaluates c m i p s e k) → get_or c.code.inner i 0 ≡ i + 3
  leaf_next f p s e k v = let t = operands c m i l p s e k v in omega (arith, t.second, (leaf c m (i + 1) f p s t.a t.x t.left).long)

  pub can_next : get_or c.code.rows (i + 1) 0 < 2 → CanEvaluate c m i → CanEvaluate c m (i + 3)
  can_next f h = subst (λ j. CanEvaluate c m j) (leaf_next f h.sig h.state h.expr h.number h.evaluates) (can_right h)

  pub leaves_done : {x y z : ℕ} → get_or c.code.rows (i + 1) 0 < 2 → Evaluated c m (i + 1) x → Evaluated c m (i + 3) y → z ≡ combined (get_or c.code.rows i 0) x y → Evaluated c m i z
  leaves_done {y = y} f one two ez p s e k v = both_done one (subst (λ j. Evaluated c m j y) (sym (leaf_next f p s e k v)) two) ez p s e k v

-- an operator that is not nested has two leaves
pub two_leaves : (ws : List ℕ) (i : ℕ) → nests ws i ≡ false → 2 ≤ get_or ws i 0 → (get_or ws (i + 1) 0 < 2) × (get_or ws (i + 3) 0 < 2)
two_leaves ws i f l = (grind (arith, nat_tests), grind (arith, nat_tests))

pub nests_operator : (ws : List ℕ) (i : ℕ) → nests ws i ≡ true → 2 ≤ get_or ws i 0
nests_operator ws i f = grind (arith, nat_tests)
