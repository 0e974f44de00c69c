-- Positions as the pending statements they stand for: what is at a place depends only on the words and the tables there,
-- and where a statement is entered, it is pending with what follows it.
use Rattle.std.proofs.Common.{ℕ, ◌+◌, ◌<◌, ◌≤◌, List, ◌++◌, length, drop, ap, ◌∙◌, arith, length-append}
use Rattle.owned.specs.Program.{E, S}
use Rattle.owned.specs.Rows.{row_e, row_s}
use Rattle.linker.specs.Code.{Code, entry, Second, AtE, ExprOf, Here, Part, At}
use Rattle.linker.specs.Links.{Same, Agree, part_rows}

same_within : (as₁ bs : List ℕ) (from to i j : ℕ) → from ≤ i → j ≤ to → Same as₁ bs from to → Same as₁ bs i j
same_within as₁ bs from to i j l h s = record { long = s.long; each = λ k p q. s.each k (omega arith) (omega arith) }

pub agree_within : (c d : Code) (from to i j : ℕ) → from ≤ i → j ≤ to → Agree c d from to → Agree c d i j
agree_within c d from to i j l h a =
    record {
      rows = a.rows;
      follow = same_within c.follow d.follow from to i j l h a.follow;
      inner = same_within c.inner d.inner from to i j l h a.inner;
      other = same_within c.other d.other from to i j l h a.other;
    }

-- every statement has a word
pub some_words : (s : S) → 0 < length (row_s s)
some_words S.skip = omega arith
some_words (S.then a b) = omega arith
some_words (S.set x e) = omega arith
some_words (S.box x y) = omega arith
some_words (S.unbox x y) = omega arith
some_words (S.look x y) = omega arith
some_words (S.fill x y) = omega arith
some_words (S.move x y) = omega arith
some_words (S.drop x) = omega arith
some_words (S.if e a b) = omega arith
some_words (S.while e a) = omega arith
some_words (S.call x f as₁) = omega arith
some_words (S.show e) = omega arith

module _ (c d : Code) where
  second_frame : (q j i : ℕ) → q < j → Same c.inner d.inner q j → Second c q i → Second d q i
  second_frame q j i l a h = record { room = omega (arith, a.long, h.room); is = a.each q (omega arith) l ∙ h.is }

  operands_frame : (x y : E) (q : ℕ) → Agree c d q (q + 1 + length (row_e x ++ row_e y)) → ((i : ℕ) → Agree c d i (i + length (row_e x)) → AtE c x i → AtE d x i) → ((i : ℕ) → Agree c d i (i + length (row_e y)) → AtE c y i → AtE d y i) → Second c q (q + 1 + length (row_e x)) × AtE c x (q + 1) × AtE c y (q + 1 + length (row_e x)) → Second d q (q + 1 + length (row_e x)) × AtE d x (q + 1) × AtE d y (q + 1 + length (row_e x))
  operands_frame x y q a fx fy (h, hx, hy) =
      let n = length-append (row_e x) (row_e y) in
      let b : ℕ = q + 1 + length (row_e x) in (
        second_frame q _ b (omega arith) a.inner h,
        fx (q + 1) (agree_within c d q _ (q + 1) b (omega arith) (omega arith) a) hx,
        fy b (agree_within c d q _ b (b + length (row_e y)) (omega arith) (omega arith) a) hy,
      )

  -- an expression's places stay where the tables agree on its words
  pub expr_frame : (e : E) (q : ℕ) → Agree c d q (q + length (row_e e)) → AtE c e q → AtE d e q
  expr_frame (E.num k) q a h = tt
  expr_frame (E.var x) q a h = tt
  expr_frame (E.add x y) q a h = operands_frame x y q (agree_within c d q _ q _ (omega arith) (omega arith) a) (expr_frame x) (expr_frame y) h
  expr_frame (E.sub x y) q a h = operands_frame x y q (agree_within c d q _ q _ (omega arith) (omega arith) a) (expr_frame x) (expr_frame y) h
  expr_frame (E.mul x y) q a h = operands_frame x y q (agree_within c d q _ q _ (omega arith) (omega arith) a) (expr_frame x) (expr_frame y) h
  expr_frame (E.less x y) q a h = operands_frame x y q (agree_within c d q _ q _ (omega arith) (omega arith) a) (expr_frame x) (expr_frame y) h

  -- and so for the expression in a statement, which stands before its parts
  pub expr_of_frame : (s : S) (q j : ℕ) → q + length (row_s s) ≤ j + length (part_rows s) → Agree c d (q + 1) j → ExprOf c s q → ExprOf d s q
  expr_of_frame S.skip q j l a h = tt
  expr_of_frame (S.then x y) q j l a h = tt
  expr_of_frame (S.set x e) q j l a h = expr_frame e (q + 2) (agree_within c d (q + 1) j (q + 2) (q + 2 + length (row_e e)) (omega arith) (omega arith) a) h
  expr_of_frame (S.box x y) q j l a h = tt
  expr_of_frame (S.unbox x y) q j l a h = tt
  expr_of_frame (S.look x y) q j l a h = tt
  expr_of_frame (S.fill x y) q j l a h = tt
  expr_of_frame (S.move x y) q j l a h = tt
  expr_of_frame (S.drop x) q j l a h = tt
  expr_of_frame (S.if e x y) q j l a h =
      let n = length-append (row_e e) (row_s x ++ row_s y) in
      expr_frame e (q + 1) (agree_within c d (q + 1) j (q + 1) (q + 1 + length (row_e e)) (omega arith) (omega arith) a) h
  expr_of_frame (S.while e x) q j l a h =
      let n = length-append (row_e e) (row_s x) in
      expr_frame e (q + 1) (agree_within c d (q + 1) j (q + 1) (q + 1 + length (row_e e)) (omega arith) (omega arith) a) h
  expr_of_frame (S.call x f as₁) q j l a h = tt
  expr_of_frame (S.show e) q j l a h = expr_frame e (q + 1) (agree_within c d (q + 1) j (q + 1) (q + 1 + length (row_e e)) (omega arith) (omega arith) a) h

  here_frame : (s : S) (q r : ℕ) → Agree c d q (q + length (row_s s)) → Here c s q r → Here d s q r
  here_frame s q r a h =
      let n = some_words s in
      record {
        words = (h.words.0, ap (λ ws. drop q ws) a.rows ∙ h.words.1);
        expr = expr_of_frame s q (q + length (row_s s)) (omega arith) (agree_within c d q _ (q + 1) (q + length (row_s s)) (omega arith) (omega arith) a) h.expr;
        room = omega (arith, a.follow.long, h.room);
        next = a.follow.each q (omega arith) (omega arith) ∙ h.next;
      }

  part_frame : (as₁ bs : List ℕ) (s : S) (q j i : ℕ) → q < j → Same as₁ bs q j → Part as₁ q s i → Part bs q s i
  part_frame as₁ bs s q j i l a h = record { room = omega (arith, a.long, h.room); enters = a.each q (omega arith) l ∙ h.enters }

  -- what is at a place stays where the tables agree on its words
  pub at_frame : (s : S) (q r : ℕ) → Agree c d q (q + length (row_s s)) → At c s q r → At d s q r
  at_frame S.skip q r a h = here_frame S.skip q r a h
  at_frame (S.then x y) q r a (hx, hy) =
      let n = length-append (row_s x) (row_s y) in (
        at_frame x (q + 1) (entry y (q + 1 + length (row_s x))) (agree_within c d q _ (q + 1) (q + 1 + length (row_s x)) (omega arith) (omega arith) a) hx,
        at_frame y (q + 1 + length (row_s x)) r (agree_within c d q _ (q + 1 + length (row_s x)) (q + 1 + length (row_s x) + length (row_s y)) (omega arith) (omega arith) a) hy,
      )
  at_frame (S.set x e) q r a h = here_frame (S.set x e) q r a h
  at_frame (S.box x y) q r a h = here_frame (S.box x y) q r a h
  at_frame (S.unbox x y) q r a h = here_frame (S.unbox x y) q r a h
  at_frame (S.look x y) q r a h = here_frame (S.look x y) q r a h
  at_frame (S.fill x y) q r a h = here_frame (S.fill x y) q r a h
  at_frame (S.move x y) q r a h = here_frame (S.move x y) q r a h
  at_frame (S.drop x) q r a h = here_frame (S.drop x) q r a h
  at_frame (S.if e x y) q r a (h, i, o, hx, hy) =
      let n = length-append (row_e e) (row_s x ++ row_s y) in
      let m = length-append (row_s x) (row_s y) in
      let b : ℕ = q + 1 + length (row_e e) in (
        here_frame (S.if e x y) q r a h,
        part_frame c.inner d.inner x q _ b (omega arith) a.inner i,
        part_frame c.other d.other y q _ (b + length (row_s x)) (omega arith) a.other o,
        at_frame x b r (agree_within c d q _ b (b + length (row_s x)) (omega arith) (omega arith) a) hx,
        at_frame y (b + length (row_s x)) r (agree_within c d q _ (b + length (row_s x)) (b + length (row_s x) + length (row_s y)) (omega arith) (omega arith) a) hy,
      )
  at_frame (S.while e x) q r a (h, i, hx) =
      let n = length-append (row_e e) (row_s x) in
      let b : ℕ = q + 1 + length (row_e e) in
      (here_frame (S.while e x) q r a h, part_frame c.inner d.inner x q _ b (omega arith) a.inner i, at_frame x b q (agree_within c d q _ b (b + length (row_s x)) (omega arith) (omega arith) a) hx)
  at_frame (S.call x f as₁) q r a h = here_frame (S.call x f as₁) q r a h
  at_frame (S.show e) q r a h = here_frame (S.show e) q r a h
