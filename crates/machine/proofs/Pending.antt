-- Which statements are pending where execution stands: a statement is entered at the first that takes a step, and the
-- others of a pair follow it.
use Rattle.std.proofs.Common.{◌≡◌, ℕ, ◌+◌, ◌<◌, true, List, [], ◌∷◌, ◌++◌, length, drop, refl, ◌∙◌, append_assoc}
use Rattle.std.proofs.lemmas.Bool.{both_ways}
use Rattle.owned.specs.Program.{E, S}
use Rattle.owned.specs.Rows.{row_e, row_s}
use Rattle.owned.specs.Machine.{push}
use Rattle.linker.specs.Code.{Code, entry, Here, At, Pends}
use Rattle.machine.specs.Represents.{single, Singles}
use Rattle.machine.proofs.Evaluating.{drop_past, word_here}

pub entered_pends : (c : Code) (a : S) (q r : ℕ) (ss : List S) → At c a q r → Pends c r ss → Pends c (entry a q) (push a ss)
entered_pends c S.skip q r ss h p = (r, h, p)
entered_pends c (S.then a b) q r ss h p = entered_pends c a (q + 1) _ (push b ss) h.0 (entered_pends c b (q + 1 + length (row_s a)) r ss h.1 p)
entered_pends c (S.set x e) q r ss h p = (r, h, p)
entered_pends c (S.box x y) q r ss h p = (r, h, p)
entered_pends c (S.unbox x y) q r ss h p = (r, h, p)
entered_pends c (S.look x y) q r ss h p = (r, h, p)
entered_pends c (S.fill x y) q r ss h p = (r, h, p)
entered_pends c (S.move x y) q r ss h p = (r, h, p)
entered_pends c (S.drop x) q r ss h p = (r, h, p)
entered_pends c (S.if e a b) q r ss h p = (r, h, p)
entered_pends c (S.while e a) q r ss h p = (r, h, p)
entered_pends c (S.call x f as₁) q r ss h p = (r, h, p)
entered_pends c (S.show e) q r ss h p = (r, h, p)

pub push_singles : (a : S) (ss : List S) → Singles ss → Singles (push a ss)
push_singles S.skip ss h = (refl, h)
push_singles (S.then a b) ss h = push_singles a (push b ss) (push_singles b ss h)
push_singles (S.set x e) ss h = (refl, h)
push_singles (S.box x y) ss h = (refl, h)
push_singles (S.unbox x y) ss h = (refl, h)
push_singles (S.look x y) ss h = (refl, h)
push_singles (S.fill x y) ss h = (refl, h)
push_singles (S.move x y) ss h = (refl, h)
push_singles (S.drop x) ss h = (refl, h)
push_singles (S.if e a b) ss h = (refl, h)
push_singles (S.while e a) ss h = (refl, h)
push_singles (S.call x f as₁) ss h = (refl, h)
push_singles (S.show e) ss h = (refl, h)

-- a statement that is no pair stands where it is entered
pub stands : (c : Code) (a : S) (q r : ℕ) → single a ≡ true → At c a q r → Here c a q r
stands c S.skip q r e h = h
stands c (S.then a b) q r e h = absurd (both_ways _ refl e)
stands c (S.set x y) q r e h = h
stands c (S.box x y) q r e h = h
stands c (S.unbox x y) q r e h = h
stands c (S.look x y) q r e h = h
stands c (S.fill x y) q r e h = h
stands c (S.move x y) q r e h = h
stands c (S.drop x) q r e h = h
stands c (S.if x a b) q r e h = h.0
stands c (S.while x a) q r e h = h.0
stands c (S.call x f as₁) q r e h = h
stands c (S.show x) q r e h = h

-- the expression after one word
pub expr_next : (c : Code) (q o : ℕ) (e : E) (xs rest : List ℕ) → drop q c.rows ≡ o ∷ ((row_e e ++ xs) ++ rest) → (us : List ℕ) × (drop (q + 1) c.rows ≡ row_e e ++ us)
expr_next c q o e xs rest h = (xs ++ rest, drop_past q c.rows (o ∷ []) _ h ∙ append_assoc (row_e e) xs rest)

pub first_word : (c : Code) (a : S) (q r : ℕ) → Here c a q r → q < length c.rows
first_word c S.skip q r h = (word_here q c.rows _ _ h.words.1).0
first_word c (S.then a b) q r h = (word_here q c.rows _ _ h.words.1).0
first_word c (S.set x e) q r h = (word_here q c.rows _ _ h.words.1).0
first_word c (S.box x y) q r h = (word_here q c.rows _ _ h.words.1).0
first_word c (S.unbox x y) q r h = (word_here q c.rows _ _ h.words.1).0
first_word c (S.look x y) q r h = (word_here q c.rows _ _ h.words.1).0
first_word c (S.fill x y) q r h = (word_here q c.rows _ _ h.words.1).0
first_word c (S.move x y) q r h = (word_here q c.rows _ _ h.words.1).0
first_word c (S.drop x) q r h = (word_here q c.rows _ _ h.words.1).0
first_word c (S.if e a b) q r h = (word_here q c.rows _ _ h.words.1).0
first_word c (S.while e a) q r h = (word_here q c.rows _ _ h.words.1).0
first_word c (S.call x f as₁) q r h = (word_here q c.rows _ _ h.words.1).0
first_word c (S.show e) q r h = (word_here q c.rows _ _ h.words.1).0
