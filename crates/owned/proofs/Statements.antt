-- The decoder of statements reads just what is written: by the head, then by the parts that its shape says.
-- Every statement is a head and its parts, so one path serves them all; a new kind costs a line in each table.
use Rattle.std.proofs.Common.{◌≡◌, ℕ, zero, suc, ◌≤◌, T, ltb, List, [], ◌∷◌, ◌++◌, length, get_or, Some, sym, refl, ap, ◌∙◌, subst, append_assoc, arith, le→leb}
use Rattle.owned.specs.declared.decode.Transfer.{Transfer}
use Rattle.owned.specs.declared.decode.Transfer.TheVariants.{Box, Unbox, Look, Fill, Move}
use Rattle.owned.specs.declared.decode.Statement.{Statement}
use Rattle.owned.specs.declared.decode.Statement.TheVariants.{Skip, Then, Set, Between, Drop, If, While, Call, Show}
use Rattle.owned.specs.Program.{Arg, S}
use Rattle.owned.specs.Rows.{row_e, row_as, row_s, deep_e, deep_s, ok_s, marks}
use Rattle.owned.specs.Decode.{Tuple, many, list_t, variable, head_shape, head_by, head_of, Parts, between, make, below1, read_a, read_e, parts, read_s}
use Rattle.owned.proofs.Chains.{and_t, T_and, Good, bind, passed, AllT, row_t, Sound, Complete, many_sound, many_complete, tuple_of, list_tuple, length_list_t, below_sound, below_complete, front1, front2, front3, front4, Fronted, fits_sound}
use Rattle.owned.proofs.Expressions.{sound_e, complete_e}

-- heads
abbrev pub transfer_code : Transfer → ℕ
transfer_code Box = 3
transfer_code Unbox = 4
transfer_code Look = 5
transfer_code Fill = 6
transfer_code Move = 7

abbrev pub head_row : Statement → List ℕ
head_row Skip = 0 ∷ []
head_row Then = 1 ∷ []
head_row (Set x) = 2 ∷ x.0 ∷ []
head_row (Between o x y) = transfer_code o ∷ x.0 ∷ y.0 ∷ []
head_row (Drop x) = 8 ∷ x.0 ∷ []
head_row If = 9 ∷ []
head_row While = 10 ∷ []
head_row (Call x f m) = 11 ∷ x.0 ∷ f ∷ m ∷ []
head_row Show = 12 ∷ []

by_word : (ws : List ℕ) (w : ℕ) → get_or ws 0 0 ≡ w → Fronted head_shape head_row ws (head_by w (get_or ws 1 0) (get_or ws 2 0) (get_or ws 3 0))
by_word ws zero e = front1 ws 0 e
by_word ws (suc zero) e = front1 ws 1 e
by_word ws (suc (suc zero)) e = front2 ws 2 e
by_word ws (suc (suc (suc zero))) e = front3 ws 3 e
by_word ws (suc (suc (suc (suc zero)))) e = front3 ws 4 e
by_word ws (suc (suc (suc (suc (suc zero))))) e = front3 ws 5 e
by_word ws (suc (suc (suc (suc (suc (suc zero)))))) e = front3 ws 6 e
by_word ws (suc (suc (suc (suc (suc (suc (suc zero))))))) e = front3 ws 7 e
by_word ws (suc (suc (suc (suc (suc (suc (suc (suc zero)))))))) e = front2 ws 8 e
by_word ws (suc (suc (suc (suc (suc (suc (suc (suc (suc zero))))))))) e = front1 ws 9 e
by_word ws (suc (suc (suc (suc (suc (suc (suc (suc (suc (suc zero)))))))))) e = front1 ws 10 e
by_word ws (suc (suc (suc (suc (suc (suc (suc (suc (suc (suc (suc zero))))))))))) e = front4 ws 11 e
by_word ws (suc (suc (suc (suc (suc (suc (suc (suc (suc (suc (suc (suc zero)))))))))))) e = front1 ws 12 e
by_word ws (suc (suc (suc (suc (suc (suc (suc (suc (suc (suc (suc (suc (suc w))))))))))))) e = tt

pub head_sound : (ws : List ℕ) → Good (λ h us. ws ≡ head_row h ++ us) (head_of ws)
head_sound ws = fits_sound head_shape head_row ws (head_by (get_or ws 0 0) (get_or ws 1 0) (get_or ws 2 0) (get_or ws 3 0)) (by_word ws (get_or ws 0 0) refl)

pub head_complete : (h : Statement) (rest : List ℕ) → head_of (head_row h ++ rest) ≡ Some (h, rest)
head_complete Skip rest = passed _ _ (le→leb 1 _ (omega arith))
head_complete Then rest = passed _ _ (le→leb 1 _ (omega arith))
head_complete (Set x) rest = passed _ _ (le→leb 2 _ (omega arith))
head_complete (Between Box x y) rest = passed _ _ (le→leb 3 _ (omega arith))
head_complete (Between Unbox x y) rest = passed _ _ (le→leb 3 _ (omega arith))
head_complete (Between Look x y) rest = passed _ _ (le→leb 3 _ (omega arith))
head_complete (Between Fill x y) rest = passed _ _ (le→leb 3 _ (omega arith))
head_complete (Between Move x y) rest = passed _ _ (le→leb 3 _ (omega arith))
head_complete (Drop x) rest = passed _ _ (le→leb 2 _ (omega arith))
head_complete If rest = passed _ _ (le→leb 1 _ (omega arith))
head_complete While rest = passed _ _ (le→leb 1 _ (omega arith))
head_complete (Call x f m) rest = passed _ _ (le→leb 4 _ (omega arith))
head_complete Show rest = passed _ _ (le→leb 1 _ (omega arith))

-- arguments
abbrev pub row_a : Arg → List ℕ
row_a a = a.of ∷ a.lent ∷ []

abbrev pub OkA : Arg → Type 0
OkA a = T (ltb a.lent 2)

arg_sound : Sound row_a OkA read_a
arg_sound [] = tt
arg_sound (x ∷ []) = tt
arg_sound (x ∷ l ∷ ws) = bind _ _ (below1 2 (l ∷ ws)) _ (below_sound 2 (l ∷ ws)) (λ m us h. (ap (λ k. x ∷ k) h.0, h.1))

arg_complete : Complete row_a OkA read_a
arg_complete a rest h = rw (below_complete 2 a.lent rest h)

pub row_args : (n : ℕ) (ts : Tuple Arg n) (rest : List ℕ) → row_as (list_t n ts) ++ rest ≡ row_t row_a n ts rest
row_args zero ts rest = refl
row_args (suc n) ts rest = ap (λ l. ts.0.of ∷ ts.0.lent ∷ l) (row_args n ts.1 rest)

marks_all : (n : ℕ) (ts : Tuple Arg n) → AllT OkA n ts → T (marks (list_t n ts))
marks_all zero ts h = tt
marks_all (suc n) ts h = and_t (ltb ts.0.lent 2) (marks (list_t n ts.1)) h.0 (marks_all n ts.1 h.1)

all_marks : (n : ℕ) (ts : Tuple Arg n) → T (marks (list_t n ts)) → AllT OkA n ts
all_marks zero ts h = tt
all_marks (suc n) ts h = let p = T_and (ltb ts.0.lent 2) (marks (list_t n ts.1)) h in (p.0, all_marks n ts.1 p.1)

row_between : (o : Transfer) (x y : ℕ) → row_s (between o x y) ≡ transfer_code o ∷ x ∷ y ∷ []
row_between Box x y = refl
row_between Unbox x y = refl
row_between Look x y = refl
row_between Fill x y = refl
row_between Move x y = refl

deep_between : (o : Transfer) (x y : ℕ) → deep_s (between o x y) ≡ 1
deep_between Box x y = refl
deep_between Unbox x y = refl
deep_between Look x y = refl
deep_between Fill x y = refl
deep_between Move x y = refl

ok_between : (o : Transfer) (x y : ℕ) → T (ok_s (between o x y))
ok_between Box x y = tt
ok_between Unbox x y = tt
ok_between Look x y = tt
ok_between Fill x y = tt
ok_between Move x y = tt

-- the rows of the parts, then the others
abbrev pub row_parts : (h : Statement) → Parts h → List ℕ → List ℕ
row_parts h v rest = row_t row_e (head_shape h).exprs v.es (row_t row_a (head_shape h).args v.as₁ (row_t row_s (head_shape h).subs v.ss rest))

pub row_make : (h : Statement) (v : Parts h) (rest : List ℕ) → row_s (make h v) ++ rest ≡ head_row h ++ row_parts h v rest
row_make Skip v rest = refl
row_make Then v rest = ap (λ l. 1 ∷ l) (append_assoc (row_s v.ss.0) (row_s v.ss.1.0) rest)
row_make (Set x) v rest = refl
row_make (Between o x y) v rest = ap (λ l. l ++ rest) (row_between o x.0 y.0)
row_make (Drop x) v rest = refl
row_make If v rest = simp append_assoc
row_make While v rest = ap (λ l. 10 ∷ l) (append_assoc (row_e v.es.0) (row_s v.ss.0) rest)
row_make (Call x f n) v rest = rw (length_list_t Arg n v.as₁) (ap (λ l. 11 ∷ x.0 ∷ f ∷ n ∷ l) (row_args n v.as₁ rest))
row_make Show v rest = refl

abbrev pub OkS : ℕ → S → Type 0
OkS d s = (deep_s s ≤ d) × T (ok_s s)

pub record OkParts (d : ℕ) (h : Statement) (v : Parts h) : Type 0 where
  pub es : AllT (λ e. deep_e e ≤ d) (head_shape h).exprs v.es
  pub as₁ : AllT OkA (head_shape h).args v.as₁
  pub ss : AllT (OkS d) (head_shape h).subs v.ss

ok_make : (d : ℕ) (h : Statement) (v : Parts h) → OkParts d h v → OkS (suc d) (make h v)
ok_make d Skip v k = (omega arith, tt)
ok_make d Then v k = (omega (arith, k.ss.0.0, k.ss.1.0.0), and_t _ _ k.ss.0.1 k.ss.1.0.1)
ok_make d (Set x) v k = (omega (arith, k.es.0), tt)
ok_make d (Between o x y) v k = (omega (arith, deep_between o x.0 y.0), ok_between o x.0 y.0)
ok_make d (Drop x) v k = (omega arith, tt)
ok_make d If v k = (omega (arith, k.es.0, k.ss.0.0, k.ss.1.0.0), and_t _ _ k.ss.0.1 k.ss.1.0.1)
ok_make d While v k = (omega (arith, k.es.0, k.ss.0.0), k.ss.0.1)
ok_make d (Call x f n) v k = (omega arith, marks_all n v.as₁ k.as₁)
ok_make d Show v k = (omega (arith, k.es.0), tt)

pub made_ok : (d : ℕ) (h : Statement) (v : Parts h) → OkS (suc d) (make h v) → OkParts d h v
made_ok d Skip v k = record { es = tt; as₁ = tt; ss = tt }
made_ok d Then v k = let p = T_and (ok_s v.ss.0) (ok_s v.ss.1.0) k.1 in record { es = tt; as₁ = tt; ss = ((omega (arith, k.0), p.0), ((omega (arith, k.0), p.1), tt)) }
made_ok d (Set x) v k = record { es = (omega (arith, k.0), tt); as₁ = tt; ss = tt }
made_ok d (Between o x y) v k = record { es = tt; as₁ = tt; ss = tt }
made_ok d (Drop x) v k = record { es = tt; as₁ = tt; ss = tt }
made_ok d If v k = let p = T_and (ok_s v.ss.0) (ok_s v.ss.1.0) k.1 in record { es = (omega (arith, k.0), tt); as₁ = tt; ss = ((omega (arith, k.0), p.0), ((omega (arith, k.0), p.1), tt)) }
made_ok d While v k = record { es = (omega (arith, k.0), tt); as₁ = tt; ss = ((omega (arith, k.0), k.1), tt) }
made_ok d (Call x f n) v k = record { es = tt; as₁ = all_marks n v.as₁ k.1; ss = tt }
made_ok d Show v k = record { es = (omega (arith, k.0), tt); as₁ = tt; ss = tt }

-- every statement is a head and its parts
pub record View (s : S) : Type 0 where
  pub head : Statement
  pub parts : Parts head
  pub same : make head parts ≡ s

pub view : (s : S) → View s
view S.skip = record { head = Skip; parts = record { es = tt; as₁ = tt; ss = tt }; same = refl }
view (S.then a b) = record { head = Then; parts = record { es = tt; as₁ = tt; ss = (a, (b, tt)) }; same = refl }
view (S.set x e) = record { head = Set (variable x); parts = record { es = (e, tt); as₁ = tt; ss = tt }; same = refl }
view (S.box x y) = record { head = Between Box (variable x) (variable y); parts = record { es = tt; as₁ = tt; ss = tt }; same = refl }
view (S.unbox x y) = record { head = Between Unbox (variable x) (variable y); parts = record { es = tt; as₁ = tt; ss = tt }; same = refl }
view (S.look x y) = record { head = Between Look (variable x) (variable y); parts = record { es = tt; as₁ = tt; ss = tt }; same = refl }
view (S.fill x y) = record { head = Between Fill (variable x) (variable y); parts = record { es = tt; as₁ = tt; ss = tt }; same = refl }
view (S.move x y) = record { head = Between Move (variable x) (variable y); parts = record { es = tt; as₁ = tt; ss = tt }; same = refl }
view (S.drop x) = record { head = Drop (variable x); parts = record { es = tt; as₁ = tt; ss = tt }; same = refl }
view (S.if e a b) = record { head = If; parts = record { es = (e, tt); as₁ = tt; ss = (a, (b, tt)) }; same = refl }
view (S.while e a) = record { head = While; parts = record { es = (e, tt); as₁ = tt; ss = (a, tt) }; same = refl }
view (S.call x f as₁) = record { head = Call (variable x) f (length as₁); parts = record { es = tt; as₁ = tuple_of as₁; ss = tt }; same = ap (λ l. S.call x f l) (list_tuple as₁) }
view (S.show e) = record { head = Show; parts = record { es = (e, tt); as₁ = tt; ss = tt }; same = refl }

parts_sound : (d : ℕ) → Sound row_s (OkS d) (λ ws. read_s d ws) → (h : Statement) (ws : List ℕ) → Good (λ v us. (ws ≡ row_parts h v us) × OkParts d h v) (parts (λ us. read_e d us) (λ us. read_s d us) h ws)
parts_sound d f h ws =
    bind _ _ (many (λ us. read_e d us) (head_shape h).exprs ws) _ (many_sound row_e (λ e. deep_e e ≤ d) (λ us. read_e d us) (sound_e d) (head_shape h).exprs ws) (λ es us k.
    bind _ _ (many read_a (head_shape h).args us) _ (many_sound row_a OkA read_a arg_sound (head_shape h).args us) (λ as₁ vs l.
    bind _ _ (many (λ xs. read_s d xs) (head_shape h).subs vs) _ (many_sound row_s (OkS d) (λ xs. read_s d xs) f (head_shape h).subs vs) (λ ss xs m.
    (k.0 ∙ ap (λ z. row_t row_e (head_shape h).exprs es z) (l.0 ∙ ap (λ z. row_t row_a (head_shape h).args as₁ z) m.0), record { es = k.1; as₁ = l.1; ss = m.1 }))))

pub sound_s : (d : ℕ) → Sound row_s (OkS d) (λ ws. read_s d ws)
sound_s zero ws = tt
sound_s (suc d) ws =
    bind _ _ (head_of ws) _ (head_sound ws) (λ h us e.
    bind _ _ (parts (λ xs. read_e d xs) (λ xs. read_s d xs) h us) _ (parts_sound d (sound_s d) h us) (λ v vs k.
    (e ∙ ap (λ z. head_row h ++ z) k.0 ∙ sym (row_make h v vs), ok_make d h v k.1)))

parts_complete : (d : ℕ) → Complete row_s (OkS d) (λ ws. read_s d ws) → (h : Statement) (v : Parts h) (rest : List ℕ) → OkParts d h v → parts (λ us. read_e d us) (λ us. read_s d us) h (row_parts h v rest) ≡ Some (v, rest)
parts_complete d f h v rest k =
    rw (
      many_complete row_e (λ e. deep_e e ≤ d) (λ us. read_e d us) (complete_e d) (head_shape h).exprs v.es (row_t row_a (head_shape h).args v.as₁ (row_t row_s (head_shape h).subs v.ss rest)) k.es,
      many_complete row_a OkA read_a arg_complete (head_shape h).args v.as₁ (row_t row_s (head_shape h).subs v.ss rest) k.as₁,
      many_complete row_s (OkS d) (λ us. read_s d us) f (head_shape h).subs v.ss rest k.ss,
    )

pub deep_some : (h : Statement) (v : Parts h) → deep_s (make h v) ≤ 0 → ⊥
deep_some Skip v k = omega arith
deep_some Then v k = omega arith
deep_some (Set x) v k = omega arith
deep_some (Between o x y) v k = omega (arith, deep_between o x.0 y.0)
deep_some (Drop x) v k = omega arith
deep_some If v k = omega arith
deep_some While v k = omega arith
deep_some (Call x f n) v k = omega arith
deep_some Show v k = omega arith

made_complete : (d : ℕ) (h : Statement) (v : Parts h) (rest : List ℕ) → Complete row_s (OkS d) (λ ws. read_s d ws) → OkS (suc d) (make h v) → read_s (suc d) (row_s (make h v) ++ rest) ≡ Some (make h v, rest)
made_complete d h v rest f k = rw (row_make h v rest, head_complete h (row_parts h v rest), parts_complete d f h v rest (made_ok d h v k))

pub complete_s : (d : ℕ) → Complete row_s (OkS d) (λ ws. read_s d ws)
complete_s zero s rest k = let v = view s in absurd (deep_some v.head v.parts (rw v.same k.0))
complete_s (suc d) s rest k = let v = view s in subst (λ t. OkS (suc d) t → read_s (suc d) (row_s t ++ rest) ≡ Some (t, rest)) v.same (made_complete d v.head v.parts rest (complete_s d)) k
