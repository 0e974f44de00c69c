-- Programs written as rows of 32-bit words, in prefix order.
use Rattle.std.specs.Prelude.{◌≡◌, ℕ, ◌+◌, max, Bool, true, ◌&&◌, T, List, [], ◌∷◌, ◌++◌, length, nat_le, nat_lt}
use Rattle.owned.specs.Program.{E, Arg, S, Sig, Proc, Prog}

abbrev pub row_e : E → List ℕ
row_e (E.num k) = 0 ∷ k ∷ []
row_e (E.var x) = 1 ∷ x ∷ []
row_e (E.add a b) = 2 ∷ (row_e a ++ row_e b)
row_e (E.sub a b) = 3 ∷ (row_e a ++ row_e b)
row_e (E.mul a b) = 4 ∷ (row_e a ++ row_e b)
row_e (E.less a b) = 5 ∷ (row_e a ++ row_e b)

abbrev pub row_as : List Arg → List ℕ
row_as [] = []
row_as (a ∷ as₁) = a.of ∷ a.lent ∷ row_as as₁

abbrev pub row_s : S → List ℕ
row_s S.skip = 0 ∷ []
row_s (S.then a b) = 1 ∷ (row_s a ++ row_s b)
row_s (S.set x e) = 2 ∷ x ∷ row_e e
row_s (S.box x y) = 3 ∷ x ∷ y ∷ []
row_s (S.unbox x y) = 4 ∷ x ∷ y ∷ []
row_s (S.look x y) = 5 ∷ x ∷ y ∷ []
row_s (S.fill x y) = 6 ∷ x ∷ y ∷ []
row_s (S.move x y) = 7 ∷ x ∷ y ∷ []
row_s (S.drop x) = 8 ∷ x ∷ []
row_s (S.if e a b) = 9 ∷ (row_e e ++ (row_s a ++ row_s b))
row_s (S.while e a) = 10 ∷ (row_e e ++ row_s a)
row_s (S.call x f as₁) = 11 ∷ x ∷ f ∷ length as₁ ∷ row_as as₁
row_s (S.show e) = 12 ∷ row_e e

-- a procedure's words, before the others
abbrev pub row_p : Proc → List ℕ → List ℕ
row_p p rest = length p.sig.kinds ∷ (p.sig.kinds ++ (length p.sig.args ∷ (p.sig.args ++ (p.sig.result ∷ (row_s p.body ++ rest)))))

abbrev pub row_ps : List Proc → List ℕ
row_ps [] = []
row_ps (p ∷ ps) = row_p p (row_ps ps)

-- how many statements and expressions stand in one another
abbrev pub deep_e : E → ℕ
deep_e (E.num k) = 1
deep_e (E.var x) = 1
deep_e (E.add a b) = 1 + max (deep_e a) (deep_e b)
deep_e (E.sub a b) = 1 + max (deep_e a) (deep_e b)
deep_e (E.mul a b) = 1 + max (deep_e a) (deep_e b)
deep_e (E.less a b) = 1 + max (deep_e a) (deep_e b)

abbrev pub deep_s : S → ℕ
deep_s S.skip = 1
deep_s (S.then a b) = 1 + max (deep_s a) (deep_s b)
deep_s (S.set x e) = 1 + deep_e e
deep_s (S.box x y) = 1
deep_s (S.unbox x y) = 1
deep_s (S.look x y) = 1
deep_s (S.fill x y) = 1
deep_s (S.move x y) = 1
deep_s (S.drop x) = 1
deep_s (S.if e a b) = 1 + max (deep_e e) (max (deep_s a) (deep_s b))
deep_s (S.while e a) = 1 + max (deep_e e) (deep_s a)
deep_s (S.call x f as₁) = 1
deep_s (S.show e) = 1 + deep_e e

abbrev pub below : ℕ → List ℕ → Bool
below n [] = true
below n (x ∷ xs) = nat_lt x n && below n xs

-- marks of arguments in calls are 0 or 1
abbrev pub marks : List Arg → Bool
marks [] = true
marks (a ∷ as₁) = nat_lt a.lent 2 && marks as₁

abbrev pub ok_s : S → Bool
ok_s S.skip = true
ok_s (S.then a b) = ok_s a && ok_s b
ok_s (S.set x e) = true
ok_s (S.box x y) = true
ok_s (S.unbox x y) = true
ok_s (S.look x y) = true
ok_s (S.fill x y) = true
ok_s (S.move x y) = true
ok_s (S.drop x) = true
ok_s (S.if e a b) = ok_s a && ok_s b
ok_s (S.while e a) = ok_s a
ok_s (S.call x f as₁) = marks as₁
ok_s (S.show e) = true

-- at most 32 variables of kinds up to 8, at most 8 of them arguments, and 128 in one another
abbrev pub ok_sig : Sig → Bool
ok_sig p = nat_le (length p.kinds) 32 && (below 9 p.kinds && (nat_le (length p.args) 8 && (nat_le (length p.args) (length p.kinds) && below 2 p.args)))

abbrev pub ok_p : Proc → Bool
ok_p p = ok_sig p.sig && (nat_le (deep_s p.body) 128 && ok_s p.body)

abbrev pub ok_ps : List Proc → Bool
ok_ps [] = true
ok_ps (p ∷ ps) = ok_p p && ok_ps ps

-- the words s are the program g, within the limits
pub record Rows (s : List ℕ) (g : Prog) : Type 0 where
  pub rows : row_ps g ≡ s
  pub fine : T (nat_le (length s) 16384 && (nat_le (length g) 64 && ok_ps g))
