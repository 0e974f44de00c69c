-- The ownership rules: which variables are full is known at each point of a program that keeps them.
use Rattle.std.specs.Prelude.{ℕ, ◌+◌, Bool, true, false, cond, not, ◌&&◌, ◌||◌, List, [], ◌∷◌, length, Some, None, Option, ◌==◌, nat_le, nat_lt, slice_index, slice_index_or, slice_set}
use Rattle.std.specs.List.{slice_get}
use Rattle.owned.specs.Program.{E, Arg, S, Sig, Proc, Prog, kind, is_lent}

-- for each variable whether it is full; numbers always are
abbrev pub Full : Type 0
Full = List Bool

abbrev pub is_full : Full → ℕ → Bool
is_full c x = slice_index_or c x false

abbrev pub there : Sig → ℕ → Bool
there p x = nat_lt x (length p.kinds)

abbrev pub is_num : Sig → ℕ → Bool
is_num p x = kind p x == 0

-- an expression over number variables that are there
abbrev pub numbers : Sig → E → Bool
numbers p (E.num k) = true
numbers p (E.var x) = there p x && is_num p x
numbers p (E.add a b) = numbers p a && numbers p b
numbers p (E.sub a b) = numbers p a && numbers p b
numbers p (E.mul a b) = numbers p a && numbers p b
numbers p (E.less a b) = numbers p a && numbers p b

-- a variable that can give what it holds: a number, or a box that is full and not lent
abbrev pub gives : Sig → Full → ℕ → Bool
gives p c x = there p x && (is_num p x || (is_full c x && not (is_lent p x)))

-- a box variable that gave is empty, a number variable stays full
abbrev pub full_after_give : Sig → Full → ℕ → Full
full_after_give p c x = cond (is_num p x) c (slice_set c x false)

-- a variable that can take a value: any that isn't lent
abbrev pub takes : Sig → ℕ → Bool
takes p x = there p x && not (is_lent p x)

abbrev pub both : Option Full → (Full → Option Full) → Option Full
both None k = None
both (Some c) k = k c

abbrev pub when : Bool → Option Full → Option Full
when true c = c
when false c = None

abbrev pub alike1 : Bool → Bool → Bool
alike1 true b = b
alike1 false b = not b

abbrev pub alike : Full → Full → Bool
alike [] [] = true
alike [] (b ∷ bs) = false
alike (a ∷ as₁) [] = false
alike (a ∷ as₁) (b ∷ bs) = alike1 a b && alike as₁ bs

-- two ways that meet: the same variables are full after both
abbrev pub joined : Option Full → Option Full → Option Full
joined None d = None
joined (Some c) None = None
joined (Some c) (Some d) = when (alike c d) (Some c)

-- a variable stands among the arguments
abbrev pub again : ℕ → List Arg → Bool
again x [] = false
again x (b ∷ bs) = x == b.of || again x bs

-- a variable is lent by one of the arguments
abbrev pub lent_away : ℕ → List Arg → Bool
lent_away x [] = false
lent_away x (b ∷ bs) = (b.lent == 1 && x == b.of) || lent_away x bs

-- an argument in place i of a call of q: lent where q says so, of its kind, full, and handed over only if it can give
abbrev pub handed : Sig → Sig → ℕ → Arg → Full → Bool
handed p q i a c =
    nat_lt i (length q.args) &&
    (a.lent == slice_index q.args i && (kind p a.of == kind q i && (there p a.of && (is_full c a.of && (a.lent == 1 || gives p c a.of)))))

-- arguments from place i on: as many as q has, and no box variable twice
abbrev pub hands : Sig → Sig → ℕ → List Arg → Full → Option Full
hands p q i [] c = when (i == length q.args) (Some c)
hands p q i (a ∷ as₁) c =
    when (handed p q i a c)
    (both (hands p q (i + 1) as₁ (cond (a.lent == 1) c (full_after_give p c a.of))) (λ d. when (is_num p a.of || not (again a.of as₁)) (Some d)))

abbrev pub called : Option Proc → (Sig → Option Full) → Option Full
called None k = None
called (Some q) k = k q.sig

-- what is full after a statement, if it keeps the rules
abbrev pub keeps : Prog → Sig → S → Full → Option Full
keeps g p S.skip c = Some c
keeps g p (S.then a b) c = both (keeps g p a c) (λ d. keeps g p b d)
keeps g p (S.set x e) c = when (takes p x && (is_num p x && numbers p e)) (Some c)
keeps g p (S.box x y) c = when (takes p x && (gives p c y && (kind p x == kind p y + 1 && not (x == y)))) (Some (slice_set (full_after_give p c y) x true))
keeps g p (S.unbox x y) c = when (takes p x && (gives p c y && (kind p y == kind p x + 1 && not (x == y)))) (Some (slice_set (slice_set c y false) x true))
keeps g p (S.look x y) c = when (takes p x && (is_num p x && (kind p y == 1 && (is_full c y && there p y)))) (Some c)
keeps g p (S.fill x y) c = when (is_full c x && (there p x && (gives p c y && (kind p x == kind p y + 1 && not (x == y))))) (Some (full_after_give p c y))
keeps g p (S.move x y) c = when (takes p x && (gives p c y && (kind p x == kind p y && not (x == y)))) (Some (slice_set (full_after_give p c y) x true))
keeps g p (S.drop x) c = when (takes p x && nat_le 1 (kind p x)) (Some (slice_set c x false))
keeps g p (S.if e a b) c = when (numbers p e) (joined (keeps g p a c) (keeps g p b c))
keeps g p (S.while e a) c = when (numbers p e) (joined (Some c) (keeps g p a c))
keeps g p (S.call x f as₁) c =
    when (takes p x) (called (slice_get g f) (λ q. when (kind p x == kind q q.result)
    (both (hands p q 0 as₁ c) (λ d. when (is_num p x || not (lent_away x as₁)) (Some (slice_set d x true))))))
keeps g p (S.show e) c = when (numbers p e) (Some c)

-- what is full as a procedure begins: its arguments, and numbers; i counts the variables
abbrev pub begins : ℕ → Sig → List ℕ → Full
begins i p [] = []
begins i p (k ∷ ks) = (nat_lt i (length p.args) || k == 0) ∷ begins (i + 1) p ks

-- at the end the result is full
abbrev pub ends_well : Sig → Option Full → Bool
ends_well p None = false
ends_well p (Some c) = is_full c p.result

-- a procedure keeps the rules; its result is a variable that is no argument
abbrev pub kept1 : Prog → Proc → Bool
kept1 g p = nat_le (length p.sig.args) p.sig.result && (there p.sig p.sig.result && ends_well p.sig (keeps g p.sig p.body (begins 0 p.sig p.sig.kinds)))

abbrev pub kept_all : Prog → List Proc → Bool
kept_all g [] = true
kept_all g (p ∷ ps) = kept1 g p && kept_all g ps

-- the first procedure has no arguments and a number for a result
abbrev pub starts : Prog → Bool
starts [] = false
starts (p ∷ ps) = length p.sig.args == 0 && is_num p.sig p.sig.result

abbrev pub kept : Prog → Bool
kept g = starts g && kept_all g g
