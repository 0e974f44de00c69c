-- A procedure as the code sees it in the rows, and what the functions of the rules say of the definitions.
use Rattle.std.specs.Prelude.{◌≡◌, ℕ, ◌+◌, ◌<◌, ◌≤◌, Bool, true, false, not, ◌&&◌, T, List, [], ◌∷◌, ◌++◌, length, drop, Some, None, Option, ◌==◌, slice_index, slice_set}
use Rattle.std.specs.List.{slice_get}
use Rattle.owned.specs.declared.procs.Procedure.{Procedure}
use Rattle.owned.specs.declared.program.Program.{Program}
use Rattle.owned.specs.declared.checker.Checker.{Checker}
use Rattle.owned.specs.declared.varset.VarSet.{VarSet}
use Rattle.owned.specs.declared.decode.Transfer.{Transfer}
use Rattle.owned.specs.declared.decode.Transfer.TheVariants.{Box, Unbox, Look, Fill, Move}
use Rattle.owned.specs.Program.{S, E, Arg, Sig, Proc, Prog, kind}
use Rattle.owned.specs.Rows.{row_e, row_s, row_as, row_p, ok_ps}
use Rattle.owned.specs.Kept.{Full, is_full, is_num, there, takes, gives, full_after_give, numbers, keeps, kept1}
use Rattle.owned.specs.Decode.{read_ps}
use Rattle.owned.specs.Ends.{StandsE, StandsS, Placed}
use Rattle.owned.specs.VarSets.{bits}

-- the rows, where procedures begin, a procedure's signature and where its body begins
pub record Seen : Type 0 where
  pub rows : List ℕ
  pub starts : List ℕ
  pub sig : Sig
  pub body : ℕ

abbrev pub sig_of : Procedure → Sig
sig_of p = record { kinds = p.kinds.now; args = p.args.now; result = p.result.0 }

abbrev pub seen_in : List ℕ → List ℕ → Procedure → Seen
seen_in ws ts p = record { rows = ws; starts = ts; sig = sig_of p; body = p.body }

abbrev pub seen : Checker → Seen
seen c = seen_in c.program.rows.now c.program.starts.now c.procedure

-- the full variables of the procedure, by a set
abbrev pub full_of : Seen → VarSet → Full
full_of m k = bits (length m.sig.kinds) k.0

-- what is full after something that keeps the rules, or that it does not keep them
abbrev pub After : Seen → Option Full → Option VarSet → Type 0
After m c None = c ≡ None
After m c (Some k) = c ≡ Some (full_of m k)

-- whether the expression at a place is over numbers, and where it ends
abbrev pub Numbered : Seen → ℕ → Bool → List ℕ → Option ℕ → Type 0
Numbered m i b rest None = b ≡ false
Numbered m i b rest (Some j) = (b ≡ true) × (drop j m.rows ≡ rest) × (j ≤ length m.rows) × (i < j)

abbrev pub SaysE : Seen → ℕ → Option ℕ → Type 0
SaysE m i o = (e : E) (rest : List ℕ) → drop i m.rows ≡ row_e e ++ rest → Numbered m i (numbers m.sig e) rest o

abbrev pub ThereE : Seen → ℕ → Type 0
ThereE m i = StandsE m.rows i

-- what is full after the statement at a place, and where it ends
abbrev pub KeptTo : Seen → ℕ → Option Full → List ℕ → Option (VarSet × ℕ) → Type 0
KeptTo m i c rest None = c ≡ None
KeptTo m i c rest (Some p) = (c ≡ Some (full_of m p.0)) × (drop p.1 m.rows ≡ rest) × (p.1 ≤ length m.rows) × (i < p.1)

-- the rules are worked out as defined, of whatever statement stands at the place
abbrev pub SaysS : Seen → ℕ → VarSet → Option (VarSet × ℕ) → Type 0
SaysS m i k o = (g : Prog) → Placed m.rows m.starts g → (s : S) (rest : List ℕ) → drop i m.rows ≡ row_s s ++ rest → KeptTo m i (keeps g m.sig s (full_of m k)) rest o

-- the rows are procedures, and a statement stands at a place
pub record ThereS (m : Seen) (i : ℕ) : Type 0 where
  pub g : Prog
  pub placed : Placed m.rows m.starts g
  pub here : StandsS m.rows i

-- the statements with a destination and a source: what each asks, and what is full afterwards
abbrev pub allows : Transfer → Sig → Full → ℕ → ℕ → Bool
allows Box p c x y = takes p x && (gives p c y && (kind p x == kind p y + 1 && not (x == y)))
allows Unbox p c x y = takes p x && (gives p c y && (kind p y == kind p x + 1 && not (x == y)))
allows Look p c x y = takes p x && (is_num p x && (kind p y == 1 && (is_full c y && there p y)))
allows Fill p c x y = is_full c x && (there p x && (gives p c y && (kind p x == kind p y + 1 && not (x == y))))
allows Move p c x y = takes p x && (gives p c y && (kind p x == kind p y && not (x == y)))

abbrev pub leaves : Transfer → Sig → Full → ℕ → ℕ → Full
leaves Box p c x y = slice_set (full_after_give p c y) x true
leaves Unbox p c x y = slice_set (slice_set c y false) x true
leaves Look p c x y = c
leaves Fill p c x y = full_after_give p c y
leaves Move p c x y = slice_set (full_after_give p c y) x true

-- the procedure that is seen is this one
pub record Sees (m : Seen) (q : Proc) : Type 0 where
  pub sig : m.sig ≡ q.sig
  pub body : (rest : List ℕ) × (drop m.body m.rows ≡ row_s q.body ++ rest)

-- the procedure that begins at t has this signature and a body that begins there
pub record SeenAt (ws : List ℕ) (t : ℕ) (p : Sig) (body : ℕ) : Type 0 where
  pub later : t < body
  pub sees : (q : Proc) (rest : List ℕ) → drop t ws ≡ row_p q rest → (p ≡ q.sig) × (drop body ws ≡ row_s q.body ++ rest)

-- the procedure with number f is seen
pub record Found (ws ts : List ℕ) (f : ℕ) (m : Seen) : Type 0 where
  pub rows : m.rows ≡ ws
  pub starts : m.starts ≡ ts
  pub sees : (g : Prog) → Placed ws ts g → (q : Proc) × (slice_get g f ≡ Some q) × Sees m q

-- n arguments of a call at a place
abbrev pub ArgsAt : Seen → ℕ → ℕ → List Arg → List ℕ → Type 0
ArgsAt m i n as₁ rest = (length as₁ ≡ n) × (drop i m.rows ≡ row_as as₁ ++ rest)

pub record ThereArgs (m : Seen) (i n : ℕ) : Type 0 where
  pub as₁ : List Arg
  pub rest : List ℕ
  pub here : ArgsAt m i n as₁ rest
  pub near : i ≤ length m.rows

-- arguments by their words: a variable, then its mark
abbrev pub args_of : List (List ℕ) → List Arg
args_of [] = []
args_of (w ∷ ws) = record { of = slice_index w 0; lent = slice_index w 1 } ∷ args_of ws

-- the words of the arguments that stand at a place
abbrev pub ArgumentsAt : Seen → ℕ → ℕ → List (List ℕ) → Type 0
ArgumentsAt m i n us = (as₁ : List Arg) (rest : List ℕ) → ArgsAt m i n as₁ rest → args_of us ≡ as₁

-- whether a procedure keeps the rules, whatever its body is
abbrev pub SaysKept : Seen → Bool → Type 0
SaysKept m o = (g : Prog) → Placed m.rows m.starts g → (s : S) (rest : List ℕ) → drop m.body m.rows ≡ row_s s ++ rest → o ≡ kept1 g (record { sig = m.sig; body = s })

-- what reading rows says of them
abbrev pub ReadAs : List ℕ → Option Program → Type 0
ReadAs ws None = read_ps 64 ws ≡ None
ReadAs ws (Some p) = (p.rows.now ≡ ws) × (g : Prog) × Placed p.rows.now p.starts.now g × (read_ps 64 ws ≡ Some g)

-- the rows are procedures within their limits
pub record Fine (ws ts : List ℕ) : Type 0 where
  pub g : Prog
  pub placed : Placed ws ts g
  pub ok : T (ok_ps g)
