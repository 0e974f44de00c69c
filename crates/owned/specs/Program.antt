-- Programs with numbers and boxes.
use Rattle.std.specs.Prelude.{ℕ, Bool, cond, List, ◌==◌, slice_index}

-- expressions over numbers of 32 bits
pub data E : Type 0 where
  num : ℕ → E
  var : ℕ → E
  add : E → E → E
  sub : E → E → E
  mul : E → E → E
  less : E → E → E

-- an argument of a call: the variable, and 1 if it is lent, 0 if it is handed over
pub record Arg : Type 0 where
  pub of : ℕ
  pub lent : ℕ

-- statements; variables and procedures go by number, and a call has its destination first
pub data S : Type 0 where
  skip : S
  then : S → S → S
  set : ℕ → E → S
  box : ℕ → ℕ → S
  unbox : ℕ → ℕ → S
  look : ℕ → ℕ → S
  fill : ℕ → ℕ → S
  move : ℕ → ℕ → S
  drop : ℕ → S
  if : E → S → S → S
  while : E → S → S
  call : ℕ → ℕ → List Arg → S
  show : E → S

-- A procedure's signature: the kinds of its variables (0 a number, k + 1 a box of kind k), the marks of its
-- arguments, which are the first variables (1 lent, 0 handed over), and the variable that is its result.
pub record Sig : Type 0 where
  pub kinds : List ℕ
  pub args : List ℕ
  pub result : ℕ

pub record Proc : Type 0 where
  pub sig : Sig
  pub body : S

-- the first procedure is the one that is run
abbrev pub Prog : Type 0
Prog = List Proc

abbrev pub bit : Bool → ℕ
bit b = cond b 1 0

-- a variable that is not there has kind 0, and the rules ask that it is there
abbrev pub kind : Sig → ℕ → ℕ
kind p x = slice_index p.kinds x

abbrev pub is_lent : Sig → ℕ → Bool
is_lent p x = slice_index p.args x == 1
