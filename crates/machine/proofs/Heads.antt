-- The statement that the machine stands at, by its first words.
use Rattle.std.proofs.Common.{◌≡◌, ℕ, ◌+◌, ◌<◌, ◌≤◌, List, ◌++◌, length, get_or, drop, Some, sym, refl, ap, ◌∙◌, subst, arith, length-drop}
use Rattle.std.proofs.lemmas.List.{get_or-drop}
use Rattle.owned.specs.Program.{E, Arg, S, Sig, Prog}
use Rattle.owned.specs.Rows.{row_s}
use Rattle.owned.specs.Runs.{St}
use Rattle.owned.specs.Machine.{Frame}
use Rattle.owned.specs.Decode.{variable, head_by, head_shape, between}
use Rattle.owned.specs.declared.decode.Transfer.TheVariants.{Box, Unbox, Look, Fill, Move}
use Rattle.owned.specs.declared.decode.Statement.{Statement}
use Rattle.owned.specs.declared.decode.Statement.TheVariants.{Skip, Then, Set, Between, Drop, If, While, Call, Show}
use Rattle.machine.specs.Memory.{Control, Memory}
use Rattle.machine.specs.Steps.{Ready, CanStep, any_s, if_s, while_s}
use Rattle.machine.proofs.Branching.{standing}

-- a statement with this head, by the parts that follow
abbrev pub Fits : Statement → S → Type 0
Fits Skip a = a ≡ S.skip
Fits Then a = (b : S) × (c : S) × (a ≡ S.then b c)
Fits (Set x) a = (e : E) × (a ≡ S.set x.0 e)
Fits (Between o x y) a = a ≡ between o x.0 y.0
Fits (Drop x) a = a ≡ S.drop x.0
Fits If a = (v : E × S × S) × (a ≡ if_s v)
Fits While a = (v : E × S) × (a ≡ while_s v)
Fits (Call x f k) a = (bs : List Arg) × (a ≡ S.call x.0 f bs) × (k ≡ length bs)
Fits Show a = (e : E) × (a ≡ S.show e)

-- the head that a statement's words say
pub record Headed (a : S) (ws : List ℕ) : Type 0 where
  pub head : Statement
  pub is : head_by (get_or ws 0 0) (get_or ws 1 0) (get_or ws 2 0) (get_or ws 3 0) ≡ Some head
  pub fits : Fits head a
  pub room : (head_shape head).words ≤ length ws
  pub code : get_or ws 0 0 ≤ 12

headed : (a : S) (rest : List ℕ) → Headed a (row_s a ++ rest)
headed S.skip rest = record { head = Skip; is = refl; fits = refl; room = omega arith; code = omega arith }
headed (S.then a b) rest = record { head = Then; is = refl; fits = (a, b, refl); room = omega arith; code = omega arith }
headed (S.set x e) rest = record { head = Set (variable x); is = refl; fits = (e, refl); room = omega arith; code = omega arith }
headed (S.box x y) rest = record { head = Between Box (variable x) (variable y); is = refl; fits = refl; room = omega arith; code = omega arith }
headed (S.unbox x y) rest = record { head = Between Unbox (variable x) (variable y); is = refl; fits = refl; room = omega arith; code = omega arith }
headed (S.look x y) rest = record { head = Between Look (variable x) (variable y); is = refl; fits = refl; room = omega arith; code = omega arith }
headed (S.fill x y) rest = record { head = Between Fill (variable x) (variable y); is = refl; fits = refl; room = omega arith; code = omega arith }
headed (S.move x y) rest = record { head = Between Move (variable x) (variable y); is = refl; fits = refl; room = omega arith; code = omega arith }
headed (S.drop x) rest = record { head = Drop (variable x); is = refl; fits = refl; room = omega arith; code = omega arith }
headed (S.if e a b) rest = record { head = If; is = refl; fits = ((e, a, b), refl); room = omega arith; code = omega arith }
headed (S.while e a) rest = record { head = While; is = refl; fits = ((e, a), refl); room = omega arith; code = omega arith }
headed (S.call x f as₁) rest = record { head = Call (variable x) f (length as₁); is = refl; fits = (as₁, refl, refl); room = omega arith; code = omega arith }
headed (S.show e) rest = record { head = Show; is = refl; fits = (e, refl); room = omega arith; code = omega arith }

module _ {g : Prog} {c : Control} {m : Memory} {d : ℕ} {p : Sig} {a : S} {ss : List S} {s : St} {fs : List Frame} (h : Ready g c m d p a ss s fs) where
  the_head : Headed a (drop c.pos c.code.rows)
  the_head = rw (standing h).words.1 (headed a (standing h).words.0)

  word_of : (i : ℕ) → get_or (drop c.pos c.code.rows) i 0 ≡ get_or c.code.rows (c.pos + i) 0
  word_of i = get_or-drop c.pos c.code.rows i 0

  first_of : get_or (drop c.pos c.code.rows) 0 0 ≡ get_or c.code.rows c.pos 0
  first_of = word_of 0 ∙ ap (λ i. get_or c.code.rows i 0) (omega arith)

  head_said : head_by (get_or c.code.rows c.pos 0) (get_or c.code.rows (c.pos + 1) 0) (get_or c.code.rows (c.pos + 2) 0) (get_or c.code.rows (c.pos + 3) 0) ≡ Some the_head.head
  head_said = rw (sym first_of, sym (word_of 1), sym (word_of 2), sym (word_of 3)) the_head.is

  module _ {hd : Statement} (e : head_by (get_or c.code.rows c.pos 0) (get_or c.code.rows (c.pos + 1) 0) (get_or c.code.rows (c.pos + 2) 0) (get_or c.code.rows (c.pos + 3) 0) ≡ Some hd) where
    same_head : the_head.head ≡ hd
    same_head = let q = sym head_said ∙ e in cc

    pub fits_head : Fits hd a
    fits_head = subst (λ k. Fits k a) same_head the_head.fits

    pub head_room : c.pos < length c.code.rows → c.pos + (head_shape hd).words ≤ length c.code.rows
    head_room l = omega (arith, ap (λ k. (head_shape k).words) same_head, the_head.room, length-drop c.pos c.code.rows)

  pub known_code : get_or c.code.rows c.pos 0 ≤ 12
  known_code = rw (sym first_of) the_head.code

module _ {c : Control} {m : Memory} {at : ℕ} (i : at ≡ c.pos) (h : CanStep S any_s c m) where
  -- by the code, which is the first word
  pub room_by : (k : ℕ) → get_or c.code.rows at 0 ≡ k → (hd : Statement) → head_by k (get_or c.code.rows (c.pos + 1) 0) (get_or c.code.rows (c.pos + 2) 0) (get_or c.code.rows (c.pos + 3) 0) ≡ Some hd → c.pos + (head_shape hd).words ≤ length c.code.rows
  room_by k e hd q = let f : get_or c.code.rows c.pos 0 ≡ k = rw i at e in head_room h.ready (rw f q) h.here

  pub code_known : get_or c.code.rows at 0 ≤ 12
  code_known = rw i (known_code h.ready)
