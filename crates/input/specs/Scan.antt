-- How text is read as numbers: words of decimal digits, separated by white space.
use Rattle.std.specs.Prelude.{◌≡◌, ℕ, ◌+◌, ◌-◌, ◌*◌, ◌^◌, min, Bool, cond, ◌&&◌, ◌||◌, List, [], ◌∷◌, ◌++◌, length, Some, None, Ok, Err, Option, Result, ◌==◌, nat_le, nat_lt, slice_set}
use Rattle.input.specs.declared.Place.{Place}
use Rattle.input.specs.declared.Word.{Word}
use Rattle.input.specs.declared.Scanner.{Scanner}
use Rattle.input.specs.declared.BadWord.{BadWord}

-- space, tab, line feed, vertical tab, form feed, carriage return
abbrev pub is_white_space : ℕ → Bool
is_white_space b = b == 32 || (nat_le 9 b && nat_le b 13)

abbrev pub is_digit : ℕ → Bool
is_digit b = nat_le 48 b && nat_le b 57

-- a number of 32 bits, or none
abbrev pub fitted : ℕ → Option ℕ
fitted m = cond (nat_lt m (2 ^ 32)) (Some m) None

-- the number that a word is, with one byte more
abbrev pub grown : Option ℕ → ℕ → Option ℕ
grown None b = None
grown (Some m) b = cond (is_digit b) (fitted (m * 10 + (b - 48))) None

-- one more, as far as 64 bits count
abbrev pub next : ℕ → ℕ
next m = min (m + 1) (2 ^ 64 - 1)

-- past a byte: a line feed begins a line
abbrev pub past : Place → ℕ → Place
past p b = record { line = cond (b == 10) (next p.line) p.line; column = cond (b == 10) 1 (next p.column) }

-- so many bytes before, in the same line
abbrev pub back : Place → ℕ → Place
back p n = record { line = p.line; column = p.column - n }

-- a word begun anew
abbrev pub emptied : Word → Word
emptied w = record { kept = w.kept; len = 0 }

-- a byte added to a word
abbrev pub longer : Word → ℕ → Word
longer w b = record { kept = slice_set w.kept w.len b; len = next w.len }

abbrev pub bad : Scanner → BadWord
bad s = record { place = back s.place s.word.len; word = s.word }

abbrev pub number : Scanner → Option ℕ → Result (Option ℕ) BadWord
number s None = Err (bad s)
number s (Some m) = Ok (Some m)

-- what is known at the end of a word: nothing if there was none, its number, or that it is no number
abbrev pub finished : Scanner → Result (Option ℕ) BadWord
finished s = cond (s.word.len == 0) (Ok None) (number s s.value)

-- the numbers found, with one more if there are not more than `most`
abbrev pub noted : ℕ → List ℕ → Option ℕ → List ℕ
noted most ms None = ms
noted most ms (Some m) = cond (nat_le (length ms) most) (ms ++ (m ∷ [])) ms

-- at the beginning of a text
pub record Begun (s : Scanner) : Type 0 where
  pub line : s.place.line ≡ 1
  pub column : s.place.column ≡ 1
  pub len : s.word.len ≡ 0
  pub value : s.value ≡ Some 0

-- one byte more: white space ends a word, any other byte belongs to it
pub record Pushed (s : Scanner) (b : ℕ) (r : Result (Option ℕ) BadWord) (t : Scanner) : Type 0 where
  pub says : r ≡ cond (is_white_space b) (finished s) (Ok None)
  pub value : t.value ≡ cond (is_white_space b) (Some 0) (grown s.value b)
  pub word : t.word ≡ cond (is_white_space b) (emptied s.word) (longer s.word b)
  pub place : t.place ≡ past s.place b

-- bytes one after the other: from a scanner and the numbers found so far to those after them
abbrev pub Taken : ℕ → Scanner → List ℕ → List ℕ → Scanner → List ℕ → Type 0
Taken most s ms [] t ns = (t ≡ s) × (ns ≡ ms)
Taken most s ms (b ∷ bs) t ns = (u : Scanner) × (o : Option ℕ) × Pushed s b (Ok o) u × Taken most u (noted most ms o) bs t ns

-- the end of the text: the last word is looked at too
abbrev pub Ended : ℕ → Scanner → List ℕ → List ℕ → Type 0
Ended most s ms ns = (o : Option ℕ) × (finished s ≡ Ok o) × (ns ≡ noted most ms o)

-- the numbers of a whole text
abbrev pub Parsed : ℕ → List ℕ → List ℕ → Type 0
Parsed most bs ns = (s : Scanner) × Begun s × (t : Scanner) × (ms : List ℕ) × Taken most s [] bs t ms × Ended most t ms ns
