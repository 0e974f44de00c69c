-- What the words after the name of the program ask for.
use Rattle.std.specs.Prelude.{ℕ, ◌+◌, ◌-◌, ◌*◌, ◌^◌, min, true, cond, ◌&&◌, List, [], ◌∷◌, length, is_some, Some, None, Ok, Err, codes, fold, Option, Result, ◌==◌, nat_le}
use Rattle.std.specs.Option.{unwrap_or}
use Rattle.std.specs.Str.{bytes_eq}
use Rattle.options.specs.declared.Limit.{Limit}
use Rattle.options.specs.declared.Limit.TheVariants.{Cells, Depth, Turns}
use Rattle.options.specs.declared.Word.{Word}
use Rattle.options.specs.declared.Word.TheVariants.{Sets, Help, Dashed, Other}
use Rattle.options.specs.declared.Slip.{Slip}
use Rattle.options.specs.declared.Slip.TheVariants.{Unknown, Extra, Missing, NoNumber, TooLarge, Twice}
use Rattle.options.specs.declared.Options.{Options}
use Rattle.options.specs.declared.Request.{Request}
use Rattle.options.specs.declared.Request.TheVariants.{Usage, Run}
use Rattle.options.specs.declared.Parser.{Parser}

-- a number with one digit more, as far as 64 bits count
abbrev pub grown : Option ℕ → ℕ → Option ℕ
grown None b = None
grown (Some m) b = cond (nat_le 48 b && nat_le b 57) (Some (min (min (m * 10) (2 ^ 64 - 1) + (b - 48)) (2 ^ 64 - 1))) None

-- the number that a word is: one digit at least, and nothing but digits
abbrev pub decimal : List ℕ → Option ℕ
decimal w = cond (length w == 0) None (fold grown (Some 0) w)

-- the most that an option may ask for
abbrev pub most : Limit → ℕ
most Cells = 50000
most Depth = 1250
most Turns = 1000000000000000000

-- a word that is no option: it may begin as one does
abbrev pub unnamed : List ℕ → Word
unnamed [] = Other
unnamed (b ∷ bs) = cond (b == 45) Dashed Other

-- what a word is where an option may stand
abbrev pub word : List ℕ → Word
word w =
    cond (bytes_eq w (codes "--cells")) (Sets Cells)
    (cond (bytes_eq w (codes "--depth")) (Sets Depth)
    (cond (bytes_eq w (codes "--turns")) (Sets Turns)
    (cond (bytes_eq w (codes "--help")) Help (unnamed w))))

-- what an option was set to
abbrev pub given : Parser → Limit → Option ℕ
given p Cells = p.cells
given p Depth = p.depth
given p Turns = p.turns

-- an option is set
abbrev pub put : Parser → Limit → ℕ → Parser
put p Cells m = record { cells = Some m; depth = p.depth; turns = p.turns; pending = None; help = p.help }
put p Depth m = record { cells = p.cells; depth = Some m; turns = p.turns; pending = None; help = p.help }
put p Turns m = record { cells = p.cells; depth = p.depth; turns = Some m; pending = None; help = p.help }

-- an option waits for its value
abbrev pub waits : Parser → Limit → Parser
waits p l = record { cells = p.cells; depth = p.depth; turns = p.turns; pending = Some l; help = p.help }

abbrev pub helps : Parser → Parser
helps p = record { cells = p.cells; depth = p.depth; turns = p.turns; pending = p.pending; help = true }

-- a value, for the option before it
abbrev pub valued : Parser → Limit → Option ℕ → Result Parser Slip
valued p l None = Err (NoNumber l)
valued p l (Some m) = cond (nat_le m (most l)) (Ok (put p l m)) (Err (TooLarge l))

-- a word where an option may stand
abbrev pub named : Parser → Word → Result Parser Slip
named p (Sets l) = cond (is_some (given p l)) (Err (Twice l)) (Ok (waits p l))
named p Help = Ok (helps p)
named p Dashed = Err Unknown
named p Other = Err Extra

abbrev pub taken_by : Option Limit → Parser → List ℕ → Result Parser Slip
taken_by None p w = named p (word w)
taken_by (Some l) p w = valued p l (decimal w)

-- one word more
abbrev pub taken : Parser → List ℕ → Result Parser Slip
taken p w = taken_by p.pending p w

-- how far a run may go if nothing is said
abbrev pub defaults : Options
defaults = record { cells = 1000; depth = 1000; turns = 1000000000 }

abbrev pub options : Parser → Options
options p = record { cells = unwrap_or p.cells defaults.cells; depth = unwrap_or p.depth defaults.depth; turns = unwrap_or p.turns defaults.turns }

abbrev pub ended_by : Option Limit → Parser → Result Request Slip
ended_by None p = Ok (cond p.help Usage (Run (options p)))
ended_by (Some l) p = Err (Missing l)

-- the end of the words
abbrev pub ended : Parser → Result Request Slip
ended p = ended_by p.pending p
