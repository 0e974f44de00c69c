-- What the machine's struct holds, as plain values: where it stands, and its memory.
use Rattle.std.specs.Prelude.{ℕ, ◌+◌, ◌-◌, ◌*◌, Bool, true, cond, List, length, take, nat_lt, slice_index, slice_set}
use Rattle.linker.specs.Code.{Code}
use Rattle.machine.specs.declared.cells.Cells.{Cells}
use Rattle.machine.specs.declared.machine.Machine.{Machine}

-- Numbers shown. out: which words they are shown in.
pub record Numbers : Type 0 where
  pub shown : List ℕ
  pub out : ℕ
  pub count : ℕ
  pub over : Bool

-- Where the machine stands, with all that an operation on variables and cells leaves as it is: also the frames below
-- the current one, and how many words there are for frames.
pub record Control : Type 0 where
  pub code : Code
  pub pos : ℕ
  pub kinds : ℕ
  pub base : ℕ
  pub procedure : ℕ
  pub depth : ℕ
  pub turns : ℕ
  pub output : Numbers
  pub below : List ℕ
  pub size : ℕ

-- so many cells: what is in each, and the links and the head of the free list
pub record Store : Type 0 where
  pub many : ℕ
  pub contents : List ℕ
  pub links : List ℕ
  pub head : ℕ

-- frames of variables, and cells
pub record Memory : Type 0 where
  pub frames : List ℕ
  pub store : Store

abbrev pub store : Cells → Store
store s = record { many = s.free.cells; contents = s.contents.now; links = s.free.links.now; head = s.free.head }

abbrev pub control : Machine → Control
control w = record {
  code = record { rows = w.rows.now; follow = w.tables.follow.now; inner = w.tables.inner.now; other = w.tables.other.now; procs = w.tables.procs.now };
  pos = w.pos;
  kinds = w.kinds;
  base = w.base;
  procedure = w.procedure;
  depth = w.depth;
  turns = w.turns;
  output = record { shown = w.shown.now; out = w.shown.ghost_name; count = w.count; over = w.over };
  below = take w.base w.frames.now;
  size = length w.frames.now;
}

abbrev pub memory : Machine → Memory
memory w = record { frames = w.frames.now; store = store w.cells }

-- another place in the program
abbrev pub go_to : Control → ℕ → Control
go_to c q = record { code = c.code; pos = q; kinds = c.kinds; base = c.base; procedure = c.procedure; depth = c.depth; turns = c.turns; output = c.output; below = c.below; size = c.size }

-- so many turns left
abbrev pub with_turns : Control → ℕ → Control
with_turns c l = record { code = c.code; pos = c.pos; kinds = c.kinds; base = c.base; procedure = c.procedure; depth = c.depth; turns = l; output = c.output; below = c.below; size = c.size }

-- another number shown, or one too many
abbrev pub showing : Numbers → ℕ → Numbers
showing o k = record { shown = slice_set o.shown o.count k; out = o.out; count = o.count + 1; over = o.over }

abbrev pub too_many : Numbers → Numbers
too_many o = record { shown = o.shown; out = o.out; count = o.count; over = true }

abbrev pub shows : Numbers → ℕ → Numbers
shows o k = cond (nat_lt o.count (length o.shown)) (showing o k) (too_many o)

abbrev pub with_output : Control → Numbers → Control
with_output c o = record { code = c.code; pos = c.pos; kinds = c.kinds; base = c.base; procedure = c.procedure; depth = c.depth; turns = c.turns; output = o; below = c.below; size = c.size }

-- in another procedure's frame, where F are the words of frames: the next frame, or the one before
abbrev pub at_frame : Control → ℕ → ℕ → ℕ → ℕ → List ℕ → Control
at_frame c q f b d F = record { code = c.code; pos = q; kinds = slice_index c.code.procs (8 * f); base = b; procedure = f; depth = d; turns = c.turns; output = c.output; below = take b F; size = c.size }

abbrev pub entered : Control → ℕ → List ℕ → Control
entered c f F = at_frame c (slice_index c.code.procs (8 * f + 3)) f (c.base + 40) (c.depth - 1) F

abbrev pub left : Control → List ℕ → Control
left c F = at_frame c (slice_index F (c.base - 40 + 32)) (slice_index F (c.base - 40 + 33)) (c.base - 40) (c.depth + 1) F

-- with other frames below
abbrev pub with_below : Control → List ℕ → ℕ → Control
with_below c b n = record { code = c.code; pos = c.pos; kinds = c.kinds; base = c.base; procedure = c.procedure; depth = c.depth; turns = c.turns; output = c.output; below = b; size = n }

-- a word of the frames, and a word of a cell
abbrev pub with_frames : Memory → List ℕ → Memory
with_frames m F = record { frames = F; store = m.store }

abbrev pub with_store : Memory → Store → Memory
with_store m s = record { frames = m.frames; store = s }

abbrev pub set_word : Memory → ℕ → ℕ → Memory
set_word m i w = with_frames m (slice_set m.frames i w)

abbrev pub set_content : Store → ℕ → ℕ → Store
set_content s a w = record { many = s.many; contents = slice_set s.contents a w; links = s.links; head = s.head }
