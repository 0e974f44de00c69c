-- What the linker says of its tables: where parts begin, as a first pass writes it, and what each pass leaves alone.
use Rattle.std.specs.Prelude.{◌≡◌, ℕ, ◌+◌, ◌*◌, ◌<◌, ◌≤◌, List, [], ◌++◌, length, drop, slice_index, slice_index_or}
use Rattle.owned.specs.Program.{E, S, Proc, Prog}
use Rattle.owned.specs.Rows.{row_e, row_s, row_p, Rows}
use Rattle.owned.specs.VarSets.{bits}
use Rattle.linker.specs.Code.{Code, entry, AtE, ExprOf, At, ProcAt, Linked, released}
use Rattle.linker.specs.declared.Header.{Header}
use Rattle.linker.specs.declared.tables.Linker.{Linker}

abbrev pub code : Linker → Code
code l = record { rows = l.rows.now; follow = l.follow.now; inner = l.inner.now; other = l.other.now; procs = l.procs.now }

-- the tables are still the slices that the linker was made from
pub record Held (a b : Linker) : Type 0 where
  pub follow : b.follow.ghost_name ≡ a.follow.ghost_name
  pub inner : b.inner.ghost_name ≡ a.inner.ghost_name
  pub other : b.other.ghost_name ≡ a.other.ghost_name
  pub procs : b.procs.ghost_name ≡ a.procs.ghost_name

-- the program is small enough, and each table has a word for each of its words
pub record Room (c : Code) : Type 0 where
  pub rows : length c.rows ≤ 16384
  pub follow : length c.rows ≤ length c.follow
  pub inner : length c.rows ≤ length c.inner
  pub other : length c.rows ≤ length c.other

-- two tables agree from one place up to another
pub record Same (as₁ bs : List ℕ) (from to : ℕ) : Type 0 where
  pub long : length bs ≡ length as₁
  pub each : (k : ℕ) → from ≤ k → k < to → slice_index bs k ≡ slice_index as₁ k

-- the tables of one program agree there
pub record Agree (c d : Code) (from to : ℕ) : Type 0 where
  pub rows : d.rows ≡ c.rows
  pub follow : Same c.follow d.follow from to
  pub inner : Same c.inner d.inner from to
  pub other : Same c.other d.other from to

-- nothing has changed but from one place up to another
pub record Within (c d : Code) (from to : ℕ) : Type 0 where
  pub below : Agree c d 0 from
  pub above : (k : ℕ) → Agree c d to k
  pub procs : d.procs ≡ c.procs

-- the expression at a place ends at another
abbrev pub EndE : List ℕ → ℕ → ℕ → Type 0
EndE ws i j = (e : E) (rest : List ℕ) → drop i ws ≡ row_e e ++ rest → j ≡ i + length (row_e e)

-- the statement at a place is entered at another
abbrev pub Enters : List ℕ → ℕ → ℕ → Type 0
Enters ws i j = (s : S) (rest : List ℕ) → drop i ws ≡ row_s s ++ rest → j ≡ entry s i

-- the words of the statements in a statement
abbrev pub part_rows : S → List ℕ
part_rows S.skip = []
part_rows (S.then a b) = row_s a ++ row_s b
part_rows (S.set x e) = []
part_rows (S.box x y) = []
part_rows (S.unbox x y) = []
part_rows (S.look x y) = []
part_rows (S.fill x y) = []
part_rows (S.move x y) = []
part_rows (S.drop x) = []
part_rows (S.if e a b) = row_s a ++ row_s b
part_rows (S.while e a) = row_s a
part_rows (S.call x f as₁) = []
part_rows (S.show e) = []

-- the statements in the statement at a place begin at another, or it ends there if there are none
pub record PartsFrom (ws : List ℕ) (i j : ℕ) : Type 0 where
  pub later : i < j
  pub near : j ≤ length ws
  pub parts : (s : S) (rest : List ℕ) → drop i ws ≡ row_s s ++ rest → drop j ws ≡ part_rows s ++ rest

-- the expression at i was marked, and ends at j
pub record MarkedE (c d : Code) (i j : ℕ) : Type 0 where
  pub later : i < j
  pub near : j ≤ length c.rows
  pub ends : EndE c.rows i j
  pub within : Within c d i j
  pub marks : (e : E) (rest : List ℕ) → drop i c.rows ≡ row_e e ++ rest → AtE d e i

-- the expression in the statement at i was marked, and the statements in it begin at j
pub record PartsMarked (c d : Code) (i j : ℕ) : Type 0 where
  pub parts : PartsFrom c.rows i j
  pub within : Within c d (i + 1) j
  pub marks : (s : S) (rest : List ℕ) → drop i c.rows ≡ row_s s ++ rest → ExprOf d s i

-- The tables say where the parts of the statement at q begin, and so for each statement in it, with its expression.
abbrev pub Marked : Code → S → ℕ → Type 0
Marked c S.skip q = Unit {0}
Marked c (S.then a b) q = (slice_index c.inner q ≡ q + 1) × (slice_index c.other q ≡ q + 1 + length (row_s a)) × Marked c a (q + 1) × Marked c b (q + 1 + length (row_s a))
Marked c (S.set x e) q = AtE c e (q + 2)
Marked c (S.box x y) q = Unit {0}
Marked c (S.unbox x y) q = Unit {0}
Marked c (S.look x y) q = Unit {0}
Marked c (S.fill x y) q = Unit {0}
Marked c (S.move x y) q = Unit {0}
Marked c (S.drop x) q = Unit {0}
Marked c (S.if e a b) q =
    (slice_index c.inner q ≡ q + 1 + length (row_e e)) × (slice_index c.other q ≡ q + 1 + length (row_e e) + length (row_s a)) × Marked c a (q + 1 + length (row_e e)) × Marked c b (q + 1 + length (row_e e) + length (row_s a)) × AtE c e (q + 1)
Marked c (S.while e a) q = (slice_index c.inner q ≡ q + 1 + length (row_e e)) × Marked c a (q + 1 + length (row_e e)) × AtE c e (q + 1)
Marked c (S.call x f as₁) q = Unit {0}
Marked c (S.show e) q = AtE c e (q + 1)

-- the statement at i was marked, and ends at j
pub record MarkedTo (c d : Code) (i j : ℕ) : Type 0 where
  pub later : i < j
  pub near : j ≤ length c.rows
  pub within : Within c d i j
  pub marks : (s : S) (rest : List ℕ) → drop i c.rows ≡ row_s s ++ rest → (j ≡ i + length (row_s s)) × Marked d s i

-- a statement that is marked stands at a place
abbrev pub StandsMarked : Code → ℕ → Type 0
StandsMarked c i = (s : S) × (rest : List ℕ) × (drop i c.rows ≡ row_s s ++ rest) × Marked c s i

-- the statement at i was linked, to go on at r
abbrev pub LinkedTo : Code → Code → ℕ → ℕ → Type 0
LinkedTo c d i r = (s : S) (rest : List ℕ) → drop i c.rows ≡ row_s s ++ rest → Marked c s i → At d s i r × Within c d i (i + length (row_s s))

-- a procedure with few enough variables stands at a place
abbrev pub StandsP : List ℕ → ℕ → Type 0
StandsP ws i = (p : Proc) × (rest : List ℕ) × (drop i ws ≡ row_p p rest) × (length p.sig.kinds ≤ 32)

-- the header of the procedure that begins at a place
pub record HeaderOf (ws : List ℕ) (p : Proc) (rest : List ℕ) (h : Header) : Type 0 where
  pub kinds : (us : List ℕ) × (drop h.kinds ws ≡ p.sig.kinds ++ us)
  pub many : h.many ≡ length p.sig.kinds
  pub result : h.result.0 ≡ p.sig.result
  pub release : bits (length p.sig.kinds) h.released.0 ≡ released p.sig 0 p.sig.kinds
  pub body : drop h.body ws ≡ row_s p.body ++ rest

pub record HeaderAt (ws : List ℕ) (i : ℕ) (h : Header) : Type 0 where
  pub later : i < h.body
  pub says : (p : Proc) (rest : List ℕ) → drop i ws ≡ row_p p rest → HeaderOf ws p rest h

-- the words of procedure f were written, and none of those of the procedures before it
pub record Noted (c d : Code) (f : ℕ) (h : Header) (body : ℕ) : Type 0 where
  pub rows : d.rows ≡ c.rows
  pub follow : d.follow ≡ c.follow
  pub inner : d.inner ≡ c.inner
  pub other : d.other ≡ c.other
  pub long : length d.procs ≡ length c.procs
  pub below : (k : ℕ) → k < 8 * f → slice_index d.procs k ≡ slice_index c.procs k
  pub kinds : slice_index_or d.procs (8 * f) 0 ≡ h.kinds
  pub many : slice_index_or d.procs (8 * f + 1) 0 ≡ h.many
  pub result : slice_index_or d.procs (8 * f + 2) 0 ≡ h.result.0
  pub enters : slice_index_or d.procs (8 * f + 3) 0 ≡ body
  pub release : slice_index_or d.procs (8 * f + 4) 0 ≡ h.released.0

-- procedure f is in the tables, with its body before a place
pub record ProcBefore (c : Code) (f : ℕ) (p : Proc) (to : ℕ) : Type 0 where
  pub is : ProcAt c f p
  pub ends : is.body.0 + length (row_s p.body) ≤ to

-- procedure f was linked, from i up to j, and nothing before it was changed
pub record ProcedureTo (c d : Code) (f i j : ℕ) : Type 0 where
  pub later : i < j
  pub near : j ≤ length c.rows
  pub agree : Agree c d 0 i
  pub long : length d.procs ≡ length c.procs
  pub below : (k : ℕ) → k < 8 * f → slice_index d.procs k ≡ slice_index c.procs k
  pub says : (p : Proc) (rest : List ℕ) → drop i c.rows ≡ row_p p rest → ProcBefore d f p j × (drop j c.rows ≡ rest)

-- there is room for every procedure of a program
pub record RoomAll (c : Code) : Type 0 where
  pub tables : Room c
  pub procs : 512 ≤ length c.procs

-- the program in the rows is in the tables
abbrev pub LinkedAll : Code → Type 0
LinkedAll c = (g : Prog) → Rows c.rows g → Linked c g
