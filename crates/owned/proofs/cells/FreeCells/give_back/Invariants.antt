use Rattle.std.proofs.Common.{◌-◌, ◌<◌, List, length}
use Rattle.owned.specs.Runs.{Cell}
use Rattle.owned.specs.FreeList.{FreeAt, InUse, FreeList}
use Rattle.owned.proofs.cells.FreeCells.give_back.Given as goal

-- the walk stands at a free cell before the one that is given back
abbrev pub invariant-loop-before : goal.invariant-loop-before
invariant-loop-before l = (l.before < l.cell.0) × (l.cell.0 < length l.self.links.now) × ((cs : List Cell) → FreeList l.self.links.now l.self.head cs → InUse cs l.cell.0 → FreeAt cs l.before)

abbrev pub decreases-loop-before : goal.decreases-loop-before
decreases-loop-before l = l.cell.0 - l.before
