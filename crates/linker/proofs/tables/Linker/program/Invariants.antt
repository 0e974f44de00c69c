use Rattle.std.proofs.Common.{◌-◌, length}
use Rattle.linker.specs.Links.{code, Held}
use Rattle.linker.proofs.Procedures.{Through}
use Rattle.linker.proofs.tables.Linker.program.Given as goal

abbrev pub invariant-loop-at : goal.invariant-loop-at
invariant-loop-at l = Through (code l.initial.self).rows (code l.self) l.f l.at × Held l.initial.self l.self

abbrev pub decreases-loop-at : goal.decreases-loop-at
decreases-loop-at l = length l.self.rows.now - l.at
