use Rattle.machine.proofs.cells.Cells.+release.Given as goal

abbrev pub decreases-release : goal.decreases-release
decreases-release l = l.kind.0
