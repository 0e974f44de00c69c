use Rattle.std.proofs.Common.{◌≡◌, length}
use Rattle.input.proofs.read_numbers.Given as goal

abbrev pub invariant-loop : goal.invariant-loop
invariant-loop g l = (length l.page ≡ 4096) × (l.numbers.most ≡ l.most)
