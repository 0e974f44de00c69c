use Rattle.std.proofs.Common.{◌≡◌, ℕ, List, drop, vec_items}
use Rattle.input.specs.declared.Scanner.{Scanner}
use Rattle.input.specs.Scan.{Taken}
use Rattle.input.proofs.Numbers.take.Given as goal

-- what the bytes that are left give, all of them give from the start
abbrev pub invariant-loop-byte : goal.invariant-loop-byte
invariant-loop-byte l =
    (l.self.most ≡ l.initial.self.most) ×
    ((t : Scanner) (ns : List ℕ) → Taken l.self.most l.self.scanner (vec_items l.self.found) (drop l.byte-index l.piece) t ns
    → Taken l.initial.self.most l.initial.self.scanner (vec_items l.initial.self.found) l.piece t ns)
