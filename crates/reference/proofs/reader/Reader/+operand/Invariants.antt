-- The nesting that is still allowed falls.
use Rattle.reference.proofs.reader.Reader.+operand.Given as goal

abbrev pub decreases-operand : goal.decreases-operand
decreases-operand l = l.depth
