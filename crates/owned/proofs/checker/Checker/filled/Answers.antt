use Rattle.std.proofs.Common.{length, sym}
use Rattle.std.proofs.lemmas.Bool.{ltb-false}
use Rattle.owned.proofs.Bits.{fill_bit, fill_past}
use Rattle.owned.proofs.checker.Checker.filled.Goals as goal

pub returns-then-has : goal.returns-then-has
returns-then-has c = fill_bit (length c.args.self.now.procedure.kinds.now) c.args.full.0 c.args.x.0 _ c.with.ensures

pub returns-else-has : goal.returns-else-has
returns-else-has c = fill_past (length c.args.self.now.procedure.kinds.now) c.args.full.0 c.args.x.0 (ltb-false _ _ (sym c.if-has.ensures))
