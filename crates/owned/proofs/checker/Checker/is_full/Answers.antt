use Rattle.std.proofs.Common.{length, sym}
use Rattle.std.proofs.lemmas.Bool.{ltb-true, ltb-false}
use Rattle.owned.proofs.Bits.{full_there, full_past}
use Rattle.owned.proofs.checker.Checker.is_full.Goals as goal

pub returns-then-has : goal.returns-then-has
returns-then-has c = full_there (length c.args.self.now.procedure.kinds.now) c.args.full.0 c.args.x.0 _ c.has-then-has.ensures (ltb-true _ _ (sym c.if-has.ensures))

pub returns-else-has : goal.returns-else-has
returns-else-has c = full_past (length c.args.self.now.procedure.kinds.now) c.args.full.0 c.args.x.0 (ltb-false _ _ (sym c.if-has.ensures))
