use Rattle.std.proofs.Common.{length, arith}
use Rattle.owned.proofs.Bits.{full_within, full_bit, clear_bit}
use Rattle.owned.proofs.checker.Checker.emptied.Goals as goal

pub without-requires : goal.without-requires
without-requires c =
    let n = length c.args.self.now.procedure.kinds.now in
    (omega (arith, full_within n c.args.full.0 c.args.x.0 c.if-is_full.ensures, c.args.self.now.few), full_bit n c.args.full.0 c.args.x.0 c.if-is_full.ensures)

pub returns-then-is_full : goal.returns-then-is_full
returns-then-is_full c = clear_bit (length c.args.self.now.procedure.kinds.now) c.args.full.0 c.args.x.0 _ c.without.ensures c.if-is_full.ensures
