use Rattle.std.proofs.Common.{length, sym}
use Rattle.owned.proofs.Bits.{bits_alike}
use Rattle.owned.proofs.checker.Checker.alike.Goals as goal

pub returns : goal.returns
returns c = sym (bits_alike (length c.args.self.now.procedure.kinds.now) c.args.a.0 c.args.b.0 c.first_difference.result c.first_difference.ensures)
