use Rattle.std.proofs.Common.{refl}
use Rattle.owned.proofs.Layouts.{seen_at}
use Rattle.owned.proofs.procs.Procedure.at.Goals as goal

pub returns : goal.returns
returns c = seen_at c.args.rows.now c.args.at _ _ refl refl _ _ refl refl refl refl
