use Rattle.std.proofs.Common.{refl}
use Rattle.owned.specs.Views.{sig_of}
use Rattle.owned.proofs.Layouts.{signature_in}
use Rattle.linker.proofs.Procedures.{header_at}
use Rattle.linker.proofs.header_at.Goals as goal

pub at-found-requires : goal.at-found-requires
at-found-requires c = signature_in c.args.rows.now c.args.at c.requires.1.0 c.requires.1.1 c.requires.1.2

pub returns : goal.returns
returns c = header_at c.args.rows.now c.args.at (sig_of c.at-found.result) _ _ c.at-found.ensures refl refl refl c.released.ensures refl
