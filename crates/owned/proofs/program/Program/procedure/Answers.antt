use Rattle.owned.specs.Views.{sig_of}
use Rattle.owned.proofs.Layouts.{found}
use Rattle.owned.proofs.program.Program.procedure.Goals as goal

pub at-requires : goal.at-requires
at-requires c = c.args.self.now.begins c.args.f c.requires

pub returns : goal.returns
returns c = found c.args.self.now.rows.now c.args.self.now.starts.now c.args.f (sig_of c.at.result) c.at.result.body c.requires c.at.ensures
