use Rattle.std.proofs.Common.{rules}
use Rattle.owned.specs.Views.{sig_of}
use Rattle.linker.proofs.ReleaseSets.{released_all}
use Rattle.linker.proofs.released.Goals as goal

pub returns : goal.returns
returns c = released_all (sig_of c.args.found.now) c.of_those.result.0 (λ x l. search (rules, c.of_those.ensures.those x l))
