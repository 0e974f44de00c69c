use Rattle.std.proofs.Common.{sym, rules}
use Rattle.linker.specs.Links.{code}
use Rattle.linker.proofs.Procedures.{linked_same}
use Rattle.linker.proofs.link.Goals as goal

pub returns : goal.returns
returns c = linked_same (code c.program.new.self) _ (sym c.program.ensures.rows) (search rules) (search rules) (search rules) (search rules) c.program.ensures.links
