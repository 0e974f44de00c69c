use Rattle.std.proofs.Common.{rules}
use Rattle.owned.specs.Views.{seen}
use Rattle.owned.proofs.Whole.{begun_all}
use Rattle.owned.proofs.checker.Checker.begins.Goals as goal

pub returns : goal.returns
returns c = begun_all (seen c.args.self.now) c.of_those.result (λ x l. search (rules, c.of_those.ensures.those x l))
