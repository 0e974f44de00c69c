use Rattle.std.proofs.Common.{sym, subst}
use Rattle.owned.specs.Views.{seen, SaysS}
use Rattle.owned.proofs.Keeping.{set_there, no_store, no_value, sets}
use Rattle.owned.proofs.checker.Checker.set.Goals as goal

pub returns-then-not-stores : goal.returns-then-not-stores
returns-then-not-stores c = no_store (seen c.args.self.now) c.args.at c.args.full c.args.x c.requires.1 c.if-not-stores.ensures

pub numbers-requires : goal.numbers-requires
numbers-requires c = set_there (seen c.args.self.now) c.args.at c.args.full c.args.x c.requires.1 c.requires.0

pub returns-in_err-end : goal.returns-in_err-end
returns-in_err-end c =
    subst (λ o. SaysS (seen c.args.self.now) c.args.at c.args.full o) (sym c.from_residual.ensures) (no_value (seen c.args.self.now) c.args.at c.args.full c.args.x c.requires.1 c.if-not-stores.ensures c.in_err-end.ensures)

pub returns : goal.returns
returns c = sets (seen c.args.self.now) c.args.at c.args.full c.args.x c.requires.1 c.if-not-stores.ensures _ c.in_ok-end.ensures
