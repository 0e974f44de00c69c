use Rattle.owned.specs.Views.{seen}
use Rattle.owned.proofs.Whole.{kept_args, kept_missing, kept_none, kept_some}
use Rattle.owned.proofs.checker.Checker.is_kept.Goals as goal

pub returns-then-self : goal.returns-then-self
returns-then-self c = kept_args (seen c.args.self.now) c.if-self.true

pub returns-then-not-has : goal.returns-then-not-has
returns-then-not-has c = kept_missing (seen c.args.self.now) c.if-self.false c.if-not-has.ensures

pub returns-in-Some : goal.returns-in-Some
returns-in-Some c = kept_some (seen c.args.self.now) c.if-self.false c.if-not-has.ensures _ c.begins.ensures _ _ c.in-Some.ensures c.is_full.ensures

pub returns-in-None : goal.returns-in-None
returns-in-None c = kept_none (seen c.args.self.now) c.if-self.false c.if-not-has.ensures _ c.begins.ensures c.in-None.ensures
