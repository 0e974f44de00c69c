use Rattle.std.proofs.Common.{length}
use Rattle.owned.proofs.Promises.{few_post, long_post, unread_post, fine, keeps_post, careless_post}
use Rattle.owned.proofs.judge.Goals as goal

pub returns-then-not-enough : goal.returns-then-not-enough
returns-then-not-enough c = few_post c.args.program.now (length c.args.work.now) c.if-not-enough.ensures

pub returns-then-program-gt-MAX_WORDS : goal.returns-then-program-gt-MAX_WORDS
returns-then-program-gt-MAX_WORDS c = long_post c.args.program.now (length c.args.work.now) c.if-not-enough.ensures c.if-program-gt-MAX_WORDS.true

pub returns-in_default : goal.returns-in_default
returns-in_default c = unread_post c.args.program.now (length c.args.work.now) c.if-not-enough.ensures c.in_default.ensures

pub keeps_rules-requires : goal.keeps_rules-requires
keeps_rules-requires c = fine c.args.program.now _ _ _ c.in-Some.ensures.2 c.in-Some.ensures.3

pub returns-then-keeps_rules : goal.returns-then-keeps_rules
returns-then-keeps_rules c = keeps_post c.args.program.now (length c.args.work.now) c.if-not-enough.ensures c.if-program-gt-MAX_WORDS.false _ _ _ c.in-Some.ensures.2 c.in-Some.ensures.3 c.if-keeps_rules.ensures

pub returns-else-keeps_rules : goal.returns-else-keeps_rules
returns-else-keeps_rules c = careless_post c.args.program.now (length c.args.work.now) c.if-not-enough.ensures c.if-program-gt-MAX_WORDS.false _ _ _ c.in-Some.ensures.2 c.in-Some.ensures.3 c.if-keeps_rules.ensures
