use Rattle.std.proofs.Common.{sym, subst, arith}
use Rattle.owned.specs.Views.{seen, SaysS}
use Rattle.owned.proofs.Reading.{read_there_s, stands_s_within}
use Rattle.owned.proofs.Keeping.{skips, transfers, no_transfer, drops, no_drop, show_there, no_show, shows, first_there, second_there, no_first, sequence, turn_there, body_there, no_turn, no_body, repeats, changes, test_there, then_there, else_there, no_test, no_then, no_else, joins, differs}
use Rattle.owned.proofs.checker.Checker.+branch_repeat_sequence_statement.Goals as goal

-- if
pub branch-numbers-requires : goal.branch-numbers-requires
branch-numbers-requires t c = test_there (seen c.args.self.now) c.args.at c.args.full c.requires.1 c.requires.0

pub branch-returns-in_err-begin : goal.branch-returns-in_err-begin
branch-returns-in_err-begin t c =
    subst (λ o. SaysS (seen c.args.self.now) c.args.at c.args.full o) (sym c.from_residual.ensures)
    (no_test (seen c.args.self.now) c.args.at c.args.full c.requires.1 c.in_err-begin.ensures)

pub branch-statement-requires : goal.branch-statement-requires
branch-statement-requires t c =
    let u = then_there (seen c.args.self.now) c.args.at c.args.full c.requires.1 _ c.requires.0 c.in_ok-begin.ensures in
    (omega (arith, stands_s_within c.args.self.now.program.rows.now c.args.at c.requires.0.here, u.later, u.within), u.there)

pub branch-returns-in_err-first : goal.branch-returns-in_err-first
branch-returns-in_err-first t c =
    subst (λ o. SaysS (seen c.args.self.now) c.args.at c.args.full o) (sym c.from_residual-in_err-first.ensures)
    (no_then (seen c.args.self.now) c.args.at c.args.full c.requires.1 _ c.in_ok-begin.ensures c.in_err-first.ensures)

pub branch-statement-requires-2 : goal.branch-statement-requires-2
branch-statement-requires-2 t c =
    let u = else_there (seen c.args.self.now) c.args.at c.args.full c.requires.1 _ (c.in_ok-first.first, c.in_ok-first.other) c.requires.0 c.in_ok-begin.ensures c.in_ok-first.ensures in
    (omega (arith, stands_s_within c.args.self.now.program.rows.now c.args.at c.requires.0.here, u.later, u.within), u.there)

pub branch-returns-in_err-second : goal.branch-returns-in_err-second
branch-returns-in_err-second t c =
    subst (λ o. SaysS (seen c.args.self.now) c.args.at c.args.full o) (sym c.from_residual-in_err-second.ensures)
    (no_else (seen c.args.self.now) c.args.at c.args.full c.requires.1 _ c.in_ok-begin.ensures (c.in_ok-first.first, c.in_ok-first.other) c.in_ok-first.ensures c.in_err-second.ensures)

pub branch-returns-then-alike : goal.branch-returns-then-alike
branch-returns-then-alike t c =
    joins (seen c.args.self.now) c.args.at c.args.full c.requires.1 _ c.in_ok-begin.ensures (c.in_ok-first.first, c.in_ok-first.other) c.in_ok-first.ensures
    (c.in_ok-second.second, c.in_ok-second.end) c.in_ok-second.ensures c.if-alike.ensures

pub branch-returns-else-alike : goal.branch-returns-else-alike
branch-returns-else-alike t c =
    differs (seen c.args.self.now) c.args.at c.args.full c.requires.1 _ c.in_ok-begin.ensures (c.in_ok-first.first, c.in_ok-first.other) c.in_ok-first.ensures
    (c.in_ok-second.second, c.in_ok-second.end) c.in_ok-second.ensures c.if-alike.ensures

-- while
pub repeat-numbers-requires : goal.repeat-numbers-requires
repeat-numbers-requires t c = turn_there (seen c.args.self.now) c.args.at c.args.full c.requires.1 c.requires.0

pub repeat-returns-in_err-begin : goal.repeat-returns-in_err-begin
repeat-returns-in_err-begin t c =
    subst (λ o. SaysS (seen c.args.self.now) c.args.at c.args.full o) (sym c.from_residual.ensures)
    (no_turn (seen c.args.self.now) c.args.at c.args.full c.requires.1 c.in_err-begin.ensures)

pub repeat-statement-requires : goal.repeat-statement-requires
repeat-statement-requires t c =
    let u = body_there (seen c.args.self.now) c.args.at c.args.full c.requires.1 _ c.requires.0 c.in_ok-begin.ensures in
    (omega (arith, stands_s_within c.args.self.now.program.rows.now c.args.at c.requires.0.here, u.later, u.within), u.there)

pub repeat-returns-in_err-after : goal.repeat-returns-in_err-after
repeat-returns-in_err-after t c =
    subst (λ o. SaysS (seen c.args.self.now) c.args.at c.args.full o) (sym c.from_residual-in_err-after.ensures)
    (no_body (seen c.args.self.now) c.args.at c.args.full c.requires.1 _ c.in_ok-begin.ensures c.in_err-after.ensures)

pub repeat-returns-then-alike : goal.repeat-returns-then-alike
repeat-returns-then-alike t c = repeats (seen c.args.self.now) c.args.at c.args.full c.requires.1 _ c.in_ok-begin.ensures (c.in_ok-after.after, c.in_ok-after.end) c.in_ok-after.ensures c.if-alike.ensures

pub repeat-returns-else-alike : goal.repeat-returns-else-alike
repeat-returns-else-alike t c = changes (seen c.args.self.now) c.args.at c.args.full c.requires.1 _ c.in_ok-begin.ensures (c.in_ok-after.after, c.in_ok-after.end) c.in_ok-after.ensures c.if-alike.ensures

-- one after the other
pub sequence-statement-requires : goal.sequence-statement-requires
sequence-statement-requires t c = (omega (arith, stands_s_within c.args.self.now.program.rows.now c.args.at c.requires.0.here), first_there (seen c.args.self.now) c.args.at c.args.full c.requires.1 c.requires.0)

pub sequence-returns-in_err-after : goal.sequence-returns-in_err-after
sequence-returns-in_err-after t c =
    subst (λ o. SaysS (seen c.args.self.now) c.args.at c.args.full o) (sym c.from_residual.ensures)
    (no_first (seen c.args.self.now) c.args.at c.args.full c.requires.1 c.in_err-after.ensures)

pub sequence-statement-requires-2 : goal.sequence-statement-requires-2
sequence-statement-requires-2 t c =
    let u = second_there (seen c.args.self.now) c.args.at c.args.full c.requires.1 (c.in_ok-after.after, c.in_ok-after.next) c.requires.0 c.in_ok-after.ensures in
    (omega (arith, stands_s_within c.args.self.now.program.rows.now c.args.at c.requires.0.here, u.later, u.within), u.there)

pub sequence-returns : goal.sequence-returns
sequence-returns t c = sequence (seen c.args.self.now) c.args.at c.args.full c.requires.1 (c.in_ok-after.after, c.in_ok-after.next) _ c.in_ok-after.ensures c.statement-2.ensures

-- any statement
pub statement-standing-requires : goal.statement-standing-requires
statement-standing-requires t c = read_there_s c.args.self.now.program.rows.now c.args.at c.requires.here

pub statement-returns-in-Skip : goal.statement-returns-in-Skip
statement-returns-in-Skip t c = skips (seen c.args.self.now) c.args.at c.args.full c.in-Skip.ensures

pub statement-returns-then-allows : goal.statement-returns-then-allows
statement-returns-then-allows t c = transfers (seen c.args.self.now) c.args.at c.args.full _ _ _ c.in-Between.ensures c.if-allows.ensures _ c.leaves.ensures

pub statement-returns-else-allows : goal.statement-returns-else-allows
statement-returns-else-allows t c = no_transfer (seen c.args.self.now) c.args.at c.args.full _ _ _ c.in-Between.ensures c.if-allows.ensures

pub statement-returns-then-drops : goal.statement-returns-then-drops
statement-returns-then-drops t c = drops (seen c.args.self.now) c.args.at c.args.full _ c.in-Drop.ensures c.if-drops.ensures _ c.emptied.ensures

pub statement-returns-else-drops : goal.statement-returns-else-drops
statement-returns-else-drops t c = no_drop (seen c.args.self.now) c.args.at c.args.full _ c.in-Drop.ensures c.if-drops.ensures

pub statement-numbers-requires : goal.statement-numbers-requires
statement-numbers-requires t c = show_there (seen c.args.self.now) c.args.at c.args.full c.in-Show.ensures c.requires

pub statement-returns-in_err-end-in-Show : goal.statement-returns-in_err-end-in-Show
statement-returns-in_err-end-in-Show t c =
    subst (λ o. SaysS (seen c.args.self.now) c.args.at c.args.full o) (sym c.from_residual.ensures)
    (no_show (seen c.args.self.now) c.args.at c.args.full c.in-Show.ensures c.in_err-end-in-Show.ensures)

pub statement-returns-in_ok-end-in-Show : goal.statement-returns-in_ok-end-in-Show
statement-returns-in_ok-end-in-Show t c = shows (seen c.args.self.now) c.args.at c.args.full c.in-Show.ensures _ c.in_ok-end-in-Show.ensures
