use Rattle.std.proofs.Common.{sym, subst, arith}
use Rattle.owned.specs.Views.{seen, SaysE}
use Rattle.owned.proofs.Reading.{read_there_e, stands_e_within, says_number, says_variable, says_no_variable, there_left, there_right, says_no_left, says_both}
use Rattle.owned.proofs.checker.Checker.+numbers.Goals as goal

pub standing-requires : goal.standing-requires
standing-requires t c = read_there_e c.args.self.now.program.rows.now c.args.at c.requires

pub numbers-requires : goal.numbers-requires
numbers-requires t c =
    (omega (arith, stands_e_within c.args.self.now.program.rows.now c.args.at c.requires), there_left (seen c.args.self.now) c.args.at _ c.in-Binary.ensures c.requires)

pub returns-in_err-right-in-Binary : goal.returns-in_err-right-in-Binary
returns-in_err-right-in-Binary t c =
    subst (λ o. SaysE (seen c.args.self.now) c.args.at o) (sym c.from_residual.ensures) (says_no_left (seen c.args.self.now) c.args.at _ c.in-Binary.ensures c.in_err-right-in-Binary.ensures)

pub numbers-requires-in-Binary : goal.numbers-requires-in-Binary
numbers-requires-in-Binary t c =
    let r = there_right (seen c.args.self.now) c.args.at _ c.in-Binary.ensures c.in_ok-right-in-Binary.right c.requires c.in_ok-right-in-Binary.ensures in
    (omega (arith, r.1, r.2), r.0)

pub returns-in-Number : goal.returns-in-Number
returns-in-Number t c = says_number (seen c.args.self.now) c.args.at _ c.in-Number.ensures

pub returns-in_ok-right-in-Binary : goal.returns-in_ok-right-in-Binary
returns-in_ok-right-in-Binary t c =
    says_both (seen c.args.self.now) c.args.at _ c.in-Binary.ensures c.in_ok-right-in-Binary.right _ c.in_ok-right-in-Binary.ensures c.numbers-in-Binary.ensures

pub returns-then-is_operand : goal.returns-then-is_operand
returns-then-is_operand t c = says_variable (seen c.args.self.now) c.args.at _ c.in-Variable.ensures (sym c.if-is_operand.ensures)

pub returns-else-is_operand : goal.returns-else-is_operand
returns-else-is_operand t c = says_no_variable (seen c.args.self.now) c.args.at _ c.in-Variable.ensures (sym c.if-is_operand.ensures)
