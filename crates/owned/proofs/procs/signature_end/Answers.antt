use Rattle.std.proofs.Common.{min, drop, Some, None, sym, subst}
use Rattle.owned.specs.Decode.{read_sig}
use Rattle.owned.specs.Ends.{Ended, WordUpTo}
use Rattle.owned.proofs.Signatures.{no_vars, no_kinds, no_count, no_marks, no_result, by_result}
use Rattle.owned.proofs.procs.signature_end.Goals as goal
use Rattle.owned.proofs.procs.signature_end.Goals.{In_ok-args}

-- the number of arguments is held to the lesser of its limits
counted : (c : In_ok-args) → WordUpTo c.args.rows.now c.in_ok-middle.middle (min 8 c.in_ok-vars.vars) (Some c.in_ok-args.args)
counted c = subst (λ b. WordUpTo c.args.rows.now c.in_ok-middle.middle b (Some c.in_ok-args.args)) c.min.ensures c.in_ok-args.ensures

pub returns-in_err-vars : goal.returns-in_err-vars
returns-in_err-vars c = subst (λ o. Ended c.args.rows.now (read_sig (drop c.args.at c.args.rows.now)) o) (sym c.from_residual.ensures) (no_vars c.args.rows.now c.args.at c.in_err-vars.ensures)

pub returns-in_err-middle : goal.returns-in_err-middle
returns-in_err-middle c =
    subst (λ o. Ended c.args.rows.now (read_sig (drop c.args.at c.args.rows.now)) o) (sym c.from_residual-in_err-middle.ensures)
    (no_kinds c.args.rows.now c.args.at c.in_ok-vars.vars c.in_ok-vars.ensures c.in_err-middle.ensures)

pub returns-in_err-args : goal.returns-in_err-args
returns-in_err-args c =
    subst (λ o. Ended c.args.rows.now (read_sig (drop c.args.at c.args.rows.now)) o) (sym c.from_residual-in_err-args.ensures)
    (no_count c.args.rows.now c.args.at c.in_ok-vars.vars c.in_ok-vars.ensures c.in_ok-middle.middle c.in_ok-middle.ensures
    (subst (λ b. WordUpTo c.args.rows.now c.in_ok-middle.middle b None) c.min.ensures c.in_err-args.ensures))

pub returns-in_err-result : goal.returns-in_err-result
returns-in_err-result c =
    subst (λ o. Ended c.args.rows.now (read_sig (drop c.args.at c.args.rows.now)) o) (sym c.from_residual-in_err-result.ensures)
    (no_marks c.args.rows.now c.args.at c.in_ok-vars.vars c.in_ok-vars.ensures c.in_ok-middle.middle c.in_ok-middle.ensures
    c.in_ok-args.args (counted (goal.at.returns-in_err-result c).In_ok-args) c.in_err-result.ensures)

pub returns-then-result-rows : goal.returns-then-result-rows
returns-then-result-rows c =
    by_result c.args.rows.now c.args.at c.in_ok-vars.vars c.in_ok-vars.ensures c.in_ok-middle.middle c.in_ok-middle.ensures
    c.in_ok-args.args (counted (goal.at.returns-then-result-rows c).In_ok-args) c.in_ok-result.result c.in_ok-result.ensures c.if-result-rows.true

pub returns-else-result-rows : goal.returns-else-result-rows
returns-else-result-rows c =
    no_result c.args.rows.now c.args.at c.in_ok-vars.vars c.in_ok-vars.ensures c.in_ok-middle.middle c.in_ok-middle.ensures
    c.in_ok-args.args (counted (goal.at.returns-else-result-rows c).In_ok-args) c.in_ok-result.result c.in_ok-result.ensures c.if-result-rows.false
