use Rattle.std.proofs.Common.{drop, sym, subst}
use Rattle.owned.specs.Decode.{read_s, read_p}
use Rattle.owned.specs.Ends.{Ended}
use Rattle.owned.proofs.Ends.{only}
use Rattle.owned.proofs.Signatures.{no_signature, by_body}
use Rattle.owned.proofs.procs.procedure_end.Goals as goal

pub returns-in_err-body : goal.returns-in_err-body
returns-in_err-body c =
    subst (λ o. Ended c.args.rows.now (read_p (drop c.args.at c.args.rows.now)) o) (sym c.from_residual.ensures) (no_signature c.args.rows.now c.args.at c.in_err-body.ensures)

pub returns : goal.returns
returns c =
    by_body c.args.rows.now c.args.at c.in_ok-body.body c.in_ok-body.ensures _
    (only c.args.rows.now (drop c.in_ok-body.body c.args.rows.now) (λ us. read_s 128 us) _ c.statements_end.ensures)
