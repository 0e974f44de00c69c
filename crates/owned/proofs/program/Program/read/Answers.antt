use Rattle.std.proofs.Common.{refl, sym, subst}
use Rattle.owned.specs.Views.{ReadAs}
use Rattle.owned.proofs.Whole.{begins_at}
use Rattle.owned.proofs.program.Program.read.Goals as goal

pub invariant_of-result-clause-begins : goal.invariant_of-result-clause-begins
invariant_of-result-clause-begins c f l = begins_at c.args.rows.now _ c.in_ok-count.ensures.g c.in_ok-count.ensures.placed f l

pub returns : goal.returns
returns c = (refl, c.in_ok-count.ensures.g, c.in_ok-count.ensures.placed, c.in_ok-count.ensures.read)

pub returns-in_err-count : goal.returns-in_err-count
returns-in_err-count c = subst (λ o. ReadAs c.args.rows.now o) (sym c.from_residual.ensures) c.in_err-count.ensures
