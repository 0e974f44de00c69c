use Rattle.std.proofs.Common.{◌≡◌, ◌++◌, ◌∙◌, length, drop, arith}
use Rattle.std.proofs.lemmas.List.{get_or_append_left, length-take-le, length-append}
use Rattle.owned.proofs.FreeCells.{all_linked}
use Rattle.owned.proofs.cells.FreeCells.new.Goals as goal

pub returns-clause-list : goal.returns-clause-list
returns-clause-list c =
    let n : length c.loop-cell.link-items ≡ c.args.cells = c.loop-cell.auto.link-items ∙ length-take-le c.args.cells c.args.links.now c.requires in
    all_linked (c.loop-cell.link-items ++ drop c.args.cells c.args.links.now) c.args.cells (omega (arith, n, length-append c.loop-cell.link-items (drop c.args.cells c.args.links.now)))
    (λ k h. get_or_append_left c.loop-cell.link-items (drop c.args.cells c.args.links.now) 0 k (omega arith) ∙ c.loop-cell.invariant k (omega arith))
