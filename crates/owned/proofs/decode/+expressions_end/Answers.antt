use Rattle.std.proofs.Common.{drop, Some, None, sym, subst, arith}
use Rattle.owned.specs.Program.{E}
use Rattle.owned.specs.Decode.{many, read_e}
use Rattle.owned.specs.Ends.{Ended}
use Rattle.owned.proofs.Ends.{rest_begin, rest_done, rest_none, rest_more, no_fuel_e, no_node, by_node}
use Rattle.owned.proofs.decode.+expressions_end.Goals as goal

pub loop-i-init : goal.loop-i-init
loop-i-init t c = rest_begin E c.args.rows.now (λ us. read_e c.args.depth us) c.args.n c.args.at c.requires

pub returns-then-depth-eq0 : goal.returns-then-depth-eq0
returns-then-depth-eq0 t c =
    rest_none E c.args.rows.now (λ us. read_e c.args.depth us) c.args.n c.args.at _ _ c.loop-i.invariant (omega arith) (no_fuel_e c.args.rows.now _ c.args.depth c.if-depth-eq0.true)

pub returns-in_err-head_at : goal.returns-in_err-head_at
returns-in_err-head_at t c =
    subst (λ o. Ended c.args.rows.now (many (λ us. read_e c.args.depth us) c.args.n (drop c.args.at c.args.rows.now)) o) (sym c.from_residual.ensures)
    (rest_none E c.args.rows.now (λ us. read_e c.args.depth us) c.args.n c.args.at _ _ c.loop-i.invariant (omega arith) (no_node c.args.rows.now c.loop-i.end c.args.depth (omega arith) c.in_err-head_at.ensures))

pub returns-in_err-end : goal.returns-in_err-end
returns-in_err-end t c =
    subst (λ o. Ended c.args.rows.now (many (λ us. read_e c.args.depth us) c.args.n (drop c.args.at c.args.rows.now)) o) (sym c.from_residual-in_err-end.ensures)
    (rest_none E c.args.rows.now (λ us. read_e c.args.depth us) c.args.n c.args.at _ _ c.loop-i.invariant (omega arith)
    (by_node c.args.rows.now c.loop-i.end c.args.depth (omega arith) c.in_ok-head_at.field-0 c.in_ok-head_at.ensures c.shape-shape.result c.shape-shape.ensures None c.in_err-end.ensures))

pub loop-i-preserved : goal.loop-i-preserved
loop-i-preserved t c =
    rest_more E c.args.rows.now (λ us. read_e c.args.depth us) c.args.n c.args.at _ _ c.loop-i.invariant (omega arith) c.in_ok-end.end
    (by_node c.args.rows.now c.loop-i.end c.args.depth (omega arith) c.in_ok-head_at.field-0 c.in_ok-head_at.ensures c.shape-shape.result c.shape-shape.ensures (Some c.in_ok-end.end) c.in_ok-end.ensures)

pub returns : goal.returns
returns t c = rest_done E c.args.rows.now (λ us. read_e c.args.depth us) c.args.n c.args.at _ _ c.loop-i.invariant (omega arith)
