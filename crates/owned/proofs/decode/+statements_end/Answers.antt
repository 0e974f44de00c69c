use Rattle.std.proofs.Common.{◌≡◌, ℕ, drop, Some, None, Option, sym, subst, arith}
use Rattle.owned.specs.Program.{S}
use Rattle.owned.specs.Decode.{many, read_s}
use Rattle.owned.specs.Ends.{Ended}
use Rattle.owned.proofs.Ends.{rest_begin, rest_done, rest_none, rest_more, no_fuel_s, no_head, no_exprs, no_args, by_subs}
use Rattle.owned.proofs.decode.+statements_end.Goals as goal
use Rattle.owned.proofs.decode.+statements_end.Goals.{Else-depth-eq0}

-- a statement that is not there ends the whole
refused : (t : ℕ) (c : Else-depth-eq0 t) (o : Option ℕ) → o ≡ None → Ended c.args.rows.now (read_s c.args.depth (drop c.loop-i.end c.args.rows.now)) None → Ended c.args.rows.now (many (λ us. read_s c.args.depth us) c.args.n (drop c.args.at c.args.rows.now)) o
refused t c o e h =
    subst (λ p. Ended c.args.rows.now (many (λ us. read_s c.args.depth us) c.args.n (drop c.args.at c.args.rows.now)) p) (sym e)
    (rest_none S c.args.rows.now (λ us. read_s c.args.depth us) c.args.n c.args.at _ _ c.loop-i.invariant (omega arith) h)

pub loop-i-init : goal.loop-i-init
loop-i-init t c = rest_begin S c.args.rows.now (λ us. read_s c.args.depth us) c.args.n c.args.at c.requires

pub returns-then-depth-eq0 : goal.returns-then-depth-eq0
returns-then-depth-eq0 t c =
    rest_none S c.args.rows.now (λ us. read_s c.args.depth us) c.args.n c.args.at _ _ c.loop-i.invariant (omega arith) (no_fuel_s c.args.rows.now _ c.args.depth c.if-depth-eq0.true)

pub returns-in_err-head_at : goal.returns-in_err-head_at
returns-in_err-head_at t c =
    refused t (goal.at.returns-in_err-head_at t c).Else-depth-eq0 _ c.from_residual.ensures (no_head c.args.rows.now c.loop-i.end c.args.depth (omega arith) c.in_err-head_at.ensures)

pub returns-in_err-args : goal.returns-in_err-args
returns-in_err-args t c =
    refused t (goal.at.returns-in_err-args t c).Else-depth-eq0 _ c.from_residual-in_err-args.ensures
    (no_exprs c.args.rows.now c.loop-i.end c.args.depth (omega arith) c.in_ok-head_at.field-0 c.in_ok-head_at.ensures c.shape-shape.result c.shape-shape.ensures c.in_err-args.ensures)

pub returns-in_err-subs : goal.returns-in_err-subs
returns-in_err-subs t c =
    refused t (goal.at.returns-in_err-subs t c).Else-depth-eq0 _ c.from_residual-in_err-subs.ensures
    (no_args c.args.rows.now c.loop-i.end c.args.depth (omega arith) c.in_ok-head_at.field-0 c.in_ok-head_at.ensures c.shape-shape.result c.shape-shape.ensures
    c.in_ok-args.args c.in_ok-args.ensures c.in_err-subs.ensures)

pub returns-in_err-end : goal.returns-in_err-end
returns-in_err-end t c =
    refused t (goal.at.returns-in_err-end t c).Else-depth-eq0 _ c.from_residual-in_err-end.ensures
    (by_subs c.args.rows.now c.loop-i.end c.args.depth (omega arith) c.in_ok-head_at.field-0 c.in_ok-head_at.ensures c.shape-shape.result c.shape-shape.ensures
    c.in_ok-args.args c.in_ok-args.ensures c.in_ok-subs.subs None c.in_ok-subs.ensures c.in_err-end.ensures)

pub loop-i-preserved : goal.loop-i-preserved
loop-i-preserved t c =
    rest_more S c.args.rows.now (λ us. read_s c.args.depth us) c.args.n c.args.at _ _ c.loop-i.invariant (omega arith) c.in_ok-end.end
    (by_subs c.args.rows.now c.loop-i.end c.args.depth (omega arith) c.in_ok-head_at.field-0 c.in_ok-head_at.ensures c.shape-shape.result c.shape-shape.ensures
    c.in_ok-args.args c.in_ok-args.ensures c.in_ok-subs.subs (Some c.in_ok-end.end) c.in_ok-subs.ensures c.in_ok-end.ensures)

pub returns : goal.returns
returns t c = rest_done S c.args.rows.now (λ us. read_s c.args.depth us) c.args.n c.args.at _ _ c.loop-i.invariant (omega arith)
