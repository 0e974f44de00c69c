use Rattle.std.proofs.Common.{◌≡◌, ◌<◌, ◌∙◌, ◌++◌, length, get_or, drop, set, sym, subst, length-set, arith}
use Rattle.std.proofs.lemmas.List.{length-take-le, set-get_or}
use Rattle.owned.specs.Ends.{Whole, Tabled}
use Rattle.owned.proofs.Tables.{Filled, filled_begin, filled_before, filled_end, filled_full, filled_none, filled_more}
use Rattle.owned.proofs.procs.procedures.Goals as goal

pub loop-n-init : goal.loop-n-init
loop-n-init c = filled_begin c.args.rows.now _

pub returns-then-at-rows : goal.returns-then-at-rows
returns-then-at-rows c =
    let ts = set c.loop-n.start-items c.loop-n.n (get_or c.loop-n.start-items c.loop-n.n 0) in
    let same = subst (λ us. Filled c.args.rows.now us c.loop-n.at c.loop-n.n) (sym (set-get_or c.loop-n.start-items c.loop-n.n 0)) c.loop-n.invariant in
    filled_end c.args.rows.now _ c.loop-n.at c.loop-n.n
    (filled_before c.args.rows.now ts (drop 64 c.args.starts.now) c.loop-n.at c.loop-n.n (omega (arith, c.loop-n.auto.start-items, length-set c.loop-n.start-items c.loop-n.n (get_or c.loop-n.start-items c.loop-n.n 0))) same) (omega arith)

pub returns-in_err-at : goal.returns-in_err-at
returns-in_err-at c =
    let k : length c.loop-n.start-items ≡ 64 = c.loop-n.auto.start-items ∙ length-take-le 64 c.args.starts.now c.requires.1 in
    let l : c.loop-n.at < length c.args.rows.now = omega (arith, c.loop-n.invariant.within, c.if-at-rows.false) in
    subst (λ o. Tabled c.args.rows.now (set c.loop-n.start-items c.loop-n.n c.loop-n.at ++ drop 64 c.args.starts.now) o) (sym c.from_residual.ensures)
    (filled_none c.args.rows.now c.loop-n.start-items c.loop-n.at c.loop-n.n c.loop-n.invariant l (omega arith) c.in_err-at.ensures)

pub loop-n-preserved : goal.loop-n-preserved
loop-n-preserved c =
    let k : length c.loop-n.start-items ≡ 64 = c.loop-n.auto.start-items ∙ length-take-le 64 c.args.starts.now c.requires.1 in
    let l : c.loop-n.at < length c.args.rows.now = omega (arith, c.loop-n.invariant.within, c.if-at-rows.false) in
    filled_more c.args.rows.now c.loop-n.start-items c.loop-n.at c.loop-n.n c.loop-n.invariant l (omega arith) c.in_ok-at.at (omega arith) c.in_ok-at.ensures

pub returns-then-at-rows-2 : goal.returns-then-at-rows-2
returns-then-at-rows-2 c =
    let k : length c.loop-n.start-items ≡ 64 = c.loop-n.auto.start-items ∙ length-take-le 64 c.args.starts.now c.requires.1 in
    let n : c.loop-n.n ≡ 64 = omega (arith, c.loop-n.invariant.few, length-take-le 64 c.args.starts.now c.requires.1) in
    subst (λ m. Whole c.args.rows.now (c.loop-n.start-items ++ drop 64 c.args.starts.now) m) n
    (filled_end c.args.rows.now _ c.loop-n.at c.loop-n.n (filled_before c.args.rows.now c.loop-n.start-items (drop 64 c.args.starts.now) c.loop-n.at c.loop-n.n (omega arith) c.loop-n.invariant) (omega arith))

pub returns-else-at-rows-2 : goal.returns-else-at-rows-2
returns-else-at-rows-2 c =
    let n : c.loop-n.n ≡ 64 = omega (arith, c.loop-n.invariant.few, length-take-le 64 c.args.starts.now c.requires.1) in
    filled_full c.args.rows.now c.loop-n.start-items c.loop-n.at c.loop-n.n c.loop-n.invariant (omega (arith, c.loop-n.invariant.within, c.if-at-rows-2.false)) n
