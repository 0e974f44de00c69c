use Rattle.std.proofs.Common.{arith}
use Rattle.owned.proofs.FreeCells.{link_there, given_first, walk_begin, link_after, walk_more, given_after}
use Rattle.owned.proofs.cells.FreeCells.give_back.Goals as goal

pub returns-then-cell-self-clause-back : goal.returns-then-cell-self-clause-back
returns-then-cell-self-clause-back c cs l u = given_first c.args.self.now.links.now c.args.self.now.head cs l c.args.cell.0 u c.if-cell-self.true

pub loop-before-init : goal.loop-before-init
loop-before-init c = (
  (walk_begin c.args.self.now.links.now c.args.self.now.head c.requires.0 c.requires.1 c.args.cell.0 c.requires.2 c.if-cell-self.false).1,
  link_there c.args.self.now.links.now c.args.self.now.head c.requires.0 c.requires.1 c.args.cell.0 c.requires.2,
  λ cs l u. (walk_begin c.args.self.now.links.now c.args.self.now.head cs l c.args.cell.0 u c.if-cell-self.false).0,
)

pub loop-before-smaller : goal.loop-before-smaller
loop-before-smaller c =
    let f = c.loop-before.invariant.2 c.requires.0 c.requires.1 c.requires.2 in
    omega (arith, link_after c.args.self.now.links.now c.args.self.now.head c.requires.0 c.requires.1 c.loop-before.before f)

pub loop-before-preserved : goal.loop-before-preserved
loop-before-preserved c = (
  c.loop-before-test.true,
  c.loop-before.invariant.1,
  λ cs l u. walk_more c.args.self.now.links.now c.args.self.now.head cs l c.args.cell.0 u c.loop-before.before (c.loop-before.invariant.2 cs l u) c.loop-before-test.true,
)

pub returns-clause-back : goal.returns-clause-back
returns-clause-back c cs l u = given_after c.args.self.now.links.now c.args.self.now.head cs l c.args.cell.0 u c.loop-before.before (c.loop-before.invariant.2 cs l u) c.loop-before.invariant.0 (omega arith)
