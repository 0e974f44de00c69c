use Rattle.std.proofs.Common.{◌+◌, ◌/◌, sym, refl, subst, inl, inr, arith}
use Rattle.machine.specs.Memory.{control, memory}
use Rattle.machine.proofs.Closing.{CloseSofar, close_end, close_unmarked, close_kind, close_release, close_marked}
use Rattle.machine.proofs.machine.Machine.finish.Goals.{then-mask-eq1, else-mask-eq1}
use Rattle.machine.proofs.machine.Machine.finish.Goals as goal

pub kind_of-kind-requires : goal.kind_of-kind-requires
kind_of-kind-requires c = close_kind refl c.loop-x.invariant c.loop-x-test.true c.if-mask-eq1.true c.requires

pub release-requires : goal.release-requires
release-requires c = close_release refl c.loop-x.invariant c.loop-x-test.true c.if-mask-eq1.true c.kind_of-kind.ensures c.load-word.ensures c.requires

pub loop-x-preserved : goal.loop-x-preserved
loop-x-preserved c =
    elim c.if-mask-eq1.branch [
      | then-mask-eq1 w ↦ subst (λ z. CloseSofar (control c.args.self.now) (memory c.args.self.now) (control z) (memory z) (c.loop-x.x + 1) (c.loop-x.mask / 2)) (sym w.self-is) (close_marked refl c.loop-x.invariant c.loop-x-test.true w.if-mask-eq1.true w.kind_of-kind.ensures w.load-word.ensures w.release.ensures)
      | else-mask-eq1 w ↦ subst (λ z. CloseSofar (control c.args.self.now) (memory c.args.self.now) (control z) (memory z) (c.loop-x.x + 1) (c.loop-x.mask / 2)) (sym w.self-is) (close_unmarked refl c.loop-x.invariant c.loop-x-test.true w.if-mask-eq1.false)
    ]

pub returns-then-mask-eq0 : goal.returns-then-mask-eq0
returns-then-mask-eq0 c = close_end refl c.loop-x.invariant (inr (omega arith))

pub returns-after-loop-x : goal.returns-after-loop-x
returns-after-loop-x c = close_end refl c.loop-x.invariant (inl (omega arith))
