use Rattle.std.proofs.Common.{◌∙◌, ap}
use Rattle.owned.specs.Decode.{variable}
use Rattle.owned.proofs.Bits.{made_none, with_bit, without_bit}
use Rattle.owned.proofs.varset.VarSet.of_those.Goals as goal
use Rattle.owned.proofs.varset.VarSet.of_those.Goals.{then-is_meant, else-is_meant}

pub loop-x-init : goal.loop-x-init
loop-x-init g c = (c.requires.callable, made_none (λ y b. g.F.Fn.post c.args.is_meant (variable y, tt) b))

pub loop-x-preserved : goal.loop-x-preserved
loop-x-preserved g c =
    elim c.if-is_meant.branch [
      | then-is_meant w ↦ (c.loop-x.invariant.0, with_bit (λ y b. g.F.Fn.post c.args.is_meant (variable y, tt) b) c.loop-x.x c.loop-x.those.0 c.if-is_meant.those.0 (ap (λ k. k.0) w.those-is ∙ w.with-those.ensures) w.if-is_meant.ensures c.loop-x.invariant.1)
      | else-is_meant w ↦ (c.loop-x.invariant.0, without_bit (λ y b. g.F.Fn.post c.args.is_meant (variable y, tt) b) c.loop-x.x c.loop-x.those.0 c.if-is_meant.those.0 (ap (λ k. k.0) w.those-is) w.if-is_meant.ensures c.loop-x.invariant.1)
    ]
