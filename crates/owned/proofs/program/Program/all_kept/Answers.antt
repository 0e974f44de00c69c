use Rattle.std.proofs.Common.{refl, arith}
use Rattle.owned.proofs.Whole.{found_few, found_there, rest_careless, rest_more, rest_done}
use Rattle.owned.proofs.program.Program.all_kept.Goals as goal

pub loop-f-init : goal.loop-f-init
loop-f-init c = λ g p. refl

pub invariant_of-checker : goal.invariant_of-checker
invariant_of-checker c = record { few = found_few c.args.self.now.rows.now c.args.self.now.starts.now c.loop-f.f _ c.procedure.ensures c.requires }

pub is_kept-requires : goal.is_kept-requires
is_kept-requires c = found_there c.args.self.now.rows.now c.args.self.now.starts.now c.loop-f.f _ c.procedure.ensures c.requires

pub returns-then-not-is_kept : goal.returns-then-not-is_kept
returns-then-not-is_kept c = rest_careless c.args.self.now.rows.now c.args.self.now.starts.now c.loop-f.f _ c.procedure.ensures c.if-not-is_kept.ensures c.loop-f.invariant

pub loop-f-preserved : goal.loop-f-preserved
loop-f-preserved c = rest_more c.args.self.now.rows.now c.args.self.now.starts.now c.loop-f.f _ c.procedure.ensures c.if-not-is_kept.ensures c.loop-f.invariant

pub returns : goal.returns
returns c = rest_done c.args.self.now.rows.now c.args.self.now.starts.now c.loop-f.f (omega arith) c.loop-f.invariant
