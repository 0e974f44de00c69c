use Rattle.std.proofs.Common.{length, refl, ap, ◌∙◌, arith}
use Rattle.linker.specs.Links.{code}
use Rattle.linker.proofs.Changes.{room_of}
use Rattle.owned.proofs.Reading.{read_there_e, stands_e_within}
use Rattle.linker.proofs.Stands.{stands_left}
use Rattle.linker.proofs.Operands.{mark_alone, there_right, mark_binary}
use Rattle.linker.proofs.tables.Linker.+mark_expression.Goals as goal

pub standing-requires : goal.standing-requires
standing-requires t c = read_there_e c.args.self.now.rows.now c.args.at c.requires

pub mark_expression-right-requires : goal.mark_expression-right-requires
mark_expression-right-requires t c = (
  omega (arith, stands_e_within c.args.self.now.rows.now c.args.at c.requires),
  stands_left c.args.self.now.rows.now c.args.at _ c.in-Binary.ensures c.requires,
)

pub mark_expression-requires : goal.mark_expression-requires
mark_expression-requires t c =
    let m = c.mark_expression-right.ensures.marks in (
      omega (arith, stands_e_within c.args.self.now.rows.now c.args.at c.requires, m.later, ap length m.within.below.rows),
      there_right (code c.args.self.now) (room_of c.args.self.now) c.args.at _ c.in-Binary.ensures _ _ m c.requires,
    )

pub returns-in-Binary : goal.returns-in-Binary
returns-in-Binary t c =
    let a = c.mark_expression-right.ensures.held in
    let b = c.mark_expression.ensures.held in
    record {
      marks = mark_binary (code c.args.self.now) (room_of c.args.self.now) c.args.at _ c.in-Binary.ensures (code c.mark_expression-right.new.self) c.mark_expression-right.result c.mark_expression-right.ensures.marks (code c.mark_expression.new.self) c.mark_expression.result c.mark_expression.ensures.marks;
      held = record { follow = b.follow ∙ a.follow; inner = b.inner ∙ a.inner; other = b.other ∙ a.other; procs = b.procs ∙ a.procs };
    }

pub returns-in_default : goal.returns-in_default
returns-in_default t c =
    record {
      marks = mark_alone (code c.args.self.now) c.args.at c.standing.result c.in_default.not-Binary c.standing.ensures;
      held = record { follow = refl; inner = refl; other = refl; procs = refl };
    }
