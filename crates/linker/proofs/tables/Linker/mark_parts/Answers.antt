use Rattle.std.proofs.Common.{refl}
use Rattle.linker.specs.Links.{code}
use Rattle.linker.proofs.Stands.{stands_expression}
use Rattle.linker.proofs.Operands.{parts_marked, parts_unmarked}
use Rattle.linker.proofs.tables.Linker.mark_parts.Goals as goal

pub mark_expression-requires : goal.mark_expression-requires
mark_expression-requires c = stands_expression c.args.self.now.rows.now c.args.at c.args.head c.requires.1 c.shape-shape.result c.shape-shape.ensures c.requires.0 c.if-shape-eq1.true

pub returns-then-shape-eq1 : goal.returns-then-shape-eq1
returns-then-shape-eq1 c =
    record {
      marks = parts_marked (code c.args.self.now) c.args.at c.args.head c.requires.1 c.shape-shape.result c.shape-shape.ensures c.requires.0 (code c.mark_expression.new.self) c.mark_expression.result c.if-shape-eq1.true c.mark_expression.ensures.marks;
      held = c.mark_expression.ensures.held;
    }

pub returns-else-shape-eq1 : goal.returns-else-shape-eq1
returns-else-shape-eq1 c =
    record {
      marks = parts_unmarked (code c.args.self.now) c.args.at c.args.head c.requires.1 c.shape-shape.result c.shape-shape.ensures c.requires.0 c.if-shape-eq1.false;
      held = record { follow = refl; inner = refl; other = refl; procs = refl };
    }
