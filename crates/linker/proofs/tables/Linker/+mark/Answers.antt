use Rattle.std.proofs.Common.{length, ap, ◌∙◌, arith}
use Rattle.linker.specs.Links.{code}
use Rattle.owned.proofs.Reading.{read_there_s}
use Rattle.linker.proofs.Changes.{room_of}
use Rattle.linker.proofs.Marking.{ready, after, mark_leaf, stands_one, stands_two, mark_two, stands_body, mark_while}
use Rattle.linker.proofs.tables.Linker.+mark.Goals as goal

pub standing-head-requires : goal.standing-head-requires
standing-head-requires t c = read_there_s c.args.self.now.rows.now c.args.at c.requires

pub mark-second-requires : goal.mark-second-requires
mark-second-requires t c =
    let p = c.mark_parts-first.ensures.marks in
    let r = ready (code c.args.self.now) (code c.mark_parts-first.new.self) c.args.at c.mark_parts-first.result p (room_of c.args.self.now) c.standing-head.result c.standing-head.ensures c.requires in (
      omega (arith, p.parts.later, p.parts.near, ap length p.within.below.rows),
      stands_one (code c.mark_parts-first.new.self) c.args.at c.mark_parts-first.result c.standing-head.result r c.in-Then.is,
    )

pub mark-requires : goal.mark-requires
mark-requires t c =
    let p = c.mark_parts-first.ensures.marks in
    let m = c.mark-second.ensures.marks in
    let r = ready (code c.args.self.now) (code c.mark_parts-first.new.self) c.args.at c.mark_parts-first.result p (room_of c.args.self.now) c.standing-head.result c.standing-head.ensures c.requires in (
      omega (arith, p.parts.later, p.parts.near, ap length p.within.below.rows, m.later, ap length m.within.below.rows),
      stands_two (code c.mark_parts-first.new.self) c.args.at c.mark_parts-first.result c.standing-head.result r c.in-Then.is _ _ m,
    )

pub returns-in-Then : goal.returns-in-Then
returns-in-Then t c =
    let x = c.mark_parts-first.ensures.held in
    let y = c.mark-second.ensures.held in
    let z = c.mark.ensures.held in
    let p = c.mark_parts-first.ensures.marks in
    let r = ready (code c.args.self.now) (code c.mark_parts-first.new.self) c.args.at c.mark_parts-first.result p (room_of c.args.self.now) c.standing-head.result c.standing-head.ensures c.requires in
    record {
      marks = after (code c.args.self.now) (code c.mark_parts-first.new.self) c.args.at c.mark_parts-first.result p c.standing-head.result r (code c.mark.new.self) c.mark.result
          (mark_two (code c.mark_parts-first.new.self) c.args.at c.mark_parts-first.result c.standing-head.result r c.in-Then.is (code c.mark-second.new.self) c.mark-second.result c.mark-second.ensures.marks (code c.mark.new.self) c.mark.result c.mark.ensures.marks);
      held = record { follow = z.follow ∙ y.follow ∙ x.follow; inner = z.inner ∙ y.inner ∙ x.inner; other = z.other ∙ y.other ∙ x.other; procs = z.procs ∙ y.procs ∙ x.procs };
    }

pub mark-requires-in-While : goal.mark-requires-in-While
mark-requires-in-While t c =
    let p = c.mark_parts-first.ensures.marks in
    let r = ready (code c.args.self.now) (code c.mark_parts-first.new.self) c.args.at c.mark_parts-first.result p (room_of c.args.self.now) c.standing-head.result c.standing-head.ensures c.requires in (
      omega (arith, p.parts.later, p.parts.near, ap length p.within.below.rows),
      stands_body (code c.mark_parts-first.new.self) c.args.at c.mark_parts-first.result c.standing-head.result r c.in-While.is,
    )

pub returns-in-While : goal.returns-in-While
returns-in-While t c =
    let x = c.mark_parts-first.ensures.held in
    let y = c.mark-in-While.ensures.held in
    let p = c.mark_parts-first.ensures.marks in
    let r = ready (code c.args.self.now) (code c.mark_parts-first.new.self) c.args.at c.mark_parts-first.result p (room_of c.args.self.now) c.standing-head.result c.standing-head.ensures c.requires in
    record {
      marks = after (code c.args.self.now) (code c.mark_parts-first.new.self) c.args.at c.mark_parts-first.result p c.standing-head.result r (code c.mark-in-While.new.self) c.mark-in-While.result
          (mark_while (code c.mark_parts-first.new.self) c.args.at c.mark_parts-first.result c.standing-head.result r c.in-While.is (code c.mark-in-While.new.self) c.mark-in-While.result c.mark-in-While.ensures.marks);
      held = record { follow = y.follow ∙ x.follow; inner = y.inner ∙ x.inner; other = y.other ∙ x.other; procs = y.procs ∙ x.procs };
    }

pub returns-in_default : goal.returns-in_default
returns-in_default t c =
    let p = c.mark_parts-first.ensures.marks in
    let r = ready (code c.args.self.now) (code c.mark_parts-first.new.self) c.args.at c.mark_parts-first.result p (room_of c.args.self.now) c.standing-head.result c.standing-head.ensures c.requires in
    record {
      marks = after (code c.args.self.now) (code c.mark_parts-first.new.self) c.args.at c.mark_parts-first.result p c.standing-head.result r (code c.mark_parts-first.new.self) c.mark_parts-first.result
          (mark_leaf (code c.mark_parts-first.new.self) c.args.at c.mark_parts-first.result c.standing-head.result r c.in_default.not-Then c.in_default.not-If c.in_default.not-While);
      held = c.mark_parts-first.ensures.held;
    }
