use Rattle.std.proofs.Common.{refl, ◌∙◌, arith}
use Rattle.linker.specs.Links.{code}
use Rattle.owned.proofs.Reading.{read_there_s}
use Rattle.linker.proofs.Changes.{room_of}
use Rattle.linker.proofs.Linking.{stands, inside_rows, link_leaf, pair_first, pair_other, pair_second, link_pair, branch_there, branch_first, branch_second, link_branch, body_there, loop_body, link_loop}
use Rattle.linker.proofs.tables.Linker.+link.Goals as goal

pub offset_bounds-self-at : goal.offset_bounds-self-at
offset_bounds-self-at t c = omega (arith, inside_rows (code c.args.self.now) c.args.at c.requires.0, c.args.self.now.short)

pub bounds-self-at : goal.bounds-self-at
bounds-self-at t c = omega (arith, inside_rows (code c.args.self.now) c.args.at c.requires.0, c.args.self.now.inner_room)

pub offset_bounds-self-at-2 : goal.offset_bounds-self-at-2
offset_bounds-self-at-2 t c = omega (arith, inside_rows (code c.args.self.now) c.args.at c.requires.0, c.args.self.now.short)

pub bounds-self-at-2 : goal.bounds-self-at-2
bounds-self-at-2 t c = omega (arith, inside_rows (code c.args.self.now) c.args.at c.requires.0, c.args.self.now.other_room)

pub standing-requires : goal.standing-requires
standing-requires t c = read_there_s c.args.self.now.rows.now c.args.at (stands (code c.args.self.now) c.args.at c.requires.0)

-- a pair
pub entry-requires : goal.entry-requires
entry-requires t c = pair_other (code c.args.self.now) c.args.at c.in-Then.ensures c.requires.0

pub link-requires : goal.link-requires
link-requires t c =
    let n = pair_first (code c.args.self.now) c.args.at c.in-Then.ensures c.requires.0 in
    (omega (arith, inside_rows (code c.args.self.now) c.args.at c.requires.0, n.later), (n.there, omega (arith, c.entry.ensures.near, c.args.self.now.short)))

pub link-requires-in-Then : goal.link-requires-in-Then
link-requires-in-Then t c =
    let n = pair_second (code c.args.self.now) c.args.at c.in-Then.ensures (code c.link.new.self) c.entry.result c.entry.ensures.enters c.link.ensures.links c.requires.0 in
    (omega (arith, inside_rows (code c.args.self.now) c.args.at c.requires.0, n.later, n.rows), (n.there, c.requires.1))

pub returns-in-Then : goal.returns-in-Then
returns-in-Then t c =
    let a = c.link.ensures.held in
    let b = c.link-in-Then.ensures.held in
    record {
      links = link_pair (code c.args.self.now) c.args.at c.in-Then.ensures (code c.link.new.self) c.entry.result c.entry.ensures.enters c.link.ensures.links (code c.link-in-Then.new.self) c.args.next c.link-in-Then.ensures.links;
      held = record { follow = b.follow ∙ a.follow; inner = b.inner ∙ a.inner; other = b.other ∙ a.other; procs = b.procs ∙ a.procs };
    }

-- if
pub entry-requires-in-If : goal.entry-requires-in-If
entry-requires-in-If t c = (branch_there (code c.args.self.now) c.args.at c.in-If.ensures c.requires.0).0

pub entry-requires-in-If-2 : goal.entry-requires-in-If-2
entry-requires-in-If-2 t c = (branch_there (code c.args.self.now) c.args.at c.in-If.ensures c.requires.0).1

pub link-requires-in-If : goal.link-requires-in-If
link-requires-in-If t c =
    let n = branch_first (code c.args.self.now) c.args.at c.in-If.ensures c.args.next c.entry-in-If.result c.entry-in-If-2.result c.requires.0 in
    (omega (arith, inside_rows (code c.args.self.now) c.args.at c.requires.0, n.later), (n.there, c.requires.1))

pub link-requires-in-If-2 : goal.link-requires-in-If-2
link-requires-in-If-2 t c =
    let n = branch_second (code c.args.self.now) c.args.at c.in-If.ensures c.args.next c.entry-in-If.result c.entry-in-If-2.result (code c.link-in-If.new.self) c.link-in-If.ensures.links c.requires.0 in
    (omega (arith, inside_rows (code c.args.self.now) c.args.at c.requires.0, n.later, n.rows), (n.there, c.requires.1))

pub returns-in-If : goal.returns-in-If
returns-in-If t c =
    let a = c.link-in-If.ensures.held in
    let b = c.link-in-If-2.ensures.held in
    record {
      links = link_branch (code c.args.self.now) c.args.at c.in-If.ensures c.args.next c.entry-in-If.result c.entry-in-If-2.result (code c.link-in-If.new.self) c.link-in-If.ensures.links (room_of c.args.self.now) (inside_rows (code c.args.self.now) c.args.at c.requires.0) c.entry-in-If.ensures.enters c.entry-in-If-2.ensures.enters (code c.link-in-If-2.new.self) c.link-in-If-2.ensures.links;
      held = record { follow = b.follow ∙ a.follow; inner = b.inner ∙ a.inner; other = b.other ∙ a.other; procs = b.procs ∙ a.procs };
    }

-- while
pub entry-requires-in-While : goal.entry-requires-in-While
entry-requires-in-While t c = body_there (code c.args.self.now) c.args.at c.in-While.ensures c.requires.0

pub link-requires-in-While : goal.link-requires-in-While
link-requires-in-While t c =
    let l = inside_rows (code c.args.self.now) c.args.at c.requires.0 in
    let n = loop_body (code c.args.self.now) c.args.at c.in-While.ensures c.args.next c.entry-in-While.result c.requires.0 in
    (omega (arith, n.later), (n.there, omega (arith, c.args.self.now.short)))

pub returns-in-While : goal.returns-in-While
returns-in-While t c =
    let a = c.link-in-While.ensures.held in
    record {
      links = link_loop (code c.args.self.now) c.args.at c.in-While.ensures c.args.next c.entry-in-While.result (code c.link-in-While.new.self) (room_of c.args.self.now) (inside_rows (code c.args.self.now) c.args.at c.requires.0) c.entry-in-While.ensures.enters c.link-in-While.ensures.links;
      held = record { follow = a.follow; inner = a.inner; other = a.other; procs = a.procs };
    }

-- a statement without parts
pub returns-in_default : goal.returns-in_default
returns-in_default t c =
    record {
      links = link_leaf (code c.args.self.now) c.args.at c.args.next c.standing.result (omega (arith, inside_rows (code c.args.self.now) c.args.at c.requires.0, c.args.self.now.follow_room)) c.standing.ensures c.in_default.not-Then c.in_default.not-If c.in_default.not-While;
      held = record { follow = refl; inner = refl; other = refl; procs = refl };
    }
