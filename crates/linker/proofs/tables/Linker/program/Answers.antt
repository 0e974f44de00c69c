use Rattle.std.proofs.Common.{length, refl, ap, ◌∙◌, arith}
use Rattle.linker.specs.Links.{code}
use Rattle.linker.proofs.Procedures.{through_begin, next_stands, through_more, through_done}
use Rattle.linker.proofs.tables.Linker.program.Goals as goal

pub loop-at-init : goal.loop-at-init
loop-at-init c = (through_begin (code c.args.self.now), record { follow = refl; inner = refl; other = refl; procs = refl })

pub procedure-at-requires : goal.procedure-at-requires
procedure-at-requires c =
    let h = c.loop-at.invariant.0 in
    let u = next_stands c.args.self.now.rows.now (code c.loop-at.self) c.loop-at.f c.loop-at.at h (omega (arith, ap length h.rows)) c.requires in
    u

pub overflow_add-f : goal.overflow_add-f
overflow_add-f c =
    let h = c.loop-at.invariant.0 in
    omega (arith, (next_stands c.args.self.now.rows.now (code c.loop-at.self) c.loop-at.f c.loop-at.at h (omega (arith, ap length h.rows)) c.requires).0)

pub loop-at-preserved : goal.loop-at-preserved
loop-at-preserved c =
    let h = c.loop-at.invariant.0 in
    let x = c.loop-at.invariant.1 in
    let y = c.procedure-at.ensures.held in (
      through_more c.args.self.now.rows.now (code c.loop-at.self) c.loop-at.f c.loop-at.at h (code c.procedure-at.new.self) c.procedure-at.result (omega (arith, ap length h.rows)) c.procedure-at.ensures.links,
      record { follow = y.follow ∙ x.follow; inner = y.inner ∙ x.inner; other = y.other ∙ x.other; procs = y.procs ∙ x.procs },
    )

pub returns : goal.returns
returns c =
    let h = c.loop-at.invariant.0 in
    record {
      links = through_done c.args.self.now.rows.now (code c.loop-at.self) c.loop-at.f c.loop-at.at h (omega (arith, ap length h.rows));
      rows = h.rows;
      held = c.loop-at.invariant.1;
    }
