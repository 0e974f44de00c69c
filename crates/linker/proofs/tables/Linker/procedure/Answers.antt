use Rattle.std.proofs.Common.{◌∙◌}
use Rattle.linker.specs.Links.{code}
use Rattle.linker.proofs.Procedures.{procedure_to}
use Rattle.linker.proofs.tables.Linker.procedure.Goals as goal

pub returns : goal.returns
returns c =
    let x = c.mark-end.ensures.held in
    let y = c.link.ensures.held in
    let z = c.note.ensures.held in
    record {
      links = procedure_to (code c.args.self.now) (code c.mark-end.new.self) (code c.link.new.self) (code c.note.new.self) c.args.f c.args.at c.mark-end.result c.entry-body.result c.header_at-header.result c.args.self.now.procs_room c.requires.0 c.requires.1 c.header_at-header.ensures c.mark-end.ensures.marks c.link.ensures.links c.entry-body.ensures.enters c.note.ensures.notes;
      held = record { follow = z.follow ∙ y.follow ∙ x.follow; inner = z.inner ∙ y.inner ∙ x.inner; other = z.other ∙ y.other ∙ x.other; procs = z.procs ∙ y.procs ∙ x.procs };
    }
