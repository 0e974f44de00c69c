use Rattle.owned.proofs.Reading.{read_there_s, stands_s_within}
use Rattle.linker.proofs.Stands.{entered_here, stands_first, entered_first}
use Rattle.linker.proofs.entry.Goals as goal

pub standing-requires : goal.standing-requires
standing-requires c = read_there_s c.args.rows.now c.loop-place.place c.loop-place.invariant.0

pub loop-place-preserved : goal.loop-place-preserved
loop-place-preserved c =
    (stands_first c.args.rows.now c.loop-place.place c.in-Then.ensures c.loop-place.invariant.0, λ j f. c.loop-place.invariant.1 j (entered_first c.args.rows.now c.loop-place.place c.in-Then.ensures j f))

pub returns : goal.returns
returns c = record {
  enters = c.loop-place.invariant.1 _ (entered_here c.args.rows.now c.loop-place.place c.standing.result c.in_default.not-Then c.standing.ensures);
  near = stands_s_within c.args.rows.now c.loop-place.place c.loop-place.invariant.0;
}
