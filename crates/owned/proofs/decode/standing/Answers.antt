use Rattle.std.proofs.Common.{subst}
use Rattle.owned.specs.Decode.{head_of_by}
use Rattle.owned.specs.Ends.{FitsAt}
use Rattle.owned.proofs.decode.standing.Goals as goal

pub unwrap-requires : goal.unwrap-requires
unwrap-requires g c = c.requires.1 c.head_at.result c.head_at.ensures

pub returns : goal.returns
returns g c = subst (λ o. FitsAt g.H.Head.shape_of (head_of_by g.H.Head.shape_of g.H.Head.said_by) c.args.rows.now c.args.at o) c.unwrap.ensures c.head_at.ensures
