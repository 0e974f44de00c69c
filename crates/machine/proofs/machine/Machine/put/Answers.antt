use Rattle.std.proofs.Common.{refl, arith}
use Rattle.machine.proofs.Releasing.{nothing_held}
use Rattle.machine.proofs.Variables.{put_var, put_releases, put_done}
use Rattle.machine.proofs.machine.Machine.put.Goals as goal

pub load-old-requires : goal.load-old-requires
load-old-requires c = put_var c.requires

pub release-requires : goal.release-requires
release-requires c = put_releases c.kind_of-kind.ensures c.load-old.ensures c.requires

pub returns-then-kind-eq0 : goal.returns-then-kind-eq0
returns-then-kind-eq0 c = put_done c.kind_of-kind.ensures refl (nothing_held (λ l w. omega arith)) c.store.ensures.here c.store.ensures.stored

pub store-requires-2 : goal.store-requires-2
store-requires-2 c = put_var c.requires

pub returns : goal.returns
returns c = put_done c.kind_of-kind.ensures c.load-old.ensures c.release.ensures c.store-2.ensures.here c.store-2.ensures.stored
