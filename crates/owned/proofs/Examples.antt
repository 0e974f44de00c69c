-- The worked programs come out as stated: the definitions compute.
use Rattle.std.proofs.Common.{refl}
use Rattle.owned.specs.Worked.{Worked}

pub worked : Worked
worked = record {
  lending_words = refl;
  lending_keeps = refl;
  lending_done = (_, refl, refl, refl, refl);
  lending_full = refl;
  lending_spent = refl;
  lending_deep = refl;
  moved_careless = refl;
  moved_faults = refl;
  dropped_careless = refl;
  dropped_faults = refl;
  reused_careless = refl;
  reused_faults = refl;
  left_keeps = refl;
  left_done = (_, refl, refl, refl, refl);
}
