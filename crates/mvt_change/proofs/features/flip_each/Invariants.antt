use Rattle.std.proofs.Common.{◌≡◌, ◌-◌, ◌<◌, length}
use Rattle.std.specs.Prelude.{slice_get}
use Rattle.std.specs.Option.{IsSomeAnd}
use Rattle.mvt_change.specs.Underway.{Advances, InEach, IsInFeatureOf, item_at}
use Rattle.mvt_change.proofs.Visits.{IsOnVisit}
use Rattle.mvt_change.proofs.features.flip_each.Given as goal

abbrev pub invariant-loop-item : goal.invariant-loop-item
invariant-loop-item l = record {
  there : l.at < length l.steps;
  on : IsSomeAnd (slice_get l.steps l.at) (IsInFeatureOf l.layer);
  item : l.item ≡ item_at l.layer l.fn.steps l.at;
  visit : IsOnVisit l.layer l.at l.fn.steps l.steps;
  made : InEach l.layer l.fn.items l.items (Advances l.at l.fn.steps l.steps);
}

abbrev pub decreases-loop-item : goal.decreases-loop-item
decreases-loop-item l = length l.steps - l.at
