use Rattle.std.proofs.Common.{◌≡◌}
use Rattle.std.specs.Prelude.{is_some}
use Rattle.mvt_view.specs.FeatureGeometry.{integers_in}
use Rattle.mvt_view.proofs.geometries.are_integers.Given as goal

abbrev pub invariant-loop-number : goal.invariant-loop-number
invariant-loop-number l = is_some (integers_in l.number-iterator) ≡ is_some (integers_in l.fn.numbers)
