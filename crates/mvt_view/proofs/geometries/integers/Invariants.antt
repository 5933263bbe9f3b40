use Rattle.std.proofs.Common.{◌≡◌, ◌++◌, option_map}
use Rattle.mvt_view.specs.FeatureGeometry.{integers_in}
use Rattle.mvt_view.proofs.geometries.integers.Given as goal

abbrev pub invariant-loop-number : goal.invariant-loop-number
invariant-loop-number l = option_map (λ rest. l.integers.items ++ rest) (integers_in l.number-iterator) ≡ integers_in l.fn.numbers
