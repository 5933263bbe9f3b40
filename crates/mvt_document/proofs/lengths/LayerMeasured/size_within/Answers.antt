use Rattle.std.proofs.Common.{arith}
use Rattle.std.proofs.lemmas.List.Folds.{flat_map-map}
use Rattle.mvt_document.proofs.Sizes.{length-message}
use Rattle.mvt_document.proofs.lengths.LayerMeasured.size_within.Goals as goal

pub returns-in_err-size_within : goal.returns-in_err-size_within
returns-in_err-size_within c = rw (c.from_residual.ensures, flat_map-map, length-message) (λ h. c.in_err-size_within.ensures (omega arith))

pub returns : goal.returns
returns c = rw (flat_map-map, length-message, ← c.to_tag.ensures, ← c.in_ok-size_within.ensures.1) c.message_size.ensures
