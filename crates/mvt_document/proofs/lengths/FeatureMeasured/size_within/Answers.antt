use Rattle.std.proofs.Common.{arith}
use Rattle.std.proofs.lemmas.List.Folds.{flat_map-map}
use Rattle.mvt_document.proofs.Sizes.{length-message}
use Rattle.mvt_document.proofs.lengths.FeatureMeasured.size_within.Goals as goal

pub returns-in_err-size_of_all : goal.returns-in_err-size_of_all
returns-in_err-size_of_all c = rw (c.from_residual.ensures, flat_map-map, length-message, ← c.fields.ensures) (λ h. c.in_err-size_of_all.ensures (omega arith))

pub returns : goal.returns
returns c = rw (flat_map-map, length-message, ← c.tag.ensures, ← c.width.ensures, ← c.fields.ensures, ← c.in_ok-size_of_all.ensures.1) c.message_size.ensures
