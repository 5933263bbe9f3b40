use Rattle.std.proofs.Common.{◌∙◌}
use Rattle.mvt_document.specs.declared.TheConstants.{MAX_FILE}
use Rattle.mvt_change.proofs.Resized.{fits_so}
use Rattle.mvt_change.proofs.sizes.fits_after.Goals as goal

pub returns : goal.returns
returns c = c.is_some.ensures ∙ fits_so MAX_FILE c.size_after.result _ c.size_after.ensures
