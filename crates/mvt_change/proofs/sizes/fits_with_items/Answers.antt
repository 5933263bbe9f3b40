use Rattle.std.proofs.Common.{◌∙◌}
use Rattle.mvt_document.specs.declared.TheConstants.{MAX_FILE}
use Rattle.mvt_change.proofs.Resized.{fits_so}
use Rattle.mvt_change.proofs.sizes.fits_with_items.Goals as goal

pub returns : goal.returns
returns c = λ change takes. c.is_some.ensures ∙ fits_so MAX_FILE c.tile_size.result _ (c.tile_size.ensures change takes)
