use Rattle.mvt_document.specs.Stands.{document_of, feature_of, layer_of}
use Rattle.mvt_edit_geometry.proofs.FeatureFits.{fits_by_fields}
use Rattle.mvt_edit_geometry.proofs.fits.fits_with_fields.Goals as goal

pub returns : goal.returns
returns c change size =
    fits_by_fields (document_of c.args.document.now) c.args.holder.position c.args.found.position (layer_of c.args.holder.layer.now) (feature_of c.args.found.feature.now) c.requires.layer c.requires.feature change c.args.fields c.size_with_fields-items.result c.fits_with_items.result size c.size_with_fields-items.ensures c.fits_with_items.ensures
