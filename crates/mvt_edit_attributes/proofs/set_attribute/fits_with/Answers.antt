use Rattle.std.proofs.Common.{◌++◌, length, map, option_map, subst, sym, ap, ◌∙◌}
use Rattle.std.specs.List.{flat_map}
use Rattle.std.proofs.lemmas.List.Folds.{flat_map-map}
use Rattle.mvt_document.proofs.Sizes.{same_size}
use Rattle.mvt_document.specs.declared.TheConstants.{MAX_FILE}
use Rattle.mvt_document.specs.Lists.{change_at}
use Rattle.mvt_document.specs.Places.{in_feature}
use Rattle.mvt_document.specs.Stands.{document_of, feature_of, field_of, layer_item_of, layer_of}
use Rattle.mvt_document.specs.Wire.{field_bytes, layer_item_bytes}
use Rattle.mvt_change.specs.FileSizes.{IsFileSize}
use Rattle.mvt_change.proofs.Resized.{fields_there, items_there}
use Rattle.mvt_edit_steps.specs.Fates.{seen, splice_of}
use Rattle.mvt_edit_attributes.specs.Attribute.{fields_with}
use Rattle.mvt_edit_attributes.proofs.set_attribute.fits_with.Goals as goal

pub returns : goal.returns
returns c = λ given makes.
    let document = document_of c.args.document.now in
    let holder = c.args.holder in
    let found = c.args.found in
    let layer = layer_of holder.layer.now in
    let feature = feature_of found.feature.now in
    let more = map layer_item_of c.args.entries.now in
    let run = option_map (λ run. seen field_of (splice_of run)) c.args.run.now in
    let fields = subst (λ list. IsFileSize c.size_with-fields.result (length (flat_map field_bytes list))) (ap (λ list. fields_with (map field_of list) run) c.fields.ensures ∙ sym makes) c.size_with-fields.ensures in
    let following = same_size MAX_FILE c.size_of_all-following.result _ _ (ap length (sym (flat_map-map layer_item_bytes layer_item_of c.args.entries.now))) c.size_of_all-following.ensures in
    let items = c.size_with_fields-items.ensures given more (fields_there found.position layer.items feature (λ old. IsFileSize c.size_with-fields.result (length (flat_map field_bytes (given old)))) c.requires.feature fields) following in
    c.fits_with_items.ensures (λ items. change_at (in_feature given) found.position items ++ more) (items_there holder.position document layer (λ old. IsFileSize c.size_with_fields-items.result (length (flat_map layer_item_bytes (change_at (in_feature given) found.position old ++ more)))) c.requires.layer items)
