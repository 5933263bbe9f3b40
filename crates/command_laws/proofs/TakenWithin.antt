-- What commands take out of a tile is within the tile.
use Rattle.std.proofs.Common.{◌≡◌, ℕ, ◌+◌, ◌/◌, ◌≤◌, Bool, true, false, ◌==◌, cond, not, is_some, List, length, filter, refl, le_of_eq, arith}
use Rattle.std.specs.List.{flat_map, sum_by}
use Rattle.std.proofs.lemmas.Bool.{cond_both, or_from}
use Rattle.std.proofs.lemmas.List.{map-append}
use Rattle.std.proofs.lemmas.List.Sums.{sum_by-le-sum_by}
use Rattle.mvt_document.specs.Plain.{Field, Feature, LayerItem, Layer, Document}
use Rattle.mvt_document.specs.Wire.{bytes_of, field_bytes, layer_item_bytes, tile_item_bytes}
use Rattle.mvt_messages.specs.Views.{content_in, content_of, features, key_field, value_field, value_in, value_of}
use Rattle.mvt_value.specs.Messages.{encoded_value}
use Rattle.mvt_meaning.specs.Command.{LayerChoice, FeatureChoice, RenameLayer, MoveLayer, DropLayer, KeepLayers, InsertFeature, MoveFeature, DropFeature, SetId, ClearId, SetAttribute, UnsetAttribute, RenameKey, Exclude, ExcludeAll, Shift, SetGeometry, CompactKeys, CompactValues, Compact}
use Rattle.mvt_meaning.specs.Compaction.{is_any, is_entry, is_key_used, is_value_used, leaving, new_ordinals}
use Rattle.mvt_meaning.specs.Decided.{as_before}
use Rattle.mvt_meaning.specs.Geometries.{is_geometry_field, is_kind, moves, shifting}
use Rattle.mvt_meaning.specs.Meaning.{fields_of, is_id, is_kept, is_name, items_of}
use Rattle.mvt_meaning.specs.Selection.{is_feature, is_layer, selected, selected_in, selected_layers}
use Rattle.mvt_meaning.specs.Tagging.{is_key, is_packed_last, is_tags, losing, losing_in, pairs_with, removals, replacements, revaluing, tags_fields}
use Rattle.mvt_meaning.specs.Weights.{compact_takes, geometry_weight, id_weight, key_weight, name_weight, set_takes, weigh, weigh_last, weigh_nth}
use Rattle.command_laws.specs.WeightLaws.{TakenWithin}
use Rattle.command_laws.proofs.Lengths.{filter_no_longer}
use Rattle.command_laws.proofs.ListWeights.{both_within, last_passing, last_within, nth_within, picked_within, seen_weighs}
use Rattle.command_laws.proofs.PartWeights.{before_within, features_before, features_within, fields_weight, fields_within, items_within, of_no_other, parts_within}
use Rattle.command_laws.proofs.LayerWeights.{layers_within, of_both_within, of_less, of_within}

-- ---- names, ids, keys and geometries, in any document

pub name_within : (choice : LayerChoice) (document seen : Document) → name_weight choice document seen ≤ length (bytes_of seen)
name_within choice document seen =
    of_within (selected choice document) (λ ordinal. weigh_last layer_item_bytes is_name (items_of ordinal seen)) (length (bytes_of seen)) (λ ordinal.
    omega (arith, last_within layer_item_bytes is_name (items_of ordinal seen), items_within ordinal seen))

pub id_within : (choice : LayerChoice) (feature : FeatureChoice) (document seen : Document) → id_weight choice feature document seen ≤ length (bytes_of seen)
id_within choice feature document seen =
    of_both_within (selected choice document) (λ ordinal. selected_in feature ordinal document) (λ ordinal found. weigh_last field_bytes is_id (fields_of ordinal found seen)) (length (bytes_of seen)) (λ ordinal found.
    omega (arith, last_within field_bytes is_id (fields_of ordinal found seen), fields_within ordinal found seen))

pub key_within : (key : List ℕ) (choice : LayerChoice) (document seen : Document) → key_weight key choice document seen ≤ length (bytes_of seen)
key_within key choice document seen =
    of_within (selected choice document) (λ ordinal. weigh layer_item_bytes (filter (is_key key) (items_of ordinal seen))) (length (bytes_of seen)) (λ ordinal.
    omega (arith, filter_no_longer layer_item_bytes (is_key key) (items_of ordinal seen), items_within ordinal seen))

-- no kind field is a geometry field
kind_or_geometry : (field : Field) → is_kind field ≡ true → is_geometry_field field ≡ false
kind_or_geometry field is =
    or_from (is_some (value_in 4 field)) (is_some (content_in 4 field))
    (of_no_other 3 4 (field.tag.value / 8) (value_of field.body) (value_of field.body) refl is)
    (of_no_other 3 4 (field.tag.value / 8) (value_of field.body) (content_of field.body) refl is)

drawing_within : (fields : List Field) → weigh_last field_bytes is_kind fields + weigh field_bytes (filter is_geometry_field fields) ≤ weigh field_bytes fields
drawing_within fields =
    omega (arith, last_passing field_bytes is_kind fields, both_within field_bytes is_kind is_geometry_field kind_or_geometry fields)

pub geometry_within : (choice : LayerChoice) (feature : FeatureChoice) (document seen : Document) → geometry_weight choice feature document seen ≤ length (bytes_of seen)
geometry_within choice feature document seen =
    of_both_within (selected choice document) (λ ordinal. selected_in feature ordinal document) (λ ordinal found. weigh_last field_bytes is_kind (fields_of ordinal found seen) + weigh field_bytes (filter is_geometry_field (fields_of ordinal found seen))) (length (bytes_of seen)) (λ ordinal found.
    omega (arith, drawing_within (fields_of ordinal found seen), fields_within ordinal found seen))

-- ---- tags

set_takes_within : (key value : List ℕ) (items : List LayerItem) (fields : List Field) → set_takes key value items fields ≤ weigh field_bytes fields
set_takes_within key value items fields =
    cond_both (pairs_with key items fields == 0) (cond (is_packed_last fields) (weigh_last field_bytes is_tags fields) 0) (weigh field_bytes (as_before (revaluing key value items fields))) (λ n. n ≤ weigh field_bytes fields)
    (λ _. cond_both (is_packed_last fields) (weigh_last field_bytes is_tags fields) 0 (λ n. n ≤ weigh field_bytes fields) (λ _. last_within field_bytes is_tags fields) (λ _. omega arith))
    (λ _. before_within 2 (replacements key value items fields) fields)

losing_within : (key : List ℕ) (layer : Layer) → weigh field_bytes (as_before (losing_in key layer)) ≤ weigh layer_item_bytes layer.items
losing_within key layer =
    omega (arith, features_before 2 (removals key layer.items) (features layer), features_within layer.items)

tags_within : (layer : Layer) → weigh field_bytes (tags_fields layer) ≤ weigh layer_item_bytes layer.items
tags_within layer =
    let joined = seen_weighs field_bytes (λ (list : List Field). list) refl (λ xs ys. refl) (λ (feature : Feature). filter is_tags feature.fields) (features layer) in
    let less = sum_by-le-sum_by (λ (feature : Feature). weigh field_bytes (filter is_tags feature.fields)) fields_weight (features layer) (λ feature. filter_no_longer field_bytes is_tags feature.fields) in
    omega (arith, joined, less, features_within layer.items)

-- ---- keys and values that go

leaving_within : (number : ℕ) (stays : ℕ → Bool) (items : List LayerItem) → weigh layer_item_bytes (leaving number stays items) ≤ weigh layer_item_bytes (filter (is_entry number) items)
leaving_within number stays items = picked_within layer_item_bytes (λ ordinal. not (stays ordinal)) 0 (filter (is_entry number) items)

compact_takes_within : (keys values : List LayerItem → ℕ → Bool) (layer : Layer) → compact_takes keys values layer ≤ weigh layer_item_bytes layer.items
compact_takes_within keys values layer =
    let items = layer.items in
    omega (arith, leaving_within key_field (keys items) items, leaving_within value_field (values items) items, features_before 2 (new_ordinals (keys items) (values items) items) (features layer), parts_within items)

-- ---- commands

pub taken_within : TakenWithin
taken_within (RenameLayer choice name) document = name_within choice document document
taken_within (MoveLayer choice index) document = omega arith
taken_within (DropLayer choice) document =
    of_within (selected choice document) (λ ordinal. weigh_nth tile_item_bytes is_layer ordinal document) (length (bytes_of document)) (λ ordinal. nth_within tile_item_bytes is_layer ordinal document)
taken_within (KeepLayers names) document = filter_no_longer tile_item_bytes (λ item. not (is_kept names item)) document
taken_within (InsertFeature choice index geometry) document = omega arith
taken_within (MoveFeature choice feature index) document = omega arith
taken_within (DropFeature choice feature) document =
    of_both_within (selected choice document) (λ ordinal. selected_in feature ordinal document) (λ ordinal going. weigh_nth layer_item_bytes is_feature going (items_of ordinal document)) (length (bytes_of document)) (λ ordinal going.
    omega (arith, nth_within layer_item_bytes is_feature going (items_of ordinal document), items_within ordinal document))
taken_within (SetId choice feature id) document = id_within choice feature document document
taken_within (ClearId choice feature) document =
    of_both_within (selected choice document) (λ ordinal. selected_in feature ordinal document) (λ ordinal found. weigh field_bytes (filter is_id (fields_of ordinal found document))) (length (bytes_of document)) (λ ordinal found.
    omega (arith, filter_no_longer field_bytes is_id (fields_of ordinal found document), fields_within ordinal found document))
taken_within (SetAttribute choice feature key value) document =
    of_both_within (selected choice document) (λ ordinal. selected_in feature ordinal document) (λ ordinal found. set_takes key (encoded_value value) (items_of ordinal document) (fields_of ordinal found document)) (length (bytes_of document)) (λ ordinal found.
    omega (arith, set_takes_within key (encoded_value value) (items_of ordinal document) (fields_of ordinal found document), fields_within ordinal found document))
taken_within (UnsetAttribute choice feature key) document =
    of_both_within (selected choice document) (λ ordinal. selected_in feature ordinal document) (λ ordinal found. weigh field_bytes (as_before (losing key (items_of ordinal document) (fields_of ordinal found document)))) (length (bytes_of document)) (λ ordinal found.
    omega (arith, before_within 2 (removals key (items_of ordinal document) (fields_of ordinal found document)) (fields_of ordinal found document), fields_within ordinal found document))
taken_within (RenameKey choice old new) document = key_within old choice document document
taken_within (Exclude choice key) document =
    let weight : Layer → ℕ = λ layer. weigh field_bytes (as_before (losing_in key layer)) in
    let each = of_less (selected_layers choice document) (λ found. weigh field_bytes (as_before (flat_map (λ at. losing_in key at.1.1) found))) (λ found. sum_by (λ at. weight at.1.1) found) (λ found.
    le_of_eq (seen_weighs field_bytes as_before refl (map-append (λ at. at.1)) (λ at. losing_in key at.1.1) found)) in
    omega (arith, each, layers_within weight (losing_within key) choice document)
taken_within (ExcludeAll choice) document =
    let weight : Layer → ℕ = λ layer. weigh field_bytes (tags_fields layer) in
    let each = of_less (selected_layers choice document) (λ found. weigh field_bytes (flat_map (λ at. tags_fields at.1.1) found)) (λ found. sum_by (λ at. weight at.1.1) found) (λ found.
    le_of_eq (seen_weighs field_bytes (λ (list : List Field). list) refl (λ xs ys. refl) (λ at. tags_fields at.1.1) found)) in
    omega (arith, each, layers_within weight tags_within choice document)
taken_within (Shift choice feature dx dy) document =
    of_both_within (selected choice document) (λ ordinal. selected_in feature ordinal document) (λ ordinal found. weigh field_bytes (as_before (shifting dx dy (fields_of ordinal found document)))) (length (bytes_of document)) (λ ordinal found.
    omega (arith, before_within 4 (moves dx dy (fields_of ordinal found document)) (fields_of ordinal found document), fields_within ordinal found document))
taken_within (SetGeometry choice feature geometry) document = geometry_within choice feature document document
taken_within (CompactKeys choice) document = layers_within (compact_takes is_key_used is_any) (compact_takes_within is_key_used is_any) choice document
taken_within (CompactValues choice) document =
    layers_within (compact_takes is_any is_value_used) (compact_takes_within is_any is_value_used) choice document
taken_within (Compact choice) document =
    layers_within (compact_takes is_key_used is_value_used) (compact_takes_within is_key_used is_value_used) choice document
