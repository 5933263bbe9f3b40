-- How many bytes a command takes out of a document, and how many it puts in: those of whole items.
use Rattle.std.specs.Prelude.{ℕ, ◌+◌, ◌==◌, ℤ, Bool, not, List, length, filter, slice_get, Option, None, Result, Ok, Err, if◌then◌else◌}
use Rattle.std.specs.List.{flat_map, last_or, sum_by}
use Rattle.std.specs.Option.{option_map_or}
use Rattle.mvt_document.specs.Plain.{Field, LayerItem, Layer, Document}
use Rattle.mvt_document.specs.Wire.{field_bytes, layer_item_bytes, tile_item_bytes}
use Rattle.mvt_value.specs.Messages.{encoded_value}
use Rattle.mvt_messages.specs.Views.{key_field, value_field}
use Rattle.mvt_meaning.specs.Command.{LayerChoice, LayersChoice, FeatureChoice, Command, RenameLayer, DropLayer, KeepLayers, InsertFeature, DropFeature, SetId, ClearId, SetAttribute, UnsetAttribute, RenameKey, Exclude, ExcludeAll, Shift, SetGeometry, CompactKeys, CompactValues, Compact}
pub use Rattle.mvt_meaning.specs.Decided.{as_before, as_renumbered}
use Rattle.mvt_meaning.specs.Compaction.{is_any, is_key_used, is_value_used, leaving, repointing}
use Rattle.mvt_meaning.specs.Geometries.{is_geometry_field, is_kind, shifting}
use Rattle.mvt_meaning.specs.Selection.{is_feature, is_layer, selected, selected_in, selected_layers}
use Rattle.mvt_meaning.specs.Tagging.{is_key, is_packed_last, is_tags, losing, losing_in, missing_entries, pairs_with, revaluing, tags_fields, with_attribute}
use Rattle.mvt_meaning.specs.Meaning.{after, fields_of, is_id, is_kept, is_name, items_of, new_feature}
use Rattle.mvt_meaning.specs.declared.refusal.Refusal.{Refusal}

-- ---- the bytes of some items

-- the bytes of all items (guide, Message Structure)
abbrev pub weigh : {A : Type 0} → (A → List ℕ) → List A → ℕ
weigh bytes items = length (flat_map bytes items)

-- the bytes of the last item that passes, 0 where none does (guide, Message Structure)
abbrev pub weigh_last : {A : Type 0} → (A → List ℕ) → (A → Bool) → List A → ℕ
weigh_last bytes passes items = option_map_or (λ item. length (bytes item)) (last_or None (filter passes items)) 0

-- the bytes of the item of this ordinal among those that pass, 0 where there is none (guide, Message Structure)
abbrev pub weigh_nth : {A : Type 0} → (A → List ℕ) → (A → Bool) → ℕ → List A → ℕ
weigh_nth bytes passes ordinal items = option_map_or (λ item. length (bytes item)) (slice_get (filter passes items) ordinal) 0

-- ---- the layer and the feature that a command selects

-- the weight of what is selected, 0 where the selection is refused
abbrev pub of_selected : {A : Type 0} → Result A Refusal → (A → ℕ) → ℕ
of_selected (Ok found) weight = weight found
of_selected (Err refusal) weight = 0

-- the bytes, in the document `seen`, of the last name field of the layer that is selected in `document`
abbrev pub name_weight : LayerChoice → Document → Document → ℕ
name_weight choice document seen = of_selected (selected choice document) (λ ordinal. weigh_last layer_item_bytes is_name (items_of ordinal seen))

-- the bytes, in the document `seen`, of the last id field of the feature that is selected in `document`
abbrev pub id_weight : LayerChoice → FeatureChoice → Document → Document → ℕ
id_weight choice feature document seen = of_selected (selected choice document) (λ ordinal. of_selected (selected_in feature ordinal document) (λ found. weigh_last field_bytes is_id (fields_of ordinal found seen)))

-- the bytes, in the document `seen`, of the keys of these bytes in the layer that is selected in `document`
abbrev pub key_weight : List ℕ → LayerChoice → Document → Document → ℕ
key_weight key choice document seen = of_selected (selected choice document) (λ ordinal. weigh layer_item_bytes (filter (is_key key) (items_of ordinal seen)))

-- ---- fields in which numbers go or get other values

-- what becomes of these tags fields
abbrev pub as_after : List (List (Option ℕ) × Field) → List Field
as_after decided = as_renumbered 2 decided

-- the bytes, before or after as `seen` says, of the tags fields that lose a pair of the key in the feature that is
-- selected
abbrev pub unset_weight : (List (List (Option ℕ) × Field) → List Field) → LayerChoice → FeatureChoice → List ℕ → Document → ℕ
unset_weight seen choice feature key document = of_selected (selected choice document) (λ ordinal. of_selected (selected_in feature ordinal document) (λ found. weigh field_bytes (seen (losing key (items_of ordinal document) (fields_of ordinal found document)))))

-- the bytes, before or after as `seen` says, of the tags fields that lose a pair of the key in all features of the
-- selected layers
abbrev pub excluded_weight : (List (List (Option ℕ) × Field) → List Field) → LayersChoice → List ℕ → Document → ℕ
excluded_weight seen choice key document = of_selected (selected_layers choice document) (λ layers. weigh field_bytes (seen (flat_map (λ found. losing_in key found.1.1) layers)))

-- the bytes of the tags field that changes where a feature of these fields gets the value for the key, in a layer of
-- these items; 0 where it gets a new one
abbrev pub set_takes : List ℕ → List ℕ → List LayerItem → List Field → ℕ
set_takes key value items fields =
    if pairs_with key items fields == 0
    then (if is_packed_last fields then weigh_last field_bytes is_tags fields else 0)
    else weigh field_bytes (as_before (revaluing key value items fields))

-- the bytes of what the layer lacks of the key and of the value, and of the tags field that changes or is new
abbrev pub set_puts : List ℕ → List ℕ → List LayerItem → List Field → ℕ
set_puts key value items fields = weigh layer_item_bytes (missing_entries key value items) + (
    if pairs_with key items fields == 0
    then weigh_last field_bytes is_tags (with_attribute key value items fields)
    else weigh field_bytes (as_after (revaluing key value items fields)))

-- the weight by the items of the layer and the fields of the feature that are selected
abbrev pub set_weight : (List LayerItem → List Field → ℕ) → LayerChoice → FeatureChoice → Document → ℕ
set_weight weight choice feature document = of_selected (selected choice document) (λ ordinal. of_selected (selected_in feature ordinal document) (λ found. weight (items_of ordinal document) (fields_of ordinal found document)))

-- ---- the geometry of a feature

-- the bytes, before or after as `seen` says, of the geometry fields in which an integer gets another value in the
-- feature that is selected
abbrev pub shift_weight : (List (List (Option ℕ) × Field) → List Field) → LayerChoice → FeatureChoice → ℤ → ℤ → Document → ℕ
shift_weight seen choice feature dx dy document = of_selected (selected choice document) (λ ordinal. of_selected (selected_in feature ordinal document) (λ found. weigh field_bytes (seen (shifting dx dy (fields_of ordinal found document)))))

-- the bytes, in the document `seen`, of the last kind field and of all geometry fields of the feature that is selected in
-- `document`
abbrev pub geometry_weight : LayerChoice → FeatureChoice → Document → Document → ℕ
geometry_weight choice feature document seen = of_selected (selected choice document) (λ ordinal. of_selected (selected_in feature ordinal document) (λ found. weigh_last field_bytes is_kind (fields_of ordinal found seen) + weigh field_bytes (filter is_geometry_field (fields_of ordinal found seen))))

-- ---- keys and values that go

-- the bytes of the keys and values of a layer that do not stay, and of the tags fields in which a number gets another
-- value, as they stand before
abbrev pub compact_takes : (List LayerItem → ℕ → Bool) → (List LayerItem → ℕ → Bool) → Layer → ℕ
compact_takes keys values layer =
    weigh layer_item_bytes (leaving key_field (keys layer.items) layer.items) + weigh layer_item_bytes (leaving value_field (values layer.items) layer.items)
    + weigh field_bytes (as_before (repointing (keys layer.items) (values layer.items) layer))

-- the bytes of these tags fields, as they stand after
abbrev pub compact_puts : (List LayerItem → ℕ → Bool) → (List LayerItem → ℕ → Bool) → Layer → ℕ
compact_puts keys values layer = weigh field_bytes (as_after (repointing (keys layer.items) (values layer.items) layer))

-- the weight of each selected layer, together
abbrev pub layers_weight : (Layer → ℕ) → LayersChoice → Document → ℕ
layers_weight weight choice document = of_selected (selected_layers choice document) (λ layers. sum_by (λ found. weight found.1.1) layers)

-- ---- commands

-- the bytes of the items that a command takes out or replaces, as they stand before it
abbrev pub taken_by : Command → Document → ℕ
taken_by (RenameLayer choice name) document = name_weight choice document document
taken_by (DropLayer choice) document = of_selected (selected choice document) (λ ordinal. weigh_nth tile_item_bytes is_layer ordinal document)
taken_by (KeepLayers names) document = weigh tile_item_bytes (filter (λ item. not (is_kept names item)) document)
taken_by (DropFeature choice feature) document = of_selected (selected choice document) (λ ordinal. of_selected (selected_in feature ordinal document) (λ going. weigh_nth layer_item_bytes is_feature going (items_of ordinal document)))
taken_by (SetId choice feature id) document = id_weight choice feature document document
taken_by (ClearId choice feature) document = of_selected (selected choice document) (λ ordinal. of_selected (selected_in feature ordinal document) (λ found. weigh field_bytes (filter is_id (fields_of ordinal found document))))
taken_by (SetAttribute choice feature key value) document = set_weight (set_takes key (encoded_value value)) choice feature document
taken_by (UnsetAttribute choice feature key) document = unset_weight as_before choice feature key document
taken_by (RenameKey choice old new) document = key_weight old choice document document
taken_by (Exclude choice key) document = excluded_weight as_before choice key document
taken_by (ExcludeAll choice) document = of_selected (selected_layers choice document) (λ layers. weigh field_bytes (flat_map (λ found. tags_fields found.1.1) layers))
taken_by (Shift choice feature dx dy) document = shift_weight as_before choice feature dx dy document
taken_by (SetGeometry choice feature geometry) document = geometry_weight choice feature document document
taken_by (CompactKeys choice) document = layers_weight (compact_takes is_key_used is_any) choice document
taken_by (CompactValues choice) document = layers_weight (compact_takes is_any is_value_used) choice document
taken_by (Compact choice) document = layers_weight (compact_takes is_key_used is_value_used) choice document
taken_by command document = 0

-- the bytes of the items that a command puts in, new ones or those that replace others, as they stand after it
abbrev pub put_by : Command → Document → ℕ
put_by (RenameLayer choice name) document = name_weight choice document (after (RenameLayer choice name) document)
put_by (InsertFeature choice index geometry) document = length (layer_item_bytes (new_feature geometry))
put_by (SetId choice feature id) document = id_weight choice feature document (after (SetId choice feature id) document)
put_by (SetAttribute choice feature key value) document = set_weight (set_puts key (encoded_value value)) choice feature document
put_by (UnsetAttribute choice feature key) document = unset_weight as_after choice feature key document
put_by (RenameKey choice old new) document = key_weight new choice document (after (RenameKey choice old new) document)
put_by (Exclude choice key) document = excluded_weight as_after choice key document
put_by (Shift choice feature dx dy) document = shift_weight (as_renumbered 4) choice feature dx dy document
put_by (SetGeometry choice feature geometry) document = geometry_weight choice feature document (after (SetGeometry choice feature geometry) document)
put_by (CompactKeys choice) document = layers_weight (compact_puts is_key_used is_any) choice document
put_by (CompactValues choice) document = layers_weight (compact_puts is_any is_value_used) choice document
put_by (Compact choice) document = layers_weight (compact_puts is_key_used is_value_used) choice document
put_by command document = 0
