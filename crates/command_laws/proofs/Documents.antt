-- An accepted command makes a document of a document.
use Rattle.std.proofs.Common.{◌≡◌, ℕ, ◌^◌, ◌<◌, ◌≤◌, Bool, true, ℤ, ◌&&◌, not, cond, ltb, ◌==◌, is_some, Some, IfOk, Err, Ok, List, [], ◌∷◌, ◌++◌, length, map, filter, slice_get, refl, subst, arith}
use Rattle.std.specs.List.{AllByRecursion, flat_map, list_any}
use Rattle.std.specs.Str.{bytes_eq}
use Rattle.std.proofs.lemmas.Bool.{cond_both, ltb-false, not-false}
use Rattle.mvt_document.specs.declared.TheConstants.{MAX_FILE}
use Rattle.mvt_document.specs.Plain.{Number, Body, Spelled, Eight, Four, Delimited, Group, Field, LayerItem, OfFeature, PlainInLayer, TileItem, OfLayer, PlainInTile, Document}
use Rattle.mvt_document.specs.Opens.{IsField, IsLayerItem, IsTileItem, IsDocument}
use Rattle.mvt_document.specs.Groups.{IsNumber}
use Rattle.mvt_document.specs.Places.{in_feature, in_layer}
use Rattle.mvt_document.specs.Wire.{bytes_of, layer_item_bytes, minimal, tile_item_bytes}
use Rattle.mvt_document.proofs.Sizes.{length-message}
use Rattle.mvt_document.proofs.Spelling.{minimal_spelling}
use Rattle.mvt_value.specs.Messages.{encoded_value}
use Rattle.mvt_geometry.specs.Shapes.{Geometry, kind_number}
use Rattle.mvt_geometry.specs.declared.Kind.{Kind}
use Rattle.mvt_geometry.specs.declared.Kind.TheVariants.{Dots, Lines, Areas}
use Rattle.mvt_geometry.specs.Integers.{encoded}
use Rattle.mvt_meaning.specs.Command.{LayersChoice, TheLayer, EachLayer, Command, IsCommand, RenameLayer, MoveLayer, DropLayer, KeepLayers, InsertFeature, MoveFeature, DropFeature, SetId, ClearId, SetAttribute, UnsetAttribute, RenameKey, Exclude, ExcludeAll, Shift, SetGeometry, CompactKeys, CompactValues, Compact}
use Rattle.mvt_messages.specs.Views.{contents, key_field, layers, plain_fields, value_field}
use Rattle.mvt_meaning.specs.Ordinals.{change_last, change_nth, without, move_nth, insert_nth}
use Rattle.mvt_meaning.specs.Selection.{is_feature, is_layer, selected, selected_in, selected_layers}
use Rattle.mvt_meaning.specs.Compaction.{compacted, is_any, is_entry, is_key_used, is_value_used, new_ordinals, staying, with_entries, with_new_ordinals}
use Rattle.mvt_meaning.specs.Geometries.{can_move, geometry_among, is_geometry_field, is_kind, moves, shifted, with_geometry, with_kind}
use Rattle.mvt_meaning.specs.Tagging.{attributed, excluded, is_key, is_packed_last, is_tags, missing_entries, missing_entry, new_pair, pairs_with, removals, renamed_keys, replacements, unreadable, untagged, value_ordinal, with_attribute, with_more, with_more_content, with_more_tags, without_attribute, without_tags}
use Rattle.mvt_geometry.specs.Checks.{is_in_range}
use Rattle.mvt_meaning.specs.Meaning.{applied, refuse_if, can_shift, fields_of, layer_count, feature_count, has_key, has_pairs, is_drawn, is_id, items_of, refuse_first, repeats_key, is_kept, is_name, is_taken, within_limit, change_layer, change_layers, change_readable, change_feature, identified, named_items, new_content, new_feature, new_number, with_content, with_field_value, with_field_value, with_number, with_text, with_value, without_id}
use Rattle.mvt_meaning.specs.declared.refusal.Refusal.TheVariants.{BadGeometry, BadPlace, BadTags, KeyTaken, NameTaken, NoKey, NoLayer, OutOfRange, RepeatedKey, TooLarge}
use Rattle.mvt_renumber.specs.Renumbering.{renumber}
use Rattle.mvt_document.proofs.EachItem.{all_joined}
use Rattle.mvt_renumber.proofs.Redone.{stays_valid, with_number-valid}
use Rattle.mvt_meaning.proofs.Elements.{all_filtered}
use Rattle.mvt_meaning.proofs.Compaction.{new_ordinals_short}
use Rattle.mvt_meaning.proofs.Found.{fields_of_nth, items_of_nth}
use Rattle.mvt_meaning.proofs.Moving.{moves_short}
use Rattle.mvt_meaning.proofs.Removals.{removals_short}
use Rattle.mvt_meaning.proofs.Replacements.{replacements_short}
use Rattle.mvt_meaning.proofs.NewFields.{content_field, new_feature_valid, new_geometry, new_kind, number_field, missing_valid, new_key, new_value}
use Rattle.command_laws.specs.DocumentLaws.{CommandMakesDocument}
use Rattle.command_laws.proofs.Accepted.{not_refused, ok_so, then_given, then_so}
use Rattle.command_laws.proofs.EntryOrdinals.{value_short}
use Rattle.command_laws.proofs.Elements.{all_changed, all_changed_at, all_changed_within, all_inserted, all_last, all_mapped, all_moved, all_pushed, all_put, all_put_once, all_staying, all_without}

-- ---- a new name

text_valid : (name : List ℕ) (tag : Number) (body : Body) → IsField (record { tag = tag; body = body }) → IsField (record { tag = tag; body = with_content name body })
text_valid name tag (Spelled number) valid = valid
text_valid name tag (Eight bytes) valid = valid
text_valid name tag (Four bytes) valid = valid
text_valid name tag (Group bytes) valid = valid
text_valid name tag (Delimited width bytes) valid = record { number = valid.number; tag = valid.tag; body = valid.body }

named_valid : (name : List ℕ) (item : LayerItem) → IsLayerItem item → IsLayerItem (with_text name item)
named_valid name (OfFeature feature) valid = valid
named_valid name (PlainInLayer field) valid = (text_valid name field.tag field.body valid.0, valid.1)

new_name : (name : List ℕ) → IsLayerItem (PlainInLayer (new_content 10 name))
new_name name = (content_field 10 name (omega arith) (record { numbered = omega arith; short = omega arith; typed = refl }), λ same. omega (arith, same))

-- ---- a new id

value_valid : (value : ℕ) → value < 2 ^ 64 → (tag : Number) (body : Body) → IsField (record { tag = tag; body = body }) → IsField (record { tag = tag; body = with_value value body })
value_valid value fits tag (Spelled number) valid = record { number = valid.number; tag = valid.tag; body = with_number-valid value number fits valid.body }
value_valid value fits tag (Eight bytes) valid = valid
value_valid value fits tag (Four bytes) valid = valid
value_valid value fits tag (Delimited width bytes) valid = valid
value_valid value fits tag (Group bytes) valid = valid

field_value_valid : (value : ℕ) → value < 2 ^ 64 → (field : Field) → IsField field → IsField (with_field_value value field)
field_value_valid value fits field valid = value_valid value fits field.tag field.body valid

new_id : (id : ℕ) → id < 2 ^ 64 → IsField (new_number 8 id)
new_id id fits = number_field 8 id (omega arith) (record { numbered = omega arith; short = omega arith; typed = refl }) fits

-- ---- layers and features whose lists stay valid

in_layer_valid : (change : List LayerItem → List LayerItem) → ((items : List LayerItem) → AllByRecursion IsLayerItem items → AllByRecursion IsLayerItem (change items)) → (item : TileItem) → IsTileItem item → IsTileItem (in_layer change item)
in_layer_valid change keeps (OfLayer layer) valid = record { number = valid.number; tag = valid.tag; width = valid.width; items = keeps layer.items valid.items }
in_layer_valid change keeps (PlainInTile field) valid = valid

in_feature_valid : (change : List Field → List Field) → ((fields : List Field) → AllByRecursion IsField fields → AllByRecursion IsField (change fields)) → (item : LayerItem) → IsLayerItem item → IsLayerItem (in_feature change item)
in_feature_valid change keeps (OfFeature feature) valid = record { number = valid.number; tag = valid.tag; width = valid.width; fields = keeps feature.fields valid.fields }
in_feature_valid change keeps (PlainInLayer field) valid = valid

layer_valid : (change : List LayerItem → List LayerItem) → ((items : List LayerItem) → AllByRecursion IsLayerItem items → AllByRecursion IsLayerItem (change items)) → (ordinal : ℕ) (document : Document) → IsDocument document → IsDocument (change_layer change ordinal document)
layer_valid change keeps ordinal document valid = all_changed IsTileItem is_layer (in_layer change) (in_layer_valid change keeps) ordinal document valid

feature_valid : (change : List Field → List Field) → ((fields : List Field) → AllByRecursion IsField fields → AllByRecursion IsField (change fields)) → (ordinal feature : ℕ) (document : Document) → IsDocument document → IsDocument (change_feature change ordinal feature document)
feature_valid change keeps ordinal feature document valid =
    layer_valid (change_nth is_feature (in_feature change) feature) (all_changed IsLayerItem is_feature (in_feature change) (in_feature_valid change keeps) feature) ordinal document valid

layers_valid : (change : List LayerItem → List LayerItem) → ((items : List LayerItem) → AllByRecursion IsLayerItem items → AllByRecursion IsLayerItem (change items)) → (choice : LayersChoice) (document : Document) → IsDocument document → IfOk (change_layers change choice document) IsDocument
layers_valid change keeps (TheLayer choice) document valid = then_so IsDocument (selected choice document) _ (λ ordinal. layer_valid change keeps ordinal document valid)
layers_valid change keeps EachLayer document valid = all_mapped IsTileItem (in_layer change) (in_layer_valid change keeps) document valid

readable_valid : (change : List LayerItem → List LayerItem) → ((items : List LayerItem) → AllByRecursion IsLayerItem items → AllByRecursion IsLayerItem (change items)) → (choice : LayersChoice) (document : Document) → IsDocument document → IfOk (change_readable change choice document) IsDocument
readable_valid change keeps choice document valid =
    then_so IsDocument (selected_layers choice document) _ (λ layers.
    then_so IsDocument (refuse_first (unreadable layers)) _ (λ readable. layers_valid change keeps choice document valid))

-- a feature whose fields are known
module _ (change : List Field → List Field) (ordinal feature : ℕ) (document : Document) (keeps : (fields : List Field) → fields_of ordinal feature document ≡ fields → AllByRecursion IsField fields → AllByRecursion IsField (change fields)) where
  feature_at : (items : List LayerItem) → items_of ordinal document ≡ items → (item : LayerItem) → slice_get (filter is_feature items) feature ≡ Some item → IsLayerItem item → IsLayerItem (in_feature change item)
  feature_at items is (PlainInLayer field) there valid = valid
  feature_at items is (OfFeature found) there valid =
      let same = fields_of_nth document ordinal feature items found is there in
      record { number = valid.number; tag = valid.tag; width = valid.width; fields = keeps found.fields same valid.fields }

  layer_at : (item : TileItem) → slice_get (filter is_layer document) ordinal ≡ Some item → IsTileItem item → IsTileItem (in_layer (change_nth is_feature (in_feature change) feature) item)
  layer_at (PlainInTile field) there valid = valid
  layer_at (OfLayer layer) there valid =
      let same = items_of_nth document ordinal layer there in
      record {
        number = valid.number;
        tag = valid.tag;
        width = valid.width;
        items = all_changed_at IsLayerItem is_feature (in_feature change) feature layer.items (feature_at layer.items same) valid.items;
      }

  feature_valid_at : IsDocument document → IsDocument (change_feature change ordinal feature document)
  feature_valid_at valid = all_changed_at IsTileItem is_layer (in_layer (change_nth is_feature (in_feature change) feature)) ordinal document layer_at valid

-- ---- a geometry that moves, and another

shifted_valid : (dx dy : ℤ) (fields : List Field) → is_some (geometry_among fields) ≡ true → can_move dx dy fields ≡ true → AllByRecursion IsField fields → AllByRecursion IsField (shifted dx dy fields)
shifted_valid dx dy fields drawn can all = stays_valid 4 (moves dx dy fields) fields (moves_short dx dy fields drawn can) all

kind_given : (kind : Kind) (field : Field) → IsField field → IsField (with_field_value (kind_number kind) field)
kind_given Dots field valid = field_value_valid 1 (omega arith) field valid
kind_given Lines field valid = field_value_valid 2 (omega arith) field valid
kind_given Areas field valid = field_value_valid 3 (omega arith) field valid

geometry_valid : (geometry : Geometry) (fields : List Field) → AllByRecursion IsField fields → AllByRecursion IsField (with_geometry geometry fields)
geometry_valid geometry fields all =
    let kind = kind_number geometry.kind in
    all_put_once IsField is_geometry_field (new_content 34 (encoded geometry)) (new_geometry geometry) (with_kind kind fields)
    (all_put IsField is_kind (with_field_value kind) (new_number 24 kind) (kind_given geometry.kind) (new_kind geometry.kind) fields all)

-- ---- keys and tags

renamed_valid : (old new : List ℕ) (items : List LayerItem) → AllByRecursion IsLayerItem items → AllByRecursion IsLayerItem (renamed_keys old new items)
renamed_valid old new items all =
    all_mapped IsLayerItem (λ item. cond (is_key old item) (with_text new item) item)
    (λ item valid. cond_both (is_key old item) (with_text new item) item IsLayerItem (λ _. named_valid new item valid) (λ _. valid)) items all

untagged_valid : (items : List LayerItem) → AllByRecursion IsLayerItem items → AllByRecursion IsLayerItem (untagged items)
untagged_valid items all =
    all_mapped IsLayerItem (in_feature without_tags) (in_feature_valid without_tags (all_filtered IsField (λ field. not (is_tags field)))) items all

unset_valid : (key : List ℕ) (items : List LayerItem) (fields : List Field) → AllByRecursion IsField fields → AllByRecursion IsField (without_attribute key items fields)
unset_valid key items fields all = stays_valid 2 (removals key items fields) fields (removals_short key items fields) all

excluded_valid : (key : List ℕ) (items : List LayerItem) → AllByRecursion IsLayerItem items → AllByRecursion IsLayerItem (excluded key items)
excluded_valid key items all =
    all_mapped IsLayerItem (in_feature (without_attribute key items)) (in_feature_valid (without_attribute key items) (unset_valid key items)) items all

-- ---- keys and values that stay

repointed_valid : (keys values : ℕ → Bool) (items : List LayerItem) (fields : List Field) → AllByRecursion IsField fields → AllByRecursion IsField (with_new_ordinals keys values items fields)
repointed_valid keys values items fields all =
    stays_valid 2 (new_ordinals keys values items fields) fields (new_ordinals_short keys values items fields) all

entries_valid : (keys values : ℕ → Bool) (items : List LayerItem) → AllByRecursion IsLayerItem items → AllByRecursion IsLayerItem (with_entries keys values items)
entries_valid keys values items all =
    let change = with_new_ordinals keys values items in
    let left = map (in_feature change) items in
    all_staying IsLayerItem (is_entry value_field) values 0 (staying (is_entry key_field) keys 0 left)
    (all_staying IsLayerItem (is_entry key_field) keys 0 left
    (all_mapped IsLayerItem (in_feature change) (in_feature_valid change (repointed_valid keys values items)) items all))

compacted_valid : (keys values : List LayerItem → ℕ → Bool) (items : List LayerItem) → AllByRecursion IsLayerItem items → AllByRecursion IsLayerItem (compacted keys values items)
compacted_valid keys values items all = entries_valid (keys items) (values items) items all

-- ---- a value for a key

more_valid : (more : List ℕ) (tag : Number) (body : Body) → IsField (record { tag = tag; body = body }) → IsField (record { tag = tag; body = with_more more body })
more_valid more tag (Spelled number) valid = valid
more_valid more tag (Eight bytes) valid = valid
more_valid more tag (Four bytes) valid = valid
more_valid more tag (Group bytes) valid = valid
more_valid more tag (Delimited width bytes) valid = record { number = valid.number; tag = valid.tag; body = valid.body }

new_tags : (bytes : List ℕ) → IsField (new_content 18 bytes)
new_tags bytes = content_field 18 bytes (omega arith) (record { numbered = omega arith; short = omega arith; typed = refl })

more_tags_valid : (more : List ℕ) (fields : List Field) → AllByRecursion IsField fields → AllByRecursion IsField (with_more_tags more fields)
more_tags_valid more fields all =
    cond_both (is_packed_last fields) (change_last is_tags (with_more_content more) fields) (fields ++ new_content 18 more ∷ []) (AllByRecursion IsField)
    (λ _. all_last IsField is_tags (with_more_content more) (λ field valid. more_valid more field.tag field.body valid) fields all)
    (λ _. all_pushed IsField (new_content 18 more) (new_tags more) fields all)

set_valid : (key value : List ℕ) (items : List LayerItem) → value_ordinal value items < 2 ^ 64 → (fields : List Field) → AllByRecursion IsField fields → AllByRecursion IsField (with_attribute key value items fields)
set_valid key value items short fields all =
    cond_both (pairs_with key items fields == 0) (with_more_tags (new_pair key value items) fields) (renumber 2 (replacements key value items fields) fields) (AllByRecursion IsField)
    (λ _. more_tags_valid (new_pair key value items) fields all)
    (λ _. stays_valid 2 (replacements key value items fields) fields (replacements_short key value items fields short) all)

attributed_valid : (key value : List ℕ) (feature : ℕ) (items : List LayerItem) → AllByRecursion IsLayerItem items → length (flat_map layer_item_bytes (attributed key value feature items)) ≤ MAX_FILE → AllByRecursion IsLayerItem (attributed key value feature items)
attributed_valid key value feature items all within =
    let keys = contents key_field (plain_fields items) in
    let values = contents value_field (plain_fields items) in
    all_joined IsLayerItem (change_nth is_feature (in_feature (with_attribute key value items)) feature items) (missing_entries key value items)
    (all_changed IsLayerItem is_feature (in_feature (with_attribute key value items)) (in_feature_valid (with_attribute key value items) (set_valid key value items (value_short key value feature items within))) feature items all)
    (all_joined IsLayerItem (missing_entry 26 key keys) (missing_entry 34 value values) (missing_valid 26 key keys (new_key key)) (missing_valid 34 value values (new_value value)))

layer_attributed : (key value : List ℕ) (feature : ℕ) (item : TileItem) → IsTileItem item → length (tile_item_bytes (in_layer (attributed key value feature) item)) ≤ MAX_FILE → IsTileItem (in_layer (attributed key value feature) item)
layer_attributed key value feature (OfLayer layer) valid within =
    let content = flat_map layer_item_bytes (attributed key value feature layer.items) in
    record {
      number = valid.number;
      tag = valid.tag;
      width = valid.width;
      items = attributed_valid key value feature layer.items valid.items (omega (arith, within, length-message layer.tag.value layer.tag.width layer.width content));
    }
layer_attributed key value feature (PlainInTile field) valid within = valid

-- ---- accepted commands

-- a document that is valid where it is within the limit
within_valid : (document : Document) → (length (bytes_of document) ≤ MAX_FILE → IsDocument document) → IfOk (within_limit document) IsDocument
within_valid document valid =
    cond_both (ltb MAX_FILE (length (bytes_of document))) (Err TooLarge) (Ok document) (λ r. IfOk r IsDocument) (λ _. tt) (λ e. valid (ltb-false MAX_FILE (length (bytes_of document)) e))

limited_valid : (document : Document) → IsDocument document → IfOk (within_limit document) IsDocument
limited_valid document valid = within_valid document (λ _. valid)

made_valid : (command : Command) (document : Document) → IsCommand command → IsDocument document → IfOk (applied command document) IsDocument
made_valid (RenameLayer choice name) document fits valid =
    then_so IsDocument (selected choice document) _ (λ ordinal.
    then_so IsDocument (refuse_if (is_taken name ordinal document) NameTaken) _ (λ free.
    limited_valid (change_layer (named_items name) ordinal document)
    (layer_valid (named_items name) (all_put IsLayerItem is_name (with_text name) (PlainInLayer (new_content 10 name)) (named_valid name) (new_name name)) ordinal document valid)))
made_valid (MoveLayer choice index) document fits valid =
    then_so IsDocument (selected choice document) _ (λ ordinal.
    then_so IsDocument (refuse_if (not (ltb index (layer_count document))) BadPlace) _ (λ there. all_moved IsTileItem is_layer ordinal index document valid))
made_valid (DropLayer choice) document fits valid =
    then_so IsDocument (selected choice document) _ (λ ordinal. all_without IsTileItem is_layer ordinal document valid)
made_valid (KeepLayers names) document fits valid =
    then_so IsDocument (refuse_if (not (list_any (λ layer. is_kept names (OfLayer layer)) (layers document))) NoLayer) _ (λ some. all_filtered IsTileItem (is_kept names) document valid)
made_valid (InsertFeature choice index geometry) document fits valid =
    then_so IsDocument (selected choice document) _ (λ ordinal.
    then_so IsDocument (refuse_if (ltb (feature_count ordinal document) index) BadPlace) _ (λ there.
    then_so IsDocument (refuse_if (not (is_in_range geometry)) OutOfRange) _ (λ short.
    limited_valid (change_layer (insert_nth is_feature index (new_feature geometry)) ordinal document)
    (layer_valid (insert_nth is_feature index (new_feature geometry)) (λ items all. all_inserted IsLayerItem is_feature index (new_feature geometry) items (new_feature_valid geometry) all) ordinal document valid))))
made_valid (MoveFeature choice feature index) document fits valid =
    then_so IsDocument (selected choice document) _ (λ ordinal.
    then_so IsDocument (selected_in feature ordinal document) _ (λ moving.
    then_so IsDocument (refuse_if (not (ltb index (feature_count ordinal document))) BadPlace) _ (λ there.
    layer_valid (move_nth is_feature moving index) (all_moved IsLayerItem is_feature moving index) ordinal document valid)))
made_valid (DropFeature choice feature) document fits valid =
    then_so IsDocument (selected choice document) _ (λ ordinal.
    then_so IsDocument (selected_in feature ordinal document) _ (λ going. layer_valid (without is_feature going) (all_without IsLayerItem is_feature going) ordinal document valid))
made_valid (SetId choice feature id) document fits valid =
    then_so IsDocument (selected choice document) _ (λ ordinal.
    then_so IsDocument (selected_in feature ordinal document) _ (λ selects.
    limited_valid (change_feature (identified id) ordinal selects document)
    (feature_valid (identified id) (all_put IsField is_id (with_field_value id) (new_number 8 id) (field_value_valid id fits) (new_id id fits)) ordinal selects document valid)))
made_valid (ClearId choice feature) document fits valid =
    then_so IsDocument (selected choice document) _ (λ ordinal.
    then_so IsDocument (selected_in feature ordinal document) _ (λ selects. feature_valid without_id (all_filtered IsField (λ field. not (is_id field))) ordinal selects document valid))
made_valid (SetAttribute choice feature key value) document fits valid =
    then_so IsDocument (selected choice document) _ (λ ordinal.
    then_so IsDocument (selected_in feature ordinal document) _ (λ selects.
    then_so IsDocument (refuse_if (not (has_pairs ordinal selects document)) (BadTags ordinal selects)) _ (λ readable.
    then_so IsDocument (refuse_if (repeats_key key ordinal selects document) (RepeatedKey ordinal selects)) _ (λ once.
    within_valid (change_layer (attributed key (encoded_value value) selects) ordinal document)
    (all_changed_within IsTileItem tile_item_bytes MAX_FILE is_layer (in_layer (attributed key (encoded_value value) selects)) (layer_attributed key (encoded_value value) selects) ordinal document valid)))))
made_valid (UnsetAttribute choice feature key) document fits valid =
    then_so IsDocument (selected choice document) _ (λ ordinal.
    then_so IsDocument (selected_in feature ordinal document) _ (λ selects.
    then_so IsDocument (refuse_if (not (has_key key ordinal document)) NoKey) _ (λ there.
    then_so IsDocument (refuse_if (not (has_pairs ordinal selects document)) (BadTags ordinal selects)) _ (λ readable.
    feature_valid (without_attribute key (items_of ordinal document)) (unset_valid key (items_of ordinal document)) ordinal selects document valid))))
made_valid (RenameKey choice old new) document fits valid =
    then_so IsDocument (selected choice document) _ (λ ordinal.
    then_so IsDocument (refuse_if (not (has_key old ordinal document)) NoKey) _ (λ there.
    then_so IsDocument (refuse_if (has_key new ordinal document && not (bytes_eq old new)) KeyTaken) _ (λ free.
    limited_valid (change_layer (renamed_keys old new) ordinal document) (layer_valid (renamed_keys old new) (renamed_valid old new) ordinal document valid))))
made_valid (Exclude choice key) document fits valid = readable_valid (excluded key) (excluded_valid key) choice document valid
made_valid (ExcludeAll choice) document fits valid = layers_valid untagged untagged_valid choice document valid
made_valid (Shift choice feature dx dy) document fits valid =
    then_so IsDocument (selected choice document) _ (λ ordinal.
    then_so IsDocument (selected_in feature ordinal document) _ (λ selects.
    let bad = not (is_drawn ordinal selects document) in
    let far = not (can_shift dx dy ordinal selects document) in
    then_given IsDocument (refuse_if bad (BadGeometry ordinal selects)) _ (λ readable drawn.
    then_given IsDocument (refuse_if far OutOfRange) _ (λ short can.
    limited_valid (change_feature (shifted dx dy) ordinal selects document)
    (feature_valid_at (shifted dx dy) ordinal selects document (λ fields is all.
    shifted_valid dx dy fields
    (subst (λ (fs : List Field). is_some (geometry_among fs) ≡ true) is (not-false (is_drawn ordinal selects document) (not_refused bad (BadGeometry ordinal selects) readable drawn)))
    (subst (λ (fs : List Field). can_move dx dy fs ≡ true) is (not-false (can_shift dx dy ordinal selects document) (not_refused far OutOfRange short can)))
    all) valid)))))
made_valid (SetGeometry choice feature geometry) document fits valid =
    then_so IsDocument (selected choice document) _ (λ ordinal.
    then_so IsDocument (selected_in feature ordinal document) _ (λ selects.
    then_so IsDocument (refuse_if (not (is_in_range geometry)) OutOfRange) _ (λ short.
    limited_valid (change_feature (with_geometry geometry) ordinal selects document) (feature_valid (with_geometry geometry) (geometry_valid geometry) ordinal selects document valid))))
made_valid (CompactKeys choice) document fits valid =
    readable_valid (compacted is_key_used is_any) (compacted_valid is_key_used is_any) choice document valid
made_valid (CompactValues choice) document fits valid =
    readable_valid (compacted is_any is_value_used) (compacted_valid is_any is_value_used) choice document valid
made_valid (Compact choice) document fits valid =
    readable_valid (compacted is_key_used is_value_used) (compacted_valid is_key_used is_value_used) choice document valid

pub command_makes_document : CommandMakesDocument
command_makes_document command document after fits valid is = ok_so IsDocument (applied command document) after (made_valid command document fits valid) is
