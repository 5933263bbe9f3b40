-- What a command makes of a document, and when it is refused. `applied` has a line for each refusal, in their order,
-- and one for the meaning: a list of the tile, of a layer or of a feature in which one item or each is changed, or one
-- is left out, moved or new, or which is filtered.
use Rattle.std.specs.Prelude.{ℕ, ◌==◌, nat_lt, ℤ, Bool, true, ◌&&◌, not, List, [], ◌∷◌, length, map, filter, slice_get, Option, None, Result, Ok, Err, is_some, if◌then◌else◌}
use Rattle.std.specs.List.{list_any}
use Rattle.std.specs.Option.{option_map_or}
use Rattle.std.specs.Result.{result_unwrap_or}
use Rattle.std.specs.Str.{bytes_eq}
use Rattle.mvt_document.specs.declared.TheConstants.{MAX_FILE}
use Rattle.mvt_document.specs.Plain.{Field, LayerItem, OfFeature, PlainInLayer, TileItem, OfLayer, PlainInTile, Document}
use Rattle.mvt_document.specs.Wire.{bytes_of, minimal}
use Rattle.mvt_value.specs.Messages.{encoded_value}
use Rattle.mvt_geometry.specs.Shapes.{Geometry, kind_number}
use Rattle.mvt_geometry.specs.Integers.{encoded}
use Rattle.mvt_geometry.specs.Checks.{is_in_range}
use Rattle.mvt_geometry.specs.declared.faults.EncodeError.{EncodeError}
use Rattle.mvt_geometry.specs.declared.faults.EncodeError.TheVariants as encode_errors
use Rattle.mvt_messages.specs.Views.{content_in, features_in, is_named, layers, ordinals_of, value_in}
use Rattle.mvt_document.specs.Places.{fields_in, in_feature, in_layer}
use Rattle.mvt_meaning.specs.Command.{LayersChoice, TheLayer, EachLayer, Command, RenameLayer, MoveLayer, DropLayer, KeepLayers, InsertFeature, MoveFeature, DropFeature, SetId, ClearId, SetAttribute, UnsetAttribute, RenameKey, Exclude, ExcludeAll, Shift, SetGeometry, CompactKeys, CompactValues, Compact}
use Rattle.mvt_meaning.specs.Ordinals.{change_nth, without, move_nth, insert_nth, put_last}
use Rattle.mvt_meaning.specs.Selection.{is_feature, is_layer, selected, selected_in, selected_layers}
use Rattle.mvt_meaning.specs.Tagging.{attributed, excluded, is_key, pairs_among, pairs_with, renamed_keys, unreadable, untagged, without_attribute}
use Rattle.mvt_meaning.specs.Compaction.{compacted, is_any, is_key_used, is_value_used}
use Rattle.mvt_meaning.specs.Geometries.{can_move, geometry_among, shifted, with_geometry}
pub use Rattle.mvt_meaning.specs.Fields.{new_content, new_number, with_content, with_field_value, with_number, with_text, with_value}
use Rattle.mvt_meaning.specs.declared.refusal.Refusal.{Refusal}
use Rattle.mvt_meaning.specs.declared.refusal.Refusal.TheVariants.{BadGeometry, BadPlace, BadTags, KeyTaken, NameTaken, NoKey, NoLayer, NoMemory, OutOfRange, RepeatedKey, TooLarge}

-- what follows a step that was accepted; the refusal of one that was refused
infixl 10 ◌>>=◌
abbrev pub ◌>>=◌ : {A B : Type 0} → Result A Refusal → (A → Result B Refusal) → Result B Refusal
(Ok x) >>= f = f x
(Err e) >>= f = Err e

-- ---- the name of a layer: field 1, LEN

-- the content of an item of a layer that is a name field: a LEN field of number 1 (tiles 4.1)
abbrev pub name_in : LayerItem → Option (List ℕ)
name_in (OfFeature feature) = None
name_in (PlainInLayer field) = content_in 1 field

-- the item of a layer is a name field (tiles 4.1)
abbrev pub is_name : LayerItem → Bool
is_name item = is_some (name_in item)

-- the items of a layer with this name in the last name field, or in a new one at the end where there is none
-- (tiles 4.1)
abbrev pub named_items : List ℕ → List LayerItem → List LayerItem
named_items name items = put_last is_name (with_text name) (PlainInLayer (new_content 10 name)) items

-- a layer of another ordinal has the name (tiles 4.1)
abbrev pub is_taken : List ℕ → ℕ → Document → Bool
is_taken name ordinal document = list_any (λ other. not (other == ordinal)) (ordinals_of (is_named name) (layers document))

-- the item of the tile is not a layer, or is a layer that has one of the names (tiles 4.1)
abbrev pub is_kept : List (List ℕ) → TileItem → Bool
is_kept names (OfLayer layer) = list_any (λ name. is_named name layer) names
is_kept names (PlainInTile field) = true

-- ---- the id of a feature: field 1, VARINT

-- the field is an id field: a VARINT field of number 1 (tiles 4.2)
abbrev pub is_id : Field → Bool
is_id field = is_some (value_in 1 field)

-- the fields of a feature with this id in the last id field, or in a new one at the end where there is none (tiles 4.2)
abbrev pub identified : ℕ → List Field → List Field
identified id fields = put_last is_id (with_field_value id) (new_number 8 id) fields

-- the fields of a feature without its id fields (tiles 4.2)
abbrev pub without_id : List Field → List Field
without_id fields = filter (λ field. not (is_id field)) fields

-- ---- a new feature: its kind is field 3, VARINT, its geometry field 4, LEN

-- a feature of the kind of this geometry, with the geometry and no other field, in its shortest spelling
-- (tiles 4.2, 4.3)
abbrev pub new_feature : Geometry → LayerItem
new_feature geometry = OfFeature (record {
  tag = minimal 18;
  width = 1;
  fields = new_number 24 (kind_number geometry.kind) ∷ new_content 34 (encoded geometry) ∷ [];
})

-- ---- places in a document

-- how many layers the tile has (tiles 4.1)
abbrev pub layer_count : Document → ℕ
layer_count document = length (layers document)

-- the items of the layer of this ordinal (tiles 4.1)
abbrev pub items_of : ℕ → Document → List LayerItem
items_of ordinal document = option_map_or (λ layer. layer.items) (slice_get (layers document) ordinal) []

-- the fields of the feature of this ordinal, in the layer of that ordinal
abbrev pub fields_of : ℕ → ℕ → Document → List Field
fields_of ordinal feature document = option_map_or (λ item. option_map_or (λ fields. fields) (fields_in item) []) (slice_get (filter is_feature (items_of ordinal document)) feature) []

-- how many features the layer of this ordinal has (tiles 4.2)
abbrev pub feature_count : ℕ → Document → ℕ
feature_count ordinal document = length (features_in (items_of ordinal document))

-- the tile with the items of the layer of this ordinal changed
abbrev pub change_layer : (List LayerItem → List LayerItem) → ℕ → Document → Document
change_layer change ordinal document = change_nth is_layer (in_layer change) ordinal document

-- the tile with the fields of the feature of this ordinal changed, in the layer of that ordinal
abbrev pub change_feature : (List Field → List Field) → ℕ → ℕ → Document → Document
change_feature change ordinal feature document = change_layer (change_nth is_feature (in_feature change) feature) ordinal document

-- the tile with the items of the selected layers changed, or the refusal where none is selected
abbrev pub change_layers : (List LayerItem → List LayerItem) → LayersChoice → Document → Result Document Refusal
change_layers change (TheLayer choice) document = do
  ordinal ← selected choice document
  Ok (change_layer change ordinal document)
change_layers change EachLayer document = Ok (map (in_layer change) document)

-- the layer of this ordinal has the key (tiles 4.1, 4.4)
abbrev pub has_key : List ℕ → ℕ → Document → Bool
has_key key ordinal document = list_any (is_key key) (items_of ordinal document)

-- the tags of the feature of this ordinal make pairs, in the layer of that ordinal (tiles 4.4)
abbrev pub has_pairs : ℕ → ℕ → Document → Bool
has_pairs ordinal feature document = is_some (pairs_among (items_of ordinal document) (fields_of ordinal feature document))

-- several pairs of the feature of this ordinal have the key, in the layer of that ordinal (tiles 4.4)
abbrev pub repeats_key : List ℕ → ℕ → ℕ → Document → Bool
repeats_key key ordinal feature document = nat_lt 1 (pairs_with key (items_of ordinal document) (fields_of ordinal feature document))

-- the feature of this ordinal has a geometry, in the layer of that ordinal (tiles 4.3)
abbrev pub is_drawn : ℕ → ℕ → Document → Bool
is_drawn ordinal feature document = is_some (geometry_among (fields_of ordinal feature document))

-- the integers of the feature of this ordinal, in the layer of that ordinal, can hold its geometry once it has moved by
-- dx and dy (tiles 4.3)
abbrev pub can_shift : ℤ → ℤ → ℕ → ℕ → Document → Bool
can_shift dx dy ordinal feature document = can_move dx dy (fields_of ordinal feature document)

-- ---- refusals

-- the refusal, where it applies
abbrev pub refuse_if : Bool → Refusal → Result (Unit {0}) Refusal
refuse_if applies refusal = if applies then Err refusal else Ok tt

-- the refusal for the tags of the first of these features, where there is one
abbrev pub refuse_first : List (ℕ × ℕ) → Result (Unit {0}) Refusal
refuse_first [] = Ok tt
refuse_first (at ∷ more) = Err (BadTags at.0 at.1)

-- the refusal for a geometry that has no bytes: it is out of range, or there is no memory
abbrev pub geometry_refusal : EncodeError → Refusal
geometry_refusal encode_errors.OutOfRange = OutOfRange
geometry_refusal encode_errors.NoMemory = NoMemory

-- the document, where it has at most 67,108,864 bytes; else the refusal that it is too large
abbrev pub within_limit : Document → Result Document Refusal
within_limit document = if nat_lt MAX_FILE (length (bytes_of document)) then Err TooLarge else Ok document

-- the tile with the items of the selected layers changed, where the tags of each of their features make pairs; or the
-- refusal (tiles 4.4)
abbrev pub change_readable : (List LayerItem → List LayerItem) → LayersChoice → Document → Result Document Refusal
change_readable change choice document = do
  layers ← selected_layers choice document
  readable ← refuse_first (unreadable layers)
  change_layers change choice document

-- ---- commands

-- what the command makes of the document, or the first of its refusals
abbrev pub applied : Command → Document → Result Document Refusal
applied (RenameLayer choice name) document = do
  ordinal ← selected choice document
  free ← refuse_if (is_taken name ordinal document) NameTaken
  within_limit (change_layer (named_items name) ordinal document)
applied (MoveLayer choice index) document = do
  ordinal ← selected choice document
  there ← refuse_if (not (nat_lt index (layer_count document))) BadPlace
  Ok (move_nth is_layer ordinal index document)
applied (DropLayer choice) document = do
  ordinal ← selected choice document
  Ok (without is_layer ordinal document)
applied (KeepLayers names) document = do
  some ← refuse_if (not (list_any (λ layer. is_kept names (OfLayer layer)) (layers document))) NoLayer
  Ok (filter (is_kept names) document)
applied (InsertFeature choice index geometry) document = do
  ordinal ← selected choice document
  there ← refuse_if (nat_lt (feature_count ordinal document) index) BadPlace
  short ← refuse_if (not (is_in_range geometry)) OutOfRange
  within_limit (change_layer (insert_nth is_feature index (new_feature geometry)) ordinal document)
applied (MoveFeature choice feature index) document = do
  ordinal ← selected choice document
  moving ← selected_in feature ordinal document
  there ← refuse_if (not (nat_lt index (feature_count ordinal document))) BadPlace
  Ok (change_layer (move_nth is_feature moving index) ordinal document)
applied (DropFeature choice feature) document = do
  ordinal ← selected choice document
  going ← selected_in feature ordinal document
  Ok (change_layer (without is_feature going) ordinal document)
applied (SetId choice feature id) document = do
  ordinal ← selected choice document
  found ← selected_in feature ordinal document
  within_limit (change_feature (identified id) ordinal found document)
applied (ClearId choice feature) document = do
  ordinal ← selected choice document
  found ← selected_in feature ordinal document
  Ok (change_feature without_id ordinal found document)
applied (SetAttribute choice feature key value) document = do
  ordinal ← selected choice document
  found ← selected_in feature ordinal document
  readable ← refuse_if (not (has_pairs ordinal found document)) (BadTags ordinal found)
  once ← refuse_if (repeats_key key ordinal found document) (RepeatedKey ordinal found)
  within_limit (change_layer (attributed key (encoded_value value) found) ordinal document)
applied (UnsetAttribute choice feature key) document = do
  ordinal ← selected choice document
  found ← selected_in feature ordinal document
  there ← refuse_if (not (has_key key ordinal document)) NoKey
  readable ← refuse_if (not (has_pairs ordinal found document)) (BadTags ordinal found)
  Ok (change_feature (without_attribute key (items_of ordinal document)) ordinal found document)
applied (RenameKey choice old new) document = do
  ordinal ← selected choice document
  there ← refuse_if (not (has_key old ordinal document)) NoKey
  free ← refuse_if (has_key new ordinal document && not (bytes_eq old new)) KeyTaken
  within_limit (change_layer (renamed_keys old new) ordinal document)
applied (Exclude choice key) document = change_readable (excluded key) choice document
applied (ExcludeAll choice) document = change_layers untagged choice document
applied (Shift choice feature dx dy) document = do
  ordinal ← selected choice document
  found ← selected_in feature ordinal document
  readable ← refuse_if (not (is_drawn ordinal found document)) (BadGeometry ordinal found)
  short ← refuse_if (not (can_shift dx dy ordinal found document)) OutOfRange
  within_limit (change_feature (shifted dx dy) ordinal found document)
applied (SetGeometry choice feature geometry) document = do
  ordinal ← selected choice document
  found ← selected_in feature ordinal document
  short ← refuse_if (not (is_in_range geometry)) OutOfRange
  within_limit (change_feature (with_geometry geometry) ordinal found document)
applied (CompactKeys choice) document = change_readable (compacted is_key_used is_any) choice document
applied (CompactValues choice) document = change_readable (compacted is_any is_value_used) choice document
applied (Compact choice) document = change_readable (compacted is_key_used is_value_used) choice document

-- the document after the command; a refused command changes nothing
abbrev pub after : Command → Document → Document
after command document = result_unwrap_or (applied command document) document
