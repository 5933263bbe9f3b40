-- Which commands make no tile longer, and that an accepted one leaves a tile that a file can hold.
use Rattle.std.proofs.Common.{◌≡◌, ℕ, zero, suc, ◌+◌, ◌-◌, ◌≤◌, Bool, true, false, ◌&&◌, not, cond, ltb, ◌==◌, Option, Some, None, Ok, Err, IfOk, List, [], ◌∷◌, ◌++◌, length, length-append, take, drop, slice_get, refl, ap, inl, inr, arith}
use Rattle.std.specs.Prelude.{filter, map}
use Rattle.std.specs.List.{AllByRecursion, flat_map, list_any}
use Rattle.std.specs.Option.{option_map_or}
use Rattle.std.specs.Str.{bytes_eq}
use Rattle.std.proofs.lemmas.Bool.{cases_Bool, cond_both, ltb-false, ne_eqb}
use Rattle.mvt_document.specs.declared.TheConstants.{MAX_FILE}
use Rattle.mvt_document.specs.Plain.{Field, LayerItem, OfFeature, PlainInLayer, TileItem, OfLayer, PlainInTile, Document}
use Rattle.mvt_document.specs.Opens.{IsDocument, IsField, IsLayerItem, IsTileItem}
use Rattle.mvt_document.specs.Wire.{field_bytes, layer_item_bytes, tile_item_bytes, bytes_of}
use Rattle.mvt_document.proofs.Sizes.{length-message_grows}
use Rattle.mvt_document.specs.Places.{in_layer, in_feature}
use Rattle.mvt_meaning.specs.Command.{LayersChoice, TheLayer, EachLayer, Command, RenameLayer, MoveLayer, DropLayer, KeepLayers, InsertFeature, MoveFeature, DropFeature, SetId, ClearId, SetAttribute, UnsetAttribute, RenameKey, Exclude, ExcludeAll, Shift, SetGeometry, CompactKeys, CompactValues, Compact}
use Rattle.mvt_meaning.specs.Ordinals.{from_nth, change_first, change_nth, without, before, after, move_nth, insert_nth}
use Rattle.mvt_meaning.specs.Selection.{is_feature, is_layer, selected, selected_in, selected_layers}
use Rattle.mvt_messages.specs.Views.{key_field, layers, value_field}
use Rattle.mvt_value.specs.Messages.{encoded_value}
use Rattle.mvt_geometry.specs.Checks.{is_in_range}
use Rattle.mvt_meaning.specs.Compaction.{compacted, is_any, is_entry, is_key_used, is_value_used, new_ordinals, staying, with_entries, with_new_ordinals}
use Rattle.mvt_meaning.specs.Geometries.{shifted, with_geometry}
use Rattle.mvt_meaning.specs.Tagging.{attributed, excluded, is_tags, removals, renamed_keys, unreadable, untagged, without_attribute, without_tags}
use Rattle.mvt_meaning.specs.Meaning.{applied, refuse_if, can_shift, layer_count, feature_count, has_key, has_pairs, is_drawn, items_of, refuse_first, repeats_key, within_limit, change_layer, change_layers, change_readable, change_feature, is_id, is_kept, is_taken, without_id, identified, named_items, new_feature}
use Rattle.mvt_meaning.specs.Weights.{weigh}
use Rattle.mvt_meaning.specs.declared.refusal.Refusal.TheVariants.{BadGeometry, BadPlace, BadTags, KeyTaken, NameTaken, NoKey, NoLayer, OutOfRange, RepeatedKey, TooLarge}
use Rattle.mvt_renumber.proofs.Redone.{lower_no_longer, no_longer}
use Rattle.command_laws.proofs.NewOrdinals.{new_ordinals_lower}
use Rattle.mvt_meaning.proofs.Removals.{none_new}
use Rattle.command_laws.specs.SizeLaws.{CommandFits, NeverLonger, may_lengthen}
use Rattle.command_laws.proofs.Accepted.{ok_so, then_so}

-- ---- lists

module _ {A : Type 0} (bytes : A → List ℕ) where
  first_no_longer : (change : A → A) → ((x : A) → length (bytes (change x)) ≤ length (bytes x)) → (xs : List A) → weigh bytes (change_first change xs) ≤ weigh bytes xs + 0
  first_no_longer change less [] = omega arith
  first_no_longer change less (x ∷ xs) =
      omega (arith, less x, length-append (bytes (change x)) (flat_map bytes xs), length-append (bytes x) (flat_map bytes xs))

  rest_no_longer : (xs : List A) → weigh bytes (drop 1 xs) ≤ weigh bytes xs + 0
  rest_no_longer [] = omega arith
  rest_no_longer (x ∷ xs) = omega (arith, length-append (bytes x) (flat_map bytes xs))

  front_with : (new : A) (xs : List A) → weigh bytes (new ∷ xs) ≤ weigh bytes xs + length (bytes new)
  front_with new xs = omega (arith, length-append (bytes new) (flat_map bytes xs))

  second_with : (new : A) (xs : List A) → weigh bytes (take 1 xs ++ new ∷ drop 1 xs) ≤ weigh bytes xs + length (bytes new)
  second_with new [] = front_with new []
  second_with new (x ∷ xs) =
      omega (arith, front_with new xs, length-append (bytes x) (flat_map bytes (new ∷ xs)), length-append (bytes x) (flat_map bytes xs))

  -- a change of the rest that brings no more than `more` bytes
  from_nth_weighs : (passes : A → Bool) (change : List A → List A) (more : ℕ) → ((xs : List A) → weigh bytes (change xs) ≤ weigh bytes xs + more) → (ordinal : ℕ) (xs : List A) → weigh bytes (from_nth passes change ordinal xs) ≤ weigh bytes xs + more
  from_nth_weighs passes change more brings ordinal [] = omega arith
  from_nth_weighs passes change more brings ordinal (x ∷ xs) =
      let next = cond (passes x) (ordinal - 1) ordinal in
      cond_both (passes x && (ordinal == 0)) (change (x ∷ xs)) (x ∷ from_nth passes change next xs) (λ ys. weigh bytes ys ≤ weigh bytes (x ∷ xs) + more)
      (λ _. brings (x ∷ xs))
      (λ _. omega (arith, from_nth_weighs passes change more brings next xs, length-append (bytes x) (flat_map bytes (from_nth passes change next xs)), length-append (bytes x) (flat_map bytes xs)))

  change_nth_no_longer : (passes : A → Bool) (change : A → A) → ((x : A) → length (bytes (change x)) ≤ length (bytes x)) → (ordinal : ℕ) (xs : List A) → weigh bytes (change_nth passes change ordinal xs) ≤ weigh bytes xs
  change_nth_no_longer passes change less ordinal xs =
      omega (arith, from_nth_weighs passes (change_first change) 0 (first_no_longer change less) ordinal xs)

  without_no_longer : (passes : A → Bool) (ordinal : ℕ) (xs : List A) → weigh bytes (without passes ordinal xs) ≤ weigh bytes xs
  without_no_longer passes ordinal xs = omega (arith, from_nth_weighs passes (λ rest. drop 1 rest) 0 rest_no_longer ordinal xs)

  pub filter_no_longer : (passes : A → Bool) (xs : List A) → weigh bytes (filter passes xs) ≤ weigh bytes xs
  filter_no_longer passes [] = omega arith
  filter_no_longer passes (x ∷ xs) =
      let rest = filter_no_longer passes xs in
      cond_both (passes x) (x ∷ filter passes xs) (filter passes xs) (λ ys. weigh bytes ys ≤ weigh bytes (x ∷ xs))
      (λ _. omega (arith, rest, length-append (bytes x) (flat_map bytes (filter passes xs)), length-append (bytes x) (flat_map bytes xs)))
      (λ _. omega (arith, rest, length-append (bytes x) (flat_map bytes xs)))

  -- the same for a list in which something holds of each item, where what changes one depends on that
  change_nth_shorter : (P : A → Type 0) (passes : A → Bool) (change : A → A) → ((x : A) → P x → length (bytes (change x)) ≤ length (bytes x)) → (ordinal : ℕ) (xs : List A) → AllByRecursion P xs → weigh bytes (change_nth passes change ordinal xs) ≤ weigh bytes xs
  change_nth_shorter P passes change less ordinal [] all = omega arith
  change_nth_shorter P passes change less ordinal (x ∷ xs) all =
      let next = cond (passes x) (ordinal - 1) ordinal in
      let rest = change_nth passes change next xs in
      cond_both (passes x && (ordinal == 0)) (change x ∷ xs) (x ∷ rest) (λ ys. weigh bytes ys ≤ weigh bytes (x ∷ xs))
      (λ _. omega (arith, less x all.0, length-append (bytes (change x)) (flat_map bytes xs), length-append (bytes x) (flat_map bytes xs)))
      (λ _. omega (arith, change_nth_shorter P passes change less next xs all.1, length-append (bytes x) (flat_map bytes rest), length-append (bytes x) (flat_map bytes xs)))

  map_shorter : (P : A → Type 0) (change : A → A) → ((x : A) → P x → length (bytes (change x)) ≤ length (bytes x)) → (xs : List A) → AllByRecursion P xs → weigh bytes (map change xs) ≤ weigh bytes xs
  map_shorter P change less [] all = omega arith
  map_shorter P change less (x ∷ xs) all =
      omega (arith, less x all.0, map_shorter P change less xs all.1, length-append (bytes (change x)) (flat_map bytes (map change xs)), length-append (bytes x) (flat_map bytes xs))

  staying_no_longer : (passes : A → Bool) (stays : ℕ → Bool) (ordinal : ℕ) (xs : List A) → weigh bytes (staying passes stays ordinal xs) ≤ weigh bytes xs
  staying_no_longer passes stays ordinal [] = omega arith
  staying_no_longer passes stays ordinal (x ∷ xs) =
      let following = staying passes stays (ordinal + 1) xs in
      let rest = staying passes stays ordinal xs in
      let all = length-append (bytes x) (flat_map bytes xs) in
      cond_both (passes x) (cond (stays ordinal) (x ∷ following) following) (x ∷ rest) (λ ys. weigh bytes ys ≤ weigh bytes (x ∷ xs))
      (λ _. cond_both (stays ordinal) (x ∷ following) following (λ ys. weigh bytes ys ≤ weigh bytes (x ∷ xs))
      (λ _. omega (arith, staying_no_longer passes stays (ordinal + 1) xs, length-append (bytes x) (flat_map bytes following), all))
      (λ _. omega (arith, staying_no_longer passes stays (ordinal + 1) xs, all)))
      (λ _. omega (arith, staying_no_longer passes stays ordinal xs, length-append (bytes x) (flat_map bytes rest), all))

  map_no_longer : (change : A → A) → ((x : A) → length (bytes (change x)) ≤ length (bytes x)) → (xs : List A) → weigh bytes (map change xs) ≤ weigh bytes xs
  map_no_longer change less [] = omega arith
  map_no_longer change less (x ∷ xs) =
      omega (arith, less x, map_no_longer change less xs, length-append (bytes (change x)) (flat_map bytes (map change xs)), length-append (bytes x) (flat_map bytes xs))

  -- without an item the list is shorter by the length of that item
  without_weighs : (passes : A → Bool) (ordinal : ℕ) (xs : List A) (item : A) → slice_get (filter passes xs) ordinal ≡ Some item → weigh bytes (without passes ordinal xs) + length (bytes item) ≡ weigh bytes xs
  without_weighs passes ordinal [] item is = absurd cc
  without_weighs passes zero (x ∷ xs) item is =
      elim (cases_Bool (passes x)) [
        | inl pass ↦
            let same : x ≡ item = let found = rw pass at is in cc in
            rw pass (omega (arith, ap (λ y. length (bytes y)) same, length-append (bytes x) (flat_map bytes xs)))
        | inr skip ↦
            rw skip (omega (arith, without_weighs passes zero xs item (rw skip at is), length-append (bytes x) (flat_map bytes (without passes zero xs)), length-append (bytes x) (flat_map bytes xs)))
      ]
  without_weighs passes (suc ordinal) (x ∷ xs) item is =
      elim (cases_Bool (passes x)) [
        | inl pass ↦
            let less : suc ordinal - 1 ≡ ordinal = omega arith in
            let later : (suc ordinal == 0) ≡ false = ne_eqb (suc ordinal) 0 (λ e. omega arith) in
            rw (pass, less, later) (omega (arith, without_weighs passes ordinal xs item (rw pass at is), length-append (bytes x) (flat_map bytes (without passes ordinal xs)), length-append (bytes x) (flat_map bytes xs)))
        | inr skip ↦
            rw skip (omega (arith, without_weighs passes (suc ordinal) xs item (rw skip at is), length-append (bytes x) (flat_map bytes (without passes (suc ordinal) xs)), length-append (bytes x) (flat_map bytes xs)))
      ]

  -- an item that moves
  move_by : (passes : A → Bool) (from to : ℕ) (xs : List A) (found : Option A) → slice_get (filter passes xs) from ≡ found
      → weigh bytes (option_map_or (λ item. cond (ltb from to) (after passes (to - 1) item (without passes from xs)) (cond (ltb to from) (before passes to item (without passes from xs)) xs)) found xs) ≤ weigh bytes xs
  move_by passes from to xs None is = omega arith
  move_by passes from to xs (Some item) is =
      let out = without passes from xs in
      let rest = without_weighs passes from xs item is in
      let on = from_nth_weighs passes (λ rest. take 1 rest ++ item ∷ drop 1 rest) (length (bytes item)) (second_with item) (to - 1) out in
      let up = from_nth_weighs passes (λ rest. item ∷ rest) (length (bytes item)) (front_with item) to out in
      cond_both (ltb from to) (after passes (to - 1) item out) (cond (ltb to from) (before passes to item out) xs) (λ ys. weigh bytes ys ≤ weigh bytes xs)
      (λ _. omega (arith, rest, on))
      (λ _. cond_both (ltb to from) (before passes to item out) xs (λ ys. weigh bytes ys ≤ weigh bytes xs) (λ _. omega (arith, rest, up)) (λ _. omega arith))

  move_no_longer : (passes : A → Bool) (from to : ℕ) (xs : List A) → weigh bytes (move_nth passes from to xs) ≤ weigh bytes xs
  move_no_longer passes from to xs = move_by passes from to xs (slice_get (filter passes xs) from) refl

-- ---- layers and features whose lists get no longer

in_layer_no_longer : (change : List LayerItem → List LayerItem) → ((items : List LayerItem) → weigh layer_item_bytes (change items) ≤ weigh layer_item_bytes items) → (item : TileItem) → length (tile_item_bytes (in_layer change item)) ≤ length (tile_item_bytes item)
in_layer_no_longer change less (OfLayer layer) =
    length-message_grows layer.tag.value layer.tag.width layer.width (flat_map layer_item_bytes (change layer.items)) (flat_map layer_item_bytes layer.items) (less layer.items)
in_layer_no_longer change less (PlainInTile field) = omega arith

in_feature_no_longer : (change : List Field → List Field) → ((fields : List Field) → weigh field_bytes (change fields) ≤ weigh field_bytes fields) → (item : LayerItem) → length (layer_item_bytes (in_feature change item)) ≤ length (layer_item_bytes item)
in_feature_no_longer change less (OfFeature feature) =
    length-message_grows feature.tag.value feature.tag.width feature.width (flat_map field_bytes (change feature.fields)) (flat_map field_bytes feature.fields) (less feature.fields)
in_feature_no_longer change less (PlainInLayer field) = omega arith

layer_no_longer : (change : List LayerItem → List LayerItem) → ((items : List LayerItem) → weigh layer_item_bytes (change items) ≤ weigh layer_item_bytes items) → (ordinal : ℕ) (document : Document) → length (bytes_of (change_layer change ordinal document)) ≤ length (bytes_of document)
layer_no_longer change less ordinal document =
    change_nth_no_longer tile_item_bytes is_layer (in_layer change) (in_layer_no_longer change less) ordinal document

feature_no_longer : (change : List Field → List Field) → ((fields : List Field) → weigh field_bytes (change fields) ≤ weigh field_bytes fields) → (ordinal feature : ℕ) (document : Document) → length (bytes_of (change_feature change ordinal feature document)) ≤ length (bytes_of document)
feature_no_longer change less ordinal feature document =
    layer_no_longer (change_nth is_feature (in_feature change) feature)
    (λ items. change_nth_no_longer layer_item_bytes is_feature (in_feature change) (in_feature_no_longer change less) feature items) ordinal document

-- no longer than it was
abbrev IsNoLonger : Document → Document → Type 0
IsNoLonger old new = length (bytes_of new) ≤ length (bytes_of old)

-- of valid items
in_layer_shorter : (change : List LayerItem → List LayerItem) → ((items : List LayerItem) → AllByRecursion IsLayerItem items → weigh layer_item_bytes (change items) ≤ weigh layer_item_bytes items) → (item : TileItem) → IsTileItem item → length (tile_item_bytes (in_layer change item)) ≤ length (tile_item_bytes item)
in_layer_shorter change less (OfLayer layer) valid =
    length-message_grows layer.tag.value layer.tag.width layer.width (flat_map layer_item_bytes (change layer.items)) (flat_map layer_item_bytes layer.items) (less layer.items valid.items)
in_layer_shorter change less (PlainInTile field) valid = omega arith

in_feature_shorter : (change : List Field → List Field) → ((fields : List Field) → AllByRecursion IsField fields → weigh field_bytes (change fields) ≤ weigh field_bytes fields) → (item : LayerItem) → IsLayerItem item → length (layer_item_bytes (in_feature change item)) ≤ length (layer_item_bytes item)
in_feature_shorter change less (OfFeature feature) valid =
    length-message_grows feature.tag.value feature.tag.width feature.width (flat_map field_bytes (change feature.fields)) (flat_map field_bytes feature.fields) (less feature.fields valid.fields)
in_feature_shorter change less (PlainInLayer field) valid = omega arith

layers_no_longer : (change : List LayerItem → List LayerItem) → ((items : List LayerItem) → AllByRecursion IsLayerItem items → weigh layer_item_bytes (change items) ≤ weigh layer_item_bytes items) → (choice : LayersChoice) (document : Document) → IsDocument document → IfOk (change_layers change choice document) (IsNoLonger document)
layers_no_longer change less (TheLayer choice) document valid =
    then_so (IsNoLonger document) (selected choice document) _ (λ ordinal. change_nth_shorter tile_item_bytes IsTileItem is_layer (in_layer change) (in_layer_shorter change less) ordinal document valid)
layers_no_longer change less EachLayer document valid = map_shorter tile_item_bytes IsTileItem (in_layer change) (in_layer_shorter change less) document valid

readable_no_longer : (change : List LayerItem → List LayerItem) → ((items : List LayerItem) → AllByRecursion IsLayerItem items → weigh layer_item_bytes (change items) ≤ weigh layer_item_bytes items) → (choice : LayersChoice) (document : Document) → IsDocument document → IfOk (change_readable change choice document) (IsNoLonger document)
readable_no_longer change less choice document valid =
    then_so (IsNoLonger document) (selected_layers choice document) _ (λ layers.
    then_so (IsNoLonger document) (refuse_first (unreadable layers)) _ (λ readable. layers_no_longer change less choice document valid))

untagged_no_longer : (items : List LayerItem) → weigh layer_item_bytes (untagged items) ≤ weigh layer_item_bytes items
untagged_no_longer items =
    map_no_longer layer_item_bytes (in_feature without_tags) (in_feature_no_longer without_tags (λ fields. filter_no_longer field_bytes (λ field. not (is_tags field)) fields)) items

unset_no_longer : (key : List ℕ) (items : List LayerItem) (fields : List Field) → weigh field_bytes (without_attribute key items fields) ≤ weigh field_bytes fields
unset_no_longer key items fields = no_longer 2 (removals key items fields) fields (none_new key items fields)

excluded_no_longer : (key : List ℕ) (items : List LayerItem) → weigh layer_item_bytes (excluded key items) ≤ weigh layer_item_bytes items
excluded_no_longer key items =
    map_no_longer layer_item_bytes (in_feature (without_attribute key items)) (in_feature_no_longer (without_attribute key items) (unset_no_longer key items)) items

entries_no_longer : (keys values : ℕ → Bool) (items : List LayerItem) → AllByRecursion IsLayerItem items → weigh layer_item_bytes (with_entries keys values items) ≤ weigh layer_item_bytes items
entries_no_longer keys values items valid =
    let change = with_new_ordinals keys values items in
    let left = map (in_feature change) items in
    let less : (fields : List Field) → AllByRecursion IsField fields → weigh field_bytes (change fields) ≤ weigh field_bytes fields =
    λ fields all. lower_no_longer 2 (new_ordinals keys values items fields) fields all (new_ordinals_lower keys values items fields) in
    omega (arith, map_shorter layer_item_bytes IsLayerItem (in_feature change) (in_feature_shorter change less) items valid, staying_no_longer layer_item_bytes (is_entry key_field) keys 0 left, staying_no_longer layer_item_bytes (is_entry value_field) values 0 (staying (is_entry key_field) keys 0 left))

compacted_no_longer : (keys values : List LayerItem → ℕ → Bool) (items : List LayerItem) → AllByRecursion IsLayerItem items → weigh layer_item_bytes (compacted keys values items) ≤ weigh layer_item_bytes items
compacted_no_longer keys values items valid = entries_no_longer (keys items) (values items) items valid

-- ---- accepted commands

kept_no_longer : (command : Command) (document : Document) → IsDocument document → may_lengthen command ≡ false → IfOk (applied command document) (IsNoLonger document)
kept_no_longer (RenameLayer choice name) document valid kind = absurd cc
kept_no_longer (MoveLayer choice index) document valid kind =
    then_so (IsNoLonger document) (selected choice document) _ (λ ordinal.
    then_so (IsNoLonger document) (refuse_if (not (ltb index (layer_count document))) BadPlace) _ (λ there. move_no_longer tile_item_bytes is_layer ordinal index document))
kept_no_longer (DropLayer choice) document valid kind =
    then_so (IsNoLonger document) (selected choice document) _ (λ ordinal. without_no_longer tile_item_bytes is_layer ordinal document)
kept_no_longer (KeepLayers names) document valid kind =
    then_so (IsNoLonger document) (refuse_if (not (list_any (λ layer. is_kept names (OfLayer layer)) (layers document))) NoLayer) _ (λ some. filter_no_longer tile_item_bytes (is_kept names) document)
kept_no_longer (InsertFeature choice index geometry) document valid kind = absurd cc
kept_no_longer (MoveFeature choice feature index) document valid kind =
    then_so (IsNoLonger document) (selected choice document) _ (λ ordinal.
    then_so (IsNoLonger document) (selected_in feature ordinal document) _ (λ moving.
    then_so (IsNoLonger document) (refuse_if (not (ltb index (feature_count ordinal document))) BadPlace) _ (λ there. layer_no_longer (move_nth is_feature moving index) (λ items. move_no_longer layer_item_bytes is_feature moving index items) ordinal document)))
kept_no_longer (DropFeature choice feature) document valid kind =
    then_so (IsNoLonger document) (selected choice document) _ (λ ordinal.
    then_so (IsNoLonger document) (selected_in feature ordinal document) _ (λ going. layer_no_longer (without is_feature going) (λ items. without_no_longer layer_item_bytes is_feature going items) ordinal document))
kept_no_longer (SetId choice feature id) document valid kind = absurd cc
kept_no_longer (ClearId choice feature) document valid kind =
    then_so (IsNoLonger document) (selected choice document) _ (λ ordinal.
    then_so (IsNoLonger document) (selected_in feature ordinal document) _ (λ selects. feature_no_longer without_id (λ fields. filter_no_longer field_bytes (λ field. not (is_id field)) fields) ordinal selects document))
kept_no_longer (SetAttribute choice feature key value) document valid kind = absurd cc
kept_no_longer (UnsetAttribute choice feature key) document valid kind =
    then_so (IsNoLonger document) (selected choice document) _ (λ ordinal.
    then_so (IsNoLonger document) (selected_in feature ordinal document) _ (λ selects.
    then_so (IsNoLonger document) (refuse_if (not (has_key key ordinal document)) NoKey) _ (λ there.
    then_so (IsNoLonger document) (refuse_if (not (has_pairs ordinal selects document)) (BadTags ordinal selects)) _ (λ readable.
    feature_no_longer (without_attribute key (items_of ordinal document)) (unset_no_longer key (items_of ordinal document)) ordinal selects document))))
kept_no_longer (RenameKey choice old new) document valid kind = absurd cc
kept_no_longer (Exclude choice key) document valid kind = readable_no_longer (excluded key) (λ items _. excluded_no_longer key items) choice document valid
kept_no_longer (ExcludeAll choice) document valid kind = layers_no_longer untagged (λ items _. untagged_no_longer items) choice document valid
kept_no_longer (Shift choice feature dx dy) document valid kind = absurd cc
kept_no_longer (SetGeometry choice feature geometry) document valid kind = absurd cc
kept_no_longer (CompactKeys choice) document valid kind =
    readable_no_longer (compacted is_key_used is_any) (compacted_no_longer is_key_used is_any) choice document valid
kept_no_longer (CompactValues choice) document valid kind =
    readable_no_longer (compacted is_any is_value_used) (compacted_no_longer is_any is_value_used) choice document valid
kept_no_longer (Compact choice) document valid kind =
    readable_no_longer (compacted is_key_used is_value_used) (compacted_no_longer is_key_used is_value_used) choice document valid

pub never_longer : NeverLonger
never_longer command document after valid kind is = ok_so (IsNoLonger document) (applied command document) after (kept_no_longer command document valid kind) is

-- ---- the limit

abbrev IsWithin : Document → Type 0
IsWithin document = length (bytes_of document) ≤ MAX_FILE

limited : (document : Document) → IfOk (within_limit document) IsWithin
limited document =
    cond_both (ltb MAX_FILE (length (bytes_of document))) (Err TooLarge) (Ok document) (λ r. IfOk r IsWithin)
    (λ _. tt)
    (λ e. ltb-false MAX_FILE (length (bytes_of document)) e)

lengthens_within : (command : Command) (document : Document) → may_lengthen command ≡ true → IfOk (applied command document) IsWithin
lengthens_within (RenameLayer choice name) document kind =
    then_so IsWithin (selected choice document) _ (λ ordinal. then_so IsWithin (refuse_if (is_taken name ordinal document) NameTaken) _ (λ free. limited (change_layer (named_items name) ordinal document)))
lengthens_within (MoveLayer choice index) document kind = absurd cc
lengthens_within (DropLayer choice) document kind = absurd cc
lengthens_within (KeepLayers names) document kind = absurd cc
lengthens_within (InsertFeature choice index geometry) document kind =
    then_so IsWithin (selected choice document) _ (λ ordinal.
    then_so IsWithin (refuse_if (ltb (feature_count ordinal document) index) BadPlace) _ (λ there.
    then_so IsWithin (refuse_if (not (is_in_range geometry)) OutOfRange) _ (λ short. limited (change_layer (insert_nth is_feature index (new_feature geometry)) ordinal document))))
lengthens_within (MoveFeature choice feature index) document kind = absurd cc
lengthens_within (DropFeature choice feature) document kind = absurd cc
lengthens_within (SetId choice feature id) document kind =
    then_so IsWithin (selected choice document) _ (λ ordinal. then_so IsWithin (selected_in feature ordinal document) _ (λ selects. limited (change_feature (identified id) ordinal selects document)))
lengthens_within (ClearId choice feature) document kind = absurd cc
lengthens_within (SetAttribute choice feature key value) document kind =
    then_so IsWithin (selected choice document) _ (λ ordinal.
    then_so IsWithin (selected_in feature ordinal document) _ (λ selects.
    then_so IsWithin (refuse_if (not (has_pairs ordinal selects document)) (BadTags ordinal selects)) _ (λ readable.
    then_so IsWithin (refuse_if (repeats_key key ordinal selects document) (RepeatedKey ordinal selects)) _ (λ once. limited (change_layer (attributed key (encoded_value value) selects) ordinal document)))))
lengthens_within (UnsetAttribute choice feature key) document kind = absurd cc
lengthens_within (RenameKey choice old new) document kind =
    then_so IsWithin (selected choice document) _ (λ ordinal.
    then_so IsWithin (refuse_if (not (has_key old ordinal document)) NoKey) _ (λ there.
    then_so IsWithin (refuse_if (has_key new ordinal document && not (bytes_eq old new)) KeyTaken) _ (λ free. limited (change_layer (renamed_keys old new) ordinal document))))
lengthens_within (Exclude choice key) document kind = absurd cc
lengthens_within (ExcludeAll choice) document kind = absurd cc
lengthens_within (Shift choice feature dx dy) document kind =
    then_so IsWithin (selected choice document) _ (λ ordinal.
    then_so IsWithin (selected_in feature ordinal document) _ (λ selects.
    then_so IsWithin (refuse_if (not (is_drawn ordinal selects document)) (BadGeometry ordinal selects)) _ (λ readable.
    then_so IsWithin (refuse_if (not (can_shift dx dy ordinal selects document)) OutOfRange) _ (λ short. limited (change_feature (shifted dx dy) ordinal selects document)))))
lengthens_within (SetGeometry choice feature geometry) document kind =
    then_so IsWithin (selected choice document) _ (λ ordinal.
    then_so IsWithin (selected_in feature ordinal document) _ (λ selects.
    then_so IsWithin (refuse_if (not (is_in_range geometry)) OutOfRange) _ (λ short. limited (change_feature (with_geometry geometry) ordinal selects document))))
lengthens_within (CompactKeys choice) document kind = absurd cc
lengthens_within (CompactValues choice) document kind = absurd cc
lengthens_within (Compact choice) document kind = absurd cc

pub command_fits : CommandFits
command_fits command document after valid within is =
    elim (cases_Bool (may_lengthen command)) [
      | inl kind ↦ ok_so IsWithin (applied command document) after (lengthens_within command document kind) is
      | inr kind ↦ omega (arith, never_longer command document after valid kind is)
    ]
