-- What an accepted compaction makes of the selected layers.
use Rattle.std.proofs.Common.{◌≡◌, ℕ, suc, ◌<◌, ◌==◌, Bool, true, false, ◌||◌, not, is_some, Option, Some, None, option_map, Ok, List, [], ◌∷◌, length, map, filter, slice_get, refl, sym, ap, ◌∙◌, subst}
use Rattle.std.proofs.lemmas.Bool.{or_left, or_right}
use Rattle.std.specs.List.{AllByRecursion}
use Rattle.mvt_document.specs.Plain.{Field, Feature, LayerItem, OfFeature, PlainInLayer, Layer, Document}
use Rattle.mvt_document.specs.Places.{in_feature}
use Rattle.mvt_document.proofs.Options.{some_is}
use Rattle.mvt_document.proofs.EachItem.{one_of_all}
use Rattle.mvt_meaning.specs.Command.{LayersChoice}
use Rattle.mvt_messages.specs.Attributes.{attribute_at}
use Rattle.mvt_messages.specs.Views.{content_in, contents, features, features_in, key_field, plain_fields, plain_in, value_field}
use Rattle.mvt_meaning.specs.Compaction.{compacted, is_any, is_entry, is_key_used, is_value_used, new_ordinals, staying}
use Rattle.mvt_meaning.specs.Selection.{selected_layers}
use Rattle.mvt_meaning.specs.Tagging.{pairs_among, unreadable}
use Rattle.mvt_meaning.specs.Meaning.{◌>>=◌, change_layers, change_readable, refuse_first}
use Rattle.command_laws.proofs.Accepted.{accepted}
use Rattle.command_laws.proofs.OtherFields.{others_stay}
use Rattle.command_laws.proofs.Parts.{with_fields, with_items}
use Rattle.command_laws.proofs.Staying.{all_staying, filter-apart, filter-staying, kept, kept_filtered, map-staying}
use Rattle.command_laws.specs.ChangedLayers.{ChangesLayers}
use Rattle.command_laws.proofs.ChangedLayers.{got_mapped, layers_change}
use Rattle.command_laws.proofs.Readable.{selected_read}
use Rattle.command_laws.proofs.Twice.{all_of}
use Rattle.command_laws.specs.CompactionLaws.{CompactCompacts, CompactKeysCompacts, CompactValuesCompacts, EachKeepsAttributes, IsLeftOf, LosesBoth, LosesKeys, LosesUnused, LosesValues, entries, is_entry_in, is_entry_of, key_of, outline, used_ones, value_of}
use Rattle.command_laws.proofs.Left.{left_staying, left_twice}
use Rattle.command_laws.proofs.Repointed.{AllStay, attribute_among, attributes_kept, features_new, new_fields, new_items, none_of_other, plain_new, tags_new}
use Rattle.command_laws.proofs.Used.{IsReadStaying, any_stay, keys_all_used, used_same, used_stay, values_all_used}

-- ---- features that are read

-- what the pairs of each feature name stays
abbrev pub Covers : (ℕ × ℕ → ℕ) → (ℕ → Bool) → List LayerItem → Type 0
Covers part stays items = (index : ℕ) (feature : Feature) (pairs : List (ℕ × ℕ)) → slice_get (features_in items) index ≡ Some feature → pairs_among items feature.fields ≡ Some pairs → AllStay part stays pairs

-- the tags of each feature of the layer make pairs
abbrev pub EachIsRead : List LayerItem → Type 0
EachIsRead items = (index : ℕ) (feature : Feature) → slice_get (features_in items) index ≡ Some feature → is_some (pairs_among items feature.fields) ≡ true

pub read_staying : (keys_stay values_stay : ℕ → Bool) (items : List LayerItem) → Covers key_of keys_stay items → Covers value_of values_stay items → EachIsRead items → AllByRecursion (IsReadStaying keys_stay values_stay items) (features_in items)
read_staying keys_stay values_stay items keys values read =
    all_of (IsReadStaying keys_stay values_stay items) (features_in items) (λ index feature there.
    let found = some_is (pairs_among items feature.fields) (read index feature there) in
    record { pairs = found.0; is = found.1; stay = (keys index feature found.0 there found.1, values index feature found.0 there found.1) })

pub keys_covered : (items : List LayerItem) → Covers key_of (is_key_used items) items
keys_covered items index feature pairs there is = used_stay key_of items index feature pairs there is

pub values_covered : (items : List LayerItem) → Covers value_of (is_value_used items) items
values_covered items index feature pairs there is = used_stay value_of items index feature pairs there is

pub any_covered : (part : ℕ × ℕ → ℕ) (items : List LayerItem) → Covers part (is_any items) items
any_covered part items index feature pairs there is = any_stay part pairs

-- ---- entries

one_more : (number : ℕ) (field : Field) (fields : List Field) (found : Option (List ℕ)) → content_in number field ≡ found → length (filter (is_entry_of number) fields) ≡ length (contents number fields) → length (filter (is_entry_of number) (field ∷ fields)) ≡ length (contents number (field ∷ fields))
one_more number field fields None is more = rw is more
one_more number field fields (Some bytes) is more = rw is (ap suc more)

-- each entry has one content
pub count_same : (number : ℕ) (fields : List Field) → length (filter (is_entry_of number) fields) ≡ length (contents number fields)
count_same number [] = refl
count_same number (field ∷ fields) = one_more number field fields (content_in number field) refl (count_same number fields)

apart_of : (number other : ℕ) → (number == other) ≡ false → (field : Field) → is_entry_of number field ≡ true → is_entry_of other field ≡ false
apart_of number other differ field is = ap (λ (found : Option (List ℕ)). is_some found) (none_of_other number other differ field is)

entry_item : (number : ℕ) (item : LayerItem) → is_entry_in number (plain_in item) ≡ is_entry number item
entry_item number (OfFeature feature) = refl
entry_item number (PlainInLayer field) = refl

outline_stays : (change : List Field → List Field) (items : List LayerItem) → map plain_in (map (in_feature change) items) ≡ map plain_in items
outline_stays change [] = refl
outline_stays change (OfFeature feature ∷ items) = ap (λ (rest : List (Option Field)). None ∷ rest) (outline_stays change items)
outline_stays change (PlainInLayer field ∷ items) = ap (λ (rest : List (Option Field)). Some field ∷ rest) (outline_stays change items)

-- ---- a layer

module _ (keys_stay values_stay : ℕ → Bool) (layer : Layer) where
  abbrev new_layer : Layer
  new_layer = with_items (λ items. new_items keys_stay values_stay items) layer

  abbrev keys_left : List (Option Field)
  keys_left = staying (is_entry_in key_field) keys_stay 0 (outline layer)

  key_entries : entries key_field new_layer ≡ kept keys_stay 0 (entries key_field layer)
  key_entries =
      ap (filter (is_entry_of key_field)) (plain_new keys_stay values_stay layer.items)
      ∙ filter-apart (is_entry_of value_field) values_stay (is_entry_of key_field) (apart_of value_field key_field refl) 0 (staying (is_entry_of key_field) keys_stay 0 (plain_fields layer.items))
      ∙ filter-staying (is_entry_of key_field) keys_stay 0 (plain_fields layer.items)

  value_entries : entries value_field new_layer ≡ kept values_stay 0 (entries value_field layer)
  value_entries =
      ap (filter (is_entry_of value_field)) (plain_new keys_stay values_stay layer.items)
      ∙ filter-staying (is_entry_of value_field) values_stay 0 (staying (is_entry_of key_field) keys_stay 0 (plain_fields layer.items))
      ∙ ap (kept values_stay 0) (filter-apart (is_entry_of key_field) keys_stay (is_entry_of value_field) (apart_of key_field value_field refl) 0 (plain_fields layer.items))

  outline_new : outline new_layer ≡ staying (is_entry_in value_field) values_stay 0 keys_left
  outline_new =
      let changed = map (in_feature (new_fields keys_stay values_stay layer.items)) layer.items in
      map-staying (is_entry value_field) values_stay plain_in (is_entry_in value_field) (entry_item value_field) 0 (staying (is_entry key_field) keys_stay 0 changed)
      ∙ ap (staying (is_entry_in value_field) values_stay 0) (
      map-staying (is_entry key_field) keys_stay plain_in (is_entry_in key_field) (entry_item key_field) 0 changed
      ∙ ap (staying (is_entry_in key_field) keys_stay 0) (outline_stays (new_fields keys_stay values_stay layer.items) layer.items))

  unmoved : IsLeftOf (Option Field) (outline new_layer) (outline layer)
  unmoved =
      subst (λ (list : List (Option Field)). IsLeftOf (Option Field) list (outline layer)) (sym outline_new)
      (left_twice (left_staying (is_entry_in value_field) values_stay 0 keys_left) (left_staying (is_entry_in key_field) keys_stay 0 (outline layer)))

  module _ (read : AllByRecursion (IsReadStaying keys_stay values_stay layer.items) (features_in layer.items)) where
    each_keeps : EachKeepsAttributes layer new_layer
    each_keeps ordinal former is =
        let here = one_of_all (IsReadStaying keys_stay values_stay layer.items) (features_in layer.items) ordinal former is read in
        let change = new_fields keys_stay values_stay layer.items in (
          with_fields change former,
          ap (λ (list : List Feature). slice_get list ordinal) (features_new keys_stay values_stay layer.items) ∙ got_mapped (with_fields change) (features layer) ordinal former is,
          record {
            tag = refl;
            width = refl;
            changed = record {
              found = map (attribute_among layer.items) here.pairs;
              had = ap (option_map (map (attribute_at layer))) here.is;
              has = attributes_kept keys_stay values_stay layer.items former.fields here.pairs here.is here.stay;
              tags = tags_new keys_stay values_stay layer.items former.fields here.pairs here.is;
              others = others_stay 2 (new_ordinals keys_stay values_stay layer.items former.fields) former.fields;
            };
          },
        )

    keys_lost : keys_stay ≡ is_key_used layer.items → LosesUnused key_field key_of layer new_layer
    keys_lost are = record {
      stay = key_entries ∙ kept_filtered keys_stay 0 (entries key_field layer) ∙ ap (λ (stays : ℕ → Bool). used_ones stays (entries key_field layer)) (are ∙ used_same key_of layer);
      used = λ ordinal below.
          let within = subst (λ n. ordinal < n) (count_same key_field (plain_fields new_layer.items)) below in
          ap (λ (stays : ℕ → Bool). stays ordinal) (sym (used_same key_of new_layer)) ∙ keys_all_used keys_stay values_stay layer.items read are ordinal within;
    }

    values_lost : values_stay ≡ is_value_used layer.items → LosesUnused value_field value_of layer new_layer
    values_lost are = record {
      stay = value_entries ∙ kept_filtered values_stay 0 (entries value_field layer) ∙ ap (λ (stays : ℕ → Bool). used_ones stays (entries value_field layer)) (are ∙ used_same value_of layer);
      used = λ ordinal below.
          let within = subst (λ n. ordinal < n) (count_same value_field (plain_fields new_layer.items)) below in
          ap (λ (stays : ℕ → Bool). stays ordinal) (sym (used_same value_of new_layer)) ∙ values_all_used keys_stay values_stay layer.items read are ordinal within;
    }

-- ---- the three commands on a layer

abbrev no_key : Option Field → Bool
no_key item = not (is_entry_in key_field item)

abbrev no_value : Option Field → Bool
no_value item = not (is_entry_in value_field item)

abbrev neither : Option Field → Bool
neither item = not (is_entry_in key_field item || is_entry_in value_field item)

loses_keys : (layer : Layer) → EachIsRead layer.items → LosesKeys layer (with_items (compacted is_key_used is_any) layer)
loses_keys layer each =
    let keys_stay = is_key_used layer.items in
    let values_stay = is_any layer.items in
    let read = read_staying keys_stay values_stay layer.items (keys_covered layer.items) (any_covered value_of layer.items) each in
    record {
      keys_so = keys_lost keys_stay values_stay layer read refl;
      each = each_keeps keys_stay values_stay layer read;
      others =
          ap (filter no_key) (outline_new keys_stay values_stay layer)
          ∙ ap (filter no_key) (all_staying (is_entry_in value_field) values_stay 0 (keys_left keys_stay values_stay layer) (λ k above below. refl))
          ∙ filter-apart (is_entry_in key_field) keys_stay no_key (λ item is. ap not is) 0 (outline layer);
      unmoved = unmoved keys_stay values_stay layer;
    }

loses_values : (layer : Layer) → EachIsRead layer.items → LosesValues layer (with_items (compacted is_any is_value_used) layer)
loses_values layer each =
    let keys_stay = is_any layer.items in
    let values_stay = is_value_used layer.items in
    let read = read_staying keys_stay values_stay layer.items (any_covered key_of layer.items) (values_covered layer.items) each in
    record {
      values_so = values_lost keys_stay values_stay layer read refl;
      each = each_keeps keys_stay values_stay layer read;
      others =
          ap (filter no_value) (outline_new keys_stay values_stay layer)
          ∙ filter-apart (is_entry_in value_field) values_stay no_value (λ item is. ap not is) 0 (keys_left keys_stay values_stay layer)
          ∙ ap (filter no_value) (all_staying (is_entry_in key_field) keys_stay 0 (outline layer) (λ k above below. refl));
      unmoved = unmoved keys_stay values_stay layer;
    }

loses_both : (layer : Layer) → EachIsRead layer.items → LosesBoth layer (with_items (compacted is_key_used is_value_used) layer)
loses_both layer each =
    let keys_stay = is_key_used layer.items in
    let values_stay = is_value_used layer.items in
    let read = read_staying keys_stay values_stay layer.items (keys_covered layer.items) (values_covered layer.items) each in
    record {
      keys_so = keys_lost keys_stay values_stay layer read refl;
      values_so = values_lost keys_stay values_stay layer read refl;
      each = each_keeps keys_stay values_stay layer read;
      others =
          ap (filter neither) (outline_new keys_stay values_stay layer)
          ∙ filter-apart (is_entry_in value_field) values_stay neither (λ item is. ap not (or_right (is_entry_in key_field item) (is_entry_in value_field item) is)) 0 (keys_left keys_stay values_stay layer)
          ∙ filter-apart (is_entry_in key_field) keys_stay neither (λ item is. ap not (or_left (is_entry_in key_field item) (is_entry_in value_field item) is)) 0 (outline layer);
      unmoved = unmoved keys_stay values_stay layer;
    }

-- ---- documents

-- what an accepted change of layers that are read makes
readable_changes : (change : List LayerItem → List LayerItem) (way : Layer → Layer → Type 0) → ((layer : Layer) → EachIsRead layer.items → way layer (with_items change layer)) → (choice : LayersChoice) (old new : Document) → change_readable change choice old ≡ Ok new → ChangesLayers choice way old new
readable_changes change way so choice old new e =
    let found = accepted (selected_layers choice old) (λ found. refuse_first (unreadable found) >>= λ readable. change_layers change choice old) new e in
    let readable = accepted (refuse_first (unreadable found.0)) (λ readable. change_layers change choice old) new found.2 in
    layers_change way change choice old new readable.2 (λ ordinal layer selects there.
    so layer (selected_read choice old found.0 readable.0 found.1 readable.1 ordinal layer selects there))

pub compact_keys_compacts : CompactKeysCompacts
compact_keys_compacts choice old new e = readable_changes (compacted is_key_used is_any) LosesKeys loses_keys choice old new e

pub compact_values_compacts : CompactValuesCompacts
compact_values_compacts choice old new e = readable_changes (compacted is_any is_value_used) LosesValues loses_values choice old new e

pub compact_compacts : CompactCompacts
compact_compacts choice old new e = readable_changes (compacted is_key_used is_value_used) LosesBoth loses_both choice old new e
