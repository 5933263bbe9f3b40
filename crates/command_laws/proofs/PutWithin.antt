-- What an accepted command puts in is within the tile that it makes.
use Rattle.std.proofs.Common.{◌≡◌, ℕ, ◌<◌, ◌≤◌, ℤ, Bool, ◌==◌, cond, not, ltb, Option, Result, Ok, Err, IfOk, List, ◌∷◌, ◌++◌, length, length-append, map, refl, sym, ap, subst, le_of_eq, arith}
use Rattle.std.specs.List.{flat_map, sum_by}
use Rattle.std.specs.Result.{result_unwrap_or}
use Rattle.std.proofs.lemmas.Bool.{cond_both, ltb-false}
use Rattle.std.proofs.lemmas.List.Concat.{flat_map-append}
use Rattle.mvt_document.specs.declared.TheConstants.{MAX_FILE}
use Rattle.mvt_document.specs.Plain.{Field, LayerItem, Layer, Document}
use Rattle.mvt_document.specs.Places.{in_feature}
use Rattle.mvt_document.specs.Wire.{bytes_of, field_bytes, layer_item_bytes}
use Rattle.mvt_messages.specs.Views.{feature_in, features, features_in, key_field, layers, value_field}
use Rattle.mvt_renumber.specs.Renumbering.{renumber, renumbered_field}
use Rattle.mvt_value.specs.Messages.{encoded_value}
use Rattle.mvt_geometry.specs.Checks.{is_in_range}
use Rattle.mvt_meaning.specs.Command.{LayerChoice, FeatureChoice, LayersChoice, RenameLayer, MoveLayer, DropLayer, KeepLayers, InsertFeature, MoveFeature, DropFeature, SetId, ClearId, SetAttribute, UnsetAttribute, RenameKey, Exclude, ExcludeAll, Shift, SetGeometry, CompactKeys, CompactValues, Compact}
use Rattle.mvt_meaning.specs.Compaction.{compacted, is_any, is_entry, is_key_used, is_value_used, new_ordinals, staying, with_new_ordinals}
use Rattle.mvt_meaning.specs.Decided.{as_renumbered}
use Rattle.mvt_meaning.specs.Geometries.{moves, shifted, shifting}
use Rattle.mvt_meaning.specs.Meaning.{applied, can_shift, change_feature, change_layer, feature_count, fields_of, has_key, has_pairs, is_drawn, items_of, new_feature, refuse_if, repeats_key, within_limit}
use Rattle.mvt_meaning.specs.Ordinals.{change_nth, insert_nth}
use Rattle.mvt_meaning.specs.Selection.{is_feature, selected, selected_in, selected_layers}
use Rattle.mvt_meaning.specs.Tagging.{attributed, excluded, is_tags, losing, losing_in, missing_entries, new_pair, pairs_with, removals, replacements, revaluing, with_attribute, with_more_tags, without_attribute}
use Rattle.mvt_meaning.specs.Weights.{as_after, compact_puts, geometry_weight, id_weight, key_weight, layers_weight, name_weight, put_by, set_puts, weigh, weigh_last}
use Rattle.mvt_meaning.specs.declared.refusal.Refusal.{Refusal}
use Rattle.mvt_meaning.specs.declared.refusal.Refusal.TheVariants.{BadGeometry, BadPlace, BadTags, NoKey, OutOfRange, RepeatedKey, TooLarge}
use Rattle.mvt_meaning.proofs.Selecting.{selected_within}
use Rattle.command_laws.specs.WeightLaws.{PutWithin}
use Rattle.command_laws.proofs.Accepted.{not_refused, ok_so, then_given, then_so}
use Rattle.command_laws.proofs.Around.{put_nth}
use Rattle.command_laws.proofs.ListWeights.{last_within, seen_weighs, weigh_joined}
use Rattle.command_laws.proofs.PartWeights.{after_within, feature_there, features_after, features_changed, features_staying, features_within, fields_weight, made_within, redone_within}
use Rattle.command_laws.proofs.LayerWeights.{of_both_is, of_less, readable_within}
use Rattle.command_laws.proofs.TakenWithin.{geometry_within, id_within, key_within, name_within}

-- what holds of a document holds of it where a file can hold it
limited_so : (P : Document → Type 0) (document : Document) → P document → IfOk (within_limit document) P
limited_so P document so = cond_both (ltb MAX_FILE (length (bytes_of document))) (Err TooLarge) (Ok document) (λ r. IfOk r P) (λ _. tt) (λ _. so)

-- what is seen in the document after a command is within what it makes
seen_after : (weight : Document → ℕ) → ((seen : Document) → weight seen ≤ length (bytes_of seen)) → (answer : Result Document Refusal) (document made : Document) → answer ≡ Ok made → weight (result_unwrap_or answer document) ≤ length (bytes_of made)
seen_after weight within answer document made is =
    subst (λ (r : Result Document Refusal). weight (result_unwrap_or r document) ≤ length (bytes_of made)) (sym is) (within made)

nothing_put : (most : ℕ) → 0 ≤ most
nothing_put most = omega arith

-- ---- a new feature

insertion_within : (index : ℕ) (new : LayerItem) (items : List LayerItem) → index ≤ length (features_in items) → length (layer_item_bytes new) ≤ weigh layer_item_bytes (insert_nth is_feature index new items)
insertion_within index new items within =
    let p = put_nth feature_in index new items within in
    let made : insert_nth is_feature index new items ≡ p.front ++ new ∷ p.back = p.made_so in
    omega (arith, ap (weigh layer_item_bytes) made, weigh_joined layer_item_bytes p.front (new ∷ p.back), length-append (layer_item_bytes new) (flat_map layer_item_bytes p.back))

inserted_within : (index : ℕ) (new : LayerItem) (ordinal : ℕ) (document : Document) → ordinal < length (layers document) → index ≤ feature_count ordinal document → length (layer_item_bytes new) ≤ length (bytes_of (change_layer (insert_nth is_feature index new) ordinal document))
inserted_within index new ordinal document there within =
    omega (arith, insertion_within index new (items_of ordinal document) within, made_within (insert_nth is_feature index new) document ordinal there)

-- ---- one feature

module _ (choice : LayerChoice) (feature : FeatureChoice) (document : Document) (ordinal index : ℕ) (selects : selected choice document ≡ Ok ordinal) (finds : selected_in feature ordinal document ≡ Ok index) where
  abbrev items : List LayerItem
  items = items_of ordinal document

  abbrev fields : List Field
  fields = fields_of ordinal index document

  feature_within : (change : List Field → List Field) → weigh field_bytes (change fields) ≤ length (bytes_of (change_feature change ordinal index document))
  feature_within change =
      omega (arith, redone_within change index items (feature_there feature ordinal index document finds), made_within (change_nth is_feature (in_feature change) index) document ordinal (selected_within choice document ordinal selects))

  unset_within : (key : List ℕ) → put_by (UnsetAttribute choice feature key) document ≤ length (bytes_of (change_feature (without_attribute key items) ordinal index document))
  unset_within key =
      let is = of_both_is (selected choice document) (λ n. selected_in feature n document) (λ n m. weigh field_bytes (as_after (losing key (items_of n document) (fields_of n m document)))) ordinal index selects finds in
      omega (arith, is, after_within 2 (removals key items fields) fields, feature_within (without_attribute key items))

  shift_within : (dx dy : ℤ) → put_by (Shift choice feature dx dy) document ≤ length (bytes_of (change_feature (shifted dx dy) ordinal index document))
  shift_within dx dy =
      let is = of_both_is (selected choice document) (λ n. selected_in feature n document) (λ n m. weigh field_bytes (as_renumbered 4 (shifting dx dy (fields_of n m document)))) ordinal index selects finds in
      omega (arith, is, after_within 4 (moves dx dy fields) fields, feature_within (shifted dx dy))

  module _ (key value : List ℕ) where
    abbrev attribute : List Field → List Field
    attribute list = with_attribute key value items list

    tags_put : cond (pairs_with key items fields == 0) (weigh_last field_bytes is_tags (attribute fields)) (weigh field_bytes (as_after (revaluing key value items fields))) ≤ weigh field_bytes (attribute fields)
    tags_put =
        cond_both (pairs_with key items fields == 0) (weigh_last field_bytes is_tags (attribute fields)) (weigh field_bytes (as_after (revaluing key value items fields))) (λ n. n ≤ weigh field_bytes (attribute fields))
        (λ _. last_within field_bytes is_tags (attribute fields))
        (λ some. (
        let same : attribute fields ≡ renumber 2 (replacements key value items fields) fields =
        ap (λ (none : Bool). cond none (with_more_tags (new_pair key value items) fields) (renumber 2 (replacements key value items fields) fields)) some in
        omega (arith, ap (weigh field_bytes) same, after_within 2 (replacements key value items fields) fields)))

    set_within : set_puts key value items fields ≤ length (bytes_of (change_layer (attributed key value index) ordinal document))
    set_within =
        let entries = missing_entries key value items in
        let changed = change_nth is_feature (in_feature attribute) index items in
        omega (arith, tags_put, redone_within attribute index items (feature_there feature ordinal index document finds), weigh_joined layer_item_bytes changed entries, made_within (attributed key value index) document ordinal (selected_within choice document ordinal selects))

-- ---- layers

losing_put : (key : List ℕ) (layer : Layer) → weigh field_bytes (as_after (losing_in key layer)) ≤ weigh layer_item_bytes (excluded key layer.items)
losing_put key layer =
    let items = layer.items in
    let change = without_attribute key items in
    omega (arith, features_after 2 (removals key items) (features layer), features_changed change items, features_within (map (in_feature change) items))

compact_within : (keys values : List LayerItem → ℕ → Bool) (layer : Layer) → compact_puts keys values layer ≤ weigh layer_item_bytes (compacted keys values layer.items)
compact_within keys values layer =
    let items = layer.items in
    let change = with_new_ordinals (keys items) (values items) items in
    let changed = map (in_feature change) items in
    let keys_left = staying (is_entry key_field) (keys items) 0 changed in
    omega (arith, features_after 2 (new_ordinals (keys items) (values items) items) (features layer), features_changed change items, ap (sum_by fields_weight) (features_staying key_field (keys items) 0 changed), ap (sum_by fields_weight) (features_staying value_field (values items) 0 keys_left), features_within (compacted keys values items))

-- ---- commands

excluded_within : (choice : LayersChoice) (key : List ℕ) (document made : Document) → applied (Exclude choice key) document ≡ Ok made → put_by (Exclude choice key) document ≤ length (bytes_of made)
excluded_within choice key document made is =
    let weight : Layer → ℕ = λ layer. weigh field_bytes (as_after (losing_in key layer)) in
    let each = of_less (selected_layers choice document) (λ found. weigh field_bytes (as_after (flat_map (λ at. losing_in key at.1.1) found))) (λ found. sum_by (λ at. weight at.1.1) found) (λ found.
    le_of_eq (seen_weighs field_bytes as_after refl (flat_map-append (λ (at : List (Option ℕ) × Field). renumbered_field 2 at.0 at.1)) (λ at. losing_in key at.1.1) found)) in
    let within = ok_so (λ (made : Document). layers_weight weight choice document ≤ length (bytes_of made)) (applied (Exclude choice key) document) made (readable_within weight (excluded key) (losing_put key) choice document) is in
    omega (arith, each, within)

pub put_within : PutWithin
put_within (RenameLayer choice name) document made is =
    seen_after (name_weight choice document) (name_within choice document) (applied (RenameLayer choice name) document) document made is
put_within (MoveLayer choice index) document made is = nothing_put (length (bytes_of made))
put_within (DropLayer choice) document made is = nothing_put (length (bytes_of made))
put_within (KeepLayers names) document made is = nothing_put (length (bytes_of made))
put_within (InsertFeature choice index geometry) document made is =
    let Within = λ (made : Document). length (layer_item_bytes (new_feature geometry)) ≤ length (bytes_of made) in
    ok_so Within (applied (InsertFeature choice index geometry) document) made (
    then_given Within (selected choice document) _ (λ ordinal selects.
    then_given Within (refuse_if (ltb (feature_count ordinal document) index) BadPlace) _ (λ there free.
    then_so Within (refuse_if (not (is_in_range geometry)) OutOfRange) _ (λ short. limited_so Within (change_layer (insert_nth is_feature index (new_feature geometry)) ordinal document) (
    inserted_within index (new_feature geometry) ordinal document (selected_within choice document ordinal selects) (ltb-false (feature_count ordinal document) index (not_refused (ltb (feature_count ordinal document) index) BadPlace there free))))))) is
put_within (MoveFeature choice feature index) document made is = nothing_put (length (bytes_of made))
put_within (DropFeature choice feature) document made is = nothing_put (length (bytes_of made))
put_within (SetId choice feature id) document made is =
    seen_after (id_weight choice feature document) (id_within choice feature document) (applied (SetId choice feature id) document) document made is
put_within (ClearId choice feature) document made is = nothing_put (length (bytes_of made))
put_within (SetAttribute choice feature key value) document made is =
    let Within = λ (made : Document). put_by (SetAttribute choice feature key value) document ≤ length (bytes_of made) in
    ok_so Within (applied (SetAttribute choice feature key value) document) made (
    then_given Within (selected choice document) _ (λ ordinal selects.
    then_given Within (selected_in feature ordinal document) _ (λ found finds.
    then_so Within (refuse_if (not (has_pairs ordinal found document)) (BadTags ordinal found)) _ (λ readable.
    then_so Within (refuse_if (repeats_key key ordinal found document) (RepeatedKey ordinal found)) _ (λ once.
    limited_so Within (change_layer (attributed key (encoded_value value) found) ordinal document) (
    let is = of_both_is (selected choice document) (λ n. selected_in feature n document) (λ n m. set_puts key (encoded_value value) (items_of n document) (fields_of n m document)) ordinal found selects finds in
    omega (arith, is, set_within choice feature document ordinal found selects finds key (encoded_value value)))))))) is
put_within (UnsetAttribute choice feature key) document made is =
    let Within = λ (made : Document). put_by (UnsetAttribute choice feature key) document ≤ length (bytes_of made) in
    ok_so Within (applied (UnsetAttribute choice feature key) document) made (
    then_given Within (selected choice document) _ (λ ordinal selects.
    then_given Within (selected_in feature ordinal document) _ (λ found finds.
    then_so Within (refuse_if (not (has_key key ordinal document)) NoKey) _ (λ there.
    then_so Within (refuse_if (not (has_pairs ordinal found document)) (BadTags ordinal found)) _ (λ readable. unset_within choice feature document ordinal found selects finds key))))) is
put_within (RenameKey choice old new) document made is =
    seen_after (key_weight new choice document) (key_within new choice document) (applied (RenameKey choice old new) document) document made is
put_within (Exclude choice key) document made is = excluded_within choice key document made is
put_within (ExcludeAll choice) document made is = nothing_put (length (bytes_of made))
put_within (Shift choice feature dx dy) document made is =
    let Within = λ (made : Document). put_by (Shift choice feature dx dy) document ≤ length (bytes_of made) in
    ok_so Within (applied (Shift choice feature dx dy) document) made (
    then_given Within (selected choice document) _ (λ ordinal selects.
    then_given Within (selected_in feature ordinal document) _ (λ found finds.
    then_so Within (refuse_if (not (is_drawn ordinal found document)) (BadGeometry ordinal found)) _ (λ readable.
    then_so Within (refuse_if (not (can_shift dx dy ordinal found document)) OutOfRange) _ (λ short.
    limited_so Within (change_feature (shifted dx dy) ordinal found document) (shift_within choice feature document ordinal found selects finds dx dy)))))) is
put_within (SetGeometry choice feature geometry) document made is =
    seen_after (geometry_weight choice feature document) (geometry_within choice feature document) (applied (SetGeometry choice feature geometry) document) document made is
put_within (CompactKeys choice) document made is =
    ok_so (λ (made : Document). layers_weight (compact_puts is_key_used is_any) choice document ≤ length (bytes_of made)) (applied (CompactKeys choice) document) made (readable_within (compact_puts is_key_used is_any) (compacted is_key_used is_any) (compact_within is_key_used is_any) choice document) is
put_within (CompactValues choice) document made is =
    ok_so (λ (made : Document). layers_weight (compact_puts is_any is_value_used) choice document ≤ length (bytes_of made)) (applied (CompactValues choice) document) made (readable_within (compact_puts is_any is_value_used) (compacted is_any is_value_used) (compact_within is_any is_value_used) choice document) is
put_within (Compact choice) document made is =
    ok_so (λ (made : Document). layers_weight (compact_puts is_key_used is_value_used) choice document ≤ length (bytes_of made)) (applied (Compact choice) document) made (readable_within (compact_puts is_key_used is_value_used) (compacted is_key_used is_value_used) (compact_within is_key_used is_value_used) choice document) is
