-- A layer in which some keys and some values stay: its steps, what they make, and what they put and take out.
use Rattle.std.proofs.Common.{◌≡◌, ℕ, ◌+◌, Bool, Some, List, [], ◌++◌, length, length-append, map, slice_get, option_map, refl, sym, ap, ◌∙◌, subst, arith}
use Rattle.std.proofs.lemmas.List.{length-map}
use Rattle.std.proofs.lemmas.List.Concat.{flat_map-append}
use Rattle.std.specs.List.{AllByRecursion, flat_map}
use Rattle.std.specs.Option.{IfSome, option_and_then}
use Rattle.mvt_document.specs.Plain.{Field, Feature, Layer, LayerItem, OfLayer, Document}
use Rattle.mvt_document.specs.Opens.{IsLayerItem}
use Rattle.mvt_document.specs.Places.{change_items, items_at, items_in}
use Rattle.mvt_document.specs.Wire.{field_bytes, layer_item_bytes}
use Rattle.mvt_document.proofs.Lists.{same_each}
use Rattle.mvt_renumber.specs.declared.fate.Fate.{Fate}
use Rattle.mvt_change.specs.Changes.{Change, OfTheLayer}
use Rattle.mvt_change.proofs.Lenses.{list_part}
use Rattle.mvt_messages.specs.Views.{features, key_field, value_field}
use Rattle.mvt_meaning.specs.Compaction.{compacted, is_entry, leaving, new_ordinals, repointing, staying, with_new_ordinals}
use Rattle.mvt_meaning.specs.Tagging.{differing}
use Rattle.mvt_meaning.specs.Weights.{as_after, as_before, compact_puts, compact_takes}
use Rattle.mvt_edit_steps.specs.EachFeature.{layer_steps}
use Rattle.mvt_edit_steps.specs.Fates.{splices_of}
use Rattle.mvt_edit_steps.proofs.CarriedOut.{put_all, spliced_all, taken_all}
use Rattle.mvt_edit_steps.proofs.Carrying.{carried, in_layer_at, in_the_layer, makes_alike}
use Rattle.mvt_edit_steps.proofs.Come.{CarriesEach, Come, both_come, each_changed, layer_comes, puts_in, takes_in}
use Rattle.mvt_edit_steps.proofs.EachFeature.{joined_each, mapped_each, of_features}
use Rattle.mvt_edit_steps.proofs.FieldsLeft.{fields_put, fields_taken}
use Rattle.mvt_edit_pools.specs.Marks.{entry_splices, entry_steps}
use Rattle.mvt_edit_pools.specs.Pools.{compacting, gone_from, ordinal_fates}
use Rattle.mvt_edit_pools.proofs.Gone.{IsHeavy, entries_weigh, field_list, gone_changed, heavy_changed, leaving_changed, takes_entries}

abbrev pub weigh_fields : List Field → ℕ
weigh_fields fields = length (flat_map field_bytes fields)

weighs_both : (xs ys : List Field) → weigh_fields (xs ++ ys) ≡ weigh_fields xs + weigh_fields ys
weighs_both xs ys = ap length (flat_map-append field_bytes xs ys) ∙ length-append (flat_map field_bytes xs) (flat_map field_bytes ys)

module _ (keys values : List LayerItem → ℕ → Bool) where
  abbrev pub fates : List LayerItem → List Field → List (Fate Field)
  fates items fields = ordinal_fates keys values items fields

  abbrev pub change : List LayerItem → List Field → List Field
  change items fields = with_new_ordinals (keys items) (values items) items fields

  -- the layer can be changed in this way: each of its features can, and its entries have bytes
  pub record Holds (layer : Layer) : Type 0 where
    pub carries : CarriesEach fates change layer
    pub heavy : AllByRecursion IsHeavy layer.items

  -- the entries that go, as fields
  abbrev entries_of : Layer → List Field
  entries_of layer = field_list (leaving key_field (keys layer.items) layer.items) ++ field_list (leaving value_field (values layer.items) layer.items)

  -- what is put into a layer that was found, and taken out of it
  abbrev pub puts_of : ℕ × Layer → List Field
  puts_of at = puts_in fates change (0, at) ++ []

  abbrev pub takes_of : ℕ × Layer → List Field
  takes_of at = takes_in fates change (0, at) ++ entries_of at.1

  -- ---- the entries, once the features have changed

  module _ (position : ℕ) (layer : Layer) (document : Document) (is : slice_get document position ≡ Some (OfLayer layer)) (holds : Holds layer) where
    abbrev half : Document
    half = change_items (each_changed fates change) position document

    abbrev items_then : List LayerItem
    items_then = each_changed fates change layer.items

    abbrev made : Document
    made = change_items (compacted keys values) position document

    abbrev stay : List LayerItem → List LayerItem
    stay items = staying (is_entry value_field) (values layer.items) 0 (staying (is_entry key_field) (keys layer.items) 0 items)

    there : items_at position document ≡ Some layer.items
    there = ap (option_and_then items_in) is

    there_then : items_at position half ≡ Some items_then
    there_then = (list_part (OfTheLayer position) document).found (each_changed fates change) ∙ ap (option_map (each_changed fates change)) there

    stay_made : change_items stay position half ≡ made
    stay_made =
        (list_part (OfTheLayer position) document).twice (each_changed fates change) stay
        ∙ (list_part (OfTheLayer position) document).alike (λ items. stay (each_changed fates change items)) (compacted keys values)
        (subst (λ found. IfSome found (λ items. stay (each_changed fates change items) ≡ compacted keys values items)) (sym there) refl)

    entries_come : Come (entry_steps position (gone_from (keys layer.items) (values layer.items) 0 0 items_then)) half made [] (entries_of layer)
    entries_come =
        let keys_here = keys layer.items in
        let values_here = values layer.items in
        let to = change layer.items in
        let cut = takes_entries keys_here values_here items_then (heavy_changed to layer.items holds.heavy) in
        let splices = entry_splices (gone_from keys_here values_here 0 0 items_then) in
        let done = carried (in_the_layer position) half items_then there_then splices cut.there (subst (AllByRecursion IsLayerItem) (sym cut.puts) tt) in
        let keys_gone = entries_weigh key_field keys_here 0 layer.items in
        let values_gone = entries_weigh value_field values_here 0 layer.items in
        let same_keys = ap (λ items. length (flat_map layer_item_bytes items)) (leaving_changed to key_field keys_here layer.items) in
        let same_values = ap (λ items. length (flat_map layer_item_bytes items)) (leaving_changed to value_field values_here layer.items) in
        let both = weighs_both (field_list (leaving key_field keys_here layer.items)) (field_list (leaving value_field values_here layer.items)) in
        record {
          fits = done.fits;
          makes = done.makes ∙ makes_alike (in_the_layer position) half items_then there_then stay splices cut.leaves ∙ stay_made;
          puts_so = done.puts ∙ ap (λ items. length (flat_map layer_item_bytes items)) cut.puts;
          takes_so = omega (arith, done.takes, cut.takes, same_keys, same_values, both, keys_gone, values_gone);
          few_so = omega (arith, cut.few, cut.takes, same_keys, same_values, both, keys_gone, values_gone, length-map splices (in_layer_at position));
        }

    -- the steps of the layer result in what is made of it
    pub comes : Come (compacting keys values (0, (position, layer))) document made (puts_of (position, layer)) (takes_of (position, layer))
    comes =
        let first = layer_comes fates change 0 position layer document is holds.carries in
        let same = gone_changed (keys layer.items) (values layer.items) (change layer.items) layer.items 0 0 in
        let second = subst (λ marks. Come (entry_steps position marks) half made [] (entries_of layer)) same entries_come in
        both_come (layer_steps fates (0, (position, layer))) (entry_steps position (gone_from (keys layer.items) (values layer.items) 0 0 layer.items)) document half made
        (puts_in fates change (0, (position, layer))) [] (takes_in fates change (0, (position, layer))) (entries_of layer) first second

  -- ---- what is put and taken out

  features_taken : (at : ℕ × Layer) → takes_in fates change (0, at) ≡ as_before (repointing (keys at.1.items) (values at.1.items) at.1)
  features_taken at =
      let items = at.1.items in
      of_features at.1 (λ feature. taken_all (splices_of (fates items feature.fields)) feature.fields)
      ∙ same_each _ _ (λ (feature : Feature). fields_taken 2 (new_ordinals (keys items) (values items) items feature.fields) feature.fields) (features at.1)
      ∙ sym (mapped_each (λ (feature : Feature). differing (new_ordinals (keys items) (values items) items feature.fields) feature.fields) (λ at. at.1) (features at.1))

  features_put : (at : ℕ × Layer) → puts_in fates change (0, at) ≡ as_after (repointing (keys at.1.items) (values at.1.items) at.1)
  features_put at =
      let items = at.1.items in
      of_features at.1 (λ feature. put_all (splices_of (fates items feature.fields)))
      ∙ same_each _ _ (λ (feature : Feature). fields_put 2 (new_ordinals (keys items) (values items) items feature.fields) feature.fields) (features at.1)
      ∙ sym (joined_each (λ (feature : Feature). differing (new_ordinals (keys items) (values items) items feature.fields) feature.fields) _ (features at.1))

  pub layer_takes : (at : ℕ × Layer) → weigh_fields (takes_of at) ≡ compact_takes keys values at.1
  layer_takes at =
      let items = at.1.items in
      let first = ap weigh_fields (features_taken at) in
      let both = weighs_both (takes_in fates change (0, at)) (entries_of at.1) in
      let entries = weighs_both (field_list (leaving key_field (keys items) items)) (field_list (leaving value_field (values items) items)) in
      omega (arith, first, both, entries, entries_weigh key_field (keys items) 0 items, entries_weigh value_field (values items) 0 items)

  pub layer_puts : (at : ℕ × Layer) → weigh_fields (puts_of at) ≡ compact_puts keys values at.1
  layer_puts at = omega (arith, ap weigh_fields (features_put at), weighs_both (puts_in fates change (0, at)) [])
