-- The pairs of a key are removed from each feature.
use Rattle.std.proofs.Common.{◌≡◌, ℕ, Ok, List, [], ◌∷◌, length, map, sym, ap, ◌∙◌, arith}
use Rattle.std.specs.List.{AllByRecursion, flat_map}
use Rattle.mvt_document.specs.Plain as plain
use Rattle.mvt_document.specs.Stands.{document_of, field_of, layer_item_of, tile_item_of}
use Rattle.mvt_document.specs.Wire.{field_bytes}
use Rattle.mvt_document.specs.declared.document.Document.{Document}
use Rattle.mvt_document.specs.declared.field.FieldParts.{FieldParts as Field}
use Rattle.mvt_document.specs.declared.document.LayerItem.{LayerItem}
use Rattle.mvt_document.specs.declared.document.LayerItem.TheVariants as in_layer
use Rattle.mvt_document.specs.declared.document.TileItem.{TileItem}
use Rattle.mvt_document.specs.declared.document.TileItem.TheVariants as in_tile
use Rattle.mvt_document.proofs.Lists.{same_each}
use Rattle.mvt_messages.specs.Views.{features}
use Rattle.mvt_change.specs.Changes.{Change}
use Rattle.mvt_meaning.specs.Command.{LayersChoice, Exclude}
use Rattle.mvt_meaning.specs.Selection.{selected_layers}
use Rattle.mvt_meaning.specs.Tagging.{losing, losing_in, removals, unreadable, without_attribute}
use Rattle.mvt_meaning.specs.Weights.{as_after, as_before}
use Rattle.mvt_meaning.proofs.Removals.{removals_short}
use Rattle.mvt_edit_steps.specs.Fates.{splices_of}
use Rattle.mvt_edit_steps.specs.Prepared.{IsPrepared}
use Rattle.mvt_edit_steps.proofs.CarriedOut.{put_all, taken_all}
use Rattle.mvt_edit_steps.proofs.EachFeature.{joined_each, mapped_each, of_features}
use Rattle.mvt_edit_steps.proofs.FieldsLeft.{fields_left, fields_put, fields_taken}
use Rattle.mvt_edit_steps.specs.EachFeature.{layer_steps}
use Rattle.mvt_edit_attributes.specs.EachFeature.{pairs_go}
use Rattle.mvt_edit_steps.proofs.Come.{Carries, CarriesIn, puts_in, takes_in}
use Rattle.mvt_edit_attributes.proofs.EachFeature.{CarriesInTile, layers_made}

module _ (key : List ℕ) where
  -- ---- the fields of each feature

  pairs_carry : (items : List plain.LayerItem) (fields : List Field) → Carries (pairs_go key items) (without_attribute key items) (map field_of fields)
  pairs_carry items fields =
      let left = fields_left 2 (removals key items (map field_of fields)) fields (removals_short key items (map field_of fields)) in
      let few = left.few in
      record {
        there = left.there;
        valid = left.valid;
        leaves = left.leaves;
        few = omega (arith, few, ap (λ taken. length (flat_map field_bytes taken)) left.takes);
      }

  items_carry : (all : List plain.LayerItem) (items : List LayerItem) → AllByRecursion (CarriesIn (pairs_go key all) (without_attribute key all)) (map layer_item_of items)
  items_carry all [] = tt
  items_carry all (in_layer.Feature feature ∷ items) = (pairs_carry all feature.fields.items, items_carry all items)
  items_carry all (in_layer.Plain field ∷ items) = (tt, items_carry all items)

  layers_carry : (items : List TileItem) → AllByRecursion (CarriesInTile (pairs_go key) (without_attribute key)) (map tile_item_of items)
  layers_carry [] = tt
  layers_carry (in_tile.Layer layer ∷ items) = (items_carry (map layer_item_of layer.items.items) layer.items.items, layers_carry items)
  layers_carry (in_tile.Plain field ∷ items) = (tt, layers_carry items)

  -- ---- what goes from all features, and what comes

  abbrev put : ℕ × (ℕ × plain.Layer) → List plain.Field
  put found = puts_in (pairs_go key) (without_attribute key) found

  abbrev taken : ℕ × (ℕ × plain.Layer) → List plain.Field
  taken found = takes_in (pairs_go key) (without_attribute key) found

  taken_in : (at : ℕ × (ℕ × plain.Layer)) → taken at ≡ as_before (losing_in key at.1.1)
  taken_in at =
      let items = at.1.1.items in
      of_features at.1.1 (λ feature. taken_all (splices_of (pairs_go key items feature.fields)) feature.fields)
      ∙ same_each _ _ (λ (feature : plain.Feature). fields_taken 2 (removals key items feature.fields) feature.fields) (features at.1.1)
      ∙ sym (mapped_each (λ (feature : plain.Feature). losing key items feature.fields) (λ at. at.1) (features at.1.1))

  put_in : (at : ℕ × (ℕ × plain.Layer)) → put at ≡ as_after (losing_in key at.1.1)
  put_in at =
      let items = at.1.1.items in
      of_features at.1.1 (λ feature. put_all (splices_of (pairs_go key items feature.fields)))
      ∙ same_each _ _ (λ (feature : plain.Feature). fields_put 2 (removals key items feature.fields) feature.fields) (features at.1.1)
      ∙ sym (joined_each (λ (feature : plain.Feature). losing key items feature.fields) _ (features at.1.1))

  all_taken : (found : List (ℕ × (ℕ × plain.Layer))) → flat_map taken found ≡ as_before (flat_map (λ at. losing_in key at.1.1) found)
  all_taken found = same_each taken _ taken_in found ∙ sym (mapped_each (λ (at : ℕ × (ℕ × plain.Layer)). losing_in key at.1.1) (λ at. at.1) found)

  all_put : (found : List (ℕ × (ℕ × plain.Layer))) → flat_map put found ≡ as_after (flat_map (λ at. losing_in key at.1.1) found)
  all_put found = same_each put _ put_in found ∙ sym (joined_each (λ (at : ℕ × (ℕ × plain.Layer)). losing_in key at.1.1) _ found)

  -- ---- the command

  pub excludes : (choice : LayersChoice) (document : Document) (found : List (ℕ × (ℕ × plain.Layer))) (change : Change) → selected_layers choice (document_of document) ≡ Ok found → unreadable found ≡ [] → change ≡ flat_map (layer_steps (pairs_go key)) found → IsPrepared (Exclude choice key) (document_of document) change
  excludes choice document found change selects readable steps =
      let made = layers_made (pairs_go key) (without_attribute key) choice (document_of document) found selects (layers_carry document.items.items) in
      let come = made.come in
      let weight_of = λ (fields : List plain.Field). length (flat_map field_bytes fields) in
      let puts = come.puts_so ∙ ap weight_of (all_put found) in
      let takes = come.takes_so ∙ ap weight_of (all_taken found) in
      rw steps (record {
        fits = come.fits;
        means = rw (selects, readable) (made.means ∙ ap Ok (sym come.makes));
        puts = rw selects (omega (arith, puts));
        takes = rw selects (omega (arith, takes));
        steps = rw selects (omega (arith, come.few_so, come.takes_so, come.puts_so, takes, puts));
        one = λ is. absurd cc;
      })
