-- What commands weigh by their selections: one layer, one feature of it, or several layers.
use Rattle.std.proofs.Common.{◌≡◌, ℕ, zero, suc, ◌+◌, ◌≤◌, ◌==◌, Result, Option, Some, None, Ok, Err, IfOk, List, [], ◌∷◌, ◌++◌, length, length-append, map, filter, slice_get, sum_by, refl, ap, ◌∙◌, arith}
use Rattle.std.specs.List.{enumerate_from, filter_map, flat_map}
use Rattle.std.specs.Option.{option_map_or}
use Rattle.std.specs.Result.{result_map_both}
use Rattle.std.proofs.lemmas.List.Sums.{sum_by-cons}
use Rattle.mvt_document.specs.Plain.{LayerItem, Layer, TileItem, OfLayer, PlainInTile, Document}
use Rattle.mvt_document.specs.Places.{in_layer}
use Rattle.mvt_document.specs.Wire.{bytes_of, layer_item_bytes, tile_item_bytes}
use Rattle.mvt_messages.specs.Found.{found_layers, with_position}
use Rattle.mvt_messages.specs.Views.{layer_in, layers}
use Rattle.mvt_meaning.specs.Command.{LayersChoice, TheLayer, EachLayer}
use Rattle.mvt_meaning.specs.Meaning.{change_layers, change_readable, items_of, refuse_first}
use Rattle.mvt_meaning.specs.Selection.{selected, selected_layers}
use Rattle.mvt_meaning.specs.Tagging.{unreadable}
use Rattle.mvt_meaning.specs.Weights.{layers_weight, of_selected, weigh}
use Rattle.mvt_meaning.specs.declared.refusal.Refusal.{Refusal}
use Rattle.mvt_meaning.proofs.Selecting.{selected_within}
use Rattle.command_laws.proofs.Accepted.{then_given, then_so}
use Rattle.command_laws.proofs.ListWeights.{one_found}
use Rattle.command_laws.proofs.PartWeights.{items_within, made_within, message_within}

-- ---- what is selected

module _ {A : Type 0} where
  pub of_within : (found : Result A Refusal) (weight : A → ℕ) (most : ℕ) → ((x : A) → weight x ≤ most) → of_selected found weight ≤ most
  of_within (Ok x) weight most all = all x
  of_within (Err refusal) weight most all = omega arith

  pub of_less : (found : Result A Refusal) (less more : A → ℕ) → ((x : A) → less x ≤ more x) → of_selected found less ≤ of_selected found more
  of_less (Ok x) less more all = all x
  of_less (Err refusal) less more all = omega arith

-- the same in each of two selections, one by the other
pub of_both_within : {A B : Type 0} (first : Result A Refusal) (second : A → Result B Refusal) (weight : A → B → ℕ) (most : ℕ) → ((x : A) (y : B) → weight x y ≤ most) → of_selected first (λ x. of_selected (second x) (weight x)) ≤ most
of_both_within first second weight most all = of_within first (λ x. of_selected (second x) (weight x)) most (λ x. of_within (second x) (weight x) most (all x))

-- where it is known what both found
pub of_both_is : {A B : Type 0} (first : Result A Refusal) (second : A → Result B Refusal) (weight : A → B → ℕ) (x : A) (y : B) → first ≡ Ok x → second x ≡ Ok y → of_selected first (λ x. of_selected (second x) (weight x)) ≡ weight x y
of_both_is first second weight x y is also =
    ap (λ found. of_selected found (λ x. of_selected (second x) (weight x))) is ∙ ap (λ found. of_selected found (weight x)) also

-- ---- layers

module _ (weight : Layer → ℕ) where
  -- the layers from this ordinal and this position on
  abbrev layers_from : ℕ → ℕ → Document → List (ℕ × (ℕ × Layer))
  layers_from ordinal position document = enumerate_from ordinal (filter_map (with_position layer_in) (enumerate_from position document))

  -- each of them, within items that have the bytes that it weighs
  each_within : (bytes : TileItem → List ℕ) → ((layer : Layer) → weight layer ≤ length (bytes (OfLayer layer))) → (ordinal position : ℕ) (document : Document) → sum_by (λ (found : ℕ × (ℕ × Layer)). weight found.1.1) (layers_from ordinal position document) ≤ weigh bytes document
  each_within bytes less ordinal position [] = omega arith
  each_within bytes less ordinal position (OfLayer layer ∷ document) =
      let others = layers_from (ordinal + 1) (position + 1) document in
      omega (arith, less layer, each_within bytes less (ordinal + 1) (position + 1) document, length-append (bytes (OfLayer layer)) (flat_map bytes document), sum_by-cons (λ (found : ℕ × (ℕ × Layer)). weight found.1.1) (ordinal, (position, layer)) others)
  each_within bytes less ordinal position (PlainInTile field ∷ document) =
      omega (arith, each_within bytes less ordinal (position + 1) document, length-append (bytes (PlainInTile field)) (flat_map bytes document))

  placed_got : (position index : ℕ) (document : Document) → option_map_or (λ (placed : ℕ × Layer). weight placed.1) (slice_get (filter_map (with_position layer_in) (enumerate_from position document)) index) 0 ≡ option_map_or weight (slice_get (layers document) index) 0
  placed_got position index [] = refl
  placed_got position zero (OfLayer layer ∷ document) = refl
  placed_got position (suc index) (OfLayer layer ∷ document) = placed_got (position + 1) index document
  placed_got position index (PlainInTile field ∷ document) = placed_got (position + 1) index document

  -- the layers that are selected by an ordinal
  abbrev those_at : ℕ → Document → List (ℕ × (ℕ × Layer))
  those_at ordinal document = filter (λ (found : ℕ × (ℕ × Layer)). found.0 == ordinal) (found_layers document)

  module _ (change : List LayerItem → List LayerItem) (less : (layer : Layer) → weight layer ≤ weigh layer_item_bytes (change layer.items)) where
    of_found : (found : Option Layer) → option_map_or weight found 0 ≤ weigh layer_item_bytes (change (option_map_or (λ (layer : Layer). layer.items) found []))
    of_found None = omega arith
    of_found (Some layer) = less layer

    one_within : (ordinal : ℕ) (document : Document) → sum_by (λ (found : ℕ × (ℕ × Layer)). weight found.1.1) (those_at ordinal document) ≤ weigh layer_item_bytes (change (items_of ordinal document))
    one_within ordinal document =
        let one = one_found (λ (placed : ℕ × Layer). weight placed.1) ordinal 0 ordinal (filter_map (with_position layer_in) (enumerate_from 0 document)) (omega arith) in
        omega (arith, one, placed_got 0 ordinal document, of_found (slice_get (layers document) ordinal))

    mapped : (document : Document) → flat_map tile_item_bytes (map (in_layer change) document) ≡ flat_map (λ (item : TileItem). tile_item_bytes (in_layer change item)) document
    mapped [] = refl
    mapped (item ∷ document) = ap (λ rest. tile_item_bytes (in_layer change item) ++ rest) (mapped document)

    -- the selected layers, each within what it becomes
    abbrev IsWithin : LayersChoice → Document → Document → Type 0
    IsWithin choice document made = layers_weight weight choice document ≤ length (bytes_of made)

    changed_within : (choice : LayersChoice) (document : Document) → IfOk (change_layers change choice document) (IsWithin choice document)
    changed_within (TheLayer choice) document =
        then_given (IsWithin (TheLayer choice) document) (selected choice document) _ (λ ordinal is. (
        let weighs : layers_weight weight (TheLayer choice) document ≡ sum_by (λ (found : ℕ × (ℕ × Layer)). weight found.1.1) (those_at ordinal document) =
        ap (λ found. of_selected (result_map_both (λ ordinal. those_at ordinal document) (λ refusal. refusal) found) (λ list. sum_by (λ (found : ℕ × (ℕ × Layer)). weight found.1.1) list)) is in
        omega (arith, weighs, one_within ordinal document, made_within change document ordinal (selected_within choice document ordinal is))))
    changed_within EachLayer document =
        let each = each_within (λ item. tile_item_bytes (in_layer change item)) (λ layer. (
        let inside = message_within layer.tag layer.width (flat_map layer_item_bytes (change layer.items)) in
        omega (arith, less layer, inside))) 0 0 document in
        omega (arith, each, ap length (mapped document))

    -- the same where the tags of the features are read first
    pub readable_within : (choice : LayersChoice) (document : Document) → IfOk (change_readable change choice document) (IsWithin choice document)
    readable_within choice document =
        then_so (IsWithin choice document) (selected_layers choice document) _ (λ found.
        then_so (IsWithin choice document) (refuse_first (unreadable found)) _ (λ readable. changed_within choice document))

chosen_within : {A : Type 0} (found : Result ℕ Refusal) (choose : ℕ → A) (weight : A → ℕ) (most : ℕ) → ((ordinal : ℕ) → weight (choose ordinal) ≤ most) → of_selected (result_map_both choose (λ (refusal : Refusal). refusal) found) weight ≤ most
chosen_within (Ok ordinal) choose weight most all = all ordinal
chosen_within (Err refusal) choose weight most all = omega arith

-- the selected layers, each within what it is
pub layers_within : (weight : Layer → ℕ) → ((layer : Layer) → weight layer ≤ weigh layer_item_bytes layer.items) → (choice : LayersChoice) (document : Document) → layers_weight weight choice document ≤ length (bytes_of document)
layers_within weight less (TheLayer choice) document =
    chosen_within (selected choice document) (λ ordinal. those_at weight ordinal document) (λ list. sum_by (λ (found : ℕ × (ℕ × Layer)). weight found.1.1) list) (length (bytes_of document)) (λ ordinal.
    omega (arith, one_within weight (λ items. items) less ordinal document, items_within ordinal document))
layers_within weight less EachLayer document =
    each_within weight tile_item_bytes (λ layer. (
    let inside = message_within layer.tag layer.width (flat_map layer_item_bytes layer.items) in
    omega (arith, less layer, inside))) 0 0 document
