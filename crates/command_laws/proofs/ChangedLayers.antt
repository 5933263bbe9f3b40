-- The selected layers, changed.
use Rattle.std.proofs.Common.{◌≡◌, ℕ, zero, suc, ◌+◌, Option, Some, Ok, List, [], ◌∷◌, map, slice_get, refl, sym, ap, ◌∙◌, subst}
use Rattle.mvt_document.specs.Plain.{Layer, LayerItem, OfLayer, PlainInTile, Document}
use Rattle.mvt_document.specs.Places.{in_layer}
use Rattle.mvt_meaning.specs.Command.{LayerChoice, LayersChoice, TheLayer, EachLayer}
use Rattle.mvt_messages.specs.Views.{layer_in, layers}
use Rattle.mvt_meaning.specs.Selection.{is_layer, selected}
use Rattle.mvt_meaning.specs.Meaning.{change_layer, change_layers}
use Rattle.mvt_meaning.proofs.Positions.{positions_from, positions_pass, positions_skip}
use Rattle.mvt_meaning.proofs.Selecting.{selected_within}
use Rattle.command_laws.specs.Kept.{tile_fields}
use Rattle.command_laws.proofs.Accepted.{accepted}
use Rattle.command_laws.proofs.Around.{around}
use Rattle.command_laws.proofs.Parts.{layer_differs, with_items}
use Rattle.command_laws.specs.ChangedLayers.{Becomes, ChangesLayers, IsSelected}

-- ---- one layer

one_selected : (choice : LayerChoice) (document : Document) (ordinal other : ℕ) → selected choice document ≡ Ok ordinal → selected choice document ≡ Ok other → other ≡ ordinal
one_selected choice document ordinal other selects is = let both = sym is ∙ selects in cc

pub some_same : {A : Type 0} (x y : A) (o : Option A) → o ≡ Some x → o ≡ Some y → x ≡ y
some_same x y o is is_too = let both = sym is ∙ is_too in cc

-- what is got from a list in which each item is changed
pub got_mapped : {A B : Type 0} (f : A → B) (list : List A) (n : ℕ) (x : A) → slice_get list n ≡ Some x → slice_get (map f list) n ≡ Some (f x)
got_mapped f [] n x is = absurd cc
got_mapped f (y ∷ list) zero x is = let same : y ≡ x = cc in ap (λ item. Some (f item)) same
got_mapped f (y ∷ list) (suc n) x is = got_mapped f list n x is

module _ (way : Layer → Layer → Type 0) (change : List LayerItem → List LayerItem) where
  becomes : (layer : Layer) → way layer (with_items change layer) → Becomes way layer (with_items change layer)
  becomes layer changed = record { tag = refl; width = refl; changed = changed }

  one_changes : (choice : LayerChoice) (document : Document) (ordinal : ℕ) → selected choice document ≡ Ok ordinal → ((layer : Layer) → slice_get (layers document) ordinal ≡ Some layer → way layer (with_items change layer)) → ChangesLayers (TheLayer choice) way document (change_layer change ordinal document)
  one_changes choice document ordinal selects changed =
      let a = around layer_in document ordinal (selected_within choice document ordinal selects) in
      let d = layer_differs change ordinal document a in
      record {
        selects = λ other former is was.
            let same = one_selected choice document ordinal other selects is in
            let here = ap (slice_get (layers document)) (sym same) ∙ was in
            let layer = some_same a.value former (slice_get (layers document) ordinal) d.was here in
            (with_items change former, ap (slice_get (layers (change_layer change ordinal document))) same ∙ d.is ∙ ap (λ (l : Layer). Some (with_items change l)) layer, becomes former (changed former here));
        others = λ other apart. d.others other (λ same. apart (selects ∙ ap Ok (sym same)));
        fields = d.fields;
        positions = d.positions;
      }

  -- ---- each layer

  layers_mapped : (document : Document) → layers (map (in_layer change) document) ≡ map (with_items change) (layers document)
  layers_mapped [] = refl
  layers_mapped (OfLayer layer ∷ document) = ap (λ rest. with_items change layer ∷ rest) (layers_mapped document)
  layers_mapped (PlainInTile field ∷ document) = layers_mapped document

  fields_mapped : (document : Document) → tile_fields (map (in_layer change) document) ≡ tile_fields document
  fields_mapped [] = refl
  fields_mapped (OfLayer layer ∷ document) = fields_mapped document
  fields_mapped (PlainInTile field ∷ document) = ap (λ rest. field ∷ rest) (fields_mapped document)

  positions_mapped : (n : ℕ) (document : Document) → positions_from is_layer n (map (in_layer change) document) ≡ positions_from is_layer n document
  positions_mapped n [] = refl
  positions_mapped n (OfLayer layer ∷ document) =
      positions_pass is_layer n (in_layer change (OfLayer layer)) (map (in_layer change) document) refl
      ∙ ap (λ rest. n ∷ rest) (positions_mapped (n + 1) document)
      ∙ sym (positions_pass is_layer n (OfLayer layer) document refl)
  positions_mapped n (PlainInTile field ∷ document) =
      positions_skip is_layer n (PlainInTile field) (map (in_layer change) document) refl
      ∙ positions_mapped (n + 1) document
      ∙ sym (positions_skip is_layer n (PlainInTile field) document refl)

  each_changes : (document : Document) → ((ordinal : ℕ) (layer : Layer) → slice_get (layers document) ordinal ≡ Some layer → way layer (with_items change layer)) → ChangesLayers EachLayer way document (map (in_layer change) document)
  each_changes document changed = record {
    selects = λ ordinal former is was. (with_items change former, ap (λ list. slice_get list ordinal) (layers_mapped document) ∙ got_mapped (with_items change) (layers document) ordinal former was, becomes former (changed ordinal former was));
    others = λ ordinal apart. absurd (apart tt);
    fields = fields_mapped document;
    positions = positions_mapped 0 document;
  }

  -- what an accepted change of the selected layers makes
  pub layers_change : (choice : LayersChoice) (old new : Document) → change_layers change choice old ≡ Ok new → ((ordinal : ℕ) (layer : Layer) → IsSelected choice ordinal old → slice_get (layers old) ordinal ≡ Some layer → way layer (with_items change layer)) → ChangesLayers choice way old new
  layers_change (TheLayer choice) old new is changed =
      let selects = accepted (selected choice old) (λ ordinal. Ok (change_layer change ordinal old)) new is in
      let made : change_layer change selects.0 old ≡ new = let same = selects.2 in cc in
      subst (ChangesLayers (TheLayer choice) way old) made (one_changes choice old selects.0 selects.1 (λ layer there. changed selects.0 layer selects.1 there))
  layers_change EachLayer old new is changed =
      let made : map (in_layer change) old ≡ new = cc in
      subst (ChangesLayers EachLayer way old) made (each_changes old (λ ordinal layer there. changed ordinal layer tt there))
