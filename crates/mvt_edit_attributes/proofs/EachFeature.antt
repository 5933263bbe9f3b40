-- The selected layers, with each of their features changed.
use Rattle.std.proofs.Common.{◌≡◌, ℕ, Ok, Err, List}
use Rattle.std.specs.List.{AllByRecursion}
use Rattle.mvt_document.specs.Plain.{Field, Layer, LayerItem, TileItem, Document}
use Rattle.mvt_meaning.specs.Command.{LayersChoice}
use Rattle.mvt_meaning.specs.Meaning.{change_layers}
use Rattle.mvt_meaning.specs.Selection.{selected_layers}
use Rattle.mvt_meaning.specs.declared.refusal.Refusal.{Refusal}
use Rattle.mvt_renumber.specs.declared.fate.Fate.{Fate}
use Rattle.mvt_edit_steps.specs.EachFeature.{layer_steps}
use Rattle.mvt_edit_steps.proofs.Come.{CarriesEach, each_changed, layer_comes, puts_in, takes_in}
use Rattle.mvt_edit_steps.proofs.EachLayer as each_layer
use Rattle.mvt_edit_steps.proofs.EachLayer.{InTile, Made}

module _ (fates : List LayerItem → List Field → List (Fate Field)) (change : List LayerItem → List Field → List Field) where
  -- the features of the item can be changed in this way, if it is a layer
  abbrev pub CarriesInTile : TileItem → Type 0
  CarriesInTile item = InTile (CarriesEach fates change) item

  pub layers_made : (choice : LayersChoice) (document : Document) (found : List (ℕ × (ℕ × Layer))) → selected_layers choice document ≡ Ok found → AllByRecursion CarriesInTile document
      → Made (λ at. layer_steps fates (0, at)) (each_changed fates change) (λ at. puts_in fates change (0, at)) (λ at. takes_in fates change (0, at)) (CarriesEach fates change) choice document found
  layers_made choice document found is all =
      each_layer.layers_made (λ at. layer_steps fates (0, at)) (each_changed fates change) (λ at. puts_in fates change (0, at)) (λ at. takes_in fates change (0, at)) (CarriesEach fates change)
      (λ position layer tile there carry. layer_comes fates change 0 position layer tile there carry) choice document found is all

  -- if no layer is selected, the change is refused
  pub none_made : (choice : LayersChoice) (document : Document) (refusal : Refusal) → selected_layers choice document ≡ Err refusal → change_layers (each_changed fates change) choice document ≡ Err refusal
  none_made choice document refusal is = each_layer.none_made (each_changed fates change) choice document refusal is
