-- Laws of listings, which say nothing of what listings show.
use Rattle.std.specs.Prelude.{◌≡◌, ◌≢◌, ℕ, List, Ok, Err}
use Rattle.mvt_document.specs.Plain.{Document, Feature, Layer}
use Rattle.mvt_meaning.specs.Command.{FeatureChoice, LayerChoice}
use Rattle.mvt_meaning.specs.Selection.{selected, selected_feature}
use Rattle.mvt_meaning.specs.declared.refusal.Refusal.TheVariants.{NoMemory}
use Rattle.tile_arguments.specs.Request.{What}
use Rattle.tile_listing.specs.Listing.{chosen_feature, chosen_layer, listed}
use Rattle.tile_listing.specs.Printed.{AreLinesToPrint}

-- a listing is whole lines, and none of them is `ok` or looks like a refusal
abbrev pub ListingsAreLines : Type 0
ListingsAreLines = (what : What) (document : Document) (lines : List ℕ) → listed what document ≡ Ok lines → AreLinesToPrint lines

-- no listing is refused as out of memory by its definition
abbrev pub NoListingIsOutOfMemory : Type 0
NoListingIsOutOfMemory = (what : What) (document : Document) → listed what document ≢ Err NoMemory

-- a layer that is selected is there, so a listing of it is refused only as the selection is
abbrev pub SelectedLayerIsThere : Type 0
SelectedLayerIsThere = (choice : LayerChoice) (document : Document) (ordinal : ℕ) → selected choice document ≡ Ok ordinal → (layer : Layer) × (chosen_layer choice document ≡ Ok (ordinal, layer))

-- a feature that is selected is there, so a listing of it is refused only as the selection is
abbrev pub SelectedFeatureIsThere : Type 0
SelectedFeatureIsThere = (choice : FeatureChoice) (layer : Layer) (ordinal : ℕ) → selected_feature choice layer ≡ Ok ordinal → (feature : Feature) × (chosen_feature choice layer ≡ Ok (ordinal, feature))
