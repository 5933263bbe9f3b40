-- What is found is what is listed.
use Rattle.std.proofs.Common.{◌≡◌, Result, Ok, Err, refl}
use Rattle.std.specs.Result.{IfErr, IfOk}
use Rattle.mvt_document.specs.Plain as plain
use Rattle.mvt_document.specs.Stands.{layer_of}
use Rattle.mvt_meaning.specs.Command.{FeatureChoice, LayerChoice}
use Rattle.mvt_messages.specs.Views.{feature_in}
use Rattle.mvt_layers.specs.declared.found.FoundFeature.{FoundFeature}
use Rattle.mvt_layers.specs.declared.found.FoundLayer.{FoundLayer}
use Rattle.mvt_meaning.specs.Selection.{selected, selected_feature}
use Rattle.mvt_meaning.specs.declared.refusal.Refusal.{Refusal}
use Rattle.mvt_meaning.proofs.Found.{layer_found as layer_at_place, picked_found}
use Rattle.mvt_select.specs.Found.{IsFoundFeature, IsFoundLayer}
use Rattle.std.proofs.Common.{ap, ◌∙◌}
use Rattle.std.specs.Option.{option_and_then}
use Rattle.tile_listing.specs.Listing.{chosen_feature, chosen_layer}
use Rattle.tile_listing.specs.ListingStands.{feature_found, layer_found}

pub layer_chosen : (choice : LayerChoice) (document : plain.Document) (answer : Result FoundLayer Refusal) → IfOk answer (IsFoundLayer choice document) → IfErr answer (λ refusal. selected choice document ≡ Err refusal) → layer_found answer ≡ chosen_layer choice document
layer_chosen choice document (Ok found) is refused =
    let there = layer_at_place document found.ordinal found.position (layer_of found.layer.now) is.placed is.there in
    rw (is.selects, there) refl
layer_chosen choice document (Err refusal) is refused = rw refused refl

pub feature_chosen : (choice : FeatureChoice) (layer : plain.Layer) (answer : Result FoundFeature Refusal) → IfOk answer (IsFoundFeature choice layer) → IfErr answer (λ refusal. selected_feature choice layer ≡ Err refusal) → feature_found answer ≡ chosen_feature choice layer
feature_chosen choice layer (Ok found) is refused =
    let there = picked_found feature_in layer.items found.ordinal found.position is.placed ∙ ap (option_and_then feature_in) is.there in
    rw (is.selects, there) refl
feature_chosen choice layer (Err refusal) is refused = rw refused refl
