-- The layer that is selected is in the tile, and the feature in its layer.
use Rattle.std.proofs.Common.{◌≡◌, ℕ, ◌<◌, Some, Ok, List, [], ◌∷◌, length, slice_get, ap, arith}
use Rattle.std.proofs.lemmas.Bool.Decides.{nat_tests}
use Rattle.mvt_document.specs.Plain.{Layer, Document}
use Rattle.mvt_meaning.specs.Command.{LayerChoice, AtOrdinal, Named, FeatureChoice, FeatureAtOrdinal, WithId}
use Rattle.mvt_messages.specs.Views.{features, has_id, is_named, layers, ordinals_of, the_one}
use Rattle.mvt_meaning.specs.Selection.{is_layer, layer_positions, selected, selected_feature}
use Rattle.mvt_meaning.specs.declared.refusal.Refusal.TheVariants.{AmbiguousFeature, AmbiguousLayer, NoFeature, NoLayer}
use Rattle.mvt_meaning.proofs.Positions.{positions_within}

pub the_one_first : {A E : Type 0} (none several : E) (list : List A) (one : A) → the_one none several list ≡ Ok one → slice_get list 0 ≡ Some one
the_one_first none several [] one e = absurd cc
the_one_first none several (x ∷ []) one e = let same : x ≡ one = cc in ap (λ y. Some y) same
the_one_first none several (x ∷ y ∷ more) one e = absurd cc

pub selected_within : (choice : LayerChoice) (document : Document) (ordinal : ℕ) → selected choice document ≡ Ok ordinal → ordinal < length (layers document)
selected_within (AtOrdinal n) document ordinal e = grind (arith, nat_tests)
selected_within (Named name) document ordinal e =
    let first = the_one_first NoLayer AmbiguousLayer (ordinals_of (is_named name) (layers document)) ordinal e in
    let bounds = positions_within (is_named name) 0 (layers document) 0 ordinal first in
    omega arith

pub selected_feature_within : (choice : FeatureChoice) (layer : Layer) (ordinal : ℕ) → selected_feature choice layer ≡ Ok ordinal → ordinal < length (features layer)
selected_feature_within (FeatureAtOrdinal n) layer ordinal e = grind (arith, nat_tests)
selected_feature_within (WithId id) layer ordinal e =
    let first = the_one_first NoFeature AmbiguousFeature (ordinals_of (has_id id) (features layer)) ordinal e in
    let bounds = positions_within (has_id id) 0 (features layer) 0 ordinal first in
    omega arith

pub position_within : (document : Document) (ordinal position : ℕ) → slice_get (layer_positions document) ordinal ≡ Some position → position < length document
position_within document ordinal position e = let bounds = positions_within is_layer 0 document ordinal position e in omega arith
