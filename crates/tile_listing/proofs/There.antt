-- What is selected is there.
use Rattle.std.proofs.Common.{◌≡◌, ℕ, zero, suc, ◌<◌, List, [], ◌∷◌, length, Some, Result, Ok, refl, ap, arith}
use Rattle.std.specs.Prelude.{slice_get}
use Rattle.std.proofs.lemmas.Bool.Decides.{nat_tests}
use Rattle.mvt_document.specs.Plain.{Layer}
use Rattle.mvt_meaning.specs.Command.{FeatureChoice, FeatureAtOrdinal, WithId}
use Rattle.mvt_messages.specs.Views.{features, has_id, layers, ordinals_of, the_one}
use Rattle.mvt_meaning.specs.Meaning.{◌>>=◌}
use Rattle.mvt_meaning.specs.Selection.{selected, selected_feature}
use Rattle.mvt_meaning.specs.declared.refusal.Refusal.{Refusal}
use Rattle.mvt_meaning.specs.declared.refusal.Refusal.TheVariants.{NoFeature, AmbiguousFeature, NoLayer}
use Rattle.mvt_meaning.proofs.Positions.{positions_within}
use Rattle.mvt_meaning.proofs.Selecting.{selected_within, selected_feature_within}
use Rattle.tile_listing.specs.Listing.{with_ordinal}
use Rattle.tile_listing.specs.Laws.{SelectedFeatureIsThere, SelectedLayerIsThere}

item_at : {A : Type 0} (items : List A) (i : ℕ) → i < length items → (x : A) × (slice_get items i ≡ Some x)
item_at [] i lt = absurd (omega arith)
item_at (x ∷ items) zero lt = (x, refl)
item_at (x ∷ items) (suc i) lt = item_at items i (omega arith)

found_at : {A : Type 0} (none : Refusal) (items : List A) (i : ℕ) (found : Result ℕ Refusal) → found ≡ Ok i → i < length items → (x : A) × ((found >>= with_ordinal none items) ≡ Ok (i, x))
found_at none items i found e lt = let at = item_at items i lt in (at.0, rw (e, at.1) refl)

pub layer_is_there : SelectedLayerIsThere
layer_is_there choice document ordinal e = found_at NoLayer (layers document) ordinal (selected choice document) e (selected_within choice document ordinal e)

pub feature_is_there : SelectedFeatureIsThere
feature_is_there choice layer ordinal e = found_at NoFeature (features layer) ordinal (selected_feature choice layer) e (selected_feature_within choice layer ordinal e)
