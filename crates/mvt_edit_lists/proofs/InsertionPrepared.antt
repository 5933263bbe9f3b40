-- The insertion of a feature that carries out a command.
use Rattle.std.proofs.Common.{◌≡◌, ℕ, ◌<◌, ◌≤◌, nat_lt, true, false, Some, Ok, Err, [], ◌∷◌, length, slice_get, refl, sym, ap, ◌∙◌, ◌⊎◌, inl, inr, subst, arith}
use Rattle.std.proofs.lemmas.Bool.{le-ltb, lt-ltb, false_from_ne_true}
use Rattle.std.proofs.lemmas.List.{append-nil}
use Rattle.std.specs.List.{flat_map}
use Rattle.mvt_document.specs.declared.TheConstants.{MAX_FILE}
use Rattle.mvt_document.specs.Plain.{Layer, OfLayer, Document}
use Rattle.mvt_document.specs.Opens.{IsLayerItem}
use Rattle.mvt_document.specs.Splicing.{part}
use Rattle.mvt_document.specs.Wire.{bytes_of, layer_item_bytes}
use Rattle.mvt_geometry.specs.Shapes.{Geometry}
use Rattle.mvt_geometry.specs.Checks.{is_in_range}
use Rattle.mvt_geometry.specs.Integers.{IsInRange}
use Rattle.mvt_geometry.proofs.Checks.{in_range-Decides}
use Rattle.mvt_geometry.specs.declared.EncodeError.{EncodeError}
use Rattle.mvt_geometry.specs.declared.EncodeError.TheVariants as encode_errors
use Rattle.mvt_messages.specs.Views.{features_in}
use Rattle.mvt_document.specs.Lists.{CanSplice}
use Rattle.mvt_document.specs.Places.{change_items}
use Rattle.mvt_change.specs.Changes.{FitsStep, LayerStep, go_step}
use Rattle.mvt_meaning.specs.Command.{InsertFeature, LayerChoice}
use Rattle.mvt_meaning.specs.Meaning.{applied, feature_count, geometry_refusal, new_feature, within_limit}
use Rattle.mvt_meaning.specs.Memory.{AsksForMemory}
use Rattle.mvt_meaning.specs.Ordinals.{insert_nth}
use Rattle.mvt_meaning.specs.Selection.{is_feature, layer_positions, selected}
use Rattle.mvt_meaning.specs.declared.refusal.Refusal.TheVariants.{BadPlace, NoMemory, OutOfRange, TooLarge}
use Rattle.mvt_meaning.proofs.NewFields.{new_feature_valid}
use Rattle.mvt_meaning.proofs.Found.{change_layer_found, items_at_found}
use Rattle.mvt_edit_lists.specs.Placing.{IsPlaceFor}
use Rattle.mvt_edit_steps.specs.Prepared.{IsPrepared}
use Rattle.mvt_edit_lists.proofs.MovesPrepared.{count_features, feature_count_found}
use Rattle.mvt_edit_steps.proofs.Limits.{limit_kept, limit_passed}
use Rattle.mvt_edit_steps.proofs.OneStep.{Carries, carries_in_layer, prepared_by_one}

module _ (choice : LayerChoice) (index ordinal position : ℕ) (geometry : Geometry) (document : Document) (layer : Layer) (chosen : selected choice document ≡ Ok ordinal) (placed : slice_get (layer_positions document) ordinal ≡ Some position) (there : slice_get document position ≡ Some (OfLayer layer)) where
  pub insertion_past : length (features_in layer.items) < index → applied (InsertFeature choice index geometry) document ≡ Err BadPlace
  insertion_past few =
      let outside : nat_lt (feature_count ordinal document) index ≡ true = lt-ltb (feature_count ordinal document) index (omega (arith, few, feature_count_found choice ordinal position document layer chosen placed there)) in
      rw (chosen, outside) refl

  module _ (place : ℕ) (is_place : IsPlaceFor is_feature index layer.items place) where
    inside : nat_lt (feature_count ordinal document) index ≡ false
    inside =
        le-ltb (feature_count ordinal document) index (omega (arith, is_place.few, count_features layer.items, feature_count_found choice ordinal position document layer chosen placed there))

    -- where the place is there, the command asks for memory
    pub insertion_asks : AsksForMemory (InsertFeature choice index geometry) document
    insertion_asks = rw (chosen, inside) refl

    pub insertion_out_of_range : ¬ IsInRange geometry → applied (InsertFeature choice index geometry) document ≡ Err OutOfRange
    insertion_out_of_range far =
        let outside : is_in_range geometry ≡ false = false_from_ne_true (is_in_range geometry) (λ short. far ((in_range-Decides geometry).0 short)) in
        rw (chosen, inside, outside) refl

    -- because memory ran out, or because it is out of range
    pub insertion_refused : (error : EncodeError) → (error ≡ encode_errors.OutOfRange → ¬ IsInRange geometry) → ((geometry_refusal error ≡ NoMemory) × AsksForMemory (InsertFeature choice index geometry) document) ⊎ (applied (InsertFeature choice index geometry) document ≡ Err (geometry_refusal error))
    insertion_refused encode_errors.OutOfRange far = inr (insertion_out_of_range (far refl))
    insertion_refused encode_errors.NoMemory far = inl (refl, insertion_asks)

    can : CanSplice IsLayerItem place 0 (new_feature geometry ∷ []) layer.items
    can = record { within = omega (arith, is_place.within); valid_put = (new_feature_valid geometry, tt) }

    carried : Carries (LayerStep position place 0 (new_feature geometry ∷ [])) document (change_items (insert_nth is_feature index (new_feature geometry)) position document) (length (flat_map layer_item_bytes (new_feature geometry ∷ []))) (length (flat_map layer_item_bytes (part place 0 layer.items)))
    carried = carries_in_layer document position layer (insert_nth is_feature index (new_feature geometry)) place 0 (new_feature geometry ∷ []) (items_at_found document ordinal position layer placed there) there can (sym (is_place.inserts (new_feature geometry)))

    pub insertion_fits : FitsStep (LayerStep position place 0 (new_feature geometry ∷ [])) document
    insertion_fits = carried.fits

    module _ (in_range : IsInRange geometry) where
      limited : applied (InsertFeature choice index geometry) document ≡ within_limit (change_items (insert_nth is_feature index (new_feature geometry)) position document)
      limited =
          let short : is_in_range geometry ≡ true = (in_range-Decides geometry).1 in_range in
          rw (chosen, inside, short) (ap within_limit (change_layer_found document ordinal position layer placed there (insert_nth is_feature index (new_feature geometry))))

      pub insertion_too_large : MAX_FILE < length (bytes_of (go_step (LayerStep position place 0 (new_feature geometry ∷ [])) document)) → applied (InsertFeature choice index geometry) document ≡ Err TooLarge
      insertion_too_large large = limited ∙ limit_passed (change_items (insert_nth is_feature index (new_feature geometry)) position document) (subst (λ d. MAX_FILE < length (bytes_of d)) carried.makes large)

      pub insertion_prepared : length (bytes_of (go_step (LayerStep position place 0 (new_feature geometry ∷ [])) document)) ≤ MAX_FILE → IsPrepared (InsertFeature choice index geometry) document (LayerStep position place 0 (new_feature geometry ∷ []) ∷ [])
      insertion_prepared small =
          let made = change_items (insert_nth is_feature index (new_feature geometry)) position document in
          prepared_by_one (InsertFeature choice index geometry) document made (LayerStep position place 0 (new_feature geometry ∷ [])) (length (flat_map layer_item_bytes (new_feature geometry ∷ []))) (length (flat_map layer_item_bytes (part place 0 layer.items))) carried
          (limited ∙ limit_kept made (subst (λ d. length (bytes_of d) ≤ MAX_FILE) carried.makes small))
          (omega (arith, ap length (append-nil (layer_item_bytes (new_feature geometry)))))
          (omega arith)
