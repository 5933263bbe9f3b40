-- What the steps that give a feature another geometry result in.
use Rattle.std.proofs.Common.{◌≡◌, ℕ, ◌+◌, ◌-◌, ◌*◌, ◌≤◌, true, false, Some, Ok, Err, List, [], ◌∷◌, ◌++◌, length, map, filter, nat_lt, option_map, slice_get, append-nil, refl, sym, ap, ◌∙◌, subst, ◌⊎◌, inl, inr, arith}
use Rattle.std.proofs.lemmas.Bool.{false_from_ne_true}
use Rattle.std.proofs.lemmas.List.{length-map}
use Rattle.std.specs.List.{AllByRecursion, flat_map}
use Rattle.std.specs.Result.{result_unwrap_or}
use Rattle.mvt_document.specs.declared.TheConstants.{MAX_FILE}
use Rattle.mvt_document.specs.Opens.{IsField}
use Rattle.mvt_document.specs.Places.{change_fields, fields_at}
use Rattle.mvt_document.specs.Plain.{Feature, Field, Layer, OfFeature, OfLayer, Document}
use Rattle.mvt_document.specs.Splicing.{part}
use Rattle.mvt_document.specs.Wire.{bytes_of, field_bytes}
use Rattle.mvt_geometry.specs.Checks.{is_in_range}
use Rattle.mvt_geometry.specs.Integers.{IsInRange, encoded}
use Rattle.mvt_geometry.specs.Shapes.{Geometry, kind_number}
use Rattle.mvt_geometry.specs.declared.EncodeError.{EncodeError}
use Rattle.mvt_geometry.specs.declared.EncodeError.TheVariants as encode_errors
use Rattle.mvt_geometry.proofs.Checks.{in_range-Decides}
use Rattle.mvt_change.specs.Changes.{Change, FeatureStep}
use Rattle.mvt_change.proofs.Splicing.{length-splice}
use Rattle.mvt_meaning.specs.Command.{FeatureChoice, LayerChoice, SetGeometry}
use Rattle.mvt_meaning.specs.Fields.{new_content}
use Rattle.mvt_meaning.specs.Geometries.{is_geometry_field, is_kind, with_geometry, with_kind}
use Rattle.mvt_meaning.specs.Meaning.{after, applied, change_feature, fields_of, geometry_refusal, within_limit}
use Rattle.mvt_meaning.specs.Memory.{AsksForMemory}
use Rattle.mvt_meaning.specs.Ordinals.{put_once}
use Rattle.mvt_meaning.specs.Selection.{feature_positions, layer_positions, selected, selected_feature, selected_in}
use Rattle.mvt_meaning.specs.Weights.{geometry_weight, of_selected, put_by, taken_by, weigh, weigh_last}
use Rattle.mvt_meaning.specs.declared.refusal.Refusal.{Refusal}
use Rattle.mvt_meaning.specs.declared.refusal.Refusal.TheVariants.{NoMemory, OutOfRange, TooLarge}
use Rattle.mvt_meaning.proofs.Asking.{finds_feature}
use Rattle.mvt_meaning.proofs.Found.{change_feature_found, fields_at_found, fields_changed, fields_of_found, selected_in_found}
use Rattle.mvt_edit_steps.specs.Fates.{Splice}
use Rattle.mvt_edit_steps.specs.Once.{once_splices}
use Rattle.mvt_edit_steps.specs.Prepared.{IsPrepared}
use Rattle.mvt_edit_steps.specs.PutsLast.{ReplacesLast}
use Rattle.mvt_edit_steps.proofs.Carrying.{carried, in_feature_at, in_the_feature, makes_alike}
use Rattle.mvt_edit_steps.proofs.Leading.{Leads, both_lead}
use Rattle.mvt_edit_steps.proofs.Once.{puts_once}
use Rattle.mvt_edit_geometry.proofs.Redrawn.{drawing_long, drawing_valid, drawn_kinds, kinded_drawings, kinded_splices, one_drawing}

-- the bytes of the last kind field and of all geometry fields
abbrev drawing_weight : List Field → ℕ
drawing_weight fields = weigh_last field_bytes is_kind fields + weigh field_bytes (filter is_geometry_field fields)

module _ (choice : LayerChoice) (geometry : Geometry) (document : Document) (ordinal position : ℕ) (layer : Layer) (chosen : selected choice document ≡ Ok ordinal) (placed : slice_get (layer_positions document) ordinal ≡ Some position) (there : slice_get document position ≡ Some (OfLayer layer)) where
  -- where no feature is selected
  pub no_feature_drawn : (feature : FeatureChoice) (refusal : Refusal) → selected_feature feature layer ≡ Err refusal → applied (SetGeometry choice feature geometry) document ≡ Err refusal
  no_feature_drawn feature refusal refused =
      let none = selected_in_found document ordinal position layer placed there feature ∙ refused in
      rw (chosen, none) refl

  module _ (feature : FeatureChoice) (selects item : ℕ) (found : Feature) (selected_there : selected_feature feature layer ≡ Ok selects) (feature_placed : slice_get (feature_positions layer.items) selects ≡ Some item) (feature_there : slice_get layer.items item ≡ Some (OfFeature found)) where
    selected_here : selected_in feature ordinal document ≡ Ok selects
    selected_here = selected_in_found document ordinal position layer placed there feature ∙ selected_there

    -- where the geometry has no bytes: because memory ran out, or because it is out of range
    far_refused : ¬ IsInRange geometry → applied (SetGeometry choice feature geometry) document ≡ Err OutOfRange
    far_refused far =
        let outside : is_in_range geometry ≡ false = false_from_ne_true (is_in_range geometry) (λ short. far ((in_range-Decides geometry).0 short)) in
        rw (chosen, selected_here, outside) refl

    pub drawing_refused : (error : EncodeError) → (error ≡ encode_errors.OutOfRange → ¬ IsInRange geometry) → ((geometry_refusal error ≡ NoMemory) × AsksForMemory (SetGeometry choice feature geometry) document) ⊎ (applied (SetGeometry choice feature geometry) document ≡ Err (geometry_refusal error))
    drawing_refused encode_errors.OutOfRange far = inr (far_refused (far refl))
    drawing_refused encode_errors.NoMemory far = inl (refl, finds_feature choice document ordinal position layer chosen placed there feature selects selected_there)

    abbrev kinded : List Field → List Field
    kinded fields = with_kind (kind_number geometry.kind) fields

    abbrev drawing : Field
    drawing = new_content 34 (encoded geometry)

    abbrev drawn : List Field → List Field
    drawn fields = with_geometry geometry fields

    module _ (in_range : IsInRange geometry) where
      drawn_there : change_feature drawn ordinal selects document ≡ change_fields drawn position item document
      drawn_there = change_feature_found document ordinal position layer placed there selects item found feature_placed feature_there drawn

      limited : applied (SetGeometry choice feature geometry) document ≡ within_limit (change_fields drawn position item document)
      limited =
          let short : is_in_range geometry ≡ true = (in_range-Decides geometry).1 in_range in
          rw (chosen, selected_here, short, drawn_there) refl

      -- where no file can hold the tile
      pub drawn_too_large : nat_lt MAX_FILE (length (bytes_of (change_fields drawn position item document))) ≡ true → applied (SetGeometry choice feature geometry) document ≡ Err TooLarge
      drawn_too_large large = limited ∙ rw large refl

      weight_is : (seen : Document) (fields : List Field) → fields_of ordinal selects seen ≡ fields → geometry_weight choice feature document seen ≡ drawing_weight fields
      weight_is seen fields same =
          ap (λ result. of_selected result (λ n. of_selected (selected_in feature n document) (λ m. drawing_weight (fields_of n m seen)))) chosen
          ∙ ap (λ result. of_selected result (λ m. drawing_weight (fields_of ordinal m seen))) selected_here
          ∙ ap drawing_weight same

      -- the steps, if one can
      module _ (fits : nat_lt MAX_FILE (length (bytes_of (change_fields drawn position item document))) ≡ false) where
        means : applied (SetGeometry choice feature geometry) document ≡ Ok (change_fields drawn position item document)
        means = limited ∙ rw fits refl

        taken_is : taken_by (SetGeometry choice feature geometry) document ≡ drawing_weight found.fields
        taken_is = weight_is document found.fields (fields_of_found document ordinal position layer placed there selects item found feature_placed feature_there)

        put_is : put_by (SetGeometry choice feature geometry) document ≡ drawing_weight (drawn found.fields)
        put_is =
            weight_is (after (SetGeometry choice feature geometry) document) (drawn found.fields)
            (ap (λ result. fields_of ordinal selects (result_unwrap_or result document)) (means ∙ ap Ok (sym drawn_there))
            ∙ fields_changed document ordinal position layer placed there selects item found feature_placed feature_there drawn)

        pub geometry_set : (index taken : ℕ) (put : List Field) → ReplacesLast IsField field_bytes is_kind found.fields (kinded found.fields) index taken put → length put ≡ 1
            → 2 * length (filter is_geometry_field found.fields) ≤ length (flat_map field_bytes (filter is_geometry_field found.fields))
            → (change : Change) → change ≡ FeatureStep position item index taken put ∷ map (in_feature_at position item) (once_splices (map is_geometry_field found.fields) drawing (length found.fields - taken + 1))
            → IsPrepared (SetGeometry choice feature geometry) document change
        geometry_set index taken put is one heavy change steps =
            let fields = found.fields in
            let changed = kinded fields in
            let at = in_feature_at position item in
            let of_fields = in_the_feature position item in
            let fields_there = fields_at_found document ordinal position layer placed there selects item found feature_placed feature_there in
            let s : Splice Field = record { index = index; taken = taken; put = put } in
            let half = change_fields kinded position item document in
            let a = carried of_fields document fields fields_there (s ∷ []) (is.can.within, tt) (subst (AllByRecursion IsField) (sym (append-nil put)) is.can.valid_put) in
            let to_half : Leads (at s ∷ []) document half (weigh_last field_bytes is_kind changed) (weigh_last field_bytes is_kind fields) = record {
              fits = a.fits;
              makes = a.makes ∙ makes_alike of_fields document fields fields_there kinded (s ∷ []) is.makes;
              puts_so = a.puts ∙ ap (λ list. length (flat_map field_bytes list)) (append-nil put) ∙ is.puts;
              takes_so = a.takes ∙ ap (λ list. length (flat_map field_bytes list)) (append-nil (part index taken fields)) ∙ is.takes;
            } in
            let changed_there : fields_at position item half ≡ Some changed = (of_fields.is_part document).found kinded ∙ ap (option_map kinded) fields_there in
            let splices = once_splices (map is_geometry_field changed) drawing (length changed) in
            let once = puts_once is_geometry_field drawing changed in
            let b = carried of_fields half changed changed_there splices once.there (subst (AllByRecursion IsField) (sym once.puts) (drawing_valid (encoded geometry), tt)) in
            let kept = kinded_drawings (kind_number geometry.kind) fields in
            let to_made : Leads (map at splices) half (change_fields drawn position item document) (length (field_bytes drawing)) (length (flat_map field_bytes (filter is_geometry_field fields))) = record {
              fits = b.fits;
              makes = b.makes ∙ makes_alike of_fields half changed changed_there (put_once is_geometry_field drawing) splices once.leaves ∙ (of_fields.is_part document).twice kinded (put_once is_geometry_field drawing);
              puts_so = b.puts ∙ ap (λ list. length (flat_map field_bytes list)) once.puts ∙ ap length (append-nil (field_bytes drawing));
              takes_so = b.takes ∙ ap (λ list. length (flat_map field_bytes list)) (once.takes ∙ kept);
            } in
            let both = both_lead (at s ∷ []) (map at splices) document half (change_fields drawn position item document) _ _ _ _ to_half to_made in
            let long : length changed ≡ length fields - taken + 1 = omega (arith, length-splice index taken put fields is.can.within, ap (λ list. length list) is.makes, is.can.within, one) in
            let joined : change ≡ (at s ∷ []) ++ map at splices =
            steps ∙ ap (λ more. at s ∷ map at more) (ap (once_splices (map is_geometry_field fields) drawing) (sym long) ∙ sym (kinded_splices (kind_number geometry.kind) fields drawing (length changed))) in
            let few = once.few in
            let alone = ap (λ list. length (flat_map field_bytes list)) (one_drawing (encoded geometry) changed) ∙ ap length (append-nil (field_bytes drawing)) in
            let kinds = drawn_kinds (encoded geometry) changed in
            rw joined (record {
              fits = both.fits;
              means = means ∙ ap Ok (sym both.makes);
              puts = omega (arith, both.puts_so, put_is, alone, kinds);
              takes = omega (arith, both.takes_so, taken_is);
              steps = omega (arith, length-map splices at, few, ap length kept, heavy, taken_is, put_is, alone, drawing_long (encoded geometry));
              one = λ is. absurd cc;
            })
