-- What the steps by which the geometry of a feature moves result in, and when it is refused.
use Rattle.std.proofs.Common.{◌≡◌, ℕ, true, false, ℤ, is_some, Some, Ok, Err, length, map, nat_lt, slice_get, refl, sym, ap, ◌∙◌, arith}
use Rattle.mvt_document.specs.declared.TheConstants.{MAX_FILE}
use Rattle.mvt_document.specs.Places.{change_fields}
use Rattle.mvt_document.specs.Plain.{Feature, OfFeature, Layer, OfLayer, Document}
use Rattle.mvt_document.specs.Wire.{bytes_of}
use Rattle.mvt_change.specs.Changes.{Change}
use Rattle.mvt_meaning.specs.Command.{LayerChoice, FeatureChoice, Shift}
use Rattle.mvt_meaning.specs.Geometries.{can_move, geometry_among, moves, shifted}
use Rattle.mvt_meaning.specs.Meaning.{applied, can_shift, fields_of, is_drawn, within_limit}
use Rattle.mvt_meaning.specs.Selection.{feature_positions, layer_positions, selected, selected_feature, selected_in}
use Rattle.mvt_meaning.specs.declared.refusal.Refusal.{Refusal}
use Rattle.mvt_meaning.specs.declared.refusal.Refusal.TheVariants.{BadGeometry, OutOfRange, TooLarge}
use Rattle.mvt_meaning.proofs.Found.{change_feature_found, fields_of_found, selected_in_found}
use Rattle.mvt_edit_steps.specs.Decided.{field_fates}
use Rattle.mvt_edit_steps.specs.Fates.{splices_of}
use Rattle.mvt_edit_steps.specs.Prepared.{IsPrepared}
use Rattle.mvt_edit_steps.proofs.Carrying.{in_feature_at}
use Rattle.mvt_edit_steps.proofs.FeatureRenumbered.{renumbers}
use Rattle.mvt_edit_steps.proofs.FieldsLeft.{FieldsLeft}

module _ (choice : LayerChoice) (dx dy : ℤ) (document : Document) (ordinal position : ℕ) (layer : Layer) (chosen : selected choice document ≡ Ok ordinal) (placed : slice_get (layer_positions document) ordinal ≡ Some position) (there : slice_get document position ≡ Some (OfLayer layer)) where
  -- where no feature is selected
  pub no_feature_moves : (feature : FeatureChoice) (refusal : Refusal) → selected_feature feature layer ≡ Err refusal → applied (Shift choice feature dx dy) document ≡ Err refusal
  no_feature_moves feature refusal refused =
      let none = selected_in_found document ordinal position layer placed there feature ∙ refused in
      rw (chosen, none) refl

  module _ (feature : FeatureChoice) (selects item : ℕ) (found : Feature) (selected_there : selected_feature feature layer ≡ Ok selects) (feature_placed : slice_get (feature_positions layer.items) selects ≡ Some item) (feature_there : slice_get layer.items item ≡ Some (OfFeature found)) where
    selected_here : selected_in feature ordinal document ≡ Ok selects
    selected_here = selected_in_found document ordinal position layer placed there feature ∙ selected_there

    fields_here : fields_of ordinal selects document ≡ found.fields
    fields_here = fields_of_found document ordinal position layer placed there selects item found feature_placed feature_there

    drawn_here : is_drawn ordinal selects document ≡ is_some (geometry_among found.fields)
    drawn_here = ap (λ fields. is_some (geometry_among fields)) fields_here

    can_here : can_shift dx dy ordinal selects document ≡ can_move dx dy found.fields
    can_here = ap (can_move dx dy) fields_here

    -- where the feature has no geometry
    pub not_drawn : is_some (geometry_among found.fields) ≡ false → applied (Shift choice feature dx dy) document ≡ Err (BadGeometry ordinal selects)
    not_drawn none = let no = drawn_here ∙ none in rw (chosen, selected_here, no) refl

    module _ (drawn : is_some (geometry_among found.fields) ≡ true) where
      -- where its first integers cannot lead so far
      pub too_far : can_move dx dy found.fields ≡ false → applied (Shift choice feature dx dy) document ≡ Err OutOfRange
      too_far none =
          let yes = drawn_here ∙ drawn in
          let no = can_here ∙ none in
          rw (chosen, selected_here, yes, no) refl

      module _ (can : can_move dx dy found.fields ≡ true) where
        made_here : applied (Shift choice feature dx dy) document ≡ within_limit (change_fields (shifted dx dy) position item document)
        made_here =
            let yes = drawn_here ∙ drawn in
            let able = can_here ∙ can in
            rw (chosen, selected_here, yes, able) (ap within_limit (change_feature_found document ordinal position layer placed there selects item found feature_placed feature_there (shifted dx dy)))

        -- where no file can hold the tile
        pub shift_too_large : nat_lt MAX_FILE (length (bytes_of (change_fields (shifted dx dy) position item document))) ≡ true → applied (Shift choice feature dx dy) document ≡ Err TooLarge
        shift_too_large large = made_here ∙ rw large refl

        -- the steps, if one can
        pub shift_made : nat_lt MAX_FILE (length (bytes_of (change_fields (shifted dx dy) position item document))) ≡ false → FieldsLeft 4 (moves dx dy found.fields) found.fields → (change : Change) → change ≡ map (in_feature_at position item) (splices_of (field_fates 4 (moves dx dy found.fields) found.fields)) → IsPrepared (Shift choice feature dx dy) document change
        shift_made fits left change steps =
            let all = renumbers document ordinal position layer placed there selects item found feature_placed feature_there 4 (moves dx dy found.fields) (shifted dx dy) refl left in
            let made = all.makes ∙ change_feature_found document ordinal position layer placed there selects item found feature_placed feature_there (shifted dx dy) in
            let means : applied (Shift choice feature dx dy) document ≡ Ok (change_fields (shifted dx dy) position item document) = made_here ∙ rw fits refl in
            let fields = fields_here in
            let puts = all.puts_so in
            let takes = all.takes_so in
            let few = all.few in
            rw steps (record {
              fits = all.fits;
              means = means ∙ ap Ok (sym made);
              puts = rw (chosen, selected_here, fields) (omega (arith, puts));
              takes = rw (chosen, selected_here, fields) (omega (arith, takes));
              steps = rw (chosen, selected_here, fields) (omega (arith, few));
              one = λ is. absurd cc;
            })
