-- What a rename and a new id result in, from the layer and the feature that are found.
use Rattle.std.proofs.Common.{◌≡◌, ℕ, ◌<◌, ◌≤◌, false, Ok, Err, Some, List, [], ◌∷◌, length, slice_get, refl, sym, ap, ◌∙◌, subst, arith}
use Rattle.std.specs.Result.{result_unwrap_or}
use Rattle.mvt_document.specs.declared.TheConstants.{MAX_FILE}
use Rattle.mvt_document.specs.Plain.{Feature, OfFeature, Layer, OfLayer, Document}
use Rattle.mvt_document.specs.Opens.{IsField, IsLayerItem}
use Rattle.mvt_document.specs.Wire.{bytes_of, field_bytes, layer_item_bytes}
use Rattle.mvt_change.specs.Changes.{FeatureStep, FitsStep, LayerStep, Step, go_step, step_weight, turn_step}
use Rattle.mvt_meaning.specs.Command.{FeatureChoice, LayerChoice, RenameLayer, SetId}
use Rattle.mvt_meaning.specs.Selection.{feature_positions, layer_positions, selected, selected_feature, selected_in}
use Rattle.mvt_meaning.specs.Meaning.{after, applied, change_feature, change_layer, fields_of, identified, is_id, is_name, is_taken, items_of, named_items, within_limit}
use Rattle.mvt_meaning.specs.Memory.{AsksForMemory}
use Rattle.mvt_meaning.specs.Weights.{of_selected, put_by, taken_by, weigh_last}
use Rattle.mvt_meaning.specs.declared.refusal.Refusal.{Refusal}
use Rattle.mvt_meaning.specs.declared.refusal.Refusal.TheVariants.{TooLarge}
use Rattle.mvt_meaning.proofs.Found.{change_feature_found, change_layer_found, fields_at_found, fields_changed, fields_of_found, items_at_found, items_changed, items_of_found, selected_in_found}
use Rattle.mvt_edit_steps.specs.Prepared.{IsPrepared}
use Rattle.mvt_edit_steps.specs.PutsLast.{PutsLast}
use Rattle.mvt_edit_steps.proofs.Limits.{limit_kept, limit_passed}
use Rattle.mvt_edit_steps.proofs.OneStep.{Carries, carries_in_feature, carries_in_layer, prepared_by_one}

-- ---- a rename

module _ (choice : LayerChoice) (name : List ℕ) (document : Document) (ordinal : ℕ) (selects : selected choice document ≡ Ok ordinal) where
  renamed : is_taken name ordinal document ≡ false → applied (RenameLayer choice name) document ≡ within_limit (change_layer (named_items name) ordinal document)
  renamed free = rw (selects, free) refl

  -- where the name is free, the command asks for memory
  pub rename_asks : is_taken name ordinal document ≡ false → AsksForMemory (RenameLayer choice name) document
  rename_asks free = rw (selects, free) refl

  module _ (free : is_taken name ordinal document ≡ false) (position : ℕ) (layer : Layer) (placed : slice_get (layer_positions document) ordinal ≡ Some position) (there : slice_get document position ≡ Some (OfLayer layer)) (step : Step) (puts : PutsLast IsLayerItem layer_item_bytes is_name (LayerStep position) layer.items (named_items name layer.items) step) where
    carries_name : Carries step document (change_layer (named_items name) ordinal document) (weigh_last layer_item_bytes is_name (named_items name layer.items)) (weigh_last layer_item_bytes is_name layer.items)
    carries_name =
        let made = carries_in_layer document position layer (named_items name) puts.index puts.taken puts.put (items_at_found document ordinal position layer placed there) there puts.replaces.can puts.replaces.makes in
        record {
          fits = subst (λ s. FitsStep s document) (sym puts.parts) made.fits;
          makes = ap (λ s. go_step s document) puts.parts ∙ made.makes ∙ sym (change_layer_found document ordinal position layer placed there (named_items name));
          puts = ap step_weight puts.parts ∙ made.puts ∙ puts.replaces.puts;
          takes = ap (λ s. step_weight (turn_step s document)) puts.parts ∙ made.takes ∙ puts.replaces.takes;
        }

    taken_name : taken_by (RenameLayer choice name) document ≡ weigh_last layer_item_bytes is_name layer.items
    taken_name =
        ap (λ chosen. of_selected chosen (λ n. weigh_last layer_item_bytes is_name (items_of n document))) selects
        ∙ ap (weigh_last layer_item_bytes is_name) (items_of_found document ordinal position layer placed there)

    put_name : applied (RenameLayer choice name) document ≡ Ok (change_layer (named_items name) ordinal document) → put_by (RenameLayer choice name) document ≡ weigh_last layer_item_bytes is_name (named_items name layer.items)
    put_name made =
        ap (λ chosen. of_selected chosen (λ n. weigh_last layer_item_bytes is_name (items_of n (after (RenameLayer choice name) document)))) selects
        ∙ ap (λ result. weigh_last layer_item_bytes is_name (items_of ordinal (result_unwrap_or result document))) made
        ∙ ap (weigh_last layer_item_bytes is_name) (items_changed document ordinal position layer placed there (named_items name))

    pub rename_prepared : length (bytes_of (go_step step document)) ≤ MAX_FILE → IsPrepared (RenameLayer choice name) document (step ∷ [])
    rename_prepared fits =
        let made = change_layer (named_items name) ordinal document in
        let within = subst (λ d. length (bytes_of d) ≤ MAX_FILE) carries_name.makes fits in
        let means = renamed free ∙ limit_kept made within in
        prepared_by_one (RenameLayer choice name) document made step (weigh_last layer_item_bytes is_name (named_items name layer.items)) (weigh_last layer_item_bytes is_name layer.items) carries_name means
        (omega (arith, put_name means))
        (omega (arith, taken_name))

    pub rename_too_large : MAX_FILE < length (bytes_of (go_step step document)) → applied (RenameLayer choice name) document ≡ Err TooLarge
    rename_too_large large =
        let made = change_layer (named_items name) ordinal document in
        renamed free ∙ limit_passed made (subst (λ d. MAX_FILE < length (bytes_of d)) carries_name.makes large)

-- ---- an id

module _ (choice : LayerChoice) (feature_choice : FeatureChoice) (id : ℕ) (document : Document) (ordinal position : ℕ) (layer : Layer) (selects : selected choice document ≡ Ok ordinal) (placed : slice_get (layer_positions document) ordinal ≡ Some position) (there : slice_get document position ≡ Some (OfLayer layer)) where
  no_such_feature : (refusal : Refusal) → selected_in feature_choice ordinal document ≡ Err refusal → applied (SetId choice feature_choice id) document ≡ Err refusal
  no_such_feature refusal none = rw (selects, none) refl

  pub feature_refused : (refusal : Refusal) → selected_feature feature_choice layer ≡ Err refusal → applied (SetId choice feature_choice id) document ≡ Err refusal
  feature_refused refusal none = no_such_feature refusal (selected_in_found document ordinal position layer placed there feature_choice ∙ none)

  module _ (feature_ordinal item : ℕ) (feature : Feature) (feature_selects : selected_feature feature_choice layer ≡ Ok feature_ordinal) (feature_placed : slice_get (feature_positions layer.items) feature_ordinal ≡ Some item) (feature_there : slice_get layer.items item ≡ Some (OfFeature feature)) (step : Step) (puts : PutsLast IsField field_bytes is_id (FeatureStep position item) feature.fields (identified id feature.fields) step) where
    within_layer : selected_in feature_choice ordinal document ≡ Ok feature_ordinal
    within_layer = selected_in_found document ordinal position layer placed there feature_choice ∙ feature_selects

    given_id : applied (SetId choice feature_choice id) document ≡ within_limit (change_feature (identified id) ordinal feature_ordinal document)
    given_id = rw (selects, within_layer) refl

    carries_id : Carries step document (change_feature (identified id) ordinal feature_ordinal document) (weigh_last field_bytes is_id (identified id feature.fields)) (weigh_last field_bytes is_id feature.fields)
    carries_id =
        let made = carries_in_feature document position item layer feature (identified id) puts.index puts.taken puts.put (fields_at_found document ordinal position layer placed there feature_ordinal item feature feature_placed feature_there) there feature_there puts.replaces.can puts.replaces.makes in
        record {
          fits = subst (λ s. FitsStep s document) (sym puts.parts) made.fits;
          makes = ap (λ s. go_step s document) puts.parts ∙ made.makes ∙ sym (change_feature_found document ordinal position layer placed there feature_ordinal item feature feature_placed feature_there (identified id));
          puts = ap step_weight puts.parts ∙ made.puts ∙ puts.replaces.puts;
          takes = ap (λ s. step_weight (turn_step s document)) puts.parts ∙ made.takes ∙ puts.replaces.takes;
        }

    id_weight_is : (seen : Document) (fields : ℕ) → weigh_last field_bytes is_id (fields_of ordinal feature_ordinal seen) ≡ fields → of_selected (selected choice document) (λ n. of_selected (selected_in feature_choice n document) (λ m. weigh_last field_bytes is_id (fields_of n m seen))) ≡ fields
    id_weight_is seen fields weighs =
        ap (λ chosen. of_selected chosen (λ n. of_selected (selected_in feature_choice n document) (λ m. weigh_last field_bytes is_id (fields_of n m seen)))) selects
        ∙ ap (λ chosen. of_selected chosen (λ m. weigh_last field_bytes is_id (fields_of ordinal m seen))) within_layer
        ∙ weighs

    taken_id : taken_by (SetId choice feature_choice id) document ≡ weigh_last field_bytes is_id feature.fields
    taken_id =
        id_weight_is document (weigh_last field_bytes is_id feature.fields) (ap (weigh_last field_bytes is_id) (fields_of_found document ordinal position layer placed there feature_ordinal item feature feature_placed feature_there))

    put_id : applied (SetId choice feature_choice id) document ≡ Ok (change_feature (identified id) ordinal feature_ordinal document) → put_by (SetId choice feature_choice id) document ≡ weigh_last field_bytes is_id (identified id feature.fields)
    put_id made =
        id_weight_is (after (SetId choice feature_choice id) document) (weigh_last field_bytes is_id (identified id feature.fields))
        (ap (λ result. weigh_last field_bytes is_id (fields_of ordinal feature_ordinal (result_unwrap_or result document))) made
        ∙ ap (weigh_last field_bytes is_id) (fields_changed document ordinal position layer placed there feature_ordinal item feature feature_placed feature_there (identified id)))

    pub id_prepared : length (bytes_of (go_step step document)) ≤ MAX_FILE → IsPrepared (SetId choice feature_choice id) document (step ∷ [])
    id_prepared fits =
        let made = change_feature (identified id) ordinal feature_ordinal document in
        let within = subst (λ d. length (bytes_of d) ≤ MAX_FILE) carries_id.makes fits in
        let means = given_id ∙ limit_kept made within in
        prepared_by_one (SetId choice feature_choice id) document made step (weigh_last field_bytes is_id (identified id feature.fields)) (weigh_last field_bytes is_id feature.fields) carries_id means
        (omega (arith, put_id means))
        (omega (arith, taken_id))

    pub id_too_large : MAX_FILE < length (bytes_of (go_step step document)) → applied (SetId choice feature_choice id) document ≡ Err TooLarge
    id_too_large large =
        let made = change_feature (identified id) ordinal feature_ordinal document in
        given_id ∙ limit_passed made (subst (λ d. MAX_FILE < length (bytes_of d)) carries_id.makes large)
