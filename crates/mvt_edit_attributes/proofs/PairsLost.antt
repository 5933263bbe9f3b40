-- The pairs of a key that a feature loses.
use Rattle.std.proofs.Common.{◌≡◌, ℕ, List, true, false, is_some, map, slice_get, Some, Ok, Err, refl, sym, ap, ◌∙◌, arith}
use Rattle.std.specs.List.{list_any}
use Rattle.mvt_document.specs.Plain.{Feature, OfFeature, Layer, OfLayer, Document}
use Rattle.mvt_change.specs.Changes.{Change}
use Rattle.mvt_meaning.specs.Command.{LayerChoice, FeatureChoice, UnsetAttribute}
use Rattle.mvt_meaning.specs.Meaning.{applied, fields_of, has_key, has_pairs, items_of}
use Rattle.mvt_meaning.specs.Selection.{feature_positions, layer_positions, selected, selected_feature, selected_in}
use Rattle.mvt_meaning.specs.Tagging.{is_key, pairs_among, removals, without_attribute}
use Rattle.mvt_meaning.specs.declared.refusal.Refusal.{Refusal}
use Rattle.mvt_meaning.specs.declared.refusal.Refusal.TheVariants.{BadTags, NoKey}
use Rattle.mvt_meaning.proofs.Found.{fields_of_found, items_of_found, selected_in_found}
use Rattle.mvt_edit_steps.specs.Decided.{field_fates}
use Rattle.mvt_edit_steps.specs.Fates.{splices_of}
use Rattle.mvt_edit_steps.specs.Prepared.{IsPrepared}
use Rattle.mvt_edit_steps.proofs.FieldsLeft.{FieldsLeft}
use Rattle.mvt_edit_steps.proofs.Carrying.{in_feature_at}
use Rattle.mvt_edit_steps.proofs.FeatureRenumbered.{renumbers}

module _ (choice : LayerChoice) (key : List ℕ) (document : Document) (ordinal position : ℕ) (layer : Layer) (chosen : selected choice document ≡ Ok ordinal) (placed : slice_get (layer_positions document) ordinal ≡ Some position) (there : slice_get document position ≡ Some (OfLayer layer)) where
  items_here : items_of ordinal document ≡ layer.items
  items_here = items_of_found document ordinal position layer placed there

  has_here : has_key key ordinal document ≡ list_any (is_key key) layer.items
  has_here = ap (list_any (is_key key)) items_here

  -- where no feature is selected
  pub no_feature_loses : (feature : FeatureChoice) (refusal : Refusal) → selected_feature feature layer ≡ Err refusal → applied (UnsetAttribute choice feature key) document ≡ Err refusal
  no_feature_loses feature refusal refused =
      let none = selected_in_found document ordinal position layer placed there feature ∙ refused in
      rw (chosen, none) refl

  module _ (feature : FeatureChoice) (selects item : ℕ) (found : Feature) (selected_there : selected_feature feature layer ≡ Ok selects) (feature_placed : slice_get (feature_positions layer.items) selects ≡ Some item) (feature_there : slice_get layer.items item ≡ Some (OfFeature found)) where
    selected_here : selected_in feature ordinal document ≡ Ok selects
    selected_here = selected_in_found document ordinal position layer placed there feature ∙ selected_there

    fields_here : fields_of ordinal selects document ≡ found.fields
    fields_here = fields_of_found document ordinal position layer placed there selects item found feature_placed feature_there

    pairs_here : has_pairs ordinal selects document ≡ is_some (pairs_among layer.items found.fields)
    pairs_here = ap (λ items. is_some (pairs_among items (fields_of ordinal selects document))) items_here ∙ ap (λ fields. is_some (pairs_among layer.items fields)) fields_here

    -- where the layer lacks the key
    pub key_lacks : list_any (is_key key) layer.items ≡ false → applied (UnsetAttribute choice feature key) document ≡ Err NoKey
    key_lacks none = let no = has_here ∙ none in rw (chosen, selected_here, no) refl

    module _ (has : list_any (is_key key) layer.items ≡ true) where
      -- where the tags make no pairs
      pub pairs_lack : is_some (pairs_among layer.items found.fields) ≡ false → applied (UnsetAttribute choice feature key) document ≡ Err (BadTags ordinal selects)
      pairs_lack none =
          let yes = has_here ∙ has in
          let no = pairs_here ∙ none in
          rw (chosen, selected_here, yes, no) refl

      -- where the steps turn the tags into what is decided on them
      pub tags_lose : is_some (pairs_among layer.items found.fields) ≡ true → FieldsLeft 2 (removals key layer.items found.fields) found.fields → (change : Change) → change ≡ map (in_feature_at position item) (splices_of (field_fates 2 (removals key layer.items found.fields) found.fields)) → IsPrepared (UnsetAttribute choice feature key) document change
      tags_lose readable left change steps =
          let yes = has_here ∙ has in
          let pairs = pairs_here ∙ readable in
          let all = renumbers document ordinal position layer placed there selects item found feature_placed feature_there 2 (removals key layer.items found.fields) (without_attribute key layer.items) refl left in
          let items = items_here in
          let fields = fields_here in
          let puts = all.puts_so in
          let takes = all.takes_so in
          let few = all.few in
          rw steps (record {
            fits = all.fits;
            means = rw (chosen, selected_here, yes, pairs, items) (ap Ok (sym all.makes));
            puts = rw (chosen, selected_here, fields, items) (omega (arith, puts));
            takes = rw (chosen, selected_here, fields, items) (omega (arith, takes));
            steps = rw (chosen, selected_here, fields, items) (omega (arith, few));
            one = λ is. absurd cc;
          })
