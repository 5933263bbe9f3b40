-- One item that goes, and the id fields that go.
use Rattle.std.proofs.Common.{◌≡◌, ℕ, zero, suc, ◌+◌, ◌*◌, ◌≤◌, List, [], ◌∷◌, ◌++◌, length, map, take, drop, filter, slice_get, Option, Some, Ok, Err, refl, sym, ap, ◌∙◌, subst, arith}
use Rattle.std.proofs.lemmas.List.{append-nil, drop-drop, length-map}
use Rattle.std.specs.List.{AllByRecursion, flat_map}
use Rattle.std.specs.Option.{option_map_or}
use Rattle.mvt_document.specs.Plain.{Feature, OfFeature, Layer, OfLayer, Document}
use Rattle.mvt_document.specs.Opens.{IsField}
use Rattle.mvt_document.specs.Wire.{field_bytes, layer_item_bytes, tile_item_bytes}
use Rattle.mvt_document.specs.Splicing.{part, splice}
use Rattle.mvt_change.specs.Changes.{OfTheTile, OfTheLayer, Change, Step}
use Rattle.mvt_meaning.specs.Command.{LayerChoice, FeatureChoice, DropLayer, DropFeature, ClearId}
use Rattle.mvt_meaning.specs.Ordinals.{without}
use Rattle.mvt_meaning.specs.Selection.{feature_positions, is_feature, is_layer, layer_positions, selected, selected_feature, selected_in}
use Rattle.mvt_meaning.specs.Meaning.{applied, is_id, without_id}
use Rattle.mvt_meaning.specs.Memory.{AsksForMemory}
use Rattle.mvt_meaning.specs.declared.refusal.Refusal.{Refusal}
use Rattle.mvt_meaning.proofs.Found.{change_feature_found, change_layer_found, fields_at_found, fields_of_found, filtered_found, from_nth_splits, items_at_found, items_of_found, selected_in_found}
use Rattle.mvt_edit_steps.specs.Fates.{Splice, item_out}
use Rattle.mvt_edit_steps.specs.Prepared.{IsPrepared}
use Rattle.mvt_edit_steps.proofs.CarriedOut.{taken_all}
use Rattle.mvt_edit_steps.proofs.Carrying.{Sits, Carried, carried, in_feature_at, in_the_tile, in_the_layer, in_the_feature, makes_alike}
use Rattle.mvt_edit_steps.proofs.Going.{out, takes_out}

-- ---- one item

-- the item at a position goes
abbrev pub one : {A : Type 0} → ℕ → Splice A
one position = record { index = position; taken = 1; put = [] }

nth_weighs : {A : Type 0} (bytes : A → List ℕ) (position : ℕ) (items : List A) → length (flat_map bytes (part position 1 items)) ≡ option_map_or (λ item. length (bytes item)) (slice_get items position) 0
nth_weighs bytes zero [] = refl
nth_weighs bytes (suc position) [] = refl
nth_weighs bytes zero (x ∷ items) = ap length (append-nil (bytes x))
nth_weighs bytes (suc position) (x ∷ items) = nth_weighs bytes position items

spliced_out : {A : Type 0} (position : ℕ) (items : List A) → splice position 1 [] items ≡ take position items ++ drop 1 (drop position items)
spliced_out position items = ap (λ y. y ++ drop (position + 1) items) (append-nil (take position items)) ∙ ap (λ y. take position items ++ y) (sym (drop-drop 1 position items))

one_weighs : {A : Type 0} (bytes : A → List ℕ) (position : ℕ) (items : List A) → length (flat_map bytes (taken_all (one position ∷ []) items)) ≡ option_map_or (λ item. length (bytes item)) (slice_get items position) 0
one_weighs bytes position items = ap (λ gone. length (flat_map bytes gone)) (append-nil (part position 1 items)) ∙ nth_weighs bytes position items

get_within : {A : Type 0} (position : ℕ) (items : List A) (x : A) → slice_get items position ≡ Some x → position + 1 ≤ length items
get_within position [] x is = absurd cc
get_within zero (y ∷ items) x is = omega arith
get_within (suc position) (y ∷ items) x is = let within = get_within position items x is in omega arith

one_out : {Y : Type 0} {step_with : Splice Y → Step} {valid : Y → Type 0} {find : Document → Option (List Y)} {change : (List Y → List Y) → Document → Document} {bytes : Y → List ℕ} (sits : Sits step_with valid find change bytes) (document : Document) (items : List Y) → find document ≡ Some items → (position : ℕ) → position + 1 ≤ length items → Carried change bytes (step_with (one position) ∷ []) document (one position ∷ []) items
one_out sits document items there position within = carried sits document items there (one position ∷ []) (within, tt) tt

-- ---- the item or the fields that a command removes

-- where a layer is selected, the command that removes it is accepted, and so asks for memory
pub layer_asks : (choice : LayerChoice) (document : Document) (ordinal : ℕ) → selected choice document ≡ Ok ordinal → AsksForMemory (DropLayer choice) document
layer_asks choice document ordinal chosen = rw chosen refl

module _ (choice : LayerChoice) (document : Document) (ordinal position : ℕ) (layer : Layer) (chosen : selected choice document ≡ Ok ordinal) (placed : slice_get (layer_positions document) ordinal ≡ Some position) (there : slice_get document position ≡ Some (OfLayer layer)) where
  -- where one step takes out the layer
  pub layer_goes : (change : Change) → change ≡ item_out OfTheTile position ∷ [] → IsPrepared (DropLayer choice) document change
  layer_goes change step =
      let out = one_out in_the_tile document document refl position (get_within position document (OfLayer layer) there) in
      let puts = out.puts in
      let same = ap (λ item. option_map_or (λ item. length (tile_item_bytes item)) item 0) (filtered_found is_layer document ordinal position placed) in
      let takes = out.takes ∙ one_weighs tile_item_bytes position document ∙ sym same in
      rw step (record {
        fits = out.fits;
        means = rw chosen (ap Ok (sym (out.makes ∙ spliced_out position document ∙ sym (from_nth_splits is_layer (λ rest. drop 1 rest) document ordinal position placed))));
        puts = omega arith;
        takes = rw chosen (omega arith);
        steps = omega arith;
        one = λ _. refl;
      })

  -- where a feature is selected
  module _ (feature : FeatureChoice) (selects : ℕ) (selected_there : selected_feature feature layer ≡ Ok selects) where
    selected_here : selected_in feature ordinal document ≡ Ok selects
    selected_here = selected_in_found document ordinal position layer placed there feature ∙ selected_there

    -- the commands that remove it, or its id fields, are accepted, and so ask for memory
    pub feature_asks : AsksForMemory (DropFeature choice feature) document
    feature_asks = rw (chosen, selected_here) refl

    pub ids_ask : AsksForMemory (ClearId choice feature) document
    ids_ask = rw (chosen, selected_here) refl

    module _ (item : ℕ) (found : Feature) (feature_placed : slice_get (feature_positions layer.items) selects ≡ Some item) (feature_there : slice_get layer.items item ≡ Some (OfFeature found)) where
      -- where one step takes out the feature
      pub feature_goes : (change : Change) → change ≡ item_out (OfTheLayer position) item ∷ [] → IsPrepared (DropFeature choice feature) document change
      feature_goes change step =
          let sits = in_the_layer position in
          let at = items_at_found document ordinal position layer placed there in
          let out = one_out sits document layer.items at item (get_within item layer.items (OfFeature found) feature_there) in
          let puts = out.puts in
          let rest = spliced_out item layer.items ∙ sym (from_nth_splits is_feature (λ rest. drop 1 rest) layer.items selects item feature_placed) in
          let makes = out.makes ∙ makes_alike sits document layer.items at (without is_feature selects) (one item ∷ []) rest ∙ sym (change_layer_found document ordinal position layer placed there (without is_feature selects)) in
          let same = ap (λ item. option_map_or (λ item. length (layer_item_bytes item)) item 0) (filtered_found is_feature layer.items selects item feature_placed) in
          let takes = out.takes ∙ one_weighs layer_item_bytes item layer.items ∙ sym same in
          let are = items_of_found document ordinal position layer placed there in
          rw step (record {
            fits = out.fits;
            means = rw (chosen, selected_here) (ap Ok (sym makes));
            puts = omega arith;
            takes = rw (chosen, selected_here, are) (omega arith);
            steps = omega arith;
            one = λ _. refl;
          })

      -- where the steps take out the id fields
      pub ids_go : (change : Change) → 2 * length (filter is_id found.fields) ≤ length (flat_map field_bytes (filter is_id found.fields)) → change ≡ map (in_feature_at position item) (out is_id found.fields) → IsPrepared (ClearId choice feature) document change
      ids_go change heavy steps =
          let sits = in_the_feature position item in
          let splices = out is_id found.fields in
          let cut = takes_out is_id found.fields in
          let at = fields_at_found document ordinal position layer placed there selects item found feature_placed feature_there in
          let are = fields_of_found document ordinal position layer placed there selects item found feature_placed feature_there in
          let done = carried sits document found.fields at splices cut.there (subst (AllByRecursion IsField) (sym cut.puts) tt) in
          let makes = done.makes ∙ makes_alike sits document found.fields at without_id splices cut.leaves ∙ sym (change_feature_found document ordinal position layer placed there selects item found feature_placed feature_there without_id) in
          let few = cut.few in
          let puts = done.puts ∙ ap (λ new. length (flat_map field_bytes new)) cut.puts in
          let takes = done.takes ∙ ap (λ gone. length (flat_map field_bytes gone)) cut.takes in
          rw steps (record {
            fits = done.fits;
            means = rw (chosen, selected_here) (ap Ok (sym makes));
            puts = omega arith;
            takes = rw (chosen, selected_here, are) (omega arith);
            steps = rw (chosen, selected_here, are) (omega (arith, length-map splices (in_feature_at position item)));
            one = λ is. absurd cc;
          })

  -- where no feature is selected
  module _ (feature : FeatureChoice) (refusal : Refusal) (refused : selected_feature feature layer ≡ Err refusal) where
    none_here : selected_in feature ordinal document ≡ Err refusal
    none_here = selected_in_found document ordinal position layer placed there feature ∙ refused

    pub no_feature_goes : applied (DropFeature choice feature) document ≡ Err refusal
    no_feature_goes = rw (chosen, none_here) refl

    pub no_ids_go : applied (ClearId choice feature) document ≡ Err refusal
    no_ids_go = rw (chosen, none_here) refl
