-- Moves that carry out commands.
use Rattle.std.proofs.Common.{◌≡◌, ℕ, suc, ◌<◌, nat_lt, Bool, true, false, Some, None, Ok, Err, List, [], ◌∷◌, length, slice_get, refl, sym, ap, ◌∙◌, subst, arith}
use Rattle.std.proofs.lemmas.Bool.{le-ltb, lt-ltb}
use Rattle.std.specs.Option.{IsSomeAnd}
use Rattle.mvt_document.specs.Plain.{LayerItem, OfFeature, PlainInLayer, Layer, OfLayer, PlainInTile, Document}
use Rattle.mvt_document.specs.Splicing.{moved}
use Rattle.mvt_messages.specs.Views.{feature_in, features_in, layer_in, layers}
use Rattle.mvt_document.specs.Lists.{CanMove}
use Rattle.mvt_change.specs.Changes.{MoveStep, OfTheLayer, OfTheTile}
use Rattle.mvt_meaning.specs.Command.{FeatureChoice, LayerChoice, MoveFeature, MoveLayer}
use Rattle.mvt_meaning.specs.Meaning.{applied, feature_count, layer_count}
use Rattle.mvt_meaning.specs.Memory.{AsksForMemory}
use Rattle.mvt_meaning.specs.Ordinals.{count, move_nth, positions_of}
use Rattle.mvt_meaning.specs.Selection.{feature_positions, is_feature, is_layer, layer_positions, selected, selected_feature}
use Rattle.mvt_meaning.specs.declared.refusal.Refusal.{Refusal}
use Rattle.mvt_meaning.specs.declared.refusal.Refusal.TheVariants.{BadPlace}
use Rattle.mvt_meaning.proofs.Asking.{asks_by}
use Rattle.mvt_meaning.proofs.Found.{change_items_same, change_layer_found, items_at_found, items_of_found, no_position_past, selected_in_found}
use Rattle.mvt_meaning.proofs.Positions.{positions_within}
use Rattle.mvt_meaning.proofs.Selecting.{position_within}
use Rattle.mvt_edit_lists.proofs.Nth.{apart_from, count_append, count_pass}
use Rattle.mvt_edit_steps.specs.Prepared.{IsPrepared}
use Rattle.mvt_edit_lists.proofs.Moving.{move_is}

-- ---- ordinals below the count have positions

pub count_layers : (document : Document) → length (layers document) ≡ count is_layer document
count_layers [] = refl
count_layers (OfLayer layer ∷ document) = ap suc (count_layers document)
count_layers (PlainInTile field ∷ document) = count_layers document

pub count_features : (items : List LayerItem) → length (features_in items) ≡ count is_feature items
count_features [] = refl
count_features (OfFeature feature ∷ items) = ap suc (count_features items)
count_features (PlainInLayer field ∷ items) = count_features items

pub position_inside : {A : Type 0} (passes : A → Bool) (items : List A) (ordinal p : ℕ) → slice_get (positions_of passes items) ordinal ≡ Some p → ordinal < count passes items
position_inside passes items ordinal p e =
    let a = (apart_from passes 0 items ordinal p e).0 in
    let whole = ap (count passes) a.joined in
    omega (arith, whole, a.ordinal_is, count_append passes a.front (a.item ∷ a.back), count_pass passes a.item a.back a.counts)

-- ---- a layer

pub layer_moves : (choice : LayerChoice) (index ordinal position to : ℕ) (document : Document) → selected choice document ≡ Ok ordinal → slice_get (layer_positions document) ordinal ≡ Some position → slice_get (layer_positions document) index ≡ Some to → IsPrepared (MoveLayer choice index) document (MoveStep OfTheTile position to ∷ [])
layer_moves choice index ordinal position to document chosen from there =
    let inside : nat_lt index (layer_count document) ≡ true = lt-ltb index (layer_count document) (omega (arith, position_inside is_layer document index to there, count_layers document)) in
    record {
      fits = (record { there = position_within document ordinal position from; within = position_within document index to there }, tt);
      means = rw (chosen, inside) (ap (λ d. Ok d) (move_is is_layer ordinal index position to document from there));
      puts = omega arith;
      takes = omega arith;
      steps = omega arith;
      one = λ _. refl;
    }

-- a move that is accepted asks for memory
pub layer_move_asks : (choice : LayerChoice) (index ordinal position to : ℕ) (document : Document) → selected choice document ≡ Ok ordinal → slice_get (layer_positions document) ordinal ≡ Some position → slice_get (layer_positions document) index ≡ Some to → AsksForMemory (MoveLayer choice index) document
layer_move_asks choice index ordinal position to document chosen from there =
    asks_by (MoveLayer choice index) document _ (layer_moves choice index ordinal position to document chosen from there).means

pub layer_past : (choice : LayerChoice) (index ordinal : ℕ) (document : Document) → selected choice document ≡ Ok ordinal → slice_get (layer_positions document) index ≡ None → applied (MoveLayer choice index) document ≡ Err BadPlace
layer_past choice index ordinal document chosen past =
    let outside : nat_lt index (layer_count document) ≡ false = le-ltb index (layer_count document) (no_position_past layer_in 0 document index past) in
    rw (chosen, outside) refl

-- ---- a feature of a layer

module _ (choice : LayerChoice) (ordinal position : ℕ) (document : Document) (layer : Layer) (chosen : selected choice document ≡ Ok ordinal) (placed : slice_get (layer_positions document) ordinal ≡ Some position) (there : slice_get document position ≡ Some (OfLayer layer)) where
  pub feature_count_found : feature_count ordinal document ≡ length (features_in layer.items)
  feature_count_found = ap (λ items. length (features_in items)) (items_of_found document ordinal position layer placed there)

  pub feature_refused : (feature : FeatureChoice) (index : ℕ) (refusal : Refusal) → selected_feature feature layer ≡ Err refusal → applied (MoveFeature choice feature index) document ≡ Err refusal
  feature_refused feature index refusal refused =
      let selects = selected_in_found document ordinal position layer placed there feature ∙ refused in
      rw (chosen, selects) refl

  pub feature_moves : (feature : FeatureChoice) (index moving from to : ℕ) → selected_feature feature layer ≡ Ok moving → slice_get (feature_positions layer.items) moving ≡ Some from → slice_get (feature_positions layer.items) index ≡ Some to → IsPrepared (MoveFeature choice feature index) document (MoveStep (OfTheLayer position) from to ∷ [])
  feature_moves feature index moving from to selects_there at_from at_to =
      let selects = selected_in_found document ordinal position layer placed there feature ∙ selects_there in
      let below : index < feature_count ordinal document = omega (arith, position_inside is_feature layer.items index to at_to, count_features layer.items, feature_count_found) in
      let inside : nat_lt index (feature_count ordinal document) ≡ true = lt-ltb index (feature_count ordinal document) below in
      let low = (positions_within is_feature 0 layer.items moving from at_from).1 in
      let high = (positions_within is_feature 0 layer.items index to at_to).1 in
      let can : CanMove from to layer.items = record { there = omega arith; within = omega arith } in
      record {
        fits = (subst (λ items. IsSomeAnd items (CanMove from to)) (sym (items_at_found document ordinal position layer placed there)) can, tt);
        means = rw (chosen, selects, inside) (
            ap (λ d. Ok d) (
            change_layer_found document ordinal position layer placed there (move_nth is_feature moving index)
            ∙ change_items_same (move_nth is_feature moving index) (moved from to) position document layer there (move_is is_feature moving index from to layer.items at_from at_to)
            )
            );
        puts = omega arith;
        takes = omega arith;
        steps = omega arith;
        one = λ _. refl;
      }

  -- a move that is accepted asks for memory
  pub feature_move_asks : (feature : FeatureChoice) (index moving from to : ℕ) → selected_feature feature layer ≡ Ok moving → slice_get (feature_positions layer.items) moving ≡ Some from → slice_get (feature_positions layer.items) index ≡ Some to → AsksForMemory (MoveFeature choice feature index) document
  feature_move_asks feature index moving from to selects_there at_from at_to =
      asks_by (MoveFeature choice feature index) document _ (feature_moves feature index moving from to selects_there at_from at_to).means

  pub feature_past : (feature : FeatureChoice) (index moving : ℕ) → selected_feature feature layer ≡ Ok moving → slice_get (feature_positions layer.items) index ≡ None → applied (MoveFeature choice feature index) document ≡ Err BadPlace
  feature_past feature index moving selects_there past =
      let selects = selected_in_found document ordinal position layer placed there feature ∙ selects_there in
      let few = no_position_past feature_in 0 layer.items index past in
      let outside : nat_lt index (feature_count ordinal document) ≡ false = le-ltb index (feature_count ordinal document) (omega (arith, few, feature_count_found)) in
      rw (chosen, selects, outside) refl
