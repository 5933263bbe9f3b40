-- A change of one step, as the change of a command.
use Rattle.std.proofs.Common.{◌≡◌, ℕ, ◌<◌, ◌≤◌, Some, Result, Ok, Err, List, [], ◌∷◌, length, slice_get, refl, sym, ap, ◌∙◌, subst, ◌⊎◌, inl, inr, arith}
use Rattle.std.proofs.lemmas.List.Sums.{sum_by-cons}
use Rattle.std.specs.Prelude.{IfErr, IfOk}
use Rattle.std.specs.List.{flat_map}
use Rattle.std.specs.Option.{IsSomeAnd}
use Rattle.mvt_document.specs.declared.TheConstants.{MAX_FILE}
use Rattle.mvt_document.specs.Plain.{Field, Feature, LayerItem, OfFeature, Layer, OfLayer, Document}
use Rattle.mvt_document.specs.Wire.{bytes_of, field_bytes, layer_item_bytes}
use Rattle.mvt_document.specs.Opens.{IsField, IsLayerItem}
use Rattle.mvt_document.specs.Splicing.{part, splice}
use Rattle.mvt_document.specs.Lists.{CanSplice}
use Rattle.mvt_document.specs.Places.{change_fields, change_items, fields_at, items_at}
use Rattle.mvt_change.specs.Changes.{Step, FeatureStep, LayerStep, FitsStep, go_step, step_weight, taken_out, turn_step, weight}
use Rattle.mvt_change.specs.ChangeStands.{change_of}
use Rattle.mvt_change.specs.declared.change.Change.{Change}
use Rattle.mvt_meaning.specs.Command.{Command}
use Rattle.mvt_meaning.specs.Meaning.{applied}
use Rattle.mvt_meaning.specs.Memory.{AsksForMemory}
use Rattle.mvt_meaning.specs.Weights.{put_by, taken_by}
use Rattle.mvt_meaning.specs.declared.refusal.Refusal.{Refusal}
use Rattle.mvt_meaning.specs.declared.refusal.Refusal.TheVariants.{NoMemory, TooLarge}
use Rattle.mvt_meaning.proofs.Found.{change_fields_same, change_items_same}
use Rattle.mvt_edit_steps.specs.Prepared.{IsPrepared, Prepares}

-- the step turns the document into `after`; it puts `put` bytes and takes out `taken`
pub record Carries (step : Step) (document after : Document) (put taken : ℕ) : Type 0 where
  pub fits : FitsStep step document
  pub makes : go_step step document ≡ after
  pub puts : step_weight step ≡ put
  pub takes : step_weight (turn_step step document) ≡ taken

weight_of_one : (step : Step) → weight (step ∷ []) ≡ step_weight step
weight_of_one step = let sum = sum_by-cons step_weight step [] in omega (arith, sum)

pub prepared_by_one : (command : Command) (document after : Document) (step : Step) (put taken : ℕ) → Carries step document after put taken → applied command document ≡ Ok after → put ≤ put_by command document → taken ≤ taken_by command document → IsPrepared command document (step ∷ [])
prepared_by_one command document after step put taken carries means puts takes = record {
  fits = (carries.fits, tt);
  means = means ∙ ap (λ made. Ok made) (sym carries.makes);
  puts = omega (arith, weight_of_one step, carries.puts, puts);
  takes = omega (arith, weight_of_one (turn_step step document), carries.takes, takes);
  steps = omega arith;
  one = λ _. refl;
}

-- the change of the step if a file can hold what it makes, and otherwise the refusal
pub prepared_within_limit : (command : Command) (document : Document) (step : Step) (result : Result Change Refusal) → AsksForMemory command document → IfOk result (λ change. change_of change ≡ step ∷ []) → IfOk result (λ change. length (bytes_of (go_step step document)) ≤ MAX_FILE) → IfErr result (λ refusal. (refusal ≡ NoMemory) ⊎ ((refusal ≡ TooLarge) × (MAX_FILE < length (bytes_of (go_step step document))))) → (length (bytes_of (go_step step document)) ≤ MAX_FILE → IsPrepared command document (step ∷ [])) → (MAX_FILE < length (bytes_of (go_step step document)) → applied command document ≡ Err TooLarge) → Prepares command document result
prepared_within_limit command document step (Ok change) asks made within refused fits large = subst (IsPrepared command document) (sym made) (fits within)
prepared_within_limit command document step (Err refusal) asks made within refused fits large =
    elim refused [ inl out_of_memory ↦ inl (out_of_memory, asks) | inr past ↦ inr (large past.1 ∙ ap (λ e. Err e) (sym past.0)) ]

pub carries_in_layer : (document : Document) (position : ℕ) (layer : Layer) (change : List LayerItem → List LayerItem) (index taken : ℕ) (put : List LayerItem) → items_at position document ≡ Some layer.items → slice_get document position ≡ Some (OfLayer layer) → CanSplice IsLayerItem index taken put layer.items → splice index taken put layer.items ≡ change layer.items → Carries (LayerStep position index taken put) document (change_items change position document) (length (flat_map layer_item_bytes put)) (length (flat_map layer_item_bytes (part index taken layer.items)))
carries_in_layer document position layer change index taken put items there can same = record {
  fits = subst (λ found. IsSomeAnd found (CanSplice IsLayerItem index taken put)) (sym items) can;
  makes = change_items_same (splice index taken put) change position document layer there same;
  puts = refl;
  takes = ap (λ found. length (flat_map layer_item_bytes (taken_out index taken found))) items;
}

pub carries_in_feature : (document : Document) (position item : ℕ) (layer : Layer) (feature : Feature) (change : List Field → List Field) (index taken : ℕ) (put : List Field) → fields_at position item document ≡ Some feature.fields → slice_get document position ≡ Some (OfLayer layer) → slice_get layer.items item ≡ Some (OfFeature feature) → CanSplice IsField index taken put feature.fields → splice index taken put feature.fields ≡ change feature.fields → Carries (FeatureStep position item index taken put) document (change_fields change position item document) (length (flat_map field_bytes put)) (length (flat_map field_bytes (part index taken feature.fields)))
carries_in_feature document position item layer feature change index taken put fields there within can same = record {
  fits = subst (λ found. IsSomeAnd found (CanSplice IsField index taken put)) (sym fields) can;
  makes = change_fields_same (splice index taken put) change position item document layer feature there within same;
  puts = refl;
  takes = ap (λ found. length (flat_map field_bytes (taken_out index taken found))) fields;
}
