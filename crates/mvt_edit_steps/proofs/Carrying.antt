-- Steps on one list of a document that carry out splices of it: that they fit, what they make, and what they weigh.
use Rattle.std.proofs.Common.{◌≡◌, ℕ, ◌+◌, List, [], ◌∷◌, ◌++◌, length, length-append, map, Option, Some, option_map, refl, sym, ap, ◌∙◌, subst, arith}
use Rattle.std.specs.List.{AllByRecursion, flat_map}
use Rattle.std.specs.Option.{IfSome, IsSomeAnd}
use Rattle.std.proofs.lemmas.List.Concat.{flat_map-append}
use Rattle.std.proofs.lemmas.List.Sums.{sum_by-cons, sum_by_push}
use Rattle.mvt_document.specs.Plain.{Document, Field, LayerItem, TileItem}
use Rattle.mvt_document.specs.Wire.{field_bytes, layer_item_bytes, tile_item_bytes}
use Rattle.mvt_document.specs.Opens.{IsField, IsLayerItem, IsTileItem}
use Rattle.mvt_document.specs.Splicing.{part, splice}
use Rattle.mvt_document.specs.Lists.{CanSplice}
use Rattle.mvt_document.specs.Places.{items_at, fields_at, change_items, change_fields}
use Rattle.mvt_document.proofs.EachItem.{all_apart}
use Rattle.mvt_change.specs.Changes.{OfTheTile, OfTheLayer, OfTheFeature, Step, TileStep, LayerStep, FeatureStep, Change, go_step, go, FitsStep, Fits, turn_step, turn, taken_out, step_weight, weight}
use Rattle.mvt_change.proofs.Lenses.{list_part, IsPart}
use Rattle.mvt_edit_steps.specs.Fates.{Splice}
use Rattle.mvt_edit_steps.proofs.CarriedOut.{spliced_all, taken_all, put_all, AreThere}

-- the list at a place: how it is found and changed, and what the step of a splice of it does
pub record Sits {Y : Type 0} (step_with : Splice Y → Step) (valid : Y → Type 0) (find : Document → Option (List Y)) (change : (List Y → List Y) → Document → Document) (bytes : Y → List ℕ) : Type 0 where
  pub is_part : (document : Document) → IsPart find change document
  pub goes : (s : Splice Y) (document : Document) → go_step (step_with s) document ≡ change (splice s.index s.taken s.put) document
  pub fits : (s : Splice Y) (document : Document) → IsSomeAnd (find document) (CanSplice valid s.index s.taken s.put) → FitsStep (step_with s) document
  pub puts : (s : Splice Y) → step_weight (step_with s) ≡ length (flat_map bytes s.put)
  pub takes : (s : Splice Y) (document : Document) → step_weight (turn_step (step_with s) document) ≡ length (flat_map bytes (taken_out s.index s.taken (find document)))

abbrev pub in_tile : Splice TileItem → Step
in_tile s = TileStep s.index s.taken s.put

abbrev pub in_layer_at : ℕ → Splice LayerItem → Step
in_layer_at layer s = LayerStep layer s.index s.taken s.put

abbrev pub in_feature_at : ℕ → ℕ → Splice Field → Step
in_feature_at layer item s = FeatureStep layer item s.index s.taken s.put

pub in_the_tile : Sits in_tile IsTileItem (λ document. Some document) (λ f document. f document) tile_item_bytes
in_the_tile = record {
  is_part = list_part OfTheTile;
  goes = λ s document. refl;
  fits = λ s document can. can;
  puts = λ s. refl;
  takes = λ s document. refl;
}

pub in_the_layer : (layer : ℕ) → Sits (in_layer_at layer) IsLayerItem (items_at layer) (λ f document. change_items f layer document) layer_item_bytes
in_the_layer layer = record {
  is_part = list_part (OfTheLayer layer);
  goes = λ s document. refl;
  fits = λ s document can. can;
  puts = λ s. refl;
  takes = λ s document. refl;
}

pub in_the_feature : (layer item : ℕ) → Sits (in_feature_at layer item) IsField (fields_at layer item) (λ f document. change_fields f layer item document) field_bytes
in_the_feature layer item = record {
  is_part = list_part (OfTheFeature layer item);
  goes = λ s document. refl;
  fits = λ s document can. can;
  puts = λ s. refl;
  takes = λ s document. refl;
}

-- what carrying out splices of a list results in
pub record Carried {Y : Type 0} (change : (List Y → List Y) → Document → Document) (bytes : Y → List ℕ) (steps : Change) (document : Document) (splices : List (Splice Y)) (items : List Y) : Type 0 where
  pub fits : Fits steps document
  pub makes : go steps document ≡ change (spliced_all splices) document
  pub puts : weight steps ≡ length (flat_map bytes (put_all splices))
  pub takes : weight (turn steps document) ≡ length (flat_map bytes (taken_all splices items))

weighs_both : {A : Type 0} (bytes : A → List ℕ) (xs ys : List A) → length (flat_map bytes (xs ++ ys)) ≡ length (flat_map bytes xs) + length (flat_map bytes ys)
weighs_both bytes xs ys = ap length (flat_map-append bytes xs ys) ∙ length-append (flat_map bytes xs) (flat_map bytes ys)

module _ {Y : Type 0} {step_with : Splice Y → Step} {valid : Y → Type 0} {find : Document → Option (List Y)} {change : (List Y → List Y) → Document → Document} {bytes : Y → List ℕ} (sits : Sits step_with valid find change bytes) where
  makes_all : (splices : List (Splice Y)) (document : Document) → go (map step_with splices) document ≡ change (spliced_all splices) document
  makes_all [] document = sym (sits.is_part document).same
  makes_all (s ∷ splices) document =
      ap (go (map step_with splices)) (sits.goes s document)
      ∙ makes_all splices (change (splice s.index s.taken s.put) document)
      ∙ (sits.is_part document).twice (splice s.index s.taken s.put) (spliced_all splices)

  then_there : (s : Splice Y) (document : Document) (items : List Y) → find document ≡ Some items → find (go_step (step_with s) document) ≡ Some (splice s.index s.taken s.put items)
  then_there s document items there = ap find (sits.goes s document) ∙ (sits.is_part document).found (splice s.index s.taken s.put) ∙ ap (option_map (splice s.index s.taken s.put)) there

  fit_all : (splices : List (Splice Y)) (document : Document) (items : List Y) → find document ≡ Some items → AreThere splices items → AllByRecursion valid (put_all splices) → Fits (map step_with splices) document
  fit_all [] document items there has all = tt
  fit_all (s ∷ splices) document items there has all =
      let can : CanSplice valid s.index s.taken s.put items = record { within = has.0; valid_put = (all_apart valid s.put (put_all splices) all).0 } in (
        sits.fits s document (subst (λ o. IsSomeAnd o (CanSplice valid s.index s.taken s.put)) (sym there) can),
        fit_all splices (go_step (step_with s) document) (splice s.index s.taken s.put items) (then_there s document items there) has.1 (all_apart valid s.put (put_all splices) all).1,
      )

  put_weigh : (splices : List (Splice Y)) → weight (map step_with splices) ≡ length (flat_map bytes (put_all splices))
  put_weigh [] = refl
  put_weigh (s ∷ splices) = omega (arith, sum_by-cons step_weight (step_with s) (map step_with splices), sits.puts s, put_weigh splices, weighs_both bytes s.put (put_all splices))

  take_weigh : (splices : List (Splice Y)) (document : Document) (items : List Y) → find document ≡ Some items → weight (turn (map step_with splices) document) ≡ length (flat_map bytes (taken_all splices items))
  take_weigh [] document items there = refl
  take_weigh (s ∷ splices) document items there =
      let next = go_step (step_with s) document in
      let rest = take_weigh splices next (splice s.index s.taken s.put items) (then_there s document items there) in
      let first = sits.takes s document ∙ ap (λ o. length (flat_map bytes (taken_out s.index s.taken o))) there in
      let out = part s.index s.taken items in
      omega (arith, sum_by_push step_weight (turn (map step_with splices) next) (turn_step (step_with s) document), rest, first, weighs_both bytes out (taken_all splices (splice s.index s.taken s.put items)))

  pub carried : (document : Document) (items : List Y) → find document ≡ Some items → (splices : List (Splice Y)) → AreThere splices items → AllByRecursion valid (put_all splices) → Carried change bytes (map step_with splices) document splices items
  carried document items there splices has all =
      record { fits = fit_all splices document items there has all; makes = makes_all splices document; puts = put_weigh splices; takes = take_weigh splices document items there }

  -- where the splices leave what a change of the list makes
  pub makes_alike : (document : Document) (items : List Y) → find document ≡ Some items → (f : List Y → List Y) (splices : List (Splice Y)) → spliced_all splices items ≡ f items → change (spliced_all splices) document ≡ change f document
  makes_alike document items there f splices same = (sits.is_part document).alike (spliced_all splices) f (subst (λ o. IfSome o (λ x. spliced_all splices x ≡ f x)) (sym there) same)
