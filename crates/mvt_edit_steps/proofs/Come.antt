-- What steps result in: the document that they make, the fields that they put, and those that they take out. Steps
-- after others; and the steps of each feature of a layer.
use Rattle.std.proofs.Common.{◌≡◌, ℕ, ◌+◌, ◌*◌, ◌≤◌, zero, suc, List, [], ◌∷◌, ◌++◌, length, length-append, append_assoc, map, slice_get, Some, option_map, refl, sym, ap, ◌∙◌, subst, arith}
use Rattle.std.proofs.lemmas.List.{length-map}
use Rattle.std.proofs.lemmas.List.Concat.{flat_map-append}
use Rattle.std.specs.List.{AllByRecursion, enumerate_from, filter_map, flat_map}
use Rattle.std.specs.Option.{IfSome, option_and_then}
use Rattle.mvt_document.specs.Plain.{Field, Feature, LayerItem, OfFeature, PlainInLayer, Layer, OfLayer, Document}
use Rattle.mvt_document.specs.Opens.{IsField}
use Rattle.mvt_document.specs.Wire.{field_bytes}
use Rattle.mvt_document.specs.Lists.{change_at}
use Rattle.mvt_document.specs.Places.{change_fields, change_items, fields_at, fields_in, fields_in_at, in_feature, items_at, items_in}
use Rattle.mvt_change.specs.Changes.{Change, Fits, go, turn, weight, OfTheLayer}
use Rattle.mvt_change.proofs.Lenses.{list_part}
use Rattle.mvt_messages.specs.Found.{found_features, with_position}
use Rattle.mvt_messages.specs.Views.{feature_in}
use Rattle.mvt_meaning.proofs.Between.{get_between}
use Rattle.mvt_edit_steps.specs.Fates.{splices_of}
use Rattle.mvt_renumber.specs.declared.fate.Fate.{Fate}
use Rattle.mvt_edit_steps.proofs.CarriedOut.{AreThere, put_all, spliced_all, taken_all}
use Rattle.mvt_edit_steps.proofs.Carrying.{carried, in_feature_at, in_the_feature, in_the_layer, makes_alike}
use Rattle.mvt_edit_steps.proofs.Leading.{both_lead}
use Rattle.mvt_edit_steps.specs.EachFeature.{layer_steps}

-- the steps fit the document and turn it into `made`; they put as many bytes as the fields of `puts` have, and take out
-- as many as those of `takes`, and they are at most half as many as these bytes together
pub record Come (steps : Change) (document made : Document) (puts takes : List Field) : Type 0 where
  pub fits : Fits steps document
  pub makes : go steps document ≡ made
  pub puts_so : weight steps ≡ length (flat_map field_bytes puts)
  pub takes_so : weight (turn steps document) ≡ length (flat_map field_bytes takes)
  pub few_so : 2 * length steps ≤ length (flat_map field_bytes takes) + length (flat_map field_bytes puts)

weighs_both : (xs ys : List Field) → length (flat_map field_bytes (xs ++ ys)) ≡ length (flat_map field_bytes xs) + length (flat_map field_bytes ys)
weighs_both xs ys = ap length (flat_map-append field_bytes xs ys) ∙ length-append (flat_map field_bytes xs) (flat_map field_bytes ys)

pub none_come : (document : Document) → Come [] document document [] []
none_come document = record { fits = tt; makes = refl; puts_so = refl; takes_so = refl; few_so = omega arith }

pub both_come : (first second : Change) (document half made : Document) (p q t u : List Field) → Come first document half p t → Come second half made q u → Come (first ++ second) document made (p ++ q) (t ++ u)
both_come first second document half made p q t u a b =
    let both =
    both_lead first second document half made _ _ _ _
    (record { fits = a.fits; makes = a.makes; puts_so = a.puts_so; takes_so = a.takes_so })
    (record { fits = b.fits; makes = b.makes; puts_so = b.puts_so; takes_so = b.takes_so }) in
    record {
      fits = both.fits;
      makes = both.makes;
      puts_so = both.puts_so ∙ sym (weighs_both p q);
      takes_so = omega (arith, both.takes_so, weighs_both t u);
      few_so = omega (arith, length-append first second, a.few_so, b.few_so, weighs_both p q, weighs_both t u);
    }

-- ---- an item between others

pub change_between : {A : Type 0} (change : A → A) (front : List A) (x : A) (back : List A) (n : ℕ) → length front ≡ n → change_at change n (front ++ x ∷ back) ≡ front ++ change x ∷ back
change_between change [] x back zero e = refl
change_between change [] x back (suc n) e = absurd (omega arith)
change_between change (y ∷ front) x back zero e = absurd (omega arith)
change_between change (y ∷ front) x back (suc n) e = ap (λ rest. y ∷ rest) (change_between change front x back n (omega arith))

pub one_longer : {A : Type 0} (front : List A) (x : A) (n : ℕ) → length front ≡ n → length (front ++ x ∷ []) ≡ n + 1
one_longer front x n e = length-append front (x ∷ []) ∙ ap (λ m. m + 1) e

-- what is numbered
pub numbered : {B C : Type 0} (g : B → List C) (k : ℕ) (list : List B) → flat_map (λ (found : ℕ × B). g found.1) (enumerate_from k list) ≡ flat_map g list
numbered g k [] = refl
numbered g k (x ∷ list) = ap (λ rest. g x ++ rest) (numbered g (k + 1) list)

-- ---- the fields of each feature of a layer

-- the splices of these fates can be carried out on the fields, do to them what the change does, and are at most half as
-- many as the bytes that they take out and put
pub record Carries (fates : List Field → List (Fate Field)) (change : List Field → List Field) (fields : List Field) : Type 0 where
  pub there : AreThere (splices_of (fates fields)) fields
  pub valid : AllByRecursion IsField (put_all (splices_of (fates fields)))
  pub leaves : spliced_all (splices_of (fates fields)) fields ≡ change fields
  pub few : 2 * length (splices_of (fates fields)) ≤ length (flat_map field_bytes (taken_all (splices_of (fates fields)) fields)) + length (flat_map field_bytes (put_all (splices_of (fates fields))))

module _ (fates : List Field → List (Fate Field)) (change : List Field → List Field) where
  -- the same for a feature, where the item is one
  abbrev pub CarriesIn : LayerItem → Type 0
  CarriesIn (OfFeature feature) = Carries fates change feature.fields
  CarriesIn (PlainInLayer field) = Unit {0}

  -- what becomes of the fields of a feature that was found with its position
  abbrev steps_at : ℕ → ℕ × Feature → Change
  steps_at layer at = map (in_feature_at layer at.0) (splices_of (fates at.1.fields))

  abbrev puts_at : ℕ × Feature → List Field
  puts_at at = put_all (splices_of (fates at.1.fields))

  abbrev takes_at : ℕ × Feature → List Field
  takes_at at = taken_all (splices_of (fates at.1.fields)) at.1.fields

  abbrev placed : ℕ → List LayerItem → List (ℕ × Feature)
  placed n items = filter_map (with_position feature_in) (enumerate_from n items)

  -- the list of items put in place of that of the layer
  abbrev with_items : ℕ → List LayerItem → Document → Document
  with_items layer items document = change_items (λ before. items) layer document

  items_same : (layer : ℕ) (document : Document) (items : List LayerItem) → items_at layer document ≡ Some items → document ≡ with_items layer items document
  items_same layer document items there =
      sym (list_part (OfTheLayer layer) document).same
      ∙ (list_part (OfTheLayer layer) document).alike (λ before. before) (λ before. items) (subst (λ found. IfSome found (λ before. before ≡ items)) (sym there) refl)

  features_come : (layer : ℕ) (front rest : List LayerItem) (n : ℕ) (document : Document) → length front ≡ n → items_at layer document ≡ Some (front ++ rest) → AllByRecursion CarriesIn rest
      → Come (flat_map (steps_at layer) (placed n rest)) document (with_items layer (front ++ map (in_feature change) rest) document) (flat_map puts_at (placed n rest)) (flat_map takes_at (placed n rest))
  features_come layer front [] n document e there all = record { fits = tt; makes = items_same layer document (front ++ []) there; puts_so = refl; takes_so = refl; few_so = omega arith }
  features_come layer front (PlainInLayer field ∷ rest) n document e there all =
      let same = append_assoc front (PlainInLayer field ∷ []) rest in
      let more = features_come layer (front ++ PlainInLayer field ∷ []) rest (n + 1) document (one_longer front (PlainInLayer field) n e) (there ∙ ap Some (sym same)) all.1 in
      record {
        fits = more.fits;
        makes = more.makes ∙ ap (λ items. with_items layer items document) (append_assoc front (PlainInLayer field ∷ []) (map (in_feature change) rest));
        puts_so = more.puts_so;
        takes_so = more.takes_so;
        few_so = more.few_so;
      }
  features_come layer front (OfFeature feature ∷ rest) n document e there all =
      let item = in_feature change (OfFeature feature) in
      let splices = splices_of (fates feature.fields) in
      let half = change_fields change layer n document in
      let found : fields_at layer n document ≡ Some feature.fields =
      ap (option_and_then (fields_in_at n)) there ∙ ap (option_and_then fields_in) (get_between front (OfFeature feature) rest n e) in
      let done = carried (in_the_feature layer n) document feature.fields found splices all.0.there all.0.valid in
      let made = done.makes ∙ makes_alike (in_the_feature layer n) document feature.fields found change splices all.0.leaves in
      let first : Come (map (in_feature_at layer n) splices) document half (put_all splices) (taken_all splices feature.fields) =
      record { fits = done.fits; makes = made; puts_so = done.puts; takes_so = done.takes; few_so = omega (arith, all.0.few, length-map splices (in_feature_at layer n)) } in
      let there_then : items_at layer half ≡ Some ((front ++ item ∷ []) ++ rest) =
      (list_part (OfTheLayer layer) document).found (change_at (in_feature change) n) ∙ ap (option_map (change_at (in_feature change) n)) there
      ∙ ap Some (change_between (in_feature change) front (OfFeature feature) rest n e ∙ sym (append_assoc front (item ∷ []) rest)) in
      let more = features_come layer (front ++ item ∷ []) rest (n + 1) half (one_longer front item n e) there_then all.1 in
      let end : with_items layer ((front ++ item ∷ []) ++ map (in_feature change) rest) half ≡ with_items layer (front ++ item ∷ map (in_feature change) rest) document =
      (list_part (OfTheLayer layer) document).twice (change_at (in_feature change) n) (λ before. (front ++ item ∷ []) ++ map (in_feature change) rest)
      ∙ ap (λ items. with_items layer items document) (append_assoc front (item ∷ []) (map (in_feature change) rest)) in
      subst (λ d. Come (map (in_feature_at layer n) splices ++ flat_map (steps_at layer) (placed (n + 1) rest)) document d (put_all splices ++ flat_map puts_at (placed (n + 1) rest)) (taken_all splices feature.fields ++ flat_map takes_at (placed (n + 1) rest))) end
      (both_come (map (in_feature_at layer n) splices) (flat_map (steps_at layer) (placed (n + 1) rest)) document half _ (put_all splices) (flat_map puts_at (placed (n + 1) rest)) (taken_all splices feature.fields) (flat_map takes_at (placed (n + 1) rest)) first more)

-- ---- the features of a layer that is in a tile

module _ (fates : List LayerItem → List Field → List (Fate Field)) (change : List LayerItem → List Field → List Field) where
  -- the items of a layer, each feature changed
  abbrev pub each_changed : List LayerItem → List LayerItem
  each_changed items = map (in_feature (change items)) items

  -- the features of the layer can be changed in this way
  abbrev pub CarriesEach : Layer → Type 0
  CarriesEach layer = AllByRecursion (CarriesIn (fates layer.items) (change layer.items)) layer.items

  -- what is put into a layer that was found, and taken out of it
  abbrev pub puts_in : ℕ × (ℕ × Layer) → List Field
  puts_in found = flat_map (λ at. put_all (splices_of (fates found.1.1.items at.1.1.fields))) (found_features found.1.1.items)

  abbrev pub takes_in : ℕ × (ℕ × Layer) → List Field
  takes_in found = flat_map (λ at. taken_all (splices_of (fates found.1.1.items at.1.1.fields)) at.1.1.fields) (found_features found.1.1.items)

  pub layer_comes : (ordinal position : ℕ) (layer : Layer) (document : Document) → slice_get document position ≡ Some (OfLayer layer) → CarriesEach layer
      → Come (layer_steps fates (ordinal, (position, layer))) document (change_items each_changed position document) (puts_in (ordinal, (position, layer))) (takes_in (ordinal, (position, layer)))
  layer_comes ordinal position layer document is all =
      let f = fates layer.items in
      let c = change layer.items in
      let list = placed f c 0 layer.items in
      let there : items_at position document ≡ Some layer.items = ap (option_and_then items_in) is in
      let come = features_come f c position [] layer.items 0 document refl there all in
      let made = (list_part (OfTheLayer position) document).alike (λ before. map (in_feature c) layer.items) each_changed (subst (λ found. IfSome found (λ before. map (in_feature c) layer.items ≡ each_changed before)) (sym there) refl) in
      let steps = numbered (steps_at f c position) 0 list in
      record {
        fits = subst (λ s. Fits s document) (sym steps) come.fits;
        makes = ap (λ s. go s document) steps ∙ come.makes ∙ made;
        puts_so = ap weight steps ∙ come.puts_so ∙ ap (λ fields. length (flat_map field_bytes fields)) (sym (numbered (puts_at f c) 0 list));
        takes_so = ap (λ s. weight (turn s document)) steps ∙ come.takes_so ∙ ap (λ fields. length (flat_map field_bytes fields)) (sym (numbered (takes_at f c) 0 list));
        few_so = omega (arith, come.few_so, ap length steps, ap (λ fields. length (flat_map field_bytes fields)) (numbered (puts_at f c) 0 list), ap (λ fields. length (flat_map field_bytes fields)) (numbered (takes_at f c) 0 list));
      }
