-- Where the item of an ordinal is: lists changed from there on, and the lists of a document.
use Rattle.std.proofs.Common.{◌≡◌, ℕ, zero, suc, ◌+◌, ◌-◌, ◌≤◌, Bool, true, false, ◌==◌, is_some, Option, Some, None, Err, List, [], ◌∷◌, ◌++◌, length, take, drop, filter, slice_get, refl, sym, ap, ◌∙◌, inl, inr, arith}
use Rattle.std.proofs.lemmas.Bool.{cases_Bool}
use Rattle.std.proofs.lemmas.Bool.Decides.{nat_tests}
use Rattle.std.specs.List.{filter_map}
use Rattle.std.specs.Option.{option_and_then, option_map_or}
use Rattle.mvt_document.specs.Plain.{Field, Feature, LayerItem, OfFeature, PlainInLayer, Layer, TileItem, OfLayer, PlainInTile, Document}
use Rattle.mvt_messages.specs.Views.{layer_in, layers}
use Rattle.mvt_document.specs.Lists.{change_at}
use Rattle.mvt_document.specs.Places.{change_fields, change_items, fields_at, fields_in, fields_in_at, in_feature, in_layer, items_at, items_in}
use Rattle.mvt_document.proofs.Placing.{changed_alike}
use Rattle.mvt_meaning.specs.Command.{FeatureChoice}
use Rattle.mvt_meaning.specs.Ordinals.{change_first, change_nth, from_nth}
use Rattle.mvt_meaning.specs.Selection.{feature_positions, is_feature, is_layer, layer_positions, selected_feature, selected_in}
use Rattle.mvt_meaning.specs.Meaning.{change_feature, change_layer, fields_of, items_of}
use Rattle.mvt_meaning.specs.declared.refusal.Refusal.TheVariants.{NoLayer}
use Rattle.mvt_meaning.proofs.Positions.{positions_from, positions_pass, positions_skip, positions_within}

-- ---- a list changed from the item of an ordinal on

pub from_here : {A : Type 0} (passes : A → Bool) (change : List A → List A) (x : A) (xs : List A) → passes x ≡ true → from_nth passes change 0 (x ∷ xs) ≡ change (x ∷ xs)
from_here passes change x xs pass = rw pass refl

pub from_later : {A : Type 0} (passes : A → Bool) (change : List A → List A) (ordinal : ℕ) (x : A) (xs : List A) → passes x ≡ true → from_nth passes change (suc ordinal) (x ∷ xs) ≡ x ∷ from_nth passes change ordinal xs
from_later passes change ordinal x xs pass =
    let less : suc ordinal - 1 ≡ ordinal = omega arith in
    let other : (suc ordinal == 0) ≡ false = grind (arith, nat_tests) in
    rw (pass, less, other) refl

pub from_after : {A : Type 0} (passes : A → Bool) (change : List A → List A) (ordinal : ℕ) (x : A) (xs : List A) → passes x ≡ false → from_nth passes change ordinal (x ∷ xs) ≡ x ∷ from_nth passes change ordinal xs
from_after passes change ordinal x xs skip = rw skip refl

-- one more item in front, where the place is after it
one_before : {A : Type 0} (change : List A → List A) (x : A) (xs rest : List A) (n j k : ℕ) → n + 1 ≤ k → k ≡ n + j → ((i : ℕ) → k ≡ n + 1 + i → rest ≡ take i xs ++ change (drop i xs)) → x ∷ rest ≡ take j (x ∷ xs) ++ change (drop j (x ∷ xs))
one_before change x xs rest n zero k low at more = absurd (omega arith)
one_before change x xs rest n (suc i) k low at more = ap (λ ys. x ∷ ys) (more i (omega arith))

none_before : {A : Type 0} (change : List A → List A) (xs : List A) (n j k : ℕ) → n ≡ k → k ≡ n + j → change xs ≡ take j xs ++ change (drop j xs)
none_before change xs n zero k here at = refl
none_before change xs n (suc i) k here at = absurd (omega arith)

from_first : {A : Type 0} (passes : A → Bool) (change : List A → List A) (n : ℕ) (x : A) (xs : List A) (ordinal k j : ℕ) → passes x ≡ true → slice_get (n ∷ positions_from passes (n + 1) xs) ordinal ≡ Some k → k ≡ n + j → ((m i : ℕ) → slice_get (positions_from passes (n + 1) xs) m ≡ Some k → k ≡ n + 1 + i → from_nth passes change m xs ≡ take i xs ++ change (drop i xs)) → from_nth passes change ordinal (x ∷ xs) ≡ take j (x ∷ xs) ++ change (drop j (x ∷ xs))
from_first passes change n x xs zero k j pass e at more = let here : n ≡ k = cc in from_here passes change x xs pass ∙ none_before change (x ∷ xs) n j k here at
from_first passes change n x xs (suc m) k j pass e at more =
    from_later passes change m x xs pass ∙ one_before change x xs (from_nth passes change m xs) n j k (positions_within passes (n + 1) xs m k e).0 at (λ i at. more m i e at)

-- the prefix up to the position stays, and the rest is changed
pub from_nth_at : {A : Type 0} (passes : A → Bool) (change : List A → List A) (n : ℕ) (xs : List A) (ordinal k j : ℕ) → slice_get (positions_from passes n xs) ordinal ≡ Some k → k ≡ n + j → from_nth passes change ordinal xs ≡ take j xs ++ change (drop j xs)
from_nth_at passes change n [] ordinal k j e at = absurd cc
from_nth_at passes change n (x ∷ xs) ordinal k j e at =
    elim (cases_Bool (passes x)) [
      | inl pass ↦ from_first passes change n x xs ordinal k j pass (rw (positions_pass passes n x xs pass) at e) at (λ m i e at. from_nth_at passes change (n + 1) xs m k i e at)
      | inr skip ↦ (
          let there = rw (positions_skip passes n x xs skip) at e in
          from_after passes change ordinal x xs skip
          ∙ one_before change x xs (from_nth passes change ordinal xs) n j k (positions_within passes (n + 1) xs ordinal k there).0 at (λ i at. from_nth_at passes change (n + 1) xs ordinal k i there at)
          )
    ]

pub from_nth_splits : {A : Type 0} (passes : A → Bool) (change : List A → List A) (xs : List A) (ordinal position : ℕ) → slice_get (positions_from passes 0 xs) ordinal ≡ Some position → from_nth passes change ordinal xs ≡ take position xs ++ change (drop position xs)
from_nth_splits passes change xs ordinal position e = from_nth_at passes change 0 xs ordinal position position e (omega arith)

change_at_splits : {A : Type 0} (change : A → A) (position : ℕ) (xs : List A) → change_at change position xs ≡ take position xs ++ change_first change (drop position xs)
change_at_splits change zero [] = refl
change_at_splits change (suc position) [] = refl
change_at_splits change zero (x ∷ xs) = refl
change_at_splits change (suc position) (x ∷ xs) = ap (λ ys. x ∷ ys) (change_at_splits change position xs)

pub change_nth_found : {A : Type 0} (passes : A → Bool) (change : A → A) (xs : List A) (ordinal position : ℕ) → slice_get (positions_from passes 0 xs) ordinal ≡ Some position → change_nth passes change ordinal xs ≡ change_at change position xs
change_nth_found passes change xs ordinal position e =
    from_nth_splits passes (change_first change) xs ordinal position e ∙ sym (change_at_splits change position xs)

-- ---- the item of an ordinal

get_first : {A : Type 0} (n : ℕ) (x : A) (xs ys : List A) (positions : List ℕ) (ordinal k j : ℕ) → slice_get (n ∷ positions) ordinal ≡ Some k → k ≡ n + j → ((m : ℕ) → slice_get positions m ≡ Some k → n + 1 ≤ k) → ((m i : ℕ) → slice_get positions m ≡ Some k → k ≡ n + 1 + i → slice_get ys m ≡ slice_get xs i) → slice_get (x ∷ ys) ordinal ≡ slice_get (x ∷ xs) j
get_first n x xs ys positions zero k zero e at low more = refl
get_first n x xs ys positions zero k (suc i) e at low more = let here : n ≡ k = cc in absurd (omega arith)
get_first n x xs ys positions (suc m) k zero e at low more = let bound = low m e in absurd (omega arith)
get_first n x xs ys positions (suc m) k (suc i) e at low more = more m i e (omega arith)

get_following : {A : Type 0} (n : ℕ) (x : A) (xs ys : List A) (ordinal k j : ℕ) → n + 1 ≤ k → k ≡ n + j → ((i : ℕ) → k ≡ n + 1 + i → slice_get ys ordinal ≡ slice_get xs i) → slice_get ys ordinal ≡ slice_get (x ∷ xs) j
get_following n x xs ys ordinal k zero low at more = absurd (omega arith)
get_following n x xs ys ordinal k (suc i) low at more = more i (omega arith)

pub filtered_pass : {A : Type 0} (passes : A → Bool) (x : A) (xs : List A) → passes x ≡ true → filter passes (x ∷ xs) ≡ x ∷ filter passes xs
filtered_pass passes x xs pass = rw pass refl

pub filtered_skip : {A : Type 0} (passes : A → Bool) (x : A) (xs : List A) → passes x ≡ false → filter passes (x ∷ xs) ≡ filter passes xs
filtered_skip passes x xs skip = rw skip refl

pub filtered_at : {A : Type 0} (passes : A → Bool) (n : ℕ) (xs : List A) (ordinal k j : ℕ) → slice_get (positions_from passes n xs) ordinal ≡ Some k → k ≡ n + j → slice_get (filter passes xs) ordinal ≡ slice_get xs j
filtered_at passes n [] ordinal k j e at = absurd cc
filtered_at passes n (x ∷ xs) ordinal k j e at =
    elim (cases_Bool (passes x)) [
      | inl pass ↦ rw (filtered_pass passes x xs pass) (get_first n x xs (filter passes xs) (positions_from passes (n + 1) xs) ordinal k j (rw (positions_pass passes n x xs pass) at e) at (λ m e. (positions_within passes (n + 1) xs m k e).0) (λ m i e at. filtered_at passes (n + 1) xs m k i e at))
      | inr skip ↦ (
          let there = rw (positions_skip passes n x xs skip) at e in
          rw (filtered_skip passes x xs skip) (get_following n x xs (filter passes xs) ordinal k j (positions_within passes (n + 1) xs ordinal k there).0 at (λ i at. filtered_at passes (n + 1) xs ordinal k i there at))
          )
    ]

-- the item of this ordinal among those that pass is the one at its position
pub filtered_found : {A : Type 0} (passes : A → Bool) (xs : List A) (ordinal position : ℕ) → slice_get (positions_from passes 0 xs) ordinal ≡ Some position → slice_get (filter passes xs) ordinal ≡ slice_get xs position
filtered_found passes xs ordinal position e = filtered_at passes 0 xs ordinal position position e (omega arith)

-- what is picked from the items of a list is picked from those of them that yield something
picked_of : {A B : Type 0} (pick : A → Option B) (x : A) (picked : Option B) (xs : List A) (ordinal : ℕ) → pick x ≡ picked → ((m : ℕ) → slice_get (filter_map pick xs) m ≡ option_and_then pick (slice_get (filter (λ y. is_some (pick y)) xs) m)) → slice_get (filter_map pick (x ∷ xs)) ordinal ≡ option_and_then pick (slice_get (filter (λ y. is_some (pick y)) (x ∷ xs)) ordinal)
picked_of pick x None xs ordinal e more = rw e (more ordinal)
picked_of pick x (Some y) xs zero e more = rw e (sym e)
picked_of pick x (Some y) xs (suc m) e more = rw e (more m)

pub picked_at : {A B : Type 0} (pick : A → Option B) (xs : List A) (ordinal : ℕ) → slice_get (filter_map pick xs) ordinal ≡ option_and_then pick (slice_get (filter (λ y. is_some (pick y)) xs) ordinal)
picked_at pick [] ordinal = refl
picked_at pick (x ∷ xs) ordinal = picked_of pick x (pick x) xs ordinal refl (λ m. picked_at pick xs m)

pub picked_found : {A B : Type 0} (pick : A → Option B) (xs : List A) (ordinal position : ℕ) → slice_get (positions_from (λ y. is_some (pick y)) 0 xs) ordinal ≡ Some position → slice_get (filter_map pick xs) ordinal ≡ option_and_then pick (slice_get xs position)
picked_found pick xs ordinal position e =
    picked_at pick xs ordinal ∙ ap (option_and_then pick) (filtered_found (λ y. is_some (pick y)) xs ordinal position e)

past_of : {A B : Type 0} (pick : A → Option B) (n : ℕ) (x : A) (picked : Option B) (xs : List A) (ordinal : ℕ) → pick x ≡ picked → slice_get (positions_from (λ y. is_some (pick y)) n (x ∷ xs)) ordinal ≡ None → ((m : ℕ) → slice_get (positions_from (λ y. is_some (pick y)) (n + 1) xs) m ≡ None → length (filter_map pick xs) ≤ m) → length (filter_map pick (x ∷ xs)) ≤ ordinal
past_of pick n x None xs ordinal e none more = rw e (more ordinal (rw (positions_skip (λ y. is_some (pick y)) n x xs (ap (λ picked. is_some picked) e)) at none))
past_of pick n x (Some y) xs zero e none more = absurd (let here = rw (positions_pass (λ y. is_some (pick y)) n x xs (ap (λ picked. is_some picked) e)) at none in cc)
past_of pick n x (Some y) xs (suc m) e none more =
    let later = more m (rw (positions_pass (λ y. is_some (pick y)) n x xs (ap (λ picked. is_some picked) e)) at none) in rw e (omega arith)

-- the items of the layer, and the fields of the feature, that are the ones of these ordinals
pub items_of_nth : (document : Document) (ordinal : ℕ) (layer : Layer) → slice_get (filter is_layer document) ordinal ≡ Some (OfLayer layer) → items_of ordinal document ≡ layer.items
items_of_nth document ordinal layer there =
    ap (λ found. option_map_or (λ (layer : Layer). layer.items) found []) (picked_at layer_in document ordinal ∙ ap (option_and_then layer_in) there)

pub fields_of_nth : (document : Document) (ordinal index : ℕ) (items : List LayerItem) (feature : Feature) → items_of ordinal document ≡ items → slice_get (filter is_feature items) index ≡ Some (OfFeature feature) → fields_of ordinal index document ≡ feature.fields
fields_of_nth document ordinal index items feature is there =
    let in_item : Option LayerItem → List Field = λ item. option_map_or (λ item. option_map_or (λ (fields : List Field). fields) (fields_in item) []) item [] in
    ap (λ (items : List LayerItem). in_item (slice_get (filter is_feature items) index)) is ∙ ap in_item there

-- an ordinal without a position is past the last
pub no_position_past : {A B : Type 0} (pick : A → Option B) (n : ℕ) (xs : List A) (ordinal : ℕ) → slice_get (positions_from (λ y. is_some (pick y)) n xs) ordinal ≡ None → length (filter_map pick xs) ≤ ordinal
no_position_past pick n [] ordinal none = omega arith
no_position_past pick n (x ∷ xs) ordinal none = past_of pick n x (pick x) xs ordinal refl none (λ m none. no_position_past pick (n + 1) xs m none)

-- ---- a layer of a document, and a feature of it

module _ (document : Document) (ordinal position : ℕ) (layer : Layer) (placed : slice_get (layer_positions document) ordinal ≡ Some position) (there : slice_get document position ≡ Some (OfLayer layer)) where
  pub layer_found : slice_get (layers document) ordinal ≡ Some layer
  layer_found = picked_found layer_in document ordinal position placed ∙ ap (option_and_then layer_in) there

  pub items_of_found : items_of ordinal document ≡ layer.items
  items_of_found = ap (λ found. option_map_or (λ (layer : Layer). layer.items) found []) layer_found

  pub selected_in_found : (choice : FeatureChoice) → selected_in choice ordinal document ≡ selected_feature choice layer
  selected_in_found choice = ap (λ found. option_map_or (selected_feature choice) found (Err NoLayer)) layer_found

  pub items_at_found : items_at position document ≡ Some layer.items
  items_at_found = ap (option_and_then items_in) there

  pub change_layer_found : (change : List LayerItem → List LayerItem) → change_layer change ordinal document ≡ change_items change position document
  change_layer_found change = change_nth_found is_layer (in_layer change) document ordinal position placed

pub change_items_same : (f g : List LayerItem → List LayerItem) (position : ℕ) (document : Document) (layer : Layer) → slice_get document position ≡ Some (OfLayer layer) → f layer.items ≡ g layer.items → change_items f position document ≡ change_items g position document
change_items_same f g position document layer there same =
    let with_items : List LayerItem → TileItem = λ items. OfLayer (record { tag = layer.tag; width = layer.width; items = items }) in
    changed_alike (in_layer f) (in_layer g) position document (OfLayer layer) there (ap with_items same)

pub change_fields_same : (f g : List Field → List Field) (position item : ℕ) (document : Document) (layer : Layer) (feature : Feature) → slice_get document position ≡ Some (OfLayer layer) → slice_get layer.items item ≡ Some (OfFeature feature) → f feature.fields ≡ g feature.fields → change_fields f position item document ≡ change_fields g position item document
change_fields_same f g position item document layer feature there within same =
    let with_fields : List Field → LayerItem = λ fields. OfFeature (record { tag = feature.tag; width = feature.width; fields = fields }) in
    change_items_same (change_at (in_feature f) item) (change_at (in_feature g) item) position document layer there
    (changed_alike (in_feature f) (in_feature g) item layer.items (OfFeature feature) within (ap with_fields same))

module _ (document : Document) (ordinal position : ℕ) (layer : Layer) (placed : slice_get (layer_positions document) ordinal ≡ Some position) (there : slice_get document position ≡ Some (OfLayer layer)) (selects item : ℕ) (feature : Feature) (feature_placed : slice_get (feature_positions layer.items) selects ≡ Some item) (feature_there : slice_get layer.items item ≡ Some (OfFeature feature)) where
  pub fields_at_found : fields_at position item document ≡ Some feature.fields
  fields_at_found =
      ap (option_and_then (fields_in_at item)) (items_at_found document ordinal position layer placed there) ∙ ap (option_and_then fields_in) feature_there

  pub fields_of_found : fields_of ordinal selects document ≡ feature.fields
  fields_of_found =
      ap (λ items. option_map_or (λ item. option_map_or (λ (fields : List Field). fields) (fields_in item) []) (slice_get (filter is_feature items) selects) []) (items_of_found document ordinal position layer placed there)
      ∙ ap (λ found. option_map_or (λ item. option_map_or (λ (fields : List Field). fields) (fields_in item) []) found []) (filtered_found is_feature layer.items selects item feature_placed ∙ feature_there)

  pub change_feature_found : (change : List Field → List Field) → change_feature change ordinal selects document ≡ change_fields change position item document
  change_feature_found change =
      change_layer_found document ordinal position layer placed there (change_nth is_feature (in_feature change) selects)
      ∙ change_items_same (change_nth is_feature (in_feature change) selects) (change_at (in_feature change) item) position document layer there
      (change_nth_found is_feature (in_feature change) layer.items selects item feature_placed)

-- ---- what is found after a change

get_changed : {A : Type 0} (change : A → A) (position : ℕ) (xs : List A) (x : A) → slice_get xs position ≡ Some x → slice_get (change_at change position xs) position ≡ Some (change x)
get_changed change position [] x is = absurd cc
get_changed change zero (y ∷ xs) x is = let here : y ≡ x = cc in ap (λ z. Some (change z)) here
get_changed change (suc position) (y ∷ xs) x is = get_changed change position xs x is

same_next : {A : Type 0} (passes : A → Bool) (n : ℕ) (x y : A) (xs ys : List A) → passes y ≡ passes x → positions_from passes (n + 1) ys ≡ positions_from passes (n + 1) xs → positions_from passes n (y ∷ ys) ≡ positions_from passes n (x ∷ xs)
same_next passes n x y xs ys same rest =
    elim (cases_Bool (passes x)) [
      | inl pass ↦ positions_pass passes n y ys (same ∙ pass) ∙ ap (λ later. n ∷ later) rest ∙ sym (positions_pass passes n x xs pass)
      | inr skip ↦ positions_skip passes n y ys (same ∙ skip) ∙ rest ∙ sym (positions_skip passes n x xs skip)
    ]

same_positions : {A : Type 0} (passes : A → Bool) (change : A → A) (n position : ℕ) (xs : List A) → ((x : A) → passes (change x) ≡ passes x) → positions_from passes n (change_at change position xs) ≡ positions_from passes n xs
same_positions passes change n position [] keeps = refl
same_positions passes change n zero (x ∷ xs) keeps = same_next passes n x (change x) xs xs (keeps x) refl
same_positions passes change n (suc position) (x ∷ xs) keeps = same_next passes n x x xs (change_at change position xs) refl (same_positions passes change (n + 1) position xs keeps)

pub still_layer : (change : List LayerItem → List LayerItem) (item : TileItem) → is_layer (in_layer change item) ≡ is_layer item
still_layer change (OfLayer layer) = refl
still_layer change (PlainInTile field) = refl

pub still_feature : (change : List Field → List Field) (item : LayerItem) → is_feature (in_feature change item) ≡ is_feature item
still_feature change (OfFeature feature) = refl
still_feature change (PlainInLayer field) = refl

module _ (document : Document) (ordinal position : ℕ) (layer : Layer) (placed : slice_get (layer_positions document) ordinal ≡ Some position) (there : slice_get document position ≡ Some (OfLayer layer)) where
  pub items_changed : (change : List LayerItem → List LayerItem) → items_of ordinal (change_layer change ordinal document) ≡ change layer.items
  items_changed change =
      let made = change_items change position document in
      let changed : Layer = record { tag = layer.tag; width = layer.width; items = change layer.items } in
      ap (items_of ordinal) (change_layer_found document ordinal position layer placed there change)
      ∙ items_of_found made ordinal position changed
      (ap (λ positions. slice_get positions ordinal) (same_positions is_layer (in_layer change) 0 position document (still_layer change)) ∙ placed)
      (get_changed (in_layer change) position document (OfLayer layer) there)

module _ (document : Document) (ordinal position : ℕ) (layer : Layer) (placed : slice_get (layer_positions document) ordinal ≡ Some position) (there : slice_get document position ≡ Some (OfLayer layer)) (selects item : ℕ) (feature : Feature) (feature_placed : slice_get (feature_positions layer.items) selects ≡ Some item) (feature_there : slice_get layer.items item ≡ Some (OfFeature feature)) where
  pub fields_changed : (change : List Field → List Field) → fields_of ordinal selects (change_feature change ordinal selects document) ≡ change feature.fields
  fields_changed change =
      let inner = change_at (in_feature change) item in
      let made = change_items inner position document in
      let changed_layer : Layer = record { tag = layer.tag; width = layer.width; items = inner layer.items } in
      let changed : Feature = record { tag = feature.tag; width = feature.width; fields = change feature.fields } in
      ap (fields_of ordinal selects) (change_feature_found document ordinal position layer placed there selects item feature feature_placed feature_there change)
      ∙ fields_of_found made ordinal position changed_layer
      (ap (λ positions. slice_get positions ordinal) (same_positions is_layer (in_layer inner) 0 position document (still_layer inner)) ∙ placed)
      (get_changed (in_layer inner) position document (OfLayer layer) there)
      selects item changed
      (ap (λ positions. slice_get positions selects) (same_positions is_feature (in_feature change) 0 item layer.items (still_feature change)) ∙ feature_placed)
      (get_changed (in_feature change) item layer.items (OfFeature feature) feature_there)
