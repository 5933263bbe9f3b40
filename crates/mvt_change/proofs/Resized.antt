-- How many bytes a list takes if a part of it is exchanged, an item is changed, or an item moves; and a message around
-- it.
use Rattle.std.proofs.Common.{◌≡◌, ℕ, zero, suc, ◌+◌, ◌<◌, ◌≤◌, max, not, ltb, Option, Some, None, is_some, List, [], ◌∷◌, ◌++◌, length, length-append, get_or, option_map, slice_get, take, map, refl, sym, ap, ◌∙◌, subst, arith}
use Rattle.std.specs.List.{flat_map}
use Rattle.std.specs.Option.{IfSome, IsSome, IsSomeAnd, SomeIff, option_and_then}
use Rattle.std.proofs.lemmas.Bool.Decides.{nat_tests}
use Rattle.std.proofs.lemmas.List.Folds.{flat_map-map}
use Rattle.std.proofs.lemmas.Option.{same_Some, slice_get-map, slice_get_read}
use Rattle.mvt_document.specs.Plain.{Field, Feature, LayerItem, OfFeature, PlainInLayer, Layer, TileItem, OfLayer, PlainInTile, Document}
use Rattle.mvt_document.specs.Wire.{spell, minimal_width, delimited, field_bytes, layer_item_bytes, tile_item_bytes, bytes_of}
use Rattle.mvt_document.specs.Kept.{bytes_beside}
use Rattle.mvt_document.specs.Splicing.{splice, moved}
use Rattle.mvt_document.proofs.Options.{where_some}
use Rattle.mvt_document.proofs.Beside.{spliced_size, moved_size}
use Rattle.mvt_document.proofs.Sizes.{length-message}
use Rattle.mvt_document.specs.Lists.{change_at}
use Rattle.mvt_document.specs.Places.{change_items, fields_in, fields_in_at, in_feature, in_layer, items_at, items_in}
use Rattle.mvt_change.specs.Changes.{Place, OfTheTile, OfTheLayer, OfTheFeature, change_list}
use Rattle.mvt_change.proofs.Changed.{map-splice}

pub fits_so : (limit : ℕ) (answered : Option ℕ) (n : ℕ) → SomeIff answered (n ≤ limit) n → is_some answered ≡ not (ltb limit n)
fits_so limit None n none = grind (arith, nat_tests)
fits_so limit (Some m) n some = grind (arith, nat_tests)

-- ---- a part of a list

-- what stays and what comes make up the whole
pub exchanged_size : {A B : Type 0} (bytes : B → List ℕ) (g : A → B) (index taken : ℕ) (put items : List A) → length (flat_map (λ a. bytes (g a)) (splice index taken [] items)) + length (flat_map (λ a. bytes (g a)) put) ≡ length (flat_map bytes (splice index taken (map g put) (map g items)))
exchanged_size bytes g index taken put items =
    let full = spliced_size (λ a. bytes (g a)) index taken put items in
    let without = spliced_size (λ a. bytes (g a)) index taken [] items in
    let same = ap (λ xs. length (flat_map bytes xs)) (sym (map-splice g index taken put items)) ∙ ap length (flat_map-map bytes g (splice index taken put items)) in
    omega (arith, full, without, same)

-- ---- one item

-- the bytes beside an item and those that it takes once changed make up the whole
pub changed_size : {A B : Type 0} (bytes : B → List ℕ) (g : A → B) (change : B → B) (at : ℕ) (items : List A) (y : B) → slice_get (map g items) at ≡ Some y → bytes_beside (λ a. bytes (g a)) at items + length (bytes (change y)) ≡ length (flat_map bytes (change_at change at (map g items)))
changed_size bytes g change at [] y there = absurd cc
changed_size bytes g change zero (x ∷ items) y there =
    let others = ap length (flat_map-map bytes g items) in
    let here : length (bytes (change (g x))) ≡ length (bytes (change y)) = ap (λ z. length (bytes (change z))) (same_Some (g x) y there) in
    omega (arith, length-append (bytes (change (g x))) (flat_map bytes (map g items)), others, here)
changed_size bytes g change (suc at) (x ∷ items) y there =
    let rest = changed_size bytes g change at items y there in
    omega (arith, rest, length-append (bytes (g x)) (flat_map bytes (change_at change at (map g items))), length-append (bytes (g x)) (flat_map (λ a. bytes (g a)) (take at items)))

same_at : {A : Type 0} (bytes : A → List ℕ) (change : A → A) → ((x : A) → length (bytes (change x)) ≡ length (bytes x)) → (at : ℕ) (items : List A) → length (flat_map bytes (change_at change at items)) ≡ length (flat_map bytes items)
same_at bytes change same at [] = refl
same_at bytes change same zero (x ∷ items) =
    omega (arith, same x, length-append (bytes (change x)) (flat_map bytes items), length-append (bytes x) (flat_map bytes items))
same_at bytes change same (suc at) (x ∷ items) =
    omega (arith, same_at bytes change same at items, length-append (bytes x) (flat_map bytes (change_at change at items)), length-append (bytes x) (flat_map bytes items))

-- ---- a message

pub message_so : (value tag_width width n : ℕ) (content : List ℕ) → n ≡ length content → tag_width + (max width (minimal_width n) + n) ≡ length (spell value tag_width ++ delimited width content)
message_so value tag_width width n content same =
    ap (λ k. tag_width + (max width (minimal_width k) + k)) same ∙ sym (length-message value tag_width width content)

same_message : (value tag_width width : ℕ) (new old : List ℕ) → length new ≡ length old → length (spell value tag_width ++ delimited width new) ≡ length (spell value tag_width ++ delimited width old)
same_message value tag_width width new old same =
    sym (message_so value tag_width width (length new) new refl) ∙ message_so value tag_width width (length new) old same

in_layer_same : (change : List LayerItem → List LayerItem) → ((items : List LayerItem) → length (flat_map layer_item_bytes (change items)) ≡ length (flat_map layer_item_bytes items)) → (item : TileItem) → length (tile_item_bytes (in_layer change item)) ≡ length (tile_item_bytes item)
in_layer_same change same (OfLayer layer) =
    same_message layer.tag.value layer.tag.width layer.width (flat_map layer_item_bytes (change layer.items)) (flat_map layer_item_bytes layer.items) (same layer.items)
in_layer_same change same (PlainInTile field) = refl

in_feature_same : (change : List Field → List Field) → ((fields : List Field) → length (flat_map field_bytes (change fields)) ≡ length (flat_map field_bytes fields)) → (item : LayerItem) → length (layer_item_bytes (in_feature change item)) ≡ length (layer_item_bytes item)
in_feature_same change same (OfFeature feature) =
    same_message feature.tag.value feature.tag.width feature.width (flat_map field_bytes (change feature.fields)) (flat_map field_bytes feature.fields) (same feature.fields)
in_feature_same change same (PlainInLayer field) = refl

-- ---- a move keeps the size

pub moved_same : (place : Place) (from to : ℕ) (document : Document) → length (bytes_of document) ≡ length (bytes_of (change_list place (moved from to) document))
moved_same OfTheTile from to document = sym (moved_size tile_item_bytes from to document)
moved_same (OfTheLayer layer) from to document =
    let items = in_layer_same (moved from to) (λ xs. moved_size layer_item_bytes from to xs) in
    sym (same_at tile_item_bytes (in_layer (moved from to)) items layer document)
moved_same (OfTheFeature layer item) from to document =
    let fields = in_feature_same (moved from to) (λ xs. moved_size field_bytes from to xs) in
    let change : List LayerItem → List LayerItem = λ xs. change_at (in_feature (moved from to)) item xs in
    let items = in_layer_same change (λ xs. same_at layer_item_bytes (in_feature (moved from to)) fields item xs) in
    sym (same_at tile_item_bytes (in_layer change) items layer document)

-- ---- what holds for the list that is there

module _ (at : ℕ) (document : Document) (layer : Layer) (Q : List LayerItem → Type 0) (there : slice_get document at ≡ Some (OfLayer layer)) where
  pub items_there : Q layer.items → IfSome (items_at at document) Q
  items_there so = subst (λ found. IfSome (option_and_then items_in found) Q) (sym there) so

  pub of_items_there : IfSome (items_at at document) Q → Q layer.items
  of_items_there so = subst (λ found. IfSome (option_and_then items_in found) Q) there so

module _ (at : ℕ) (items : List LayerItem) (feature : Feature) (Q : List Field → Type 0) (there : slice_get items at ≡ Some (OfFeature feature)) where
  pub fields_there : Q feature.fields → IfSome (fields_in_at at items) Q
  fields_there so = subst (λ found. IfSome (option_and_then fields_in found) Q) (sym there) so

  pub of_fields_there : IfSome (fields_in_at at items) Q → Q feature.fields
  of_fields_there so = subst (λ found. IfSome (option_and_then fields_in found) Q) there so

pub some_found : {A : Type 0} (found : Option A) (Q : A → Type 0) → IsSomeAnd found Q → IsSome found
some_found found Q some = where_some found Q IsSome (λ x holds. refl) some

pub some_around : {A B : Type 0} (deeper : A → Option B) (found : Option A) → IsSome (option_and_then deeper found) → IsSome found
some_around deeper None some = some
some_around deeper (Some x) some = refl

-- ---- the item that is read, where there is a list in it

there_in : {A B C : Type 0} (inside : B → Option C) (g : A → B) (items : List A) (at : ℕ) → IsSome (option_and_then inside (slice_get (map g items) at)) → at < length items
there_in inside g [] at some = absurd cc
there_in inside g (x ∷ items) zero some = omega arith
there_in inside g (x ∷ items) (suc at) some = omega (arith, there_in inside g items at some)

none_there : {C : Type 0} (found : Option C) → found ≡ None → IsSome found → ⊥
none_there None none some = cc
none_there (Some x) none some = cc

module _ {A B C : Type 0} (inside : B → Option C) (g : A → B) (items shown : List A) (at : ℕ) (all : shown ≡ items) (some : IsSome (option_and_then inside (slice_get (map g items) at))) where
  pub is_there : at < length shown
  is_there = subst (λ xs. at < length xs) (sym all) (there_in inside g items at some)

  pub is_read : (x y : A) → x ≡ get_or shown at x → x ≡ y → slice_get (map g items) at ≡ Some (g y)
  is_read x y read is =
      let found : slice_get items at ≡ Some x = subst (λ xs. slice_get xs at ≡ Some x) all (slice_get_read shown (length shown) at x refl is_there read) in
      slice_get-map g items at ∙ ap (option_map g) found ∙ ap (λ z. Some (g z)) is

  pub is_no_other : (x y : A) → x ≡ get_or shown at x → x ≡ y → inside (g y) ≡ None → ⊥
  is_no_other x y read is none =
      let here : IsSome (inside (g y)) = subst (λ o. IsSome (option_and_then inside o)) (is_read x y read is) some in
      none_there (inside (g y)) none here

-- ---- a layer and a feature with other items

-- the tile with the items of a layer changed: what is beside the layer, and the layer as it is then
pub tile_resized : {A : Type 0} (g : A → TileItem) (change : List LayerItem → List LayerItem) (at : ℕ) (items : List A) (layer : Layer) (n : ℕ) → slice_get (map g items) at ≡ Some (OfLayer layer) → n ≡ length (flat_map layer_item_bytes (change layer.items)) → bytes_beside (λ item. tile_item_bytes (g item)) at items + (layer.tag.width + (max layer.width (minimal_width n) + n)) ≡ length (bytes_of (change_items change at (map g items)))
tile_resized g change at items layer n there takes =
    let whole = message_so layer.tag.value layer.tag.width layer.width n (flat_map layer_item_bytes (change layer.items)) takes in
    omega (arith, whole, changed_size tile_item_bytes g (in_layer change) at items (OfLayer layer) there)

-- the items of a layer with the fields of a feature changed, likewise
pub items_resized : {A : Type 0} (g : A → LayerItem) (change : List Field → List Field) (at : ℕ) (items : List A) (feature : Feature) (n : ℕ) → slice_get (map g items) at ≡ Some (OfFeature feature) → n ≡ length (flat_map field_bytes (change feature.fields)) → bytes_beside (λ item. layer_item_bytes (g item)) at items + (feature.tag.width + (max feature.width (minimal_width n) + n)) ≡ length (flat_map layer_item_bytes (change_at (in_feature change) at (map g items)))
items_resized g change at items feature n there takes =
    let whole = message_so feature.tag.value feature.tag.width feature.width n (flat_map field_bytes (change feature.fields)) takes in
    omega (arith, whole, changed_size layer_item_bytes g (in_feature change) at items (OfFeature feature) there)
