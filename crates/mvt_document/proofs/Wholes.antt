-- Items of messages as the fields in their places.
use Rattle.std.proofs.Common.{◌≡◌, ℕ, ◌%◌, List, [], ◌∷◌, ◌++◌, map, refl, sym, ap, ◌∙◌, arith}
use Rattle.std.specs.List.{flat_map, AllByRecursion}
use Rattle.std.proofs.lemmas.List.Folds.{flat_map-map}
use Rattle.mvt_document.specs.Plain.{Number, Body, Delimited, Field, Feature, LayerItem, OfFeature, PlainInLayer, Layer, TileItem, OfLayer, PlainInTile}
use Rattle.mvt_document.specs.Wire.{field_bytes, layer_item_bytes, tile_item_bytes}
use Rattle.mvt_document.specs.Groups.{StoresField}
use Rattle.mvt_document.specs.Opens.{IsField, IsLayerItem, IsTileItem, StoresLayerItem, StoresTileItem}
use Rattle.mvt_document.specs.Parts.{feature_field, layer_item_field, layer_field, tile_item_field, IsWholeField, IsWholeLayerItem, IsWholeTileItem, MakesLayerItem, MakesTileItem}
use Rattle.mvt_document.proofs.EachItem.{all_by, all_of_map, all_with}
use Rattle.mvt_document.proofs.Prefixes.{field_with}
use Rattle.mvt_document.proofs.Lists.{same_each}

pub layer_item-bytes : (i : LayerItem) → layer_item_bytes i ≡ field_bytes (layer_item_field i)
layer_item-bytes (OfFeature feature) = refl
layer_item-bytes (PlainInLayer field) = refl

pub tile_item-bytes : (i : TileItem) → tile_item_bytes i ≡ field_bytes (tile_item_field i)
tile_item-bytes (OfLayer layer) = refl
tile_item-bytes (PlainInTile field) = refl

pub layer_items-bytes : {T : Type 0} (f : T → LayerItem) (xs : List T) → flat_map layer_item_bytes (map f xs) ≡ flat_map (λ x. field_bytes (layer_item_field (f x))) xs
layer_items-bytes f xs =
    flat_map-map layer_item_bytes f xs ∙ same_each (λ x. layer_item_bytes (f x)) (λ x. field_bytes (layer_item_field (f x))) (λ x. layer_item-bytes (f x)) xs

pub tile_items-bytes : {T : Type 0} (f : T → TileItem) (xs : List T) → flat_map tile_item_bytes (map f xs) ≡ flat_map (λ x. field_bytes (tile_item_field (f x))) xs
tile_items-bytes f xs =
    flat_map-map tile_item_bytes f xs ∙ same_each (λ x. tile_item_bytes (f x)) (λ x. field_bytes (tile_item_field (f x))) (λ x. tile_item-bytes (f x)) xs

-- ---- items are fields

pub layer_item_is_field : (i : LayerItem) → IsWholeLayerItem i → IsWholeField (layer_item_field i)
layer_item_is_field (OfFeature f) p =
    let tag : f.tag.value ≡ 18 = p.valid.tag in
    let kind : f.tag.value % 8 ≡ 2 = ap (λ (v : ℕ). v % 8) tag in
    record {
      valid = record {
        number = p.valid.number;
        tag = record { numbered = omega arith; short = omega arith; typed = kind };
        body = p.valid.width;
      };
      stored = p.stored.own;
    }
layer_item_is_field (PlainInLayer f) p = record { valid = p.valid.0; stored = p.stored }

pub tile_item_is_field : (i : TileItem) → IsWholeTileItem i → IsWholeField (tile_item_field i)
tile_item_is_field (OfLayer l) p =
    let tag : l.tag.value ≡ 26 = p.valid.tag in
    let kind : l.tag.value % 8 ≡ 2 = ap (λ (v : ℕ). v % 8) tag in
    record {
      valid = record {
        number = p.valid.number;
        tag = record { numbered = omega arith; short = omega arith; typed = kind };
        body = p.valid.width;
      };
      stored = p.stored.own;
    }
tile_item_is_field (PlainInTile f) p = record { valid = p.valid.0; stored = p.stored }

-- ---- each of a list

pub layer_items_whole : (items : List LayerItem) → AllByRecursion IsLayerItem items → AllByRecursion StoresLayerItem items → AllByRecursion IsWholeLayerItem items
layer_items_whole items p q = all_with IsLayerItem StoresLayerItem IsWholeLayerItem (λ i v s. record { valid = v; stored = s }) items p q

pub tile_items_whole : (items : List TileItem) → AllByRecursion IsTileItem items → AllByRecursion StoresTileItem items → AllByRecursion IsWholeTileItem items
tile_items_whole items p q = all_with IsTileItem StoresTileItem IsWholeTileItem (λ i v s. record { valid = v; stored = s }) items p q

-- whole items are fields that make items
pub layer_items_are_fields : (items : List LayerItem) → AllByRecursion IsWholeLayerItem items → AllByRecursion IsWholeField (map layer_item_field items)
layer_items_are_fields items p =
    all_of_map layer_item_field IsWholeField items (all_by IsWholeLayerItem (λ i. IsWholeField (layer_item_field i)) layer_item_is_field items p)

pub layer_items_made : (items : List LayerItem) → AllByRecursion IsWholeLayerItem items → AllByRecursion MakesLayerItem (map layer_item_field items)
layer_items_made items p =
    all_of_map layer_item_field MakesLayerItem items (all_by IsWholeLayerItem (λ i. MakesLayerItem (layer_item_field i)) (λ i q. (i, q, refl)) items p)

pub tile_items_are_fields : (items : List TileItem) → AllByRecursion IsWholeTileItem items → AllByRecursion IsWholeField (map tile_item_field items)
tile_items_are_fields items p =
    all_of_map tile_item_field IsWholeField items (all_by IsWholeTileItem (λ i. IsWholeField (tile_item_field i)) tile_item_is_field items p)

pub tile_items_made : (items : List TileItem) → AllByRecursion IsWholeTileItem items → AllByRecursion MakesTileItem (map tile_item_field items)
tile_items_made items p =
    all_of_map tile_item_field MakesTileItem items (all_by IsWholeTileItem (λ i. MakesTileItem (tile_item_field i)) (λ i q. (i, q, refl)) items p)

pub layer_items-bytes_as_fields : (items : List LayerItem) → flat_map field_bytes (map layer_item_field items) ≡ flat_map layer_item_bytes items
layer_items-bytes_as_fields items =
    flat_map-map field_bytes layer_item_field items
    ∙ same_each (λ i. field_bytes (layer_item_field i)) layer_item_bytes (λ i. sym (layer_item-bytes i)) items

pub tile_items-bytes_as_fields : (items : List TileItem) → flat_map field_bytes (map tile_item_field items) ≡ flat_map tile_item_bytes items
tile_items-bytes_as_fields items =
    flat_map-map field_bytes tile_item_field items
    ∙ same_each (λ i. field_bytes (tile_item_field i)) tile_item_bytes (λ i. sym (tile_item-bytes i)) items

-- ---- a message inside that is not a list of items makes no item

pub content_of : (v w : ℕ) (a b : List ℕ) → Delimited v a ≡ Delimited w b → a ≡ b
content_of v w a b e = cc

pub no_layer : (front : Field) (width : ℕ) (bytes : List ℕ) → front.body ≡ Delimited width bytes → front.tag.value ≡ 26
    → ((fields : List Field) → AllByRecursion IsWholeField fields → AllByRecursion MakesLayerItem fields → bytes ≡ flat_map field_bytes fields → ⊥) → MakesTileItem front → ⊥
no_layer front width bytes e tag none (OfLayer l, p, made) =
    let same : flat_map layer_item_bytes l.items ≡ bytes = content_of l.width width (flat_map layer_item_bytes l.items) bytes (ap (λ (g : Field). g.body) made ∙ e) in
    let items = layer_items_whole l.items p.valid.items p.stored.items in
    none (map layer_item_field l.items) (layer_items_are_fields l.items items) (layer_items_made l.items items) (sym same ∙ sym (layer_items-bytes_as_fields l.items))
no_layer front width bytes e tag none (PlainInTile f, p, made) =
    p.valid.1 (ap (λ (g : Field). g.tag.value) made ∙ tag)

-- ---- an item of whole parts is whole

-- a field of bytes is one with other bytes that are equal
pub same_content : (tag : Number) (width : ℕ) (a : List ℕ) (body : Body) (b : List ℕ) → body ≡ Delimited width b → b ≡ a → field_with tag (Delimited width a) ≡ field_with tag body
same_content tag width a body b e h =
    ap (λ (d : Body). field_with tag d) (ap (λ (c : List ℕ). Delimited width c) (sym h) ∙ sym e)

pub feature_whole : (feature : Feature) → IsWholeField (feature_field feature) → feature.tag.value ≡ 18 → AllByRecursion IsWholeField feature.fields → IsWholeLayerItem (OfFeature feature)
feature_whole feature p tag fields =
    record {
      valid = record {
        number = p.valid.number;
        tag = tag;
        width = p.valid.body;
        fields = all_by IsWholeField IsField (λ f q. q.valid) feature.fields fields;
      };
      stored = record { own = p.stored; fields = all_by IsWholeField StoresField (λ f q. q.stored) feature.fields fields };
    }

pub layer_whole : (layer : Layer) → IsWholeField (layer_field layer) → layer.tag.value ≡ 26 → AllByRecursion IsWholeLayerItem layer.items → IsWholeTileItem (OfLayer layer)
layer_whole layer p tag items =
    record {
      valid = record {
        number = p.valid.number;
        tag = tag;
        width = p.valid.body;
        items = all_by IsWholeLayerItem IsLayerItem (λ i q. q.valid) layer.items items;
      };
      stored = record { own = p.stored; items = all_by IsWholeLayerItem StoresLayerItem (λ i q. q.stored) layer.items items };
    }
