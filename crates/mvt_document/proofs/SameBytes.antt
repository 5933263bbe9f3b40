-- Settled documents with the same bytes are equal.
use Rattle.std.proofs.Common.{◌≡◌, ℕ, List, [], ◌∷◌, map, refl, sym, ap, ◌∙◌}
use Rattle.std.specs.List.{flat_map, AllByRecursion}
use Rattle.mvt_document.specs.Plain.{Number, Delimited, Field, Feature, LayerItem, OfFeature, PlainInLayer, Layer, TileItem, OfLayer, PlainInTile, Document}
use Rattle.mvt_document.specs.Wire.{field_bytes, layer_item_bytes, bytes_of}
use Rattle.mvt_document.specs.Groups.{StoresField}
use Rattle.mvt_document.specs.Opens.{IsField, IsSettled}
use Rattle.mvt_document.specs.Parts.{feature_field, layer_item_field, layer_field, tile_item_field, IsWholeField, IsWholeLayerItem, IsWholeTileItem}
use Rattle.mvt_document.proofs.Prefixes.{one_list}
use Rattle.mvt_document.proofs.EachItem.{all_with}
use Rattle.mvt_document.proofs.Wholes.{layer_items_whole, tile_items_whole, layer_items_are_fields, tile_items_are_fields, layer_items-bytes_as_fields, tile_items-bytes_as_fields, content_of}

-- lists are equal if their images are, each item being determined by its image
pub same_by : {S T : Type 0} (f : S → T) (P : S → Type 0) → ((x y : S) → P x → P y → f x ≡ f y → x ≡ y) → (xs ys : List S) → AllByRecursion P xs → AllByRecursion P ys → map f xs ≡ map f ys → xs ≡ ys
same_by f P h [] [] p q e = refl
same_by f P h [] (y ∷ ys) p q e = absurd (cc)
same_by f P h (x ∷ xs) [] p q e = absurd (cc)
same_by f P h (x ∷ xs) (y ∷ ys) p q e =
    let heads : f x ≡ f y = (cc) in
    let tails : map f xs ≡ map f ys = (cc) in
    let first : x ≡ y = h x y p.0 q.0 heads in
    let others : xs ≡ ys = same_by f P h xs ys p.1 q.1 tails in
    (cc)

abbrev feature_with : Number → ℕ → List Field → Feature
feature_with tag width fields = record { tag = tag; width = width; fields = fields }

abbrev layer_with : Number → ℕ → List LayerItem → Layer
layer_with tag width items = record { tag = tag; width = width; items = items }

width_of : (v w : ℕ) (a b : List ℕ) → Delimited v a ≡ Delimited w b → v ≡ w
width_of v w a b e = cc

fields_of_whole : (f : Feature) → IsWholeLayerItem (OfFeature f) → AllByRecursion IsWholeField f.fields
fields_of_whole f p = all_with IsField StoresField IsWholeField (λ g v s. record { valid = v; stored = s }) f.fields p.valid.fields p.stored.fields

pub one_feature : (f g : Feature) → IsWholeLayerItem (OfFeature f) → IsWholeLayerItem (OfFeature g) → feature_field f ≡ feature_field g → f ≡ g
one_feature f g p q e =
    let bodies : (feature_field f).body ≡ (feature_field g).body = ap (λ (x : Field). x.body) e in
    let tags : f.tag ≡ g.tag = ap (λ (x : Field). x.tag) e in
    let widths : f.width ≡ g.width = width_of f.width g.width (flat_map field_bytes f.fields) (flat_map field_bytes g.fields) bodies in
    let contents = content_of f.width g.width (flat_map field_bytes f.fields) (flat_map field_bytes g.fields) bodies in
    let fields : f.fields ≡ g.fields = one_list f.fields g.fields (fields_of_whole f p) (fields_of_whole g q) contents in
    let rebuilt : feature_with f.tag f.width f.fields ≡ feature_with g.tag g.width g.fields = (cc) in
    rebuilt

pub one_layer_item : (i j : LayerItem) → IsWholeLayerItem i → IsWholeLayerItem j → layer_item_field i ≡ layer_item_field j → i ≡ j
one_layer_item (OfFeature f) (OfFeature g) p q e = ap OfFeature (one_feature f g p q e)
one_layer_item (OfFeature f) (PlainInLayer g) p q e = absurd (q.valid.1 (sym (ap (λ (x : Field). x.tag.value) e) ∙ p.valid.tag))
one_layer_item (PlainInLayer f) (OfFeature g) p q e = absurd (p.valid.1 (ap (λ (x : Field). x.tag.value) e ∙ q.valid.tag))
one_layer_item (PlainInLayer f) (PlainInLayer g) p q e = ap PlainInLayer e

pub one_layer : (l m : Layer) → IsWholeTileItem (OfLayer l) → IsWholeTileItem (OfLayer m) → layer_field l ≡ layer_field m → l ≡ m
one_layer l m p q e =
    let bodies : (layer_field l).body ≡ (layer_field m).body = ap (λ (x : Field). x.body) e in
    let tags : l.tag ≡ m.tag = ap (λ (x : Field). x.tag) e in
    let widths : l.width ≡ m.width = width_of l.width m.width (flat_map layer_item_bytes l.items) (flat_map layer_item_bytes m.items) bodies in
    let contents = content_of l.width m.width (flat_map layer_item_bytes l.items) (flat_map layer_item_bytes m.items) bodies in
    let whole_l = layer_items_whole l.items p.valid.items p.stored.items in
    let whole_m = layer_items_whole m.items q.valid.items q.stored.items in
    let fields : map layer_item_field l.items ≡ map layer_item_field m.items =
    one_list (map layer_item_field l.items) (map layer_item_field m.items) (layer_items_are_fields l.items whole_l) (layer_items_are_fields m.items whole_m)
    (layer_items-bytes_as_fields l.items ∙ contents ∙ sym (layer_items-bytes_as_fields m.items)) in
    let items : l.items ≡ m.items = same_by layer_item_field IsWholeLayerItem one_layer_item l.items m.items whole_l whole_m fields in
    let rebuilt : layer_with l.tag l.width l.items ≡ layer_with m.tag m.width m.items = (cc) in
    rebuilt

pub one_tile_item : (i j : TileItem) → IsWholeTileItem i → IsWholeTileItem j → tile_item_field i ≡ tile_item_field j → i ≡ j
one_tile_item (OfLayer l) (OfLayer m) p q e = ap OfLayer (one_layer l m p q e)
one_tile_item (OfLayer l) (PlainInTile g) p q e = absurd (q.valid.1 (sym (ap (λ (x : Field). x.tag.value) e) ∙ p.valid.tag))
one_tile_item (PlainInTile f) (OfLayer m) p q e = absurd (p.valid.1 (ap (λ (x : Field). x.tag.value) e ∙ q.valid.tag))
one_tile_item (PlainInTile f) (PlainInTile g) p q e = ap PlainInTile e

pub one_document_by_bytes : (d e : Document) → IsSettled d → IsSettled e → bytes_of d ≡ bytes_of e → d ≡ e
one_document_by_bytes d e p q same =
    let whole_d = tile_items_whole d p.valid p.stored in
    let whole_e = tile_items_whole e q.valid q.stored in
    let fields : map tile_item_field d ≡ map tile_item_field e =
    one_list (map tile_item_field d) (map tile_item_field e) (tile_items_are_fields d whole_d) (tile_items_are_fields e whole_e)
    (tile_items-bytes_as_fields d ∙ same ∙ sym (tile_items-bytes_as_fields e)) in
    same_by tile_item_field IsWholeTileItem one_tile_item d e whole_d whole_e fields
