-- Raising stored widths to the written ones: the document is settled, and its bytes stay.
use Rattle.std.proofs.Common.{◌≡◌, ℕ, ◌/◌, ◌≤◌, max, List, [], ◌∷◌, ◌++◌, length, map, refl, sym, ap, ◌∙◌, subst, arith}
use Rattle.std.specs.List.{flat_map, AllByRecursion}
use Rattle.std.proofs.lemmas.List.{length-append}
use Rattle.std.proofs.lemmas.List.Folds.{flat_map-map}
use Rattle.mvt_document.specs.declared.TheConstants.{MAX_FILE}
use Rattle.mvt_document.specs.Plain.{Body, Spelled, Eight, Four, Delimited, Group, Field, LayerItem, OfFeature, PlainInLayer, TileItem, OfLayer, PlainInTile, Document}
use Rattle.mvt_document.specs.Shape.{IsSpelling, IsWidth, IsTag}
use Rattle.mvt_document.specs.Wire.{spell, minimal_width, spelling, delimited, body_bytes, field_bytes, layer_item_bytes, tile_item_bytes, bytes_of}
use Rattle.mvt_document.specs.Groups.{wire_type, IsBodyWith, IsGroup, StoresBody, StoresField}
use Rattle.mvt_document.specs.Opens.{IsField, IsLayerItem, IsTileItem, IsDocument, StoresLayerItem, StoresTileItem, IsSettled, OpensAs}
use Rattle.mvt_document.specs.Settle.{written_width, settle_body, settle_field, settle_layer_item, settle_tile_item, settle, IsShort, IsShortBody, IsShortField, IsShortLayerItem, IsShortTileItem, HasShortLengths}
use Rattle.mvt_document.proofs.Spelling.{minimal_width_short}
use Rattle.mvt_document.proofs.EachItem.{all_by, all_of_map, all_with}
use Rattle.mvt_document.proofs.SameBytes.{one_document_by_bytes}
use Rattle.mvt_document.proofs.Lists.{same_each}

-- ---- the written width

pub written_is_width : (width : ℕ) (bytes : List ℕ) → IsWidth width → IsWidth (written_width width bytes)
written_is_width width bytes w =
    record {
      some = omega (arith, w.some);
      short = omega (arith, w.short, minimal_width_short (length bytes));
    }

pub written_spells : (width : ℕ) (bytes : List ℕ) → IsWidth width → IsShort bytes → IsSpelling (length bytes) (written_width width bytes)
written_spells width bytes w short =
    record {
      fits = short;
      wide = omega arith;
      short = omega (arith, w.short, minimal_width_short (length bytes));
    }

pub written_again : (width : ℕ) (bytes : List ℕ) → delimited (written_width width bytes) bytes ≡ delimited width bytes
written_again width bytes =
    let e : max (max width (minimal_width (length bytes))) (minimal_width (length bytes)) ≡ max width (minimal_width (length bytes)) = omega arith in
    ap (λ (w : ℕ). spell (length bytes) w ++ bytes) e

-- ---- the bytes

body-bytes_settled : (b : Body) → body_bytes (settle_body b) ≡ body_bytes b
body-bytes_settled (Spelled number) = refl
body-bytes_settled (Eight bytes) = refl
body-bytes_settled (Four bytes) = refl
body-bytes_settled (Delimited width bytes) = written_again width bytes
body-bytes_settled (Group bytes) = refl

field-bytes_settled : (f : Field) → field_bytes (settle_field f) ≡ field_bytes f
field-bytes_settled f = ap (λ (b : List ℕ). spelling f.tag ++ b) (body-bytes_settled f.body)

contents-settled : {T : Type 0} (f : T → List ℕ) (s : T → T) → ((x : T) → f (s x) ≡ f x) → (xs : List T) → flat_map f (map s xs) ≡ flat_map f xs
contents-settled f s e xs = flat_map-map f s xs ∙ same_each (λ x. f (s x)) f e xs

delimited-settled : (width : ℕ) (old new : List ℕ) → new ≡ old → delimited (written_width width old) new ≡ delimited width old
delimited-settled width old new e = ap (delimited (written_width width old)) e ∙ written_again width old

layer_item-bytes_settled : (i : LayerItem) → layer_item_bytes (settle_layer_item i) ≡ layer_item_bytes i
layer_item-bytes_settled (OfFeature f) =
    ap (λ (b : List ℕ). spelling f.tag ++ b)
    (delimited-settled f.width (flat_map field_bytes f.fields) (flat_map field_bytes (map settle_field f.fields)) (contents-settled field_bytes settle_field field-bytes_settled f.fields))
layer_item-bytes_settled (PlainInLayer f) = field-bytes_settled f

tile_item-bytes_settled : (i : TileItem) → tile_item_bytes (settle_tile_item i) ≡ tile_item_bytes i
tile_item-bytes_settled (OfLayer l) =
    ap (λ (b : List ℕ). spelling l.tag ++ b)
    (delimited-settled l.width (flat_map layer_item_bytes l.items) (flat_map layer_item_bytes (map settle_layer_item l.items)) (contents-settled layer_item_bytes settle_layer_item layer_item-bytes_settled l.items))
tile_item-bytes_settled (PlainInTile f) = field-bytes_settled f

pub bytes_of-settle : (d : Document) → bytes_of (settle d) ≡ bytes_of d
bytes_of-settle d = contents-settled tile_item_bytes settle_tile_item tile_item-bytes_settled d

-- ---- validity and stored widths

wire_type-settled : (b : Body) → wire_type (settle_body b) ≡ wire_type b
wire_type-settled (Spelled number) = refl
wire_type-settled (Eight bytes) = refl
wire_type-settled (Four bytes) = refl
wire_type-settled (Delimited width bytes) = refl
wire_type-settled (Group bytes) = refl

body_valid : (number : ℕ) (b : Body) → IsBodyWith IsGroup number b → IsBodyWith IsGroup number (settle_body b)
body_valid of_number (Spelled number) p = p
body_valid of_number (Eight bytes) p = p
body_valid of_number (Four bytes) p = p
body_valid of_number (Delimited width bytes) p = written_is_width width bytes p
body_valid of_number (Group bytes) p = p

body_stored : (number : ℕ) (b : Body) → IsBodyWith IsGroup number b → IsShortBody b → StoresBody (settle_body b)
body_stored of_number (Spelled number) p q = tt
body_stored of_number (Eight bytes) p q = tt
body_stored of_number (Four bytes) p q = tt
body_stored of_number (Delimited width bytes) p q = written_spells width bytes p q
body_stored of_number (Group bytes) p q = tt

field_valid : (f : Field) → IsField f → IsField (settle_field f)
field_valid f p =
    record {
      number = p.number;
      tag = subst (λ (k : ℕ). IsTag f.tag.value k) (sym (wire_type-settled f.body)) p.tag;
      body = body_valid (f.tag.value / 8) f.body p.body;
    }

field_stored : (f : Field) → IsField f → IsShortField f → StoresField (settle_field f)
field_stored f p q = body_stored (f.tag.value / 8) f.body p.body q

own_stored : (width : ℕ) (old new : List ℕ) → new ≡ old → IsWidth width → IsShort old → IsSpelling (length new) (written_width width old)
own_stored width old new e w short =
    subst (λ (n : ℕ). IsSpelling n (written_width width old)) (sym (ap length e)) (written_spells width old w short)

layer_item_valid : (i : LayerItem) → IsLayerItem i → IsLayerItem (settle_layer_item i)
layer_item_valid (OfFeature f) p =
    record {
      number = p.number;
      tag = p.tag;
      width = written_is_width f.width (flat_map field_bytes f.fields) p.width;
      fields = all_of_map settle_field IsField f.fields (all_by IsField (λ g. IsField (settle_field g)) field_valid f.fields p.fields);
    }
layer_item_valid (PlainInLayer f) p = (field_valid f p.0, p.1)

layer_item_stored : (i : LayerItem) → IsLayerItem i → IsShortLayerItem i → StoresLayerItem (settle_layer_item i)
layer_item_stored (OfFeature f) p q =
    record {
      own = own_stored f.width (flat_map field_bytes f.fields) (flat_map field_bytes (map settle_field f.fields)) (contents-settled field_bytes settle_field field-bytes_settled f.fields) p.width q.own;
      fields = all_of_map settle_field StoresField f.fields (all_with IsField IsShortField (λ g. StoresField (settle_field g)) field_stored f.fields p.fields q.fields);
    }
layer_item_stored (PlainInLayer f) p q = field_stored f p.0 q

tile_item_valid : (i : TileItem) → IsTileItem i → IsTileItem (settle_tile_item i)
tile_item_valid (OfLayer l) p =
    record {
      number = p.number;
      tag = p.tag;
      width = written_is_width l.width (flat_map layer_item_bytes l.items) p.width;
      items = all_of_map settle_layer_item IsLayerItem l.items (all_by IsLayerItem (λ i. IsLayerItem (settle_layer_item i)) layer_item_valid l.items p.items);
    }
tile_item_valid (PlainInTile f) p = (field_valid f p.0, p.1)

tile_item_stored : (i : TileItem) → IsTileItem i → IsShortTileItem i → StoresTileItem (settle_tile_item i)
tile_item_stored (OfLayer l) p q =
    record {
      own = own_stored l.width (flat_map layer_item_bytes l.items) (flat_map layer_item_bytes (map settle_layer_item l.items)) (contents-settled layer_item_bytes settle_layer_item layer_item-bytes_settled l.items) p.width q.own;
      items = all_of_map settle_layer_item StoresLayerItem l.items (all_with IsLayerItem IsShortLayerItem (λ i. StoresLayerItem (settle_layer_item i)) layer_item_stored l.items p.items q.items);
    }
tile_item_stored (PlainInTile f) p q = field_stored f p.0 q

pub settle_settles : (d : Document) → IsDocument d → HasShortLengths d → IsSettled (settle d)
settle_settles d p q =
    record {
      valid = all_of_map settle_tile_item IsTileItem d (all_by IsTileItem (λ i. IsTileItem (settle_tile_item i)) tile_item_valid d p);
      stored = all_of_map settle_tile_item StoresTileItem d (all_with IsTileItem IsShortTileItem (λ i. StoresTileItem (settle_tile_item i)) tile_item_stored d p q);
    }

-- ---- a settled document stays

body_is_short : (b : Body) → StoresBody b → IsShortBody b
body_is_short (Spelled number) s = tt
body_is_short (Eight bytes) s = tt
body_is_short (Four bytes) s = tt
body_is_short (Delimited width bytes) s = s.fits
body_is_short (Group bytes) s = tt

layer_item_is_short : (i : LayerItem) → StoresLayerItem i → IsShortLayerItem i
layer_item_is_short (OfFeature f) s =
    record { own = s.own.fits; fields = all_by StoresField IsShortField (λ g t. body_is_short g.body t) f.fields s.fields }
layer_item_is_short (PlainInLayer f) s = body_is_short f.body s

tile_item_is_short : (i : TileItem) → StoresTileItem i → IsShortTileItem i
tile_item_is_short (OfLayer l) s =
    record { own = s.own.fits; items = all_by StoresLayerItem IsShortLayerItem layer_item_is_short l.items s.items }
tile_item_is_short (PlainInTile f) s = body_is_short f.body s

pub settle-settled : (d : Document) → IsSettled d → settle d ≡ d
settle-settled d s =
    one_document_by_bytes (settle d) d (settle_settles d s.valid (all_by StoresTileItem IsShortTileItem tile_item_is_short d s.stored)) s (bytes_of-settle d)

-- ---- the lengths in a short document

short_parts : {T : Type 0} (bytes : T → List ℕ) (Q : T → Type 0) → ((x : T) → IsShort (bytes x) → Q x) → (xs : List T) → IsShort (flat_map bytes xs) → AllByRecursion Q xs
short_parts bytes Q h [] s = tt
short_parts bytes Q h (x ∷ xs) s =
    (h x (omega (arith, s, length-append (bytes x) (flat_map bytes xs))), short_parts bytes Q h xs (omega (arith, s, length-append (bytes x) (flat_map bytes xs))))

short_content : (front : List ℕ) (width : ℕ) (content : List ℕ) → IsShort (front ++ delimited width content) → IsShort content
short_content front width content s =
    omega (arith, s, length-append front (delimited width content), length-append (spell (length content) (max width (minimal_width (length content)))) content)

short_body : (front : List ℕ) (b : Body) → IsShort (front ++ body_bytes b) → IsShortBody b
short_body front (Spelled number) s = tt
short_body front (Eight bytes) s = tt
short_body front (Four bytes) s = tt
short_body front (Delimited width bytes) s = short_content front width bytes s
short_body front (Group bytes) s = tt

short_field : (f : Field) → IsShort (field_bytes f) → IsShortField f
short_field f s = short_body (spelling f.tag) f.body s

short_layer_item : (i : LayerItem) → IsShort (layer_item_bytes i) → IsShortLayerItem i
short_layer_item (OfFeature f) s =
    let own = short_content (spelling f.tag) f.width (flat_map field_bytes f.fields) s in
    record { own = own; fields = short_parts field_bytes IsShortField short_field f.fields own }
short_layer_item (PlainInLayer f) s = short_field f s

short_tile_item : (i : TileItem) → IsShort (tile_item_bytes i) → IsShortTileItem i
short_tile_item (OfLayer l) s =
    let own = short_content (spelling l.tag) l.width (flat_map layer_item_bytes l.items) s in
    record { own = own; items = short_parts layer_item_bytes IsShortLayerItem short_layer_item l.items own }
short_tile_item (PlainInTile f) s = short_field f s

pub settled_file : (d : Document) → IsDocument d → length (bytes_of d) ≤ MAX_FILE → OpensAs (bytes_of d) (settle d)
settled_file d p within =
    let short : IsShort (bytes_of d) = omega arith in
    record {
      within = within;
      settled = settle_settles d p (short_parts tile_item_bytes IsShortTileItem short_tile_item d short);
      spelled = bytes_of-settle d;
    }
