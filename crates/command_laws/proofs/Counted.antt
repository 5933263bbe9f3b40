-- A feature of a document has no more numbers than the document has bytes, so that its geometry reaches no further than
-- that many deltas lead.
use Rattle.std.proofs.Common.{◌≡◌, ℕ, zero, suc, ◌*◌, ◌/◌, ◌^◌, ◌==◌, ◌≤◌, Option, Some, None, List, [], ◌∷◌, length, length-append, slice_get, refl, sym, ap, ◌∙◌, inl, inr, subst, arith}
use Rattle.std.proofs.lemmas.Bool.{cases_Bool}
use Rattle.std.proofs.lemmas.List.{length-map}
use Rattle.std.specs.List.{AllByRecursion, flat_map}
use Rattle.std.specs.Option.{unwrap_or}
use Rattle.mvt_document.specs.declared.TheConstants.{MAX_FILE}
use Rattle.mvt_document.specs.Groups.{IsNumber}
use Rattle.mvt_document.specs.Opens.{IsDocument, IsFeature, IsField, IsLayer, IsLayerItem}
use Rattle.mvt_document.specs.Plain.{Number, Body, Spelled, Eight, Four, Delimited, Group, Field, Feature, LayerItem, OfFeature, PlainInLayer, Layer, OfLayer, PlainInTile, Document}
use Rattle.mvt_document.specs.Wire.{bytes_of, field_bytes, layer_item_bytes, spelling, tile_item_bytes}
use Rattle.mvt_document.proofs.EachItem.{all_by}
use Rattle.mvt_document.proofs.Sizes.{length-message}
use Rattle.mvt_document.proofs.Spelling.{length-spell, spelling_some}
use Rattle.mvt_geometry.specs.Integers.{integers}
use Rattle.mvt_geometry.specs.Laws.{IsWithin}
use Rattle.mvt_geometry.specs.declared.shapes.Point.{Point}
use Rattle.mvt_geometry.proofs.Reach.{integers_reach}
use Rattle.mvt_renumber.specs.Deciding.{packed_numbers}
use Rattle.mvt_renumber.specs.Laws.{read_numbers}
use Rattle.mvt_renumber.specs.Renumbering.{field_numbers}
use Rattle.mvt_renumber.proofs.Redone.{packed-read}
use Rattle.mvt_renumber.proofs.Reread.{read_of_fields}
use Rattle.mvt_messages.specs.Views.{features, features_in, layers}
use Rattle.mvt_meaning.specs.Weights.{weigh}
use Rattle.command_laws.proofs.ReadValues.{numbers_of_values}
use Rattle.command_laws.specs.GeometryLaws.{NoCoordinateIsFar}

-- ---- numbers

few_spelled : (list : List Number) → AllByRecursion IsNumber list → length list ≤ length (flat_map spelling list)
few_spelled [] all = omega arith
few_spelled (n ∷ list) all =
    omega (arith, few_spelled list all.1, length-append (spelling n) (flat_map spelling list), length-spell n.value n.width, spelling_some n.value n.width all.0)

few_packed : (bytes : List ℕ) (found : Option (List Number)) → packed_numbers bytes ≡ found → length (unwrap_or found []) ≤ length bytes
few_packed bytes None e = omega arith
few_packed bytes (Some list) e =
    let read = packed-read bytes list e in
    omega (arith, few_spelled list read.1, ap length read.0)

few_in_field : (number : ℕ) (tag : Number) (body : Body) → IsField (record { tag = tag; body = body }) → length (field_numbers number (record { tag = tag; body = body })) ≤ length (field_bytes (record { tag = tag; body = body }))
few_in_field number tag (Spelled value) valid =
    elim (cases_Bool (tag.value / 8 == number)) [
      | inl own ↦ rw own (omega (arith, length-append (spelling tag) (spelling value), length-spell tag.value tag.width, spelling_some tag.value tag.width valid.number))
      | inr other ↦ rw other (omega arith)
    ]
few_in_field number tag (Delimited width bytes) valid =
    elim (cases_Bool (tag.value / 8 == number)) [
      | inl own ↦ rw own (omega (arith, few_packed bytes (packed_numbers bytes) refl, length-message tag.value tag.width width bytes))
      | inr other ↦ rw other (omega arith)
    ]
few_in_field number tag (Eight bytes) valid = elim (cases_Bool (tag.value / 8 == number)) [ inl own ↦ rw own (omega arith) | inr other ↦ rw other (omega arith) ]
few_in_field number tag (Four bytes) valid = elim (cases_Bool (tag.value / 8 == number)) [ inl own ↦ rw own (omega arith) | inr other ↦ rw other (omega arith) ]
few_in_field number tag (Group bytes) valid = elim (cases_Bool (tag.value / 8 == number)) [ inl own ↦ rw own (omega arith) | inr other ↦ rw other (omega arith) ]

few_in_fields : (number : ℕ) (fields : List Field) → AllByRecursion IsField fields → length (flat_map (field_numbers number) fields) ≤ weigh field_bytes fields
few_in_fields number [] all = omega arith
few_in_fields number (field ∷ fields) all =
    omega (arith, few_in_field number field.tag field.body all.0, few_in_fields number fields all.1, length-append (field_numbers number field) (flat_map (field_numbers number) fields), length-append (field_bytes field) (flat_map field_bytes fields))

numbers_few : (number : ℕ) (fields : List Field) (list : List Number) → AllByRecursion IsField fields → read_numbers number fields ≡ Some list → length list ≤ weigh field_bytes fields
numbers_few number fields list all read = omega (arith, few_in_fields number fields all, ap length (read_of_fields number fields list read))

-- ---- a layer of a document, and a feature of it

layer_of : (document : Document) (ordinal : ℕ) (layer : Layer) → slice_get (layers document) ordinal ≡ Some layer → IsDocument document → IsLayer layer × (weigh layer_item_bytes layer.items ≤ weigh tile_item_bytes document)
layer_of [] ordinal layer is valid = absurd cc
layer_of (PlainInTile field ∷ items) ordinal layer is valid =
    let more = layer_of items ordinal layer is valid.1 in
    (more.0, omega (arith, more.1, length-append (tile_item_bytes (PlainInTile field)) (flat_map tile_item_bytes items)))
layer_of (OfLayer first ∷ items) zero layer is valid =
    let same : first ≡ layer = cc in
    let within : weigh layer_item_bytes first.items ≤ weigh tile_item_bytes (OfLayer first ∷ items) =
    omega (arith, length-message first.tag.value first.tag.width first.width (flat_map layer_item_bytes first.items), length-append (tile_item_bytes (OfLayer first)) (flat_map tile_item_bytes items)) in
    subst (λ (l : Layer). IsLayer l × (weigh layer_item_bytes l.items ≤ weigh tile_item_bytes (OfLayer first ∷ items))) same (valid.0, within)
layer_of (OfLayer first ∷ items) (suc ordinal) layer is valid =
    let more = layer_of items ordinal layer is valid.1 in
    (more.0, omega (arith, more.1, length-append (tile_item_bytes (OfLayer first)) (flat_map tile_item_bytes items)))

feature_of : (items : List LayerItem) (ordinal : ℕ) (feature : Feature) → slice_get (features_in items) ordinal ≡ Some feature → AllByRecursion IsLayerItem items → IsFeature feature × (weigh field_bytes feature.fields ≤ weigh layer_item_bytes items)
feature_of [] ordinal feature is valid = absurd cc
feature_of (PlainInLayer field ∷ items) ordinal feature is valid =
    let more = feature_of items ordinal feature is valid.1 in
    (more.0, omega (arith, more.1, length-append (layer_item_bytes (PlainInLayer field)) (flat_map layer_item_bytes items)))
feature_of (OfFeature first ∷ items) zero feature is valid =
    let same : first ≡ feature = cc in
    let within : weigh field_bytes first.fields ≤ weigh layer_item_bytes (OfFeature first ∷ items) =
    omega (arith, length-message first.tag.value first.tag.width first.width (flat_map field_bytes first.fields), length-append (layer_item_bytes (OfFeature first)) (flat_map layer_item_bytes items)) in
    subst (λ (f : Feature). IsFeature f × (weigh field_bytes f.fields ≤ weigh layer_item_bytes (OfFeature first ∷ items))) same (valid.0, within)
feature_of (OfFeature first ∷ items) (suc ordinal) feature is valid =
    let more = feature_of items ordinal feature is valid.1 in
    (more.0, omega (arith, more.1, length-append (layer_item_bytes (OfFeature first)) (flat_map layer_item_bytes items)))

-- a feature of a valid document within the limit has no more numbers than the limit has bytes
pub numbers_within : (number : ℕ) (document : Document) (ordinal index : ℕ) (layer : Layer) (feature : Feature) (list : List Number) → IsDocument document → length (bytes_of document) ≤ MAX_FILE → slice_get (layers document) ordinal ≡ Some layer → slice_get (features layer) index ≡ Some feature → read_numbers number feature.fields ≡ Some list → length list ≤ MAX_FILE
numbers_within number document ordinal index layer feature list valid within there is read =
    let l = layer_of document ordinal layer there valid in
    let f = feature_of layer.items index feature is l.0.items in
    omega (arith, numbers_few number feature.fields list f.0.fields read, f.1, l.1, within)

-- ---- how far a geometry reaches

pub parts_by : (P Q : Point → Type 0) → ((point : Point) → P point → Q point) → (parts : List (List Point)) → AllByRecursion (AllByRecursion P) parts → AllByRecursion (AllByRecursion Q) parts
parts_by P Q weaker parts all = all_by (AllByRecursion P) (AllByRecursion Q) (all_by P Q weaker) parts all

pub no_coordinate_is_far : NoCoordinateIsFar
no_coordinate_is_far document ordinal index layer feature geometry valid within there is read range =
    let n = numbers_of_values 4 feature.fields (integers geometry) read in
    let few = numbers_within 4 document ordinal index layer feature n.list valid within there is n.read in
    let most : ℕ = length (integers geometry) * 2 ^ 31 in
    let counted : length n.list ≡ length (integers geometry) = sym (length-map n.list (λ (n : Number). n.value)) ∙ ap length n.are in
    let low : most ≤ 2 ^ 57 = omega (arith, few, counted) in
    parts_by (IsWithin most) (IsWithin (2 ^ 57)) (λ point w. record { x = omega (arith, w.x, low); y = omega (arith, w.y, low) }) geometry.parts (integers_reach geometry range)
