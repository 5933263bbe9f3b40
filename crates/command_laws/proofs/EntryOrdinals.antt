-- The ordinal of an entry of a layer is short, where the layer is within the limit.
use Rattle.std.proofs.Common.{◌≡◌, ℕ, ◌+◌, ◌-◌, ◌/◌, ◌<◌, ◌≤◌, ◌^◌, ◌==◌, Option, Some, None, List, [], ◌∷◌, length, length-append, slice_index_or, refl, ap, ◌∙◌, inl, inr, arith}
use Rattle.std.proofs.lemmas.Bool.{cases_Bool, cond_both}
use Rattle.std.proofs.lemmas.List.Concat.{flat_map-append}
use Rattle.std.specs.List.{flat_map}
use Rattle.std.specs.Str.{bytes_eq}
use Rattle.mvt_document.specs.declared.TheConstants.{MAX_FILE}
use Rattle.mvt_document.specs.Plain.{Number, Body, Spelled, Eight, Four, Delimited, Group, Field, LayerItem, OfFeature, PlainInLayer}
use Rattle.mvt_document.specs.Places.{in_feature}
use Rattle.mvt_document.specs.Wire.{field_bytes, layer_item_bytes}
use Rattle.mvt_document.proofs.Sizes.{length-message}
use Rattle.mvt_document.proofs.Spelling.{minimal_width_some}
use Rattle.mvt_messages.specs.Views.{content_in, contents, ordinals_of, plain_fields, value_field}
use Rattle.mvt_meaning.specs.Ordinals.{change_nth}
use Rattle.mvt_meaning.specs.Selection.{is_feature}
use Rattle.mvt_meaning.specs.Tagging.{attributed, entry_ordinal, missing_entries, value_ordinal, with_attribute}
use Rattle.mvt_meaning.specs.Weights.{weigh}
use Rattle.mvt_meaning.proofs.Positions.{positions_within}

within_by : (bytes : List ℕ) (entries : List (List ℕ)) (ordinals : List ℕ) → ordinals_of (bytes_eq bytes) entries ≡ ordinals → slice_index_or ordinals 0 (length entries) ≤ length entries
within_by bytes entries [] is = omega arith
within_by bytes entries (first ∷ more) is =
    let bounds = positions_within (bytes_eq bytes) 0 entries 0 first (rw is refl) in
    omega (arith, bounds.1)

-- it is at most the number of entries
pub entry_within : (bytes : List ℕ) (entries : List (List ℕ)) → entry_ordinal bytes entries ≤ length entries
entry_within bytes entries = within_by bytes entries (ordinals_of (bytes_eq bytes) entries) refl

-- a LEN field has at least one byte
content_some : (number : ℕ) (tag : Number) (body : Body) (bytes : List ℕ) → content_in number (record { tag = tag; body = body }) ≡ Some bytes → 1 ≤ length (field_bytes (record { tag = tag; body = body }))
content_some number tag (Spelled value) bytes e = absurd (elim (cases_Bool (tag.value / 8 == number)) [ inl one ↦ let at = rw one at e in cc | inr other ↦ let at = rw other at e in cc ])
content_some number tag (Eight eight) bytes e = absurd (elim (cases_Bool (tag.value / 8 == number)) [ inl one ↦ let at = rw one at e in cc | inr other ↦ let at = rw other at e in cc ])
content_some number tag (Four four) bytes e = absurd (elim (cases_Bool (tag.value / 8 == number)) [ inl one ↦ let at = rw one at e in cc | inr other ↦ let at = rw other at e in cc ])
content_some number tag (Group group) bytes e = absurd (elim (cases_Bool (tag.value / 8 == number)) [ inl one ↦ let at = rw one at e in cc | inr other ↦ let at = rw other at e in cc ])
content_some number tag (Delimited width content) bytes e =
    omega (arith, length-message tag.value tag.width width content, minimal_width_some (length content))

one_more : (number : ℕ) (field : Field) (found : Option (List ℕ)) (items : List LayerItem) → content_in number field ≡ found → length (contents number (plain_fields items)) ≤ weigh layer_item_bytes items → length (contents number (field ∷ plain_fields items)) ≤ weigh layer_item_bytes (PlainInLayer field ∷ items)
one_more number field None items is more = rw is (omega (arith, more, length-append (field_bytes field) (flat_map layer_item_bytes items)))
one_more number field (Some bytes) items is more =
    rw is (omega (arith, more, content_some number field.tag field.body bytes is, length-append (field_bytes field) (flat_map layer_item_bytes items)))

-- a list has at least as many bytes as entries
entries_weigh : (number : ℕ) (items : List LayerItem) → length (contents number (plain_fields items)) ≤ weigh layer_item_bytes items
entries_weigh number [] = omega arith
entries_weigh number (OfFeature feature ∷ items) =
    omega (arith, entries_weigh number items, length-append (layer_item_bytes (OfFeature feature)) (flat_map layer_item_bytes items))
entries_weigh number (PlainInLayer field ∷ items) = one_more number field (content_in number field) items refl (entries_weigh number items)

-- where the fields of a feature change, those of its layer stay
pub plain_stay : (change : List Field → List Field) (ordinal : ℕ) (items : List LayerItem) → plain_fields (change_nth is_feature (in_feature change) ordinal items) ≡ plain_fields items
plain_stay change ordinal [] = refl
plain_stay change ordinal (OfFeature feature ∷ items) =
    cond_both (ordinal == 0) (in_feature change (OfFeature feature) ∷ items) (OfFeature feature ∷ change_nth is_feature (in_feature change) (ordinal - 1) items) (λ ys. plain_fields ys ≡ plain_fields items)
    (λ _. refl)
    (λ _. plain_stay change (ordinal - 1) items)
plain_stay change ordinal (PlainInLayer field ∷ items) = ap (λ (fields : List Field). field ∷ fields) (plain_stay change ordinal items)

-- an entry's ordinal is within the limit, where the layer is
pub entry_low : (number : ℕ) (bytes key value : List ℕ) (feature : ℕ) (items : List LayerItem) → weigh layer_item_bytes (attributed key value feature items) ≤ MAX_FILE → entry_ordinal bytes (contents number (plain_fields items)) ≤ MAX_FILE
entry_low number bytes key value feature items within =
    let present = change_nth is_feature (in_feature (with_attribute key value items)) feature items in
    let missing = missing_entries key value items in
    let joined : weigh layer_item_bytes (attributed key value feature items) ≡ weigh layer_item_bytes present + weigh layer_item_bytes missing =
    ap length (flat_map-append layer_item_bytes present missing) ∙ length-append (flat_map layer_item_bytes present) (flat_map layer_item_bytes missing) in
    let same : length (contents number (plain_fields present)) ≡ length (contents number (plain_fields items)) =
    ap (λ (fields : List Field). length (contents number fields)) (plain_stay (with_attribute key value items) feature items) in
    omega (arith, within, joined, same, entries_weigh number present, entry_within bytes (contents number (plain_fields items)))

pub value_short : (key value : List ℕ) (feature : ℕ) (items : List LayerItem) → weigh layer_item_bytes (attributed key value feature items) ≤ MAX_FILE → value_ordinal value items < 2 ^ 64
value_short key value feature items within = omega (arith, entry_low value_field value key value feature items within)
