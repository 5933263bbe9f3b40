-- A key of a layer as the program holds it: it has at least two bytes, and is valid with other bytes too.
use Rattle.std.proofs.Common.{◌≡◌, ℕ, ◌/◌, ◌≤◌, ◌==◌, true, List, [], ◌∷◌, length, map, inl, inr, arith}
use Rattle.std.proofs.lemmas.Bool.{cases_Bool, eqb-true}
use Rattle.std.specs.List.{AllByRecursion, flat_map}
use Rattle.mvt_document.specs.Plain.{PlainInLayer}
use Rattle.mvt_document.specs.Opens.{IsLayerItem}
use Rattle.mvt_document.specs.Shape.{IsTag, IsWidth}
use Rattle.mvt_document.specs.BodyShape.{stored_width}
use Rattle.mvt_document.specs.Groups.{wire_type}
use Rattle.mvt_document.specs.Wire.{layer_item_bytes}
use Rattle.mvt_document.specs.Bodies.{body_of, number_of}
use Rattle.mvt_document.specs.Stands.{layer_item_of}
use Rattle.mvt_document.specs.declared.Body.{Body}
use Rattle.mvt_document.specs.declared.Body.TheVariants.{Number, Eight, Four, Bytes, Group}
use Rattle.mvt_document.specs.declared.Varint.{Varint}
use Rattle.mvt_document.specs.declared.LayerItem.{LayerItem}
use Rattle.mvt_document.specs.declared.LayerItem.TheVariants as in_layer
use Rattle.mvt_meaning.specs.Fields.{with_content, with_text}
use Rattle.mvt_meaning.specs.Tagging.{is_key}
use Rattle.mvt_edit_steps.proofs.CarriedOut.{new_in}
use Rattle.mvt_edit_steps.proofs.Heavy.{tag_and_content}
use Rattle.mvt_edit_attributes.specs.KeyFates.{key_fate}

module _ (old new : List ℕ) where
  -- a key field, valid and of two bytes, and valid with the new bytes
  record IsGood (tag : Varint) (body : Body) : Type 0 where
    long : 2 ≤ length (layer_item_bytes (PlainInLayer (record { tag = number_of tag; body = body_of body })))
    valid : IsLayerItem (PlainInLayer (record { tag = number_of tag; body = with_content new (body_of body) }))

  good : (tag : Varint) (body : Body) → IsTag tag.value (wire_type (body_of body)) → IsWidth (stored_width (body_of body)) → is_key old (PlainInLayer (record { tag = number_of tag; body = body_of body })) ≡ true → IsGood tag body
  good tag (Number number) typed wide key = absurd (elim (cases_Bool (tag.value / 8 == 3)) [ inl three ↦ let is = rw three at key in cc | inr other ↦ let is = rw other at key in cc ])
  good tag (Eight bytes) typed wide key = absurd (elim (cases_Bool (tag.value / 8 == 3)) [ inl three ↦ let is = rw three at key in cc | inr other ↦ let is = rw other at key in cc ])
  good tag (Four bytes) typed wide key = absurd (elim (cases_Bool (tag.value / 8 == 3)) [ inl three ↦ let is = rw three at key in cc | inr other ↦ let is = rw other at key in cc ])
  good tag (Group bytes) typed wide key = absurd (elim (cases_Bool (tag.value / 8 == 3)) [ inl three ↦ let is = rw three at key in cc | inr other ↦ let is = rw other at key in cc ])
  good tag (Bytes width bytes) typed wide key =
      elim (cases_Bool (tag.value / 8 == 3)) [
        | inl three ↦ record {
          long = tag_and_content tag.value tag.width width bytes.items tag.spelled;
          valid = (record { number = tag.spelled; tag = typed; body = wide }, λ same. omega (arith, eqb-true (tag.value / 8) 3 three));
        }
        | inr other ↦ absurd (let is = rw other at key in cc)
      ]

  pub key_has_bytes : (item : LayerItem) → is_key old (layer_item_of item) ≡ true → 2 ≤ length (layer_item_bytes (layer_item_of item))
  key_has_bytes (in_layer.Feature feature) key = absurd cc
  key_has_bytes (in_layer.Plain field) key = (good field.tag field.body field.is_tag field.is_width key).long

  renamed_valid : (item : LayerItem) → is_key old (layer_item_of item) ≡ true → IsLayerItem (with_text new (layer_item_of item))
  renamed_valid (in_layer.Feature feature) key = absurd cc
  renamed_valid (in_layer.Plain field) key = (good field.tag field.body field.is_tag field.is_width key).valid

  pub keys_valid : (items : List LayerItem) → AllByRecursion IsLayerItem (flat_map (λ x. new_in (key_fate old new x)) (map layer_item_of items))
  keys_valid [] = tt
  keys_valid (item ∷ items) = elim (cases_Bool (is_key old (layer_item_of item))) [ inl key ↦ rw key (renamed_valid item key, keys_valid items) | inr other ↦ rw other (keys_valid items) ]
