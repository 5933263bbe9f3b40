-- Numbers, and VARINT fields of a number, with another value.
use Rattle.std.proofs.Common.{◌≡◌, ℕ, ◌/◌, true, ◌==◌, is_some, Some, refl, inl, inr}
use Rattle.std.proofs.lemmas.Bool.{cases_Bool, eqb-true}
use Rattle.mvt_document.specs.Plain.{Number, Body, Spelled, Eight, Four, Delimited, Group, Field}
use Rattle.mvt_messages.specs.Views.{value_in}
use Rattle.mvt_meaning.specs.Fields.{with_field_value, with_number}

pub number_given : (id : ℕ) (number : Number) → (with_number id number).value ≡ id
number_given id number =
    elim (cases_Bool (number.value == id)) [
      | inl same ↦ rw same (eqb-true number.value id same)
      | inr other ↦ rw other refl
    ]

number_in_field : (number value : ℕ) (tag : Number) (body : Body) → is_some (value_in number (record { tag = tag; body = body })) ≡ true → value_in number (with_field_value value (record { tag = tag; body = body })) ≡ Some value
number_in_field number value tag (Spelled old) e = elim (cases_Bool (tag.value / 8 == number)) [ inl own ↦ rw (own, number_given value old) refl | inr other ↦ absurd (let at = rw other at e in cc) ]
number_in_field number value tag (Eight bytes) e = absurd (elim (cases_Bool (tag.value / 8 == number)) [ inl own ↦ let at = rw own at e in cc | inr other ↦ let at = rw other at e in cc ])
number_in_field number value tag (Four bytes) e = absurd (elim (cases_Bool (tag.value / 8 == number)) [ inl own ↦ let at = rw own at e in cc | inr other ↦ let at = rw other at e in cc ])
number_in_field number value tag (Group bytes) e = absurd (elim (cases_Bool (tag.value / 8 == number)) [ inl own ↦ let at = rw own at e in cc | inr other ↦ let at = rw other at e in cc ])
number_in_field number value tag (Delimited width bytes) e = absurd (elim (cases_Bool (tag.value / 8 == number)) [ inl own ↦ let at = rw own at e in cc | inr other ↦ let at = rw other at e in cc ])

-- a VARINT field of a number with another value
pub value_given : (number value : ℕ) (field : Field) → is_some (value_in number field) ≡ true → value_in number (with_field_value value field) ≡ Some value
value_given number value field e = number_in_field number value field.tag field.body e
