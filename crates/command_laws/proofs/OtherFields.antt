-- Where the numbers in the fields of one number are decided on, the other fields stay.
use Rattle.std.proofs.Common.{◌≡◌, ◌≢◌, ℕ, ◌/◌, ◌==◌, Bool, true, false, ◌||◌, not, is_some, Option, None, List, [], ◌∷◌, ◌++◌, length, map, filter, drop, option_map, refl, sym, ap, ◌∙◌, inl, inr}
use Rattle.std.proofs.lemmas.Bool.{cases_Bool, eqb-true, ne_eqb}
use Rattle.std.proofs.lemmas.List.Elements.{filter-append}
use Rattle.std.specs.List.{cons_option, filter_map}
use Rattle.std.specs.Option.{unwrap_or}
use Rattle.mvt_document.specs.Plain.{Number, Body, Spelled, Eight, Four, Delimited, Group, Field}
use Rattle.mvt_messages.specs.Numbers.{Placed, all_good, numbers_in}
use Rattle.mvt_renumber.specs.Renumbering.{field_numbers, renumber, renumbered, renumbered_field, with_left, with_numbers}
use Rattle.mvt_messages.specs.Views.{content_in, value_in}

module _ (number : ℕ) where
  -- the field is a VARINT or LEN field of this number
  abbrev pub is_of : Field → Bool
  is_of field = is_some (value_in number field) || is_some (content_in number field)

  abbrev pub others_of : List Field → List Field
  others_of fields = filter (λ field. not (is_of field)) fields

  -- another field has no numbers
  pub none_of : (n : ℕ) (tag : Number) (body : Body) → is_of (record { tag = tag; body = body }) ≡ false → numbers_in number (n, record { tag = tag; body = body }) ≡ []
  none_of n tag (Eight bytes) other = elim (cases_Bool (tag.value / 8 == number)) [ inl own ↦ rw own refl | inr apart ↦ rw apart refl ]
  none_of n tag (Four bytes) other = elim (cases_Bool (tag.value / 8 == number)) [ inl own ↦ rw own refl | inr apart ↦ rw apart refl ]
  none_of n tag (Group bytes) other = elim (cases_Bool (tag.value / 8 == number)) [ inl own ↦ rw own refl | inr apart ↦ rw apart refl ]
  none_of n tag (Spelled value) other = elim (cases_Bool (tag.value / 8 == number)) [ inl own ↦ absurd (let is = rw own at other in cc) | inr apart ↦ rw apart refl ]
  none_of n tag (Delimited width bytes) other = elim (cases_Bool (tag.value / 8 == number)) [ inl own ↦ absurd (let is = rw own at other in cc) | inr apart ↦ rw apart refl ]

  body_of : (tag : Number) (list : List Number) (body : Body) → is_of (record { tag = tag; body = with_numbers list body }) ≡ is_of (record { tag = tag; body = body })
  body_of tag list (Spelled value) = elim (cases_Bool (tag.value / 8 == number)) [ inl own ↦ rw own refl | inr apart ↦ rw apart refl ]
  body_of tag list (Delimited width bytes) = elim (cases_Bool (tag.value / 8 == number)) [ inl own ↦ rw own refl | inr apart ↦ rw apart refl ]
  body_of tag list (Eight bytes) = refl
  body_of tag list (Four bytes) = refl
  body_of tag list (Group bytes) = refl

  others_gone : (field : Field) (first : Number) (more list : List Number) → is_of field ≡ true → others_of (with_left field (first ∷ more) list) ≡ others_of (field ∷ [])
  others_gone field first more [] own = rw own refl
  others_gone field first more (next ∷ others) own =
      let still : is_of (record field { body = with_numbers (next ∷ others) field.body }) ≡ true = body_of field.tag (next ∷ others) field.body ∙ own in
      rw (own, still) refl

  left_apart : (field : Field) (had list : List Number) → (is_of field ≡ false → had ≡ []) → others_of (with_left field had list) ≡ others_of (field ∷ [])
  left_apart field [] list none = refl
  left_apart field (first ∷ more) list none =
      elim (cases_Bool (is_of field)) [
        | inl own ↦ others_gone field first more list own
        | inr other ↦ absurd (let e = none other in cc)
      ]

  pub others_stay : (decisions : List (Option ℕ)) (fields : List Field) → others_of (renumber number decisions fields) ≡ others_of fields
  others_stay decisions [] = refl
  others_stay decisions (field ∷ fields) =
      let rest = renumber number (drop (length (field_numbers number field)) decisions) fields in
      let none : is_of field ≡ false → field_numbers number field ≡ [] = λ other. ap (λ chunks. unwrap_or (option_map (map (λ (p : Placed). p.number)) (all_good chunks)) []) (none_of 0 field.tag field.body other) in
      filter-append (λ (f : Field). not (is_of f)) (renumbered_field number decisions field) rest
      ∙ ap (λ first. first ++ others_of rest) (left_apart field (field_numbers number field) (renumbered decisions (field_numbers number field)) none)
      ∙ ap (λ more. others_of (field ∷ []) ++ more) (others_stay (drop (length (field_numbers number field)) decisions) fields)
      ∙ sym (filter-append (λ (f : Field). not (is_of f)) (field ∷ []) fields)

  -- a field of this number has no value of another
  no_value : (other : ℕ) → other ≢ number → (field : Field) → is_of field ≡ true → value_in other field ≡ None
  no_value other apart field own =
      elim (cases_Bool (field.tag.value / 8 == other)) [
        | inl is ↦ absurd (
            let apart_from : (field.tag.value / 8 == number) ≡ false = ne_eqb (field.tag.value / 8) number (λ e. apart (sym (eqb-true (field.tag.value / 8) other is) ∙ e)) in
            let none = rw apart_from at own in
            cc
            )
        | inr differs ↦ rw differs refl
      ]

  values_apart : (other : ℕ) → other ≢ number → (fields : List Field) → filter_map (value_in other) (others_of fields) ≡ filter_map (value_in other) fields
  values_apart other apart [] = refl
  values_apart other apart (field ∷ fields) =
      elim (cases_Bool (is_of field)) [
        | inl own ↦ rw own (values_apart other apart fields ∙ sym (ap (λ (found : Option ℕ). cons_option found (filter_map (value_in other) fields)) (no_value other apart field own)))
        | inr differs ↦ rw differs (ap (cons_option (value_in other field)) (values_apart other apart fields))
      ]

  -- the values of another number are those of the other fields
  pub values_stay : (other : ℕ) → other ≢ number → (old new : List Field) → others_of new ≡ others_of old → filter_map (value_in other) new ≡ filter_map (value_in other) old
  values_stay other apart old new same =
      sym (values_apart other apart new) ∙ ap (filter_map (value_in other)) same ∙ values_apart other apart old
