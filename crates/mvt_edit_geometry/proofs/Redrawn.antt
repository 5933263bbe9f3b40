-- Fields of a feature that get another kind and another geometry: what the one leaves of the other.
use Rattle.std.proofs.Common.{◌≡◌, ℕ, ◌/◌, ◌==◌, ◌*◌, ◌≤◌, Bool, true, false, ◌&&◌, not, cond, None, List, [], ◌∷◌, ◌++◌, length, length-append, map, filter, refl, sym, ap, ◌∙◌, inl, inr, arith}
use Rattle.std.proofs.lemmas.Bool.{and_parts, cases_Bool, eqb-true, ne_eqb}
use Rattle.std.proofs.lemmas.List.{append-nil, map-append}
use Rattle.std.proofs.lemmas.List.Elements.{filter-append}
use Rattle.std.specs.List.{flat_map, last_or, list_any}
use Rattle.std.specs.Option.{option_map_or}
use Rattle.mvt_document.specs.Opens.{IsField}
use Rattle.mvt_document.specs.Plain as plain
use Rattle.mvt_document.specs.Bodies.{body_of, number_of}
use Rattle.mvt_document.specs.Stands.{field_of}
use Rattle.mvt_document.specs.Wire.{field_bytes, minimal_width, spell}
use Rattle.mvt_document.specs.declared.Body.{Body}
use Rattle.mvt_document.specs.declared.Body.TheVariants as body
use Rattle.mvt_document.specs.declared.Varint.{Varint}
use Rattle.mvt_document.specs.declared.field.FieldParts.{FieldParts as Field}
use Rattle.mvt_document.proofs.Spelling.{minimal_spelling}
use Rattle.mvt_meaning.specs.Fields.{new_content, new_number, with_field_value}
use Rattle.mvt_meaning.specs.Geometries.{is_geometry_field, is_kind, with_kind}
use Rattle.mvt_meaning.specs.Ordinals.{change_last, put_last, put_once}
use Rattle.mvt_meaning.specs.Weights.{weigh_last}
use Rattle.mvt_meaning.proofs.PutOnce.{put_alone}
use Rattle.mvt_edit_steps.specs.Once.{once_splices}
use Rattle.mvt_edit_steps.proofs.Heavy.{heavy, number_has_bytes, tag_and_content}
use Rattle.mvt_edit_steps.proofs.NumberFields.{numbered_kept}
use Rattle.mvt_edit_steps.proofs.Once.{one_skipped}

-- ---- what a test says of a list in which the last item that passes another test is changed, or which gets a new one

module _ {A : Type 0} (passes test : A → Bool) (change : A → A) (new : A) (apart : (x : A) → passes x ≡ true → test x ≡ false) (changed : (x : A) → passes x ≡ true → test (change x) ≡ false) (fresh : test new ≡ false) where
  last_tested : (xs : List A) → map test (change_last passes change xs) ≡ map test xs
  last_tested [] = refl
  last_tested (x ∷ xs) =
      elim (cases_Bool (passes x && not (list_any passes xs))) [
        | inl here ↦ (let pass = (and_parts (passes x) (not (list_any passes xs)) here).0 in rw here (ap (λ is. is ∷ map test xs) (changed x pass ∙ sym (apart x pass))))
        | inr later ↦ rw later (ap (λ more. test x ∷ more) (last_tested xs))
      ]

  last_kept : (xs : List A) → filter test (change_last passes change xs) ≡ filter test xs
  last_kept [] = refl
  last_kept (x ∷ xs) =
      elim (cases_Bool (passes x && not (list_any passes xs))) [
        | inl here ↦ (
            let pass = (and_parts (passes x) (not (list_any passes xs)) here).0 in
            let old = apart x pass in
            let made = changed x pass in
            rw (here, old, made) refl
            )
        | inr later ↦ rw later (elim (cases_Bool (test x)) [ inl is ↦ rw is (ap (λ ys. x ∷ ys) (last_kept xs)) | inr other ↦ rw other (last_kept xs) ])
      ]

  put_tested : (xs : List A) → map test (put_last passes change new xs) ≡ map test xs ++ cond (list_any passes xs) [] (false ∷ [])
  put_tested xs =
      elim (cases_Bool (list_any passes xs)) [
        | inl some ↦ rw some (last_tested xs ∙ sym (append-nil (map test xs)))
        | inr none ↦ rw none (map-append test xs (new ∷ []) ∙ ap (λ is. map test xs ++ is ∷ []) fresh)
      ]

  put_kept : (xs : List A) → filter test (put_last passes change new xs) ≡ filter test xs
  put_kept xs =
      let gone : filter test (new ∷ []) ≡ [] = rw fresh refl in
      elim (cases_Bool (list_any passes xs)) [
        | inl some ↦ rw some (last_kept xs)
        | inr none ↦ rw none (filter-append test xs (new ∷ []) ∙ ap (λ ys. filter test xs ++ ys) gone ∙ append-nil (filter test xs))
      ]

-- ---- what a test says of a list that has a new item in place of all that pass another test

module _ {A : Type 0} (passes : A → Bool) (new : A) where
  module _ (test : A → Bool) (apart : (x : A) → passes x ≡ true → test x ≡ false) (fresh : test new ≡ false) where
    others_kept : (xs : List A) → filter test (filter (λ y. not (passes y)) xs) ≡ filter test xs
    others_kept [] = refl
    others_kept (x ∷ xs) =
        elim (cases_Bool (passes x)) [
          | inl pass ↦ (let other = apart x pass in rw (pass, other) (others_kept xs))
          | inr skip ↦ rw skip (elim (cases_Bool (test x)) [ inl is ↦ rw is (ap (λ ys. x ∷ ys) (others_kept xs)) | inr other ↦ rw other (others_kept xs) ])
        ]

    once_kept : (xs : List A) → filter test (put_once passes new xs) ≡ filter test xs
    once_kept [] = rw fresh refl
    once_kept (x ∷ xs) =
        elim (cases_Bool (passes x)) [
          | inl pass ↦ (let other = apart x pass in rw (pass, fresh, other) (others_kept xs))
          | inr skip ↦ rw skip (elim (cases_Bool (test x)) [ inl is ↦ rw is (ap (λ ys. x ∷ ys) (once_kept xs)) | inr other ↦ rw other (once_kept xs) ])
        ]

-- ---- a kind field is not a geometry field

pub kind_apart : (field : plain.Field) → is_kind field ≡ true → is_geometry_field field ≡ false
kind_apart field kind =
    elim (cases_Bool (field.tag.value / 8 == 3)) [
      | inl three ↦ (let other : (field.tag.value / 8 == 4) ≡ false = ne_eqb (field.tag.value / 8) 4 (λ same. omega (arith, same, eqb-true (field.tag.value / 8) 3 three)) in rw other refl)
      | inr differs ↦ absurd (let none = rw differs at kind in cc)
    ]

pub drawing_apart : (field : plain.Field) → is_geometry_field field ≡ true → is_kind field ≡ false
drawing_apart field drawn = elim (cases_Bool (is_kind field)) [ inl kind ↦ absurd (let other = kind_apart field kind in cc) | inr differs ↦ differs ]

pub changed_apart : (kind : ℕ) (field : plain.Field) → is_kind field ≡ true → is_geometry_field (with_field_value kind field) ≡ false
changed_apart kind field is = kind_apart (with_field_value kind field) (numbered_kept 24 kind field is)

-- ---- the fields with another kind, and with another geometry

module _ (kind : ℕ) (fields : List plain.Field) where
  -- the geometry fields are the same, with their positions
  pub kinded_drawings : filter is_geometry_field (with_kind kind fields) ≡ filter is_geometry_field fields
  kinded_drawings = put_kept is_kind is_geometry_field (with_field_value kind) (new_number 24 kind) kind_apart (changed_apart kind) refl fields

  kinded_tested : map is_geometry_field (with_kind kind fields) ≡ map is_geometry_field fields ++ cond (list_any is_kind fields) [] (false ∷ [])
  kinded_tested = put_tested is_kind is_geometry_field (with_field_value kind) (new_number 24 kind) kind_apart (changed_apart kind) refl fields

  pub kinded_splices : (drawing : plain.Field) (end : ℕ) → once_splices (map is_geometry_field (with_kind kind fields)) drawing end ≡ once_splices (map is_geometry_field fields) drawing end
  kinded_splices drawing end =
      let tested = map is_geometry_field fields in
      ap (λ picked. once_splices picked drawing end) kinded_tested
      ∙ elim (cases_Bool (list_any is_kind fields)) [
        | inl some ↦ rw some (ap (λ picked. once_splices picked drawing end) (append-nil tested))
        | inr none ↦ rw none (one_skipped tested drawing end)
      ]

module _ (bytes : List ℕ) (fields : List plain.Field) where
  pub one_drawing : filter is_geometry_field (put_once is_geometry_field (new_content 34 bytes) fields) ≡ new_content 34 bytes ∷ []
  one_drawing = put_alone is_geometry_field (new_content 34 bytes) refl fields

  pub drawn_kinds : weigh_last field_bytes is_kind (put_once is_geometry_field (new_content 34 bytes) fields) ≡ weigh_last field_bytes is_kind fields
  drawn_kinds = ap (λ kinds. option_map_or (λ field. length (field_bytes field)) (last_or None kinds) 0) (once_kept is_geometry_field (new_content 34 bytes) is_kind drawing_apart refl fields)

pub drawing_valid : (bytes : List ℕ) → IsField (new_content 34 bytes)
drawing_valid bytes = record { number = minimal_spelling 34 (omega arith); tag = record { numbered = omega arith; short = omega arith; typed = refl }; body = record { some = omega arith; short = omega arith } }

-- ---- each geometry field has two bytes

pub drawing_long : (bytes : List ℕ) → 2 ≤ length (field_bytes (new_content 34 bytes))
drawing_long bytes = tag_and_content 34 (minimal_width 34) 1 bytes (minimal_spelling 34 (omega arith))

long_with : (tag : Varint) (body : Body) → is_geometry_field (record { tag = number_of tag; body = body_of body }) ≡ true → 2 ≤ length (field_bytes (record { tag = number_of tag; body = body_of body }))
long_with tag (body.Number number) drawn = omega (arith, number_has_bytes tag, number_has_bytes number, length-append (spell tag.value tag.width) (spell number.value number.width))
long_with tag (body.Bytes width bytes) drawn = tag_and_content tag.value tag.width width bytes.items tag.spelled
long_with tag (body.Eight bytes) drawn = absurd (elim (cases_Bool (tag.value / 8 == 4)) [ inl four ↦ let none = rw four at drawn in cc | inr other ↦ let none = rw other at drawn in cc ])
long_with tag (body.Four bytes) drawn = absurd (elim (cases_Bool (tag.value / 8 == 4)) [ inl four ↦ let none = rw four at drawn in cc | inr other ↦ let none = rw other at drawn in cc ])
long_with tag (body.Group bytes) drawn = absurd (elim (cases_Bool (tag.value / 8 == 4)) [ inl four ↦ let none = rw four at drawn in cc | inr other ↦ let none = rw other at drawn in cc ])

pub drawings_heavy : (fields : List Field) → 2 * length (filter is_geometry_field (map field_of fields)) ≤ length (flat_map field_bytes (filter is_geometry_field (map field_of fields)))
drawings_heavy fields = heavy field_bytes field_of is_geometry_field (λ field drawn. long_with field.tag field.body drawn) fields
