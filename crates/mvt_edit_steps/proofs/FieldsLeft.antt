-- The fields of a message whose numbers are decided on, those in the fields of one number: what their splices result
-- in.
use Rattle.std.proofs.Common.{◌≡◌, ℕ, ◌*◌, ◌<◌, ◌≤◌, ◌^◌, ◌/◌, ◌==◌, true, false, ◌||◌, not, cond, List, [], ◌∷◌, ◌++◌, Option, Some, None, length, length-append, take, drop, map, filter, append-nil, refl, sym, ap, ◌∙◌, subst, inl, inr, arith}
use Rattle.std.proofs.lemmas.Bool.{cases_Bool, eqb-true, not-false, or_parts}
use Rattle.std.specs.Prelude.{IfSome}
use Rattle.std.specs.List.{AllByRecursion, cons_option, flat_map, list_any, zip}
use Rattle.std.specs.Option.{option_map_or}
use Rattle.mvt_document.specs.Plain as plain
use Rattle.mvt_document.specs.BodyShape.{stored_width}
use Rattle.mvt_document.specs.Groups.{wire_type}
use Rattle.mvt_document.specs.Opens.{IsField}
use Rattle.mvt_document.specs.Shape.{IsTag, IsWidth}
use Rattle.mvt_document.specs.Bodies.{body_of, number_of}
use Rattle.mvt_document.specs.Stands.{field_of}
use Rattle.mvt_document.specs.Wire.{field_bytes, spell}
use Rattle.mvt_document.specs.declared.Body.{Body}
use Rattle.mvt_document.specs.declared.Body.TheVariants as body
use Rattle.mvt_document.specs.declared.Varint.{Varint}
use Rattle.mvt_document.specs.declared.field.FieldParts.{FieldParts as Field}
use Rattle.mvt_document.proofs.EachItem.{all_dropped, all_taken}
use Rattle.mvt_renumber.specs.Fates.{changes, fate_left, field_fate, left_of_fate}
use Rattle.mvt_renumber.specs.declared.fate.Fate.{Fate}
use Rattle.mvt_renumber.specs.declared.fate.Fate.TheVariants.{Stays}
use Rattle.mvt_renumber.specs.Laws.{AreShort, keeping}
use Rattle.mvt_renumber.specs.Renumbering.{decided, field_numbers, is_changed, renumber, renumbered, renumbered_field, some_changed, with_left}
use Rattle.mvt_renumber.proofs.Decisions.{renumbered-none, renumbered_more, with_number-same}
use Rattle.mvt_renumber.proofs.Redone.{kept_stays, stays_valid, own_left}
use Rattle.mvt_meaning.specs.Decided.{as_before, as_renumbered, decided_fields, is_renumbered, renumbered_fields}
use Rattle.mvt_edit_steps.specs.Decided.{field_fates}
use Rattle.mvt_edit_steps.specs.Fates.{splices_of}
use Rattle.mvt_edit_steps.proofs.CarriedOut.{AreThere, CarriesOut, carries_beside, new_in, put_all, spliced_all, taken_all}
use Rattle.mvt_edit_steps.proofs.Heavy.{number_has_bytes, tag_and_content}

-- ---- decisions on the numbers of one field

zip_taken : {A B : Type 0} (xs : List A) (ys : List B) → zip xs (take (length xs) ys) ≡ zip xs ys
zip_taken [] ys = refl
zip_taken (x ∷ xs) [] = refl
zip_taken (x ∷ xs) (y ∷ ys) = ap (λ more. (x, y) ∷ more) (zip_taken xs ys)

changed_taken : (decisions : List (Option ℕ)) (list : List plain.Number) → some_changed (take (length list) decisions) list ≡ some_changed decisions list
changed_taken decisions list = ap (list_any is_changed) (zip_taken list decisions)

renumbered_taken : (decisions : List (Option ℕ)) (list : List plain.Number) → renumbered (take (length list) decisions) list ≡ renumbered decisions list
renumbered_taken decisions [] = sym (renumbered-none decisions)
renumbered_taken [] (n ∷ list) = refl
renumbered_taken (decision ∷ decisions) (n ∷ list) =
    renumbered_more decision (take (length list) decisions) n list
    ∙ ap (cons_option (decided (decision, n))) (renumbered_taken decisions list)
    ∙ sym (renumbered_more decision decisions n list)

-- ---- numbers that keep their values

all_same : (decisions : List (Option ℕ)) (list : List plain.Number) → some_changed decisions list ≡ false → renumbered decisions list ≡ list
all_same decisions [] same = renumbered-none decisions
all_same [] (n ∷ list) same = refl
all_same (None ∷ decisions) (n ∷ list) same = absurd cc
all_same (Some value ∷ decisions) (n ∷ list) same =
    let parts = or_parts (not (value == n.value)) (some_changed decisions list) same in
    let is = eqb-true value n.value (not-false (value == n.value) parts.0) in
    renumbered_more (Some value) decisions n list
    ∙ ap (λ first. first ∷ renumbered decisions list) (with_number-same value n (sym is))
    ∙ ap (λ more. n ∷ more) (all_same decisions list parts.1)

-- ---- what is left of one field

left_fate : (field : plain.Field) (left : List plain.Field) → length left ≤ 1 → left_of_fate (λ y. y) field (fate_left left) ≡ left
left_fate field [] short = refl
left_fate field (first ∷ []) short = refl
left_fate field (first ∷ next ∷ more) short = absurd (omega arith)

new_fate : (left : List plain.Field) → length left ≤ 1 → new_in (fate_left left) ≡ left
new_fate [] short = refl
new_fate (first ∷ []) short = refl
new_fate (first ∷ next ∷ more) short = absurd (omega arith)

one_left : (field : plain.Field) (old new : List plain.Number) → length (with_left field old new) ≤ 1
one_left field [] new = omega arith
one_left field (first ∷ more) [] = omega arith
one_left field (first ∷ more) (next ∷ others) = omega arith

fate_changes : (left : List plain.Field) → changes (fate_left left) ≡ true
fate_changes [] = refl
fate_changes (field ∷ more) = refl

zip_swapped : (decisions : List (Option ℕ)) (list : List plain.Number) → list_any (λ (p : Option ℕ × plain.Number). option_map_or (λ value. not (value == p.1.value)) p.0 true) (zip decisions list) ≡ some_changed decisions list
zip_swapped [] [] = refl
zip_swapped [] (n ∷ list) = refl
zip_swapped (decision ∷ decisions) [] = refl
zip_swapped (decision ∷ decisions) (n ∷ list) = ap (λ more. option_map_or (λ value. not (value == n.value)) decision true || more) (zip_swapped decisions list)

-- ---- fields of the program from which numbers are read

abbrev Packs : plain.Body → Type 0
Packs (plain.Spelled number) = Unit {0}
Packs (plain.Delimited width bytes) = Unit {0}
Packs other = ⊥

record IsGood (field : plain.Field) : Type 0 where
  valid : IsField field
  long : 2 ≤ length (field_bytes field)

good : (tag : Varint) (body : Body) → IsTag tag.value (wire_type (body_of body)) → IsWidth (stored_width (body_of body)) → Packs (body_of body) → IsGood (record { tag = number_of tag; body = body_of body })
good tag (body.Number number) typed wide packs = record {
  valid = record { number = tag.spelled; tag = typed; body = number.spelled };
  long = omega (arith, number_has_bytes tag, number_has_bytes number, length-append (spell tag.value tag.width) (spell number.value number.width));
}
good tag (body.Eight bytes) typed wide packs = absurd packs
good tag (body.Four bytes) typed wide packs = absurd packs
good tag (body.Group bytes) typed wide packs = absurd packs
good tag (body.Bytes width bytes) typed wide packs = record {
  valid = record { number = tag.spelled; tag = typed; body = wide };
  long = tag_and_content tag.value tag.width width bytes.items tag.spelled;
}

both_valid : (first rest : List plain.Field) → AllByRecursion IsField first → AllByRecursion IsField rest → AllByRecursion IsField (first ++ rest)
both_valid [] rest all others = others
both_valid (field ∷ first) rest all others = (all.0, both_valid first rest all.1 others)

abbrev field_at : List (Option ℕ) × plain.Field → plain.Field
field_at at = at.1

-- ---- the fields of one number

module _ (number : ℕ) where
  module _ (decisions : List (Option ℕ)) (field : plain.Field) where
    abbrev own : List plain.Number
    own = field_numbers number field

    short : length (renumbered_field number decisions field) ≤ 1
    short = one_left field own (renumbered decisions own)

    left_one : left_of_fate (λ y. y) field (field_fate number decisions field) ≡ renumbered_field number decisions field
    left_one =
        elim (cases_Bool (some_changed decisions own)) [
          | inl some ↦ rw some (left_fate field (renumbered_field number decisions field) short)
          | inr same ↦ rw same (sym (ap (with_left field own) (all_same decisions own same) ∙ own_left number field (field_numbers number field) refl))
        ]

    pub changes_one : changes (field_fate number decisions field) ≡ some_changed decisions own
    changes_one =
        elim (cases_Bool (some_changed decisions own)) [ inl some ↦ rw some (fate_changes (renumbered_field number decisions field)) | inr same ↦ rw same refl ]

    taken_one : field_fate number (take (length own) decisions) field ≡ field_fate number decisions field
    taken_one =
        ap (λ changed. cond changed (fate_left (renumbered_field number (take (length own) decisions) field)) Stays) (changed_taken decisions own)
        ∙ ap (λ left. cond (some_changed decisions own) (fate_left (with_left field own left)) Stays) (renumbered_taken decisions own)

    left_taken : renumbered_field number (take (length own) decisions) field ≡ renumbered_field number decisions field
    left_taken = ap (with_left field own) (renumbered_taken decisions own)

  differs_as : (decisions : List (Option ℕ)) (field : plain.Field) → is_renumbered number (decisions, field) ≡ changes (field_fate number decisions field)
  differs_as decisions field = zip_swapped decisions (field_numbers number field) ∙ sym (changes_one decisions field)

  -- ---- all fields, each with its decisions

  abbrev fate : List (Option ℕ) × plain.Field → Fate plain.Field
  fate at = field_fate number at.0 at.1

  fields_same : (decisions : List (Option ℕ)) (fields : List plain.Field) → map field_at (decided_fields number decisions fields) ≡ fields
  fields_same decisions [] = refl
  fields_same decisions (field ∷ more) = ap (λ fields. field ∷ fields) (fields_same (drop (length (field_numbers number field)) decisions) more)

  fates_same : (decisions : List (Option ℕ)) (fields : List plain.Field) → map fate (decided_fields number decisions fields) ≡ field_fates number decisions fields
  fates_same decisions [] = refl
  fates_same decisions (field ∷ more) =
      let following = drop (length (field_numbers number field)) decisions in
      ap (λ first. first ∷ map fate (decided_fields number following more)) (taken_one decisions field) ∙ ap (λ fates. field_fate number decisions field ∷ fates) (fates_same following more)

  left_same : (decisions : List (Option ℕ)) (fields : List plain.Field) → flat_map (λ at. left_of_fate (λ y. y) (field_at at) (fate at)) (decided_fields number decisions fields) ≡ renumber number decisions fields
  left_same decisions [] = refl
  left_same decisions (field ∷ more) =
      let first = take (length (field_numbers number field)) decisions in
      let following = drop (length (field_numbers number field)) decisions in
      ap (λ left. left ++ flat_map (λ at. left_of_fate (λ y. y) (field_at at) (fate at)) (decided_fields number following more)) (left_one first field ∙ left_taken decisions field)
      ∙ ap (λ rest. renumbered_field number decisions field ++ rest) (left_same following more)

  taken_same : (list : List (List (Option ℕ) × plain.Field)) → filter (λ at. changes (fate at)) list ≡ filter (is_renumbered number) list
  taken_same [] = refl
  taken_same (at ∷ list) =
      let same = differs_as at.0 at.1 in
      elim (cases_Bool (changes (fate at))) [
        | inl changed ↦ (let is = same ∙ changed in rw (changed, is) (ap (λ rest. at ∷ rest) (taken_same list)))
        | inr stays ↦ (let is = same ∙ stays in rw (stays, is) (taken_same list))
      ]

  put_same : (list : List (List (Option ℕ) × plain.Field)) → flat_map (λ at. new_in (fate at)) list ≡ as_renumbered number (filter (is_renumbered number) list)
  put_same [] = refl
  put_same (at ∷ list) =
      let left = renumbered_field number at.0 at.1 in
      let same = differs_as at.0 at.1 ∙ changes_one at.0 at.1 in
      elim (cases_Bool (some_changed at.0 (field_numbers number at.1))) [
        | inl changed ↦ (let is = same ∙ changed in rw (changed, is) (ap (λ first. first ++ flat_map (λ at. new_in (fate at)) list) (new_fate left (short at.0 at.1)) ∙ ap (λ rest. left ++ rest) (put_same list)))
        | inr stays ↦ (let is = same ∙ stays in rw (stays, is) (put_same list))
      ]

  packs : (tag : plain.Number) (body : plain.Body) (first : plain.Number) (more : List plain.Number) → field_numbers number (record { tag = tag; body = body }) ≡ first ∷ more → Packs body
  packs tag (plain.Spelled value) first more is = tt
  packs tag (plain.Delimited width bytes) first more is = tt
  packs tag (plain.Eight bytes) first more is = absurd (elim (cases_Bool (tag.value / 8 == number)) [ inl same ↦ let none = rw same at is in cc | inr other ↦ let none = rw other at is in cc ])
  packs tag (plain.Four bytes) first more is = absurd (elim (cases_Bool (tag.value / 8 == number)) [ inl same ↦ let none = rw same at is in cc | inr other ↦ let none = rw other at is in cc ])
  packs tag (plain.Group bytes) first more is = absurd (elim (cases_Bool (tag.value / 8 == number)) [ inl same ↦ let none = rw same at is in cc | inr other ↦ let none = rw other at is in cc ])

  numbers_good : (field : Field) (decisions : List (Option ℕ)) (list : List plain.Number) → field_numbers number (field_of field) ≡ list → some_changed decisions list ≡ true → IsGood (field_of field)
  numbers_good field decisions [] is some = absurd cc
  numbers_good field decisions (first ∷ more) is some = good field.tag field.body field.is_tag field.is_width (packs (number_of field.tag) (body_of field.body) first more is)

  changed_good : (field : Field) (decisions : List (Option ℕ)) → some_changed decisions (field_numbers number (field_of field)) ≡ true → IsGood (field_of field)
  changed_good field decisions some = numbers_good field decisions (field_numbers number (field_of field)) refl some

  left_valid : (field : plain.Field) (decisions : List (Option ℕ)) → AreShort decisions → IsField field → AllByRecursion IsField (renumbered_field number decisions field)
  left_valid field decisions small valid = subst (AllByRecursion IsField) (append-nil (renumbered_field number decisions field)) (stays_valid number decisions (field ∷ []) small (valid, tt))

  put_valid : (decisions : List (Option ℕ)) (fields : List Field) → AreShort decisions → AllByRecursion IsField (flat_map (λ at. new_in (fate at)) (decided_fields number decisions (map field_of fields)))
  put_valid decisions [] small = tt
  put_valid decisions (field ∷ fields) small =
      let here = field_of field in
      let n = length (field_numbers number here) in
      let first = take n decisions in
      let left = renumbered_field number first here in
      let rest = put_valid (drop n decisions) fields (all_dropped (λ decision. IfSome decision (λ value. value < 2 ^ 64)) n decisions small) in
      let firsts = all_taken (λ decision. IfSome decision (λ value. value < 2 ^ 64)) n decisions small in
      elim (cases_Bool (some_changed first (field_numbers number here))) [
        | inl some ↦ (let valid = left_valid here first firsts (changed_good field first some).valid in rw some (both_valid (new_in (fate_left left)) _ (subst (AllByRecursion IsField) (sym (new_fate left (short first here))) valid) rest))
        | inr stays ↦ rw stays rest
      ]

  taken_heavy : (decisions : List (Option ℕ)) (fields : List Field) → 2 * length (map field_at (filter (λ at. changes (fate at)) (decided_fields number decisions (map field_of fields)))) ≤ length (flat_map field_bytes (map field_at (filter (λ at. changes (fate at)) (decided_fields number decisions (map field_of fields)))))
  taken_heavy decisions [] = omega arith
  taken_heavy decisions (field ∷ fields) =
      let here = field_of field in
      let n = length (field_numbers number here) in
      let first = take n decisions in
      let more = taken_heavy (drop n decisions) fields in
      let others = flat_map field_bytes (map field_at (filter (λ at. changes (fate at)) (decided_fields number (drop n decisions) (map field_of fields)))) in
      elim (cases_Bool (changes (fate (first, here)))) [
        | inl changed ↦ (let long = (changed_good field first (sym (changes_one first here) ∙ changed)).long in rw changed (omega (arith, length-append (field_bytes here) others)))
        | inr stays ↦ rw stays more
      ]

  -- ---- what the splices of the fields result in

  module _ (decisions : List (Option ℕ)) (fields : List plain.Field) where
    abbrev left : List plain.Field
    left = flat_map (λ at. left_of_fate (λ y. y) (field_at at) (fate at)) (decided_fields number decisions fields)

    abbrev taken : List plain.Field
    taken = map field_at (filter (λ at. changes (fate at)) (decided_fields number decisions fields))

    abbrev put : List plain.Field
    put = flat_map (λ at. new_in (fate at)) (decided_fields number decisions fields)

    carried : CarriesOut (field_fates number decisions fields) fields left taken put
    carried =
        subst (λ items. CarriesOut (field_fates number decisions fields) items left taken put) (fields_same decisions fields)
        (subst (λ fates. CarriesOut fates (map field_at (decided_fields number decisions fields)) left taken put) (fates_same decisions fields) (carries_beside field_at fate (decided_fields number decisions fields)))

    differ_taken : taken ≡ as_before (renumbered_fields number decisions fields)
    differ_taken = ap (map field_at) (taken_same (decided_fields number decisions fields))

    -- the fields that differ are taken out, and what becomes of them is put
    pub fields_taken : taken_all (splices_of (field_fates number decisions fields)) fields ≡ as_before (renumbered_fields number decisions fields)
    fields_taken = carried.takes ∙ differ_taken

    pub fields_put : put_all (splices_of (field_fates number decisions fields)) ≡ as_renumbered number (renumbered_fields number decisions fields)
    fields_put = carried.puts ∙ put_same (decided_fields number decisions fields)

-- the splices can be carried out on the fields of a message of the program, the numbers are those that are decided on, and
-- the fields that differ are taken out and put
pub record FieldsLeft (number : ℕ) (decisions : List (Option ℕ)) (fields : List plain.Field) : Type 0 where
  pub there : AreThere (splices_of (field_fates number decisions fields)) fields
  pub valid : AllByRecursion IsField (put_all (splices_of (field_fates number decisions fields)))
  pub leaves : spliced_all (splices_of (field_fates number decisions fields)) fields ≡ renumber number decisions fields
  pub takes : taken_all (splices_of (field_fates number decisions fields)) fields ≡ as_before (renumbered_fields number decisions fields)
  pub puts : put_all (splices_of (field_fates number decisions fields)) ≡ as_renumbered number (renumbered_fields number decisions fields)
  pub few : 2 * length (splices_of (field_fates number decisions fields)) ≤ length (flat_map field_bytes (as_before (renumbered_fields number decisions fields)))

pub fields_left : (number : ℕ) (decisions : List (Option ℕ)) (fields : List Field) → AreShort decisions → FieldsLeft number decisions (map field_of fields)
fields_left number decisions fields small =
    let plain_list = map field_of fields in
    let here = carried number decisions plain_list in
    let few = here.few in
    record {
      there = here.there;
      valid = subst (AllByRecursion IsField) (sym here.puts) (put_valid number decisions fields small);
      leaves = here.leaves ∙ left_same number decisions plain_list;
      takes = fields_taken number decisions plain_list;
      puts = fields_put number decisions plain_list;
      few = omega (arith, taken_heavy number decisions fields, ap (λ gone. length (flat_map field_bytes gone)) (differ_taken number decisions plain_list));
    }
