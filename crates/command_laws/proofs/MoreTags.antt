-- The tags of a feature with more numbers after them: what is read of them, and the fields other than tags.
use Rattle.std.proofs.Common.{◌≡◌, ℕ, ◌/◌, Bool, true, false, ◌&&◌, not, is_some, ◌==◌, Option, Some, None, List, [], ◌∷◌, ◌++◌, filter, refl, sym, ap, ◌∙◌, inl, inr, append_assoc, append-nil}
use Rattle.std.proofs.lemmas.Bool.{and_parts, cases_Bool, cond_both, or_parts}
use Rattle.std.proofs.lemmas.List.Concat.{flat_map-append}
use Rattle.std.proofs.lemmas.List.Elements.{filter-append}
use Rattle.std.specs.List.{AllByRecursion, flat_map, last_or, list_any}
use Rattle.std.specs.Option.{option_map_or}
use Rattle.mvt_document.specs.Groups.{IsNumber}
use Rattle.mvt_document.specs.Plain.{Number, Body, Spelled, Eight, Four, Delimited, Group, Field}
use Rattle.mvt_document.specs.Wire.{spelling}
use Rattle.mvt_document.proofs.EachItem.{all_joined}
use Rattle.mvt_document.proofs.Lists.{none_filtered}
use Rattle.mvt_renumber.specs.Deciding.{packed_numbers}
use Rattle.mvt_renumber.specs.Laws.{read_numbers}
use Rattle.mvt_renumber.proofs.Decisions.{packed-spellings}
use Rattle.mvt_renumber.proofs.Redone.{packed-read}
use Rattle.mvt_renumber.proofs.Reread.{appended_is_read, both_found, both_some, field_read, fields_read, found_in, read_is}
use Rattle.mvt_messages.specs.Views.{content_in}
use Rattle.mvt_meaning.specs.Fields.{new_content}
use Rattle.mvt_meaning.specs.Ordinals.{change_last}
use Rattle.mvt_meaning.specs.Tagging.{is_packed_last, is_tags, with_more_content, with_more_tags, without_tags}
use Rattle.mvt_meaning.proofs.Positions.{change_here, change_later, later_any}
use Rattle.command_laws.proofs.OtherFields.{none_of}

-- ---- the last tags field

last_any : (passes : Field → Bool) (before : Option Field) (xs : List Field) → list_any passes xs ≡ true → last_or before (filter passes xs) ≡ last_or None (filter passes xs)
last_any passes before [] e = absurd cc
last_any passes before (x ∷ xs) e =
    elim (cases_Bool (passes x)) [
      | inl pass ↦ rw pass refl
      | inr skip ↦ rw skip (last_any passes before xs (later_any passes x xs e skip))
    ]

-- the last tags field is a LEN field
abbrev is_len : Option Field → Bool
is_len last = option_map_or (λ (field : Field). is_some (content_in 2 field)) last false

packed_later : (x : Field) (xs : List Field) → list_any is_tags xs ≡ true → is_packed_last (x ∷ xs) ≡ true → is_packed_last xs ≡ true
packed_later x xs later e =
    elim (cases_Bool (is_tags x)) [
      | inl tags ↦ ap is_len (sym (last_any is_tags (Some x) xs later)) ∙ (rw tags at e)
      | inr other ↦ rw other at e
    ]

packed_here : (x : Field) (xs : List Field) → list_any is_tags xs ≡ false → is_packed_last (x ∷ xs) ≡ true → (is_tags x ≡ true) × (is_some (content_in 2 x) ≡ true)
packed_here x xs none e =
    elim (cases_Bool (is_tags x)) [
      | inl tags ↦ (tags, rw (tags, none_filtered is_tags xs none) at e)
      | inr other ↦ absurd (let nothing = rw (other, none_filtered is_tags xs none) at e in cc)
    ]

-- ---- what is read

none_read : (xs : List Field) → list_any is_tags xs ≡ false → fields_read 2 xs ≡ Some []
none_read [] e = refl
none_read (x ∷ xs) e =
    let parts = or_parts (is_tags x) (list_any is_tags xs) e in
    let first : field_read 2 x ≡ Some [] = ap found_in (none_of 2 0 x.tag x.body parts.0) in
    ap (λ (found : Option (List Number)). both_found found (fields_read 2 xs)) first ∙ ap (both_found (Some [])) (none_read xs parts.1)

module _ (more : List Number) (valid : AllByRecursion IsNumber more) where
  packed_more : (bytes : List ℕ) (found : List Number) → packed_numbers bytes ≡ Some found → packed_numbers (bytes ++ flat_map spelling more) ≡ Some (found ++ more)
  packed_more bytes found e =
      let read = packed-read bytes found e in
      ap (λ (front : List ℕ). packed_numbers (front ++ flat_map spelling more)) (sym read.0)
      ∙ ap packed_numbers (sym (flat_map-append spelling found more))
      ∙ packed-spellings (found ++ more) (all_joined IsNumber found more read.1 valid)

  field_more : (tag : Number) (body : Body) (found : List Number) → is_some (content_in 2 (record { tag = tag; body = body })) ≡ true → field_read 2 (record { tag = tag; body = body }) ≡ Some found → field_read 2 (with_more_content (flat_map spelling more) (record { tag = tag; body = body })) ≡ Some (found ++ more)
  field_more tag (Delimited width bytes) found is e =
      elim (cases_Bool (tag.value / 8 == 2)) [
        | inl two ↦ rw two (packed_more bytes found (rw two at e))
        | inr other ↦ absurd (let none = rw other at is in cc)
      ]
  field_more tag (Spelled number) found is e = absurd (elim (cases_Bool (tag.value / 8 == 2)) [ inl two ↦ let none = rw two at is in cc | inr other ↦ let none = rw other at is in cc ])
  field_more tag (Eight bytes) found is e = absurd (elim (cases_Bool (tag.value / 8 == 2)) [ inl two ↦ let none = rw two at is in cc | inr other ↦ let none = rw other at is in cc ])
  field_more tag (Four bytes) found is e = absurd (elim (cases_Bool (tag.value / 8 == 2)) [ inl two ↦ let none = rw two at is in cc | inr other ↦ let none = rw other at is in cc ])
  field_more tag (Group bytes) found is e = absurd (elim (cases_Bool (tag.value / 8 == 2)) [ inl two ↦ let none = rw two at is in cc | inr other ↦ let none = rw other at is in cc ])

  last_more : (fields : List Field) (found : List Number) → is_packed_last fields ≡ true → fields_read 2 fields ≡ Some found → fields_read 2 (change_last is_tags (with_more_content (flat_map spelling more)) fields) ≡ Some (found ++ more)
  last_more [] found packed e = absurd cc
  last_more (x ∷ xs) found packed e =
      let change = with_more_content (flat_map spelling more) in
      let b = both_some (field_read 2 x) (fields_read 2 xs) found e in
      elim (cases_Bool (list_any is_tags xs)) [
        | inl later ↦ (
            ap (fields_read 2) (change_later is_tags change x xs later)
            ∙ ap (λ (first : Option (List Number)). both_found first (fields_read 2 (change_last is_tags change xs))) b.first_is
            ∙ ap (both_found (Some b.first)) (last_more xs b.second (packed_later x xs later packed) b.second_is)
            ∙ ap Some (sym (append_assoc b.first b.second more) ∙ ap (λ (list : List Number). list ++ more) b.joined)
            )
        | inr none ↦ (
            let here = packed_here x xs none packed in
            let second : b.second ≡ [] = let both = sym b.second_is ∙ none_read xs none in cc in
            let whole : b.first ≡ found = sym (append-nil b.first) ∙ ap (λ (list : List Number). b.first ++ list) (sym second) ∙ b.joined in
            ap (fields_read 2) (change_here is_tags change x xs here.0 none)
            ∙ ap (λ (first : Option (List Number)). both_found first (fields_read 2 xs)) (field_more x.tag x.body b.first here.1 b.first_is)
            ∙ ap (both_found (Some (b.first ++ more))) (none_read xs none)
            ∙ ap Some (append-nil (b.first ++ more) ∙ ap (λ (list : List Number). list ++ more) whole)
            )
      ]

  new_read : read_numbers 2 (new_content 18 (flat_map spelling more) ∷ []) ≡ Some more
  new_read =
      let first : field_read 2 (new_content 18 (flat_map spelling more)) ≡ Some more = packed-spellings more valid in
      read_is 2 (new_content 18 (flat_map spelling more) ∷ [])
      ∙ ap (λ (found : Option (List Number)). both_found found (Some [])) first
      ∙ ap Some (append-nil more)

  -- the numbers that were there, and then these
  pub more_is_read : (fields : List Field) (found : List Number) → read_numbers 2 fields ≡ Some found → read_numbers 2 (with_more_tags (flat_map spelling more) fields) ≡ Some (found ++ more)
  more_is_read fields found e =
      let bytes = flat_map spelling more in
      let changed = change_last is_tags (with_more_content bytes) fields in
      cond_both (is_packed_last fields) changed (fields ++ new_content 18 bytes ∷ []) (λ list. read_numbers 2 list ≡ Some (found ++ more))
      (λ packed. read_is 2 changed ∙ last_more fields found packed (sym (read_is 2 fields) ∙ e))
      (λ other. appended_is_read 2 fields (new_content 18 bytes ∷ []) found more e new_read)

-- ---- the fields other than tags

module _ (more : List ℕ) where
  still_tags : (tag : Number) (body : Body) → is_tags (with_more_content more (record { tag = tag; body = body })) ≡ is_tags (record { tag = tag; body = body })
  still_tags tag (Delimited width bytes) = elim (cases_Bool (tag.value / 8 == 2)) [ inl two ↦ rw two refl | inr other ↦ rw other refl ]
  still_tags tag (Spelled number) = refl
  still_tags tag (Eight bytes) = refl
  still_tags tag (Four bytes) = refl
  still_tags tag (Group bytes) = refl

  below : (x : Field) (xs ys : List Field) → without_tags ys ≡ without_tags xs → without_tags (x ∷ ys) ≡ without_tags (x ∷ xs)
  below x xs ys same = elim (cases_Bool (is_tags x)) [ inl tags ↦ rw tags same | inr other ↦ rw other (ap (λ rest. x ∷ rest) same) ]

  here : (x : Field) (xs : List Field) → is_tags x ≡ true → without_tags (with_more_content more x ∷ xs) ≡ without_tags (x ∷ xs)
  here x xs tags =
      let still : is_tags (with_more_content more x) ≡ true = still_tags x.tag x.body ∙ tags in
      rw (still, tags) refl

  last_apart : (fields : List Field) → without_tags (change_last is_tags (with_more_content more) fields) ≡ without_tags fields
  last_apart [] = refl
  last_apart (x ∷ xs) =
      cond_both (is_tags x && not (list_any is_tags xs)) (with_more_content more x ∷ xs) (x ∷ change_last is_tags (with_more_content more) xs) (λ list. without_tags list ≡ without_tags (x ∷ xs))
      (λ is. here x xs (and_parts (is_tags x) (not (list_any is_tags xs)) is).0)
      (λ _. below x xs (change_last is_tags (with_more_content more) xs) (last_apart xs))

  pub more_apart : (fields : List Field) → without_tags (with_more_tags more fields) ≡ without_tags fields
  more_apart fields =
      cond_both (is_packed_last fields) (change_last is_tags (with_more_content more) fields) (fields ++ new_content 18 more ∷ []) (λ list. without_tags list ≡ without_tags fields)
      (λ _. last_apart fields)
      (λ _. filter-append (λ (field : Field). not (is_tags field)) fields (new_content 18 more ∷ []) ∙ append-nil (without_tags fields))
