-- The tags field that a further pair is put into: the last, if it is packed, or a new one.
use Rattle.std.proofs.Common.{◌≡◌, ℕ, ◌+◌, ◌/◌, ◌==◌, Bool, true, false, cond, Bor, Option, Some, None, is_some, List, [], ◌∷◌, ◌++◌, length, map, filter, slice_get, refl, sym, ap, ◌∙◌, subst, inl, inr, arith}
use Rattle.std.proofs.lemmas.Bool.{cases_Bool}
use Rattle.std.proofs.lemmas.List.{length-map}
use Rattle.std.proofs.lemmas.Option.{slice_get-map, slice_get_past}
use Rattle.std.specs.List.{last_or, list_any}
use Rattle.std.specs.Option.{IfSome, option_copied, option_map_or, unwrap_or}
use Rattle.std.specs.Slice.{IsItemAt}
use Rattle.mvt_document.specs.Opens.{IsField}
use Rattle.mvt_document.specs.Plain as plain
use Rattle.mvt_document.specs.Stands.{field_of}
use Rattle.mvt_document.specs.Wire.{field_bytes}
use Rattle.mvt_document.specs.declared.field.FieldParts.{FieldParts as Field}
use Rattle.mvt_document.proofs.Lists.{none_filtered}
use Rattle.mvt_messages.specs.Views.{content_in}
use Rattle.mvt_meaning.specs.Fields.{new_content}
use Rattle.mvt_meaning.specs.Ordinals.{put_last}
use Rattle.mvt_meaning.specs.Tagging.{is_packed_last, is_tags, with_more_content, with_more_tags}
use Rattle.mvt_meaning.specs.Weights.{weigh_last}
use Rattle.mvt_meaning.proofs.Between.{get_between}
use Rattle.mvt_edit_steps.proofs.PutLast.{around, end_spliced, index_of, last_filtered, last_of, put_last_at, put_of, taken_of, weighed}
use Rattle.mvt_edit_steps.proofs.Putting.{item_seen, old_or_new}
use Rattle.mvt_edit_attributes.specs.Attribute.{PutsPair}

abbrev is_packed : plain.Field → Bool
is_packed field = is_some (content_in 2 field)

-- ---- the last tags field

-- where it is, and whether it is packed
record LastTags (fields : List plain.Field) (position : ℕ) : Type 0 where
  item : plain.Field
  there : slice_get fields position ≡ Some item
  packed : is_packed_last fields ≡ is_packed item

last_tags : (fields : List plain.Field) (position : ℕ) → last_of is_tags fields ≡ Some position → LastTags fields position
last_tags fields position e =
    let found = around is_tags 0 fields position e in
    let place : 0 + length found.front ≡ position = found.place in
    record {
      item = found.item;
      there = ap (λ list. slice_get list position) found.whole ∙ get_between found.front found.item found.rest position (omega arith);
      packed = ap is_packed_last found.whole ∙ ap (λ last. option_map_or is_packed last false) (last_filtered is_tags found.front found.item found.rest found.passing found.last);
    }

item_there : (xs : List Field) (position : ℕ) (o : Option (Bor Field)) (item : plain.Field) → option_copied o ≡ slice_get xs position → slice_get (map field_of xs) position ≡ Some item → is_packed item ≡ option_map_or (λ old. is_packed (field_of old.now)) o false
item_there xs position None item e is = absurd (let none = rw (slice_get-map field_of xs position, ← e) at is in cc)
item_there xs position (Some old) item e is = (let same : Some (field_of old.now) ≡ Some item = rw (slice_get-map field_of xs position, ← e) at is in let field : field_of old.now ≡ item = cc in ap is_packed (sym field))

-- as the program sees it
pub packed_seen : (xs : List Field) (position : ℕ) (o : Option (Bor Field)) → last_of is_tags (map field_of xs) ≡ Some position → IsItemAt xs position o → is_packed_last (map field_of xs) ≡ option_map_or (λ old. is_packed (field_of old.now)) o false
packed_seen xs position o e lookup =
    let last = last_tags (map field_of xs) position e in last.packed ∙ item_there xs position o last.item (item_seen xs position o lookup) last.there

-- ---- the tags field with one more pair

kept_tags : (more : List ℕ) (tag : plain.Number) (body : plain.Body) → is_tags (record { tag = tag; body = body }) ≡ true → is_tags (with_more_content more (record { tag = tag; body = body })) ≡ true
kept_tags more tag (plain.Spelled number) is = is
kept_tags more tag (plain.Eight bytes) is = is
kept_tags more tag (plain.Four bytes) is = is
kept_tags more tag (plain.Group bytes) is = is
kept_tags more tag (plain.Delimited width bytes) is =
    elim (cases_Bool (tag.value / 8 == 2)) [ inl two ↦ rw two refl | inr other ↦ absurd (let no = rw other at is in cc) ]

tags_kept : (more : List ℕ) (field : plain.Field) → is_tags field ≡ true → is_tags (with_more_content more field) ≡ true
tags_kept more field is = kept_tags more field.tag field.body is

some_tags : (fields : List plain.Field) → is_packed_last fields ≡ true → list_any is_tags fields ≡ true
some_tags fields packed =
    elim (cases_Bool (list_any is_tags fields)) [
      | inl some ↦ some
      | inr none ↦ absurd (let no = sym packed ∙ ap (λ list. option_map_or is_packed (last_or None list) false) (none_filtered is_tags fields none) in cc)
    ]

module _ (more : List ℕ) (fields : List plain.Field) where
  abbrev new : plain.Field
  new = new_content 18 more

  abbrev puts_at : Option ℕ → Type 0
  puts_at last = PutsPair more fields (record { index = index_of last fields; taken = taken_of last; put = put_of (with_more_content more) new last fields ∷ [] })

  pair_in_place : (last : Option ℕ) → is_packed_last fields ≡ true → last ≡ last_of is_tags fields → IsField (put_of (with_more_content more) new last fields) → puts_at last
  pair_in_place last packed e valid =
      let is = put_last_at is_tags (with_more_content more) new field_bytes fields last refl (tags_kept more) (sym e) in
      let some = some_tags fields packed in
      let made : put_last is_tags (with_more_content more) new fields ≡ with_more_tags more fields = rw (some, packed) refl in
      record {
        can = record { within = is.within; valid_put = (valid, tt) };
        makes = is.made ∙ made;
        takes = is.taken ∙ rw packed refl;
        puts = is.put ∙ ap (weigh_last field_bytes is_tags) made;
      }

  pair_after : is_packed_last fields ≡ false → IsField (put_of (with_more_content more) new None fields) → puts_at None
  pair_after other valid =
      let past : slice_get fields (length fields) ≡ None = slice_get_past fields (length fields) (omega arith) in
      let made : with_more_tags more fields ≡ fields ++ new ∷ [] = rw other refl in
      rw past (record {
        can = record { within = omega arith; valid_put = (rw past at valid, tt) };
        makes = end_spliced fields new ∙ sym made;
        takes = rw other refl;
        puts = weighed field_bytes is_tags (with_more_tags more fields) new (ap (λ list. last_or None (filter is_tags list)) made ∙ last_filtered is_tags fields new [] refl refl);
      })

  pair_put : (last : Option ℕ) → last ≡ cond (is_packed_last fields) (last_of is_tags fields) None → IsField (put_of (with_more_content more) new last fields) → puts_at last
  pair_put last e valid =
      elim (cases_Bool (is_packed_last fields)) [
        | inl packed ↦ pair_in_place last packed (e ∙ ap (λ b. cond b (last_of is_tags fields) None) packed) valid
        | inr other ↦ (
            let none : last ≡ None = e ∙ ap (λ b. cond b (last_of is_tags fields) None) other in
            subst puts_at (sym none) (pair_after other (subst (λ at. IsField (put_of (with_more_content more) new at fields)) none valid))
            )
      ]

-- ---- as the program sees it

no_old : (o : Option (Bor Field)) → option_copied o ≡ None → option_map_or (λ old. is_packed (field_of old.now)) o true ≡ true
no_old None none = refl
no_old (Some old) none = absurd cc

either_way : (o : Option (Bor Field)) → option_map_or (λ old. is_packed (field_of old.now)) o false ≡ true → option_map_or (λ old. is_packed (field_of old.now)) o true ≡ true
either_way None is = refl
either_way (Some old) is = is

told_of : (o : Option (Bor Field)) → option_map_or (λ old. is_packed (field_of old.now)) o true ≡ true → IfSome o (λ old. is_packed (field_of old.now) ≡ true)
told_of None is = tt
told_of (Some old) is = is

module _ (xs : List Field) (last : Option ℕ) (last_is : last ≡ cond (is_packed_last (map field_of xs)) (last_of is_tags (map field_of xs)) None) (index : ℕ) (index_is : index ≡ unwrap_or last (length xs)) (o : Option (Bor Field)) (lookup : IsItemAt xs index o) where
  index_seen : index ≡ index_of last (map field_of xs)
  index_seen = index_is ∙ ap (unwrap_or last) (sym (length-map xs field_of))

  old_at : (old_last : Option ℕ) → last ≡ old_last → option_map_or (λ old. is_packed (field_of old.now)) o true ≡ true
  old_at None none =
      let past : slice_get xs index ≡ None = slice_get_past xs index (let at = index_is ∙ ap (λ l. unwrap_or l (length xs)) none in omega arith) in
      no_old o (item_seen xs index o lookup ∙ past)
  old_at (Some position) some =
      let at : index ≡ position = index_is ∙ ap (λ l. unwrap_or l (length xs)) some in
      elim (cases_Bool (is_packed_last (map field_of xs))) [
        | inl packed ↦ (
            let e : last_of is_tags (map field_of xs) ≡ Some index = sym (last_is ∙ ap (λ b. cond b (last_of is_tags (map field_of xs)) None) packed) ∙ some ∙ ap Some (sym at) in
            either_way o (sym (packed_seen xs index o e lookup) ∙ packed)
            )
        | inr other ↦ absurd (let none = sym some ∙ last_is ∙ ap (λ b. cond b (last_of is_tags (map field_of xs)) None) other in cc)
      ]

  -- the old field is packed
  pub old_packed : IfSome o (λ old. is_packed (field_of old.now) ≡ true)
  old_packed = told_of o (old_at last refl)

  pub puts_pair : (more : List ℕ) (taken : ℕ) (item : Field) (list : List Field) → taken ≡ taken_of last → field_of item ≡ option_map_or (λ old. with_more_content more (field_of old.now)) o (new_content 18 more) → IsField (field_of item) → list ≡ item ∷ [] → PutsPair more (map field_of xs) (record { index = index; taken = taken; put = map field_of list })
  puts_pair more taken item list taken_is item_is valid list_is =
      let fields = map field_of xs in
      let put = item_is ∙ old_or_new field_of is_tags (with_more_content more) (new_content 18 more) refl (tags_kept more) field_bytes xs index o (item_seen xs index o lookup) ∙ ap (λ at. option_map_or (with_more_content more) (slice_get fields at) (new_content 18 more)) index_seen in
      rw (list_is, taken_is, put, index_seen) (pair_put more fields last last_is (subst IsField put valid))
