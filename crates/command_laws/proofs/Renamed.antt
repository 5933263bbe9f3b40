-- A renamed key, in a layer and in the attributes of its features.
use Rattle.std.proofs.Common.{◌≡◌, ℕ, zero, suc, ◌/◌, ◌==◌, Bool, true, false, ◌&&◌, not, cond, Option, Some, None, option_map, List, [], ◌∷◌, ◌++◌, length, get_or, map, filter, slice_get, refl, sym, ap, ◌∙◌, inl, inr, subst, arith}
use Rattle.std.proofs.lemmas.Bool.{cases_Bool, eqb-true, ne_eqb, or_parts}
use Rattle.std.proofs.lemmas.List.{length-map}
use Rattle.std.proofs.lemmas.Slice.Eq.{bytes_eq-Decides}
use Rattle.std.specs.List.{AllByRecursion, cons_option, filter_map, list_any}
use Rattle.std.specs.Str.{bytes_eq}
use Rattle.mvt_document.specs.Plain.{Number, Body, Spelled, Eight, Four, Delimited, Group, Field, Feature, LayerItem, OfFeature, PlainInLayer, Layer, Document}
use Rattle.mvt_messages.specs.Attributes.{attribute_at, attributes, pairs_in, pairs_of}
use Rattle.mvt_layers.specs.Laws.{Names}
use Rattle.mvt_messages.specs.Views.{content_in, contents, features_in, keys, plain_fields, values}
use Rattle.mvt_layers.proofs.Pairing.{pairs_are_named}
use Rattle.mvt_messages.specs.Numbers.{numbers}
use Rattle.mvt_meaning.specs.Selection.{selected}
use Rattle.mvt_meaning.specs.Fields.{with_text}
use Rattle.mvt_meaning.specs.Tagging.{is_key, renamed_keys}
use Rattle.mvt_meaning.specs.Meaning.{◌>>=◌, change_layer, has_key, refuse_if, within_limit}
use Rattle.mvt_meaning.specs.declared.refusal.Refusal.TheVariants.{KeyTaken, NoKey}
use Rattle.command_laws.proofs.Accepted.{accepted, not_refused, within_is}
use Rattle.command_laws.proofs.Parts.{changes_layer, items_there, with_items}
use Rattle.command_laws.specs.AttributeLaws.{RenameKeyRenames, RenamesKey, renamed}

-- ---- one item

no_content : (same : Bool) → cond {A = Option (List ℕ)} same None None ≡ None
no_content true = refl
no_content false = refl

module _ (former present : List ℕ) where
  -- an item of a layer, which has the new key where it is the old one
  abbrev rekeyed : LayerItem → LayerItem
  rekeyed item = cond (is_key former item) (with_text present item) item

  -- the content of the item, where it is a field of this number
  abbrev entry : ℕ → LayerItem → Option (List ℕ)
  entry number (OfFeature feature) = None
  entry number (PlainInLayer field) = content_in number field

  key_of : (tag : Number) (body : Body) → entry 3 (rekeyed (PlainInLayer (record { tag = tag; body = body }))) ≡ option_map (renamed former present) (entry 3 (PlainInLayer (record { tag = tag; body = body })))
  key_of tag (Spelled number) = let none : content_in 3 (record { tag = tag; body = Spelled number }) ≡ None = no_content (tag.value / 8 == 3) in rw none none
  key_of tag (Eight bytes) = let none : content_in 3 (record { tag = tag; body = Eight bytes }) ≡ None = no_content (tag.value / 8 == 3) in rw none none
  key_of tag (Four bytes) = let none : content_in 3 (record { tag = tag; body = Four bytes }) ≡ None = no_content (tag.value / 8 == 3) in rw none none
  key_of tag (Group bytes) = let none : content_in 3 (record { tag = tag; body = Group bytes }) ≡ None = no_content (tag.value / 8 == 3) in rw none none
  key_of tag (Delimited width bytes) =
      elim (cases_Bool (tag.value / 8 == 3)) [
        | inl three ↦ elim (cases_Bool (bytes_eq former bytes)) [ inl same ↦ rw (three, same) (rw three refl) | inr apart ↦ rw (three, apart) (rw three refl) ]
        | inr other ↦ rw other (rw other refl)
      ]

  value_of : (tag : Number) (body : Body) → entry 4 (rekeyed (PlainInLayer (record { tag = tag; body = body }))) ≡ entry 4 (PlainInLayer (record { tag = tag; body = body }))
  value_of tag (Spelled number) = let none : content_in 3 (record { tag = tag; body = Spelled number }) ≡ None = no_content (tag.value / 8 == 3) in rw none refl
  value_of tag (Eight bytes) = let none : content_in 3 (record { tag = tag; body = Eight bytes }) ≡ None = no_content (tag.value / 8 == 3) in rw none refl
  value_of tag (Four bytes) = let none : content_in 3 (record { tag = tag; body = Four bytes }) ≡ None = no_content (tag.value / 8 == 3) in rw none refl
  value_of tag (Group bytes) = let none : content_in 3 (record { tag = tag; body = Group bytes }) ≡ None = no_content (tag.value / 8 == 3) in rw none refl
  value_of tag (Delimited width bytes) =
      elim (cases_Bool (tag.value / 8 == 3)) [
        | inl three ↦ (
            let four : (tag.value / 8 == 4) ≡ false = ne_eqb (tag.value / 8) 4 (λ e. omega (arith, e, eqb-true (tag.value / 8) 3 three)) in
            elim (cases_Bool (bytes_eq former bytes)) [ inl same ↦ rw (three, same) (rw four refl) | inr apart ↦ rw (three, apart) refl ]
            )
        | inr other ↦ rw other refl
      ]

  -- ---- the items of a layer

  entries : ℕ → List LayerItem → List (List ℕ)
  entries number items = filter_map (entry number) items

  entries_are : (number : ℕ) (items : List LayerItem) → contents number (plain_fields items) ≡ entries number items
  unfolding entries
  entries_are number [] = refl
  entries_are number (OfFeature feature ∷ items) = entries_are number items
  entries_are number (PlainInLayer field ∷ items) = ap (cons_option (content_in number field)) (entries_are number items)

  mapped_first : (found other : Option (List ℕ)) (rest others : List (List ℕ)) → other ≡ option_map (renamed former present) found → others ≡ map (renamed former present) rest → cons_option other others ≡ map (renamed former present) (cons_option found rest)
  mapped_first None other rest others same more = ap (λ o. cons_option o others) same ∙ more
  mapped_first (Some key) other rest others same more = ap (λ o. cons_option o others) same ∙ ap (λ list. renamed former present key ∷ list) more

  keys_renamed : (items : List LayerItem) → entries 3 (renamed_keys former present items) ≡ map (renamed former present) (entries 3 items)
  unfolding entries
  keys_renamed [] = refl
  keys_renamed (OfFeature feature ∷ items) = keys_renamed items
  keys_renamed (PlainInLayer field ∷ items) =
      mapped_first (content_in 3 field) (entry 3 (rekeyed (PlainInLayer field))) (filter_map (entry 3) items) (filter_map (entry 3) (renamed_keys former present items)) (key_of field.tag field.body) (keys_renamed items)

  values_stay : (items : List LayerItem) → entries 4 (renamed_keys former present items) ≡ entries 4 items
  unfolding entries
  values_stay [] = refl
  values_stay (OfFeature feature ∷ items) = values_stay items
  values_stay (PlainInLayer field ∷ items) =
      ap (λ o. cons_option o (filter_map (entry 4) (renamed_keys former present items))) (value_of field.tag field.body) ∙ ap (cons_option (content_in 4 field)) (values_stay items)

  no_feature : (field : Field) (items : List LayerItem) → features_in (rekeyed (PlainInLayer field) ∷ items) ≡ features_in items
  no_feature field items = elim (cases_Bool (is_key former (PlainInLayer field))) [ inl key ↦ rw key refl | inr other ↦ rw other refl ]

  features_stay : (items : List LayerItem) → features_in (renamed_keys former present items) ≡ features_in items
  features_stay [] = refl
  features_stay (OfFeature feature ∷ items) = ap (λ rest. feature ∷ rest) (features_stay items)
  features_stay (PlainInLayer field ∷ items) = no_feature field (renamed_keys former present items) ∙ features_stay items

  -- ---- the attributes of a feature

  abbrev renamed_layer : Layer → Layer
  renamed_layer layer = with_items (renamed_keys former present) layer

  keys_so : (layer : Layer) → keys (renamed_layer layer) ≡ map (renamed former present) (keys layer)
  keys_so layer = entries_are 3 (renamed_keys former present layer.items) ∙ keys_renamed layer.items ∙ ap (map (renamed former present)) (sym (entries_are 3 layer.items))

  values_so : (layer : Layer) → values (renamed_layer layer) ≡ values layer
  values_so layer = entries_are 4 (renamed_keys former present layer.items) ∙ values_stay layer.items ∙ sym (entries_are 4 layer.items)

  pairs_stay : (layer : Layer) (feature : Feature) → pairs_of (renamed_layer layer) feature ≡ pairs_of layer feature
  pairs_stay layer feature =
      let key_count : length (keys (renamed_layer layer)) ≡ length (keys layer) = ap length (keys_so layer) ∙ length-map (keys layer) (renamed former present) in
      ap (λ n. pairs_in n (length (values (renamed_layer layer))) (numbers 2 feature.fields)) key_count
      ∙ ap (λ n. pairs_in (length (keys layer)) n (numbers 2 feature.fields)) (ap length (values_so layer))

  got_renamed : (list : List (List ℕ)) (n : ℕ) (key : List ℕ) → slice_get list n ≡ Some key → get_or (map (renamed former present) list) n [] ≡ renamed former present key
  got_renamed [] n key is = absurd cc
  got_renamed (x ∷ list) zero key is = let same : x ≡ key = cc in ap (renamed former present) same
  got_renamed (x ∷ list) (suc n) key is = got_renamed list n key is

  -- an attribute with its key renamed
  abbrev of_new_key : List ℕ × List ℕ → List ℕ × List ℕ
  of_new_key pair = (renamed former present pair.0, pair.1)

  attribute_renamed : (layer : Layer) (pair : ℕ × ℕ) → Names layer pair → attribute_at (renamed_layer layer) pair ≡ of_new_key (attribute_at layer pair)
  attribute_renamed layer pair names =
      ap (λ (key : List ℕ). (key, get_or (values (renamed_layer layer)) pair.1 [])) (ap (λ list. get_or list pair.0 []) (keys_so layer) ∙ got_renamed (keys layer) pair.0 (attribute_at layer pair).0 names.key)
      ∙ ap (λ list. (renamed former present (attribute_at layer pair).0, get_or list pair.1 [])) (values_so layer)

  all_renamed : (layer : Layer) (pairs : List (ℕ × ℕ)) → AllByRecursion (Names layer) pairs → map (attribute_at (renamed_layer layer)) pairs ≡ map of_new_key (map (attribute_at layer) pairs)
  all_renamed layer [] names = refl
  all_renamed layer (pair ∷ pairs) names =
      ap (λ first. first ∷ map (attribute_at (renamed_layer layer)) pairs) (attribute_renamed layer pair names.0)
      ∙ ap (λ rest. of_new_key (attribute_at layer pair) ∷ rest) (all_renamed layer pairs names.1)

  attributes_by : (layer : Layer) (feature : Feature) (found : Option (List (ℕ × ℕ))) → pairs_of layer feature ≡ found → option_map (map (attribute_at (renamed_layer layer))) found ≡ option_map (map of_new_key) (option_map (map (attribute_at layer)) found)
  attributes_by layer feature None is = refl
  attributes_by layer feature (Some pairs) is = ap Some (all_renamed layer pairs (pairs_are_named layer feature pairs is))

  attributes_so : (layer : Layer) (feature : Feature) → attributes (renamed_layer layer) feature ≡ option_map (map of_new_key) (attributes layer feature)
  attributes_so layer feature = ap (option_map (map (attribute_at (renamed_layer layer)))) (pairs_stay layer feature) ∙ attributes_by layer feature (pairs_of layer feature) refl

  -- ---- the items that are neither of the keys

  new_is_key : (field : Field) → is_key former (PlainInLayer field) ≡ true → is_key present (with_text present (PlainInLayer field)) ≡ true
  new_is_key field key = is_key_of field.tag field.body key
    where
      is_key_of : (tag : Number) (body : Body) → is_key former (PlainInLayer (record { tag = tag; body = body })) ≡ true → is_key present (with_text present (PlainInLayer (record { tag = tag; body = body }))) ≡ true
      is_key_of tag (Spelled number) key = absurd (elim (cases_Bool (tag.value / 8 == 3)) [ inl three ↦ let is = rw three at key in cc | inr other ↦ let is = rw other at key in cc ])
      is_key_of tag (Eight bytes) key = absurd (elim (cases_Bool (tag.value / 8 == 3)) [ inl three ↦ let is = rw three at key in cc | inr other ↦ let is = rw other at key in cc ])
      is_key_of tag (Four bytes) key = absurd (elim (cases_Bool (tag.value / 8 == 3)) [ inl three ↦ let is = rw three at key in cc | inr other ↦ let is = rw other at key in cc ])
      is_key_of tag (Group bytes) key = absurd (elim (cases_Bool (tag.value / 8 == 3)) [ inl three ↦ let is = rw three at key in cc | inr other ↦ let is = rw other at key in cc ])
      is_key_of tag (Delimited width bytes) key =
          elim (cases_Bool (tag.value / 8 == 3)) [ inl three ↦ rw three ((bytes_eq-Decides present present).1 refl) | inr other ↦ absurd (let is = rw other at key in cc) ]

  -- where no key is the new one, or the old one is the new one
  others_stay : (items : List LayerItem) → (list_any (is_key present) items && not (bytes_eq former present)) ≡ false → filter (λ item. not (is_key present item)) (renamed_keys former present items) ≡ filter (λ item. not (is_key former item)) items
  others_stay items free =
      elim (cases_Bool (bytes_eq former present)) [
        | inl same ↦ as_they_were items ((bytes_eq-Decides former present).0 same)
        | inr apart ↦ none_taken items (let is = rw apart at free in untaken (list_any (is_key present) items) is)
      ]
    where
      untaken : (b : Bool) → (b && true) ≡ false → b ≡ false
      untaken true is = absurd cc
      untaken false is = refl

      kept_same : (item : LayerItem) (rest others : List LayerItem) → former ≡ present → rest ≡ others → filter (λ item. not (is_key present item)) (rekeyed item ∷ []) ++ rest ≡ filter (λ item. not (is_key former item)) (item ∷ []) ++ others
      kept_same (OfFeature feature) rest others same more = ap (λ list. OfFeature feature ∷ list) more
      kept_same (PlainInLayer field) rest others same more =
          elim (cases_Bool (is_key former (PlainInLayer field))) [
            | inl key ↦ rw (key, new_is_key field key) more
            | inr other ↦ (let too : is_key present (PlainInLayer field) ≡ false = subst (λ key. is_key key (PlainInLayer field) ≡ false) same other in rw (other, too) (ap (λ list. PlainInLayer field ∷ list) more))
          ]

      filtered_first : {A : Type 0} (test : A → Bool) (x : A) (list : List A) → filter test (x ∷ list) ≡ filter test (x ∷ []) ++ filter test list
      filtered_first test x list = elim (cases_Bool (test x)) [ inl pass ↦ rw pass refl | inr skip ↦ rw skip refl ]

      as_they_were : (items : List LayerItem) → former ≡ present → filter (λ item. not (is_key present item)) (renamed_keys former present items) ≡ filter (λ item. not (is_key former item)) items
      as_they_were [] same = refl
      as_they_were (item ∷ items) same =
          filtered_first (λ item. not (is_key present item)) (rekeyed item) (renamed_keys former present items)
          ∙ kept_same item (filter (λ item. not (is_key present item)) (renamed_keys former present items)) (filter (λ item. not (is_key former item)) items) same (as_they_were items same)
          ∙ sym (filtered_first (λ item. not (is_key former item)) item items)

      kept_apart : (item : LayerItem) (rest others : List LayerItem) → is_key present item ≡ false → rest ≡ others → filter (λ item. not (is_key present item)) (rekeyed item ∷ []) ++ rest ≡ filter (λ item. not (is_key former item)) (item ∷ []) ++ others
      kept_apart (OfFeature feature) rest others free more = ap (λ list. OfFeature feature ∷ list) more
      kept_apart (PlainInLayer field) rest others free more =
          elim (cases_Bool (is_key former (PlainInLayer field))) [
            | inl key ↦ rw (key, new_is_key field key) more
            | inr other ↦ rw (other, free) (ap (λ list. PlainInLayer field ∷ list) more)
          ]

      none_taken : (items : List LayerItem) → list_any (is_key present) items ≡ false → filter (λ item. not (is_key present item)) (renamed_keys former present items) ≡ filter (λ item. not (is_key former item)) items
      none_taken [] free = refl
      none_taken (item ∷ items) free =
          let parts = or_parts (is_key present item) (list_any (is_key present) items) free in
          filtered_first (λ item. not (is_key present item)) (rekeyed item) (renamed_keys former present items)
          ∙ kept_apart item (filter (λ item. not (is_key present item)) (renamed_keys former present items)) (filter (λ item. not (is_key former item)) items) parts.0 (none_taken items parts.1)
          ∙ sym (filtered_first (λ item. not (is_key former item)) item items)

  renames : (layer : Layer) → (list_any (is_key present) layer.items && not (bytes_eq former present)) ≡ false → RenamesKey former present layer (renamed_layer layer)
  renames layer free = record {
    keys_so = keys_so layer;
    attributes_so = attributes_so layer;
    values_stay = values_so layer;
    features_stay = features_stay layer.items;
    others = others_stay layer.items free;
  }

pub rename_key_renames : RenameKeyRenames
rename_key_renames choice former present old new is =
    let made_of : ℕ → Document = λ ordinal. change_layer (renamed_keys former present) ordinal old in
    let taken : ℕ → Bool = λ ordinal. has_key present ordinal old && not (bytes_eq former present) in
    let selects = accepted (selected choice old) (λ ordinal. refuse_if (not (has_key former ordinal old)) NoKey >>= λ there. refuse_if (taken ordinal) KeyTaken >>= λ free. within_limit (made_of ordinal)) new is in
    let there = accepted (refuse_if (not (has_key former selects.0 old)) NoKey) (λ there. refuse_if (taken selects.0) KeyTaken >>= λ free. within_limit (made_of selects.0)) new selects.2 in
    let free = accepted (refuse_if (taken selects.0) KeyTaken) (λ free. within_limit (made_of selects.0)) new there.2 in
    let made = within_is (made_of selects.0) new free.2 in
    let untaken = not_refused (taken selects.0) KeyTaken free.0 free.1 in
    changes_layer choice (RenamesKey former present) (renamed_keys former present) old new selects.0 selects.1 made (λ layer at.
    renames former present layer (subst (λ (items : List LayerItem). (list_any (is_key present) items && not (bytes_eq former present)) ≡ false) (items_there old selects.0 layer at) untaken))
