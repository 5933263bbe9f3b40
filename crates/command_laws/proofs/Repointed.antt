-- A layer of which some keys and values stay, including those of all pairs: its features have the attributes that they
-- had.
use Rattle.std.proofs.Common.{◌≡◌, ℕ, ◌+◌, ◌/◌, ◌==◌, ◌^◌, Bool, true, false, Some, None, option_map, List, [], ◌∷◌, length, map, get_or, refl, ap, ◌∙◌, inl, inr, subst, arith}
use Rattle.std.specs.Prelude.{nat_lt}
use Rattle.std.proofs.lemmas.Bool.{and_from, and_parts, cases_Bool, eqb-true, lt-ltb, ltb-true}
use Rattle.std.specs.List.{AllByRecursion, list_all}
use Rattle.std.specs.Option.{option_map_or}
use Rattle.mvt_document.specs.Plain.{Number, Field, LayerItem, OfFeature, PlainInLayer}
use Rattle.mvt_document.specs.Places.{in_feature}
use Rattle.mvt_renumber.specs.Laws.{AreShort}
use Rattle.mvt_messages.specs.Numbers.{numbers}
use Rattle.mvt_renumber.specs.Renumbering.{renumber, renumbered, with_number}
use Rattle.mvt_renumber.proofs.Redone.{left_is_read}
use Rattle.mvt_messages.specs.Attributes.{is_ordinal, is_pair, pairs_in}
use Rattle.mvt_messages.specs.Views.{content_in, contents, feature_in, features_in, key_field, plain_fields, value_field}
use Rattle.mvt_meaning.specs.Compaction.{is_entry, new_ordinal, repointed, staying, with_entries, with_new_ordinals}
use Rattle.mvt_meaning.specs.Tagging.{pairs_among}
use Rattle.mvt_meaning.proofs.Compaction.{new_ordinal_low, new_ordinals_short}
use Rattle.mvt_meaning.proofs.Given.{number_given}
use Rattle.mvt_meaning.proofs.Removals.{flat, head_same}
use Rattle.command_laws.proofs.ReadValues.{value_list}
use Rattle.command_laws.proofs.Parts.{with_fields}
use Rattle.command_laws.proofs.Staying.{filter_map-apart, filter_map-staying, got_kept, kept, length-kept, ordinal_below}
use Rattle.command_laws.proofs.EachFeature.{features_changed, fields_stay}
use Rattle.command_laws.proofs.PairsRead.{pairs_again, pairs_read}
use Rattle.command_laws.specs.CompactionLaws.{is_entry_of, key_of, value_of}
use Rattle.mvt_renumber.proofs.DecidedTwice.{InTurn, and_again, and_more, nothing, renumbered_tags}

-- ---- pairs

-- what the pairs name stays
abbrev pub AllStay : (ℕ × ℕ → ℕ) → (ℕ → Bool) → List (ℕ × ℕ) → Type 0
AllStay named stays pairs = AllByRecursion (λ (pair : ℕ × ℕ). stays (named pair) ≡ true) pairs

module _ (keys_stay values_stay : ℕ → Bool) where
  -- the pair with the new ordinals of its key and of its value
  abbrev pub repoint : ℕ × ℕ → ℕ × ℕ
  repoint pair = (new_ordinal keys_stay pair.0, new_ordinal values_stay pair.1)

  -- the key and the value of each pair stay
  abbrev pub Stay : List (ℕ × ℕ) → Type 0
  Stay pairs = AllStay key_of keys_stay pairs × AllStay value_of values_stay pairs

  values_repointed : (pairs : List (ℕ × ℕ)) (list : List Number) → value_list list ≡ flat pairs → value_list (renumbered (repointed keys_stay values_stay pairs) list) ≡ flat (map repoint pairs)
  values_repointed [] list is = is
  values_repointed (pair ∷ pairs) [] is = absurd cc
  values_repointed (pair ∷ pairs) (key ∷ []) is = let tails = head_same key.value pair.0 [] (pair.1 ∷ flat pairs) is in absurd (let none = tails.1 in cc)
  values_repointed (pair ∷ pairs) (key ∷ value ∷ list) is =
      let first = head_same key.value pair.0 (value.value ∷ value_list list) (pair.1 ∷ flat pairs) is in
      let second = head_same value.value pair.1 (value_list list) (flat pairs) first.1 in
      let new = repoint pair in
      let rest = renumbered (repointed keys_stay values_stay pairs) list in
      ap (λ (n : ℕ). n ∷ (with_number new.1 value).value ∷ value_list rest) (number_given new.0 key)
      ∙ ap (λ (n : ℕ). new.0 ∷ n ∷ value_list rest) (number_given new.1 value)
      ∙ ap (λ (more : List ℕ). new.0 ∷ new.1 ∷ more) (values_repointed pairs list second.1)

  own_turn : (pairs : List (ℕ × ℕ)) (list : List Number) → value_list list ≡ flat pairs → InTurn (repointed keys_stay values_stay pairs) (repointed keys_stay values_stay pairs) (repointed keys_stay values_stay pairs) list
  own_turn [] [] is = nothing [] [] []
  own_turn [] (number ∷ list) is = absurd cc
  own_turn (pair ∷ pairs) [] is = absurd cc
  own_turn (pair ∷ pairs) (key ∷ []) is = let tails = head_same key.value pair.0 [] (pair.1 ∷ flat pairs) is in absurd (let none = tails.1 in cc)
  own_turn (pair ∷ pairs) (key ∷ value ∷ list) is =
      let first = head_same key.value pair.0 (value.value ∷ value_list list) (pair.1 ∷ flat pairs) is in
      let second = head_same value.value pair.1 (value_list list) (flat pairs) first.1 in
      let new = repoint pair in
      and_more _ _ _ key _ _ _ _ (and_again new.0 key) (and_more _ _ _ value _ _ _ _ (and_again new.1 value) (own_turn pairs list second.1))

  -- no field of the feature goes, and each has its tag
  tags_repointed : (items : List LayerItem) (fields : List Field) (pairs : List (ℕ × ℕ)) → pairs_among items fields ≡ Some pairs → map (λ (field : Field). field.tag) (renumber 2 (repointed keys_stay values_stay pairs) fields) ≡ map (λ (field : Field). field.tag) fields
  tags_repointed items fields pairs is =
      let decisions = repointed keys_stay values_stay pairs in
      let r = pairs_read (length (contents key_field (plain_fields items))) (length (contents value_field (plain_fields items))) fields pairs is in
      let short : AreShort decisions = subst (λ found. AreShort (option_map_or (repointed keys_stay values_stay) found [])) is (new_ordinals_short keys_stay values_stay items fields) in
      renumbered_tags 2 decisions decisions decisions fields r.list short r.read (own_turn pairs r.list r.are)

  ordinal_stays : (stays : ℕ → Bool) (count ordinal : ℕ) → is_ordinal count ordinal ≡ true → stays ordinal ≡ true → is_ordinal (new_ordinal stays count) (new_ordinal stays ordinal) ≡ true
  ordinal_stays stays count ordinal is here =
      let parts = and_parts (nat_lt ordinal count) (nat_lt ordinal (2 ^ 32)) is in
      let below = ordinal_below stays ordinal count (ltb-true ordinal count parts.0) here in
      let short = ltb-true ordinal (2 ^ 32) parts.1 in
      and_from (nat_lt (new_ordinal stays ordinal) (new_ordinal stays count)) (nat_lt (new_ordinal stays ordinal) (2 ^ 32))
      (lt-ltb (new_ordinal stays ordinal) (new_ordinal stays count) below)
      (lt-ltb (new_ordinal stays ordinal) (2 ^ 32) (omega (arith, short, new_ordinal_low stays ordinal)))

  still_pairs : (key_count value_count : ℕ) (pairs : List (ℕ × ℕ)) → list_all (is_pair key_count value_count) pairs ≡ true → Stay pairs → list_all (is_pair (new_ordinal keys_stay key_count) (new_ordinal values_stay value_count)) (map repoint pairs) ≡ true
  still_pairs key_count value_count [] is stay = refl
  still_pairs key_count value_count (pair ∷ pairs) is stay =
      let parts = and_parts (is_pair key_count value_count pair) (list_all (is_pair key_count value_count) pairs) is in
      let both = and_parts (is_ordinal key_count pair.0) (is_ordinal value_count pair.1) parts.0 in
      let new_keys = new_ordinal keys_stay key_count in
      let new_values = new_ordinal values_stay value_count in
      let new = repoint pair in
      and_from (is_pair new_keys new_values new) (list_all (is_pair new_keys new_values) (map repoint pairs))
      (and_from (is_ordinal new_keys new.0) (is_ordinal new_values new.1) (ordinal_stays keys_stay key_count pair.0 both.0 stay.0.0) (ordinal_stays values_stay value_count pair.1 both.1 stay.1.0))
      (still_pairs key_count value_count pairs parts.1 (stay.0.1, stay.1.1))

  -- the pairs that are then read
  pairs_repointed : (items : List LayerItem) (fields : List Field) (pairs : List (ℕ × ℕ)) → pairs_among items fields ≡ Some pairs → Stay pairs
      → pairs_in (new_ordinal keys_stay (length (contents key_field (plain_fields items)))) (new_ordinal values_stay (length (contents value_field (plain_fields items)))) (numbers 2 (renumber 2 (repointed keys_stay values_stay pairs) fields)) ≡ Some (map repoint pairs)
  pairs_repointed items fields pairs is stay =
      let key_count = length (contents key_field (plain_fields items)) in
      let value_count = length (contents value_field (plain_fields items)) in
      let decisions = repointed keys_stay values_stay pairs in
      let r = pairs_read key_count value_count fields pairs is in
      let short : AreShort decisions = subst (λ found. AreShort (option_map_or (repointed keys_stay values_stay) found [])) is (new_ordinals_short keys_stay values_stay items fields) in
      pairs_again (new_ordinal keys_stay key_count) (new_ordinal values_stay value_count) (renumber 2 decisions fields) (renumbered decisions r.list) (map repoint pairs)
      (left_is_read 2 decisions fields r.list short r.read)
      (values_repointed pairs r.list r.are)
      (still_pairs key_count value_count pairs r.each stay)

-- ---- the fields of a layer

fields_staying : (number : ℕ) (stays : ℕ → Bool) (n : ℕ) (items : List LayerItem) → plain_fields (staying (is_entry number) stays n items) ≡ staying (is_entry_of number) stays n (plain_fields items)
fields_staying number stays n [] = refl
fields_staying number stays n (OfFeature feature ∷ items) = fields_staying number stays n items
fields_staying number stays n (PlainInLayer field ∷ items) =
    elim (cases_Bool (is_entry_of number field)) [
      | inl pass ↦ elim (cases_Bool (stays n)) [
        | inl here ↦ rw (pass, here) (ap (λ rest. field ∷ rest) (fields_staying number stays (n + 1) items))
        | inr goes ↦ rw (pass, goes) (fields_staying number stays (n + 1) items)
      ]
      | inr skip ↦ rw skip (ap (λ rest. field ∷ rest) (fields_staying number stays n items))
    ]

-- a key is not a value, and a value not a key
pub none_of_other : (number other : ℕ) → (number == other) ≡ false → (field : Field) → is_entry_of number field ≡ true → content_in other field ≡ None
none_of_other number other differ field is =
    elim (cases_Bool (field.tag.value / 8 == number)) [
      | inl own ↦ (
          let e : (field.tag.value / 8 == other) ≡ false = ap (λ n. n == other) (eqb-true (field.tag.value / 8) number own) ∙ differ in
          rw e refl
          )
      | inr skip ↦ absurd (let none = rw skip at is in cc)
    ]

features_staying : (number : ℕ) (stays : ℕ → Bool) (n : ℕ) (items : List LayerItem) → features_in (staying (is_entry number) stays n items) ≡ features_in items
features_staying number stays n items = filter_map-apart (is_entry number) stays feature_in none n items
  where
    none : (item : LayerItem) → is_entry number item ≡ true → feature_in item ≡ None
    none (OfFeature feature) is = absurd cc
    none (PlainInLayer field) is = refl

-- ---- a layer of these items

-- the key and the value at the two ordinals of a pair
abbrev pub attribute_among : List LayerItem → ℕ × ℕ → List ℕ × List ℕ
attribute_among items pair = (get_or (contents key_field (plain_fields items)) pair.0 [], get_or (contents value_field (plain_fields items)) pair.1 [])

module _ (keys_stay values_stay : ℕ → Bool) (all : List LayerItem) where
  abbrev pub new_items : List LayerItem
  new_items = with_entries keys_stay values_stay all

  abbrev pub new_fields : List Field → List Field
  new_fields = with_new_ordinals keys_stay values_stay all

  pub plain_new : plain_fields new_items ≡ staying (is_entry_of value_field) values_stay 0 (staying (is_entry_of key_field) keys_stay 0 (plain_fields all))
  plain_new =
      fields_staying value_field values_stay 0 (staying (is_entry key_field) keys_stay 0 (map (in_feature new_fields) all))
      ∙ ap (staying (is_entry_of value_field) values_stay 0) (
      fields_staying key_field keys_stay 0 (map (in_feature new_fields) all)
      ∙ ap (staying (is_entry_of key_field) keys_stay 0) (fields_stay new_fields all))

  pub features_new : features_in new_items ≡ map (with_fields new_fields) (features_in all)
  features_new =
      features_staying value_field values_stay 0 (staying (is_entry key_field) keys_stay 0 (map (in_feature new_fields) all))
      ∙ features_staying key_field keys_stay 0 (map (in_feature new_fields) all)
      ∙ features_changed new_fields all

  pub keys_new : contents key_field (plain_fields new_items) ≡ kept keys_stay 0 (contents key_field (plain_fields all))
  keys_new =
      ap (contents key_field) plain_new
      ∙ filter_map-apart (is_entry_of value_field) values_stay (content_in key_field) (none_of_other value_field key_field refl) 0 (staying (is_entry_of key_field) keys_stay 0 (plain_fields all))
      ∙ filter_map-staying (is_entry_of key_field) keys_stay (content_in key_field) (λ field. refl) 0 (plain_fields all)

  pub values_new : contents value_field (plain_fields new_items) ≡ kept values_stay 0 (contents value_field (plain_fields all))
  values_new =
      ap (contents value_field) plain_new
      ∙ filter_map-staying (is_entry_of value_field) values_stay (content_in value_field) (λ field. refl) 0 (staying (is_entry_of key_field) keys_stay 0 (plain_fields all))
      ∙ ap (kept values_stay 0) (filter_map-apart (is_entry_of key_field) keys_stay (content_in value_field) (none_of_other key_field value_field refl) 0 (plain_fields all))

  counted : {A : Type 0} (stays : ℕ → Bool) (xs : List A) → length (kept stays 0 xs) ≡ new_ordinal stays (length xs)
  counted stays xs = let e : 0 + length xs ≡ length xs = omega arith in omega (arith, length-kept stays 0 xs, ap (new_ordinal stays) e)

  pub key_count : length (contents key_field (plain_fields new_items)) ≡ new_ordinal keys_stay (length (contents key_field (plain_fields all)))
  key_count = ap length keys_new ∙ counted keys_stay (contents key_field (plain_fields all))

  pub value_count : length (contents value_field (plain_fields new_items)) ≡ new_ordinal values_stay (length (contents value_field (plain_fields all)))
  value_count = ap length values_new ∙ counted values_stay (contents value_field (plain_fields all))

  pub pairs_new : (fields : List Field) (pairs : List (ℕ × ℕ)) → pairs_among all fields ≡ Some pairs → Stay keys_stay values_stay pairs → pairs_among new_items (new_fields fields) ≡ Some (map (repoint keys_stay values_stay) pairs)
  pairs_new fields pairs is stay =
      let left = renumber 2 (repointed keys_stay values_stay pairs) fields in
      ap (λ found. pairs_among new_items (renumber 2 (option_map_or (repointed keys_stay values_stay) found []) fields)) is
      ∙ ap (λ (n : ℕ). pairs_in n (length (contents value_field (plain_fields new_items))) (numbers 2 left)) key_count
      ∙ ap (λ (n : ℕ). pairs_in (new_ordinal keys_stay (length (contents key_field (plain_fields all)))) n (numbers 2 left)) value_count
      ∙ pairs_repointed keys_stay values_stay all fields pairs is stay

  pub tags_new : (fields : List Field) (pairs : List (ℕ × ℕ)) → pairs_among all fields ≡ Some pairs → map (λ (field : Field). field.tag) (new_fields fields) ≡ map (λ (field : Field). field.tag) fields
  tags_new fields pairs is =
      ap (λ found. map (λ (field : Field). field.tag) (renumber 2 (option_map_or (repointed keys_stay values_stay) found []) fields)) is
      ∙ tags_repointed keys_stay values_stay all fields pairs is

  got_new : (stays : ℕ → Bool) (xs : List (List ℕ)) (n : ℕ) → stays n ≡ true → get_or (kept stays 0 xs) (new_ordinal stays n) [] ≡ get_or xs n []
  got_new stays xs n is =
      let e : n ≡ 0 + n = omega arith in
      got_kept stays [] 0 xs n (new_ordinal stays n) (omega (arith, ap (new_ordinal stays) e)) (subst (λ m. stays m ≡ true) e is)

  attributes_new : (pairs : List (ℕ × ℕ)) → Stay keys_stay values_stay pairs → map (attribute_among new_items) (map (repoint keys_stay values_stay) pairs) ≡ map (attribute_among all) pairs
  attributes_new [] stay = refl
  attributes_new (pair ∷ pairs) stay =
      let new = repoint keys_stay values_stay pair in
      let rest = map (attribute_among new_items) (map (repoint keys_stay values_stay) pairs) in
      let key : get_or (contents key_field (plain_fields new_items)) new.0 [] ≡ get_or (contents key_field (plain_fields all)) pair.0 [] =
      ap (λ (list : List (List ℕ)). get_or list new.0 []) keys_new ∙ got_new keys_stay (contents key_field (plain_fields all)) pair.0 stay.0.0 in
      let value : get_or (contents value_field (plain_fields new_items)) new.1 [] ≡ get_or (contents value_field (plain_fields all)) pair.1 [] =
      ap (λ (list : List (List ℕ)). get_or list new.1 []) values_new ∙ got_new values_stay (contents value_field (plain_fields all)) pair.1 stay.1.0 in
      let first : (bytes : List ℕ) → List (List ℕ × List ℕ) = λ bytes. (bytes, get_or (contents value_field (plain_fields new_items)) new.1 []) ∷ rest in
      let second : (bytes : List ℕ) → List (List ℕ × List ℕ) = λ bytes. (get_or (contents key_field (plain_fields all)) pair.0 [], bytes) ∷ rest in
      ap first key ∙ ap second value ∙ ap (λ more. attribute_among all pair ∷ more) (attributes_new pairs (stay.0.1, stay.1.1))

  -- a feature then has the attributes that it had
  pub attributes_kept : (fields : List Field) (pairs : List (ℕ × ℕ)) → pairs_among all fields ≡ Some pairs → Stay keys_stay values_stay pairs → option_map (map (attribute_among new_items)) (pairs_among new_items (new_fields fields)) ≡ Some (map (attribute_among all) pairs)
  attributes_kept fields pairs is stay = ap (option_map (map (attribute_among new_items))) (pairs_new fields pairs is stay) ∙ ap Some (attributes_new pairs stay)
