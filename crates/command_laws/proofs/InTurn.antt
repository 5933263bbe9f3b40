-- The keys of a layer go and then its values, as if both went at once.
use Rattle.std.proofs.Common.{◌≡◌, ℕ, Bool, true, Some, List, [], ◌∷◌, length, map, refl, sym, ap, ◌∙◌, subst, arith}
use Rattle.std.specs.List.{AllByRecursion}
use Rattle.std.specs.Option.{option_map_or}
use Rattle.mvt_document.specs.Plain.{Number, Field, Feature, LayerItem, OfFeature, PlainInLayer}
use Rattle.mvt_document.specs.Places.{in_feature}
use Rattle.mvt_renumber.specs.Laws.{AreShort}
use Rattle.mvt_renumber.specs.Renumbering.{renumber, with_number}
use Rattle.mvt_renumber.proofs.Decisions.{with_number-same}
use Rattle.mvt_messages.specs.Views.{contents, features_in, key_field, plain_fields, value_field}
use Rattle.mvt_meaning.specs.Compaction.{all_pairs, compacted, is_any, is_entry, is_key_used, is_value_used, new_ordinal, repointed, staying, with_entries, with_new_ordinals}
use Rattle.mvt_meaning.specs.Tagging.{pairs_among}
use Rattle.mvt_meaning.proofs.Compaction.{new_ordinals_short}
use Rattle.mvt_meaning.proofs.Given.{number_given}
use Rattle.mvt_meaning.proofs.Removals.{flat, head_same}
use Rattle.command_laws.proofs.ReadValues.{value_list}
use Rattle.command_laws.proofs.Staying.{all_same, all_staying, map-staying}
use Rattle.command_laws.proofs.PairsRead.{pairs_read}
use Rattle.command_laws.specs.CompactionLaws.{value_of}
use Rattle.command_laws.proofs.Compacted.{EachIsRead, any_covered, keys_covered, read_staying}
use Rattle.mvt_renumber.proofs.DecidedTwice.{InTurn, and_more, nothing, renumbered_twice}
use Rattle.command_laws.proofs.Repointed.{new_fields, new_items, pairs_new, repoint}
use Rattle.command_laws.proofs.Used.{IsReadStaying, all_pairs_new, names, names_same}

-- each ordinal stays
abbrev every : ℕ → Bool
every n = true

every_same : (n : ℕ) → new_ordinal every n ≡ n
every_same n = all_same every n (λ m below. refl) n (omega arith)

-- ---- numbers of pairs

module _ (keys_stay values_stay : ℕ → Bool) where
  numbers_in_turn : (pairs : List (ℕ × ℕ)) (list : List Number) → value_list list ≡ flat pairs → InTurn (repointed keys_stay every pairs) (repointed every values_stay (map (repoint keys_stay every) pairs)) (repointed keys_stay values_stay pairs) list
  numbers_in_turn [] [] is = nothing [] [] []
  numbers_in_turn [] (number ∷ list) is = absurd cc
  numbers_in_turn (pair ∷ pairs) [] is = absurd cc
  numbers_in_turn (pair ∷ pairs) (key ∷ []) is = let tails = head_same key.value pair.0 [] (pair.1 ∷ flat pairs) is in absurd (let none = tails.1 in cc)
  numbers_in_turn (pair ∷ pairs) (key ∷ value ∷ list) is =
      let first = head_same key.value pair.0 (value.value ∷ value_list list) (pair.1 ∷ flat pairs) is in
      let second = head_same value.value pair.1 (value_list list) (flat pairs) first.1 in
      let to_key = new_ordinal keys_stay pair.0 in
      let key_same : with_number (new_ordinal every to_key) (with_number to_key key) ≡ with_number to_key key =
      ap (λ (n : ℕ). with_number n (with_number to_key key)) (every_same to_key) ∙ with_number-same to_key (with_number to_key key) (number_given to_key key) in
      let value_same : with_number (new_ordinal values_stay (new_ordinal every pair.1)) (with_number (new_ordinal every pair.1) value) ≡ with_number (new_ordinal values_stay pair.1) value =
      ap (λ (n : ℕ). with_number (new_ordinal values_stay n) (with_number n value)) (every_same pair.1)
      ∙ ap (λ (old : Number). with_number (new_ordinal values_stay pair.1) old) (with_number-same pair.1 value second.0) in
      and_more _ _ _ key _ _ _ _ key_same (and_more _ _ _ value _ _ _ _ value_same (numbers_in_turn pairs list second.1))

  -- the fields of a feature
  fields_in_turn : (items : List LayerItem) (fields : List Field) (pairs : List (ℕ × ℕ)) → pairs_among items fields ≡ Some pairs
      → renumber 2 (repointed every values_stay (map (repoint keys_stay every) pairs)) (renumber 2 (repointed keys_stay every pairs) fields) ≡ renumber 2 (repointed keys_stay values_stay pairs) fields
  fields_in_turn items fields pairs is =
      let r = pairs_read (length (contents key_field (plain_fields items))) (length (contents value_field (plain_fields items))) fields pairs is in
      let short : AreShort (repointed keys_stay every pairs) = subst (λ found. AreShort (option_map_or (repointed keys_stay every) found [])) is (new_ordinals_short keys_stay every items fields) in
      renumbered_twice 2 (repointed keys_stay every pairs) (repointed every values_stay (map (repoint keys_stay every) pairs)) (repointed keys_stay values_stay pairs) fields r.list short r.read (numbers_in_turn pairs r.list r.are)

-- ---- a layer

still_entry : (number : ℕ) (change : List Field → List Field) (item : LayerItem) → is_entry number (in_feature change item) ≡ is_entry number item
still_entry number change (OfFeature feature) = refl
still_entry number change (PlainInLayer field) = refl

module _ (keys_stay values_stay : ℕ → Bool) (all : List LayerItem) where
  -- the layer without the keys
  abbrev between : List LayerItem
  between = new_items keys_stay every all

  one_feature : (feature : Feature) → IsReadStaying keys_stay every all feature → with_new_ordinals every values_stay between (new_fields keys_stay every all feature.fields) ≡ with_new_ordinals keys_stay values_stay all feature.fields
  one_feature feature read =
      let fields = feature.fields in
      let left = new_fields keys_stay every all fields in
      ap (λ found. renumber 2 (option_map_or (repointed every values_stay) found []) left) (pairs_new keys_stay every all fields read.pairs read.is read.stay)
      ∙ ap (λ found. renumber 2 (repointed every values_stay (map (repoint keys_stay every) read.pairs)) (renumber 2 (option_map_or (repointed keys_stay every) found []) fields)) read.is
      ∙ fields_in_turn keys_stay values_stay all fields read.pairs read.is
      ∙ sym (ap (λ found. renumber 2 (option_map_or (repointed keys_stay values_stay) found []) fields) read.is)

  features_in_turn : (items : List LayerItem) → AllByRecursion (IsReadStaying keys_stay every all) (features_in items) → map (in_feature (with_new_ordinals every values_stay between)) (map (in_feature (new_fields keys_stay every all)) items) ≡ map (in_feature (with_new_ordinals keys_stay values_stay all)) items
  features_in_turn [] read = refl
  features_in_turn (OfFeature feature ∷ items) read =
      let rest = map (in_feature (with_new_ordinals every values_stay between)) (map (in_feature (new_fields keys_stay every all)) items) in
      let with_these : List Field → LayerItem = λ fields. OfFeature (record { tag = feature.tag; width = feature.width; fields = fields }) in
      ap (λ fields. with_these fields ∷ rest) (one_feature feature read.0)
      ∙ ap (λ more. with_these (with_new_ordinals keys_stay values_stay all feature.fields) ∷ more) (features_in_turn items read.1)
  features_in_turn (PlainInLayer field ∷ items) read = ap (λ more. PlainInLayer field ∷ more) (features_in_turn items read)

  -- then the values go, as if they had gone with the keys
  layer_in_turn : AllByRecursion (IsReadStaying keys_stay every all) (features_in all) → with_entries every values_stay between ≡ with_entries keys_stay values_stay all
  layer_in_turn read =
      let first = map (in_feature (new_fields keys_stay every all)) all in
      let keys_left = staying (is_entry key_field) keys_stay 0 first in
      let second = with_new_ordinals every values_stay between in
      let no_value : between ≡ keys_left = all_staying (is_entry value_field) every 0 keys_left (λ n above below. refl) in
      ap (λ items. staying (is_entry value_field) values_stay 0 items) (
      all_staying (is_entry key_field) every 0 (map (in_feature second) between) (λ n above below. refl)
      ∙ ap (map (in_feature second)) no_value
      ∙ map-staying (is_entry key_field) keys_stay (in_feature second) (is_entry key_field) (still_entry key_field second) 0 first
      ∙ ap (staying (is_entry key_field) keys_stay 0) (features_in_turn all read))

  -- the same values are used
  still_used : AllByRecursion (IsReadStaying keys_stay every all) (features_in all) → is_value_used between ≡ is_value_used all
  still_used read = λ i n. (ap (λ pairs. names value_of pairs n) (all_pairs_new keys_stay every all read) ∙ names_same value_of (repoint keys_stay every) (λ pair. every_same pair.1) (all_pairs all) n) i

pub keys_then_values : (items : List LayerItem) → EachIsRead items → compacted is_any is_value_used (compacted is_key_used is_any items) ≡ compacted is_key_used is_value_used items
keys_then_values items each =
    let keys_stay = is_key_used items in
    let read = read_staying keys_stay every items (keys_covered items) (any_covered value_of items) each in
    ap (λ stays. with_entries every stays (new_items keys_stay every items)) (still_used keys_stay (is_value_used items) items read)
    ∙ layer_in_turn keys_stay (is_value_used items) items read
