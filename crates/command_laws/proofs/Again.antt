-- Layers whose keys and values are all used stay as they are.
use Rattle.std.proofs.Common.{◌≡◌, ℕ, suc, ◌<◌, ◌^◌, Bool, true, Option, Some, None, List, [], ◌∷◌, length, map, filter, refl, sym, ap, ◌∙◌, arith}
use Rattle.std.specs.Prelude.{nat_lt}
use Rattle.std.proofs.lemmas.Bool.{and_parts, ltb-true}
use Rattle.std.proofs.lemmas.Simd.{map-map}
use Rattle.std.specs.List.{flat_map, list_all}
use Rattle.std.specs.Option.{option_map_or}
use Rattle.mvt_document.specs.Plain.{Number, Field, LayerItem, OfFeature, PlainInLayer}
use Rattle.mvt_document.specs.Places.{in_feature}
use Rattle.mvt_document.proofs.Options.{some_is}
use Rattle.mvt_renumber.specs.Laws.{keeping}
use Rattle.mvt_renumber.specs.Renumbering.{field_numbers, renumber}
use Rattle.mvt_renumber.proofs.Redone.{kept_stays}
use Rattle.mvt_renumber.proofs.Reread.{read_of_fields}
use Rattle.mvt_messages.specs.Attributes.{is_ordinal, is_pair}
use Rattle.mvt_messages.specs.Views.{content_in, contents, features_in, key_field, plain_fields, value_field}
use Rattle.mvt_meaning.specs.Compaction.{compacted, is_any, is_entry, is_key_used, is_value_used, new_ordinal, repointed, staying, with_entries, with_new_ordinals}
use Rattle.mvt_meaning.specs.Tagging.{pairs_among}
use Rattle.command_laws.proofs.PairsRead.{pairs_read}
use Rattle.command_laws.proofs.Twice.{AreRead}
use Rattle.mvt_meaning.proofs.Removals.{flat}
use Rattle.command_laws.proofs.ReadValues.{value_list}
use Rattle.command_laws.proofs.Staying.{all_same, all_staying}
use Rattle.command_laws.proofs.Compacted.{EachIsRead, any_covered, keys_covered, read_staying, values_covered}
use Rattle.command_laws.proofs.Repointed.{new_items}
use Rattle.command_laws.proofs.Used.{keys_all_used, read_new, values_all_used}
use Rattle.command_laws.specs.CompactionLaws.{key_of, value_of}

-- an item of a layer is an entry where it has content
one_item : (number : ℕ) (field : Field) (items : List LayerItem) (found : Option (List ℕ)) → content_in number field ≡ found → length (filter (is_entry number) items) ≡ length (contents number (plain_fields items)) → length (filter (is_entry number) (PlainInLayer field ∷ items)) ≡ length (contents number (plain_fields (PlainInLayer field ∷ items)))
one_item number field items None is more = rw is more
one_item number field items (Some bytes) is more = rw is (ap suc more)

count_items : (number : ℕ) (items : List LayerItem) → length (filter (is_entry number) items) ≡ length (contents number (plain_fields items))
count_items number [] = refl
count_items number (OfFeature feature ∷ items) = count_items number items
count_items number (PlainInLayer field ∷ items) = one_item number field items (content_in number field) refl (count_items number items)

module _ (keys_stay values_stay : ℕ → Bool) (all : List LayerItem) where
  abbrev keys_in : ℕ
  keys_in = length (contents key_field (plain_fields all))

  abbrev values_in : ℕ
  values_in = length (contents value_field (plain_fields all))

  module _ (keys_so : (n : ℕ) → n < keys_in → keys_stay n ≡ true) (values_so : (n : ℕ) → n < values_in → values_stay n ≡ true) where
    -- each pair names what it names
    pairs_same : (pairs : List (ℕ × ℕ)) → list_all (is_pair keys_in values_in) pairs ≡ true → repointed keys_stay values_stay pairs ≡ map (λ (n : ℕ). Some n) (flat pairs)
    pairs_same [] is = refl
    pairs_same (pair ∷ pairs) is =
        let parts = and_parts (is_pair keys_in values_in pair) (list_all (is_pair keys_in values_in) pairs) is in
        let both = and_parts (is_ordinal keys_in pair.0) (is_ordinal values_in pair.1) parts.0 in
        let key_below = ltb-true pair.0 keys_in (and_parts (nat_lt pair.0 keys_in) (nat_lt pair.0 (2 ^ 32)) both.0).0 in
        let value_below = ltb-true pair.1 values_in (and_parts (nat_lt pair.1 values_in) (nat_lt pair.1 (2 ^ 32)) both.1).0 in
        let rest = repointed keys_stay values_stay pairs in
        ap (λ (n : ℕ). Some n ∷ Some (new_ordinal values_stay pair.1) ∷ rest) (all_same keys_stay keys_in keys_so pair.0 (omega arith))
        ∙ ap (λ (n : ℕ). Some pair.0 ∷ Some n ∷ rest) (all_same values_stay values_in values_so pair.1 (omega arith))
        ∙ ap (λ (more : List (Option ℕ)). Some pair.0 ∷ Some pair.1 ∷ more) (pairs_same pairs parts.1)

    fields_same : (fields : List Field) (pairs : List (ℕ × ℕ)) → pairs_among all fields ≡ Some pairs → with_new_ordinals keys_stay values_stay all fields ≡ fields
    fields_same fields pairs is =
        let r = pairs_read keys_in values_in fields pairs is in
        let read : flat_map (field_numbers 2) fields ≡ r.list = read_of_fields 2 fields r.list r.read in
        let kept : map (λ (n : ℕ). Some n) (value_list r.list) ≡ keeping r.list = map-map (λ (n : ℕ). Some n) (λ (n : Number). n.value) r.list in
        ap (λ found. renumber 2 (option_map_or (repointed keys_stay values_stay) found []) fields) is
        ∙ ap (λ decisions. renumber 2 decisions fields) (pairs_same pairs r.each ∙ ap (map (λ (n : ℕ). Some n)) (sym r.are) ∙ kept ∙ ap keeping (sym read))
        ∙ kept_stays 2 fields

    items_same : (items : List LayerItem) → AreRead all (features_in items) → map (in_feature (with_new_ordinals keys_stay values_stay all)) items ≡ items
    items_same [] read = refl
    items_same (OfFeature feature ∷ items) read =
        let found = some_is (pairs_among all feature.fields) read.0 in
        let rest = map (in_feature (with_new_ordinals keys_stay values_stay all)) items in
        let with_these : List Field → LayerItem = λ fields. OfFeature (record { tag = feature.tag; width = feature.width; fields = fields }) in
        ap (λ fields. with_these fields ∷ rest) (fields_same feature.fields found.0 found.1) ∙ ap (λ more. OfFeature feature ∷ more) (items_same items read.1)
    items_same (PlainInLayer field ∷ items) read = ap (λ more. PlainInLayer field ∷ more) (items_same items read)

    -- where all keys and values stay, nothing changes
    pub still : AreRead all (features_in all) → with_entries keys_stay values_stay all ≡ all
    still read =
        ap (λ items. staying (is_entry value_field) values_stay 0 (staying (is_entry key_field) keys_stay 0 items)) (items_same all read)
        ∙ ap (staying (is_entry value_field) values_stay 0) (all_staying (is_entry key_field) keys_stay 0 all (λ n above below. keys_so n (omega (arith, below, count_items key_field all))))
        ∙ all_staying (is_entry value_field) values_stay 0 all (λ n above below. values_so n (omega (arith, below, count_items value_field all)))

-- ---- a second time

pub keys_again : (items : List LayerItem) → EachIsRead items → compacted is_key_used is_any (compacted is_key_used is_any items) ≡ compacted is_key_used is_any items
keys_again items each =
    let keys_stay = is_key_used items in
    let values_stay = is_any items in
    let new = new_items keys_stay values_stay items in
    let read = read_staying keys_stay values_stay items (keys_covered items) (any_covered value_of items) each in
    still (is_key_used new) (is_any new) new (keys_all_used keys_stay values_stay items read refl) (λ n below. refl) (read_new keys_stay values_stay items read)

pub values_again : (items : List LayerItem) → EachIsRead items → compacted is_any is_value_used (compacted is_any is_value_used items) ≡ compacted is_any is_value_used items
values_again items each =
    let keys_stay = is_any items in
    let values_stay = is_value_used items in
    let new = new_items keys_stay values_stay items in
    let read = read_staying keys_stay values_stay items (any_covered key_of items) (values_covered items) each in
    still (is_any new) (is_value_used new) new (λ n below. refl) (values_all_used keys_stay values_stay items read refl) (read_new keys_stay values_stay items read)

pub both_again : (items : List LayerItem) → EachIsRead items → compacted is_key_used is_value_used (compacted is_key_used is_value_used items) ≡ compacted is_key_used is_value_used items
both_again items each =
    let keys_stay = is_key_used items in
    let values_stay = is_value_used items in
    let new = new_items keys_stay values_stay items in
    let read = read_staying keys_stay values_stay items (keys_covered items) (values_covered items) each in
    still (is_key_used new) (is_value_used new) new (keys_all_used keys_stay values_stay items read refl) (values_all_used keys_stay values_stay items read refl) (read_new keys_stay values_stay items read)
