-- A value for a key: the ordinals that it is written with are short, where that of the value is.
use Rattle.std.proofs.Common.{◌≡◌, ℕ, ◌<◌, ◌^◌, Bool, true, cond, Option, Some, None, List, [], ◌∷◌, length, refl}
use Rattle.std.proofs.lemmas.Bool.{and_parts, cond_both}
use Rattle.std.specs.List.{list_all}
use Rattle.std.specs.Option.{option_map_or}
use Rattle.mvt_document.specs.Plain.{Field, LayerItem}
use Rattle.mvt_renumber.specs.Laws.{AreShort}
use Rattle.mvt_messages.specs.Numbers.{numbers}
use Rattle.mvt_messages.specs.Attributes.{is_ordinal, is_pair}
use Rattle.mvt_messages.specs.Views.{contents, key_field, plain_fields, value_field}
use Rattle.mvt_meaning.specs.Tagging.{is_key_at, pairs_among, replacements, revalued, value_ordinal}
use Rattle.mvt_meaning.proofs.Removals.{make_pairs, ordinal_short}

revalued_short : (selects : ℕ → Bool) (value key_count value_count : ℕ) → value < 2 ^ 64 → (pairs : List (ℕ × ℕ)) → list_all (is_pair key_count value_count) pairs ≡ true → AreShort (revalued selects value pairs)
revalued_short selects value key_count value_count short [] is = tt
revalued_short selects value key_count value_count short (pair ∷ pairs) is =
    let parts = and_parts (is_pair key_count value_count pair) (list_all (is_pair key_count value_count) pairs) is in
    let both = and_parts (is_ordinal key_count pair.0) (is_ordinal value_count pair.1) parts.0 in
    let second : cond (selects pair.0) value pair.1 < 2 ^ 64 =
    cond_both (selects pair.0) value pair.1 (λ n. n < 2 ^ 64) (λ _. short) (λ _. ordinal_short value_count pair.1 both.1) in
    (ordinal_short key_count pair.0 both.0, (second, revalued_short selects value key_count value_count short pairs parts.1))

replacements_by : (key value : List ℕ) (items : List LayerItem) (fields : List Field) (found : Option (List (ℕ × ℕ))) → value_ordinal value items < 2 ^ 64 → pairs_among items fields ≡ found → AreShort (option_map_or (revalued (is_key_at items key) (value_ordinal value items)) found [])
replacements_by key value items fields None short is = tt
replacements_by key value items fields (Some pairs) short is =
    let made = make_pairs (length (contents key_field (plain_fields items))) (length (contents value_field (plain_fields items))) (numbers 2 fields) pairs is in
    revalued_short (is_key_at items key) (value_ordinal value items) _ _ short pairs made.each

pub replacements_short : (key value : List ℕ) (items : List LayerItem) (fields : List Field) → value_ordinal value items < 2 ^ 64 → AreShort (replacements key value items fields)
replacements_short key value items fields short = replacements_by key value items fields (pairs_among items fields) short refl
