-- What is decided on numbers of tags, where some keys and values stay: the values are short.
use Rattle.std.proofs.Common.{◌≡◌, ℕ, zero, suc, ◌+◌, ◌<◌, ◌≤◌, ◌^◌, Bool, true, cond, Option, Some, None, List, [], ◌∷◌, length, refl, ap, arith}
use Rattle.std.proofs.lemmas.Bool.{and_parts, cond_both}
use Rattle.std.specs.List.{list_all}
use Rattle.std.specs.Option.{option_map_or}
use Rattle.mvt_document.specs.Plain.{Field, LayerItem}
use Rattle.mvt_renumber.specs.Laws.{AreShort}
use Rattle.mvt_messages.specs.Numbers.{numbers}
use Rattle.mvt_messages.specs.Attributes.{is_ordinal, is_pair}
use Rattle.mvt_messages.specs.Views.{contents, key_field, plain_fields, value_field}
use Rattle.mvt_meaning.specs.Compaction.{new_ordinal, new_ordinals, repointed}
use Rattle.mvt_meaning.specs.Tagging.{pairs_among}
use Rattle.mvt_meaning.proofs.Removals.{make_pairs, ordinal_short}

pub next_ordinal : (stays : ℕ → Bool) (n : ℕ) → new_ordinal stays (n + 1) ≡ new_ordinal stays n + cond (stays n) 1 0
next_ordinal stays n = let e : n + 1 ≡ suc n = omega arith in ap (new_ordinal stays) e

-- a new ordinal is at most the old one
pub new_ordinal_low : (stays : ℕ → Bool) (ordinal : ℕ) → new_ordinal stays ordinal ≤ ordinal
new_ordinal_low stays zero = omega arith
new_ordinal_low stays (suc ordinal) =
    let low = new_ordinal_low stays ordinal in
    cond_both (stays ordinal) 1 0 (λ one. new_ordinal stays ordinal + one ≤ suc ordinal) (λ _. omega arith) (λ _. omega arith)

module _ (keys values : ℕ → Bool) where
  repointed_short : (key_count value_count : ℕ) (pairs : List (ℕ × ℕ)) → list_all (is_pair key_count value_count) pairs ≡ true → AreShort (repointed keys values pairs)
  repointed_short key_count value_count [] is = tt
  repointed_short key_count value_count (pair ∷ pairs) is =
      let parts = and_parts (is_pair key_count value_count pair) (list_all (is_pair key_count value_count) pairs) is in
      let both = and_parts (is_ordinal key_count pair.0) (is_ordinal value_count pair.1) parts.0 in
      let key : new_ordinal keys pair.0 < 2 ^ 64 = omega (arith, new_ordinal_low keys pair.0, ordinal_short key_count pair.0 both.0) in
      let value : new_ordinal values pair.1 < 2 ^ 64 = omega (arith, new_ordinal_low values pair.1, ordinal_short value_count pair.1 both.1) in
      (key, (value, repointed_short key_count value_count pairs parts.1))

  short_by : (items : List LayerItem) (fields : List Field) (found : Option (List (ℕ × ℕ))) → pairs_among items fields ≡ found → AreShort (option_map_or (repointed keys values) found [])
  short_by items fields None is = tt
  short_by items fields (Some pairs) is =
      let made = make_pairs (length (contents key_field (plain_fields items))) (length (contents value_field (plain_fields items))) (numbers 2 fields) pairs is in
      repointed_short _ _ pairs made.each

  pub new_ordinals_short : (items : List LayerItem) (fields : List Field) → AreShort (new_ordinals keys values items fields)
  new_ordinals_short items fields = short_by items fields (pairs_among items fields) refl
