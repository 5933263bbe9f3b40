-- What is decided on numbers of tags, where some keys and values stay: none gets greater.
use Rattle.std.proofs.Common.{◌≡◌, ℕ, ◌≤◌, Bool, Option, Some, None, option_map, List, [], ◌∷◌, length, map, refl, sym, ap, ◌∙◌, subst, arith}
use Rattle.std.proofs.lemmas.Simd.{map-map}
use Rattle.std.specs.List.{flat_map}
use Rattle.std.specs.Option.{option_map_or}
use Rattle.mvt_document.specs.Plain.{Number, Field, LayerItem}
use Rattle.mvt_renumber.specs.Laws.{NoneIsGreater}
use Rattle.mvt_messages.specs.Numbers.{Placed, numbers}
use Rattle.mvt_renumber.specs.Renumbering.{field_numbers}
use Rattle.mvt_renumber.proofs.Reread.{read_of_fields}
use Rattle.mvt_messages.specs.Views.{contents, key_field, plain_fields, value_field}
use Rattle.mvt_meaning.specs.Compaction.{new_ordinal, new_ordinals, repointed}
use Rattle.mvt_meaning.specs.Tagging.{pairs_among}
use Rattle.mvt_meaning.proofs.Removals.{flat, head_same, make_pairs}
use Rattle.mvt_meaning.proofs.Compaction.{new_ordinal_low}

module _ (keys values : ℕ → Bool) where
  pairs_lower : (pairs : List (ℕ × ℕ)) (list : List Number) → map (λ (n : Number). n.value) list ≡ flat pairs → NoneIsGreater (repointed keys values pairs) list
  pairs_lower [] list is = tt
  pairs_lower (pair ∷ pairs) [] is = absurd cc
  pairs_lower (pair ∷ pairs) (key ∷ []) is = let tails = head_same key.value pair.0 [] (pair.1 ∷ flat pairs) is in absurd (let none = tails.1 in cc)
  pairs_lower (pair ∷ pairs) (key ∷ value ∷ list) is =
      let first = head_same key.value pair.0 (value.value ∷ map (λ (n : Number). n.value) list) (pair.1 ∷ flat pairs) is in
      let second = head_same value.value pair.1 (map (λ (n : Number). n.value) list) (flat pairs) first.1 in
      let low_key : new_ordinal keys pair.0 ≤ key.value = omega (arith, new_ordinal_low keys pair.0, first.0) in
      let low_value : new_ordinal values pair.1 ≤ value.value = omega (arith, new_ordinal_low values pair.1, second.0) in
      (low_key, (low_value, pairs_lower pairs list second.1))

  lower_by : (items : List LayerItem) (fields : List Field) (found : Option (List (ℕ × ℕ))) → pairs_among items fields ≡ found → NoneIsGreater (option_map_or (repointed keys values) found []) (flat_map (field_numbers 2) fields)
  lower_by items fields None is = tt
  lower_by items fields (Some pairs) is =
      let made = make_pairs (length (contents key_field (plain_fields items))) (length (contents value_field (plain_fields items))) (numbers 2 fields) pairs is in
      let list = map (λ (p : Placed). p.number) made.placed in
      let read : flat_map (field_numbers 2) fields ≡ list = read_of_fields 2 fields list (ap (option_map (map (λ (p : Placed). p.number))) made.good) in
      let lower = pairs_lower pairs list (map-map (λ (n : Number). n.value) (λ (p : Placed). p.number) made.placed ∙ made.values) in
      subst (NoneIsGreater (repointed keys values pairs)) (sym read) lower

  pub new_ordinals_lower : (items : List LayerItem) (fields : List Field) → NoneIsGreater (new_ordinals keys values items fields) (flat_map (field_numbers 2) fields)
  new_ordinals_lower items fields = lower_by items fields (pairs_among items fields) refl
