-- A layer with more keys and values after its own: the attributes of its features stay.
use Rattle.std.proofs.Common.{◌≡◌, ℕ, zero, suc, ◌<◌, ◌≤◌, ◌^◌, true, Option, Some, None, option_map, List, [], ◌∷◌, ◌++◌, length, length-append, get_or, map, slice_get, refl, ap, ◌∙◌, arith}
use Rattle.std.specs.Prelude.{nat_lt}
use Rattle.std.proofs.lemmas.Bool.{and_from, and_parts, lt-ltb, ltb-true}
use Rattle.std.specs.List.{AllByRecursion, list_all}
use Rattle.mvt_document.specs.Plain.{Feature, Layer}
use Rattle.mvt_messages.specs.Attributes.{attribute_at, attributes, is_ordinal, is_pair, pairs_of}
use Rattle.mvt_layers.specs.Laws.{Names}
use Rattle.mvt_messages.specs.Views.{keys, values}
use Rattle.mvt_layers.proofs.Pairing.{pairs_are_named}
use Rattle.command_laws.proofs.PairsRead.{pairs_again, pairs_read}

ordinal_grows : (count more ordinal : ℕ) → count ≤ more → is_ordinal count ordinal ≡ true → is_ordinal more ordinal ≡ true
ordinal_grows count more ordinal grown is =
    let parts = and_parts (nat_lt ordinal count) (nat_lt ordinal (2 ^ 32)) is in
    let below : ordinal < count = ltb-true ordinal count parts.0 in
    and_from (nat_lt ordinal more) (nat_lt ordinal (2 ^ 32)) (lt-ltb ordinal more (omega arith)) parts.1

pub pairs_grow : (key_count value_count more_keys more_values : ℕ) → key_count ≤ more_keys → value_count ≤ more_values → (pairs : List (ℕ × ℕ)) → list_all (is_pair key_count value_count) pairs ≡ true → list_all (is_pair more_keys more_values) pairs ≡ true
pairs_grow key_count value_count more_keys more_values first second [] is = refl
pairs_grow key_count value_count more_keys more_values first second (pair ∷ pairs) is =
    let parts = and_parts (is_pair key_count value_count pair) (list_all (is_pair key_count value_count) pairs) is in
    let both = and_parts (is_ordinal key_count pair.0) (is_ordinal value_count pair.1) parts.0 in
    and_from (is_pair more_keys more_values pair) (list_all (is_pair more_keys more_values) pairs)
    (and_from (is_ordinal more_keys pair.0) (is_ordinal more_values pair.1) (ordinal_grows key_count more_keys pair.0 first both.0) (ordinal_grows value_count more_values pair.1 second both.1))
    (pairs_grow key_count value_count more_keys more_values first second pairs parts.1)

got_front : (xs ys : List (List ℕ)) (n : ℕ) (x : List ℕ) → slice_get xs n ≡ Some x → get_or (xs ++ ys) n [] ≡ x
got_front [] ys n x is = absurd cc
got_front (y ∷ xs) ys zero x is = let same : y ≡ x = cc in same
got_front (y ∷ xs) ys (suc n) x is = got_front xs ys n x is

module _ (old new : Layer) (more_keys more_values : List (List ℕ)) (keys_so : keys new ≡ keys old ++ more_keys) (values_so : values new ≡ values old ++ more_values) where
  pub keys_grow : length (keys old) ≤ length (keys new)
  keys_grow = omega (arith, ap length keys_so, length-append (keys old) more_keys)

  pub values_grow : length (values old) ≤ length (values new)
  values_grow = omega (arith, ap length values_so, length-append (values old) more_values)

  pub key_stays : (pair : ℕ × ℕ) → Names old pair → (attribute_at new pair).0 ≡ (attribute_at old pair).0
  key_stays pair names = ap (λ (list : List (List ℕ)). get_or list pair.0 []) keys_so ∙ got_front (keys old) more_keys pair.0 (attribute_at old pair).0 names.key

  value_stays : (pair : ℕ × ℕ) → Names old pair → (attribute_at new pair).1 ≡ (attribute_at old pair).1
  value_stays pair names = ap (λ (list : List (List ℕ)). get_or list pair.1 []) values_so ∙ got_front (values old) more_values pair.1 (attribute_at old pair).1 names.value

  pub attribute_stays : (pair : ℕ × ℕ) → Names old pair → attribute_at new pair ≡ attribute_at old pair
  attribute_stays pair names =
      ap (λ (key : List ℕ). (key, (attribute_at new pair).1)) (key_stays pair names) ∙ ap (λ (value : List ℕ). ((attribute_at old pair).0, value)) (value_stays pair names)

  pub all_stay : (pairs : List (ℕ × ℕ)) → AllByRecursion (Names old) pairs → map (attribute_at new) pairs ≡ map (attribute_at old) pairs
  all_stay [] names = refl
  all_stay (pair ∷ pairs) names =
      ap (λ first. first ∷ map (attribute_at new) pairs) (attribute_stays pair names.0) ∙ ap (λ rest. attribute_at old pair ∷ rest) (all_stay pairs names.1)

  stay_by : (feature : Feature) (found : List (List ℕ × List ℕ)) (pairs : Option (List (ℕ × ℕ))) → pairs_of old feature ≡ pairs → option_map (map (attribute_at old)) pairs ≡ Some found → attributes new feature ≡ Some found
  stay_by feature found None is e = absurd cc
  stay_by feature found (Some pairs) is e =
      let r = pairs_read (length (keys old)) (length (values old)) feature.fields pairs is in
      let each = pairs_grow (length (keys old)) (length (values old)) (length (keys new)) (length (values new)) keys_grow values_grow pairs r.each in
      let again : pairs_of new feature ≡ Some pairs = pairs_again (length (keys new)) (length (values new)) feature.fields r.list pairs r.read r.are each in
      ap (option_map (map (attribute_at new))) again ∙ ap Some (all_stay pairs (pairs_are_named old feature pairs is)) ∙ e

  pub attributes_stay : (feature : Feature) (found : List (List ℕ × List ℕ)) → attributes old feature ≡ Some found → attributes new feature ≡ Some found
  attributes_stay feature found e = stay_by feature found (pairs_of old feature) refl e
