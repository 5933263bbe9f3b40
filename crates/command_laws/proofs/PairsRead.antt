-- The pairs that the tags of a feature make, from the numbers that are read of them.
use Rattle.std.proofs.Common.{◌≡◌, ℕ, true, Option, Some, option_map, List, [], ◌∷◌, map, refl, ap, ◌∙◌}
use Rattle.std.proofs.lemmas.Simd.{map-map}
use Rattle.std.specs.List.{list_all}
use Rattle.std.specs.Option.{option_and_then}
use Rattle.mvt_document.specs.Plain.{Number, Field}
use Rattle.mvt_renumber.specs.Laws.{read_numbers}
use Rattle.mvt_messages.specs.Numbers.{Placed, and_more, numbers}
use Rattle.mvt_messages.specs.Attributes.{if_pairs, in_pairs, is_pair, pairs_in, values_in}
use Rattle.mvt_meaning.proofs.Removals.{flat, make_pairs}
use Rattle.command_laws.proofs.ReadValues.{value_list, values_of_read}

in_pairs-flat : (pairs : List (ℕ × ℕ)) → in_pairs (flat pairs) ≡ Some pairs
in_pairs-flat [] = refl
in_pairs-flat (pair ∷ pairs) = ap (and_more (pair.0, pair.1)) (in_pairs-flat pairs)

are_pairs : (key_count value_count : ℕ) (pairs : List (ℕ × ℕ)) → list_all (is_pair key_count value_count) pairs ≡ true → if_pairs key_count value_count pairs ≡ Some pairs
are_pairs key_count value_count pairs is = rw is refl

-- numbers that are read make the pairs that have them as ordinals
pub pairs_again : (key_count value_count : ℕ) (fields : List Field) (list : List Number) (pairs : List (ℕ × ℕ)) → read_numbers 2 fields ≡ Some list → value_list list ≡ flat pairs → list_all (is_pair key_count value_count) pairs ≡ true → pairs_in key_count value_count (numbers 2 fields) ≡ Some pairs
pairs_again key_count value_count fields list pairs read are each =
    let found : values_in (numbers 2 fields) ≡ Some (flat pairs) = values_of_read 2 fields list read ∙ ap Some are in
    ap (λ (values : Option (List ℕ)). option_and_then (if_pairs key_count value_count) (option_and_then in_pairs values)) found
    ∙ ap (option_and_then (if_pairs key_count value_count)) (in_pairs-flat pairs)
    ∙ are_pairs key_count value_count pairs each

-- the numbers of pairs that are made
pub record PairsRead (key_count value_count : ℕ) (fields : List Field) (pairs : List (ℕ × ℕ)) : Type 0 where
  pub list : List Number
  pub read : read_numbers 2 fields ≡ Some list
  pub are : value_list list ≡ flat pairs
  pub each : list_all (is_pair key_count value_count) pairs ≡ true

pub pairs_read : (key_count value_count : ℕ) (fields : List Field) (pairs : List (ℕ × ℕ)) → pairs_in key_count value_count (numbers 2 fields) ≡ Some pairs → PairsRead key_count value_count fields pairs
pairs_read key_count value_count fields pairs is =
    let made = make_pairs key_count value_count (numbers 2 fields) pairs is in
    record {
      list = map (λ (p : Placed). p.number) made.placed;
      read = ap (option_map (map (λ (p : Placed). p.number))) made.good;
      are = map-map (λ (n : Number). n.value) (λ (p : Placed). p.number) made.placed ∙ made.values;
      each = made.each;
    }
