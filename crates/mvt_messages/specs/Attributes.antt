-- What the tags of a feature say.
use Rattle.std.specs.Prelude.{ℕ, ◌^◌, ◌&&◌, Bool, List, [], ◌∷◌, Option, Some, None, Result, length, map, nat_lt, slice_index_or, option_map, if◌then◌else◌}
use Rattle.std.specs.List.{list_all}
use Rattle.std.specs.Option.{option_and_then}
use Rattle.mvt_document.specs.Plain.{Layer, Feature}
use Rattle.mvt_messages.specs.Numbers.{Placed, numbers, all_good, and_more}
use Rattle.mvt_messages.specs.Views.{keys, values}

-- the values of numbers, where no chunk among them is bad
abbrev pub values_in : List (Result Placed ℕ) → Option (List ℕ)
values_in chunks = option_map (map (λ (p : Placed). p.number.value)) (all_good chunks)

-- the values in pairs, where their count is even (tiles 4.4)
abbrev pub in_pairs : List ℕ → Option (List (ℕ × ℕ))
in_pairs [] = Some []
in_pairs (key ∷ []) = None
in_pairs (key ∷ value ∷ more) = and_more (key, value) (in_pairs more)

-- the ordinal is below the count and below 2^32 (tiles 4.4)
abbrev pub is_ordinal : ℕ → ℕ → Bool
is_ordinal count ordinal = nat_lt ordinal count && nat_lt ordinal (2 ^ 32)

-- a pair of ordinals of a key and of a value, where there are this many of each (tiles 4.4)
abbrev pub is_pair : ℕ → ℕ → ℕ × ℕ → Bool
is_pair key_count value_count pair = is_ordinal key_count pair.0 && is_ordinal value_count pair.1

-- the pairs, where each is one of a key and of a value (tiles 4.4)
abbrev pub if_pairs : ℕ → ℕ → List (ℕ × ℕ) → Option (List (ℕ × ℕ))
if_pairs key_count value_count list = if list_all (is_pair key_count value_count) list then Some list else None

-- the pairs that numbers make: where no chunk is bad, their count is even, and each pair is one of a key and of a value
-- (tiles 4.4)
abbrev pub pairs_in : ℕ → ℕ → List (Result Placed ℕ) → Option (List (ℕ × ℕ))
pairs_in key_count value_count chunks = option_and_then (if_pairs key_count value_count) (option_and_then in_pairs (values_in chunks))

-- the pairs that the tags of a feature, its numbers of field 2, make in its layer, where they make pairs (tiles 4.4)
abbrev pub pairs_of : Layer → Feature → Option (List (ℕ × ℕ))
pairs_of layer feature = pairs_in (length (keys layer)) (length (values layer)) (numbers 2 feature.fields)

-- the key and the value of the layer at the two ordinals of a pair (tiles 4.4)
abbrev pub attribute_at : Layer → ℕ × ℕ → List ℕ × List ℕ
attribute_at layer pair = (slice_index_or (keys layer) pair.0 [], slice_index_or (values layer) pair.1 [])

-- the keys and values of a feature, in order, where its tags make pairs (tiles 4.4)
abbrev pub attributes : Layer → Feature → Option (List (List ℕ × List ℕ))
attributes layer feature = option_map (map (attribute_at layer)) (pairs_of layer feature)
