-- The tags of a feature pair by pair, each pair with the two numbers that make it.
use Rattle.std.specs.Prelude.{ℕ, List, [], ◌∷◌, Option, Some, None, Result, Ok, Err, map, option_map, if◌then◌else◌}
use Rattle.mvt_messages.specs.Numbers.{Placed, all_good}
use Rattle.mvt_messages.specs.Attributes.{is_ordinal, is_pair}

-- the number as an ordinal, where it is below the count and below 2^32 (tiles 4.4)
abbrev pub ordinal_in : ℕ → ℕ → Option ℕ
ordinal_in count number = if is_ordinal count number then Some number else None

-- a pair of ordinals of a key and of a value, with the numbers that make it (tiles 4.4)
abbrev pub PlacedPair : Type 0
PlacedPair = (ℕ × ℕ) × (Placed × Placed)

-- the pair that two numbers make, where neither is a bad chunk and the first is the ordinal of a key, the second that
-- of a value; else an error (tiles 4.4)
abbrev pub pair_in : ℕ → ℕ → Result Placed ℕ → Result Placed ℕ → Result PlacedPair (Unit {0})
pair_in key_count value_count (Ok key) (Ok value) =
    if is_pair key_count value_count (key.number.value, value.number.value) then Ok ((key.number.value, value.number.value), (key, value)) else Err tt
pair_in key_count value_count key value = Err tt

-- the pairs that numbers make, two by two, in order: an error for two that make none, and for a last one that is left
-- over (tiles 4.4)
abbrev pub tag_pairs : ℕ → ℕ → List (Result Placed ℕ) → List (Result PlacedPair (Unit {0}))
tag_pairs key_count value_count [] = []
tag_pairs key_count value_count (key ∷ []) = Err tt ∷ []
tag_pairs key_count value_count (key ∷ value ∷ more) = pair_in key_count value_count key value ∷ tag_pairs key_count value_count more

-- the pairs without the numbers that make them, where none is an error (tiles 4.4)
abbrev pub plain_pairs : List (Result PlacedPair (Unit {0})) → Option (List (ℕ × ℕ))
plain_pairs found = option_map (map (λ (f : PlacedPair). f.0)) (all_good found)
