-- The attributes of a feature, and the pairs that name them.
use Rattle.std.proofs.Common.{◌≡◌, ℕ, zero, suc, ◌<◌, ◌^◌, Bool, true, List, [], ◌∷◌, ◌++◌, length, map, Option, Some, None, Bor, codes, refl, sym, ap, ◌∙◌, subst, arith}
use Rattle.std.specs.Prelude.{All, IsSome, IsTrue, nat_lt, slice_get, slice_index_or}
use borrow.Author.Tests.{ltb-true}
use Rattle.std.specs.List.{AllByRecursion, list_all}
use Rattle.std.specs.Option.{option_and_then, option_copied}
use Rattle.std.proofs.lemmas.Bool.{and_parts}
use Rattle.std.proofs.lemmas.Option.{cond_some}
use Rattle.std.proofs.lemmas.List.{get_or-map, length-map}
use Rattle.std.proofs.lemmas.List.Elements.{All-from_recursion}
use Rattle.mvt_document.specs.Plain.{Feature, Layer}
use Rattle.mvt_messages.specs.Numbers.{numbers}
use Rattle.mvt_messages.specs.Views.{keys, values}
use Rattle.mvt_messages.specs.Attributes.{attribute_at, if_pairs, in_pairs, is_ordinal, is_pair, pairs_of, values_in}
use Rattle.mvt_layers.specs.Seen.{pair_seen}
use Rattle.mvt_layers.specs.declared.attributes.Pair.{Pair}
use Rattle.tile_listing.specs.Listing.{attribute_line, attribute_lines, joined_lines}
use Rattle.tile_listing.specs.ListingStands.{contents_of, named_by}

-- ---- each pair names a key and a value

all_pass : {A B : Type 0} (p : B → Bool) (f : A → B) (xs : List A) → list_all p (map f xs) ≡ true → AllByRecursion (λ x. IsTrue (p (f x))) xs
all_pass p f [] e = tt
all_pass p f (x ∷ xs) e = let both = and_parts (p (f x)) (list_all p (map f xs)) e in (both.0, all_pass p f xs both.1)

are_pairs : (key_count value_count : ℕ) (found : Option (List (ℕ × ℕ))) (list : List (ℕ × ℕ)) → option_and_then (if_pairs key_count value_count) found ≡ Some list → list_all (is_pair key_count value_count) list ≡ true
are_pairs key_count value_count None list e = absurd cc
are_pairs key_count value_count (Some found) list e =
    let is = cond_some (list_all (is_pair key_count value_count) found) found list e in
    subst (λ (l : List (ℕ × ℕ)). list_all (is_pair key_count value_count) l ≡ true) is.1 is.0

pub pairs_fit : (layer : Layer) (feature : Feature) (pairs : List Pair) → pairs_of layer feature ≡ Some (map pair_seen pairs) → All (λ pair. IsTrue (is_pair (length (keys layer)) (length (values layer)) (pair_seen pair))) pairs
pairs_fit layer feature pairs read =
    All-from_recursion _ pairs (all_pass (is_pair (length (keys layer)) (length (values layer))) pair_seen pairs (are_pairs (length (keys layer)) (length (values layer)) (option_and_then in_pairs (values_in (numbers 2 feature.fields))) (map pair_seen pairs) read))

-- there is something at an ordinal
there : {A : Type 0} (xs : List A) (k : ℕ) (d : A) → k < length xs → slice_get xs k ≡ Some (slice_index_or xs k d)
there [] k d inside = absurd (omega arith)
there (x ∷ xs) zero d inside = refl
there (x ∷ xs) (suc k) d inside = there xs k d (omega arith)

pub ordinal_there : (xs : List (List ℕ)) (k : ℕ) → is_ordinal (length xs) k ≡ true → slice_get xs k ≡ Some (slice_index_or xs k [])
ordinal_there xs k is = there xs k [] (ltb-true k (length xs) (and_parts (nat_lt k (length xs)) (nat_lt k (2 ^ 32)) is).0)

pub entry_there : (xs : List (List ℕ)) (k : ℕ) (found : Option (Bor (List ℕ))) → is_ordinal (length xs) k ≡ true → option_copied found ≡ slice_get xs k → IsSome found
entry_there xs k None is e = let some = ordinal_there xs k is in absurd cc
entry_there xs k (Some found) is e = refl

-- the same for the slices that hold the keys and the values
pub held_fit : (layer : Layer) (pairs : List Pair) (held_keys held_values : List (Bor (List ℕ))) → contents_of held_keys ≡ keys layer → contents_of held_values ≡ values layer
    → All (λ pair. IsTrue (is_pair (length (keys layer)) (length (values layer)) (pair_seen pair))) pairs → All (λ pair. IsTrue (is_pair (length held_keys) (length held_values) (pair_seen pair))) pairs
held_fit layer pairs held_keys held_values of_keys of_values fit =
    let count_keys : length (keys layer) ≡ length held_keys = ap (λ (xs : List (List ℕ)). length xs) (sym of_keys) ∙ length-map held_keys _ in
    let count_values : length (values layer) ≡ length held_values = ap (λ (xs : List (List ℕ)). length xs) (sym of_values) ∙ length-map held_values _ in
    subst (λ (n : ℕ). All (λ pair. IsTrue (is_pair n (length held_values) (pair_seen pair))) pairs) count_keys
    (subst (λ (n : ℕ). All (λ pair. IsTrue (is_pair (length (keys layer)) n (pair_seen pair))) pairs) count_values fit)

-- what there is at an ordinal
got : {A : Type 0} (xs : List A) (k : ℕ) (x d : A) → slice_get xs k ≡ Some x → x ≡ slice_index_or xs k d
got [] k x d e = absurd cc
got (y ∷ xs) zero x d e = cc
got (y ∷ xs) (suc k) x d e = got xs k x d e

-- what the layer has at a pair's ordinals is what the pair names
pub pair_named : (layer : Layer) (pair : ℕ × ℕ) (key value : List ℕ) → slice_get (keys layer) pair.0 ≡ Some key → slice_get (values layer) pair.1 ≡ Some value → (key, value) ≡ attribute_at layer pair
pair_named layer pair key value of_key of_value =
    ap (λ (k : List ℕ). (k, value)) (got (keys layer) pair.0 key [] of_key) ∙ ap (λ (v : List ℕ). (slice_index_or (keys layer) pair.0 [], v)) (got (values layer) pair.1 value [] of_value)

-- the same for the slices
pub named_held : (held_keys held_values : List (Bor (List ℕ))) (pair : ℕ × ℕ) (key value : Bor (List ℕ)) → IsTrue (is_pair (length held_keys) (length held_values) pair)
    → ((slice_index_or held_keys pair.0 key).now, (slice_index_or held_values pair.1 value).now) ≡ named_by (contents_of held_keys) (contents_of held_values) pair
named_held held_keys held_values pair key value fits =
    let both = and_parts (is_ordinal (length held_keys) pair.0) (is_ordinal (length held_values) pair.1) fits in
    let of_key = ltb-true pair.0 (length held_keys) (and_parts (nat_lt pair.0 (length held_keys)) (nat_lt pair.0 (2 ^ 32)) both.0).0 in
    let of_value = ltb-true pair.1 (length held_values) (and_parts (nat_lt pair.1 (length held_values)) (nat_lt pair.1 (2 ^ 32)) both.1).0 in
    sym (rw (get_or-map (λ (slice : Bor (List ℕ)). slice.now) held_keys pair.0 key [] of_key, get_or-map (λ (slice : Bor (List ℕ)). slice.now) held_values pair.1 value [] of_value) refl)

-- ---- the lines of the attributes

-- what the slices name is what the pairs of the layer name
pub held_put : (layer : Layer) (pairs : List (ℕ × ℕ)) (held_keys held_values : List (Bor (List ℕ))) (old new : List ℕ) → contents_of held_keys ≡ keys layer → contents_of held_values ≡ values layer
    → new ≡ old ++ joined_lines (map (λ (pair : ℕ × ℕ). attribute_line (named_by (contents_of held_keys) (contents_of held_values) pair)) pairs) → new ≡ old ++ joined_lines (map (λ (pair : ℕ × ℕ). attribute_line (attribute_at layer pair)) pairs)
held_put layer pairs held_keys held_values old new of_keys of_values put =
    put ∙ ap (λ (ks : List (List ℕ)). old ++ joined_lines (map (λ (pair : ℕ × ℕ). attribute_line (named_by ks (contents_of held_values) pair)) pairs)) of_keys
    ∙ ap (λ (vs : List (List ℕ)). old ++ joined_lines (map (λ (pair : ℕ × ℕ). attribute_line (named_by (keys layer) vs pair)) pairs)) of_values

map_twice : {A B C : Type 0} (f : B → C) (g : A → B) (xs : List A) → map (λ x. f (g x)) xs ≡ map f (map g xs)
map_twice f g [] = refl
map_twice f g (x ∷ xs) = ap (λ ys. f (g x) ∷ ys) (map_twice f g xs)

pub attributes_put : (layer : Layer) (feature : Feature) (pairs : List Pair) (old new : List ℕ) → pairs_of layer feature ≡ Some (map pair_seen pairs)
    → new ≡ old ++ joined_lines (map (λ (pair : ℕ × ℕ). attribute_line (attribute_at layer pair)) (map pair_seen pairs)) → new ≡ old ++ joined_lines (attribute_lines layer feature)
attributes_put layer feature pairs old new read put =
    put ∙ ap (λ (lines : List (List ℕ)). old ++ joined_lines lines) (map_twice attribute_line (attribute_at layer) (map pair_seen pairs) ∙ rw read refl)

pub no_attributes_put : (layer : Layer) (feature : Feature) (old new : List ℕ) → pairs_of layer feature ≡ None → new ≡ old ++ codes "attributes unreadable\n" → new ≡ old ++ joined_lines (attribute_lines layer feature)
no_attributes_put layer feature old new none put = rw none put
