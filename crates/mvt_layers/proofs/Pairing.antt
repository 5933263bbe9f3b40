-- The tags of a feature, pair by pair.
use Rattle.std.proofs.Common.{◌≡◌, ℕ, Bool, true, false, ◌&&◌, cond, List, [], ◌∷◌, ◌++◌, length, map, Option, Some, None, option_map, Result, Ok, Err, refl, sym, ap, ◌∙◌, subst, append_assoc}
use Rattle.std.specs.List.{list_all, AllByRecursion}
use Rattle.std.specs.Option.{option_and_then}
use Rattle.std.proofs.lemmas.Bool.{and_parts, ltb-true}
use Rattle.std.proofs.lemmas.Option.{cond_some, slice_get-get_or}
use Rattle.mvt_document.specs.Plain.{Layer}
use Rattle.mvt_messages.specs.Numbers.{Placed, numbers, all_good, and_more}
use Rattle.mvt_messages.specs.Views.{keys, values}
use Rattle.mvt_messages.specs.Attributes.{values_in, in_pairs, is_ordinal, is_pair, if_pairs, pairs_in}
use Rattle.mvt_messages.specs.Tags.{PlacedPair, plain_pairs, tag_pairs}
use Rattle.mvt_layers.specs.Laws.{Names, PairsName, TagsArePairs}

-- ---- one pair more

-- at the end of what is done
pub done_more : {A : Type 0} (done : List A) (item : A) (others : Option (List A)) → option_map (λ rest. done ++ rest) (and_more item others) ≡ option_map (λ rest. (done ++ item ∷ []) ++ rest) others
done_more done item None = refl
done_more done item (Some rest) = ap Some (sym (append_assoc done (item ∷ []) rest))

-- where nothing is done
pub done_none : {A : Type 0} (others : Option (List A)) → option_map (λ rest. [] ++ rest) others ≡ others
done_none None = refl
done_none (Some rest) = refl

mapped_more : {A B : Type 0} (f : A → B) (item : A) (others : Option (List A)) → option_map (map f) (and_more item others) ≡ and_more (f item) (option_map (map f) others)
mapped_more f item None = refl
mapped_more f item (Some rest) = refl

-- the plain pairs of one that is read, and of those after it
pub plain_more : (found : PlacedPair) (more : List (Result PlacedPair (Unit {0}))) → plain_pairs (Ok found ∷ more) ≡ and_more found.0 (plain_pairs more)
plain_more found more = mapped_more (λ (found : PlacedPair). found.0) found (all_good more)

-- ---- pairs of numbers

if_more : (key_count value_count : ℕ) (pair : ℕ × ℕ) (list : List (ℕ × ℕ)) (first others : Bool) → cond (first && others) (Some (pair ∷ list)) None ≡ cond first (and_more pair (cond others (Some list) None)) None
if_more key_count value_count pair list true true = refl
if_more key_count value_count pair list true false = refl
if_more key_count value_count pair list false others = refl

no_more : {A : Type 0} (b : Bool) → ◌≡◌ {A = Option A} None (cond b None None)
no_more true = refl
no_more false = refl

of_pairs : (key_count value_count : ℕ) (pair : ℕ × ℕ) (list : Option (List (ℕ × ℕ))) → option_and_then (if_pairs key_count value_count) (and_more pair list) ≡ cond (is_pair key_count value_count pair) (and_more pair (option_and_then (if_pairs key_count value_count) list)) None
of_pairs key_count value_count pair None = no_more (is_pair key_count value_count pair)
of_pairs key_count value_count pair (Some list) = if_more key_count value_count pair list (is_pair key_count value_count pair) (list_all (is_pair key_count value_count) list)

of_values : (key value : Placed) (found : Option (List Placed)) → option_and_then in_pairs (option_map (map (λ (p : Placed). p.number.value)) (and_more key (and_more value found))) ≡ and_more (key.number.value, value.number.value) (option_and_then in_pairs (option_map (map (λ (p : Placed). p.number.value)) found))
of_values key value None = refl
of_values key value (Some found) = refl

if_read : (b : Bool) (found : PlacedPair) (more : List (Result PlacedPair (Unit {0}))) → plain_pairs (cond b (Ok found) (Err tt) ∷ more) ≡ cond b (and_more found.0 (plain_pairs more)) None
if_read true found more = plain_more found more
if_read false found more = refl

pairs_are_tags : (key_count value_count : ℕ) (chunks : List (Result Placed ℕ)) → plain_pairs (tag_pairs key_count value_count chunks) ≡ pairs_in key_count value_count chunks
pairs_are_tags key_count value_count [] = refl
pairs_are_tags key_count value_count (Ok key ∷ []) = refl
pairs_are_tags key_count value_count (Err bad ∷ []) = refl
pairs_are_tags key_count value_count (Err bad ∷ value ∷ more) = refl
pairs_are_tags key_count value_count (Ok key ∷ Err bad ∷ more) = refl
pairs_are_tags key_count value_count (Ok key ∷ Ok value ∷ more) =
    let pair : ℕ × ℕ = (key.number.value, value.number.value) in
    if_read (is_pair key_count value_count pair) (pair, (key, value)) (tag_pairs key_count value_count more)
    ∙ ap (λ rest. cond (is_pair key_count value_count pair) (and_more pair rest) None) (pairs_are_tags key_count value_count more)
    ∙ sym (of_pairs key_count value_count pair (option_and_then in_pairs (values_in more)))
    ∙ ap (option_and_then (if_pairs key_count value_count)) (sym (of_values key value (all_good more)))

pub tags_are_pairs : TagsArePairs
tags_are_pairs layer feature = pairs_are_tags (length (keys layer)) (length (values layer)) (numbers 2 feature.fields)

-- ---- each pair names a key and a value

names_of : (layer : Layer) (pair : ℕ × ℕ) → is_pair (length (keys layer)) (length (values layer)) pair ≡ true → Names layer pair
names_of layer pair e =
    let both = and_parts (is_ordinal (length (keys layer)) pair.0) (is_ordinal (length (values layer)) pair.1) e in
    let key = and_parts _ _ both.0 in
    let value = and_parts _ _ both.1 in
    record {
      key = slice_get-get_or (keys layer) pair.0 [] (ltb-true pair.0 (length (keys layer)) key.0);
      value = slice_get-get_or (values layer) pair.1 [] (ltb-true pair.1 (length (values layer)) value.0);
    }

all_names : (layer : Layer) (list : List (ℕ × ℕ)) → list_all (is_pair (length (keys layer)) (length (values layer))) list ≡ true → AllByRecursion (Names layer) list
all_names layer [] e = tt
all_names layer (pair ∷ more) e =
    let both = and_parts (is_pair (length (keys layer)) (length (values layer)) pair) (list_all (is_pair (length (keys layer)) (length (values layer))) more) e in
    (names_of layer pair both.0, all_names layer more both.1)

all_names_if : (layer : Layer) (found : Option (List (ℕ × ℕ))) (pairs : List (ℕ × ℕ)) → option_and_then (if_pairs (length (keys layer)) (length (values layer))) found ≡ Some pairs → AllByRecursion (Names layer) pairs
all_names_if layer None pairs e = absurd (cc)
all_names_if layer (Some list) pairs e =
    let found = cond_some (list_all (is_pair (length (keys layer)) (length (values layer))) list) list pairs e in
    subst (AllByRecursion (Names layer)) found.1 (all_names layer list found.0)

pub pairs_are_named : PairsName
pairs_are_named layer feature pairs e = all_names_if layer (option_and_then in_pairs (values_in (numbers 2 feature.fields))) pairs e
