-- What is decided on numbers of tags, where the pairs of a key go: the values are short, and none is new.
use Rattle.std.proofs.Common.{◌≡◌, ℕ, ◌<◌, ◌^◌, Bool, true, Option, Some, None, option_map, Result, List, [], ◌∷◌, length, map, refl, sym, ap, ◌∙◌, inl, inr, subst, arith}
use Rattle.std.specs.Prelude.{nat_lt}
use Rattle.std.proofs.lemmas.Bool.{and_parts, cases_Bool, ltb-true}
use Rattle.std.proofs.lemmas.Simd.{map-map}
use Rattle.std.specs.List.{flat_map, list_all}
use Rattle.std.specs.Option.{option_and_then, option_map_or}
use Rattle.std.proofs.lemmas.Option.{same_Some}
use Rattle.mvt_document.specs.Plain.{Number, Field, LayerItem}
use Rattle.mvt_renumber.specs.Laws.{AreShort, NoneIsNew}
use Rattle.mvt_messages.specs.Numbers.{Placed, all_good, and_more, numbers}
use Rattle.mvt_renumber.specs.Renumbering.{field_numbers}
use Rattle.mvt_renumber.proofs.Reread.{read_of_fields}
use Rattle.mvt_messages.specs.Attributes.{if_pairs, in_pairs, is_ordinal, is_pair, pairs_in}
use Rattle.mvt_messages.specs.Views.{contents, key_field, plain_fields, value_field}
use Rattle.mvt_meaning.specs.Tagging.{is_key_at, pairs_among, removals, without_pairs}

-- ---- pairs of numbers

-- the numbers of pairs, in order
abbrev pub flat : List (ℕ × ℕ) → List ℕ
flat pairs = flat_map (λ (pair : ℕ × ℕ). pair.0 ∷ pair.1 ∷ []) pairs

-- what the numbers say that make these pairs
pub record MakePairs (key_count value_count : ℕ) (chunks : List (Result Placed ℕ)) (pairs : List (ℕ × ℕ)) : Type 0 where
  pub placed : List Placed
  pub good : all_good chunks ≡ Some placed
  pub values : map (λ (p : Placed). p.number.value) placed ≡ flat pairs
  pub each : list_all (is_pair key_count value_count) pairs ≡ true

flat_more : (key value : ℕ) (more : List ℕ) (found : Option (List (ℕ × ℕ))) (pairs : List (ℕ × ℕ)) → ((rest : List (ℕ × ℕ)) → found ≡ Some rest → more ≡ flat rest) → and_more (key, value) found ≡ Some pairs → key ∷ value ∷ more ≡ flat pairs
flat_more key value more None pairs rests is = absurd cc
flat_more key value more (Some rest) pairs rests is =
    ap (λ list. key ∷ value ∷ list) (rests rest refl) ∙ ap flat (same_Some ((key, value) ∷ rest) pairs is)

in_pairs_flat : (values : List ℕ) (pairs : List (ℕ × ℕ)) → in_pairs values ≡ Some pairs → values ≡ flat pairs
in_pairs_flat [] pairs is = ap flat (same_Some [] pairs is)
in_pairs_flat (key ∷ []) pairs is = absurd cc
in_pairs_flat (key ∷ value ∷ more) pairs is = flat_more key value more (in_pairs more) pairs (in_pairs_flat more) is

checked : (key_count value_count : ℕ) (found : Option (List (ℕ × ℕ))) (pairs : List (ℕ × ℕ)) → option_and_then (if_pairs key_count value_count) found ≡ Some pairs → (found ≡ Some pairs) × (list_all (is_pair key_count value_count) pairs ≡ true)
checked key_count value_count None pairs is = absurd cc
checked key_count value_count (Some list) pairs is =
    elim (cases_Bool (list_all (is_pair key_count value_count) list)) [
      | inl pass ↦ (
          let same : list ≡ pairs = same_Some list pairs (rw pass at is) in
          (ap Some same, ap (list_all (is_pair key_count value_count)) (sym same) ∙ pass)
          )
      | inr skip ↦ absurd (let none = rw skip at is in cc)
    ]

pairs_by : (key_count value_count : ℕ) (chunks : List (Result Placed ℕ)) (pairs : List (ℕ × ℕ)) (good : Option (List Placed)) → all_good chunks ≡ good → option_and_then (if_pairs key_count value_count) (option_and_then in_pairs (option_map (map (λ (p : Placed). p.number.value)) good)) ≡ Some pairs → MakePairs key_count value_count chunks pairs
pairs_by key_count value_count chunks pairs None good is = absurd cc
pairs_by key_count value_count chunks pairs (Some placed) good is =
    let both = checked key_count value_count (in_pairs (map (λ (p : Placed). p.number.value) placed)) pairs is in
    record { placed = placed; good = good; values = in_pairs_flat (map (λ (p : Placed). p.number.value) placed) pairs both.0; each = both.1 }

pub make_pairs : (key_count value_count : ℕ) (chunks : List (Result Placed ℕ)) (pairs : List (ℕ × ℕ)) → pairs_in key_count value_count chunks ≡ Some pairs → MakePairs key_count value_count chunks pairs
make_pairs key_count value_count chunks pairs is = pairs_by key_count value_count chunks pairs (all_good chunks) refl is

-- ---- the decisions

pub ordinal_short : (count ordinal : ℕ) → is_ordinal count ordinal ≡ true → ordinal < 2 ^ 64
ordinal_short count ordinal is =
    let short : ordinal < 2 ^ 32 = ltb-true ordinal (2 ^ 32) (and_parts (nat_lt ordinal count) (nat_lt ordinal (2 ^ 32)) is).1 in
    omega arith

pub pairs_short : (goes : ℕ → Bool) (key_count value_count : ℕ) (pairs : List (ℕ × ℕ)) → list_all (is_pair key_count value_count) pairs ≡ true → AreShort (without_pairs goes pairs)
pairs_short goes key_count value_count [] is = tt
pairs_short goes key_count value_count (pair ∷ pairs) is =
    let parts = and_parts (is_pair key_count value_count pair) (list_all (is_pair key_count value_count) pairs) is in
    let first = and_parts (is_ordinal key_count pair.0) (is_ordinal value_count pair.1) parts.0 in
    let more = pairs_short goes key_count value_count pairs parts.1 in
    elim (cases_Bool (goes pair.0)) [
      | inl gone ↦ rw gone (tt, (tt, more))
      | inr stays ↦ rw stays (ordinal_short key_count pair.0 first.0, (ordinal_short value_count pair.1 first.1, more))
    ]

pub head_same : (x y : ℕ) (xs ys : List ℕ) → x ∷ xs ≡ y ∷ ys → (x ≡ y) × (xs ≡ ys)
head_same x y xs ys e = (cc, cc)

pairs_kept : (goes : ℕ → Bool) (pairs : List (ℕ × ℕ)) (list : List Number) → map (λ (n : Number). n.value) list ≡ flat pairs → NoneIsNew (without_pairs goes pairs) list
pairs_kept goes [] list is = tt
pairs_kept goes (pair ∷ pairs) [] is = absurd cc
pairs_kept goes (pair ∷ pairs) (key ∷ []) is = let tails = head_same key.value pair.0 [] (pair.1 ∷ flat pairs) is in absurd (let none = tails.1 in cc)
pairs_kept goes (pair ∷ pairs) (key ∷ value ∷ list) is =
    let first = head_same key.value pair.0 (value.value ∷ map (λ (n : Number). n.value) list) (pair.1 ∷ flat pairs) is in
    let second = head_same value.value pair.1 (map (λ (n : Number). n.value) list) (flat pairs) first.1 in
    let more = pairs_kept goes pairs list second.1 in
    elim (cases_Bool (goes pair.0)) [
      | inl gone ↦ rw gone (tt, (tt, more))
      | inr stays ↦ rw stays (sym first.0, (sym second.0, more))
    ]

removals_by : (key : List ℕ) (items : List LayerItem) (fields : List Field) (found : Option (List (ℕ × ℕ))) → pairs_among items fields ≡ found → AreShort (option_map_or (without_pairs (is_key_at items key)) found [])
removals_by key items fields None is = tt
removals_by key items fields (Some pairs) is =
    let made = make_pairs (length (contents key_field (plain_fields items))) (length (contents value_field (plain_fields items))) (numbers 2 fields) pairs is in
    pairs_short (is_key_at items key) _ _ pairs made.each

pub removals_short : (key : List ℕ) (items : List LayerItem) (fields : List Field) → AreShort (removals key items fields)
removals_short key items fields = removals_by key items fields (pairs_among items fields) refl

none_new_by : (key : List ℕ) (items : List LayerItem) (fields : List Field) (found : Option (List (ℕ × ℕ))) → pairs_among items fields ≡ found → NoneIsNew (option_map_or (without_pairs (is_key_at items key)) found []) (flat_map (field_numbers 2) fields)
none_new_by key items fields None is = tt
none_new_by key items fields (Some pairs) is =
    let made = make_pairs (length (contents key_field (plain_fields items))) (length (contents value_field (plain_fields items))) (numbers 2 fields) pairs is in
    let list = map (λ (p : Placed). p.number) made.placed in
    let read : flat_map (field_numbers 2) fields ≡ list = read_of_fields 2 fields list (ap (option_map (map (λ (p : Placed). p.number))) made.good) in
    let kept = pairs_kept (is_key_at items key) pairs list (map-map (λ (n : Number). n.value) (λ (p : Placed). p.number) made.placed ∙ made.values) in
    subst (NoneIsNew (without_pairs (is_key_at items key) pairs)) (sym read) kept

pub none_new : (key : List ℕ) (items : List LayerItem) (fields : List Field) → NoneIsNew (removals key items fields) (flat_map (field_numbers 2) fields)
none_new key items fields = none_new_by key items fields (pairs_among items fields) refl
