-- The decisions on the numbers of the pairs of a key; and whether a layer has the key.
use Rattle.std.proofs.Common.{◌≡◌, ℕ, Bool, true, false, ◌||◌, Option, Some, None, List, [], ◌∷◌, is_some, length, map, option_map, slice_get, refl, sym, ap, ◌∙◌, inl, inr}
use Rattle.std.proofs.lemmas.Bool.{cases_Bool}
use Rattle.std.specs.List.{cons_option, list_any}
use Rattle.std.specs.Option.{option_map_or, unwrap_or}
use Rattle.std.specs.Str.{bytes_eq}
use Rattle.mvt_document.specs.Plain.{Feature, Field, Layer, LayerItem, OfFeature, PlainInLayer}
use Rattle.mvt_messages.specs.Numbers.{numbers}
use Rattle.mvt_messages.specs.Tags.{plain_pairs, tag_pairs}
use Rattle.mvt_messages.specs.Views.{content_in, contents, key_field, keys, plain_fields, values}
use Rattle.mvt_layers.proofs.Pairing.{tags_are_pairs}
use Rattle.mvt_meaning.specs.Tagging.{is_key, is_key_at, pairs_among, removals, without_pairs}
use Rattle.mvt_edit_steps.proofs.Deciding.{then_pairs}
use Rattle.mvt_edit_steps.proofs.NamedKeys.{named_at}

-- ---- the pairs of a key

same_pairs : (goes goes_too : ℕ → Bool) → ((ordinal : ℕ) → goes ordinal ≡ goes_too ordinal) → (pairs : List (ℕ × ℕ)) → without_pairs goes pairs ≡ without_pairs goes_too pairs
same_pairs goes goes_too same [] = refl
same_pairs goes goes_too same (pair ∷ pairs) =
    let e = same pair.0 in
    elim (cases_Bool (goes_too pair.0)) [
      | inl gone ↦ (let is = e ∙ gone in rw (gone, is) (ap (λ more. None ∷ None ∷ more) (same_pairs goes goes_too same pairs)))
      | inr stays ↦ (let is = e ∙ stays in rw (stays, is) (ap (λ more. Some pair.0 ∷ Some pair.1 ∷ more) (same_pairs goes goes_too same pairs)))
    ]

-- the decisions by keys that are named are those on the pairs of the key
named_removals : (key : List ℕ) (items : List LayerItem) (decisions : List (Option ℕ)) (found : Option (List (ℕ × ℕ))) → option_map (without_pairs (λ ordinal. unwrap_or (slice_get (map (bytes_eq key) (contents key_field (plain_fields items))) ordinal) false)) found ≡ Some decisions → decisions ≡ option_map_or (without_pairs (is_key_at items key)) found []
named_removals key items decisions None is = absurd cc
named_removals key items decisions (Some pairs) is =
    let keys = contents key_field (plain_fields items) in
    let here : without_pairs (λ ordinal. unwrap_or (slice_get (map (bytes_eq key) keys) ordinal) false) pairs ≡ decisions = cc in
    sym here ∙ same_pairs (λ ordinal. unwrap_or (slice_get (map (bytes_eq key) keys) ordinal) false) (is_key_at items key) (named_at key keys) pairs

pub removals_decided : (key : List ℕ) (items : List LayerItem) (fields : List Field) (decisions : List (Option ℕ)) → option_map (without_pairs (λ ordinal. unwrap_or (slice_get (map (bytes_eq key) (contents key_field (plain_fields items))) ordinal) false)) (pairs_among items fields) ≡ Some decisions → decisions ≡ removals key items fields
removals_decided key items fields decisions is = named_removals key items decisions (pairs_among items fields) is

-- the decisions by the keys of a layer and by its sizes are those on the pairs of the key, and the tags make pairs
pub record OnPairs (key : List ℕ) (items : List LayerItem) (fields : List Field) (decisions : List (Option ℕ)) : Type 0 where
  pub decided : decisions ≡ removals key items fields
  pub readable : is_some (pairs_among items fields) ≡ true

pub on_pairs : (key : List ℕ) (layer : Layer) (feature : Feature) (key_count value_count : ℕ) (named : List Bool) (decisions : List (Option ℕ)) → named ≡ map (bytes_eq key) (keys layer) → key_count ≡ length (keys layer) → value_count ≡ length (values layer) → option_map (without_pairs (λ ordinal. unwrap_or (slice_get named ordinal) false)) (plain_pairs (tag_pairs key_count value_count (numbers 2 feature.fields))) ≡ Some decisions → OnPairs key layer.items feature.fields decisions
on_pairs key layer feature key_count value_count named decisions is_named is_keys is_values is =
    let goes : ℕ → Bool = λ ordinal. unwrap_or (slice_get (map (bytes_eq key) (keys layer)) ordinal) false in
    let by_layer : option_map (without_pairs goes) (plain_pairs (tag_pairs (length (keys layer)) (length (values layer)) (numbers 2 feature.fields))) ≡ Some decisions = rw (is_named, is_keys, is_values) at is in
    let decided : option_map (without_pairs goes) (pairs_among layer.items feature.fields) ≡ Some decisions = ap (option_map (without_pairs goes)) (sym (tags_are_pairs layer feature)) ∙ by_layer in
    record { decided = removals_decided key layer.items feature.fields decisions decided; readable = then_pairs (without_pairs goes) (pairs_among layer.items feature.fields) decisions decided }

-- the tags of a feature make pairs by the sizes of its layer if they make pairs in it
pub pairs_by_sizes : (layer : Layer) (feature : Feature) (key_count value_count : ℕ) → key_count ≡ length (keys layer) → value_count ≡ length (values layer) → is_some (plain_pairs (tag_pairs key_count value_count (numbers 2 feature.fields))) ≡ is_some (pairs_among layer.items feature.fields)
pairs_by_sizes layer feature key_count value_count is_keys is_values =
    ap (λ n. is_some (plain_pairs (tag_pairs n value_count (numbers 2 feature.fields)))) is_keys
    ∙ ap (λ n. is_some (plain_pairs (tag_pairs (length (keys layer)) n (numbers 2 feature.fields)))) is_values
    ∙ ap (λ found. is_some found) (tags_are_pairs layer feature)

-- if something is made of them by these sizes, they make pairs
pub decided_readable : {A : Type 0} (f : List (ℕ × ℕ) → A) (layer : Layer) (feature : Feature) (key_count value_count : ℕ) (made : A) → key_count ≡ length (keys layer) → value_count ≡ length (values layer) → option_map f (plain_pairs (tag_pairs key_count value_count (numbers 2 feature.fields))) ≡ Some made → is_some (pairs_among layer.items feature.fields) ≡ true
decided_readable f layer feature key_count value_count made is_keys is_values is =
    sym (pairs_by_sizes layer feature key_count value_count is_keys is_values) ∙ then_pairs f (plain_pairs (tag_pairs key_count value_count (numbers 2 feature.fields))) made is

-- a key is among the items if it is among the keys
any_key : (key : List ℕ) (content : Option (List ℕ)) (rest : List (List ℕ)) → list_any (λ same. same) (map (bytes_eq key) (cons_option content rest)) ≡ (option_map_or (bytes_eq key) content false || list_any (λ same. same) (map (bytes_eq key) rest))
any_key key None rest = refl
any_key key (Some bytes) rest = refl

pub has_named : (key : List ℕ) (items : List LayerItem) → list_any (λ same. same) (map (bytes_eq key) (contents key_field (plain_fields items))) ≡ list_any (is_key key) items
has_named key [] = refl
has_named key (OfFeature feature ∷ items) = has_named key items
has_named key (PlainInLayer field ∷ items) =
    any_key key (content_in key_field field) (contents key_field (plain_fields items)) ∙ ap (λ more. option_map_or (bytes_eq key) (content_in key_field field) false || more) (has_named key items)
