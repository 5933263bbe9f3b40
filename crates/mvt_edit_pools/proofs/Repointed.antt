-- What is decided on the tags of a feature by new ordinals: it is what the meaning decides; if no pair changes there is
-- no step. And the decisions on pairs, one pair after the other.
use Rattle.std.proofs.Common.{◌≡◌, ℕ, zero, suc, ◌+◌, ◌<◌, ◌≤◌, ◌^◌, Bool, true, false, ◌&&◌, cond, Option, Some, None, List, [], ◌∷◌, ◌++◌, length, append_assoc, append-nil, drop, get_or, map, option_map, slice_get, refl, sym, ap, ◌∙◌, inl, inr, arith}
use Rattle.std.specs.Prelude.{nat_lt}
use Rattle.std.proofs.lemmas.Bool.{and_parts, cases_Bool, eqb-true, ltb-true}
use Rattle.std.proofs.lemmas.List.{drop_all, drop_more}
use Rattle.std.proofs.lemmas.Simd.{map-map}
use Rattle.std.specs.List.{flat_map, list_all}
use Rattle.std.specs.Option.{option_map_or, unwrap_or}
use Rattle.mvt_document.specs.Plain.{Number, Field, Feature, Layer, LayerItem}
use Rattle.mvt_renumber.specs.Laws.{NoneIsNew}
use Rattle.mvt_messages.specs.Numbers.{Placed, numbers}
use Rattle.mvt_renumber.specs.Renumbering.{field_numbers}
use Rattle.mvt_renumber.proofs.Reread.{read_of_fields}
use Rattle.mvt_messages.specs.Attributes.{is_ordinal, is_pair}
use Rattle.mvt_messages.specs.Found.{found_features}
use Rattle.mvt_messages.specs.Views.{contents, key_field, keys, plain_fields, value_field, values}
use Rattle.mvt_meaning.specs.Compaction.{new_ordinal, new_ordinals, repointed}
use Rattle.mvt_meaning.specs.Tagging.{pairs_among}
use Rattle.mvt_meaning.proofs.Removals.{flat, head_same, make_pairs}
use Rattle.mvt_edit_steps.specs.Decided.{counted_by, decided_by, field_fates, is_any_gone}
use Rattle.mvt_edit_steps.specs.EachFeature.{feature_steps, layer_steps}
use Rattle.mvt_edit_steps.specs.Fates.{splices_from}
use Rattle.mvt_layers.specs.Seen.{pair_seen}
use Rattle.mvt_layers.specs.declared.attributes.Pair.{Pair}
use Rattle.mvt_edit_steps.proofs.Carrying.{in_feature_at}
use Rattle.mvt_edit_steps.proofs.Deciding.{counted_first}
use Rattle.mvt_edit_steps.proofs.StepsPassed.{no_splices}
use Rattle.mvt_edit_pools.specs.Marks.{keeps_ordinal, ordinals_by, ordinals_in, pair_repointed, pairs_at, pairs_repointed, stays_from}
use Rattle.mvt_edit_pools.specs.Pools.{ordinal_fates}
use Rattle.mvt_edit_pools.proofs.Numbering.{got_numbered}

-- ---- the new ordinals are those of the meaning

module _ (keys_stay values_stay : ℕ → Bool) (items : List LayerItem) where
  abbrev key_count : ℕ
  key_count = length (contents key_field (plain_fields items))

  abbrev value_count : ℕ
  value_count = length (contents value_field (plain_fields items))

  abbrev key_ordinals : List ℕ
  key_ordinals = ordinals_by (stays_from keys_stay 0 key_count)

  abbrev value_ordinals : List ℕ
  value_ordinals = ordinals_by (stays_from values_stay 0 value_count)

  pairs_as_selected : (pairs : List (ℕ × ℕ)) → list_all (is_pair key_count value_count) pairs ≡ true → decided_by (pair_repointed key_ordinals value_ordinals) pairs ≡ repointed keys_stay values_stay pairs
  pairs_as_selected [] is = refl
  pairs_as_selected (pair ∷ pairs) is =
      let parts = and_parts (is_pair key_count value_count pair) (list_all (is_pair key_count value_count) pairs) is in
      let both = and_parts (is_ordinal key_count pair.0) (is_ordinal value_count pair.1) parts.0 in
      let key = and_parts (nat_lt pair.0 key_count) (nat_lt pair.0 (2 ^ 32)) both.0 in
      let value = and_parts (nat_lt pair.1 value_count) (nat_lt pair.1 (2 ^ 32)) both.1 in
      let rest = decided_by (pair_repointed key_ordinals value_ordinals) pairs in
      ap (λ (n : Option ℕ). n ∷ slice_get value_ordinals pair.1 ∷ rest) (got_numbered keys_stay key_count pair.0 (ltb-true pair.0 key_count key.0) (ltb-true pair.0 (2 ^ 32) key.1))
      ∙ ap (λ (n : Option ℕ). Some (new_ordinal keys_stay pair.0) ∷ n ∷ rest) (got_numbered values_stay value_count pair.1 (ltb-true pair.1 value_count value.0) (ltb-true pair.1 (2 ^ 32) value.1))
      ∙ ap (λ (more : List (Option ℕ)). Some (new_ordinal keys_stay pair.0) ∷ Some (new_ordinal values_stay pair.1) ∷ more) (pairs_as_selected pairs parts.1)

  found_as_selected : (fields : List Field) (found : Option (List (ℕ × ℕ))) → pairs_among items fields ≡ found → option_map_or (decided_by (pair_repointed key_ordinals value_ordinals)) found [] ≡ option_map_or (repointed keys_stay values_stay) found []
  found_as_selected fields None is = refl
  found_as_selected fields (Some pairs) is = pairs_as_selected pairs (make_pairs key_count value_count (numbers 2 fields) pairs is).each

  pub ordinals_as_selected : (fields : List Field) → ordinals_in key_ordinals value_ordinals items fields ≡ new_ordinals keys_stay values_stay items fields
  ordinals_as_selected fields = found_as_selected fields (pairs_among items fields) refl

  steps_each : (layer : ℕ) (found : List (ℕ × (ℕ × Feature))) → flat_map (feature_steps (pairs_repointed key_ordinals value_ordinals items) layer) found ≡ flat_map (feature_steps (λ fields. field_fates 2 (new_ordinals keys_stay values_stay items fields) fields) layer) found
  steps_each layer [] = refl
  steps_each layer (at ∷ found) =
      ap (λ decisions. feature_steps (λ fields. field_fates 2 decisions fields) layer at ++ flat_map (feature_steps (pairs_repointed key_ordinals value_ordinals items) layer) found) (ordinals_as_selected at.1.1.fields)
      ∙ ap (λ rest. feature_steps (λ fields. field_fates 2 (new_ordinals keys_stay values_stay items fields) fields) layer at ++ rest) (steps_each layer found)

-- the steps of the features of a layer
pub features_as_selected : (keys_stay values_stay : List LayerItem → ℕ → Bool) (at : ℕ × (ℕ × Layer)) (key_ordinals value_ordinals : List ℕ) → key_ordinals ≡ ordinals_by (stays_from (keys_stay at.1.1.items) 0 (length (keys at.1.1))) → value_ordinals ≡ ordinals_by (stays_from (values_stay at.1.1.items) 0 (length (values at.1.1)))
    → layer_steps (pairs_repointed key_ordinals value_ordinals) at ≡ layer_steps (ordinal_fates keys_stay values_stay) at
features_as_selected keys_stay values_stay at key_ordinals value_ordinals are_keys are_values =
    let layer = at.1.1 in
    ap (λ ordinals. layer_steps (pairs_repointed ordinals value_ordinals) at) are_keys
    ∙ ap (λ ordinals. layer_steps (pairs_repointed (ordinals_by (stays_from (keys_stay layer.items) 0 (length (keys layer)))) ordinals) at) are_values
    ∙ steps_each (keys_stay layer.items) (values_stay layer.items) layer.items at.1.0 (found_features layer.items)

-- ---- a feature none of whose pairs changes

keeps : (ordinal : ℕ) (new : Option ℕ) → keeps_ordinal ordinal new ≡ true → new ≡ Some ordinal
keeps ordinal None is = absurd cc
keeps ordinal (Some n) is = ap Some (eqb-true n ordinal is)

abbrev kept : List (ℕ × ℕ) → List (Option ℕ)
kept pairs = map (λ (n : ℕ). Some n) (flat pairs)

none_gone : (values : List ℕ) → is_any_gone (map (λ (n : ℕ). Some n) values) ≡ false
none_gone [] = refl
none_gone (n ∷ values) = none_gone values

none_new : (values : List ℕ) (list : List Number) → map (λ (n : Number). n.value) list ≡ values → NoneIsNew (map (λ (n : ℕ). Some n) values) list
none_new [] list is = tt
none_new (n ∷ values) [] is = tt
none_new (n ∷ values) (number ∷ list) is =
    let first = head_same number.value n (map (λ (n : Number). n.value) list) values is in
    (sym first.0, none_new values list first.1)

module _ (key_ordinals value_ordinals : List ℕ) where
  abbrev said : ℕ × ℕ → Option ℕ × Option ℕ × Bool
  said pair = pair_repointed key_ordinals value_ordinals pair

  pairs_keep : (pairs : List (ℕ × ℕ)) → counted_by said pairs ≡ 0 → decided_by said pairs ≡ kept pairs
  pairs_keep [] none = refl
  pairs_keep (pair ∷ pairs) none =
      let key = slice_get key_ordinals pair.0 in
      let value = slice_get value_ordinals pair.1 in
      elim (cases_Bool (keeps_ordinal pair.0 key && keeps_ordinal pair.1 value)) [
        | inl same ↦ (
            let both = and_parts (keeps_ordinal pair.0 key) (keeps_ordinal pair.1 value) same in
            let rest : counted_by said pairs ≡ 0 = rw same at none in
            ap (λ (n : Option ℕ). n ∷ value ∷ decided_by said pairs) (keeps pair.0 key both.0)
            ∙ ap (λ (n : Option ℕ). Some pair.0 ∷ n ∷ decided_by said pairs) (keeps pair.1 value both.1)
            ∙ ap (λ (more : List (Option ℕ)). Some pair.0 ∷ Some pair.1 ∷ more) (pairs_keep pairs rest)
            )
        | inr other ↦ absurd (let some = rw other at none in omega (arith, some))
      ]

  decided_found : (found : Option (List (ℕ × ℕ))) → decided_by said (unwrap_or found []) ≡ option_map_or (decided_by said) found []
  decided_found None = refl
  decided_found (Some pairs) = refl

  -- what is decided on the pairs of a feature is what the definition decides
  pub as_ordinals : (items : List LayerItem) (at : ℕ × (ℕ × Feature)) (own : List (ℕ × ℕ)) → own ≡ pairs_at items at → decided_by said own ≡ ordinals_in key_ordinals value_ordinals items at.1.1.fields
  as_ordinals items at own is = ap (decided_by said) is ∙ decided_found (pairs_among items at.1.1.fields)

  none_found : (items : List LayerItem) (layer : ℕ) (at : ℕ × (ℕ × Feature)) (found : Option (List (ℕ × ℕ))) → pairs_among items at.1.1.fields ≡ found → counted_by said (unwrap_or found []) ≡ 0 → feature_steps (pairs_repointed key_ordinals value_ordinals items) layer at ≡ []
  none_found items layer at None is none =
      let fields = at.1.1.fields in
      let same : ordinals_in key_ordinals value_ordinals items fields ≡ [] = ap (λ found. option_map_or (decided_by said) found []) is in
      ap (λ ordinals. map (in_feature_at layer at.1.0) (splices_from 0 (field_fates 2 ordinals fields))) same
      ∙ ap (map (in_feature_at layer at.1.0)) (no_splices 2 [] fields refl tt 0)
  none_found items layer at (Some pairs) is none =
      let fields = at.1.1.fields in
      let all = kept pairs in
      let same : ordinals_in key_ordinals value_ordinals items fields ≡ all = ap (λ found. option_map_or (decided_by said) found []) is ∙ pairs_keep pairs none in
      let made = make_pairs (length (contents key_field (plain_fields items))) (length (contents value_field (plain_fields items))) (numbers 2 fields) pairs is in
      let list = map (λ (p : Placed). p.number) made.placed in
      let read : flat_map (field_numbers 2) fields ≡ list = read_of_fields 2 fields list (ap (option_map (map (λ (p : Placed). p.number))) made.good) in
      let values_are : map (λ (n : Number). n.value) (flat_map (field_numbers 2) fields) ≡ flat pairs = ap (map (λ (n : Number). n.value)) read ∙ map-map (λ (n : Number). n.value) (λ (p : Placed). p.number) made.placed ∙ made.values in
      ap (λ ordinals. map (in_feature_at layer at.1.0) (splices_from 0 (field_fates 2 ordinals fields))) same
      ∙ ap (map (in_feature_at layer at.1.0)) (no_splices 2 all fields (none_gone (flat pairs)) (none_new (flat pairs) (flat_map (field_numbers 2) fields) values_are) 0)

  -- if no pair changes, the feature has no step
  pub no_steps : (items : List LayerItem) (layer : ℕ) (at : ℕ × (ℕ × Feature)) (own : List (ℕ × ℕ)) → own ≡ pairs_at items at → counted_by said own ≡ 0 → feature_steps (pairs_repointed key_ordinals value_ordinals items) layer at ≡ []
  no_steps items layer at own is none = none_found items layer at (pairs_among items at.1.1.fields) refl (ap (counted_by said) (sym is) ∙ none)

-- the steps of a feature by how many of its pairs change
pub steps_either : {A : Type 0} (changed : ℕ) (front mid steps : List A) → (changed ≡ 0 → mid ≡ front) → (0 < changed → mid ≡ front ++ steps) → (changed ≡ 0 → steps ≡ []) → mid ≡ front ++ steps
steps_either zero front mid steps same more none = same refl ∙ sym (append-nil front) ∙ ap (λ list. front ++ list) (sym (none refl))
steps_either (suc n) front mid steps same more none = more (omega arith)

-- ---- one pair after the other

module _ (said : ℕ × ℕ → Option ℕ × Option ℕ × Bool) (pairs : List Pair) (index : ℕ) where
  module _ (d : Pair) (inside : index < length pairs) where
    abbrev next : ℕ × ℕ
    next = pair_seen (get_or pairs index d)

    pub decided_further : (before after all : List (Option ℕ)) → before ++ decided_by said (map pair_seen (drop index pairs)) ≡ all
        → after ≡ before ++ decided_by said (next ∷ []) → after ++ decided_by said (map pair_seen (drop (index + 1) pairs)) ≡ all
    decided_further before after all so_far more =
        let rest = map pair_seen (drop (index + 1) pairs) in
        ap (λ list. list ++ decided_by said rest) more
        ∙ append_assoc before (decided_by said (next ∷ [])) (decided_by said rest)
        ∙ ap (λ list. before ++ decided_by said (map pair_seen list)) (sym (drop_more pairs index d inside))
        ∙ so_far

    pub counted_further : (changed more all : ℕ) → changed + counted_by said (map pair_seen (drop index pairs)) ≡ all
        → more ≡ cond (said next).2 1 0 → changed + more + counted_by said (map pair_seen (drop (index + 1) pairs)) ≡ all
    counted_further changed more all so_far counts =
        let rest = map pair_seen (drop (index + 1) pairs) in
        let first = ap (λ list. counted_by said (map pair_seen list)) (drop_more pairs index d inside) ∙ counted_first (λ (pair : ℕ × ℕ). (said pair).2) next rest in
        omega (arith, so_far, first, counts)

  -- none is left
  pub decided_all : (decisions all : List (Option ℕ)) → length pairs ≤ index → decisions ++ decided_by said (map pair_seen (drop index pairs)) ≡ all → decisions ≡ all
  decided_all decisions all past so_far =
      sym (append-nil decisions) ∙ ap (λ list. decisions ++ decided_by said (map pair_seen list)) (sym (drop_all index pairs past)) ∙ so_far

  pub counted_all : (changed all : ℕ) → length pairs ≤ index → changed + counted_by said (map pair_seen (drop index pairs)) ≡ all → changed ≡ all
  counted_all changed all past so_far =
      let none = ap (λ list. counted_by said (map pair_seen list)) (drop_all index pairs past) in
      omega (arith, so_far, none)
