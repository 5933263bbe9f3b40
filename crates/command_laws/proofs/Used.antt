-- Which keys and values the features of a layer use, before and after unused ones go.
use Rattle.std.proofs.Common.{◌≡◌, ℕ, zero, suc, ◌+◌, ◌==◌, ◌<◌, Bool, true, ◌||◌, is_some, Some, List, [], ◌∷◌, ◌++◌, length, map, slice_get, refl, sym, ap, ◌∙◌, inl, inr, subst, arith}
use Rattle.std.proofs.lemmas.Bool.{cases_Bool, eq-eqb, eqb-true, or_left, or_right}
use Rattle.std.proofs.lemmas.List.{map-append}
use Rattle.std.proofs.lemmas.List.Folds.{list_any-append}
use Rattle.std.specs.List.{AllByRecursion, flat_map, list_any}
use Rattle.std.specs.Option.{unwrap_or}
use Rattle.mvt_document.specs.Plain.{Feature, LayerItem, Layer}
use Rattle.mvt_document.proofs.EachItem.{all_by}
use Rattle.mvt_messages.specs.Views.{contents, features_in, key_field, plain_fields, value_field}
use Rattle.mvt_meaning.specs.Compaction.{all_pairs, is_key_used, is_value_used, new_ordinal}
use Rattle.mvt_meaning.specs.Tagging.{pairs_among}
use Rattle.command_laws.proofs.Parts.{with_fields}
use Rattle.command_laws.proofs.Staying.{kept, named}
use Rattle.command_laws.proofs.Twice.{AreRead}
use Rattle.command_laws.specs.CompactionLaws.{is_used, key_of, value_of}
use Rattle.command_laws.proofs.Repointed.{AllStay, Stay, features_new, keys_new, new_fields, new_items, pairs_new, repoint, values_new}

-- ---- pairs that name an ordinal

-- a pair of the list names this ordinal
abbrev pub names : (ℕ × ℕ → ℕ) → List (ℕ × ℕ) → ℕ → Bool
names part pairs n = list_any (λ (pair : ℕ × ℕ). part pair == n) pairs

module _ (part : ℕ × ℕ → ℕ) where
  names_own : (pairs : List (ℕ × ℕ)) → AllByRecursion (λ (pair : ℕ × ℕ). names part pairs (part pair) ≡ true) pairs
  names_own [] = tt
  names_own (first ∷ pairs) = (
    or_left (part first == part first) (names part pairs (part first)) (eq-eqb (part first) (part first) refl),
    all_by (λ (pair : ℕ × ℕ). names part pairs (part pair) ≡ true) (λ (pair : ℕ × ℕ). names part (first ∷ pairs) (part pair) ≡ true)
        (λ pair is. or_right (part first == part pair) (names part pairs (part pair)) is) pairs (names_own pairs),
  )

  -- what one of several lists names, all of them together name
  names_joined : {B : Type 0} (f : B → List (ℕ × ℕ)) (list : List B) (index : ℕ) (y : B) (n : ℕ) → slice_get list index ≡ Some y → names part (f y) n ≡ true → names part (flat_map f list) n ≡ true
  names_joined f [] index y n is here = absurd cc
  names_joined f (x ∷ list) zero y n is here =
      let same : x ≡ y = cc in
      list_any-append (λ (pair : ℕ × ℕ). part pair == n) (f x) (flat_map f list)
      ∙ or_left (names part (f x) n) (names part (flat_map f list) n) (ap (λ z. names part (f z) n) same ∙ here)
  names_joined f (x ∷ list) (suc index) y n is here =
      list_any-append (λ (pair : ℕ × ℕ). part pair == n) (f x) (flat_map f list)
      ∙ or_right (names part (f x) n) (names part (flat_map f list) n) (names_joined f list index y n is here)

  -- pairs that become others name what their ordinals become
  names_become : (to : ℕ → ℕ) (f : ℕ × ℕ → ℕ × ℕ) → ((pair : ℕ × ℕ) → part (f pair) ≡ to (part pair)) → (pairs : List (ℕ × ℕ)) (n : ℕ) → names part pairs n ≡ true → names part (map f pairs) (to n) ≡ true
  names_become to f same [] n is = absurd cc
  names_become to f same (pair ∷ pairs) n is =
      elim (cases_Bool (part pair == n)) [
        | inl here ↦ or_left (part (f pair) == to n) (names part (map f pairs) (to n)) (eq-eqb (part (f pair)) (to n) (same pair ∙ ap to (eqb-true (part pair) n here)))
        | inr apart ↦ (let more : names part pairs n ≡ true = rw apart at is in or_right (part (f pair) == to n) (names part (map f pairs) (to n)) (names_become to f same pairs n more))
      ]

  pub names_same : (f : ℕ × ℕ → ℕ × ℕ) → ((pair : ℕ × ℕ) → part (f pair) ≡ part pair) → (pairs : List (ℕ × ℕ)) (n : ℕ) → names part (map f pairs) n ≡ names part pairs n
  names_same f same [] n = refl
  names_same f same (pair ∷ pairs) n = ap (λ (m : ℕ). (m == n) || names part (map f pairs) n) (same pair) ∙ ap (λ rest. (part pair == n) || rest) (names_same f same pairs n)

-- ---- what the features of a layer use

-- the pairs of a feature
abbrev pub pairs_by : List LayerItem → Feature → List (ℕ × ℕ)
pairs_by items feature = unwrap_or (pairs_among items feature.fields) []

-- what a layer uses stays, of the pairs of each of its features
pub used_stay : (part : ℕ × ℕ → ℕ) (items : List LayerItem) (index : ℕ) (feature : Feature) (pairs : List (ℕ × ℕ)) → slice_get (features_in items) index ≡ Some feature → pairs_among items feature.fields ≡ Some pairs → AllStay part (names part (all_pairs items)) pairs
used_stay part items index feature pairs there is =
    all_by (λ (pair : ℕ × ℕ). names part pairs (part pair) ≡ true) (λ (pair : ℕ × ℕ). names part (all_pairs items) (part pair) ≡ true)
    (λ pair own. names_joined part (pairs_by items) (features_in items) index feature (part pair) there (ap (λ found. names part (unwrap_or found []) (part pair)) is ∙ own))
    pairs (names_own part pairs)

pub any_stay : (part : ℕ × ℕ → ℕ) (pairs : List (ℕ × ℕ)) → AllStay part (λ n. true) pairs
any_stay part [] = tt
any_stay part (pair ∷ pairs) = (refl, any_stay part pairs)

-- the test of the law is that of the meaning
joined_same : {B : Type 0} (part : ℕ × ℕ → ℕ) (f : B → List (ℕ × ℕ)) (list : List B) (n : ℕ) → names part (flat_map f list) n ≡ list_any (λ x. names part (f x) n) list
joined_same part f [] n = refl
joined_same part f (x ∷ list) n =
    list_any-append (λ (pair : ℕ × ℕ). part pair == n) (f x) (flat_map f list) ∙ ap (λ rest. names part (f x) n || rest) (joined_same part f list n)

pub used_same : (part : ℕ × ℕ → ℕ) (layer : Layer) → names part (all_pairs layer.items) ≡ is_used part layer
used_same part layer = λ i n. joined_same part (pairs_by layer.items) (features_in layer.items) n i

-- ---- features that are read, whose pairs all stay

module _ (keys_stay values_stay : ℕ → Bool) (all : List LayerItem) where
  -- the tags of the feature make pairs, and what they name stays
  pub record IsReadStaying (feature : Feature) : Type 0 where
    pub pairs : List (ℕ × ℕ)
    pub is : pairs_among all feature.fields ≡ Some pairs
    pub stay : Stay keys_stay values_stay pairs

  pairs_each : (list : List Feature) → AllByRecursion IsReadStaying list → flat_map (pairs_by (new_items keys_stay values_stay all)) (map (with_fields (new_fields keys_stay values_stay all)) list) ≡ map (repoint keys_stay values_stay) (flat_map (pairs_by all) list)
  pairs_each [] read = refl
  pairs_each (feature ∷ list) read =
      let new = new_items keys_stay values_stay all in
      let to = repoint keys_stay values_stay in
      let rest = flat_map (pairs_by new) (map (with_fields (new_fields keys_stay values_stay all)) list) in
      let first : pairs_by new (with_fields (new_fields keys_stay values_stay all) feature) ≡ map to (pairs_by all feature) =
      ap (λ found. unwrap_or found []) (pairs_new keys_stay values_stay all feature.fields read.0.pairs read.0.is read.0.stay)
      ∙ ap (λ found. map to (unwrap_or found [])) (sym read.0.is) in
      ap (λ pairs. pairs ++ rest) first
      ∙ ap (λ more. map to (pairs_by all feature) ++ more) (pairs_each list read.1)
      ∙ sym (map-append to (pairs_by all feature) (flat_map (pairs_by all) list))

  -- all pairs, with the new ordinals
  pub all_pairs_new : AllByRecursion IsReadStaying (features_in all) → all_pairs (new_items keys_stay values_stay all) ≡ map (repoint keys_stay values_stay) (all_pairs all)
  all_pairs_new read = ap (flat_map (pairs_by (new_items keys_stay values_stay all))) (features_new keys_stay values_stay all) ∙ pairs_each (features_in all) read

  still_read : (list : List Feature) → AllByRecursion IsReadStaying list → AreRead (new_items keys_stay values_stay all) (map (with_fields (new_fields keys_stay values_stay all)) list)
  still_read [] read = tt
  still_read (feature ∷ list) read = (ap is_some (pairs_new keys_stay values_stay all feature.fields read.0.pairs read.0.is read.0.stay), still_read list read.1)

  -- each feature is then read
  pub read_new : AllByRecursion IsReadStaying (features_in all) → AreRead (new_items keys_stay values_stay all) (features_in (new_items keys_stay values_stay all))
  read_new read = subst (AreRead (new_items keys_stay values_stay all)) (sym (features_new keys_stay values_stay all)) (still_read (features_in all) read)

  -- where the keys that are used stay, each key is then used
  pub keys_all_used : AllByRecursion IsReadStaying (features_in all) → keys_stay ≡ is_key_used all → (n : ℕ) → n < length (contents key_field (plain_fields (new_items keys_stay values_stay all))) → is_key_used (new_items keys_stay values_stay all) n ≡ true
  keys_all_used read are n below =
      let shorter : n < length (kept keys_stay 0 (contents key_field (plain_fields all))) = subst (λ (list : List (List ℕ)). n < length list) (keys_new keys_stay values_stay all) below in
      let found = named keys_stay 0 (contents key_field (plain_fields all)) n shorter in
      let e : 0 + found.0 ≡ found.0 = omega arith in
      let old : is_key_used all found.0 ≡ true = ap (λ (stays : ℕ → Bool). stays found.0) (sym are) ∙ subst (λ m. keys_stay m ≡ true) e found.2 in
      let new : new_ordinal keys_stay found.0 ≡ n = omega (arith, found.3, ap (new_ordinal keys_stay) e) in
      ap (λ pairs. names key_of pairs n) (all_pairs_new read)
      ∙ subst (λ m. names key_of (map (repoint keys_stay values_stay) (all_pairs all)) m ≡ true) new
      (names_become key_of (new_ordinal keys_stay) (repoint keys_stay values_stay) (λ pair. refl) (all_pairs all) found.0 old)

  -- where the values that are used stay, each value is then used
  pub values_all_used : AllByRecursion IsReadStaying (features_in all) → values_stay ≡ is_value_used all → (n : ℕ) → n < length (contents value_field (plain_fields (new_items keys_stay values_stay all))) → is_value_used (new_items keys_stay values_stay all) n ≡ true
  values_all_used read are n below =
      let shorter : n < length (kept values_stay 0 (contents value_field (plain_fields all))) = subst (λ (list : List (List ℕ)). n < length list) (values_new keys_stay values_stay all) below in
      let found = named values_stay 0 (contents value_field (plain_fields all)) n shorter in
      let e : 0 + found.0 ≡ found.0 = omega arith in
      let old : is_value_used all found.0 ≡ true = ap (λ (stays : ℕ → Bool). stays found.0) (sym are) ∙ subst (λ m. values_stay m ≡ true) e found.2 in
      let new : new_ordinal values_stay found.0 ≡ n = omega (arith, found.3, ap (new_ordinal values_stay) e) in
      ap (λ pairs. names value_of pairs n) (all_pairs_new read)
      ∙ subst (λ m. names value_of (map (repoint keys_stay values_stay) (all_pairs all)) m ≡ true) new
      (names_become value_of (new_ordinal values_stay) (repoint keys_stay values_stay) (λ pair. refl) (all_pairs all) found.0 old)
