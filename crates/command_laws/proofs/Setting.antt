-- A feature that gets a value for a key: its attributes, and what stays of its layer.
use Rattle.std.proofs.Common.{◌≡◌, ℕ, zero, suc, ◌+◌, ◌<◌, ◌≤◌, ◌^◌, Bool, true, false, not, cond, ◌==◌, is_some, Option, Some, option_map, Ok, List, [], ◌∷◌, ◌++◌, length, length-append, append-nil, get_or, map, slice_get, refl, sym, ap, ◌∙◌, inl, inr, subst, arith}
use Rattle.std.specs.Prelude.{nat_lt}
use Rattle.std.proofs.lemmas.Bool.{and_from, and_parts, cases_Bool, cond-false, cond-true, lt-ltb, ltb-false, ne_eqb, not-false}
use Rattle.std.proofs.lemmas.List.{get_or_push, map-append}
use Rattle.std.proofs.lemmas.List.Concat.{flat_map-append}
use Rattle.std.proofs.lemmas.List.Elements.{filter_map-append}
use Rattle.std.proofs.lemmas.List.Folds.{list_all-append}
use Rattle.std.proofs.lemmas.Slice.Eq.{bytes_eq-Decides}
use Rattle.std.specs.List.{AllByRecursion, flat_map, list_all, list_any}
use Rattle.std.specs.Option.{option_map_or}
use Rattle.std.specs.Str.{bytes_eq}
use Rattle.mvt_document.specs.declared.TheConstants.{MAX_FILE}
use Rattle.mvt_document.specs.Groups.{IsNumber}
use Rattle.mvt_document.specs.Places.{in_feature}
use Rattle.mvt_document.specs.Plain.{Number, Field, Feature, LayerItem, PlainInLayer, Layer, OfLayer, PlainInTile, Document}
use Rattle.mvt_document.specs.Wire.{bytes_of, layer_item_bytes, minimal, shortest, spelling, tile_item_bytes}
use Rattle.mvt_document.proofs.Sizes.{length-message}
use Rattle.mvt_document.proofs.Spelling.{minimal_spelling}
use Rattle.mvt_document.proofs.Options.{some_is}
use Rattle.mvt_value.specs.Messages.{encoded_value}
use Rattle.mvt_meaning.specs.Command.{FeatureChoice}
use Rattle.mvt_renumber.specs.Laws.{AreShort}
use Rattle.mvt_renumber.specs.Renumbering.{renumber, renumbered, with_number}
use Rattle.mvt_renumber.proofs.Redone.{left_is_read}
use Rattle.mvt_messages.specs.Attributes.{attribute_at, attributes, is_ordinal, is_pair, pairs_of}
use Rattle.mvt_layers.specs.Laws.{Names}
use Rattle.mvt_messages.specs.Views.{content_in, contents, features, features_in, key_field, keys, layer_in, layers, plain_fields, plain_in, value_field, values}
use Rattle.mvt_layers.proofs.Pairing.{pairs_are_named}
use Rattle.mvt_meaning.specs.Fields.{new_content}
use Rattle.mvt_meaning.specs.Ordinals.{change_nth, count}
use Rattle.mvt_meaning.specs.Selection.{is_feature, selected, selected_feature, selected_in}
use Rattle.mvt_meaning.specs.Tagging.{attributed, entry_ordinal, is_key_at, key_ordinal, missing_entries, new_pair, pairs_with, replacements, revalued, value_ordinal, with_attribute, with_more_tags, without_tags}
use Rattle.mvt_meaning.specs.Meaning.{◌>>=◌, change_layer, fields_of, has_pairs, refuse_if, repeats_key, within_limit}
use Rattle.mvt_meaning.specs.Weights.{weigh}
use Rattle.mvt_meaning.specs.declared.refusal.Refusal.TheVariants.{BadTags, RepeatedKey}
use Rattle.mvt_meaning.proofs.Given.{number_given}
use Rattle.mvt_meaning.proofs.Positions.{later_any, no_positions, positions_from, positions_pass, positions_skip}
use Rattle.mvt_meaning.proofs.Removals.{flat, head_same}
use Rattle.mvt_meaning.proofs.Replacements.{replacements_short}
use Rattle.mvt_meaning.proofs.Selecting.{selected_within}
use Rattle.command_laws.proofs.Accepted.{accepted, feature_selects, not_refused, within_is}
use Rattle.command_laws.proofs.Around.{around}
use Rattle.command_laws.proofs.EntryOrdinals.{entry_low, plain_stay, value_short}
use Rattle.command_laws.proofs.OtherFields.{others_stay}
use Rattle.command_laws.proofs.Parts.{changes_feature, changes_layer, fields_found, items_there, layer_differs, with_fields, with_items}
use Rattle.command_laws.proofs.ReadValues.{value_list}
use Rattle.command_laws.specs.AttributeLaws.{GetsAttribute, SetSets, SetsAttribute, is_entry, is_of, valued, with_entry, with_value}
use Rattle.command_laws.proofs.Excluded.{read_there}
use Rattle.command_laws.proofs.Grown.{all_stay, attribute_stays, attributes_stay, key_stays, keys_grow, pairs_grow, values_grow}
use Rattle.command_laws.proofs.MoreTags.{more_apart, more_is_read}
use Rattle.command_laws.proofs.PairsRead.{pairs_again, pairs_read}
use Rattle.command_laws.proofs.ChangedLayers.{some_same}

-- ---- the entry of some bytes

got_here : (xs : List (List ℕ)) (n : ℕ) (x : List ℕ) → slice_get xs n ≡ Some x → (get_or xs n [] ≡ x) × (n < length xs)
got_here [] n x is = absurd cc
got_here (y ∷ xs) zero x is = let same : y ≡ x = cc in (same, omega arith)
got_here (y ∷ xs) (suc n) x is = let more = got_here xs n x is in (more.0, omega (arith, more.1))

-- the first entry that is these bytes, where one is
first_found : (bytes : List ℕ) (n default : ℕ) (entries : List (List ℕ)) → list_any (bytes_eq bytes) entries ≡ true → (place : ℕ) × (get_or (positions_from (bytes_eq bytes) n entries) 0 default ≡ n + place) × (slice_get entries place ≡ Some bytes)
first_found bytes n default [] e = absurd cc
first_found bytes n default (x ∷ xs) e =
    elim (cases_Bool (bytes_eq bytes x)) [
      | inl same ↦ (
          let here : n ≡ n + 0 = omega arith in
          (0, ap (λ list. get_or list 0 default) (positions_pass (bytes_eq bytes) n x xs same) ∙ here, ap Some (sym ((bytes_eq-Decides bytes x).0 same)))
          )
      | inr other ↦ (
          let more = first_found bytes (n + 1) default xs (later_any (bytes_eq bytes) x xs e other) in
          let next : n + 1 + more.0 ≡ n + suc more.0 = omega arith in
          (suc more.0, ap (λ list. get_or list 0 default) (positions_skip (bytes_eq bytes) n x xs other) ∙ more.1 ∙ next, more.2)
          )
    ]

-- the entry at the ordinal of some bytes is these bytes
entry_there : (bytes : List ℕ) (entries : List (List ℕ)) → (get_or (with_entry bytes entries) (entry_ordinal bytes entries) [] ≡ bytes) × (entry_ordinal bytes entries < length (with_entry bytes entries))
entry_there bytes entries =
    elim (cases_Bool (list_any (bytes_eq bytes) entries)) [
      | inl some ↦ (
          let first = first_found bytes 0 (length entries) entries some in
          let start : 0 + first.0 ≡ first.0 = omega arith in
          let place : entry_ordinal bytes entries ≡ first.0 = first.1 ∙ start in
          let got = got_here entries first.0 bytes first.2 in
          rw some (ap (λ n. get_or entries n []) place ∙ got.0, omega (arith, place, got.1))
          )
      | inr none ↦ (
          let place : entry_ordinal bytes entries ≡ length entries = ap (λ list. get_or list 0 (length entries)) (no_positions (bytes_eq bytes) 0 entries none) in
          rw none (ap (λ n. get_or (entries ++ bytes ∷ []) n []) place ∙ get_or_push entries bytes [] (length entries) refl, omega (arith, place, length-append entries (bytes ∷ [])))
          )
    ]

-- ---- what the layer lacks

joined : (bytes : List ℕ) (entries : List (List ℕ)) (there : Bool) → entries ++ cond there [] (bytes ∷ []) ≡ cond there entries (entries ++ bytes ∷ [])
joined bytes entries true = append-nil entries
joined bytes entries false = refl

module _ (key value : List ℕ) where
  -- the entries that are added, where the key and the value are there or not
  abbrev lacks : Bool → Bool → List LayerItem
  lacks has_key has_value = cond has_key [] (PlainInLayer (new_content 26 key) ∷ []) ++ cond has_value [] (PlainInLayer (new_content 34 value) ∷ [])

  lacks_keys : (has_key has_value : Bool) → contents key_field (plain_fields (lacks has_key has_value)) ≡ cond has_key [] (key ∷ [])
  lacks_keys true true = refl
  lacks_keys true false = refl
  lacks_keys false true = refl
  lacks_keys false false = refl

  lacks_values : (has_key has_value : Bool) → contents value_field (plain_fields (lacks has_key has_value)) ≡ cond has_value [] (value ∷ [])
  lacks_values true true = refl
  lacks_values true false = refl
  lacks_values false true = refl
  lacks_values false false = refl

  lacks_features : (has_key has_value : Bool) → features_in (lacks has_key has_value) ≡ []
  lacks_features true true = refl
  lacks_features true false = refl
  lacks_features false true = refl
  lacks_features false false = refl

  lacks_entries : (has_key has_value : Bool) → list_all is_entry (plain_fields (lacks has_key has_value)) ≡ true
  lacks_entries true true = refl
  lacks_entries true false = refl
  lacks_entries false true = refl
  lacks_entries false false = refl

  lacks_none : (has_key has_value : Bool) → list_any is_feature (lacks has_key has_value) ≡ false
  lacks_none true true = refl
  lacks_none true false = refl
  lacks_none false true = refl
  lacks_none false false = refl

positions_front : (n : ℕ) (xs ys : List LayerItem) → list_any is_feature ys ≡ false → positions_from is_feature n (xs ++ ys) ≡ positions_from is_feature n xs
positions_front n [] ys e = no_positions is_feature n ys e
positions_front n (x ∷ xs) ys e =
    elim (cases_Bool (is_feature x)) [
      | inl pass ↦ positions_pass is_feature n x (xs ++ ys) pass ∙ ap (λ rest. n ∷ rest) (positions_front (n + 1) xs ys e) ∙ sym (positions_pass is_feature n x xs pass)
      | inr skip ↦ positions_skip is_feature n x (xs ++ ys) skip ∙ positions_front (n + 1) xs ys e ∙ sym (positions_skip is_feature n x xs skip)
    ]

-- ---- pairs with another value

abbrev revalue : (ℕ → Bool) → ℕ → ℕ × ℕ → ℕ × ℕ
revalue selects value pair = (pair.0, cond (selects pair.0) value pair.1)

values_revalued : (selects : ℕ → Bool) (value : ℕ) (pairs : List (ℕ × ℕ)) (list : List Number) → value_list list ≡ flat pairs → value_list (renumbered (revalued selects value pairs) list) ≡ flat (map (revalue selects value) pairs)
values_revalued selects value [] list is = is
values_revalued selects value (pair ∷ pairs) [] is = absurd cc
values_revalued selects value (pair ∷ pairs) (first ∷ []) is = let tails = head_same first.value pair.0 [] (pair.1 ∷ flat pairs) is in absurd (let none = tails.1 in cc)
values_revalued selects value (pair ∷ pairs) (first ∷ next ∷ list) is =
    let one = head_same first.value pair.0 (next.value ∷ value_list list) (pair.1 ∷ flat pairs) is in
    let two = head_same next.value pair.1 (value_list list) (flat pairs) one.1 in
    let second = cond (selects pair.0) value pair.1 in
    ap (λ (n : ℕ). n ∷ (with_number second next).value ∷ value_list (renumbered (revalued selects value pairs) list)) (number_given pair.0 first)
    ∙ ap (λ (n : ℕ). pair.0 ∷ n ∷ value_list (renumbered (revalued selects value pairs) list)) (number_given second next)
    ∙ ap (λ (rest : List ℕ). pair.0 ∷ second ∷ rest) (values_revalued selects value pairs list two.1)

still_ordinal : (selects : Bool) (count value other : ℕ) → is_ordinal count value ≡ true → is_ordinal count other ≡ true → is_ordinal count (cond selects value other) ≡ true
still_ordinal true count value other first second = first
still_ordinal false count value other first second = second

revalued_pairs : (key_count value_count : ℕ) (selects : ℕ → Bool) (value : ℕ) → is_ordinal value_count value ≡ true → (pairs : List (ℕ × ℕ)) → list_all (is_pair key_count value_count) pairs ≡ true → list_all (is_pair key_count value_count) (map (revalue selects value) pairs) ≡ true
revalued_pairs key_count value_count selects value within [] is = refl
revalued_pairs key_count value_count selects value within (pair ∷ pairs) is =
    let parts = and_parts (is_pair key_count value_count pair) (list_all (is_pair key_count value_count) pairs) is in
    let both = and_parts (is_ordinal key_count pair.0) (is_ordinal value_count pair.1) parts.0 in
    let second = still_ordinal (selects pair.0) value_count value pair.1 within both.1 in
    and_from (is_pair key_count value_count (revalue selects value pair)) (list_all (is_pair key_count value_count) (map (revalue selects value) pairs))
    (and_from (is_ordinal key_count pair.0) (is_ordinal value_count (revalue selects value pair).1) both.0 second)
    (revalued_pairs key_count value_count selects value within pairs parts.1)

-- ---- how many attributes have the key

counted : (key : List ℕ) (layer : Layer) (pairs : List (ℕ × ℕ)) → AllByRecursion (Names layer) pairs → count (is_of key) (map (attribute_at layer) pairs) ≡ count (λ (pair : ℕ × ℕ). is_key_at layer.items key pair.0) pairs
counted key layer [] names = refl
counted key layer (pair ∷ pairs) names =
    let same : is_key_at layer.items key pair.0 ≡ is_of key (attribute_at layer pair) = ap (λ found. option_map_or (bytes_eq key) found false) names.0.key in
    let more = counted key layer pairs names.1 in
    elim (cases_Bool (is_key_at layer.items key pair.0)) [
      | inl pass ↦ let there : is_of key (attribute_at layer pair) ≡ true = sym same ∙ pass in rw (pass, there) (ap suc more)
      | inr skip ↦ let there : is_of key (attribute_at layer pair) ≡ false = sym same ∙ skip in rw (skip, there) more
    ]

any_counted : {A : Type 0} (passes : A → Bool) (xs : List A) → list_any passes xs ≡ not (count passes xs == 0)
any_counted passes [] = refl
any_counted passes (x ∷ xs) =
    elim (cases_Bool (passes x)) [
      | inl pass ↦ let some : (suc (count passes xs) == 0) ≡ false = ne_eqb (suc (count passes xs)) 0 (λ e. omega (arith, e)) in rw (pass, some) refl
      | inr skip ↦ rw skip (any_counted passes xs)
    ]

-- ---- a layer in which a feature gets a value for a key

module _ (key value : List ℕ) (index : ℕ) (layer : Layer) (within : weigh layer_item_bytes (attributed key value index layer.items) ≤ MAX_FILE) where
  abbrev set_layer : Layer
  set_layer = with_items (attributed key value index) layer

  abbrev missing : List LayerItem
  missing = missing_entries key value layer.items

  plain_so : plain_fields set_layer.items ≡ plain_fields layer.items ++ plain_fields missing
  plain_so =
      filter_map-append plain_in (change_nth is_feature (in_feature (with_attribute key value layer.items)) index layer.items) missing
      ∙ ap (λ (front : List Field). front ++ plain_fields missing) (plain_stay (with_attribute key value layer.items) index layer.items)

  entries_so : (number : ℕ) → contents number (plain_fields set_layer.items) ≡ contents number (plain_fields layer.items) ++ contents number (plain_fields missing)
  entries_so number = ap (contents number) plain_so ∙ filter_map-append (content_in number) (plain_fields layer.items) (plain_fields missing)

  abbrev has_the_key : Bool
  has_the_key = list_any (bytes_eq key) (keys layer)

  abbrev has_the_value : Bool
  has_the_value = list_any (bytes_eq value) (values layer)

  keys_more : keys set_layer ≡ keys layer ++ cond has_the_key [] (key ∷ [])
  keys_more = entries_so 3 ∙ ap (λ (more : List (List ℕ)). keys layer ++ more) (lacks_keys key value has_the_key has_the_value)

  values_more : values set_layer ≡ values layer ++ cond has_the_value [] (value ∷ [])
  values_more = entries_so 4 ∙ ap (λ (more : List (List ℕ)). values layer ++ more) (lacks_values key value has_the_key has_the_value)

  keys_with : keys set_layer ≡ with_entry key (keys layer)
  keys_with = keys_more ∙ joined key (keys layer) has_the_key

  values_with : values set_layer ≡ with_entry value (values layer)
  values_with = values_more ∙ joined value (values layer) has_the_value

  abbrev key_place : ℕ
  key_place = key_ordinal key layer.items

  abbrev value_place : ℕ
  value_place = value_ordinal value layer.items

  key_there : get_or (keys set_layer) key_place [] ≡ key
  key_there = ap (λ (list : List (List ℕ)). get_or list key_place []) keys_with ∙ (entry_there key (keys layer)).0

  value_there : get_or (values set_layer) value_place [] ≡ value
  value_there = ap (λ (list : List (List ℕ)). get_or list value_place []) values_with ∙ (entry_there value (values layer)).0

  key_within : is_ordinal (length (keys set_layer)) key_place ≡ true
  key_within =
      let low = entry_low key_field key key value index layer.items within in
      let below : key_place < length (keys set_layer) = omega (arith, ap length keys_with, (entry_there key (keys layer)).1) in
      and_from (nat_lt key_place (length (keys set_layer))) (nat_lt key_place (2 ^ 32)) (lt-ltb key_place (length (keys set_layer)) below) (lt-ltb key_place (2 ^ 32) (omega (arith, low)))

  value_within : is_ordinal (length (values set_layer)) value_place ≡ true
  value_within =
      let low = entry_low value_field value key value index layer.items within in
      let below : value_place < length (values set_layer) = omega (arith, ap length values_with, (entry_there value (values layer)).1) in
      and_from (nat_lt value_place (length (values set_layer))) (nat_lt value_place (2 ^ 32)) (lt-ltb value_place (length (values set_layer)) below) (lt-ltb value_place (2 ^ 32) (omega (arith, low)))

  abbrev more_keys : List (List ℕ)
  more_keys = cond has_the_key [] (key ∷ [])

  abbrev more_values : List (List ℕ)
  more_values = cond has_the_value [] (value ∷ [])

  abbrev has_key_at : ℕ → Bool
  has_key_at = is_key_at layer.items key

  revalued_attribute : (pair : ℕ × ℕ) → Names layer pair → attribute_at set_layer (revalue has_key_at value_place pair) ≡ valued key value (attribute_at layer pair)
  revalued_attribute pair names =
      let same : has_key_at pair.0 ≡ is_of key (attribute_at layer pair) = ap (λ found. option_map_or (bytes_eq key) found false) names.key in
      elim (cases_Bool (has_key_at pair.0)) [
        | inl pass ↦ (
            let there : is_of key (attribute_at layer pair) ≡ true = sym same ∙ pass in
            rw (pass, there)
            (ap (λ (k : List ℕ). (k, get_or (values set_layer) value_place [])) (key_stays layer set_layer more_keys more_values keys_more values_more pair names)
            ∙ ap (λ (v : List ℕ). ((attribute_at layer pair).0, v)) value_there)
            )
        | inr skip ↦ (
            let there : is_of key (attribute_at layer pair) ≡ false = sym same ∙ skip in
            rw (skip, there) (attribute_stays layer set_layer more_keys more_values keys_more values_more pair names)
            )
      ]

  all_revalued : (pairs : List (ℕ × ℕ)) → AllByRecursion (Names layer) pairs → map (attribute_at set_layer) (map (revalue has_key_at value_place) pairs) ≡ map (valued key value) (map (attribute_at layer) pairs)
  all_revalued [] names = refl
  all_revalued (pair ∷ pairs) names =
      ap (λ first. first ∷ map (attribute_at set_layer) (map (revalue has_key_at value_place) pairs)) (revalued_attribute pair names.0)
      ∙ ap (λ rest. valued key value (attribute_at layer pair) ∷ rest) (all_revalued pairs names.1)

  -- ---- the feature

  module _ (feature : Feature) (pairs : List (ℕ × ℕ)) (is : pairs_of layer feature ≡ Some pairs) where
    abbrev set_feature : Feature
    set_feature = with_fields (with_attribute key value layer.items) feature

    abbrev found : List (List ℕ × List ℕ)
    found = map (attribute_at layer) pairs

    names : AllByRecursion (Names layer) pairs
    names = pairs_are_named layer feature pairs is

    count_is : count (is_of key) found ≡ pairs_with key layer.items feature.fields
    count_is = counted key layer pairs names ∙ sym (ap (λ (there : Option (List (ℕ × ℕ))). option_map_or (count (λ (pair : ℕ × ℕ). has_key_at pair.0)) there 0) is)

    each_grown : list_all (is_pair (length (keys set_layer)) (length (values set_layer))) pairs ≡ true
    each_grown =
        pairs_grow (length (keys layer)) (length (values layer)) (length (keys set_layer)) (length (values set_layer)) (keys_grow layer set_layer more_keys more_values keys_more values_more) (values_grow layer set_layer more_keys more_values keys_more values_more) pairs
        (pairs_read (length (keys layer)) (length (values layer)) feature.fields pairs is).each

    some_has : (pairs_with key layer.items feature.fields == 0) ≡ false → attributes set_layer set_feature ≡ Some (map (valued key value) found)
    some_has some =
        let r = pairs_read (length (keys layer)) (length (values layer)) feature.fields pairs is in
        let decisions = revalued has_key_at value_place pairs in
        let fields : set_feature.fields ≡ renumber 2 decisions feature.fields =
        cond-false (pairs_with key layer.items feature.fields == 0) (with_more_tags (new_pair key value layer.items) feature.fields) (renumber 2 (replacements key value layer.items feature.fields) feature.fields) some
        ∙ ap (λ (there : Option (List (ℕ × ℕ))). renumber 2 (option_map_or (revalued has_key_at value_place) there []) feature.fields) is in
        let short : AreShort decisions =
        subst (λ (there : Option (List (ℕ × ℕ))). AreShort (option_map_or (revalued has_key_at value_place) there [])) is (replacements_short key value layer.items feature.fields (value_short key value index layer.items within)) in
        let pairs_so = pairs_again (length (keys set_layer)) (length (values set_layer)) (renumber 2 decisions feature.fields) (renumbered decisions r.list) (map (revalue has_key_at value_place) pairs)
        (left_is_read 2 decisions feature.fields r.list short r.read)
        (values_revalued has_key_at value_place pairs r.list r.are)
        (revalued_pairs (length (keys set_layer)) (length (values set_layer)) has_key_at value_place value_within pairs each_grown) in
        ap (λ (list : List Field). attributes set_layer (record { tag = feature.tag; width = feature.width; fields = list })) fields
        ∙ ap (option_map (map (attribute_at set_layer))) pairs_so
        ∙ ap Some (all_revalued pairs names)

    -- the pair that is added
    abbrev new_numbers : List Number
    new_numbers = minimal key_place ∷ minimal value_place ∷ []

    abbrev more_pairs : List (ℕ × ℕ)
    more_pairs = pairs ++ (key_place, value_place) ∷ []

    numbers_valid : AllByRecursion IsNumber new_numbers
    numbers_valid =
        let low = entry_low key_field key key value index layer.items within in
        (minimal_spelling key_place (omega (arith, low)), (minimal_spelling value_place (value_short key value index layer.items within), tt))

    pair_bytes : new_pair key value layer.items ≡ flat_map spelling new_numbers
    pair_bytes = ap (λ (following : List ℕ). shortest key_place ++ following) (sym (append-nil (shortest value_place)))

    abbrev is_set_pair : ℕ × ℕ → Bool
    is_set_pair = is_pair (length (keys set_layer)) (length (values set_layer))

    new_is_pair : list_all is_set_pair ((key_place, value_place) ∷ []) ≡ true
    new_is_pair =
        and_from (is_set_pair (key_place, value_place)) true (and_from (is_ordinal (length (keys set_layer)) key_place) (is_ordinal (length (values set_layer)) value_place) key_within value_within) refl

    are_pairs : list_all is_set_pair more_pairs ≡ true
    are_pairs =
        list_all-append is_set_pair pairs ((key_place, value_place) ∷ [])
        ∙ and_from (list_all is_set_pair pairs) (list_all is_set_pair ((key_place, value_place) ∷ [])) each_grown new_is_pair

    numbers_are : (list : List Number) → value_list list ≡ flat pairs → value_list (list ++ new_numbers) ≡ flat more_pairs
    numbers_are list are =
        map-append (λ (n : Number). n.value) list new_numbers
        ∙ ap (λ (front : List ℕ). front ++ key_place ∷ value_place ∷ []) are
        ∙ sym (flat_map-append (λ (pair : ℕ × ℕ). pair.0 ∷ pair.1 ∷ []) pairs ((key_place, value_place) ∷ []))

    new_attribute : attribute_at set_layer (key_place, value_place) ≡ (key, value)
    new_attribute = ap (λ (k : List ℕ). (k, get_or (values set_layer) value_place [])) key_there ∙ ap (λ (v : List ℕ). (key, v)) value_there

    more_attributes : map (attribute_at set_layer) more_pairs ≡ found ++ (key, value) ∷ []
    more_attributes =
        map-append (attribute_at set_layer) pairs ((key_place, value_place) ∷ [])
        ∙ ap (λ (front : List (List ℕ × List ℕ)). front ++ attribute_at set_layer (key_place, value_place) ∷ []) (all_stay layer set_layer more_keys more_values keys_more values_more pairs names)
        ∙ ap (λ (last : List ℕ × List ℕ). found ++ last ∷ []) new_attribute

    more_fields : (pairs_with key layer.items feature.fields == 0) ≡ true → set_feature.fields ≡ with_more_tags (flat_map spelling new_numbers) feature.fields
    more_fields none =
        cond-true (pairs_with key layer.items feature.fields == 0) (with_more_tags (new_pair key value layer.items) feature.fields) (renumber 2 (replacements key value layer.items feature.fields) feature.fields) none
        ∙ ap (λ (bytes : List ℕ). with_more_tags bytes feature.fields) pair_bytes

    none_has : (pairs_with key layer.items feature.fields == 0) ≡ true → attributes set_layer set_feature ≡ Some (found ++ (key, value) ∷ [])
    none_has none =
        let r = pairs_read (length (keys layer)) (length (values layer)) feature.fields pairs is in
        let fields = with_more_tags (flat_map spelling new_numbers) feature.fields in
        let read = more_is_read new_numbers numbers_valid feature.fields r.list r.read in
        let made = pairs_again (length (keys set_layer)) (length (values set_layer)) fields (r.list ++ new_numbers) more_pairs read (numbers_are r.list r.are) are_pairs in
        ap (λ (list : List Field). attributes set_layer (record { tag = feature.tag; width = feature.width; fields = list })) (more_fields none)
        ∙ ap (option_map (map (attribute_at set_layer))) made
        ∙ ap Some more_attributes

    any_is : (some : Bool) → (pairs_with key layer.items feature.fields == 0) ≡ not some → list_any (is_of key) found ≡ some
    any_is some e =
        any_counted (is_of key) found ∙ ap (λ (n : ℕ). not (n == 0)) count_is ∙ ap not e ∙ twice some
      where
        twice : (b : Bool) → not (not b) ≡ b
        twice true = refl
        twice false = refl

    has_value : attributes set_layer set_feature ≡ Some (with_value key value found)
    has_value =
        elim (cases_Bool (pairs_with key layer.items feature.fields == 0)) [
          | inl none ↦ none_has none ∙ ap Some (sym (cond-false (list_any (is_of key) found) (map (valued key value) found) (found ++ (key, value) ∷ []) (any_is false none)))
          | inr some ↦ some_has some ∙ ap Some (sym (cond-true (list_any (is_of key) found) (map (valued key value) found) (found ++ (key, value) ∷ []) (any_is true some)))
        ]

    tags_apart : without_tags set_feature.fields ≡ without_tags feature.fields
    tags_apart =
        elim (cases_Bool (pairs_with key layer.items feature.fields == 0)) [
          | inl none ↦ rw none (more_apart (new_pair key value layer.items) feature.fields)
          | inr some ↦ rw some (others_stay 2 (replacements key value layer.items feature.fields) feature.fields)
        ]

    gets : nat_lt 1 (pairs_with key layer.items feature.fields) ≡ false → GetsAttribute key value layer set_layer feature set_feature
    gets once = record {
      found = found;
      had = ap (option_map (map (attribute_at layer))) is;
      once = omega (arith, count_is, ltb-false 1 (pairs_with key layer.items feature.fields) once);
      has = has_value;
      others = tags_apart;
    }

  -- ---- the layer

  features_so : features set_layer ≡ features (with_items (change_nth is_feature (in_feature (with_attribute key value layer.items)) index) layer)
  features_so =
      let present = change_nth is_feature (in_feature (with_attribute key value layer.items)) index layer.items in
      filter_map-append _ present missing ∙ ap (λ (more : List Feature). features_in present ++ more) (lacks_features key value has_the_key has_the_value) ∙ append-nil (features_in present)

  sets : (choice : FeatureChoice) → selected_feature choice layer ≡ Ok index → ((feature : Feature) → slice_get (features layer) index ≡ Some feature → (is_some (pairs_of layer feature) ≡ true) × (nat_lt 1 (pairs_with key layer.items feature.fields) ≡ false)) → SetsAttribute choice key value layer set_layer
  sets choice selects readable =
      let change = with_attribute key value layer.items in
      let way : Feature → Feature → Type 0 = GetsAttribute key value layer set_layer in
      let c = changes_feature choice way change layer index selects (λ former was.
      let read = readable former was in
      let pairs = some_is (pairs_of layer former) read.0 in
      gets former pairs.0 pairs.1 read.1) in
      record {
        ordinal = c.ordinal;
        selects = c.selects;
        former = c.former;
        was = c.was;
        present = c.present;
        is = ap (λ (list : List Feature). slice_get list c.ordinal) features_so ∙ c.is;
        becomes = record { tag = c.tag; width = c.width; changed = c.changed };
        others = λ other apart. ap (λ (list : List Feature). slice_get list other) features_so ∙ c.alone.others other apart;
        stay = attributes_stay layer set_layer more_keys more_values keys_more values_more;
        keys_so = keys_with;
        values_so = values_with;
        more = plain_fields missing;
        fields = plain_so;
        entries = lacks_entries key value has_the_key has_the_value;
        positions = positions_front 0 (change_nth is_feature (in_feature change) index layer.items) missing (lacks_none key value has_the_key has_the_value) ∙ c.alone.positions;
      }

-- ---- the tile

-- the items of a layer have no more bytes than the tile
layer_weighs : (document : Document) (ordinal : ℕ) (layer : Layer) → slice_get (layers document) ordinal ≡ Some layer → weigh layer_item_bytes layer.items ≤ length (bytes_of document)
layer_weighs [] ordinal layer is = absurd cc
layer_weighs (OfLayer first ∷ document) zero layer is =
    let same : weigh layer_item_bytes first.items ≡ weigh layer_item_bytes layer.items = let it : first ≡ layer = cc in ap (λ (l : Layer). weigh layer_item_bytes l.items) it in
    omega (arith, same, length-append (tile_item_bytes (OfLayer first)) (flat_map tile_item_bytes document), length-message first.tag.value first.tag.width first.width (flat_map layer_item_bytes first.items))
layer_weighs (OfLayer first ∷ document) (suc ordinal) layer is =
    omega (arith, layer_weighs document ordinal layer is, length-append (tile_item_bytes (OfLayer first)) (flat_map tile_item_bytes document))
layer_weighs (PlainInTile field ∷ document) ordinal layer is =
    omega (arith, layer_weighs document ordinal layer is, length-append (tile_item_bytes (PlainInTile field)) (flat_map tile_item_bytes document))

-- how often the key is there, in the selected feature
once_there : (key : List ℕ) (document : Document) (ordinal index : ℕ) (layer : Layer) (feature : Feature) → slice_get (layers document) ordinal ≡ Some layer → slice_get (features layer) index ≡ Some feature → repeats_key key ordinal index document ≡ false → nat_lt 1 (pairs_with key layer.items feature.fields) ≡ false
once_there key document ordinal index layer feature there is once =
    sym
    (ap (λ (list : List LayerItem). nat_lt 1 (pairs_with key list (fields_of ordinal index document))) (items_there document ordinal layer there)
    ∙ ap (λ (list : List Field). nat_lt 1 (pairs_with key layer.items list)) (fields_found document ordinal index layer feature there is))
    ∙ once

-- the layer that is set is within the limit, where the tile is
set_within : (key value : List ℕ) (index ordinal : ℕ) (old : Document) (layer : Layer) → ordinal < length (layers old) → slice_get (layers old) ordinal ≡ Some layer → length (bytes_of (change_layer (attributed key value index) ordinal old)) ≤ MAX_FILE → weigh layer_item_bytes (attributed key value index layer.items) ≤ MAX_FILE
set_within key value index ordinal old layer inside there short =
    let change = attributed key value index in
    let a = around layer_in old ordinal inside in
    let d = layer_differs change ordinal old a in
    let same = some_same a.value layer (slice_get (layers old) ordinal) d.was there in
    let is : slice_get (layers (change_layer change ordinal old)) ordinal ≡ Some (with_items change layer) = d.is ∙ ap (λ (l : Layer). Some (with_items change l)) same in
    omega (arith, short, layer_weighs (change_layer change ordinal old) ordinal (with_items change layer) is)

limit_kept : (document made : Document) → within_limit document ≡ Ok made → length (bytes_of document) ≤ MAX_FILE
limit_kept document made e =
    elim (cases_Bool (nat_lt MAX_FILE (length (bytes_of document)))) [
      | inl over ↦ absurd (let refused = rw over at e in cc)
      | inr within ↦ ltb-false MAX_FILE (length (bytes_of document)) within
    ]

pub set_sets : SetSets
set_sets choice feature key given old new e =
    let value = encoded_value given in
    let made_of : ℕ → ℕ → Document = λ ordinal index. change_layer (attributed key value index) ordinal old in
    let selects = accepted (selected choice old) (λ ordinal. selected_in feature ordinal old >>= λ index. refuse_if (not (has_pairs ordinal index old)) (BadTags ordinal index) >>= λ readable. refuse_if (repeats_key key ordinal index old) (RepeatedKey ordinal index) >>= λ once. within_limit (made_of ordinal index)) new e in
    let found = accepted (selected_in feature selects.0 old) (λ index. refuse_if (not (has_pairs selects.0 index old)) (BadTags selects.0 index) >>= λ readable. refuse_if (repeats_key key selects.0 index old) (RepeatedKey selects.0 index) >>= λ once. within_limit (made_of selects.0 index)) new selects.2 in
    let readable = accepted (refuse_if (not (has_pairs selects.0 found.0 old)) (BadTags selects.0 found.0)) (λ readable. refuse_if (repeats_key key selects.0 found.0 old) (RepeatedKey selects.0 found.0) >>= λ once. within_limit (made_of selects.0 found.0)) new found.2 in
    let once = accepted (refuse_if (repeats_key key selects.0 found.0 old) (RepeatedKey selects.0 found.0)) (λ once. within_limit (made_of selects.0 found.0)) new readable.2 in
    let made = within_is (made_of selects.0 found.0) new once.2 in
    let short = limit_kept (made_of selects.0 found.0) new once.2 in
    let has = not-false (has_pairs selects.0 found.0 old) (not_refused (not (has_pairs selects.0 found.0 old)) (BadTags selects.0 found.0) readable.0 readable.1) in
    let single = not_refused (repeats_key key selects.0 found.0 old) (RepeatedKey selects.0 found.0) once.0 once.1 in
    changes_layer choice (SetsAttribute feature key value) (attributed key value found.0) old new selects.0 selects.1 made (λ layer there.
    sets key value found.0 layer (set_within key value found.0 selects.0 old layer (selected_within choice old selects.0 selects.1) there short) feature (feature_selects feature old layer selects.0 found.0 there found.1) (λ former was.
    (read_there old selects.0 found.0 layer former there was has, once_there key old selects.0 found.0 layer former there was single)))
