-- A feature without the pairs of a key has its other attributes, in their order.
use Rattle.std.proofs.Common.{◌≡◌, ℕ, Bool, true, false, not, is_some, Option, Some, None, option_map, Ok, List, [], ◌∷◌, length, map, filter, slice_get, get_or, refl, sym, ap, ◌∙◌, inl, inr, subst}
use Rattle.std.proofs.lemmas.Bool.{and_from, and_parts, cases_Bool, not-false}
use Rattle.std.specs.List.{AllByRecursion, list_all}
use Rattle.std.specs.Option.{option_map_or}
use Rattle.std.specs.Str.{bytes_eq}
use Rattle.mvt_document.specs.Plain.{Number, Field, Feature, LayerItem, Layer, Document}
use Rattle.mvt_document.specs.Places.{in_feature}
use Rattle.mvt_document.proofs.Options.{some_is}
use Rattle.mvt_meaning.specs.Command.{FeatureChoice}
use Rattle.mvt_messages.specs.Numbers.{numbers}
use Rattle.mvt_renumber.specs.Renumbering.{renumber, renumbered, with_number}
use Rattle.mvt_renumber.proofs.Redone.{left_is_read}
use Rattle.mvt_messages.specs.Attributes.{attribute_at, attributes, is_pair, pairs_in, pairs_of}
use Rattle.mvt_layers.specs.Laws.{Names}
use Rattle.mvt_messages.specs.Views.{contents, features, key_field, keys, layers, plain_fields, value_field, values}
use Rattle.mvt_layers.proofs.Pairing.{pairs_are_named}
use Rattle.mvt_meaning.specs.Ordinals.{change_nth}
use Rattle.mvt_meaning.specs.Selection.{is_feature, selected, selected_feature, selected_in, selected_layers}
use Rattle.mvt_meaning.specs.Tagging.{excluded, is_key_at, pairs_among, removals, unreadable, without_attribute, without_pairs}
use Rattle.mvt_meaning.specs.Meaning.{◌>>=◌, change_feature, change_layers, fields_of, has_key, has_pairs, items_of, refuse_first, refuse_if}
use Rattle.mvt_meaning.specs.declared.refusal.Refusal.TheVariants.{BadTags, NoKey}
use Rattle.mvt_meaning.proofs.Given.{number_given}
use Rattle.mvt_meaning.proofs.Removals.{flat, head_same, pairs_short}
use Rattle.command_laws.specs.Kept.{ChangesFeature}
use Rattle.command_laws.proofs.Accepted.{accepted, feature_selects, not_refused}
use Rattle.command_laws.proofs.OtherFields.{others_stay}
use Rattle.command_laws.proofs.Parts.{changes_feature, changes_layer, fields_found, items_there, with_fields, with_items}
use Rattle.command_laws.proofs.ReadValues.{value_list}
use Rattle.command_laws.specs.AttributeLaws.{ExcludeExcludes, ExcludesKey, LosesAttribute, UnsetUnsets, of_other_keys}
use Rattle.command_laws.proofs.EachFeature.{features_changed, fields_stay, positions_stay}
use Rattle.command_laws.proofs.ChangedLayers.{got_mapped, layers_change}
use Rattle.command_laws.proofs.PairsRead.{pairs_again, pairs_read}
use Rattle.command_laws.proofs.Readable.{selected_read}

-- ---- the pairs of other keys

-- the pairs of the keys that stay
abbrev pub staying : (ℕ → Bool) → List (ℕ × ℕ) → List (ℕ × ℕ)
staying goes pairs = filter (λ (pair : ℕ × ℕ). not (goes pair.0)) pairs

values_staying : (goes : ℕ → Bool) (pairs : List (ℕ × ℕ)) (list : List Number) → value_list list ≡ flat pairs → value_list (renumbered (without_pairs goes pairs) list) ≡ flat (staying goes pairs)
values_staying goes [] list is = is
values_staying goes (pair ∷ pairs) [] is = absurd cc
values_staying goes (pair ∷ pairs) (key ∷ []) is = let tails = head_same key.value pair.0 [] (pair.1 ∷ flat pairs) is in absurd (let none = tails.1 in cc)
values_staying goes (pair ∷ pairs) (key ∷ value ∷ list) is =
    let first = head_same key.value pair.0 (value.value ∷ value_list list) (pair.1 ∷ flat pairs) is in
    let second = head_same value.value pair.1 (value_list list) (flat pairs) first.1 in
    let more = values_staying goes pairs list second.1 in
    elim (cases_Bool (goes pair.0)) [
      | inl gone ↦ rw gone more
      | inr stays ↦ (
          rw stays
          (ap (λ (n : ℕ). n ∷ (with_number pair.1 value).value ∷ value_list (renumbered (without_pairs goes pairs) list)) (number_given pair.0 key)
          ∙ ap (λ (n : ℕ). pair.0 ∷ n ∷ value_list (renumbered (without_pairs goes pairs) list)) (number_given pair.1 value)
          ∙ ap (λ (rest : List ℕ). pair.0 ∷ pair.1 ∷ rest) more)
          )
    ]

still_pairs : (key_count value_count : ℕ) (goes : ℕ → Bool) (pairs : List (ℕ × ℕ)) → list_all (is_pair key_count value_count) pairs ≡ true → list_all (is_pair key_count value_count) (staying goes pairs) ≡ true
still_pairs key_count value_count goes [] is = refl
still_pairs key_count value_count goes (pair ∷ pairs) is =
    let parts = and_parts (is_pair key_count value_count pair) (list_all (is_pair key_count value_count) pairs) is in
    let more = still_pairs key_count value_count goes pairs parts.1 in
    elim (cases_Bool (goes pair.0)) [
      | inl gone ↦ rw gone more
      | inr stays ↦ rw stays (and_from (is_pair key_count value_count pair) (list_all (is_pair key_count value_count) (staying goes pairs)) parts.0 more)
    ]

-- the pairs of the keys that go are those that are no longer read
pub pairs_staying : (key_count value_count : ℕ) (goes : ℕ → Bool) (fields : List Field) (pairs : List (ℕ × ℕ)) → pairs_in key_count value_count (numbers 2 fields) ≡ Some pairs → pairs_in key_count value_count (numbers 2 (renumber 2 (without_pairs goes pairs) fields)) ≡ Some (staying goes pairs)
pairs_staying key_count value_count goes fields pairs is =
    let r = pairs_read key_count value_count fields pairs is in
    pairs_again key_count value_count (renumber 2 (without_pairs goes pairs) fields) (renumbered (without_pairs goes pairs) r.list) (staying goes pairs)
    (left_is_read 2 (without_pairs goes pairs) fields r.list (pairs_short goes key_count value_count pairs r.each) r.read)
    (values_staying goes pairs r.list r.are)
    (still_pairs key_count value_count goes pairs r.each)

-- ---- the attributes of other keys

filtered_first : {A B : Type 0} (f : A → B) (passes : A → Bool) (test : B → Bool) (x : A) (xs : List A) (b : Bool) → passes x ≡ b → test (f x) ≡ b → map f (filter passes xs) ≡ filter test (map f xs) → map f (filter passes (x ∷ xs)) ≡ filter test (map f (x ∷ xs))
filtered_first f passes test x xs true here there more = rw (here, there) (ap (λ rest. f x ∷ rest) more)
filtered_first f passes test x xs false here there more = rw (here, there) more

attributes_staying : (key : List ℕ) (layer : Layer) (pairs : List (ℕ × ℕ)) → AllByRecursion (Names layer) pairs → map (attribute_at layer) (staying (is_key_at layer.items key) pairs) ≡ of_other_keys key (map (attribute_at layer) pairs)
attributes_staying key layer [] names = refl
attributes_staying key layer (pair ∷ pairs) names =
    let same : is_key_at layer.items key pair.0 ≡ bytes_eq key (attribute_at layer pair).0 = ap (λ found. option_map_or (bytes_eq key) found false) names.0.key in
    filtered_first (attribute_at layer) (λ (pair : ℕ × ℕ). not (is_key_at layer.items key pair.0)) (λ (attribute : List ℕ × List ℕ). not (bytes_eq key attribute.0)) pair pairs (not (bytes_eq key (attribute_at layer pair).0))
    (ap not same) refl (attributes_staying key layer pairs names.1)

-- the attributes of a feature depend only on the fields of its layer
attributes_by_fields : (one other : Layer) (feature : Feature) → plain_fields one.items ≡ plain_fields other.items → attributes one feature ≡ attributes other feature
attributes_by_fields one other feature same =
    ap (λ (fields : List Field). option_map (map (λ (pair : ℕ × ℕ). (get_or (contents key_field fields) pair.0 [], get_or (contents value_field fields) pair.1 []))) (pairs_in (length (contents key_field fields)) (length (contents value_field fields)) (numbers 2 feature.fields))) same

-- ---- a feature

loses : (key : List ℕ) (layer present : Layer) (feature : Feature) → plain_fields present.items ≡ plain_fields layer.items → is_some (pairs_of layer feature) ≡ true → LosesAttribute key layer present feature (with_fields (without_attribute key layer.items) feature)
loses key layer present feature same readable =
    let goes = is_key_at layer.items key in
    let pairs = some_is (pairs_of layer feature) readable in
    let left : pairs_of layer (with_fields (without_attribute key layer.items) feature) ≡ Some (staying goes pairs.0) =
    ap (λ (found : Option (List (ℕ × ℕ))). pairs_in (length (keys layer)) (length (values layer)) (numbers 2 (renumber 2 (option_map_or (without_pairs goes) found []) feature.fields))) pairs.1
    ∙ pairs_staying (length (keys layer)) (length (values layer)) goes feature.fields pairs.0 pairs.1 in
    record {
      found = map (attribute_at layer) pairs.0;
      had = ap (option_map (map (attribute_at layer))) pairs.1;
      has = attributes_by_fields present layer (with_fields (without_attribute key layer.items) feature) same ∙ ap (option_map (map (attribute_at layer))) left ∙ ap Some (attributes_staying key layer pairs.0 (pairs_are_named layer feature pairs.0 pairs.1));
      others = others_stay 2 (removals key layer.items feature.fields) feature.fields;
    }

-- ---- the selected feature

pub pairs_found : (document : Document) (ordinal index : ℕ) (layer : Layer) (feature : Feature) → slice_get (layers document) ordinal ≡ Some layer → slice_get (features layer) index ≡ Some feature → pairs_among (items_of ordinal document) (fields_of ordinal index document) ≡ pairs_of layer feature
pairs_found document ordinal index layer feature there is =
    ap (λ (list : List LayerItem). pairs_among list (fields_of ordinal index document)) (items_there document ordinal layer there)
    ∙ ap (pairs_among layer.items) (fields_found document ordinal index layer feature there is)

pub read_there : (document : Document) (ordinal index : ℕ) (layer : Layer) (feature : Feature) → slice_get (layers document) ordinal ≡ Some layer → slice_get (features layer) index ≡ Some feature → has_pairs ordinal index document ≡ true → is_some (pairs_of layer feature) ≡ true
read_there document ordinal index layer feature there is has =
    sym (ap (λ (found : Option (List (ℕ × ℕ))). is_some found) (pairs_found document ordinal index layer feature there is)) ∙ has

-- the fields of a layer that are not features stay where one feature changes
fields_kept : (choice : FeatureChoice) (change : List Field → List Field) (layer : Layer) (ordinal : ℕ) → selected_feature choice layer ≡ Ok ordinal → plain_fields (change_nth is_feature (in_feature change) ordinal layer.items) ≡ plain_fields layer.items
fields_kept choice change layer ordinal selects = (changes_feature choice (λ former present. Unit {0}) change layer ordinal selects (λ former was. tt)).alone.fields

pub unset_unsets : UnsetUnsets
unset_unsets choice feature key old new e =
    let change : ℕ → List Field → List Field = λ ordinal. without_attribute key (items_of ordinal old) in
    let selects = accepted (selected choice old) (λ ordinal. selected_in feature ordinal old >>= λ selects. refuse_if (not (has_key key ordinal old)) NoKey >>= λ there. refuse_if (not (has_pairs ordinal selects old)) (BadTags ordinal selects) >>= λ readable. Ok (change_feature (change ordinal) ordinal selects old)) new e in
    let found = accepted (selected_in feature selects.0 old) (λ found. refuse_if (not (has_key key selects.0 old)) NoKey >>= λ there. refuse_if (not (has_pairs selects.0 found old)) (BadTags selects.0 found) >>= λ readable. Ok (change_feature (change selects.0) selects.0 found old)) new selects.2 in
    let there = accepted (refuse_if (not (has_key key selects.0 old)) NoKey) (λ there. refuse_if (not (has_pairs selects.0 found.0 old)) (BadTags selects.0 found.0) >>= λ readable. Ok (change_feature (change selects.0) selects.0 found.0 old)) new found.2 in
    let readable = accepted (refuse_if (not (has_pairs selects.0 found.0 old)) (BadTags selects.0 found.0)) (λ readable. Ok (change_feature (change selects.0) selects.0 found.0 old)) new there.2 in
    let has = not-false (has_pairs selects.0 found.0 old) (not_refused (not (has_pairs selects.0 found.0 old)) (BadTags selects.0 found.0) readable.0 readable.1) in
    let made : change_feature (change selects.0) selects.0 found.0 old ≡ new = let same = readable.2 in cc in
    changes_layer choice (λ former present. ChangesFeature feature (LosesAttribute key former present) former present) (change_nth is_feature (in_feature (change selects.0)) found.0) old new selects.0 selects.1 made (λ layer is.
    let chosen = feature_selects feature old layer selects.0 found.0 is found.1 in
    let present : Layer = with_items (change_nth is_feature (in_feature (change selects.0)) found.0) layer in
    changes_feature feature (LosesAttribute key layer present) (change selects.0) layer found.0 chosen (λ former was.
    subst (λ (items : List LayerItem). LosesAttribute key layer present former (with_fields (without_attribute key items) former)) (sym (items_there old selects.0 layer is))
    (loses key layer present former (fields_kept feature (change selects.0) layer found.0 chosen) (read_there old selects.0 found.0 layer former is was has))))

-- ---- the features of the selected layers

excludes : (key : List ℕ) (layer : Layer) → ((index : ℕ) (feature : Feature) → slice_get (features layer) index ≡ Some feature → is_some (pairs_of layer feature) ≡ true) → ExcludesKey key layer (with_items (excluded key) layer)
excludes key layer readable =
    let change = without_attribute key layer.items in
    record {
      each = λ ordinal former is. (
        with_fields change former,
        ap (λ (list : List Feature). slice_get list ordinal) (features_changed change layer.items) ∙ got_mapped (with_fields change) (features layer) ordinal former is,
        record { tag = refl; width = refl; changed = loses key layer (with_items (excluded key) layer) former (fields_stay change layer.items) (readable ordinal former is) },
      );
      fields = fields_stay change layer.items;
      positions = positions_stay change 0 layer.items;
    }

pub exclude_excludes : ExcludeExcludes
exclude_excludes choice key old new e =
    let found = accepted (selected_layers choice old) (λ found. refuse_first (unreadable found) >>= λ readable. change_layers (excluded key) choice old) new e in
    let readable = accepted (refuse_first (unreadable found.0)) (λ readable. change_layers (excluded key) choice old) new found.2 in
    layers_change (ExcludesKey key) (excluded key) choice old new readable.2 (λ ordinal layer selects there.
    excludes key layer (selected_read choice old found.0 readable.0 found.1 readable.1 ordinal layer selects there))
