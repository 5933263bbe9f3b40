-- What the steps that give a feature an attribute result in.
use Rattle.std.proofs.Common.{◌≡◌, ℕ, ◌+◌, ◌*◌, ◌<◌, ◌≤◌, ◌^◌, zero, suc, true, false, not, Option, Some, None, Result, Ok, Err, is_some, List, [], ◌∷◌, ◌++◌, length, length-append, map, take, drop, nat_lt, option_map, slice_get, append-nil, refl, sym, ap, ◌∙◌, subst, inl, inr, arith}
use Rattle.std.proofs.lemmas.Bool.{cases_Bool}
use Rattle.std.proofs.lemmas.List.{drop_all, length-map, take_all}
use Rattle.std.proofs.lemmas.List.Concat.{flat_map-append}
use Rattle.std.specs.List.{AllByRecursion, cons_option, flat_map, list_any}
use Rattle.std.specs.Option.{IfSome}
use Rattle.std.specs.Prelude.{IsErrAnd}
use Rattle.std.specs.Str.{bytes_eq}
use Rattle.mvt_document.specs.declared.TheConstants.{MAX_FILE}
use Rattle.mvt_document.specs.Lists.{change_at}
use Rattle.mvt_document.specs.Opens.{IsField, IsLayerItem}
use Rattle.mvt_document.specs.Places.{change_fields, change_items, in_feature, items_at}
use Rattle.mvt_document.specs.Plain.{Feature, Field, Layer, LayerItem, OfFeature, OfLayer, PlainInLayer, Document}
use Rattle.mvt_document.specs.Splicing.{part}
use Rattle.mvt_document.specs.Stands.{layer_of}
use Rattle.mvt_document.specs.Wire.{bytes_of, field_bytes, layer_item_bytes, minimal_width}
use Rattle.mvt_document.proofs.Spelling.{minimal_spelling}
use Rattle.mvt_document.proofs.EachItem.{all_joined}
use Rattle.mvt_value.specs.Messages.{encoded_value}
use Rattle.mvt_value.specs.Values.{Value}
use Rattle.mvt_change.specs.Changes.{Change, OfTheLayer}
use Rattle.mvt_change.specs.declared.change.Change as held
use Rattle.mvt_change.proofs.Lenses.{list_part}
use Rattle.mvt_meaning.specs.Command.{FeatureChoice, LayerChoice, SetAttribute}
use Rattle.mvt_messages.specs.Views.{contents, key_field, plain_fields, value_field}
use Rattle.mvt_meaning.specs.Fields.{new_content}
use Rattle.mvt_meaning.specs.Meaning.{◌>>=◌, applied, change_layer, fields_of, has_pairs, items_of, refuse_if, repeats_key, within_limit}
use Rattle.mvt_meaning.specs.Selection.{feature_positions, is_feature, layer_positions, selected, selected_feature, selected_in}
use Rattle.mvt_meaning.specs.Tagging.{attributed, missing_entries, missing_entry, pairs_among, pairs_with, with_attribute}
use Rattle.mvt_meaning.specs.Weights.{of_selected, set_puts, set_takes, set_weight, weigh}
use Rattle.mvt_meaning.specs.declared.refusal.Refusal.{Refusal}
use Rattle.mvt_meaning.specs.declared.refusal.Refusal.TheVariants.{BadTags, NoMemory, RepeatedKey, TooLarge}
use Rattle.mvt_layers.specs.declared.found.FoundFeature.{FoundFeature}
use Rattle.mvt_layers.specs.declared.found.FoundLayer.{FoundLayer}
use Rattle.mvt_select.specs.Found.{IsFoundFeature, IsFoundLayer}
use Rattle.mvt_meaning.proofs.Found.{change_layer_found, change_nth_found, fields_at_found, fields_of_found, items_at_found, items_of_found, selected_in_found}
use Rattle.mvt_meaning.proofs.NewFields.{missing_valid, new_key, new_value}
use Rattle.mvt_edit_steps.specs.Fates.{Splice}
use Rattle.mvt_edit_steps.specs.Prepared.{IsPrepared, Prepares}
use Rattle.mvt_edit_steps.proofs.CarriedOut.{AreThere, put_all, spliced_all, taken_all}
use Rattle.mvt_edit_steps.proofs.Carrying.{carried, in_feature_at, in_layer_at, in_the_feature, in_the_layer, makes_alike}
use Rattle.mvt_edit_steps.proofs.Heavy.{tag_and_content}
use Rattle.mvt_edit_steps.proofs.Leading.{Leads, both_lead}
use Rattle.mvt_edit_steps.proofs.Refusing.{both_found, ran_out}
use Rattle.mvt_edit_attributes.specs.Attribute.{AreFound, GivesAttribute, attribute_checked, appended, bytes_put, entries_for, entry_unless}
use Rattle.mvt_edit_attributes.specs.declared.pools.Ordinals.{Ordinals}

-- ---- the entries that a layer lacks

entries_valid : (key value : List ℕ) (items : List LayerItem) → AllByRecursion IsLayerItem (missing_entries key value items)
entries_valid key value items =
    let keys = contents key_field (plain_fields items) in
    let values = contents value_field (plain_fields items) in
    all_joined IsLayerItem (missing_entry 26 key keys) (missing_entry 34 value values) (missing_valid 26 key keys (new_key key)) (missing_valid 34 value values (new_value value))

one_heavy : (tag : ℕ) (bytes : List ℕ) (entries : List (List ℕ)) → tag < 2 ^ 64 → 2 * length (missing_entry tag bytes entries) ≤ weigh layer_item_bytes (missing_entry tag bytes entries)
one_heavy tag bytes entries short =
    elim (cases_Bool (list_any (bytes_eq bytes) entries)) [
      | inl there ↦ rw there (omega arith)
      | inr none ↦ rw none (let long = tag_and_content tag (minimal_width tag) 1 bytes (minimal_spelling tag short) in omega (arith, long, ap length (append-nil (layer_item_bytes (PlainInLayer (new_content tag bytes))))))
    ]

entries_heavy : (key value : List ℕ) (items : List LayerItem) → 2 * length (missing_entries key value items) ≤ weigh layer_item_bytes (missing_entries key value items)
entries_heavy key value items =
    let first = missing_entry 26 key (contents key_field (plain_fields items)) in
    let second = missing_entry 34 value (contents value_field (plain_fields items)) in
    let both = ap length (flat_map-append layer_item_bytes first second) ∙ length-append (flat_map layer_item_bytes first) (flat_map layer_item_bytes second) in
    omega (arith, both, length-append first second, one_heavy 26 key (contents key_field (plain_fields items)) (omega arith), one_heavy 34 value (contents value_field (plain_fields items)) (omega arith))

-- ---- items after all others of a list

-- their splice, if there are any
abbrev following : List LayerItem → ℕ → List (Splice LayerItem)
following [] n = []
following (item ∷ more) n = record { index = n; taken = 0; put = item ∷ more } ∷ []

record Behind (entries : List LayerItem) (n : ℕ) (items : List LayerItem) : Type 0 where
  there : AreThere (following entries n) items
  puts : put_all (following entries n) ≡ entries
  takes : taken_all (following entries n) items ≡ []
  leaves : spliced_all (following entries n) items ≡ items ++ entries
  few : length (following entries n) ≤ length entries

after_spliced : (entries : List LayerItem) (n : ℕ) (items : List LayerItem) → length items ≡ n → Behind entries n items
after_spliced [] n items long = record { there = tt; puts = refl; takes = refl; leaves = sym (append-nil items); few = omega arith }
after_spliced (item ∷ more) n items long =
    let front : take n items ≡ items = take_all n items (omega arith) in
    let rest : drop (n + 0) items ≡ [] = drop_all (n + 0) items (omega arith) in
    let put : List LayerItem = item ∷ more in
    record {
      there = (omega arith, tt);
      puts = append-nil (item ∷ more);
      takes = refl;
      leaves = ap (λ list. list ++ put ++ drop (n + 0) items) front ∙ ap (λ list. items ++ put ++ list) rest ∙ append-nil (items ++ put);
      few = omega arith;
    }

following_steps : (position : ℕ) (items entries : List LayerItem) → appended position items entries ≡ map (in_layer_at position) (following entries (length items))
following_steps position items [] = refl
following_steps position items (item ∷ more) = refl

changed_long : {A : Type 0} (change : A → A) (at : ℕ) (items : List A) → length (change_at change at items) ≡ length items
changed_long change at [] = refl
changed_long change zero (x ∷ items) = refl
changed_long change (suc at) (x ∷ items) = ap suc (changed_long change at items)

-- ---- the run of the fields

-- what the splice results in
record Spliced (fields after : List Field) (run : Option (Splice Field)) (takes puts : ℕ) : Type 0 where
  there : AreThere (cons_option run []) fields
  valid : AllByRecursion IsField (put_all (cons_option run []))
  leaves : spliced_all (cons_option run []) fields ≡ after
  takes_so : length (flat_map field_bytes (taken_all (cons_option run []) fields)) ≡ takes
  puts_so : length (flat_map field_bytes (put_all (cons_option run []))) ≡ puts
  few : length (cons_option run []) ≤ 1

run_spliced : (key value : List ℕ) (items : List LayerItem) (fields : List Field) (run : Option (Splice Field)) → GivesAttribute key value items fields run → Spliced fields (with_attribute key value items fields) run (set_takes key value items fields) (bytes_put run)
run_spliced key value items fields None is = record { there = tt; valid = tt; leaves = is.makes; takes_so = is.takes; puts_so = refl; few = omega arith }
run_spliced key value items fields (Some s) is = record {
  there = (is.can.within, tt);
  valid = subst (AllByRecursion IsField) (sym (append-nil s.put)) is.can.valid_put;
  leaves = is.makes;
  takes_so = ap (λ list. length (flat_map field_bytes list)) (append-nil (part s.index s.taken fields)) ∙ is.takes;
  puts_so = ap (λ list. length (flat_map field_bytes list)) (append-nil s.put);
  few = omega arith;
}

-- ---- the command

-- the items of a layer, which were these before, once the feature at this position has the attribute
abbrev pub attributed_at : List ℕ → List ℕ → List LayerItem → ℕ → List LayerItem → List LayerItem
attributed_at key value before item items = change_at (in_feature (with_attribute key value before)) item items ++ missing_entries key value before

-- the entries that are put are those that the layer lacks
pub entries_lacked : (key value : List ℕ) (layer : Layer) (ordinals : Ordinals) → AreFound key value layer ordinals → entries_for key value ordinals ≡ missing_entries key value layer.items
entries_lacked key value layer ordinals are =
    ap (λ there. entry_unless there 26 key ++ entry_unless ordinals.value.is_there 34 value) are.key_so.there
    ∙ ap (λ there. missing_entry 26 key (contents key_field (plain_fields layer.items)) ++ entry_unless there 34 value) are.value_so.there

-- what comes first of two checks and of what follows
first_check : {A : Type 0} (first second : Result (Unit {0}) Refusal) (last : Result A Refusal) (refusal : Refusal) → (first >>= λ ok. second) ≡ Err refusal → (first >>= λ ok. (second >>= λ ok. last)) ≡ Err refusal
first_check (Ok ok) (Ok fine) last refusal is = absurd cc
first_check (Ok ok) (Err e) last refusal is = let same : e ≡ refusal = cc in ap Err same
first_check (Err e) second last refusal is = let same : e ≡ refusal = cc in ap Err same

both_checked : {A : Type 0} (first second : Result (Unit {0}) Refusal) (last : Result A Refusal) → (first >>= λ ok. second) ≡ Ok tt → (first >>= λ ok. (second >>= λ ok. last)) ≡ last
both_checked (Ok ok) (Ok fine) last is = refl
both_checked (Ok ok) (Err e) last is = absurd cc
both_checked (Err e) second last is = absurd cc

-- where memory runs out after the layer and the feature were found
pub set_ran_out : (choice : LayerChoice) (feature : FeatureChoice) (document : Document) (holder : FoundLayer) (found : FoundFeature) → IsFoundLayer choice document holder → IsFoundFeature feature (layer_of holder.layer.now) found → (key : List ℕ) (value : Value) (result : Result held.Change Refusal) → IsErrAnd result (λ refusal. refusal ≡ NoMemory) → Prepares (SetAttribute choice feature key value) document result
set_ran_out choice feature document holder found is here key value result out = ran_out (SetAttribute choice feature key value) document result out (both_found choice feature document holder found is here)

module _ (choice : LayerChoice) (key : List ℕ) (value : Value) (document : Document) (ordinal position : ℕ) (layer : Layer) (chosen : selected choice document ≡ Ok ordinal) (placed : slice_get (layer_positions document) ordinal ≡ Some position) (there : slice_get document position ≡ Some (OfLayer layer)) where
  items_here : items_of ordinal document ≡ layer.items
  items_here = items_of_found document ordinal position layer placed there

  -- where no feature is selected
  pub no_feature_gets : (feature : FeatureChoice) (refusal : Refusal) → selected_feature feature layer ≡ Err refusal → applied (SetAttribute choice feature key value) document ≡ Err refusal
  no_feature_gets feature refusal refused =
      let none = selected_in_found document ordinal position layer placed there feature ∙ refused in
      rw (chosen, none) refl

  module _ (feature : FeatureChoice) (selects item : ℕ) (found : Feature) (selected_there : selected_feature feature layer ≡ Ok selects) (feature_placed : slice_get (feature_positions layer.items) selects ≡ Some item) (feature_there : slice_get layer.items item ≡ Some (OfFeature found)) where
    selected_here : selected_in feature ordinal document ≡ Ok selects
    selected_here = selected_in_found document ordinal position layer placed there feature ∙ selected_there

    fields_here : fields_of ordinal selects document ≡ found.fields
    fields_here = fields_of_found document ordinal position layer placed there selects item found feature_placed feature_there

    pairs_here : has_pairs ordinal selects document ≡ is_some (pairs_among layer.items found.fields)
    pairs_here = ap (λ items. is_some (pairs_among items (fields_of ordinal selects document))) items_here ∙ ap (λ fields. is_some (pairs_among layer.items fields)) fields_here

    repeats_here : repeats_key key ordinal selects document ≡ nat_lt 1 (pairs_with key layer.items found.fields)
    repeats_here = ap (λ items. nat_lt 1 (pairs_with key items (fields_of ordinal selects document))) items_here ∙ ap (λ fields. nat_lt 1 (pairs_with key layer.items fields)) fields_here

    abbrev given : List Field → List Field
    given = with_attribute key (encoded_value value) layer.items

    abbrev entries : List LayerItem
    entries = missing_entries key (encoded_value value) layer.items

    abbrev whole : List LayerItem → List LayerItem
    whole items = attributed_at key (encoded_value value) layer.items item items

    made_there : change_layer (attributed key (encoded_value value) selects) ordinal document ≡ change_items whole position document
    made_there =
        let same : attributed key (encoded_value value) selects layer.items ≡ whole layer.items = ap (λ items. items ++ entries) (change_nth_found is_feature (in_feature given) layer.items selects item feature_placed) in
        change_layer_found document ordinal position layer placed there (attributed key (encoded_value value) selects)
        ∙ (list_part (OfTheLayer position) document).alike (attributed key (encoded_value value) selects) whole (subst (λ o. IfSome o (λ items. attributed key (encoded_value value) selects items ≡ whole items)) (sym (items_at_found document ordinal position layer placed there)) same)

    checks : applied (SetAttribute choice feature key value) document ≡ (refuse_if (not (is_some (pairs_among layer.items found.fields))) (BadTags ordinal selects) >>= λ readable. (refuse_if (nat_lt 1 (pairs_with key layer.items found.fields)) (RepeatedKey ordinal selects) >>= λ once. within_limit (change_items whole position document)))
    checks = rw (chosen, selected_here, pairs_here, repeats_here, made_there) refl

    -- where the tags are refused
    pub tags_refused : (refusal : Refusal) → attribute_checked key ordinal selects layer.items found.fields ≡ Err refusal → applied (SetAttribute choice feature key value) document ≡ Err refusal
    tags_refused refusal refused = checks ∙ first_check (refuse_if (not (is_some (pairs_among layer.items found.fields))) (BadTags ordinal selects)) (refuse_if (nat_lt 1 (pairs_with key layer.items found.fields)) (RepeatedKey ordinal selects)) (within_limit (change_items whole position document)) refusal refused

    module _ (checked : attribute_checked key ordinal selects layer.items found.fields ≡ Ok tt) where
      limited : applied (SetAttribute choice feature key value) document ≡ within_limit (change_items whole position document)
      limited = checks ∙ both_checked (refuse_if (not (is_some (pairs_among layer.items found.fields))) (BadTags ordinal selects)) (refuse_if (nat_lt 1 (pairs_with key layer.items found.fields)) (RepeatedKey ordinal selects)) (within_limit (change_items whole position document)) checked

      -- where no file can hold the tile
      pub set_too_large : nat_lt MAX_FILE (length (bytes_of (change_items whole position document))) ≡ true → applied (SetAttribute choice feature key value) document ≡ Err TooLarge
      set_too_large large = limited ∙ rw large refl

      weight_here : (weight_of : List LayerItem → List Field → ℕ) → set_weight weight_of choice feature document ≡ weight_of layer.items found.fields
      weight_here weight_of =
          ap (λ result. of_selected result (λ ordinal. of_selected (selected_in feature ordinal document) (λ selects. weight_of (items_of ordinal document) (fields_of ordinal selects document)))) chosen
          ∙ ap (λ result. of_selected result (λ selects. weight_of (items_of ordinal document) (fields_of ordinal selects document))) selected_here
          ∙ ap (λ items. weight_of items (fields_of ordinal selects document)) items_here
          ∙ ap (weight_of layer.items) fields_here

      -- the steps, if one can
      pub attribute_set : nat_lt MAX_FILE (length (bytes_of (change_items whole position document))) ≡ false → (run : Option (Splice Field)) → GivesAttribute key (encoded_value value) layer.items found.fields run → (change : Change) → change ≡ map (in_feature_at position item) (cons_option run []) ++ appended position layer.items entries → IsPrepared (SetAttribute choice feature key value) document change
      attribute_set fits run gives change steps =
          let v = encoded_value value in
          let first = map (in_feature_at position item) (cons_option run []) in
          let splices = following entries (length layer.items) in
          let second = map (in_layer_at position) splices in
          let half = change_fields given position item document in
          let changed = change_at (in_feature given) item layer.items in
          let fields_at_there = fields_at_found document ordinal position layer placed there selects item found feature_placed feature_there in
          let of_run = run_spliced key v layer.items found.fields run gives in
          let of_fields = in_the_feature position item in
          let a = carried of_fields document found.fields fields_at_there (cons_option run []) of_run.there of_run.valid in
          let to_half : Leads first document half (bytes_put run) (set_takes key v layer.items found.fields) = record {
            fits = a.fits;
            makes = a.makes ∙ makes_alike of_fields document found.fields fields_at_there given (cons_option run []) of_run.leaves;
            puts_so = a.puts ∙ of_run.puts_so;
            takes_so = a.takes ∙ of_run.takes_so;
          } in
          let of_items = in_the_layer position in
          let changed_there : items_at position half ≡ Some changed = (of_items.is_part document).found (change_at (in_feature given) item) ∙ ap (option_map (change_at (in_feature given) item)) (items_at_found document ordinal position layer placed there) in
          let of_entries = after_spliced entries (length layer.items) changed (changed_long (in_feature given) item layer.items) in
          let b = carried of_items half changed changed_there splices of_entries.there (subst (AllByRecursion IsLayerItem) (sym of_entries.puts) (entries_valid key v layer.items)) in
          let to_made : Leads second half (change_items whole position document) (weigh layer_item_bytes entries) 0 = record {
            fits = b.fits;
            makes = b.makes ∙ makes_alike of_items half changed changed_there (λ items. items ++ entries) splices of_entries.leaves ∙ (list_part (OfTheLayer position) document).twice (change_at (in_feature given) item) (λ items. items ++ entries);
            puts_so = b.puts ∙ ap (λ list. length (flat_map layer_item_bytes list)) of_entries.puts;
            takes_so = b.takes ∙ ap (λ list. length (flat_map layer_item_bytes list)) of_entries.takes;
          } in
          let both = both_lead first second document half (change_items whole position document) _ _ _ _ to_half to_made in
          let joined : change ≡ first ++ second = steps ∙ ap (λ more. first ++ more) (following_steps position layer.items entries) in
          let takes = weight_here (set_takes key v) in
          let puts = weight_here (set_puts key v) in
          let given_puts = gives.puts in
          let few = of_run.few in
          let few_entries = of_entries.few in
          let heavy = entries_heavy key v layer.items in
          let means : applied (SetAttribute choice feature key value) document ≡ Ok (change_items whole position document) = limited ∙ rw fits refl in
          rw joined (record {
            fits = both.fits;
            means = means ∙ ap Ok (sym both.makes);
            puts = omega (arith, both.puts_so, given_puts, puts);
            takes = omega (arith, both.takes_so, takes);
            steps = omega (arith, length-append first second, length-map (cons_option run []) (in_feature_at position item), length-map splices (in_layer_at position), few, few_entries, heavy, given_puts, puts);
            one = λ is. absurd cc;
          })
