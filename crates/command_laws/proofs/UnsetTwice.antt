-- Unsetting a key twice is unsetting it once.
use Rattle.std.proofs.Common.{◌≡◌, ℕ, zero, suc, ◌<◌, true, ◌||◌, not, is_some, Option, Some, None, Ok, List, [], ◌∷◌, length, map, slice_get, get_or, refl, sym, ap, ◌∙◌, arith}
use Rattle.std.proofs.lemmas.Bool.{not-false}
use Rattle.std.proofs.lemmas.Option.{slice_get-get_or}
use Rattle.std.specs.List.{list_any}
use Rattle.std.specs.Option.{option_and_then}
use Rattle.mvt_document.specs.Plain.{Field, Feature, LayerItem, OfFeature, PlainInLayer, Layer}
use Rattle.mvt_document.specs.Lists.{change_at}
use Rattle.mvt_document.specs.Places.{in_feature, in_layer}
use Rattle.mvt_meaning.specs.Command.{FeatureChoice}
use Rattle.mvt_messages.specs.Found.{found_features}
use Rattle.mvt_messages.specs.Views.{feature_in, features, features_in, id_of, plain_fields}
use Rattle.mvt_layers.proofs.Placing.{found_count}
use Rattle.mvt_meaning.specs.Ordinals.{change_nth}
use Rattle.mvt_meaning.specs.Selection.{feature_positions, is_feature, selected, selected_feature, selected_in}
use Rattle.mvt_meaning.specs.Tagging.{is_key, pairs_among, removals, without_attribute}
use Rattle.mvt_meaning.specs.Meaning.{◌>>=◌, change_feature, fields_of, has_key, has_pairs, items_of, refuse_if}
use Rattle.mvt_meaning.specs.declared.refusal.Refusal.TheVariants.{BadTags, NoKey}
use Rattle.mvt_meaning.proofs.Found.{change_feature_found, change_layer_found, change_nth_found, fields_changed, fields_of_found, items_changed, items_of_found, selected_in_found}
use Rattle.mvt_meaning.proofs.Selecting.{selected_feature_within}
use Rattle.command_laws.proofs.Accepted.{accepted, not_refused}
use Rattle.command_laws.proofs.OtherFields.{others_stay}
use Rattle.command_laws.proofs.Parts.{changes_feature, with_fields}
use Rattle.mvt_select.proofs.Chosen.{the_one_selected}
use Rattle.mvt_select.proofs.Selected.{stands}
use Rattle.command_laws.specs.AttributeLaws.{UnsetAgainChangesNothing}
use Rattle.command_laws.proofs.Ids.{id_same}
use Rattle.command_laws.proofs.SameSelected.{same_feature}
use Rattle.command_laws.proofs.Twice.{done, fields_beside, pairs_by_fields, same_selected, stays_at, without_by_fields}

-- ---- the id of a feature

id_stays : (key : List ℕ) (items : List LayerItem) (feature : Feature) → id_of (with_fields (without_attribute key items) feature) ≡ id_of feature
id_stays key items feature = id_same feature (with_fields (without_attribute key items) feature) (others_stay 2 (removals key items feature.fields) feature.fields)

-- ---- a layer with a feature changed

module _ (change : List Field → List Field) where
  plain_at : (position : ℕ) (items : List LayerItem) → plain_fields (change_at (in_feature change) position items) ≡ plain_fields items
  plain_at position [] = refl
  plain_at zero (OfFeature feature ∷ items) = refl
  plain_at zero (PlainInLayer field ∷ items) = refl
  plain_at (suc position) (OfFeature feature ∷ items) = plain_at position items
  plain_at (suc position) (PlainInLayer field ∷ items) = ap (λ rest. field ∷ rest) (plain_at position items)

  keys_at : (key : List ℕ) (position : ℕ) (items : List LayerItem) → list_any (is_key key) (change_at (in_feature change) position items) ≡ list_any (is_key key) items
  keys_at key position [] = refl
  keys_at key zero (OfFeature feature ∷ items) = refl
  keys_at key zero (PlainInLayer field ∷ items) = refl
  keys_at key (suc position) (item ∷ items) = ap (λ rest. is_key key item || rest) (keys_at key position items)

  ids_at : ((feature : Feature) → id_of (with_fields change feature) ≡ id_of feature) → (position : ℕ) (items : List LayerItem) → map id_of (features_in (change_at (in_feature change) position items)) ≡ map id_of (features_in items)
  ids_at same position [] = refl
  ids_at same zero (OfFeature feature ∷ items) = ap (λ first. first ∷ map id_of (features_in items)) (same feature)
  ids_at same zero (PlainInLayer field ∷ items) = refl
  ids_at same (suc position) (OfFeature feature ∷ items) = ap (λ rest. id_of feature ∷ rest) (ids_at same position items)
  ids_at same (suc position) (PlainInLayer field ∷ items) = ids_at same position items

  at_twice : (position : ℕ) (items : List LayerItem) (feature : Feature) → slice_get items position ≡ Some (OfFeature feature) → change (change feature.fields) ≡ change feature.fields → change_at (in_feature change) position (change_at (in_feature change) position items) ≡ change_at (in_feature change) position items
  at_twice position [] feature is once = refl
  at_twice zero (item ∷ items) feature is once =
      let with_these : List Field → LayerItem = λ fields. OfFeature (record { tag = feature.tag; width = feature.width; fields = fields }) in
      let here : item ≡ OfFeature feature = cc in
      ap (λ first. in_feature change (in_feature change first) ∷ items) here ∙ ap (λ fields. with_these fields ∷ items) once ∙ ap (λ first. in_feature change first ∷ items) (sym here)
  at_twice (suc position) (item ∷ items) feature is once = ap (λ rest. item ∷ rest) (at_twice position items feature is once)

-- the selected feature, and where it is
record TheFeature (layer : Layer) (index : ℕ) : Type 0 where
  item : ℕ
  feature : Feature
  placed : slice_get (feature_positions layer.items) index ≡ Some item
  there : slice_get layer.items item ≡ Some (OfFeature feature)

feature_there : (item : Option LayerItem) (feature : Feature) → option_and_then feature_in item ≡ Some feature → item ≡ Some (OfFeature feature)
feature_there None feature e = absurd cc
feature_there (Some (OfFeature there)) feature e = let same : there ≡ feature = cc in ap (λ f. Some (OfFeature f)) same
feature_there (Some (PlainInLayer field)) feature e = absurd cc

the_feature : (choice : FeatureChoice) (layer : Layer) (index : ℕ) → selected_feature choice layer ≡ Ok index → TheFeature layer index
the_feature choice layer index selects =
    let count = found_count feature_in layer.items in
    let within : index < length (found_features layer.items) = omega (arith, selected_feature_within choice layer index selects, count) in
    let found = get_or (found_features layer.items) index (0, (0, record { tag = record { value = 0; width = 0 }; width = 0; fields = [] })) in
    let at = stands feature_in layer.items index found (slice_get-get_or (found_features layer.items) index _ within) in
    record {
      item = found.1.0;
      feature = found.1.1;
      placed = ap (slice_get (feature_positions layer.items)) (sym at.ordinal) ∙ at.placed;
      there = feature_there (slice_get layer.items found.1.0) found.1.1 at.there;
    }

-- ---- the document

pub unset_again_changes_nothing : UnsetAgainChangesNothing
unset_again_changes_nothing choice feature key old new e =
    let by_old : ℕ → List Field → List Field = λ ordinal. without_attribute key (items_of ordinal old) in
    let selects = accepted (selected choice old) (λ ordinal. selected_in feature ordinal old >>= λ selects. refuse_if (not (has_key key ordinal old)) NoKey >>= λ there. refuse_if (not (has_pairs ordinal selects old)) (BadTags ordinal selects) >>= λ readable. Ok (change_feature (by_old ordinal) ordinal selects old)) new e in
    let ordinal = selects.0 in
    let found = accepted (selected_in feature ordinal old) (λ found. refuse_if (not (has_key key ordinal old)) NoKey >>= λ there. refuse_if (not (has_pairs ordinal found old)) (BadTags ordinal found) >>= λ readable. Ok (change_feature (by_old ordinal) ordinal found old)) new selects.2 in
    let index = found.0 in
    let there = accepted (refuse_if (not (has_key key ordinal old)) NoKey) (λ there. refuse_if (not (has_pairs ordinal index old)) (BadTags ordinal index) >>= λ readable. Ok (change_feature (by_old ordinal) ordinal index old)) new found.2 in
    let readable = accepted (refuse_if (not (has_pairs ordinal index old)) (BadTags ordinal index)) (λ readable. Ok (change_feature (by_old ordinal) ordinal index old)) new there.2 in
    let key_there = not-false (has_key key ordinal old) (not_refused (not (has_key key ordinal old)) NoKey there.0 there.1) in
    let pairs_there = not-false (has_pairs ordinal index old) (not_refused (not (has_pairs ordinal index old)) (BadTags ordinal index) readable.0 readable.1) in
    let made_so : change_feature (by_old ordinal) ordinal index old ≡ new = let same = readable.2 in cc in
    let was = the_one_selected choice old ordinal selects.1 in
    let layer = was.layer in
    let chosen : selected_feature feature layer ≡ Ok index = sym (selected_in_found old ordinal was.position layer was.placed was.there feature) ∙ found.1 in
    let at = the_feature feature layer index chosen in
    let fields = at.feature.fields in
    let items : items_of ordinal old ≡ layer.items = items_of_found old ordinal was.position layer was.placed was.there in
    let its_fields : fields_of ordinal index old ≡ fields = fields_of_found old ordinal was.position layer was.placed was.there index at.item at.feature at.placed at.there in
    let change : List Field → List Field = without_attribute key layer.items in
    let made : change_feature change ordinal index old ≡ new = ap (λ list. change_feature (without_attribute key list) ordinal index old) (sym items) ∙ made_so in
    let read : is_some (pairs_among layer.items fields) ≡ true =
    sym (ap (λ list. is_some (pairs_among list (fields_of ordinal index old))) items ∙ ap (λ list. is_some (pairs_among layer.items list)) its_fields) ∙ pairs_there in
    let inner : List LayerItem → List LayerItem = change_at (in_feature change) at.item in
    let nth : List LayerItem → List LayerItem = change_nth is_feature (in_feature change) index in
    let nth_there : nth layer.items ≡ inner layer.items = change_nth_found is_feature (in_feature change) layer.items index at.item at.placed in
    let moved : new ≡ change_at (in_layer inner) was.position old = sym made ∙ change_feature_found old ordinal was.position layer was.placed was.there index at.item at.feature at.placed at.there change in
    let still : selected choice new ≡ Ok ordinal = ap (selected choice) moved ∙ same_selected choice (change_at (in_layer inner) was.position old) old (fields_beside inner (plain_at change at.item) was.position old) ∙ selects.1 in
    let new_items : items_of ordinal new ≡ inner layer.items = ap (items_of ordinal) (sym made) ∙ items_changed old ordinal was.position layer was.placed was.there nth ∙ nth_there in
    let new_fields : fields_of ordinal index new ≡ change fields = ap (fields_of ordinal index) (sym made) ∙ fields_changed old ordinal was.position layer was.placed was.there index at.item at.feature at.placed at.there change in
    let same_plain : plain_fields (items_of ordinal new) ≡ plain_fields layer.items = ap (λ list. plain_fields list) new_items ∙ plain_at change at.item layer.items in
    let is = the_one_selected choice new ordinal still in
    let is_items : is.layer.items ≡ inner layer.items = sym (items_of_found new ordinal is.position is.layer is.placed is.there) ∙ new_items in
    let ids : map id_of (features is.layer) ≡ map id_of (features layer) = ap (λ list. map id_of (features_in list)) is_items ∙ ids_at change (id_stays key layer.items) at.item layer.items in
    let still_in : selected_in feature ordinal new ≡ Ok index = selected_in_found new ordinal is.position is.layer is.placed is.there feature ∙ same_feature feature is.layer layer ids ∙ chosen in
    let still_key : has_key key ordinal new ≡ true = ap (list_any (is_key key)) new_items ∙ keys_at change key at.item layer.items ∙ sym (ap (list_any (is_key key)) items) ∙ key_there in
    let finished = done key layer.items fields read in
    let still_pairs : has_pairs ordinal index new ≡ true =
    ap (λ list. is_some (pairs_among (items_of ordinal new) list)) new_fields ∙ ap is_some (pairs_by_fields (items_of ordinal new) layer.items same_plain (change fields)) ∙ finished.readable in
    let kept = changes_feature feature (λ former present. Unit {0}) change layer index chosen (λ former former_there. tt) in
    let placed_again : slice_get (feature_positions (nth layer.items)) index ≡ Some at.item = ap (λ positions. slice_get positions index) kept.alone.positions ∙ at.placed in
    let nth_twice : nth (nth layer.items) ≡ nth layer.items =
    change_nth_found is_feature (in_feature change) (nth layer.items) index at.item placed_again ∙ ap inner nth_there ∙ at_twice change at.item layer.items at.feature at.there finished.once ∙ sym nth_there in
    let nth_still : nth is.layer.items ≡ is.layer.items = ap nth (is_items ∙ sym nth_there) ∙ nth_twice ∙ nth_there ∙ sym is_items in
    let stays : change_feature (without_attribute key (items_of ordinal new)) ordinal index new ≡ new =
    ap (λ way. change_feature way ordinal index new) (without_by_fields (items_of ordinal new) layer.items same_plain key)
    ∙ change_layer_found new ordinal is.position is.layer is.placed is.there nth ∙ stays_at nth is.position new is.layer is.there nth_still in
    rw (still, still_in, still_key, still_pairs) (ap Ok stays)
