-- What the items of a layer and the fields of a feature weigh is within what the tile weighs; and what fields weigh in
-- which numbers go or get other values, before and after.
use Rattle.std.proofs.Common.{◌≡◌, ℕ, zero, suc, ◌+◌, ◌/◌, ◌<◌, ◌≤◌, Bool, true, false, ◌==◌, cond, is_some, Option, Some, None, Ok, Err, List, [], ◌∷◌, ◌++◌, length, length-append, map, filter, take, drop, slice_get, sum_by, refl, sym, ap, ◌∙◌, inl, inr, arith}
use Rattle.std.specs.List.{cons_option, flat_map}
use Rattle.std.specs.Option.{option_map_or}
use Rattle.std.proofs.lemmas.Bool.{cases_Bool, cond_both, eqb-true}
use Rattle.std.proofs.lemmas.List.{map-append}
use Rattle.std.proofs.lemmas.List.Concat.{flat_map-append}
use Rattle.std.proofs.lemmas.List.Sums.{sum_by-cons, sum_by-le-sum_by}
use Rattle.mvt_document.specs.Plain.{Number, Field, Feature, LayerItem, OfFeature, PlainInLayer, Layer, OfLayer, PlainInTile, Document}
use Rattle.mvt_document.specs.Places.{fields_in, in_feature}
use Rattle.mvt_document.specs.Wire.{bytes_of, delimited, field_bytes, layer_item_bytes, spelling, tile_item_bytes}
use Rattle.mvt_document.proofs.Sizes.{length-message}
use Rattle.mvt_messages.specs.Views.{content_of, feature_in, features_in, key_field, layer_in, layers, plain_in, value_field}
use Rattle.mvt_renumber.specs.Renumbering.{decided, field_numbers, renumber, renumbered, renumbered_field, with_left}
use Rattle.mvt_renumber.proofs.Decisions.{renumbered-none, renumbered_more}
use Rattle.mvt_meaning.specs.Command.{FeatureChoice}
use Rattle.mvt_meaning.specs.Compaction.{is_entry, staying}
use Rattle.mvt_meaning.specs.Decided.{as_before, as_renumbered, is_renumbered, renumbered_fields}
use Rattle.mvt_meaning.specs.Meaning.{change_layer, fields_of, items_of}
use Rattle.mvt_meaning.specs.Ordinals.{change_nth}
use Rattle.mvt_meaning.specs.Selection.{is_feature, selected_feature, selected_in}
use Rattle.mvt_meaning.specs.Weights.{weigh}
use Rattle.mvt_meaning.specs.declared.refusal.Refusal.TheVariants.{NoLayer}
use Rattle.mvt_meaning.proofs.Selecting.{selected_feature_within}
use Rattle.command_laws.proofs.Around.{around, one_differs}
use Rattle.command_laws.proofs.ListWeights.{seen_weighs, weigh_joined}
use Rattle.command_laws.proofs.Parts.{feature_apart, feature_given, fields_there, items_there, layer_differs, with_fields, with_items}

-- ---- within a tile

pub message_within : (tag : Number) (width : ℕ) (bytes : List ℕ) → length bytes ≤ length (spelling tag ++ delimited width bytes)
message_within tag width bytes = omega (arith, length-message tag.value tag.width width bytes)

feature_within : (feature : Feature) → weigh field_bytes feature.fields ≤ length (layer_item_bytes (OfFeature feature))
feature_within feature = message_within feature.tag feature.width (flat_map field_bytes feature.fields)

layer_within : (layer : Layer) → weigh layer_item_bytes layer.items ≤ length (tile_item_bytes (OfLayer layer))
layer_within layer = message_within layer.tag layer.width (flat_map layer_item_bytes layer.items)

-- the items of the layer of an ordinal
pub items_within : (ordinal : ℕ) (document : Document) → weigh layer_item_bytes (items_of ordinal document) ≤ length (bytes_of document)
items_within ordinal [] = omega arith
items_within zero (OfLayer layer ∷ document) = omega (arith, layer_within layer, length-append (tile_item_bytes (OfLayer layer)) (bytes_of document))
items_within (suc ordinal) (OfLayer layer ∷ document) =
    omega (arith, items_within ordinal document, length-append (tile_item_bytes (OfLayer layer)) (bytes_of document))
items_within ordinal (PlainInTile field ∷ document) =
    omega (arith, items_within ordinal document, length-append (tile_item_bytes (PlainInTile field)) (bytes_of document))

-- the fields of the feature of an ordinal among the items of a layer
abbrev fields_among : ℕ → List LayerItem → List Field
fields_among index items = option_map_or (λ item. option_map_or (λ (fields : List Field). fields) (fields_in item) []) (slice_get (filter is_feature items) index) []

among_within : (index : ℕ) (items : List LayerItem) → weigh field_bytes (fields_among index items) ≤ weigh layer_item_bytes items
among_within index [] = omega arith
among_within zero (OfFeature feature ∷ items) =
    omega (arith, feature_within feature, length-append (layer_item_bytes (OfFeature feature)) (flat_map layer_item_bytes items))
among_within (suc index) (OfFeature feature ∷ items) =
    omega (arith, among_within index items, length-append (layer_item_bytes (OfFeature feature)) (flat_map layer_item_bytes items))
among_within index (PlainInLayer field ∷ items) =
    omega (arith, among_within index items, length-append (layer_item_bytes (PlainInLayer field)) (flat_map layer_item_bytes items))

pub fields_within : (ordinal index : ℕ) (document : Document) → weigh field_bytes (fields_of ordinal index document) ≤ length (bytes_of document)
fields_within ordinal index document = omega (arith, among_within index (items_of ordinal document), items_within ordinal document)

-- ---- after a change of a layer or of a feature

items_made : (change : List LayerItem → List LayerItem) (document : Document) (ordinal : ℕ) → ordinal < length (layers document) → items_of ordinal (change_layer change ordinal document) ≡ change (items_of ordinal document)
items_made change document ordinal there =
    let a = around layer_in document ordinal there in
    let d = layer_differs change ordinal document a in
    items_there (change_layer change ordinal document) ordinal (with_items change a.value) d.is
    ∙ ap change (sym (items_there document ordinal a.value d.was))

-- the changed items of a layer are within the changed tile
pub made_within : (change : List LayerItem → List LayerItem) (document : Document) (ordinal : ℕ) → ordinal < length (layers document) → weigh layer_item_bytes (change (items_of ordinal document)) ≤ length (bytes_of (change_layer change ordinal document))
made_within change document ordinal there =
    omega (arith, items_within ordinal (change_layer change ordinal document), ap (weigh layer_item_bytes) (items_made change document ordinal there))

-- the changed fields of a feature are within the changed items of its layer
pub redone_within : (change : List Field → List Field) (index : ℕ) (items : List LayerItem) → index < length (features_in items) → weigh field_bytes (change (fields_among index items)) ≤ weigh layer_item_bytes (change_nth is_feature (in_feature change) index items)
redone_within change index items there =
    let made = change_nth is_feature (in_feature change) index items in
    let a = around feature_in items index there in
    let d = one_differs feature_in plain_in feature_apart (in_feature change) index items a (with_fields change a.value) (feature_given change a.item a.value a.has) in
    let is : fields_among index made ≡ change (fields_among index items) =
    fields_there made index (with_fields change a.value) d.is ∙ ap change (sym (fields_there items index a.value d.was)) in
    omega (arith, among_within index made, ap (weigh field_bytes) is)

there_in : (choice : FeatureChoice) (found : Option Layer) (index : ℕ) → option_map_or (selected_feature choice) found (Err NoLayer) ≡ Ok index → index < length (features_in (option_map_or (λ (layer : Layer). layer.items) found []))
there_in choice None index is = absurd cc
there_in choice (Some layer) index is = selected_feature_within choice layer index is

-- the feature that is selected is in its layer
pub feature_there : (choice : FeatureChoice) (ordinal index : ℕ) (document : Document) → selected_in choice ordinal document ≡ Ok index → index < length (features_in (items_of ordinal document))
feature_there choice ordinal index document is = there_in choice (slice_get (layers document) ordinal) index is

-- ---- fields in which numbers go or get other values

-- as they are before
pub before_within : (number : ℕ) (decisions : List (Option ℕ)) (fields : List Field) → weigh field_bytes (as_before (renumbered_fields number decisions fields)) ≤ weigh field_bytes fields
before_within number decisions [] = omega arith
before_within number decisions (field ∷ more) =
    let own = length (field_numbers number field) in
    let at : List (Option ℕ) × Field = (take own decisions, field) in
    let later = renumbered_fields number (drop own decisions) more in
    let rest = before_within number (drop own decisions) more in
    let all = length-append (field_bytes field) (flat_map field_bytes more) in
    cond_both (is_renumbered number at) (at ∷ later) later (λ found. weigh field_bytes (as_before found) ≤ weigh field_bytes (field ∷ more))
    (λ _. omega (arith, rest, all, length-append (field_bytes field) (flat_map field_bytes (as_before later))))
    (λ _. omega (arith, rest, all))

-- the decisions after those on some numbers do not matter to these
own_decisions : (decisions : List (Option ℕ)) (numbers : List Number) → renumbered (take (length numbers) decisions) numbers ≡ renumbered decisions numbers
own_decisions decisions [] = sym (renumbered-none decisions)
own_decisions [] (number ∷ numbers) = refl
own_decisions (decision ∷ decisions) (number ∷ numbers) =
    renumbered_more decision (take (length numbers) decisions) number numbers
    ∙ ap (cons_option (decided (decision, number))) (own_decisions decisions numbers)
    ∙ sym (renumbered_more decision decisions number numbers)

-- as they are after
pub after_within : (number : ℕ) (decisions : List (Option ℕ)) (fields : List Field) → weigh field_bytes (as_renumbered number (renumbered_fields number decisions fields)) ≤ weigh field_bytes (renumber number decisions fields)
after_within number decisions [] = omega arith
after_within number decisions (field ∷ more) =
    let own = field_numbers number field in
    let at : List (Option ℕ) × Field = (take (length own) decisions, field) in
    let next = drop (length own) decisions in
    let later = renumbered_fields number next more in
    let left = renumbered_field number decisions field in
    let first = weigh_joined field_bytes (renumbered_field number at.0 field) (as_renumbered number later) in
    let same = ap (λ (numbers : List Number). weigh field_bytes (with_left field own numbers)) (own_decisions decisions own) in
    let all = weigh_joined field_bytes left (renumber number next more) in
    let rest = after_within number next more in
    cond_both (is_renumbered number at) (at ∷ later) later (λ found. weigh field_bytes (as_renumbered number found) ≤ weigh field_bytes (left ++ renumber number next more))
    (λ _. omega (arith, rest, all, first, same))
    (λ _. omega (arith, rest, all))

-- ---- the parts of a layer

-- what the fields of a feature weigh
abbrev pub fields_weight : Feature → ℕ
fields_weight feature = weigh field_bytes feature.fields

-- what only fields of a number have, no field of another has
of_number : {B : Type 0} (number n : ℕ) (content : Option B) → is_some (cond (n == number) content None) ≡ true → n ≡ number
of_number number n content some =
    elim (cases_Bool (n == number)) [ inl own ↦ eqb-true n number own | inr other ↦ absurd (let none = rw other at some in cc) ]

pub of_no_other : {B C : Type 0} (number other n : ℕ) (content : Option B) (also : Option C) → (number == other) ≡ false → is_some (cond (n == number) content None) ≡ true → is_some (cond (n == other) also None) ≡ false
of_no_other number other n content also apart some =
    let no : (n == other) ≡ false = ap (λ (m : ℕ). m == other) (of_number number n content some) ∙ apart in
    rw no refl

key_or_value : (item : LayerItem) → is_entry key_field item ≡ true → is_entry value_field item ≡ false
key_or_value (OfFeature feature) is = refl
key_or_value (PlainInLayer field) is = of_no_other 3 4 (field.tag.value / 8) (content_of field.body) (content_of field.body) refl is

-- the keys, the values and the fields of the features of a layer
pub parts_within : (items : List LayerItem) → weigh layer_item_bytes (filter (is_entry key_field) items) + weigh layer_item_bytes (filter (is_entry value_field) items) + sum_by fields_weight (features_in items) ≤ weigh layer_item_bytes items
parts_within [] = omega arith
parts_within (OfFeature feature ∷ items) =
    omega (arith, parts_within items, feature_within feature, length-append (layer_item_bytes (OfFeature feature)) (flat_map layer_item_bytes items), sum_by-cons fields_weight feature (features_in items))
parts_within (PlainInLayer field ∷ items) =
    let item : LayerItem = PlainInLayer field in
    let keys = filter (is_entry key_field) items in
    let values = filter (is_entry value_field) items in
    let rest = parts_within items in
    let all = length-append (layer_item_bytes item) (flat_map layer_item_bytes items) in
    elim (cases_Bool (is_entry key_field item)) [
      | inl key ↦ (let none = key_or_value item key in rw (key, none) (omega (arith, rest, all, length-append (layer_item_bytes item) (flat_map layer_item_bytes keys))))
      | inr other ↦ rw other (elim (cases_Bool (is_entry value_field item)) [
        | inl value ↦ rw value (omega (arith, rest, all, length-append (layer_item_bytes item) (flat_map layer_item_bytes values)))
        | inr none ↦ rw none (omega (arith, rest, all))
      ])
    ]

pub features_within : (items : List LayerItem) → sum_by fields_weight (features_in items) ≤ weigh layer_item_bytes items
features_within items = omega (arith, parts_within items)

-- the features, each with its fields changed
pub features_changed : (change : List Field → List Field) (items : List LayerItem) → sum_by fields_weight (features_in (map (in_feature change) items)) ≡ sum_by (λ (feature : Feature). weigh field_bytes (change feature.fields)) (features_in items)
features_changed change [] = refl
features_changed change (OfFeature feature ∷ items) =
    omega (arith, features_changed change items, sum_by-cons fields_weight (with_fields change feature) (features_in (map (in_feature change) items)), sum_by-cons (λ (feature : Feature). weigh field_bytes (change feature.fields)) feature (features_in items))
features_changed change (PlainInLayer field ∷ items) = features_changed change items

-- the features stay where some keys or values go
pub features_staying : (number : ℕ) (stays : ℕ → Bool) (ordinal : ℕ) (items : List LayerItem) → features_in (staying (is_entry number) stays ordinal items) ≡ features_in items
features_staying number stays ordinal [] = refl
features_staying number stays ordinal (OfFeature feature ∷ items) = ap (λ rest. feature ∷ rest) (features_staying number stays ordinal items)
features_staying number stays ordinal (PlainInLayer field ∷ items) =
    let item : LayerItem = PlainInLayer field in
    let following = staying (is_entry number) stays (ordinal + 1) items in
    let rest = staying (is_entry number) stays ordinal items in
    cond_both (is_entry number item) (cond (stays ordinal) (item ∷ following) following) (item ∷ rest) (λ left. features_in left ≡ features_in items)
    (λ _. cond_both (stays ordinal) (item ∷ following) following (λ left. features_in left ≡ features_in items)
    (λ _. features_staying number stays (ordinal + 1) items)
    (λ _. features_staying number stays (ordinal + 1) items))
    (λ _. features_staying number stays ordinal items)

-- the fields of all features in which numbers go or get other values
module _ (number : ℕ) (decisions : List Field → List (Option ℕ)) where
  abbrev changing : Feature → List (List (Option ℕ) × Field)
  changing feature = renumbered_fields number (decisions feature.fields) feature.fields

  pub features_before : (features : List Feature) → weigh field_bytes (as_before (flat_map changing features)) ≤ sum_by fields_weight features
  features_before features =
      let joined = seen_weighs field_bytes as_before refl (map-append (λ (at : List (Option ℕ) × Field). at.1)) changing features in
      let less = sum_by-le-sum_by (λ feature. weigh field_bytes (as_before (changing feature))) fields_weight features (λ feature. before_within number (decisions feature.fields) feature.fields) in
      omega (arith, joined, less)

  pub features_after : (features : List Feature) → weigh field_bytes (as_renumbered number (flat_map changing features)) ≤ sum_by (λ (feature : Feature). weigh field_bytes (renumber number (decisions feature.fields) feature.fields)) features
  features_after features =
      let joined = seen_weighs field_bytes (as_renumbered number) refl (flat_map-append (λ (at : List (Option ℕ) × Field). renumbered_field number at.0 at.1)) changing features in
      let less = sum_by-le-sum_by (λ feature. weigh field_bytes (as_renumbered number (changing feature))) (λ (feature : Feature). weigh field_bytes (renumber number (decisions feature.fields) feature.fields)) features (λ feature. after_within number (decisions feature.fields) feature.fields) in
      omega (arith, joined, less)
