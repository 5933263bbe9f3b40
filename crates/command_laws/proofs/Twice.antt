-- Excluding a key twice is excluding it once.
use Rattle.std.proofs.Common.{◌≡◌, ℕ, zero, suc, ◌+◌, Bool, true, false, not, is_some, Option, Some, None, Ok, List, [], ◌∷◌, ◌++◌, length, map, filter, slice_get, option_map, refl, sym, ap, ◌∙◌, subst, inl, inr}
use Rattle.std.proofs.lemmas.Bool.{cases_Bool}
use Rattle.std.proofs.lemmas.Simd.{map-map}
use Rattle.std.specs.List.{AllByRecursion, enumerate_from, filter_map, flat_map, last_or}
use Rattle.std.specs.Option.{option_map_or}
use Rattle.std.specs.Str.{bytes_eq}
use Rattle.mvt_document.specs.Plain.{Number, Field, Feature, LayerItem, OfFeature, PlainInLayer, Layer, TileItem, OfLayer, PlainInTile, Document}
use Rattle.mvt_document.specs.Lists.{change_at}
use Rattle.mvt_document.specs.Places.{in_feature, in_layer}
use Rattle.mvt_document.proofs.Options.{some_is}
use Rattle.mvt_meaning.specs.Command.{LayerChoice, LayersChoice, TheLayer, EachLayer, Exclude}
use Rattle.mvt_renumber.specs.Laws.{keeping}
use Rattle.mvt_messages.specs.Numbers.{Placed, numbers}
use Rattle.mvt_renumber.specs.Renumbering.{field_numbers, renumber}
use Rattle.mvt_renumber.proofs.Redone.{kept_stays}
use Rattle.mvt_renumber.proofs.Reread.{read_of_fields}
use Rattle.mvt_messages.specs.Attributes.{pairs_in, pairs_of}
use Rattle.mvt_messages.specs.Found.{with_position}
use Rattle.mvt_messages.specs.Views.{contents, features_in, key_field, layer_in, layers, plain_fields, value_field}
use Rattle.mvt_meaning.specs.Selection.{selected, selected_layers}
use Rattle.mvt_meaning.specs.Tagging.{excluded, is_key_at, pairs_among, unreadable, without_attribute, without_pairs}
use Rattle.mvt_meaning.specs.Meaning.{◌>>=◌, applied, change_layer, change_layers, refuse_first}
use Rattle.mvt_meaning.proofs.Found.{change_layer_found, layer_found}
use Rattle.mvt_meaning.proofs.Removals.{flat, make_pairs}
use Rattle.command_laws.proofs.Accepted.{accepted}
use Rattle.command_laws.proofs.Parts.{with_items}
use Rattle.command_laws.proofs.ReadValues.{value_list}
use Rattle.mvt_select.proofs.Chosen.{the_one_selected}
use Rattle.command_laws.specs.AttributeLaws.{ExcludeAgainChangesNothing}
use Rattle.command_laws.specs.ChangedLayers.{IsSelected}
use Rattle.command_laws.proofs.EachFeature.{fields_stay}
use Rattle.command_laws.proofs.Excluded.{pairs_staying, staying}
use Rattle.command_laws.proofs.ChangedLayers.{layers_change, some_same}
use Rattle.command_laws.proofs.Readable.{selected_read}
use Rattle.command_laws.proofs.SameSelected.{same_layer}

-- ---- the fields of a feature

module _ (goes : ℕ → Bool) where
  -- all numbers of the pairs that stay are left
  all_stay : (pairs : List (ℕ × ℕ)) → without_pairs goes (staying goes pairs) ≡ map (λ n. Some n) (flat (staying goes pairs))
  all_stay [] = refl
  all_stay (pair ∷ pairs) =
      elim (cases_Bool (goes pair.0)) [
        | inl gone ↦ rw gone (all_stay pairs)
        | inr stays ↦ rw stays (rw stays (ap (λ rest. Some pair.0 ∷ Some pair.1 ∷ rest) (all_stay pairs)))
      ]

  fields_same : (key_count value_count : ℕ) (fields : List Field) (pairs : List (ℕ × ℕ)) → pairs_in key_count value_count (numbers 2 fields) ≡ Some (staying goes pairs) → renumber 2 (without_pairs goes (staying goes pairs)) fields ≡ fields
  fields_same key_count value_count fields pairs is =
      let made = make_pairs key_count value_count (numbers 2 fields) (staying goes pairs) is in
      let list = map (λ (p : Placed). p.number) made.placed in
      let read : flat_map (field_numbers 2) fields ≡ list = read_of_fields 2 fields list (ap (option_map (map (λ (p : Placed). p.number))) made.good) in
      let values : value_list list ≡ flat (staying goes pairs) = map-map (λ (n : Number). n.value) (λ (p : Placed). p.number) made.placed ∙ made.values in
      let kept : map (λ (n : ℕ). Some n) (value_list list) ≡ keeping list = map-map (λ (n : ℕ). Some n) (λ (n : Number). n.value) list in
      ap (λ decisions. renumber 2 decisions fields) (all_stay pairs ∙ ap (map (λ (n : ℕ). Some n)) (sym values) ∙ kept ∙ ap keeping (sym read))
      ∙ kept_stays 2 fields

-- a feature that has lost the pairs of a key has pairs, and has none to lose
pub record IsDone (key : List ℕ) (items : List LayerItem) (fields : List Field) : Type 0 where
  pub readable : is_some (pairs_among items (without_attribute key items fields)) ≡ true
  pub once : without_attribute key items (without_attribute key items fields) ≡ without_attribute key items fields

pub done : (key : List ℕ) (items : List LayerItem) (fields : List Field) → is_some (pairs_among items fields) ≡ true → IsDone key items fields
done key items fields readable =
    let key_count = length (contents key_field (plain_fields items)) in
    let value_count = length (contents value_field (plain_fields items)) in
    let goes = is_key_at items key in
    let found = some_is (pairs_among items fields) readable in
    let pairs = found.0 in
    let first : without_attribute key items fields ≡ renumber 2 (without_pairs goes pairs) fields = ap (λ found. renumber 2 (option_map_or (without_pairs goes) found []) fields) found.1 in
    let left = pairs_staying key_count value_count goes fields pairs found.1 in
    let left_too : pairs_among items (without_attribute key items fields) ≡ Some (staying goes pairs) = ap (pairs_among items) first ∙ left in
    record {
      readable = ap is_some left_too;
      once = ap (λ found. renumber 2 (option_map_or (without_pairs goes) found []) (without_attribute key items fields)) left_too
          ∙ fields_same goes key_count value_count (without_attribute key items fields) pairs left_too;
    }

-- ---- the items of a layer

-- the tags of each of these features make pairs, in a layer of these items
abbrev pub AreRead : List LayerItem → List Feature → Type 0
AreRead items list = AllByRecursion (λ (feature : Feature). is_some (pairs_among items feature.fields) ≡ true) list

module _ (key : List ℕ) (all : List LayerItem) where
  items_once : (items : List LayerItem) → AreRead all (features_in items) → map (in_feature (without_attribute key all)) (map (in_feature (without_attribute key all)) items) ≡ map (in_feature (without_attribute key all)) items
  items_once [] read = refl
  items_once (OfFeature feature ∷ items) read =
      let rest = map (in_feature (without_attribute key all)) (map (in_feature (without_attribute key all)) items) in
      let first = in_feature (without_attribute key all) (OfFeature feature) in
      let with_fields : List Field → LayerItem = λ fields. OfFeature (record { tag = feature.tag; width = feature.width; fields = fields }) in
      ap (λ fields. with_fields fields ∷ rest) (done key all feature.fields read.0).once ∙ ap (λ more. first ∷ more) (items_once items read.1)
  items_once (PlainInLayer field ∷ items) read = ap (λ more. PlainInLayer field ∷ more) (items_once items read)

  items_read : (items : List LayerItem) → AreRead all (features_in items) → AreRead all (features_in (map (in_feature (without_attribute key all)) items))
  items_read [] read = tt
  items_read (OfFeature feature ∷ items) read = ((done key all feature.fields read.0).readable, items_read items read.1)
  items_read (PlainInLayer field ∷ items) read = items_read items read

-- what is read, and what goes, depends on the fields of a layer that are not features
module _ (one other : List LayerItem) (same : plain_fields one ≡ plain_fields other) where
  pub pairs_by_fields : (fields : List Field) → pairs_among one fields ≡ pairs_among other fields
  pairs_by_fields fields = ap (λ (list : List Field). pairs_in (length (contents key_field list)) (length (contents value_field list)) (numbers 2 fields)) same

  pub without_by_fields : (key : List ℕ) → without_attribute key one ≡ without_attribute key other
  without_by_fields key =
      ap (λ (list : List Field). λ (fields : List Field). renumber 2 (option_map_or (without_pairs (λ ordinal. option_map_or (bytes_eq key) (slice_get (contents key_field list) ordinal) false)) (pairs_in (length (contents key_field list)) (length (contents value_field list)) (numbers 2 fields)) []) fields) same

  read_by_fields : (list : List Feature) → AreRead other list → AreRead one list
  read_by_fields [] read = tt
  read_by_fields (feature ∷ list) read = (ap is_some (pairs_by_fields feature.fields) ∙ read.0, read_by_fields list read.1)

-- the tags of each feature of the layer make pairs
abbrev pub IsRead : Layer → Type 0
IsRead layer = AreRead layer.items (features_in layer.items)

module _ (key : List ℕ) (layer : Layer) (read : IsRead layer) where
  excluded_once : excluded key (excluded key layer.items) ≡ excluded key layer.items
  excluded_once =
      ap (λ change. map (in_feature change) (excluded key layer.items)) (without_by_fields (excluded key layer.items) layer.items (fields_stay (without_attribute key layer.items) layer.items) key)
      ∙ items_once key layer.items layer.items read

  excluded_read : IsRead (with_items (excluded key) layer)
  excluded_read =
      read_by_fields (excluded key layer.items) layer.items (fields_stay (without_attribute key layer.items) layer.items) (features_in (excluded key layer.items)) (items_read key layer.items layer.items read)

-- ---- layers that are read

pub all_of : {A : Type 0} (P : A → Type 0) (list : List A) → ((index : ℕ) (x : A) → slice_get list index ≡ Some x → P x) → AllByRecursion P list
all_of P [] each = tt
all_of P (x ∷ list) each = (each 0 x refl, all_of P list (λ index y is. each (suc index) y is))

none_bad : {A : Type 0} (passes : A → Bool) (n : ℕ) (list : List A) → AllByRecursion (λ x. passes x ≡ true) list → filter (λ (p : ℕ × A). not (passes p.1)) (enumerate_from n list) ≡ []
none_bad passes n [] all = refl
none_bad passes n (x ∷ list) all = let pass = all.0 in rw pass (none_bad passes (n + 1) list all.1)

pub found_read : (ordinal position : ℕ) (layer : Layer) (more : List (ℕ × (ℕ × Layer))) → IsRead layer → unreadable more ≡ [] → unreadable ((ordinal, (position, layer)) ∷ more) ≡ []
found_read ordinal position layer more read rest =
    ap (λ (found : List (ℕ × Feature)). map (λ (feature : ℕ). (ordinal, feature)) (map (λ (p : ℕ × Feature). p.0) found) ++ unreadable more) (none_bad (λ feature. is_some (pairs_of layer feature)) 0 (features_in layer.items) read) ∙ rest

pub all_found_read : (k n : ℕ) (document : Document) → AllByRecursion IsRead (layers document) → unreadable (enumerate_from k (filter_map (with_position layer_in) (enumerate_from n document))) ≡ []
all_found_read k n [] read = refl
all_found_read k n (OfLayer layer ∷ document) read =
    found_read k n layer (enumerate_from (k + 1) (filter_map (with_position layer_in) (enumerate_from (n + 1) document))) read.0 (all_found_read (k + 1) (n + 1) document read.1)
all_found_read k n (PlainInTile field ∷ document) read = all_found_read k (n + 1) document read

-- ---- the same layer is selected

-- the fields of the layers that are not features
abbrev pub fields_of_layers : Document → List (List Field)
fields_of_layers document = map (λ (layer : Layer). plain_fields layer.items) (layers document)

-- the name among the fields of a layer
abbrev name_among : List Field → Option (List ℕ)
name_among fields = last_or None (contents 1 fields)

pub same_selected : (choice : LayerChoice) (one other : Document) → fields_of_layers one ≡ fields_of_layers other → selected choice one ≡ selected choice other
same_selected choice one other same =
    let view = λ (layer : Layer). plain_fields layer.items in
    same_layer choice one other (sym (map-map name_among view (layers one)) ∙ ap (map name_among) same ∙ map-map name_among view (layers other))

module _ (change : List LayerItem → List LayerItem) where
  module _ (keeps : (items : List LayerItem) → plain_fields (change items) ≡ plain_fields items) where
    pub fields_beside : (position : ℕ) (document : Document) → fields_of_layers (change_at (in_layer change) position document) ≡ fields_of_layers document
    fields_beside position [] = refl
    fields_beside zero (OfLayer layer ∷ document) = ap (λ first. first ∷ fields_of_layers document) (keeps layer.items)
    fields_beside zero (PlainInTile field ∷ document) = refl
    fields_beside (suc position) (OfLayer layer ∷ document) = ap (λ rest. plain_fields layer.items ∷ rest) (fields_beside position document)
    fields_beside (suc position) (PlainInTile field ∷ document) = fields_beside position document

  pub stays_at : (position : ℕ) (document : Document) (layer : Layer) → slice_get document position ≡ Some (OfLayer layer) → change layer.items ≡ layer.items → change_at (in_layer change) position document ≡ document
  stays_at position [] layer is same = refl
  stays_at zero (item ∷ document) layer is same =
      let with_items : List LayerItem → TileItem = λ items. OfLayer (record { tag = layer.tag; width = layer.width; items = items }) in
      let here : item ≡ OfLayer layer = cc in
      ap (λ first. in_layer change first ∷ document) here ∙ ap (λ items. with_items items ∷ document) same ∙ ap (λ first. first ∷ document) (sym here)
  stays_at (suc position) (item ∷ document) layer is same = ap (λ rest. item ∷ rest) (stays_at position document layer is same)

-- ---- documents

module _ (key : List ℕ) where
  kept : (items : List LayerItem) → plain_fields (excluded key items) ≡ plain_fields items
  kept items = fields_stay (without_attribute key items) items

  -- the same command changes nothing
  abbrev IsStill : LayersChoice → Document → Type 0
  IsStill choice document = applied (Exclude choice key) document ≡ Ok document

  one_still : (choice : LayerChoice) (old new : Document) (ordinal : ℕ) → selected choice old ≡ Ok ordinal → change_layer (excluded key) ordinal old ≡ new → ((layer : Layer) → slice_get (layers old) ordinal ≡ Some layer → IsRead layer) → IsStill (TheLayer choice) new
  one_still choice old new ordinal selects made read =
      let was = the_one_selected choice old ordinal selects in
      let there_was = layer_found old ordinal was.position was.layer was.placed was.there in
      let former_read = read was.layer there_was in
      let became = layers_change (λ former present. present ≡ with_items (excluded key) former) (excluded key) (TheLayer choice) old new (rw selects (ap Ok made)) (λ ordinal layer selects there. refl) in
      let present = became.selects ordinal was.layer selects there_was in
      let placed = change_layer_found old ordinal was.position was.layer was.placed was.there (excluded key) in
      let still : selected choice new ≡ Ok ordinal =
      ap (selected choice) (sym made ∙ placed) ∙ same_selected choice (change_at (in_layer (excluded key)) was.position old) old (fields_beside (excluded key) kept was.position old) ∙ selects in
      let is = the_one_selected choice new ordinal still in
      let same : is.layer ≡ with_items (excluded key) was.layer =
      some_same is.layer present.0 (slice_get (layers new) ordinal) (layer_found new ordinal is.position is.layer is.placed is.there) present.1 ∙ present.2.changed in
      let none : unreadable ((ordinal, (is.position, is.layer)) ∷ []) ≡ [] = found_read ordinal is.position is.layer [] (subst IsRead (sym same) (excluded_read key was.layer former_read)) refl in
      let once : excluded key is.layer.items ≡ is.layer.items = subst (λ (layer : Layer). excluded key layer.items ≡ layer.items) (sym same) (excluded_once key was.layer former_read) in
      let stays : change_layer (excluded key) ordinal new ≡ new =
      change_layer_found new ordinal is.position is.layer is.placed is.there (excluded key) ∙ stays_at (excluded key) is.position new is.layer is.there once in
      ap (λ found. found >>= λ layers. refuse_first (unreadable layers) >>= λ readable. change_layers (excluded key) (TheLayer choice) new) is.alone
      ∙ ap (λ bad. refuse_first bad >>= λ readable. change_layers (excluded key) (TheLayer choice) new) none
      ∙ ap (λ chosen. chosen >>= λ ordinal. Ok (change_layer (excluded key) ordinal new)) still
      ∙ ap Ok stays

  each_read : (document : Document) → AllByRecursion IsRead (layers document) → AllByRecursion IsRead (layers (map (in_layer (excluded key)) document))
  each_read [] read = tt
  each_read (OfLayer layer ∷ document) read = (excluded_read key layer read.0, each_read document read.1)
  each_read (PlainInTile field ∷ document) read = each_read document read

  each_once : (document : Document) → AllByRecursion IsRead (layers document) → map (in_layer (excluded key)) (map (in_layer (excluded key)) document) ≡ map (in_layer (excluded key)) document
  each_once [] read = refl
  each_once (OfLayer layer ∷ document) read =
      let with_these : List LayerItem → TileItem = λ items. OfLayer (record { tag = layer.tag; width = layer.width; items = items }) in
      ap (λ items. with_these items ∷ map (in_layer (excluded key)) (map (in_layer (excluded key)) document)) (excluded_once key layer read.0)
      ∙ ap (λ rest. in_layer (excluded key) (OfLayer layer) ∷ rest) (each_once document read.1)
  each_once (PlainInTile field ∷ document) read = ap (λ rest. PlainInTile field ∷ rest) (each_once document read)

  each_still : (old : Document) → AllByRecursion IsRead (layers old) → IsStill EachLayer (map (in_layer (excluded key)) old)
  each_still old read =
      let new = map (in_layer (excluded key)) old in
      ap (λ bad. refuse_first bad >>= λ readable. change_layers (excluded key) EachLayer new) (all_found_read 0 0 new (each_read old read)) ∙ ap Ok (each_once old read)

  still : (choice : LayersChoice) (old new : Document) → change_layers (excluded key) choice old ≡ Ok new → ((ordinal : ℕ) (layer : Layer) → IsSelected choice ordinal old → slice_get (layers old) ordinal ≡ Some layer → IsRead layer) → IsStill choice new
  still (TheLayer choice) old new is read =
      let selects = accepted (selected choice old) (λ ordinal. Ok (change_layer (excluded key) ordinal old)) new is in
      one_still choice old new selects.0 selects.1 (let same = selects.2 in cc) (λ layer there. read selects.0 layer selects.1 there)
  still EachLayer old new is read =
      let made : map (in_layer (excluded key)) old ≡ new = cc in
      subst (IsStill EachLayer) made (each_still old (all_of IsRead (layers old) (λ ordinal layer there. read ordinal layer tt there)))

pub exclude_again_changes_nothing : ExcludeAgainChangesNothing
exclude_again_changes_nothing choice key old new e =
    let found = accepted (selected_layers choice old) (λ found. refuse_first (unreadable found) >>= λ readable. change_layers (excluded key) choice old) new e in
    let readable = accepted (refuse_first (unreadable found.0)) (λ readable. change_layers (excluded key) choice old) new found.2 in
    still key choice old new readable.2 (λ ordinal layer selects there.
    all_of (λ (feature : Feature). is_some (pairs_of layer feature) ≡ true) (features_in layer.items) (selected_read choice old found.0 readable.0 found.1 readable.1 ordinal layer selects there))
