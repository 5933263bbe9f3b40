-- No command is refused as out of memory by its definition.
use Rattle.std.proofs.Common.{ℕ, ◌&&◌, List, [], ◌∷◌, length, Option, Some, None, Result, Ok, Err}
use Rattle.std.specs.Prelude.{nat_lt, not, slice_get}
use Rattle.std.specs.List.{list_any}
use Rattle.std.specs.Option.{option_map_or}
use Rattle.std.specs.Result.{result_map_both}
use Rattle.std.specs.Str.{bytes_eq}
use Rattle.mvt_document.specs.declared.TheConstants.{MAX_FILE}
use Rattle.mvt_document.specs.Plain.{Document, Layer, LayerItem, OfLayer}
use Rattle.mvt_document.specs.Wire.{bytes_of}
use Rattle.mvt_meaning.specs.Command.{LayerChoice, AtOrdinal, Named, LayersChoice, TheLayer, EachLayer, FeatureChoice, FeatureAtOrdinal, WithId, Command, RenameLayer, MoveLayer, DropLayer, KeepLayers, InsertFeature, MoveFeature, DropFeature, SetId, ClearId, SetAttribute, UnsetAttribute, RenameKey, Exclude, ExcludeAll, Shift, SetGeometry, CompactKeys, CompactValues, Compact}
use Rattle.mvt_meaning.proofs.Others.{Other, either}
use Rattle.mvt_messages.specs.Views.{features, has_id, is_named, layers, ordinals_of, the_one}
use Rattle.mvt_meaning.specs.Selection.{selected, selected_feature, selected_in, selected_layers}
use Rattle.mvt_geometry.specs.Checks.{is_in_range}
use Rattle.mvt_meaning.specs.Compaction.{compacted, is_any, is_key_used, is_value_used}
use Rattle.mvt_meaning.specs.Tagging.{excluded, unreadable, untagged}
use Rattle.mvt_meaning.specs.Meaning.{◌>>=◌, applied, can_shift, change_layers, change_readable, has_pairs, is_drawn, refuse_first, repeats_key, refuse_if, within_limit, is_taken, is_kept, has_key, layer_count, feature_count}
use Rattle.mvt_meaning.specs.declared.refusal.Refusal.{Refusal}
use Rattle.mvt_meaning.specs.declared.refusal.Refusal.TheVariants.{NoMemory, NoLayer, AmbiguousLayer, NoFeature, AmbiguousFeature, NoKey, BadGeometry, BadPlace, BadTags, NameTaken, KeyTaken, OutOfRange, RepeatedKey, TooLarge}

abbrev NeverOutOfMemory : {A : Type 0} → Result A Refusal → Type 0
NeverOutOfMemory result = Other NoMemory result

then : {A B : Type 0} (r : Result A Refusal) (f : A → Result B Refusal) → NeverOutOfMemory r → ((x : A) → NeverOutOfMemory (f x)) → NeverOutOfMemory (r >>= f)
then (Ok x) f first second = second x
then (Err e) f first second = first

one_layer : (ordinals : List ℕ) → NeverOutOfMemory (the_one NoLayer AmbiguousLayer ordinals)
one_layer [] = λ e. cc
one_layer (ordinal ∷ []) = tt
one_layer (ordinal ∷ next ∷ more) = λ e. cc

one_feature : (ordinals : List ℕ) → NeverOutOfMemory (the_one NoFeature AmbiguousFeature ordinals)
one_feature [] = λ e. cc
one_feature (ordinal ∷ []) = tt
one_feature (ordinal ∷ next ∷ more) = λ e. cc

layer_selects : (choice : LayerChoice) (document : Document) → NeverOutOfMemory (selected choice document)
layer_selects (AtOrdinal ordinal) document = either NoMemory (nat_lt ordinal (length (layers document))) _ _ tt (λ e. cc)
layer_selects (Named name) document = one_layer (ordinals_of (is_named name) (layers document))

selects_in : (choice : FeatureChoice) (layer : Layer) → NeverOutOfMemory (selected_feature choice layer)
selects_in (FeatureAtOrdinal ordinal) layer = either NoMemory (nat_lt ordinal (length (features layer))) _ _ tt (λ e. cc)
selects_in (WithId id) layer = one_feature (ordinals_of (has_id id) (features layer))

selects_there : (choice : FeatureChoice) (layer : Option Layer) → NeverOutOfMemory (option_map_or (selected_feature choice) layer (Err NoLayer))
selects_there choice (Some layer) = selects_in choice layer
selects_there choice None = λ e. cc

feature_selects : (choice : FeatureChoice) (ordinal : ℕ) (document : Document) → NeverOutOfMemory (selected_in choice ordinal document)
feature_selects choice ordinal document = selects_there choice (slice_get (layers document) ordinal)

limited : (document : Document) → NeverOutOfMemory (within_limit document)
limited document = either NoMemory (nat_lt MAX_FILE (length (bytes_of document))) (Err TooLarge) (Ok document) (λ e. cc) tt

layers_selected : (change : List LayerItem → List LayerItem) (choice : LayersChoice) (document : Document) → NeverOutOfMemory (change_layers change choice document)
layers_selected change (TheLayer choice) document = then (selected choice document) _ (layer_selects choice document) (λ ordinal. tt)
layers_selected change EachLayer document = tt

selects_layers : (choice : LayersChoice) (document : Document) → NeverOutOfMemory (selected_layers choice document)
selects_layers (TheLayer choice) document = mapped _ (selected choice document) (layer_selects choice document)
  where
    mapped : {A B : Type 0} (f : A → B) (r : Result A Refusal) → NeverOutOfMemory r → NeverOutOfMemory (result_map_both f (λ refusal. refusal) r)
    mapped f (Ok x) other = tt
    mapped f (Err e) other = other
selects_layers EachLayer document = tt

first_refused : (list : List (ℕ × ℕ)) → NeverOutOfMemory (refuse_first list)
first_refused [] = tt
first_refused (at ∷ more) = λ e. cc

readable_selected : (change : List LayerItem → List LayerItem) (choice : LayersChoice) (document : Document) → NeverOutOfMemory (change_readable change choice document)
readable_selected change choice document =
    then (selected_layers choice document) _ (selects_layers choice document) (λ layers.
    then (refuse_first (unreadable layers)) _ (first_refused (unreadable layers)) (λ readable. layers_selected change choice document))

pub applied_other : (command : Command) (document : Document) → Other NoMemory (applied command document)
applied_other (RenameLayer choice name) document =
    then (selected choice document) _ (layer_selects choice document) (λ ordinal.
    then (refuse_if (is_taken name ordinal document) NameTaken) _ (either NoMemory (is_taken name ordinal document) (Err NameTaken) (Ok tt) (λ e. cc) tt) (λ free. limited _))
applied_other (MoveLayer choice index) document =
    let past = not (nat_lt index (layer_count document)) in
    then (selected choice document) _ (layer_selects choice document) (λ ordinal.
    then (refuse_if past BadPlace) _ (either NoMemory past (Err BadPlace) (Ok tt) (λ e. cc) tt) (λ there. tt))
applied_other (DropLayer choice) document = then (selected choice document) _ (layer_selects choice document) (λ ordinal. tt)
applied_other (KeepLayers names) document =
    let none = not (list_any (λ layer. is_kept names (OfLayer layer)) (layers document)) in
    then (refuse_if none NoLayer) _ (either NoMemory none (Err NoLayer) (Ok tt) (λ e. cc) tt) (λ some. tt)
applied_other (InsertFeature choice index geometry) document =
    let far = not (is_in_range geometry) in
    then (selected choice document) _ (layer_selects choice document) (λ ordinal.
    let past = nat_lt (feature_count ordinal document) index in
    then (refuse_if past BadPlace) _ (either NoMemory past (Err BadPlace) (Ok tt) (λ e. cc) tt) (λ there.
    then (refuse_if far OutOfRange) _ (either NoMemory far (Err OutOfRange) (Ok tt) (λ e. cc) tt) (λ short. limited _)))
applied_other (MoveFeature choice feature index) document =
    then (selected choice document) _ (layer_selects choice document) (λ ordinal.
    then (selected_in feature ordinal document) _ (feature_selects feature ordinal document) (λ moving.
    let past = not (nat_lt index (feature_count ordinal document)) in
    then (refuse_if past BadPlace) _ (either NoMemory past (Err BadPlace) (Ok tt) (λ e. cc) tt) (λ there. tt)))
applied_other (DropFeature choice feature) document =
    then (selected choice document) _ (layer_selects choice document) (λ ordinal.
    then (selected_in feature ordinal document) _ (feature_selects feature ordinal document) (λ going. tt))
applied_other (SetId choice feature id) document =
    then (selected choice document) _ (layer_selects choice document) (λ ordinal.
    then (selected_in feature ordinal document) _ (feature_selects feature ordinal document) (λ selects. limited _))
applied_other (ClearId choice feature) document =
    then (selected choice document) _ (layer_selects choice document) (λ ordinal.
    then (selected_in feature ordinal document) _ (feature_selects feature ordinal document) (λ selects. tt))
applied_other (SetAttribute choice feature key value) document =
    then (selected choice document) _ (layer_selects choice document) (λ ordinal.
    then (selected_in feature ordinal document) _ (feature_selects feature ordinal document) (λ selects.
    let bad = not (has_pairs ordinal selects document) in
    let several = repeats_key key ordinal selects document in
    then (refuse_if bad (BadTags ordinal selects)) _ (either NoMemory bad (Err (BadTags ordinal selects)) (Ok tt) (λ e. cc) tt) (λ readable.
    then (refuse_if several (RepeatedKey ordinal selects)) _ (either NoMemory several (Err (RepeatedKey ordinal selects)) (Ok tt) (λ e. cc) tt) (λ once. limited _))))
applied_other (UnsetAttribute choice feature key) document =
    then (selected choice document) _ (layer_selects choice document) (λ ordinal.
    then (selected_in feature ordinal document) _ (feature_selects feature ordinal document) (λ selects.
    let gone = not (has_key key ordinal document) in
    let bad = not (has_pairs ordinal selects document) in
    then (refuse_if gone NoKey) _ (either NoMemory gone (Err NoKey) (Ok tt) (λ e. cc) tt) (λ there.
    then (refuse_if bad (BadTags ordinal selects)) _ (either NoMemory bad (Err (BadTags ordinal selects)) (Ok tt) (λ e. cc) tt) (λ readable. tt))))
applied_other (RenameKey choice old new) document =
    then (selected choice document) _ (layer_selects choice document) (λ ordinal.
    let gone = not (has_key old ordinal document) in
    let taken = has_key new ordinal document && not (bytes_eq old new) in
    then (refuse_if gone NoKey) _ (either NoMemory gone (Err NoKey) (Ok tt) (λ e. cc) tt) (λ there.
    then (refuse_if taken KeyTaken) _ (either NoMemory taken (Err KeyTaken) (Ok tt) (λ e. cc) tt) (λ free. limited _)))
applied_other (Exclude choice key) document = readable_selected (excluded key) choice document
applied_other (ExcludeAll choice) document = layers_selected untagged choice document
applied_other (Shift choice feature dx dy) document =
    then (selected choice document) _ (layer_selects choice document) (λ ordinal.
    then (selected_in feature ordinal document) _ (feature_selects feature ordinal document) (λ selects.
    let bad = not (is_drawn ordinal selects document) in
    let far = not (can_shift dx dy ordinal selects document) in
    then (refuse_if bad (BadGeometry ordinal selects)) _ (either NoMemory bad (Err (BadGeometry ordinal selects)) (Ok tt) (λ e. cc) tt) (λ readable.
    then (refuse_if far OutOfRange) _ (either NoMemory far (Err OutOfRange) (Ok tt) (λ e. cc) tt) (λ short. limited _))))
applied_other (SetGeometry choice feature geometry) document =
    let far = not (is_in_range geometry) in
    then (selected choice document) _ (layer_selects choice document) (λ ordinal.
    then (selected_in feature ordinal document) _ (feature_selects feature ordinal document) (λ selects.
    then (refuse_if far OutOfRange) _ (either NoMemory far (Err OutOfRange) (Ok tt) (λ e. cc) tt) (λ short. limited _)))
applied_other (CompactKeys choice) document = readable_selected (compacted is_key_used is_any) choice document
applied_other (CompactValues choice) document = readable_selected (compacted is_any is_value_used) choice document
applied_other (Compact choice) document = readable_selected (compacted is_key_used is_value_used) choice document
