-- What an accepted command on features makes of a tile.
use Rattle.std.proofs.Common.{◌≡◌, ℕ, ◌<◌, ◌≤◌, true, not, Option, Some, None, Ok, List, [], ◌∷◌, length, slice_get, nat_lt, refl, ap, subst}
use Rattle.std.proofs.lemmas.Bool.{ltb-false, ltb-true, not-false}
use Rattle.std.specs.List.{filter_map, last_or}
use Rattle.mvt_document.specs.Plain.{Field, Feature, LayerItem, Layer, Document}
use Rattle.mvt_geometry.specs.Shapes.{Geometry, IsGeometry}
use Rattle.mvt_meaning.specs.Command.{FeatureChoice}
use Rattle.mvt_document.specs.Places.{in_feature}
use Rattle.mvt_messages.specs.Views.{feature_in, features, features_in, layers, plain_in, value_in}
use Rattle.mvt_meaning.specs.Ordinals.{change_nth, insert_nth, move_nth, without}
use Rattle.mvt_meaning.specs.Selection.{is_feature, selected, selected_feature, selected_in}
use Rattle.mvt_geometry.specs.Checks.{is_in_range}
use Rattle.mvt_meaning.specs.Meaning.{◌>>=◌, change_feature, change_layer, feature_count, identified, new_feature, new_number, refuse_if, with_field_value, within_limit, without_id}
use Rattle.mvt_meaning.specs.declared.refusal.Refusal.TheVariants.{BadPlace, OutOfRange}
use Rattle.mvt_meaning.proofs.Given.{value_given}
use Rattle.mvt_meaning.proofs.Selecting.{selected_feature_within}
use Rattle.command_laws.specs.Kept.{ChangesFeature}
use Rattle.command_laws.specs.FeatureLaws.{ClearIdClears, ClearsId, DropFeatureDrops, DropsFeature, InsertFeatureInserts, InsertsFeature, MoveFeatureMoves, MovesFeature, SetIdSets, SetsId}
use Rattle.command_laws.proofs.Accepted.{accepted, feature_selects, not_refused, within_is}
use Rattle.command_laws.proofs.Around.{around, one_less, one_more, one_moved, put_nth}
use Rattle.command_laws.proofs.LastPut.{last_put, others_put, parts_put}
use Rattle.command_laws.proofs.NewFeature.{drawn_feature, is_new}
use Rattle.command_laws.proofs.Parts.{changes_feature, changes_layer, feature_apart, items_there, with_fields, with_items}

-- ---- a new feature

inserts_feature : (index : ℕ) (geometry : Geometry) (layer : Layer) → IsGeometry geometry → is_in_range geometry ≡ true → index ≤ length (features layer) → InsertsFeature index geometry layer (with_items (insert_nth is_feature index (new_feature geometry)) layer)
inserts_feature index geometry layer valid short within =
    let m = one_more feature_in plain_in feature_apart index (new_feature geometry) (drawn_feature geometry) layer.items (insert_nth is_feature index (new_feature geometry) layer.items) refl (put_nth feature_in index (new_feature geometry) layer.items within) in
    record { feature = drawn_feature geometry; there = m.there; drawn = is_new geometry valid short; others = m.others; fields = m.fields; items = m.items }

-- how many features the selected layer has
count_there : (document : Document) (ordinal : ℕ) (layer : Layer) → slice_get (layers document) ordinal ≡ Some layer → feature_count ordinal document ≡ length (features layer)
count_there document ordinal layer there = ap (λ (items : List LayerItem). length (features_in items)) (items_there document ordinal layer there)

pub insert_feature_inserts : InsertFeatureInserts
insert_feature_inserts choice index geometry old new valid e =
    let insertion = insert_nth is_feature index (new_feature geometry) in
    let selects = accepted (selected choice old) (λ ordinal. refuse_if (nat_lt (feature_count ordinal old) index) BadPlace >>= λ there. refuse_if (not (is_in_range geometry)) OutOfRange >>= λ short. within_limit (change_layer insertion ordinal old)) new e in
    let there = accepted (refuse_if (nat_lt (feature_count selects.0 old) index) BadPlace) (λ there. refuse_if (not (is_in_range geometry)) OutOfRange >>= λ short. within_limit (change_layer insertion selects.0 old)) new selects.2 in
    let short = accepted (refuse_if (not (is_in_range geometry)) OutOfRange) (λ short. within_limit (change_layer insertion selects.0 old)) new there.2 in
    let made = within_is (change_layer insertion selects.0 old) new short.2 in
    let range = not-false (is_in_range geometry) (not_refused (not (is_in_range geometry)) OutOfRange short.0 short.1) in
    let within = ltb-false (feature_count selects.0 old) index (not_refused (nat_lt (feature_count selects.0 old) index) BadPlace there.0 there.1) in
    changes_layer choice (InsertsFeature index geometry) insertion old new selects.0 selects.1 made (λ layer is.
    inserts_feature index geometry layer valid range (subst (λ n. index ≤ n) (count_there old selects.0 layer is) within))

-- ---- moves and drops

moves_feature : (choice : FeatureChoice) (ordinal index : ℕ) (layer : Layer) → selected_feature choice layer ≡ Ok ordinal → index < length (features layer) → MovesFeature choice index layer (with_items (move_nth is_feature ordinal index) layer)
moves_feature choice ordinal index layer selects within =
    let m = one_moved feature_in plain_in feature_apart ordinal index layer.items (selected_feature_within choice layer ordinal selects) within in
    record { ordinal = ordinal; selects = selects; there = m.there; others = m.others; fields = m.fields; items = m.items }

pub move_feature_moves : MoveFeatureMoves
move_feature_moves choice feature index old new e =
    let selects = accepted (selected choice old) (λ ordinal. selected_in feature ordinal old >>= λ moving. refuse_if (not (nat_lt index (feature_count ordinal old))) BadPlace >>= λ there. Ok (change_layer (move_nth is_feature moving index) ordinal old)) new e in
    let moving = accepted (selected_in feature selects.0 old) (λ moving. refuse_if (not (nat_lt index (feature_count selects.0 old))) BadPlace >>= λ there. Ok (change_layer (move_nth is_feature moving index) selects.0 old)) new selects.2 in
    let there = accepted (refuse_if (not (nat_lt index (feature_count selects.0 old))) BadPlace) (λ there. Ok (change_layer (move_nth is_feature moving.0 index) selects.0 old)) new moving.2 in
    let within = ltb-true index (feature_count selects.0 old) (not-false (nat_lt index (feature_count selects.0 old)) (not_refused (not (nat_lt index (feature_count selects.0 old))) BadPlace there.0 there.1)) in
    let made : change_layer (move_nth is_feature moving.0 index) selects.0 old ≡ new = let same = there.2 in cc in
    changes_layer choice (MovesFeature feature index) (move_nth is_feature moving.0 index) old new selects.0 selects.1 made (λ layer is.
    moves_feature feature moving.0 index layer (feature_selects feature old layer selects.0 moving.0 is moving.1) (subst (λ n. index < n) (count_there old selects.0 layer is) within))

drops_feature : (choice : FeatureChoice) (ordinal : ℕ) (layer : Layer) → selected_feature choice layer ≡ Ok ordinal → DropsFeature choice layer (with_items (without is_feature ordinal) layer)
drops_feature choice ordinal layer selects =
    let d = one_less feature_in plain_in feature_apart ordinal layer.items (around feature_in layer.items ordinal (selected_feature_within choice layer ordinal selects)) in
    record { ordinal = ordinal; selects = selects; others = d.others; fields = d.fields; items = d.items }

pub drop_feature_drops : DropFeatureDrops
drop_feature_drops choice feature old new e =
    let selects = accepted (selected choice old) (λ ordinal. selected_in feature ordinal old >>= λ going. Ok (change_layer (without is_feature going) ordinal old)) new e in
    let going = accepted (selected_in feature selects.0 old) (λ going. Ok (change_layer (without is_feature going) selects.0 old)) new selects.2 in
    let made : change_layer (without is_feature going.0) selects.0 old ≡ new = let same = going.2 in cc in
    changes_layer choice (DropsFeature feature) (without is_feature going.0) old new selects.0 selects.1 made (λ layer is.
    drops_feature feature going.0 layer (feature_selects feature old layer selects.0 going.0 is going.1))

-- ---- ids

sets_id : (id : ℕ) (feature : Feature) → SetsId id feature (with_fields (identified id) feature)
sets_id id feature = record {
  has = last_put (value_in 1) (with_field_value id) id (value_given 1 id) (new_number 8 id) feature.fields refl;
  last = parts_put (value_in 1) (with_field_value id) id (value_given 1 id) (new_number 8 id) feature.fields refl;
  others = others_put (value_in 1) (with_field_value id) id (value_given 1 id) (new_number 8 id) feature.fields refl;
}

pub set_id_sets : SetIdSets
set_id_sets choice feature id old new e =
    let selects = accepted (selected choice old) (λ ordinal. selected_in feature ordinal old >>= λ selects. within_limit (change_feature (identified id) ordinal selects old)) new e in
    let found = accepted (selected_in feature selects.0 old) (λ found. within_limit (change_feature (identified id) selects.0 found old)) new selects.2 in
    let made = within_is (change_feature (identified id) selects.0 found.0 old) new found.2 in
    changes_layer choice (ChangesFeature feature (SetsId id)) (change_nth is_feature (in_feature (identified id)) found.0) old new selects.0 selects.1 made (λ layer is.
    changes_feature feature (SetsId id) (identified id) layer found.0 (feature_selects feature old layer selects.0 found.0 is found.1) (λ former was. sets_id id former))

id_gone : (field : Field) (fields : List Field) (id : Option ℕ) → value_in 1 field ≡ id → filter_map (value_in 1) (without_id fields) ≡ [] → filter_map (value_in 1) (without_id (field ∷ fields)) ≡ []
id_gone field fields None is e = rw (is, is) e
id_gone field fields (Some id) is e = rw is e

no_ids : (fields : List Field) → filter_map (value_in 1) (without_id fields) ≡ []
no_ids [] = refl
no_ids (field ∷ fields) = id_gone field fields (value_in 1 field) refl (no_ids fields)

clears_id : (feature : Feature) → ClearsId feature (with_fields without_id feature)
clears_id feature = record { none = ap (last_or None) (no_ids feature.fields); others = refl }

pub clear_id_clears : ClearIdClears
clear_id_clears choice feature old new e =
    let selects = accepted (selected choice old) (λ ordinal. selected_in feature ordinal old >>= λ selects. Ok (change_feature without_id ordinal selects old)) new e in
    let found = accepted (selected_in feature selects.0 old) (λ found. Ok (change_feature without_id selects.0 found old)) new selects.2 in
    let made : change_feature without_id selects.0 found.0 old ≡ new = let same = found.2 in cc in
    changes_layer choice (ChangesFeature feature ClearsId) (change_nth is_feature (in_feature without_id) found.0) old new selects.0 selects.1 made (λ layer is.
    changes_feature feature ClearsId without_id layer found.0 (feature_selects feature old layer selects.0 found.0 is found.1) (λ former was. clears_id former))
