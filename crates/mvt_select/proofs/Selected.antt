-- What is found is what is selected, and is where its positions say.
use Rattle.std.proofs.Common.{◌≡◌, ℕ, suc, zero, ◌+◌, ◌<◌, ◌≤◌, Bool, is_some, Option, Some, None, option_map, Result, Ok, Err, List, [], ◌∷◌, length, map, filter, slice_get, refl, sym, ap, ◌∙◌, inl, inr, arith}
use Rattle.std.proofs.lemmas.Bool.{cases_Bool}
use Rattle.std.proofs.lemmas.Bool.Decides.{nat_tests}
use Rattle.std.proofs.lemmas.Option.{slice_get-map, slice_get_within}
use Rattle.std.specs.List.{cons_option, filter_map, enumerate_from}
use Rattle.std.specs.Option.{ok_or, option_and_then}
use Rattle.std.specs.Result.{IfErr, IfOk, result_map_both}
use Rattle.mvt_document.specs.Plain as plain
use Rattle.mvt_document.specs.Stands.{feature_of, layer_of}
use Rattle.mvt_meaning.specs.Command.{LayerChoice, AtOrdinal, Named, FeatureChoice, FeatureAtOrdinal, WithId}
use Rattle.mvt_messages.specs.Found.{with_position, placed_from, found_in, found_layers, found_features}
use Rattle.mvt_layers.specs.Seen.{found_feature_seen, found_layer_seen}
use Rattle.mvt_messages.specs.Views.{feature_in, features, has_id, is_named, layer_in, layers, ordinals_of, the_one}
use Rattle.mvt_layers.specs.declared.found.FoundLayer.{FoundLayer}
use Rattle.mvt_layers.specs.declared.found.FoundFeature.{FoundFeature}
use Rattle.mvt_layers.proofs.Placing.{found_count, placed_items}
use Rattle.mvt_meaning.specs.Selection.{selected, selected_feature}
use Rattle.mvt_meaning.specs.declared.refusal.Refusal.{Refusal}
use Rattle.mvt_meaning.specs.declared.refusal.Refusal.TheVariants.{AmbiguousFeature, AmbiguousLayer, NoFeature, NoLayer}
use Rattle.mvt_meaning.proofs.Found.{picked_found}
use Rattle.mvt_meaning.proofs.Positions.{positions_from, positions_pass, positions_skip}
use Rattle.mvt_meaning.proofs.Selecting.{the_one_first}
use Rattle.mvt_select.specs.Found.{IsFoundFeature, IsFoundLayer}

-- ---- where each is

number_at : {P : Type 0} (start : ℕ) (placed : List P) (index : ℕ) (found : ℕ × P) → slice_get (enumerate_from start placed) index ≡ Some found → (found.0 ≡ start + index) × (slice_get placed index ≡ Some found.1)
number_at start [] index found e = absurd cc
number_at {P} start (x ∷ placed) zero found e =
    let same : (start, x) ≡ found = cc in
    let number : start ≡ found.0 = ap (λ (f : ℕ × P). f.0) same in
    (omega arith, ap (λ (f : ℕ × P). Some f.1) same)
number_at start (x ∷ placed) (suc index) found e = let later = number_at (start + 1) placed index found e in (omega (arith, later.0), later.1)

position_here : {A B : Type 0} (pick : A → Option B) (position : ℕ) (x : A) (items : List A) (placed : List (ℕ × B)) (found : Option B) → pick x ≡ found → map (λ (p : ℕ × B). p.0) placed ≡ positions_from (λ x. is_some (pick x)) (position + 1) items → map (λ (p : ℕ × B). p.0) (cons_option (option_map (λ f. (position, f)) found) placed) ≡ positions_from (λ x. is_some (pick x)) position (x ∷ items)
position_here pick position x items placed None is e = e ∙ sym (positions_skip (λ x. is_some (pick x)) position x items (ap is_some is))
position_here pick position x items placed (Some f) is e = ap (λ more. position ∷ more) e ∙ sym (positions_pass (λ x. is_some (pick x)) position x items (ap is_some is))

placed_positions : {A B : Type 0} (pick : A → Option B) (position : ℕ) (items : List A) → map (λ (p : ℕ × B). p.0) (filter_map (with_position pick) (enumerate_from position items)) ≡ positions_from (λ x. is_some (pick x)) position items
placed_positions pick position [] = refl
placed_positions pick position (x ∷ items) = position_here pick position x items (filter_map (with_position pick) (enumerate_from (position + 1) items)) (pick x) refl (placed_positions pick (position + 1) items)

-- what is at an index has it as its ordinal, and is at its position
pub record Stands {A B : Type 0} (pick : A → Option B) (items : List A) (index : ℕ) (found : ℕ × (ℕ × B)) : Type 0 where
  pub ordinal : found.0 ≡ index
  pub placed : slice_get (positions_from (λ x. is_some (pick x)) 0 items) found.0 ≡ Some found.1.0
  pub there : option_and_then pick (slice_get items found.1.0) ≡ Some found.1.1
  pub within : found.0 < length (filter_map pick items)

pub stands : {A B : Type 0} (pick : A → Option B) (items : List A) (index : ℕ) (found : ℕ × (ℕ × B)) → slice_get (found_in pick items) index ≡ Some found → Stands pick items index found
stands {A} {B} pick items index found e =
    let number = number_at 0 (placed_from pick 0 items) index found e in
    let ordinal : found.0 ≡ index = omega (arith, number.0) in
    let here : slice_get (placed_from pick 0 items) found.0 ≡ Some found.1 = ap (slice_get (placed_from pick 0 items)) ordinal ∙ number.1 in
    let placed : slice_get (positions_from (λ x. is_some (pick x)) 0 items) found.0 ≡ Some found.1.0 =
    ap (λ (positions : List ℕ). slice_get positions found.0) (sym (placed_positions pick 0 items)) ∙ slice_get-map (λ (p : ℕ × B). p.0) (placed_from pick 0 items) found.0 ∙ ap (option_map (λ (p : ℕ × B). p.0)) here in
    let item : slice_get (filter_map pick items) found.0 ≡ Some found.1.1 =
    ap (λ (list : List B). slice_get list found.0) (sym (placed_items pick 0 items)) ∙ slice_get-map (λ (p : ℕ × B). p.1) (placed_from pick 0 items) found.0 ∙ ap (option_map (λ (p : ℕ × B). p.1)) here in
    record {
      ordinal = ordinal;
      placed = placed;
      there = sym (picked_found pick items found.0 found.1.0 placed) ∙ item;
      within = slice_get_within (filter_map pick items) found.0 found.1.1 item;
    }

past : {A : Type 0} (list : List A) (index : ℕ) → slice_get list index ≡ None → length list ≤ index
past [] index e = omega arith
past (x ∷ list) zero e = absurd cc
past (x ∷ list) (suc index) e = let more = past list index e in omega arith

-- if nothing has the index `index`, there are at most `index`
pub none_stands : {A B : Type 0} (pick : A → Option B) (items : List A) (index : ℕ) → slice_get (found_in pick items) index ≡ None → length (filter_map pick items) ≤ index
none_stands pick items index e = omega (arith, past (found_in pick items) index e, found_count pick items)

-- the position of what has an index
pub position_there : {A B : Type 0} (pick : A → Option B) (items : List A) (index : ℕ) (found : ℕ × (ℕ × B)) → slice_get (found_in pick items) index ≡ Some found → Some found.1.0 ≡ slice_get (positions_from (λ x. is_some (pick x)) 0 items) index
position_there pick items index found e =
    let at = stands pick items index found e in
    sym at.placed ∙ ap (slice_get (positions_from (λ x. is_some (pick x)) 0 items)) at.ordinal

none_at : {P : Type 0} (start : ℕ) (placed : List P) (index : ℕ) → slice_get (enumerate_from start placed) index ≡ None → slice_get placed index ≡ None
none_at start [] index e = refl
none_at start (x ∷ placed) zero e = absurd cc
none_at start (x ∷ placed) (suc index) e = none_at (start + 1) placed index e

pub no_position_there : {A B : Type 0} (pick : A → Option B) (items : List A) (index : ℕ) → slice_get (found_in pick items) index ≡ None → None ≡ slice_get (positions_from (λ x. is_some (pick x)) 0 items) index
no_position_there {A} {B} pick items index e =
    sym (ap (λ (positions : List ℕ). slice_get positions index) (sym (placed_positions pick 0 items)) ∙ slice_get-map (λ (p : ℕ × B). p.0) (placed_from pick 0 items) index ∙ ap (option_map (λ (p : ℕ × B). p.0)) (none_at 0 (placed_from pick 0 items) index e))

-- ---- the one that passes

ordinals_among : {B : Type 0} (passes : B → Bool) (start : ℕ) (placed : List (ℕ × B)) → map (λ (f : ℕ × (ℕ × B)). f.0) (filter (λ (f : ℕ × (ℕ × B)). passes f.1.1) (enumerate_from start placed)) ≡ positions_from passes start (map (λ (p : ℕ × B). p.1) placed)
ordinals_among passes start [] = refl
ordinals_among {B} passes start (x ∷ placed) =
    let later = ordinals_among passes (start + 1) placed in
    elim (cases_Bool (passes x.1)) [
      | inl pass ↦ rw pass (ap (λ more. start ∷ more) later)
      | inr skip ↦ rw skip later
    ]

one_mapped : {A B E : Type 0} (f : A → B) (none several : E) (list : List A) → the_one none several (map f list) ≡ result_map_both f (λ error. error) (the_one none several list)
one_mapped f none several [] = refl
one_mapped f none several (x ∷ []) = refl
one_mapped f none several (x ∷ y ∷ more) = refl

among : {A : Type 0} (x : A) (list rest : List A) (index : ℕ) (found : A) → ((j : ℕ) → slice_get rest j ≡ Some found → (at : ℕ) × (slice_get list at ≡ Some found)) → slice_get (x ∷ rest) index ≡ Some found → (at : ℕ) × (slice_get (x ∷ list) at ≡ Some found)
among x list rest zero found more e = (0, e)
among x list rest (suc index) found more e = let later = more index e in (suc later.0, later.1)

filtered_at : {A : Type 0} (test : A → Bool) (list : List A) (index : ℕ) (found : A) → slice_get (filter test list) index ≡ Some found → (at : ℕ) × (slice_get list at ≡ Some found)
filtered_at test [] index found e = absurd cc
filtered_at {A} test (x ∷ list) index found e =
    elim (cases_Bool (test x)) [
      | inl pass ↦ among x list (filter test list) index found (λ j h. filtered_at test list j found h) (rw pass at e)
      | inr skip ↦ (let later = filtered_at test list index found (rw skip at e) in (suc later.0, later.1))
    ]

-- the one ordinal of those that pass is that of the one that passes
pub one_ordinal : {A B : Type 0} (pick : A → Option B) (passes : B → Bool) (none several : Refusal) (items : List A) → the_one none several (ordinals_of passes (filter_map pick items)) ≡ result_map_both (λ (f : ℕ × (ℕ × B)). f.0) (λ refusal. refusal) (the_one none several (filter (λ (f : ℕ × (ℕ × B)). passes f.1.1) (found_in pick items)))
one_ordinal {A} {B} pick passes none several items =
    ap (λ (list : List B). the_one none several (ordinals_of passes list)) (sym (placed_items pick 0 items))
    ∙ ap (the_one none several) (sym (ordinals_among passes 0 (placed_from pick 0 items)))
    ∙ one_mapped (λ (f : ℕ × (ℕ × B)). f.0) none several (filter (λ (f : ℕ × (ℕ × B)). passes f.1.1) (found_in pick items))

-- and it is where its position says
pub one_stands : {A B : Type 0} (pick : A → Option B) (passes : B → Bool) (none several : Refusal) (items : List A) (found : ℕ × (ℕ × B)) → the_one none several (filter (λ (f : ℕ × (ℕ × B)). passes f.1.1) (found_in pick items)) ≡ Ok found → (index : ℕ) × Stands pick items index found
one_stands {A} {B} pick passes none several items found e =
    let among = filtered_at (λ (f : ℕ × (ℕ × B)). passes f.1.1) (found_in pick items) 0 found (the_one_first none several (filter (λ (f : ℕ × (ℕ × B)). passes f.1.1) (found_in pick items)) found e) in
    (among.0, stands pick items among.0 found among.1)

-- ---- a layer

pub layer_there : (item : Option plain.TileItem) (layer : plain.Layer) → option_and_then layer_in item ≡ Some layer → item ≡ Some (plain.OfLayer layer)
layer_there None layer e = absurd cc
layer_there (Some (plain.OfLayer there)) layer e = let same : there ≡ layer = cc in ap (λ l. Some (plain.OfLayer l)) same
layer_there (Some (plain.PlainInTile field)) layer e = absurd cc

at_ordinal : (document : plain.Document) (ordinal : ℕ) → ordinal < length (layers document) → selected (AtOrdinal ordinal) document ≡ Ok ordinal
at_ordinal document ordinal within = grind (arith, nat_tests)

past_ordinal : (document : plain.Document) (ordinal : ℕ) → length (layers document) ≤ ordinal → selected (AtOrdinal ordinal) document ≡ Err NoLayer
past_ordinal document ordinal past = grind (arith, nat_tests)

layer_found : (choice : LayerChoice) (document : plain.Document) (index : ℕ) (found : FoundLayer) → selected choice document ≡ Ok found.ordinal → Stands layer_in document index (found_layer_seen found) → IsFoundLayer choice document found
layer_found choice document index found selects at = record {
  selects = selects;
  placed = at.placed;
  there = layer_there (slice_get document found.position) (layer_of found.layer.now) at.there;
}

pub layer_at_ordinal : (document : plain.Document) (ordinal : ℕ) (answer : Option FoundLayer) → option_map found_layer_seen answer ≡ slice_get (found_layers document) ordinal → IfOk (ok_or answer NoLayer) (IsFoundLayer (AtOrdinal ordinal) document)
layer_at_ordinal document ordinal None e = tt
layer_at_ordinal document ordinal (Some found) e =
    let at = stands layer_in document ordinal (found_layer_seen found) (sym e) in
    let same : found.ordinal ≡ ordinal = at.ordinal in
    let within : ordinal < length (layers document) = omega (arith, at.within, same) in
    layer_found (AtOrdinal ordinal) document ordinal found (at_ordinal document ordinal within ∙ ap (λ n. Ok n) (sym same)) at

pub no_layer_at_ordinal : (document : plain.Document) (ordinal : ℕ) (answer : Option FoundLayer) → option_map found_layer_seen answer ≡ slice_get (found_layers document) ordinal → IfErr (ok_or answer NoLayer) (λ refusal. selected (AtOrdinal ordinal) document ≡ Err refusal)
no_layer_at_ordinal document ordinal None e = past_ordinal document ordinal (none_stands layer_in document ordinal (sym e))
no_layer_at_ordinal document ordinal (Some found) e = tt

-- what a search for a name returns
abbrev pub one_named : List ℕ → plain.Document → Result (ℕ × (ℕ × plain.Layer)) Refusal
one_named name document = the_one NoLayer AmbiguousLayer (filter (λ (f : ℕ × (ℕ × plain.Layer)). is_named name f.1.1) (found_layers document))

pub selected_named : (name : List ℕ) (document : plain.Document) → selected (Named name) document ≡ result_map_both (λ (f : ℕ × (ℕ × plain.Layer)). f.0) (λ refusal. refusal) (one_named name document)
selected_named name document = one_ordinal layer_in (is_named name) NoLayer AmbiguousLayer document

-- the ordinal of what a search for a name returns is the one that is selected
pub named_ordinal : (name : List ℕ) (document : plain.Document) (answer : Result FoundLayer Refusal) → result_map_both found_layer_seen (λ refusal. refusal) answer ≡ one_named name document → result_map_both (λ (found : FoundLayer). found.ordinal) (λ refusal. refusal) answer ≡ selected (Named name) document
named_ordinal name document (Ok found) e = ap (result_map_both (λ (f : ℕ × (ℕ × plain.Layer)). f.0) (λ refusal. refusal)) e ∙ sym (selected_named name document)
named_ordinal name document (Err refusal) e = ap (result_map_both (λ (f : ℕ × (ℕ × plain.Layer)). f.0) (λ refusal. refusal)) e ∙ sym (selected_named name document)

pub layer_of_name : (name : List ℕ) (document : plain.Document) (answer : Result FoundLayer Refusal) → result_map_both found_layer_seen (λ refusal. refusal) answer ≡ one_named name document → IfOk answer (IsFoundLayer (Named name) document)
layer_of_name name document (Err refusal) e = tt
layer_of_name name document (Ok found) e =
    let at = one_stands layer_in (is_named name) NoLayer AmbiguousLayer document (found_layer_seen found) (sym e) in
    layer_found (Named name) document at.0 found (sym (named_ordinal name document (Ok found) e)) at.1

pub no_layer_of_name : (name : List ℕ) (document : plain.Document) (answer : Result FoundLayer Refusal) → result_map_both found_layer_seen (λ refusal. refusal) answer ≡ one_named name document → IfErr answer (λ refusal. selected (Named name) document ≡ Err refusal)
no_layer_of_name name document (Ok found) e = tt
no_layer_of_name name document (Err refusal) e = sym (named_ordinal name document (Err refusal) e)

-- ---- a feature

feature_there : (item : Option plain.LayerItem) (feature : plain.Feature) → option_and_then feature_in item ≡ Some feature → item ≡ Some (plain.OfFeature feature)
feature_there None feature e = absurd cc
feature_there (Some (plain.OfFeature there)) feature e = let same : there ≡ feature = cc in ap (λ f. Some (plain.OfFeature f)) same
feature_there (Some (plain.PlainInLayer field)) feature e = absurd cc

at_feature : (layer : plain.Layer) (ordinal : ℕ) → ordinal < length (features layer) → selected_feature (FeatureAtOrdinal ordinal) layer ≡ Ok ordinal
at_feature layer ordinal within = grind (arith, nat_tests)

past_feature : (layer : plain.Layer) (ordinal : ℕ) → length (features layer) ≤ ordinal → selected_feature (FeatureAtOrdinal ordinal) layer ≡ Err NoFeature
past_feature layer ordinal past = grind (arith, nat_tests)

feature_found : (choice : FeatureChoice) (layer : plain.Layer) (index : ℕ) (found : FoundFeature) → selected_feature choice layer ≡ Ok found.ordinal → Stands feature_in layer.items index (found_feature_seen found) → IsFoundFeature choice layer found
feature_found choice layer index found selects at = record {
  selects = selects;
  placed = at.placed;
  there = feature_there (slice_get layer.items found.position) (feature_of found.feature.now) at.there;
}

pub feature_at_ordinal : (layer : plain.Layer) (ordinal : ℕ) (answer : Option FoundFeature) → option_map found_feature_seen answer ≡ slice_get (found_features layer.items) ordinal → IfOk (ok_or answer NoFeature) (IsFoundFeature (FeatureAtOrdinal ordinal) layer)
feature_at_ordinal layer ordinal None e = tt
feature_at_ordinal layer ordinal (Some found) e =
    let at = stands feature_in layer.items ordinal (found_feature_seen found) (sym e) in
    let same : found.ordinal ≡ ordinal = at.ordinal in
    let within : ordinal < length (features layer) = omega (arith, at.within, same) in
    feature_found (FeatureAtOrdinal ordinal) layer ordinal found (at_feature layer ordinal within ∙ ap (λ n. Ok n) (sym same)) at

pub no_feature_at_ordinal : (layer : plain.Layer) (ordinal : ℕ) (answer : Option FoundFeature) → option_map found_feature_seen answer ≡ slice_get (found_features layer.items) ordinal → IfErr (ok_or answer NoFeature) (λ refusal. selected_feature (FeatureAtOrdinal ordinal) layer ≡ Err refusal)
no_feature_at_ordinal layer ordinal None e = past_feature layer ordinal (none_stands feature_in layer.items ordinal (sym e))
no_feature_at_ordinal layer ordinal (Some found) e = tt

-- what a search for an id returns
abbrev pub one_with_id : ℕ → plain.Layer → Result (ℕ × (ℕ × plain.Feature)) Refusal
one_with_id id layer = the_one NoFeature AmbiguousFeature (filter (λ (f : ℕ × (ℕ × plain.Feature)). has_id id f.1.1) (found_features layer.items))

id_ordinal : (id : ℕ) (layer : plain.Layer) (answer : Result FoundFeature Refusal) → result_map_both found_feature_seen (λ refusal. refusal) answer ≡ one_with_id id layer → result_map_both (λ (found : FoundFeature). found.ordinal) (λ refusal. refusal) answer ≡ selected_feature (WithId id) layer
id_ordinal id layer (Ok found) e = ap (result_map_both (λ (f : ℕ × (ℕ × plain.Feature)). f.0) (λ refusal. refusal)) e ∙ sym (one_ordinal feature_in (has_id id) NoFeature AmbiguousFeature layer.items)
id_ordinal id layer (Err refusal) e = ap (result_map_both (λ (f : ℕ × (ℕ × plain.Feature)). f.0) (λ refusal. refusal)) e ∙ sym (one_ordinal feature_in (has_id id) NoFeature AmbiguousFeature layer.items)

pub feature_of_id : (id : ℕ) (layer : plain.Layer) (answer : Result FoundFeature Refusal) → result_map_both found_feature_seen (λ refusal. refusal) answer ≡ one_with_id id layer → IfOk answer (IsFoundFeature (WithId id) layer)
feature_of_id id layer (Err refusal) e = tt
feature_of_id id layer (Ok found) e =
    let at = one_stands feature_in (has_id id) NoFeature AmbiguousFeature layer.items (found_feature_seen found) (sym e) in
    feature_found (WithId id) layer at.0 found (sym (id_ordinal id layer (Ok found) e)) at.1

pub no_feature_of_id : (id : ℕ) (layer : plain.Layer) (answer : Result FoundFeature Refusal) → result_map_both found_feature_seen (λ refusal. refusal) answer ≡ one_with_id id layer → IfErr answer (λ refusal. selected_feature (WithId id) layer ≡ Err refusal)
no_feature_of_id id layer (Ok found) e = tt
no_feature_of_id id layer (Err refusal) e = sym (id_ordinal id layer (Err refusal) e)
