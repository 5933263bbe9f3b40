-- The items of a layer of a document, and steps on its features, carried out in one visit to the layer.
use Rattle.std.proofs.Common.{◌≡◌, ℕ, zero, suc, ◌+◌, ◌-◌, ◌<◌, ◌≤◌, ◌==◌, ◌≢◌, inl, inr, ⊎_elim, eq-or-lt_of_le, Bool, false, nat_eq, true≢false, IsTrue, is_some, nat_lt, List, [], ◌∷◌, ◌++◌, length, map, reverse, take, drop, get_or, set, slice_index_or, true, Option, Some, None, option_map, refl, sym, ap, ◌∙◌, subst, arith}
use Rattle.std.specs.Prelude.{Result, Ok, Err, is_ok, if◌then◌else◌, slice_get, IfOk, OnErr, OnOk}
use Rattle.std.specs.List.{AllByRecursion}
use Rattle.std.specs.Cmp.{unsigned_Decides}
use Rattle.std.specs.Option.{IfSome, IsSomeAnd, option_and_then, option_eq}
use Rattle.mvt_document.specs.Held.{Held}
use Rattle.mvt_document.specs.Plain as plain
use Rattle.mvt_document.specs.Stands.{document_of}
use Rattle.mvt_document.specs.HeldPlaces.{held_items_at, held_fields_in_at, change_held_items}
use Rattle.mvt_document.specs.declared.field.FieldParts.{FieldParts as Field}
use Rattle.mvt_document.specs.declared.document.LayerItem.{LayerItem}
use Rattle.mvt_document.specs.declared.document.Document.{Document}
use Rattle.mvt_change.specs.declared.change.Step.{Step}
use Rattle.mvt_change.specs.declared.change.Step.TheVariants.{InFeature}
use Rattle.mvt_change.specs.Changes.{Change, Place, OfTheTile, OfTheLayer, OfTheFeature, Fits}
use Rattle.mvt_change.specs.ChangeStands.{action_of, step_of}
use Rattle.mvt_change.specs.Room.{KeepsDocument, KeepsField}
use Rattle.mvt_change.specs.HeldChanges.{ExchangesFirst, FindsAction, HasHeldPart, IsTurned, go_held_step}
use Rattle.mvt_change.specs.Underway.{Advances, AdvancesIn, FindsFields, FitInLayer, InEach, IsInFeatureOf, IsUnderway, IsVisit, item_at, item_in, layer_in, steps_made}
use Rattle.mvt_change.specs.Runs.{IsOn}
use Rattle.std.proofs.lemmas.Grind.{drop_more_same}
use Rattle.std.proofs.lemmas.Bool.Decides.{nat_tests}
use Rattle.std.proofs.lemmas.List.{drop-set-lt}
use Rattle.std.proofs.lemmas.Option.{slice_get_read}
use Rattle.mvt_document.proofs.Options.{where_some}
use Rattle.mvt_change.proofs.HeldLenses.{list_part}
use Rattle.mvt_change.proofs.Actions.{fits_finds}
use Rattle.mvt_change.proofs.TurnedRuns.{ok_then}
use Rattle.mvt_change.proofs.Underway.{one_more}

-- ---- a document with other items in the layer

module _ (layer : ℕ) (document : Document) (items : Held LayerItem) (is : held_items_at layer document ≡ Some items) where
  pub visited : (made : Held LayerItem) → held_items_at layer (change_held_items (λ x. made) layer document) ≡ Some made
  visited made = (list_part (OfTheLayer layer) document).found (λ x. made) ∙ ap (option_map (λ x. made)) is

  pub visited_twice : (made next : Held LayerItem) → change_held_items (λ x. next) layer (change_held_items (λ x. made) layer document) ≡ change_held_items (λ x. next) layer document
  visited_twice made next = (list_part (OfTheLayer layer) document).twice (λ x. made) (λ x. next)

  pub not_visited : change_held_items (λ x. items) layer document ≡ document
  not_visited =
      let part = list_part (OfTheLayer layer) document in
      part.alike (λ x. items) (λ x. x) (subst (λ o. IfSome o (λ x. items ≡ x)) (sym is) refl) ∙ part.same

-- ---- a step on a feature of the layer

pub in_its_layer : (step : Step) (layer : ℕ) → IsInFeatureOf layer step → layer_in step ≡ layer
in_its_layer (InFeature other item index taken put) layer on = on
in_its_layer step layer on = absurd on

pub finds_fields : (step : Step) (layer : ℕ) (found : Option (Held LayerItem)) (document : Document) → IsInFeatureOf layer step → held_items_at layer document ≡ found → FindsAction (action_of step) document → IsSomeAnd found (λ items. FindsFields items step)
finds_fields (InFeature other item index taken put) layer None document on is finds =
    let there : held_items_at other document ≡ None = ap (λ n. held_items_at n document) on ∙ is in
    subst (λ o. IsSomeAnd (option_and_then (held_fields_in_at item) o) (HasHeldPart index taken)) there finds
finds_fields (InFeature other item index taken put) layer (Some items) document on is finds =
    let there : held_items_at other document ≡ Some items = ap (λ n. held_items_at n document) on ∙ is in
    subst (λ o. IsSomeAnd (option_and_then (held_fields_in_at item) o) (HasHeldPart index taken)) there finds
finds_fields step layer found document on is finds = absurd on

-- what holds once a step is made in each document that has these items holds for the one that is visited
pub then_visited : (layer : ℕ) (document : Document) (items : Held LayerItem) (is : held_items_at layer document ≡ Some items) (now next : Held LayerItem) (step : Step) (holds : Document → Document → Type 0) → IsInFeatureOf layer step → InEach (layer_in step) now next holds
    → holds (change_held_items (λ x. now) layer document) (change_held_items (λ x. next) layer document)
then_visited layer document items is now next step holds on each =
    let here = subst (λ n. InEach n now next holds) (in_its_layer step layer on) each in
    subst (holds (change_held_items (λ x. now) layer document)) (visited_twice layer document items is now next) (here (change_held_items (λ x. now) layer document) (visited layer document items is now))

-- in a document that is visited, one more step on a feature of the layer is made, and turned
pub one_more_visited : {A E : Type 0} (layer : ℕ) (document : Document) (items now next : Held LayerItem) (is : held_items_at layer document ≡ Some items)
    → (change : Change) (start : plain.Document) (steps : List Step) (at : ℕ) (step turned : Step) (result : Result A E)
    → at < length steps → step ≡ get_or steps at step → IsInFeatureOf layer step → is_ok result ≡ true
    → InEach (layer_in step) now next (λ before after. KeepsDocument (if is_ok result then go_held_step step before else before) after)
    → InEach (layer_in step) now next (λ before after. OnOk result (IsTurned step before turned))
    → (made : List Step) → IsUnderway change start (reverse (take at steps) ++ made) (drop at steps) (change_held_items (λ x. now) layer document)
    → IsUnderway change start (reverse (take (at + 1) (set steps at turned)) ++ made) (drop (at + 1) (set steps at turned)) (change_held_items (λ x. next) layer document)
one_more_visited layer document items now next is change start steps at step turned result within there on done kept turns made under =
    let keeps = then_visited layer document items is now next step (λ before after. KeepsDocument (if is_ok result then go_held_step step before else before) after) on kept in
    one_more change start made steps at step turned (change_held_items (λ x. now) layer document) (change_held_items (λ x. next) layer document) within there under (rw done at keeps)
    (ok_then result _ (then_visited layer document items is now next step (λ before after. OnOk result (IsTurned step before turned)) on turns) done)

-- if something is found at a position, that is within the list
pub found_within : {A : Type 0} (P : A → Type 0) (xs : List A) (at : ℕ) → IsSomeAnd (slice_get xs at) P → at < length xs
found_within P [] at found = absurd found
found_within P (x ∷ xs) zero found = omega arith
found_within P (x ∷ xs) (suc at) found = omega (arith, found_within P xs at found)

-- the fields to put are as they were if none were exchanged
pub same_puts : {A E : Type 0} (r : Result A E) (index taken : ℕ) (found : Option (Held Field)) (puts left : List (Held Field)) (put : Held Field) (holds : Held Field → Type 0) → puts ≡ put ∷ []
    → IsSomeAnd found (λ list. (made : Held Field) × ExchangesFirst KeepsField index taken (is_ok r) list made puts left × holds made) → OnErr r ((slice_index_or left 0 put).items ≡ put.items)
same_puts (Ok x) index taken found puts left put holds is there = tt
same_puts (Err e) index taken None puts left put holds is there = absurd there
same_puts (Err e) index taken (Some list) puts left put holds is there = (there.1.given put).items ∙ ap (λ ps. (slice_index_or ps 0 put).items) is

-- there is a layer if a step on a feature of it fits
fit_found : (layer : ℕ) (steps : List Step) (document : Document) (found : Option (Held LayerItem)) → IsSomeAnd (slice_get steps 0) (IsInFeatureOf layer) → Fits (map step_of steps) (document_of document) → held_items_at layer document ≡ found → IsSomeAnd found (FitInLayer layer steps)
fit_found layer [] document found first fits is = absurd first
fit_found layer (step ∷ steps) document None first fits is = finds_fields step layer None document first is (fits_finds (action_of step) document fits.0)
fit_found layer (step ∷ steps) document (Some items) first fits is = record { document = document; there = is; first = first; fits = fits }

pub fit_there : (layer : ℕ) (steps : List Step) (document : Document) → 0 < length steps → AllByRecursion (IsInFeatureOf layer) (take 1 steps) → Fits (map step_of steps) (document_of document) → IsSomeAnd (held_items_at layer document) (FitInLayer layer steps)
fit_there layer [] document some features fits = absurd (omega arith)
fit_there layer (step ∷ steps) document some features fits = fit_found layer (step ∷ steps) document (held_items_at layer document) features.0 fits refl

-- ---- the steps that were made in the items of the layer were made in the document

pub advanced_there : (layer : ℕ) (result : Result ℕ ℕ) (steps new : List Step) (document after : Document) → IsSomeAnd (held_items_at layer document) (λ items. (made : Held LayerItem) × AdvancesIn layer items made result steps new × (after ≡ change_held_items (λ x. made) layer document))
    → IfOk result (λ n. 0 < n) × (steps_made result ≤ length steps) × Advances (steps_made result) steps new document after × IfOk result (λ n. IsVisit layer n steps)
advanced_there layer result steps new document after there =
    where_some (held_items_at layer document) _ (λ o. held_items_at layer document ≡ o → IfOk result (λ n. 0 < n) × (steps_made result ≤ length steps) × Advances (steps_made result) steps new document after × IfOk result (λ n. IsVisit layer n steps))
    (λ items p is. (p.1.some, p.1.within, subst (Advances (steps_made result) steps new document) (sym p.2) (p.1.made_there document is), p.1.visit)) there refl

-- ---- the feature of the layer that a step is on

is_feature : (layer : ℕ) (step : Step) → IsTrue (is_some (item_in layer step)) → IsInFeatureOf layer step
is_feature layer (InFeature other item index taken put) is = by (other == layer) refl is where
  by : (equal : Bool) → (other == layer) ≡ equal → IsTrue (is_some (if equal then Some item else None)) → other ≡ layer
  by true same found = (unsigned_Decides other layer).0 same
  by false same found = absurd cc
is_feature layer step is = absurd cc

-- where a feature is found, the step is on it
pub is_feature_at : (layer : ℕ) (found : Option Step) → IsTrue (is_some (option_and_then (item_in layer) found)) → IsSomeAnd found (IsInFeatureOf layer)
is_feature_at layer None is = absurd cc
is_feature_at layer (Some step) is = is_feature layer step is

none_found : (found : Option ℕ) → is_some found ≡ false → found ≡ None
none_found None none = refl
none_found (Some item) none = absurd cc

same_found : (found other : Option ℕ) → option_eq nat_eq found other ≡ true → found ≡ other
same_found None None same = refl
same_found (Some item) (Some other) same = ap Some ((unsigned_Decides item other).0 same)
same_found found other same = absurd cc

found_itself : (found : Option ℕ) → option_eq nat_eq found found ≡ true
found_itself None = refl
found_itself (Some item) = (unsigned_Decides item item).1 refl

-- which feature of the layer the step that is read is on
pub item_read : (layer : ℕ) (steps : List Step) (at : ℕ) (step : Step) (found : Option ℕ) → true ≡ nat_lt at (length steps) → step ≡ get_or steps at step → item_in layer step ≡ found → found ≡ item_at layer steps at
item_read layer steps at step found inside read is =
    let less : at < length steps = grind (arith, nat_tests) in
    sym (ap (option_and_then (item_in layer)) (slice_get_read steps (length steps) at step refl less read) ∙ is)

pub item_here : (layer other item index taken : ℕ) (put : Held Field) (step : Step) → step ≡ InFeature other item index taken put → other ≡ layer → item_in layer step ≡ Some item
item_here layer other item index taken put step is same =
    let same : (other == layer) ≡ true = grind (arith, nat_tests) in
    rw (is, same) refl

pub item_elsewhere : (layer other item index taken : ℕ) (put : Held Field) (step : Step) → step ≡ InFeature other item index taken put → (other ≡ layer → ⊥) → item_in layer step ≡ None
item_elsewhere layer other item index taken put step is apart =
    let apart : (other == layer) ≡ false = grind (arith, nat_tests) in
    rw (is, apart) refl

pub found_apart : (found other : Option ℕ) → option_eq nat_eq found other ≡ false → found ≢ other
found_apart found other apart same = true≢false (sym (found_itself found) ∙ ap (option_eq nat_eq found) same ∙ apart)

-- what is at a position is the first of what is left from there
get_first : {A : Type 0} (xs : List A) (at : ℕ) → slice_get (drop at xs) 0 ≡ slice_get xs at
get_first xs zero = refl
get_first [] (suc at) = refl
get_first (x ∷ xs) (suc at) = get_first xs at

-- where the steps from a position on are the same, so is the feature of the first of them
item_left : (layer at : ℕ) (steps now : List Step) → drop at now ≡ drop at steps → item_at layer now at ≡ item_at layer steps at
item_left layer at steps now left =
    ap (option_and_then (item_in layer)) (sym (get_first now at) ∙ ap (λ xs. slice_get xs 0) left ∙ get_first steps at)

-- steps that are both on one list are on one feature, if the first is on a feature of the layer
pub same_feature : (layer : ℕ) (place : Place) (steps : List Step) → 2 ≤ length steps → AllByRecursion (IsOn place) (take 2 steps) → AllByRecursion (IsInFeatureOf layer) (take 1 steps) → item_at layer steps 0 ≡ item_at layer steps 1
same_feature layer place [] two run first = absurd (omega arith)
same_feature layer place (step ∷ []) two run first = absurd (omega arith)
same_feature layer OfTheTile (InFeature one item index taken put ∷ next ∷ steps) two run first = absurd cc
same_feature layer (OfTheLayer other) (InFeature one item index taken put ∷ next ∷ steps) two run first = absurd cc
same_feature layer (OfTheFeature other place) (InFeature one item index taken put ∷ InFeature two_layer two_item two_index two_taken two_put ∷ steps) two run first =
    let layers : one ≡ two_layer = cc in
    let items : item ≡ two_item = cc in
    λ i. if layers i == layer then Some (items i) else None
same_feature layer (OfTheFeature other place) (InFeature one item index taken put ∷ next ∷ steps) two run first = absurd cc
same_feature layer place (step ∷ next ∷ steps) two run first = absurd first.0

-- ---- how far a visit has come

-- a visit has come to the step at this position: those before it are on features of the layer, each on another than the
-- step after it, and the steps from here on are as they were
pub record IsOnVisit (layer at : ℕ) (steps now : List Step) : Type 0 where
  pub on : AllByRecursion (IsInFeatureOf layer) (take at steps)
  pub apart : (k : ℕ) → k < at → item_at layer steps k ≢ item_at layer steps (k + 1)
  pub left : drop at now ≡ drop at steps

pub visit_begins : (layer : ℕ) (steps : List Step) → IsOnVisit layer 0 steps steps
visit_begins layer steps = record { on = tt; apart = λ k less. absurd (omega arith); left = refl }

-- with one more at its end, all of the first are
all_more : {A : Type 0} (P : A → Type 0) (xs : List A) (at : ℕ) → AllByRecursion P (take at xs) → IsSomeAnd (slice_get xs at) P → AllByRecursion P (take (suc at) xs)
all_more P [] at all here = absurd here
all_more P (x ∷ xs) zero all here = (here, tt)
all_more P (x ∷ xs) (suc at) all here = (all.0, all_more P xs at all.1 here)

-- the step at this position is on a feature of the layer, and was made and turned
module _ (layer at : ℕ) (steps now : List Step) (turned : Step) (visit : IsOnVisit layer at steps now) (here : IsSomeAnd (slice_get now at) (IsInFeatureOf layer)) where
  on_more : AllByRecursion (IsInFeatureOf layer) (take (at + 1) steps)
  on_more =
      let next : suc at ≡ at + 1 = omega arith in
      let same : slice_get now at ≡ slice_get steps at = sym (get_first now at) ∙ ap (λ xs. slice_get xs 0) visit.left ∙ get_first steps at in
      subst (λ n. AllByRecursion (IsInFeatureOf layer) (take n steps)) next (all_more (IsInFeatureOf layer) steps at visit.on (subst (λ found. IsSomeAnd found (IsInFeatureOf layer)) same here))

  left_more : drop (at + 1) (set now at turned) ≡ drop (at + 1) steps
  left_more = drop-set-lt (at + 1) now at turned (omega arith) ∙ drop_more_same now steps at visit.left

  module _ (item next : Option ℕ) (is : item ≡ item_at layer steps at) (found : next ≡ item_at layer (set now at turned) (at + 1)) where
    pub next_is : next ≡ item_at layer steps (at + 1)
    next_is = found ∙ item_left layer (at + 1) steps (set now at turned) left_more

    -- the next step is on no feature of the layer
    pub visit_leaves : is_some next ≡ false → IsVisit layer (at + 1) steps
    visit_leaves none =
        record {
          on = on_more;
          apart = λ k less. visit.apart k (omega arith);
          ends = inl (sym next_is ∙ none_found next none);
        }

    -- the next step is on the same feature
    pub visit_stays : option_eq nat_eq next item ≡ true → IsVisit layer (at + 1) steps
    visit_stays same =
        let last : at ≡ at + 1 - 1 = omega arith in
        record {
          on = on_more;
          apart = λ k less. visit.apart k (omega arith);
          ends = inr (sym next_is ∙ same_found next item same ∙ is ∙ ap (item_at layer steps) last);
        }

    -- the next step is on another feature
    pub visit_goes_on : next ≢ item → IsOnVisit layer (at + 1) steps (set now at turned)
    visit_goes_on apart =
        record {
          on = on_more;
          apart = λ k less.
              ⊎_elim (λ last same. apart (next_is ∙ sym (ap (λ n. item_at layer steps (n + 1)) last) ∙ sym same ∙ ap (item_at layer steps) last ∙ sym is)) (λ before. visit.apart k before) (eq-or-lt_of_le (omega arith));
          left = left_more;
        }
