-- Steps on one list, one after the other, and what a pass over the list makes of them.
use Rattle.std.proofs.Common.{◌≡◌, ◌≢◌, ℕ, zero, suc, ◌<◌, ◌≤◌, List, [], ◌∷◌, length, map, take, drop, slice_index_or, Some, option_map, refl, sym, ap, ◌∙◌, subst, arith}
use Rattle.std.specs.Prelude.{Result, Ok, Err, IfOk}
use Rattle.std.specs.List.{AllByRecursion, AllZip}
use Rattle.std.specs.Option.{IsSomeAnd}
use Rattle.mvt_document.specs.Held.{Held}
use Rattle.mvt_document.specs.Splicing.{part}
use Rattle.mvt_document.specs.Stands.{document_of}
use Rattle.mvt_document.specs.declared.document.Document.{Document}
use Rattle.mvt_splices.specs.Splices.{Splice, IsRoomier, FitAll, FitRun, StartElsewhere, CarriesOut, after_all, longest, turned_all, spliced_length}
use Rattle.mvt_splices.proofs.Runs.{length-spliced, length_within, roomy_spliced, run_fits}
use Rattle.mvt_change.specs.declared.change.Step.{Step}
use Rattle.mvt_change.specs.declared.change.Step.TheVariants.{InTile, InLayer, InFeature, Move}
use Rattle.mvt_change.specs.Changes.{Place, OfTheTile, OfTheLayer, OfTheFeature, Fits}
use Rattle.mvt_change.specs.HeldLists.{HeldItemAt, KeepsItemAt, held_list_at, change_held_list}
use Rattle.mvt_change.specs.ChangeStands.{SpliceAt, action_of, spliced_place, step_of}
use Rattle.mvt_change.specs.Room.{capacity, KeepsList, KeepsDocument}
use Rattle.mvt_change.specs.HeldChanges.{HasHeldPart, exchanged, go_action, go_held_step, go_held, FindsAction, IsBack, IsTurnedAction, AreTurned}
use Rattle.mvt_change.specs.Runs.{tile_splice, layer_splice, feature_splice, turned_in_tile, turned_in_layer, turned_in_feature, held_part, IsRoomierStep, IsOn, exchanged_all}
use Rattle.mvt_change.specs.Underway.{Advances, IsInFeatureOf, IsVisit, carried_out, item_at}
use Rattle.mvt_change.specs.RunLaws.{roomy_tile, roomy_layer, roomy_feature}
use Rattle.std.proofs.lemmas.Option.{same_Some}
use Rattle.std.proofs.lemmas.List.{drop_all}
use Rattle.mvt_document.proofs.Options.{where_some}
use Rattle.mvt_change.proofs.Splicing.{length-part}
use Rattle.mvt_change.proofs.Keeping.{Order, kept_items}
use Rattle.mvt_change.proofs.HeldLenses.{list_part, made_keeps, order_at}
use Rattle.mvt_change.proofs.Actions.{action_stands, fits_finds}
use Rattle.mvt_change.proofs.Underway.{first_advance, none_advance}

-- ---- one list, which has the room for its greatest length on the way

module _ {T : Type 0} {Keeps : T → T → Type 0} (order : Order Keeps) (splice_of : Step → Splice T) where
  list_kept : (steps : List Step) (list new : Held T) → FitAll splice_of steps (length list.items) → new.items ≡ after_all splice_of steps list.items → capacity list ≤ capacity new → longest splice_of steps (length list.items) ≤ capacity new
      → KeepsList Keeps (exchanged_all splice_of steps list) new
  list_kept [] list new fit same room long = kept_items order list new same room
  list_kept (step ∷ steps) list new fit same room long =
      let next = exchanged (splice_of step).index (splice_of step).taken (splice_of step).put list in
      let count : length next.items ≡ spliced_length (splice_of step) (length list.items) = length-spliced (splice_of step) list.items fit.0 in
      let rest = subst (FitAll splice_of steps) (sym count) fit.1 in
      let far : longest splice_of steps (length next.items) ≤ capacity new = omega (arith, long, ap (longest splice_of steps) count) in
      list_kept steps next new rest same (omega (arith, room, far, length_within splice_of steps (length next.items))) far

-- ---- steps as splices of the list at a place

-- the splice that a step on the list at a place is
abbrev pub splice_on : (place : Place) → Step → Splice (HeldItemAt place)
splice_on OfTheTile = tile_splice
splice_on (OfTheLayer layer) = layer_splice
splice_on (OfTheFeature layer item) = feature_splice

-- the step that leads back from what a step on the list at a place makes of these items
abbrev pub turned_on : (place : Place) → Step → List (HeldItemAt place) → Step
turned_on OfTheTile = turned_in_tile
turned_on (OfTheLayer layer) = turned_in_layer
turned_on (OfTheFeature layer item) = turned_in_feature

-- the step is its splice of the list at this place, and so is the one that leads back
record IsSpliceOn (place : Place) (step : Step) : Type 0 where
  is : action_of step ≡ SpliceAt place (splice_on place step).index (splice_on place step).taken (splice_on place step).put
  turned : (items : List (HeldItemAt place)) → action_of (turned_on place step items) ≡ SpliceAt place (splice_on place step).index (length (splice_on place step).put.items) (held_part (splice_on place step).index (splice_on place step).taken (splice_on place step).put items)

is_splice : (place : Place) (step : Step) → IsOn place step → IsSpliceOn place step
is_splice OfTheTile (InTile index taken put) on = record { is = refl; turned = λ items. refl }
is_splice (OfTheLayer layer) (InLayer other index taken put) on =
    let same : other ≡ layer = cc in
    record {
      is = ap (λ n. SpliceAt (OfTheLayer n) index taken put) same;
      turned = λ items. ap (λ n. SpliceAt (OfTheLayer n) index (length put.items) (held_part index taken put items)) same;
    }
is_splice (OfTheFeature layer item) (InFeature other at index taken put) on =
    let same : other ≡ layer = cc in
    let there : at ≡ item = cc in
    record {
      is = λ i. SpliceAt (OfTheFeature (same i) (there i)) index taken put;
      turned = λ items i. SpliceAt (OfTheFeature (same i) (there i)) index (length put.items) (held_part index taken put items);
    }
is_splice place step on = absurd cc

roomy_on : (place : Place) (s t : Step) → IsRoomierStep s t → IsRoomier (splice_on place s) (splice_on place t)
roomy_on OfTheTile s t roomy = roomy_tile s t roomy
roomy_on (OfTheLayer layer) s t roomy = roomy_layer s t roomy
roomy_on (OfTheFeature layer item) s t roomy = roomy_feature s t roomy

roomier_stays : (place : Place) (s t : Step) → IsRoomierStep s t → IsOn place s → IsOn place t
roomier_stays place (Move at from to) t roomy on = absurd cc
roomier_stays place s t roomy on = ap (λ u. spliced_place (action_of u)) roomy.2 ∙ on

-- steps with more room are the same
roomier_stands : (s t : Step) → IsRoomierStep s t → step_of t ≡ step_of s
roomier_stands (InTile index taken put) t roomy = ap step_of roomy.2 ∙ ap (λ items. step_of (InTile index taken (record put { items = items }))) roomy.1.items
roomier_stands (InLayer layer index taken put) t roomy = ap step_of roomy.2 ∙ ap (λ items. step_of (InLayer layer index taken (record put { items = items }))) roomy.1.items
roomier_stands (InFeature layer item index taken put) t roomy = ap step_of roomy.2 ∙ ap (λ items. step_of (InFeature layer item index taken (record put { items = items }))) roomy.1.items
roomier_stands (Move place from to) t roomy = ap step_of roomy

roomier_stand : (steps roomy : List Step) → AllZip IsRoomierStep steps roomy → map step_of roomy ≡ map step_of steps
roomier_stand [] [] all = refl
roomier_stand (s ∷ steps) (t ∷ roomy) all =
    rw (roomier_stands s t all.0, roomier_stand steps roomy all.1)
roomier_stand steps roomy all = absurd all

module _ (place : Place) where
  abbrev Items : Type 0
  Items = Held (HeldItemAt place)

  abbrev splice_of : Step → Splice (HeldItemAt place)
  splice_of = splice_on place

  -- the list after one step
  abbrev made_of : Step → Items → Items
  made_of step list = exchanged (splice_of step).index (splice_of step).taken (splice_of step).put list

  goes_one : (step : Step) (document : Document) → IsOn place step → go_held_step step document ≡ change_held_list place (made_of step) document
  goes_one step document on = ap (λ action. go_action action document) (is_splice place step on).is

  next_found : (step : Step) (document : Document) (list : Items) → IsOn place step → held_list_at place document ≡ Some list → held_list_at place (go_held_step step document) ≡ Some (made_of step list)
  next_found step document list on found =
      ap (held_list_at place) (goes_one step document on) ∙ (list_part place document).found (made_of step) ∙ ap (option_map (made_of step)) found

  goes : (steps : List Step) (document : Document) → AllByRecursion (IsOn place) steps → go_held steps document ≡ change_held_list place (exchanged_all splice_of steps) document
  goes [] document all = sym (list_part place document).same
  goes (step ∷ steps) document all =
      rw (goes_one step document all.0, goes steps (change_held_list place (made_of step) document) all.1) ((list_part place document).twice (made_of step) (exchanged_all splice_of steps))

  finds : (step : Step) (steps : List Step) (document : Document) → IsOn place step → Fits (map step_of (step ∷ steps)) (document_of document) → IsSomeAnd (held_list_at place document) (HasHeldPart (splice_of step).index (splice_of step).taken)
  finds step steps document on fits = subst (λ action. FindsAction action document) (is_splice place step on).is (fits_finds (action_of step) document fits.0)

  fit : (steps : List Step) (document : Document) (list : Items) → held_list_at place document ≡ Some list → Fits (map step_of steps) (document_of document) → FitRun (IsOn place) splice_of steps (length list.items)
  fit [] document list found fits = tt
  fit (step ∷ steps) document list found fits = λ on.
      let within = subst (λ o. IsSomeAnd o (HasHeldPart (splice_of step).index (splice_of step).taken)) found (finds step steps document on fits) in
      let rest = fit steps (go_held_step step document) (made_of step list) (next_found step document list on found) (subst (Fits (map step_of steps)) (sym (action_stands (action_of step) document)) fits.1) in
      (within, subst (FitRun (IsOn place) splice_of steps) (length-spliced (splice_of step) list.items within) rest)

  -- the list is there, and the steps fit it for as long as they are on it
  pub run_fits_there : (steps : List Step) (document : Document) → 0 < length steps → AllByRecursion (IsOn place) (take 1 steps) → Fits (map step_of steps) (document_of document) → IsSomeAnd (held_list_at place document) (λ list. FitRun (IsOn place) splice_of steps (length list.items))
  run_fits_there [] document some first fits = absurd (omega arith)
  run_fits_there (step ∷ steps) document some first fits =
      where_some (held_list_at place document) _ (λ o. held_list_at place document ≡ o → IsSomeAnd o (λ list. FitRun (IsOn place) splice_of (step ∷ steps) (length list.items))) (λ list there found. fit (step ∷ steps) document list found fits) (finds step steps document first.0 fits) refl

  are_turned : (steps roomy : List Step) (document : Document) (list : Items) → AllByRecursion (IsOn place) steps → AllZip IsRoomierStep steps roomy → held_list_at place document ≡ Some list → FitAll splice_of steps (length list.items)
      → AreTurned steps document (turned_all splice_of (turned_on place) roomy list.items)
  are_turned [] [] document list all same found fits = tt
  are_turned (s ∷ steps) (t ∷ roomy) document list all same found fits =
      let items = list.items in
      let old = splice_of s in
      let new = splice_of t in
      let more : IsRoomier old new = roomy_on place s t same.0 in
      let back = held_part new.index new.taken new.put items in
      let gone : back.items ≡ part old.index old.taken items = λ i. part (more.index i) (more.taken i) items in
      let room : capacity old.put ≤ capacity back = omega (arith, ap length gone, length-part old.index old.taken items fits.0, ap length more.items, more.room, more.taken) in
      let is : action_of (turned_on place t items) ≡ SpliceAt place old.index (length old.put.items) back = (is_splice place t (roomier_stays place s t same.0 all.0)).turned items ∙ (λ i. SpliceAt place (more.index i) (length (more.items i)) back) in
      let is_back : IsBack old.index old.taken old.put back (held_list_at place document) = subst (IsBack old.index old.taken old.put back) (sym found) (record { items = gone; room = room }) in
      let rest = are_turned steps roomy (go_held_step s document) (made_of s list) all.1 same.1 (next_found s document list all.0 found) (subst (FitAll splice_of steps) (sym (length-spliced old items fits.0)) fits.1) in (
        subst (λ action. IsTurnedAction action document (action_of (turned_on place t items))) (sym (is_splice place s all.0).is) (back, is, is_back),
        subst (λ made. AreTurned steps (go_held_step s document) (turned_all splice_of (turned_on place) roomy made)) (sym (roomy_spliced old new items more)) rest,
      )
  are_turned steps roomy document list all same found fits = absurd same

  -- ---- what a pass over the list made

  -- where the first step is on the list, one is made
  makes_some : {E : Type 0} (result : Result ℕ E) (steps : List Step) → 0 < length steps → AllByRecursion (IsOn place) (take 1 steps) → IfOk result (λ n. StartElsewhere (IsOn place) (drop n steps)) → IfOk result (λ n. 0 < n)
  makes_some (Ok zero) [] some first ends = absurd (omega arith)
  makes_some (Ok zero) (step ∷ steps) some first ends = absurd (ends first.0)
  makes_some (Ok (suc n)) steps some first ends = omega arith
  makes_some (Err error) steps some first ends = tt

  module _ (steps new : List Step) (document after : Document) (fits : Fits (map step_of steps) (document_of document)) where
    abbrev Carries : {E : Type 0} → Result ℕ E → Items → Items → Type 0
    Carries result list made = CarriesOut (IsOn place) splice_of (turned_on place) IsRoomierStep result steps new list made

    -- the list that is there was made another
    becomes : (f : Items → Items) (list made : Items) → held_list_at place document ≡ Some list → KeepsList (KeepsItemAt place) (f list) made → after ≡ change_held_list place (λ x. made) document → KeepsDocument (change_held_list place f document) after
    becomes f list made found kept is =
        made_keeps place f document after (subst (λ o. IsSomeAnd o (λ x. (y : Items) × KeepsList (KeepsItemAt place) (f x) y × (after ≡ change_held_list place (λ z. y) document))) (sym found) (made, kept, is))

    advances : {E : Type 0} (result : Result ℕ E) (list made : Items) → held_list_at place document ≡ Some list → Carries result list made → after ≡ change_held_list place (λ x. made) document
        → (carried_out result ≤ length steps) × Advances (carried_out result) steps new document after
    advances (Ok n) list made found out is =
        let run = take n steps in
        let met = out.first in
        let fits_all : FitAll splice_of run (length list.items) = run_fits splice_of (IsOn place) n steps (length list.items) (fit steps document list found fits) met.run in
        let kept = list_kept (order_at place) splice_of run list made fits_all met.items met.room met.greatest in
        let keeps = subst (λ d. KeepsDocument d after) (sym (goes run document met.run)) (becomes (exchanged_all splice_of run) list made found kept is) in
        let turns = subst (AreTurned run document) (sym met.are_turned.3) (are_turned run met.are_turned.0 document list met.run met.are_turned.1 found fits_all) in
        (met.within, first_advance n steps new document after keeps turns (ap (map step_of) met.left))
    advances (Err error) list made found out is =
        let met = out.refused in
        let keeps = subst (λ d. KeepsDocument d after) (list_part place document).same (becomes (λ x. x) list made found (kept_items (order_at place) list made met.items met.room) is) in
        (omega arith, none_advance steps new document after keeps (roomier_stand steps new met.are_roomier))

    -- the steps that were carried out were made in the document: one or more, and all that come before a step elsewhere
    abbrev IsMade : {E : Type 0} → Result ℕ E → Type 0
    IsMade result = IfOk result (λ n. 0 < n) × (carried_out result ≤ length steps) × Advances (carried_out result) steps new document after × IfOk result (λ n. StartElsewhere (IsOn place) (drop n steps))

    -- the steps that were carried out on the list were made in the document
    pub run_advanced : {E : Type 0} (result : Result ℕ E) → 0 < length steps → AllByRecursion (IsOn place) (take 1 steps) → IsSomeAnd (held_list_at place document) (λ list. (made : Items) × Carries result list made × (after ≡ change_held_list place (λ x. made) document))
        → IsMade result
    run_advanced result some first there =
        where_some (held_list_at place document) _ (λ o. held_list_at place document ≡ o → IsMade result)
        (λ list p found. let made = advances result list p.0 found p.1 p.2 in (makes_some result steps some first p.1.ends, made.0, made.1, p.1.ends)) there refl

-- ---- the first steps, where two are on one list, and where not

-- two places of the list that the first step is on are one, so the steps end elsewhere than at each of them
pub run_ends : (n : ℕ) (at place : Place) (steps : List Step) → 2 ≤ length steps → AllByRecursion (IsOn at) (take 2 steps) → StartElsewhere (IsOn at) (drop n steps) → AllByRecursion (IsOn place) (take 2 steps) → StartElsewhere (IsOn place) (drop n steps)
run_ends n at place [] two run ends on = absurd (omega arith)
run_ends n at place (step ∷ steps) two run ends on =
    subst (λ p. StartElsewhere (IsOn p) (drop n (step ∷ steps))) (same_Some at place (sym run.0 ∙ on.0)) ends

-- where the first two steps are not on one list, a run is of one step at most, and that one is made
pub alone_ends : {E : Type 0} (result : Result ℕ E) (steps : List Step) → (2 ≤ length steps → (place : Place) → AllByRecursion (IsOn place) (take 2 steps) → ⊥) → IfOk result (λ n. 0 < n) → IfOk result (λ n. (place : Place) → AllByRecursion (IsOn place) (take 2 steps) → StartElsewhere (IsOn place) (drop n steps))
alone_ends (Ok n) [] apart some = λ place on. subst (StartElsewhere (IsOn place)) (sym (drop_all n [] (omega arith))) tt
alone_ends (Ok n) (step ∷ []) apart some = λ place on. subst (StartElsewhere (IsOn place)) (sym (drop_all n (step ∷ []) (omega arith))) tt
alone_ends (Ok n) (step ∷ next ∷ steps) apart some = λ place on. absurd (apart (omega arith) place on)
alone_ends (Err error) steps apart some = tt

-- it is a visit, also if the first two steps are on different features
pub alone_visits : {E : Type 0} (result : Result ℕ E) (steps : List Step) → IfOk result (λ n. (layer : ℕ) → AllByRecursion (IsInFeatureOf layer) (take 1 steps) → IsVisit layer n steps)
    → IfOk result (λ n. (layer : ℕ) → AllByRecursion (IsInFeatureOf layer) (take 1 steps) → item_at layer steps 0 ≢ item_at layer steps 1 → IsVisit layer n steps)
alone_visits (Ok n) steps visits = λ layer first apart. visits layer first
alone_visits (Err error) steps visits = tt

-- ---- the first step alone

pub first_finds : (steps : List Step) (d : Step) (document : Document) → 0 < length steps → Fits (map step_of steps) (document_of document) → FindsAction (action_of (slice_index_or steps 0 d)) document
first_finds [] d document some fits = absurd (omega arith)
first_finds (step ∷ steps) d document some fits = fits_finds (action_of step) document fits.0
