-- What leads back from a change fits, leads back, and turned again is the change itself.
use Rattle.std.proofs.Common.{◌≡◌, [], ◌∷◌, ◌++◌, length, option_map, append_assoc, refl, sym, ap, ◌∙◌, subst, arith}
use Rattle.std.specs.List.{AllByRecursion}
use Rattle.std.specs.Option.{IfSome, IsSomeAnd}
use Rattle.std.proofs.lemmas.List.{append-nil}
use Rattle.std.proofs.lemmas.Option.{IfSome_then}
use Rattle.mvt_document.specs.Plain.{Document}
use Rattle.mvt_document.specs.Opens.{IsDocument}
use Rattle.mvt_document.specs.Splicing.{splice, moved}
use Rattle.mvt_document.specs.Lists.{CanSplice, CanMove}
use Rattle.mvt_change.specs.Changes.{Step, SpliceStep, MoveStep, Change, list_at, change_list, IsItemAt, go_step, go, FitsStep, Fits, turn_step, turn, taken_out}
use Rattle.mvt_change.specs.Laws.{ChangeMakesDocument, TurnedFits, TurnedLeadsBack, TurnedTwice, JoinedGo, JoinedFit}
use Rattle.mvt_document.proofs.Exchanged.{part-splice}
use Rattle.mvt_document.proofs.Options.{where_some, if_each, if_both, some_mapped}
use Rattle.mvt_splices.proofs.Backwards.{splice-back}
use Rattle.mvt_change.proofs.Splicing.{length-part, moved-back, all_splice, all_moved, can_splice_back, can_move_back}
use Rattle.mvt_change.proofs.Lenses.{goes_back, found_there, list_part, list_sound}

-- ---- one step

pub step_makes : (step : Step) (document : Document) → IsDocument document → FitsStep step document → IsDocument (go_step step document)
step_makes (SpliceStep place index taken put) document valid fits =
    let sound = list_sound place document in
    sound.kept (splice index taken put) valid
    (if_both (list_at place document) _ _ _ (λ x all can. all_splice (IsItemAt place) index taken put x can.valid_put all) (sound.part_good valid) fits)
step_makes (MoveStep place from to) document valid fits =
    let sound = list_sound place document in
    sound.kept (moved from to) valid (IfSome_then (list_at place document) (sound.part_good valid) (λ x all. all_moved (IsItemAt place) from to x all))

pub turned_step_fits : (step : Step) (document : Document) → IsDocument document → FitsStep step document → FitsStep (turn_step step document) (go_step step document)
turned_step_fits (SpliceStep place index taken put) document valid fits =
    let P = IsItemAt place in
    let list = list_at place document in
    found_there (list_part place document) (splice index taken put) (CanSplice P index (length put) (taken_out index taken list))
    (where_some list (CanSplice P index taken put) (λ o. IfSome o (AllByRecursion P) → IsSomeAnd (option_map (splice index taken put) o) (CanSplice P index (length put) (taken_out index taken o))) (λ x can all. can_splice_back P index taken put x all can) fits
    ((list_sound place document).part_good valid))
turned_step_fits (MoveStep place from to) document valid fits =
    found_there (list_part place document) (moved from to) (CanMove to from)
    (some_mapped (moved from to) (list_at place document) (CanMove from to) (CanMove to from) (can_move_back from to) fits)

pub turned_step_back : (step : Step) (document : Document) → FitsStep step document → go_step (turn_step step document) (go_step step document) ≡ document
turned_step_back (SpliceStep place index taken put) document fits =
    let list = list_at place document in
    goes_back (list_part place document) (splice index taken put) (splice index (length put) (taken_out index taken list))
    (where_some list (CanSplice (IsItemAt place) index taken put) (λ o. IfSome o (λ x. splice index (length put) (taken_out index taken o) (splice index taken put x) ≡ x)) (λ x can. splice-back index taken put x (omega (arith, can.within))) fits)
turned_step_back (MoveStep place from to) document fits =
    goes_back (list_part place document) (moved from to) (moved to from) (if_each (list_at place document) _ _ (moved-back from to) fits)

pub turned_step_twice : (step : Step) (document : Document) → FitsStep step document → turn_step (turn_step step document) (go_step step document) ≡ step
turned_step_twice (SpliceStep place index taken put) document fits =
    let list = list_at place document in
    let Can = CanSplice (IsItemAt place) index taken put in
    ap (λ n. SpliceStep place index n (taken_out index (length put) (list_at place (change_list place (splice index taken put) document)))) (where_some list Can (λ o. length (taken_out index taken o) ≡ taken) (λ x can. length-part index taken x can.within) fits)
    ∙ ap (λ o. SpliceStep place index taken (taken_out index (length put) o)) ((list_part place document).found (splice index taken put))
    ∙ ap (SpliceStep place index taken) (where_some list Can (λ o. taken_out index (length put) (option_map (splice index taken put) o) ≡ put) (λ x can. part-splice index taken put x (omega (arith, can.within))) fits)
turned_step_twice (MoveStep place from to) document fits = refl

-- ---- joined changes

pub go_joined : JoinedGo
go_joined [] second document = refl
go_joined (step ∷ first) second document = go_joined first second (go_step step document)

pub fit_joined : JoinedFit
fit_joined [] second document = (λ fits. (tt, fits), λ both. both.1)
fit_joined (step ∷ first) second document =
    let rest = fit_joined first second (go_step step document) in
    (λ fits. let both = rest.0 fits.1 in ((fits.0, both.0), both.1), λ both. (both.0.0, rest.1 (both.0.1, both.1)))

pub fits_joined : (first second : Change) (document : Document) → Fits first document → Fits second (go first document) → Fits (first ++ second) document
fits_joined first second document fits more = (fit_joined first second document).1 (fits, more)

pub turn_joined : (first second : Change) (document : Document) → turn (first ++ second) document ≡ turn second (go first document) ++ turn first document
turn_joined [] second document = sym (append-nil (turn second document))
turn_joined (step ∷ first) second document =
    rw (turn_joined first second (go_step step document), append_assoc)

-- ---- a change

pub change_makes : ChangeMakesDocument
change_makes [] document valid fits = valid
change_makes (step ∷ change) document valid fits = change_makes change (go_step step document) (step_makes step document valid fits.0) fits.1

pub turned_back : TurnedLeadsBack
turned_back [] document fits = refl
turned_back (step ∷ change) document fits =
    let next = go_step step document in
    rw (go_joined (turn change next) (turn_step step document ∷ []) (go change next), turned_back change next fits.1) (turned_step_back step document fits.0)

pub turned_fits : TurnedFits
turned_fits [] document valid fits = tt
turned_fits (step ∷ change) document valid fits =
    let next = go_step step document in
    fits_joined (turn change next) (turn_step step document ∷ []) (go change next)
    (turned_fits change next (step_makes step document valid fits.0) fits.1)
    (subst (λ d. Fits (turn_step step document ∷ []) d) (sym (turned_back change next fits.1)) (turned_step_fits step document valid fits.0, tt))

pub turned_twice : TurnedTwice
turned_twice [] document fits = refl
turned_twice (step ∷ change) document fits =
    let next = go_step step document in
    rw (turn_joined (turn change next) (turn_step step document ∷ []) (go change next), turned_back change next fits.1, turned_step_twice step document fits.0, turned_twice change next fits.1)
