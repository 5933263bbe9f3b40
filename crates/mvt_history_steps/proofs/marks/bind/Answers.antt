use Rattle.std.proofs.Common.{◌≡◌, ℕ, List, Ok, Err, None, map, set, insert, ap, subst, ◌∙◌}
use Rattle.std.proofs.lemmas.List.{map-set}
use Rattle.mvt_history_steps.specs.Held.{mark_of}
use Rattle.mvt_history_steps.specs.declared.marks.Mark.{Mark}
use Rattle.mvt_history_steps.specs.Marks.{IsPlaceOf, point_of}
use Rattle.mvt_history_steps.proofs.MarkPlaces.{held_name, bound_there, bound_not_there, map-insert, point_not_there}
use Rattle.mvt_history_steps.proofs.marks.bind.Goals as goal

-- the mark there has the new point
pub returns-in-Ok-clause-marks : goal.returns-in-Ok-clause-marks
returns-in-Ok-clause-marks c =
    let name = c.args.name.now in
    let old = c.args.marks.now.items in
    let place = c.in-Ok.place in
    let is = subst (λ marks. IsPlaceOf name (map mark_of marks) (Ok place)) c.as_slice.ensures.value c.in-Ok.ensures in
    let same = ap (λ mark. mark.name.items) c.index_mut.ensures.value ∙ held_name name old place c.index_mut.result.now is in
    map-set mark_of old place (record { name = c.index_mut.result.now.name; point = c.args.point }) ∙ ap (λ own. set (map mark_of old) place (record { name = own; point = c.args.point })) same ∙ bound_there name c.args.point (map mark_of old) place is

-- a new mark is there
pub returns-in_ok-insert-in-Err-clause-marks : goal.returns-in_ok-insert-in-Err-clause-marks
returns-in_ok-insert-in-Err-clause-marks c =
    let name = c.args.name.now in
    let old = c.args.marks.now.items in
    let place = c.in-Err.place in
    let is = subst (λ marks. IsPlaceOf name (map mark_of marks) (Err place)) c.as_slice.ensures.value c.in-Err.ensures in
    ap (map mark_of) c.in_ok-insert-in-Err.ensures.items ∙ map-insert mark_of old place (record { name = c.in_ok-name-in-Err.name; point = c.args.point }) ∙ ap (λ own. insert (map mark_of old) place (record { name = own; point = c.args.point })) c.in_ok-name-in-Err.ensures.items ∙ bound_not_there name c.args.point (map mark_of old) place is

-- memory is asked for only if no mark has the name

unmarked : (name : List ℕ) (marks seen : List Mark) (place : ℕ) → seen ≡ marks → IsPlaceOf name (map mark_of seen) (Err place) → point_of name (map mark_of marks) ≡ None
unmarked name marks seen place same is = point_not_there name (map mark_of marks) place (subst (λ held. IsPlaceOf name (map mark_of held) (Err place)) same is)

pub returns-in_err-name-in-Err-clause-no_memory : goal.returns-in_err-name-in-Err-clause-no_memory
returns-in_err-name-in-Err-clause-no_memory c = λ err. unmarked c.args.name.now c.args.marks.now.items c.as_slice.result.now c.in-Err.place c.as_slice.ensures.value c.in-Err.ensures

pub returns-in_err-insert-in-Err-clause-no_memory : goal.returns-in_err-insert-in-Err-clause-no_memory
returns-in_err-insert-in-Err-clause-no_memory c = λ err. unmarked c.args.name.now c.args.marks.now.items c.as_slice.result.now c.in-Err.place c.as_slice.ensures.value c.in-Err.ensures
