use Rattle.std.proofs.Common.{map, refl, sym, ◌∙◌}
use Rattle.mvt_history_steps.specs.Held.{mark_of}
use Rattle.mvt_history_steps.proofs.MarkPlaces.{place_taken, no_place_taken, point_not_there, held_within, held_point}
use Rattle.mvt_history_steps.proofs.marks.find_point.Goals as goal

pub returns-in_err-place : goal.returns-in_err-place
returns-in_err-place c =
    let name = c.args.name.now in
    let marks = c.args.marks.now in
    let none = no_place_taken name marks marks _ _ refl c.ok.ensures.value c.in_err-place.was c.place_of.ensures in
    c.from_residual.ensures ∙ sym (point_not_there name (map mark_of marks) none.0 none.1)

pub bounds-marks-place : goal.bounds-marks-place
bounds-marks-place c =
    let name = c.args.name.now in
    let marks = c.args.marks.now in
    let place = c.in_ok-place.place in
    held_within name marks place (place_taken name marks marks _ _ place refl c.ok.ensures.value c.in_ok-place.was c.place_of.ensures)

pub returns : goal.returns
returns c =
    let name = c.args.name.now in
    let marks = c.args.marks.now in
    let place = c.in_ok-place.place in
    sym (held_point name marks place c.index-marks-place.result (place_taken name marks marks _ _ place refl c.ok.ensures.value c.in_ok-place.was c.place_of.ensures))
