use Rattle.std.proofs.Common.{is_some, map, refl, sym, ap, ◌∙◌, arith}
use Rattle.mvt_history_steps.specs.Held.{mark_of}
use Rattle.mvt_history_steps.proofs.MarkPlaces.{place_taken, no_place_taken, point_not_there, unbound_not_there, held_within, held_point, unbound_there, map-remove}
use Rattle.mvt_history_steps.proofs.marks.unbind.Goals as goal

pub returns-in_err-place-clause-there : goal.returns-in_err-place-clause-there
returns-in_err-place-clause-there c =
    let name = c.args.name.now in
    let marks = c.args.marks.now.items in
    let none = no_place_taken name _ marks _ _ c.as_slice.ensures.value c.ok.ensures.value c.in_err-place.was c.place_of.ensures in
    rw (c.from_residual.ensures, point_not_there name (map mark_of marks) none.0 none.1) (λ e. e, λ e. e)

pub returns-in_err-place-clause-marks : goal.returns-in_err-place-clause-marks
returns-in_err-place-clause-marks c =
    let name = c.args.name.now in
    let marks = c.args.marks.now.items in
    let none = no_place_taken name _ marks _ _ c.as_slice.ensures.value c.ok.ensures.value c.in_err-place.was c.place_of.ensures in
    sym (unbound_not_there name (map mark_of marks) none.0 none.1)

pub remove-requires : goal.remove-requires
remove-requires c =
    let name = c.args.name.now in
    let marks = c.args.marks.now.items in
    let place = c.in_ok-place.place in
    let within = held_within name marks place (place_taken name _ marks _ _ place c.as_slice.ensures.value c.ok.ensures.value c.in_ok-place.was c.place_of.ensures) in
    omega (arith, c.args.marks.now.ok.0, within)

pub returns-clause-there : goal.returns-clause-there
returns-clause-there c =
    let name = c.args.name.now in
    let marks = c.args.marks.now.items in
    let place = c.in_ok-place.place in
    let point = held_point name marks place c.remove.result (place_taken name _ marks _ _ place c.as_slice.ensures.value c.ok.ensures.value c.in_ok-place.was c.place_of.ensures) in
    (λ e. ap is_some point, λ e. refl)

pub returns-clause-marks : goal.returns-clause-marks
returns-clause-marks c =
    let name = c.args.name.now in
    let marks = c.args.marks.now.items in
    let place = c.in_ok-place.place in
    let is = place_taken name _ marks _ _ place c.as_slice.ensures.value c.ok.ensures.value c.in_ok-place.was c.place_of.ensures in
    ap (map mark_of) c.remove.ensures.items ∙ map-remove mark_of marks place ∙ unbound_there name (map mark_of marks) place is
