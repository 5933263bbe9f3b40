use Rattle.std.proofs.Common.{length}
use Rattle.mvt_document.specs.HeldPlaces.{held_items_at}
use Rattle.mvt_document.proofs.Placing.{made_there, takes_there}
use Rattle.mvt_splices.specs.Splices.{CarriesOut, FitRun}
use Rattle.mvt_change.specs.Changes.{OfTheLayer}
use Rattle.mvt_change.specs.Runs.{IsOn, IsRoomierStep, layer_splice, turned_in_layer}
use Rattle.mvt_change.proofs.ListRuns.{run_advanced, run_fits_there}
use Rattle.mvt_change.proofs.lists.run_in_layer.Goals as goal

pub change_items-requires : goal.change_items-requires
change_items-requires c =
    let place = OfTheLayer c.args.layer in
    takes_there (held_items_at c.args.layer c.args.document.now) c.args.steps.now (λ list steps. FitRun (IsOn place) layer_splice steps (length list.items)) (run_fits_there place c.args.steps.now c.args.document.now c.requires.some c.requires.first c.requires.fits)

pub returns-clause-some : goal.returns-clause-some
returns-clause-some c =
    let place = OfTheLayer c.args.layer in
    (run_advanced place c.args.steps.now c.change_items.new.beside c.args.document.now c.change_items.new.self c.requires.fits c.change_items.result c.requires.some c.requires.first
    (made_there _ _ _ _ _ _ _ c.change_items.ensures (λ x y r v w. CarriesOut (IsOn place) layer_splice turned_in_layer IsRoomierStep r y w x v) (λ x y r v w met. met))).0

pub returns-clause-within : goal.returns-clause-within
returns-clause-within c =
    let place = OfTheLayer c.args.layer in
    (run_advanced place c.args.steps.now c.change_items.new.beside c.args.document.now c.change_items.new.self c.requires.fits c.change_items.result c.requires.some c.requires.first
    (made_there _ _ _ _ _ _ _ c.change_items.ensures (λ x y r v w. CarriesOut (IsOn place) layer_splice turned_in_layer IsRoomierStep r y w x v) (λ x y r v w met. met))).1

pub returns-clause-made : goal.returns-clause-made
returns-clause-made c =
    let place = OfTheLayer c.args.layer in
    (run_advanced place c.args.steps.now c.change_items.new.beside c.args.document.now c.change_items.new.self c.requires.fits c.change_items.result c.requires.some c.requires.first
    (made_there _ _ _ _ _ _ _ c.change_items.ensures (λ x y r v w. CarriesOut (IsOn place) layer_splice turned_in_layer IsRoomierStep r y w x v) (λ x y r v w met. met))).2

pub returns-clause-ends : goal.returns-clause-ends
returns-clause-ends c =
    let place = OfTheLayer c.args.layer in
    (run_advanced place c.args.steps.now c.change_items.new.beside c.args.document.now c.change_items.new.self c.requires.fits c.change_items.result c.requires.some c.requires.first
    (made_there _ _ _ _ _ _ _ c.change_items.ensures (λ x y r v w. CarriesOut (IsOn place) layer_splice turned_in_layer IsRoomierStep r y w x v) (λ x y r v w met. met))).3
