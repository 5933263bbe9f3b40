use Rattle.mvt_document.specs.HeldPlaces.{held_items_at}
use Rattle.mvt_document.proofs.Placing.{made_there, takes_there}
use Rattle.mvt_change.specs.Underway.{AdvancesIn, FitInLayer}
use Rattle.mvt_change.proofs.Visits.{advanced_there, fit_there}
use Rattle.mvt_change.proofs.features.visit_layer.Goals as goal

pub change_items-requires : goal.change_items-requires
change_items-requires c =
    takes_there (held_items_at c.args.layer c.args.document.now) c.args.steps.now (λ items steps. FitInLayer c.args.layer steps items) (fit_there c.args.layer c.args.steps.now c.args.document.now c.requires.some c.requires.first c.requires.fits)

pub returns-clause-some : goal.returns-clause-some
returns-clause-some c =
    (advanced_there c.args.layer c.change_items.result c.args.steps.now c.change_items.new.beside c.args.document.now c.change_items.new.self
    (made_there _ _ _ _ _ _ _ c.change_items.ensures (λ x y r v w. AdvancesIn c.args.layer x v r y w) (λ x y r v w met. met))).0

pub returns-clause-within : goal.returns-clause-within
returns-clause-within c =
    (advanced_there c.args.layer c.change_items.result c.args.steps.now c.change_items.new.beside c.args.document.now c.change_items.new.self
    (made_there _ _ _ _ _ _ _ c.change_items.ensures (λ x y r v w. AdvancesIn c.args.layer x v r y w) (λ x y r v w met. met))).1

pub returns-clause-made : goal.returns-clause-made
returns-clause-made c =
    (advanced_there c.args.layer c.change_items.result c.args.steps.now c.change_items.new.beside c.args.document.now c.change_items.new.self
    (made_there _ _ _ _ _ _ _ c.change_items.ensures (λ x y r v w. AdvancesIn c.args.layer x v r y w) (λ x y r v w met. met))).2

pub returns-clause-visit : goal.returns-clause-visit
returns-clause-visit c =
    (advanced_there c.args.layer c.change_items.result c.args.steps.now c.change_items.new.beside c.args.document.now c.change_items.new.self
    (made_there _ _ _ _ _ _ _ c.change_items.ensures (λ x y r v w. AdvancesIn c.args.layer x v r y w) (λ x y r v w met. met))).3
