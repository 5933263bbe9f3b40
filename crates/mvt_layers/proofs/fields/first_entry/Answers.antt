use Rattle.std.proofs.Common.{◌+◌, ◌∷◌, map, ◌∙◌}
use Rattle.mvt_document.specs.Stands.{layer_item_of}
use Rattle.mvt_messages.specs.Found.{placed_from}
use Rattle.mvt_layers.specs.Pools.{entry_in}
use Rattle.mvt_layers.proofs.InRun.{matched, placed_past}
use Rattle.mvt_layers.proofs.fields.first_entry.Goals as goal

pub returns-in-None-clause-found : goal.returns-in-None-clause-found
returns-in-None-clause-found c =
    let items = map layer_item_of c.args.items.now in
    matched c.entry_before-in-None.result _ _ _ _ (λ found. (found.0, found.1.now) ∷ placed_from (entry_in c.args.number) (found.0 + 1) items) (c.in-None.ensures.found ∙ c.features_from-end.ensures.passed c.args.number) (placed_past c.args.number c.args.items.now) c.entry_before-in-None.ensures.found
