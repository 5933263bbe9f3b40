use Rattle.std.proofs.Common.{◌+◌, ◌∷◌, [], map, refl}
use Rattle.mvt_document.specs.Stands.{layer_item_of}
use Rattle.mvt_layers.specs.Seen.{found_feature_seen}
use Rattle.mvt_layers.specs.WithId.{with_id_from}
use Rattle.mvt_layers.proofs.InRun.{matched}
use Rattle.mvt_layers.proofs.hashed.first_of_id.Goals as goal

pub returns-in-None-clause-found : goal.returns-in-None-clause-found
returns-in-None-clause-found c =
    let all = map layer_item_of c.args.items.now in
    matched c.first_beside-in-None.result _ _ [] [] (λ found. found_feature_seen found ∷ with_id_from c.args.id (found.ordinal + 1) (found.position + 1) all) c.in-None.ensures.found refl c.first_beside-in-None.ensures.found
