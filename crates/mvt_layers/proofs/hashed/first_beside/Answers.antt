use Rattle.std.proofs.Common.{ℕ, ◌+◌, ◌∷◌, [], List, map, refl, ap, ◌∙◌}
use Rattle.std.specs.List.{enumerate_from}
use Rattle.mvt_document.specs.Plain.{Feature}
use Rattle.mvt_document.specs.declared.run.Kind.TheVariants.{Message}
use Rattle.mvt_document.specs.Kinds.{in_layer_of_kind}
use Rattle.mvt_document.specs.Stands.{layer_item_of}
use Rattle.mvt_messages.specs.Found.{with_id}
use Rattle.mvt_messages.specs.Views.{feature_in}
use Rattle.mvt_layers.specs.Seen.{found_feature_seen}
use Rattle.mvt_layers.specs.WithId.{with_id_from}
use Rattle.mvt_layers.proofs.InRun.{is_found_feature, matched, none_after}
use Rattle.mvt_layers.proofs.hashed.first_beside.Goals as goal

pub returns-then-start-features-clause-found : goal.returns-then-start-features-clause-found
returns-then-start-features-clause-found c =
    let all = map layer_item_of c.args.items.now in
    let features = c.args.features in
    let id = c.args.id in
    let left = λ (position : ℕ). with_id_from id c.args.first position all in
    let over = none_after layer_item_of feature_in (in_layer_of_kind Message) is_found_feature features c.args.items.now c.requires.run in
    matched c.first_with_id.result (left c.args.start) (left features.until) [] [] (λ found. found_feature_seen found ∷ with_id_from id (found.ordinal + 1) (found.position + 1) all)
    (ap left c.if-start-features.true ∙ ap (λ (placed : List (ℕ × Feature)). with_id id (enumerate_from c.args.first placed)) over) refl c.first_with_id.ensures.found
