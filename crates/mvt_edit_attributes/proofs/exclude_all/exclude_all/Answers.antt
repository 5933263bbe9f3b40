use Rattle.std.proofs.Common.{refl, ap, ◌∙◌}
use Rattle.std.proofs.lemmas.Iterator.Consumers.{YieldsList-at, YieldsList-end, YieldsList-from_first}
use Rattle.std.specs.List.{flat_map}
use Rattle.mvt_document.specs.Stands.{document_of}
use Rattle.mvt_meaning.specs.Command.{ExcludeAll}
use Rattle.mvt_meaning.specs.CommandStands.{layers_choice_of}
use Rattle.mvt_layers.specs.Seen.{found_layer_seen}
use Rattle.mvt_select.specs.Found.{layers_left}
use Rattle.mvt_edit_steps.specs.EachFeature.{layer_steps}
use Rattle.mvt_edit_steps.proofs.Refusing.{ran_out}
use Rattle.mvt_edit_attributes.specs.EachFeature.{tags_go}
use Rattle.mvt_edit_attributes.proofs.Untagged.{untagging_asks, untags}
use Rattle.mvt_edit_attributes.proofs.exclude_all.exclude_all.Goals as goal

pub returns-in_err-untag_layer : goal.returns-in_err-untag_layer
returns-in_err-untag_layer c =
    let choice = layers_choice_of c.args.choice.now in
    let out = c.from_residual-in_err-untag_layer in
    ran_out (ExcludeAll choice) (document_of c.args.document.now) out.result out.ensures.1
    (untagging_asks choice c.args.document.now (layers_left c.in_ok-layers.layers) c.in_ok-layers.ensures.found)

pub returns : goal.returns
returns c =
    let found = layers_left c.in_ok-layers.layers in
    let all = YieldsList-from_first found_layer_seen layers_left found refl in
    let came = YieldsList-end (YieldsList-at c.into_iter-found-iterator.ensures.into_iter_gives all) c.loop-found.yielded c.loop-found.found-iterator c.loop-found.yielded_by c.next.result c.next.new.self c.in-None.is c.next.ensures.steps in
    untags (layers_choice_of c.args.choice.now) c.args.document.now found _ c.in_ok-layers.ensures.found
    (c.new.ensures.change ∙ c.loop-found.invariant ∙ ap (flat_map (layer_steps (λ items. tags_go))) came.0)
