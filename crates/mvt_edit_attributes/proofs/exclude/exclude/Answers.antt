use Rattle.std.proofs.Common.{◌++◌, map, sym, ap, ◌∙◌}
use Rattle.std.proofs.lemmas.List.{append-nil}
use Rattle.std.specs.List.{flat_map}
use Rattle.mvt_change.specs.ChangeStands.{step_of}
use Rattle.mvt_meaning.specs.CommandStands.{layers_choice_of}
use Rattle.mvt_meaning.specs.Tagging.{unreadable}
use Rattle.mvt_select.specs.Found.{layers_left}
use Rattle.mvt_edit_steps.specs.EachFeature.{layer_steps}
use Rattle.mvt_edit_attributes.specs.EachFeature.{pairs_go}
use Rattle.mvt_edit_attributes.proofs.Excluded.{excludes}
use Rattle.mvt_edit_attributes.proofs.exclude.exclude.Goals as goal

pub returns : goal.returns
returns c =
    let key = c.args.key.now in
    let found = layers_left c.in_ok-layers.layers in
    let steps = layer_steps (pairs_go key) in
    let all = ap layers_left c.into_iter-found-iterator.ensures.into_iter_gives in
    let none = c.in-None.ensures.steps.0 in
    excludes key (layers_choice_of c.args.choice.now) c.args.document.now found _ c.in_ok-layers.ensures.found
    (ap unreadable (sym all) ∙ sym c.loop-found.invariant.readable ∙ ap unreadable none)
    (c.new.ensures.change
    ∙ sym (append-nil (map step_of c.loop-found.steps.items))
    ∙ ap (λ left. map step_of c.loop-found.steps.items ++ flat_map steps left) (sym none)
    ∙ c.loop-found.invariant.steps
    ∙ ap (flat_map steps) all)
