use Rattle.std.proofs.Common.{◌++◌, map, ap, ◌∙◌}
use Rattle.mvt_change.specs.ChangeStands.{step_of}
use Rattle.mvt_layers.specs.Seen.{found_feature_seen}
use Rattle.mvt_edit_steps.specs.Decided.{field_fates}
use Rattle.mvt_edit_steps.specs.EachFeature.{feature_steps}
use Rattle.mvt_edit_attributes.proofs.unset.removing.Goals as goal

pub returns : goal.returns
returns c =
    c.new.ensures.change
    ∙ c.in_ok-renumber_feature.ensures.steps
    ∙ ap (λ list. map step_of list ++ feature_steps (field_fates 2 c.args.decisions.now) c.args.layer (found_feature_seen c.args.found)) c.new-steps.ensures.items
