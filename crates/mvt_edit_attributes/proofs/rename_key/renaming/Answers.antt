use Rattle.std.proofs.Common.{map, rules, sym, ap, ◌∙◌}
use Rattle.std.proofs.lemmas.Simd.{map-map}
use Rattle.mvt_document.specs.Stands.{layer_item_of}
use Rattle.mvt_change.specs.Changes.{LayerStep}
use Rattle.mvt_change.specs.ChangeStands.{step_of}
use Rattle.mvt_edit_steps.specs.Fates.{seen, splices_of}
use Rattle.mvt_edit_steps.proofs.Carrying.{in_layer_at}
use Rattle.mvt_edit_steps.proofs.Following.{alone}
use Rattle.mvt_edit_steps.proofs.Planned.{splices_planned}
use Rattle.mvt_edit_attributes.specs.KeyFates.{key_fate}
use Rattle.mvt_edit_attributes.proofs.rename_key.renaming.Goals as goal

pub returns : goal.returns
returns c =
    let layer = c.args.layer in
    let done = c.in_ok-carry_out.ensures (λ s. LayerStep layer s.index s.taken (map layer_item_of s.put)) (λ run made says. search rules) in
    c.new.ensures.change
    ∙ alone step_of c.new-steps.result.items _ _ c.new-steps.ensures.items done.2.following
    ∙ sym (map-map (in_layer_at layer) (seen layer_item_of) (splices_of done.0))
    ∙ ap (map (in_layer_at layer)) (splices_planned layer_item_of (key_fate c.args.old.now c.args.new.now) _ (λ item fate says. search rules) c.args.items.now done.0 done.1)
