use Rattle.std.proofs.Common.{◌≡◌, ◌++◌, [], ◌∷◌, length, map, option_map, sym, ap, ◌∙◌}
use Rattle.std.proofs.lemmas.List.{append-nil}
use Rattle.std.specs.List.{cons_option}
use Rattle.mvt_document.specs.Stands.{field_of, layer_item_of, layer_of}
use Rattle.mvt_change.specs.Changes.{LayerStep}
use Rattle.mvt_change.specs.ChangeStands.{step_of}
use Rattle.mvt_edit_steps.specs.Fates.{seen, splice_of}
use Rattle.mvt_edit_steps.proofs.Carrying.{in_feature_at}
use Rattle.mvt_edit_attributes.proofs.Pushed.{none_appended, one_alone, one_more, some_appended}
use Rattle.mvt_edit_attributes.proofs.set_attribute.steps_of.Goals.{in-Some+in_ok-push, in_default, then-not-is_empty+in_ok-push-2, else-not-is_empty}
use Rattle.mvt_edit_attributes.proofs.set_attribute.steps_of.Goals as goal

pub returns : goal.returns
returns c =
    let layer = c.args.holder.position in
    let items = (layer_of c.args.holder.layer.now).items in
    let entries = c.args.entries.items in
    let steps = map (in_feature_at layer c.args.item) (cons_option (option_map (λ run. seen field_of (splice_of run)) c.args.run) []) in
    let first : map step_of c.match-run.steps.items ≡ steps =
    elim c.match-run.branch [
      | in-Some+in_ok-push w ↦ rw (w.in-Some.is, w.steps-is) (one_alone step_of _ w.push.new.self.items w.in_feature.result _ c.new-steps.ensures.items w.in_ok-push.ensures.items w.in_feature.ensures)
      | in_default w ↦ rw (w.in_default.is, w.steps-is) (ap (map step_of) c.new-steps.ensures.items)
    ] in
    c.new.ensures.change ∙ (
    elim c.if-not-is_empty.branch [
      | then-not-is_empty+in_ok-push-2 w ↦ rw w.steps-is (
          one_more step_of _ w.push-then-not-is_empty.new.self.items w.appended.result _ w.in_ok-push-2.ensures.items w.appended.ensures
          ∙ ap (λ front. front ++ LayerStep layer (length items) 0 (map layer_item_of entries) ∷ []) first
          ∙ ap (λ more. steps ++ more) (sym (some_appended layer_item_of layer items entries c.args.entries.len c.args.entries.ok.0 (sym c.is_empty.ensures ∙ w.if-not-is_empty.true))))
      | else-not-is_empty w ↦ rw w.steps-is (first ∙ sym (append-nil steps) ∙ ap (λ more. steps ++ more) (sym (none_appended layer_item_of layer items entries c.args.entries.len c.args.entries.ok.0 (sym c.is_empty.ensures ∙ w.if-not-is_empty.false))))
    ])
