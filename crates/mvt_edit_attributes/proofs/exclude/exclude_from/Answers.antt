use Rattle.std.proofs.Common.{◌≡◌, ◌++◌, append-nil, inl, inr, false, length, map, sym, ap, ◌∙◌}
use Rattle.std.proofs.lemmas.Result.{err_from_is_err_and}
use Rattle.std.specs.List.{flat_map, list_any}
use Rattle.std.specs.Str.{bytes_eq}
use Rattle.mvt_document.specs.Stands.{layer_of}
use Rattle.mvt_change.specs.ChangeStands.{step_of}
use Rattle.mvt_layers.specs.Seen.{found_feature_seen, found_layer_seen}
use Rattle.mvt_messages.specs.Views.{keys, values}
use Rattle.mvt_edit_steps.specs.EachFeature.{feature_steps}
use Rattle.mvt_edit_attributes.specs.EachFeature.{pairs_go}
use Rattle.mvt_edit_steps.proofs.StepsPassed.{steps_more}
use Rattle.mvt_edit_attributes.proofs.NoneLost.{named_each, none_named, of_any}
use Rattle.mvt_edit_steps.proofs.Unreadable.{bad_among, feature_refused, readable_more, unreadable_in}
use Rattle.mvt_edit_attributes.proofs.exclude.exclude_from.Goals as goal

pub see_layer-requires-clause-keys : goal.see_layer-requires-clause-keys
see_layer-requires-clause-keys c = c.len.ensures ∙ named_each c.args.key.now _ _ c.name_keys.new.named c.in_ok-name_keys.ensures c.view-layer.ensures

pub see_layer-requires-clause-values : goal.see_layer-requires-clause-values
see_layer-requires-clause-values c = c.value_count.ensures ∙ ap (λ seen. length (values seen)) c.view-layer.ensures

pub exclude_pairs-requires-clause-keys : goal.exclude_pairs-requires-clause-keys
exclude_pairs-requires-clause-keys c = c.len.ensures ∙ named_each c.args.key.now _ _ c.name_keys.new.named c.in_ok-name_keys.ensures c.view-layer.ensures

pub exclude_pairs-requires-clause-values : goal.exclude_pairs-requires-clause-values
exclude_pairs-requires-clause-values c = c.value_count.ensures ∙ ap (λ seen. length (values seen)) c.view-layer.ensures

pub returns-in_err-exclude_pairs-clause-refused : goal.returns-in_err-exclude_pairs-clause-refused
returns-in_err-exclude_pairs-clause-refused c =
    let layer = layer_of c.args.found.layer.now in
    let found = found_feature_seen c.in-Some.feature in
    let passed = err_from_is_err_and c.from_residual-in_err-exclude_pairs.result c.from_residual-in_err-exclude_pairs.ensures.1 in
    rw (passed.1, passed.2) (
    elim c.in_err-exclude_pairs.ensures.refused [
      | inl memory ↦ inl memory
      | inr bad ↦ inr (feature_refused c.args.found.ordinal c.args.found.position layer found c.next.new.self _
          (ap (bad_among layer c.args.found.ordinal) (sym c.in-Some.ensures.steps) ∙ c.loop-feature.invariant.readable)
          bad.1
          bad.0)
    ])

pub loop-feature-preserved : goal.loop-feature-preserved
loop-feature-preserved c =
    let layer = layer_of c.args.found.layer.now in
    let key = c.args.key.now in
    let found = found_feature_seen c.in-Some.feature in
    let steps = feature_steps (pairs_go key layer.items) c.args.found.position in
    let front = map step_of c.loop-feature.steps.items in
    record {
      steps = steps_more steps front _ _ found c.next.new.self
          (c.in_ok-exclude_pairs.ensures.steps key (c.as_slice-in-loop-feature.ensures.value ∙ c.in_ok-name_keys.ensures ∙ ap (λ seen. map (bytes_eq key) (keys seen)) c.view-layer.ensures))
          (ap (λ left. front ++ flat_map steps left) (sym c.in-Some.ensures.steps) ∙ c.loop-feature.invariant.steps);
      readable = sym (readable_more layer c.args.found.ordinal found c.next.new.self c.in_ok-exclude_pairs.ensures.readable) ∙ ap (bad_among layer c.args.found.ordinal) (sym c.in-Some.ensures.steps) ∙ c.loop-feature.invariant.readable;
    }

pub returns-clause-readable : goal.returns-clause-readable
returns-clause-readable c =
    let layer = layer_of c.args.found.layer.now in
    unreadable_in c.args.found.ordinal c.args.found.position layer ∙ sym c.loop-feature.invariant.readable ∙ ap (bad_among layer c.args.found.ordinal) c.in-None.ensures.steps.0

pub returns-then-not-is_any-clause-steps : goal.returns-then-not-is_any-clause-steps
returns-then-not-is_any-clause-steps c =
    let key = c.args.key.now in
    let layer = layer_of c.args.found.layer.now in
    let named = c.as_slice.ensures.value ∙ c.in_ok-name_keys.ensures ∙ ap (λ seen. map (bytes_eq key) (keys seen)) c.view-layer.ensures in
    let none : list_any (λ is. is) (map (bytes_eq key) (keys layer)) ≡ false = ap (list_any (λ is. is)) (sym named) ∙ sym c.is_any.ensures ∙ c.if-not-is_any.true in
    let all = sym (append-nil (map step_of c.args.steps.now.items)) ∙ ap (λ steps. map step_of c.args.steps.now.items ++ steps) (sym (none_named key (found_layer_seen c.args.found) none)) in
    of_any all c.see_layer.result
