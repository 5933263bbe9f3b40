use Rattle.std.proofs.Common.{◌++◌, false, append-nil, inl, inr, map, slice_get, sym, ap, ◌∙◌, arith}
use Rattle.std.proofs.lemmas.Result.{err_from_is_err_and}
use Rattle.std.specs.Option.{unwrap_or}
use Rattle.mvt_document.specs.Stands.{feature_of, layer_of}
use Rattle.mvt_change.specs.ChangeStands.{step_of}
use Rattle.mvt_messages.specs.Numbers.{numbers}
use Rattle.mvt_layers.specs.Seen.{found_feature_seen}
use Rattle.mvt_meaning.specs.Tagging.{without_pairs}
use Rattle.mvt_messages.specs.Tags.{plain_pairs, tag_pairs}
use Rattle.mvt_edit_steps.specs.Decided.{field_fates, is_any_gone}
use Rattle.mvt_edit_steps.specs.EachFeature.{feature_steps}
use Rattle.mvt_edit_steps.proofs.Deciding.{no_pairs}
use Rattle.mvt_edit_attributes.proofs.Deciding.{decided_readable, on_pairs}
use Rattle.mvt_edit_attributes.proofs.NoneLost.{no_steps, none_counted}
use Rattle.mvt_edit_attributes.proofs.exclude.exclude_pairs.Goals as goal

pub returns-in_err-lost-clause-refused : goal.returns-in_err-lost-clause-refused
returns-in_err-lost-clause-refused c =
    let layer = layer_of c.args.found.layer.now in
    let feature = feature_of c.args.feature.feature.now in
    let passed = err_from_is_err_and c.from_residual.result c.from_residual.ensures.1 in
    rw (passed.1, passed.2) (
    elim c.in_err-lost.ensures.refused [
      | inl memory ↦ inl memory
      | inr bad ↦ inr (bad.0, no_pairs layer feature c.args.sizes.keys c.args.sizes.values c.requires.keys c.requires.values bad.1)
    ])

pub returns-in_ok-renumber_feature-clause-readable : goal.returns-in_ok-renumber_feature-clause-readable
returns-in_ok-renumber_feature-clause-readable c =
    decided_readable (without_pairs (λ key. unwrap_or (slice_get c.args.named.now key) false)) (layer_of c.args.found.layer.now) (feature_of c.args.feature.feature.now) c.args.sizes.keys c.args.sizes.values _ c.requires.keys c.requires.values c.in_ok-lost.ensures.decided

pub returns-else-lost-gt0-clause-readable : goal.returns-else-lost-gt0-clause-readable
returns-else-lost-gt0-clause-readable c =
    decided_readable (without_pairs (λ key. unwrap_or (slice_get c.args.named.now key) false)) (layer_of c.args.found.layer.now) (feature_of c.args.feature.feature.now) c.args.sizes.keys c.args.sizes.values _ c.requires.keys c.requires.values c.in_ok-lost.ensures.decided

pub returns-in_ok-renumber_feature-clause-steps : goal.returns-in_ok-renumber_feature-clause-steps
returns-in_ok-renumber_feature-clause-steps c key named =
    let layer = layer_of c.args.found.layer.now in
    let feature = feature_of c.args.feature.feature.now in
    let found = found_feature_seen c.args.feature in
    let on = on_pairs key layer feature c.args.sizes.keys c.args.sizes.values _ _ named c.requires.keys c.requires.values c.in_ok-lost.ensures.decided in
    c.in_ok-renumber_feature.ensures.steps ∙ ap (λ decisions. map step_of c.args.steps.now.items ++ feature_steps (field_fates 2 decisions) c.args.found.position found) (c.as_slice.ensures.value ∙ on.decided)

pub returns-else-lost-gt0-clause-steps : goal.returns-else-lost-gt0-clause-steps
returns-else-lost-gt0-clause-steps c key named =
    let layer = layer_of c.args.found.layer.now in
    let feature = feature_of c.args.feature.feature.now in
    let found = found_feature_seen c.args.feature in
    let on = on_pairs key layer feature c.args.sizes.keys c.args.sizes.values _ _ named c.requires.keys c.requires.values c.in_ok-lost.ensures.decided in
    let none = ap is_any_gone (sym on.decided) ∙ none_counted (λ key. unwrap_or (slice_get c.args.named.now key) false) (plain_pairs (tag_pairs c.args.sizes.keys c.args.sizes.values (numbers 2 feature.fields))) _ _ c.in_ok-lost.ensures.decided c.in_ok-lost.ensures.counted (omega (arith, c.if-lost-gt0.false)) in
    sym (append-nil (map step_of c.args.steps.now.items)) ∙ ap (λ steps. map step_of c.args.steps.now.items ++ steps) (sym (no_steps key layer.items c.args.found.position found none))
