use Rattle.std.proofs.Common.{◌≡◌, ◌++◌, map, sym, ap, ◌∙◌}
use Rattle.std.specs.List.{flat_map}
use Rattle.mvt_document.specs.Stands.{layer_of}
use Rattle.mvt_change.specs.ChangeStands.{step_of}
use Rattle.mvt_messages.specs.Found.{found_features}
use Rattle.mvt_layers.specs.Seen.{found_feature_seen, pair_seen}
use Rattle.mvt_edit_steps.specs.Decided.{field_fates}
use Rattle.mvt_edit_steps.specs.EachFeature.{feature_steps}
use Rattle.mvt_edit_steps.proofs.StepsPassed.{steps_more}
use Rattle.mvt_edit_pools.specs.Marks.{pair_counts, pairs_repointed}
use Rattle.mvt_edit_pools.proofs.KeptPairs as pairs_kept
use Rattle.mvt_edit_pools.proofs.Marking.{pairs_found, pairs_left}
use Rattle.mvt_edit_pools.proofs.Repointed.{as_ordinals, no_steps, steps_either}
use Rattle.mvt_edit_pools.proofs.repoint.repoint.Goals as goal

pub loop-feature-init : goal.loop-feature-init
loop-feature-init c =
    let layer = layer_of c.args.found.layer.now in
    let all : c.into_iter-feature-iterator.result ≡ found_features layer.items = c.into_iter-feature-iterator.ensures.into_iter_gives ∙ c.features-feature-items.ensures.items ∙ ap (λ seen. found_features seen.items) c.view.ensures in
    let steps = feature_steps (pairs_repointed c.args.key_ordinals.now c.args.value_ordinals.now layer.items) c.args.found.position in
    record {
      steps = ap (λ found. map step_of c.args.steps.now.items ++ flat_map steps found) all;
      pairs = ap (map pair_seen) c.as_slice-pairs_left.ensures.value ∙ c.requires.pairs ∙ sym (pairs_found layer.items) ∙ ap (pairs_left layer.items) (sym all);
      counts = c.as_slice-counts_left.ensures.value ∙ c.requires.counts ∙ ap (pair_counts layer.items) (sym all);
    }

pub split_at-requires : goal.split_at-requires
split_at-requires c =
    pairs_kept.there (layer_of c.args.found.layer.now).items (found_feature_seen c.in-Some.feature) _ c.next.new.self _ _ _ _
    c.in-Some.ensures.steps c.loop-feature.invariant.pairs c.loop-feature.invariant.counts c.in-Some-split_first.ensures.cases.0

pub loop-feature-preserved : goal.loop-feature-preserved
loop-feature-preserved c =
    let items = (layer_of c.args.found.layer.now).items in
    let found = found_feature_seen c.in-Some.feature in
    let repointed = pairs_repointed c.args.key_ordinals.now c.args.value_ordinals.now items in
    let steps = feature_steps repointed c.args.found.position in
    let front = map step_of c.loop-feature.steps.items in
    let kept = pairs_kept.first_and_rest items found _ c.next.new.self _ _ _ _
    c.in-Some.ensures.steps c.loop-feature.invariant.pairs c.loop-feature.invariant.counts c.in-Some-split_first.ensures.cases.0 _ _ c.split_at.ensures.front c.split_at.ensures.back in
    let decided = c.in_ok-changed.ensures.decided ∙ as_ordinals c.args.key_ordinals.now c.args.value_ordinals.now items found _ kept.own in
    record {
      steps = steps_more steps front _ _ found c.next.new.self
          (steps_either c.in_ok-changed.changed front _ (steps found)
          c.renumber_changed.ensures.none
          (λ some. c.in_ok-renumber_changed.ensures.some some ∙ ap (λ decisions. front ++ feature_steps (field_fates 2 decisions) c.args.found.position found) (c.as_slice.ensures.value ∙ decided))
          (λ none. no_steps c.args.key_ordinals.now c.args.value_ordinals.now items c.args.found.position found _ kept.own (sym c.in_ok-changed.ensures.counted ∙ none)))
          (ap (λ left. front ++ flat_map steps left) (sym c.in-Some.ensures.steps) ∙ c.loop-feature.invariant.steps);
      pairs = kept.pairs;
      counts = kept.counts;
    }
