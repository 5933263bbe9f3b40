use Rattle.std.proofs.Common.{filter, ap, ◌∙◌}
use Rattle.std.proofs.lemmas.Iterator.Consumers.{YieldsList-at, YieldsList-end, YieldsList-from_first}
use Rattle.mvt_document.specs.Stands.{layer_of}
use Rattle.mvt_layers.specs.Seen.{found_layer_seen}
use Rattle.mvt_messages.specs.Views.{is_named, name_of, the_one}
use Rattle.mvt_meaning.specs.declared.refusal.Refusal.TheVariants.{AmbiguousLayer, NoLayer}
use Rattle.mvt_select.proofs.Named.{layer_is, named_among, one_more}
use Rattle.mvt_select.proofs.taken.named_twice.Goals as goal

pub loop-found-preserved : goal.loop-found-preserved
loop-found-preserved c =
    let kept = c.loop-found.invariant in
    let found = c.in-Some.found in
    let layer = layer_of found.layer.now in
    record {
      one = one_more c.args.one.now c.loop-found.yielded found c.eq.result c.and_layer-of_one.result
          (layer_is c.name-name.result c.args.one layer c.eq.result (c.name-name.ensures ∙ ap name_of c.view.ensures) c.eq.ensures)
          (c.and_layer-of_one.ensures (named_among c.args.one.now c.loop-found.yielded) kept.one);
      other = one_more c.args.other.now c.loop-found.yielded found c.eq-in-loop-found.result c.and_layer-of_other.result
          (layer_is c.name-name.result c.args.other layer c.eq-in-loop-found.result (c.name-name.ensures ∙ ap name_of c.view.ensures) c.eq-in-loop-found.ensures)
          (c.and_layer-of_other.ensures (named_among c.args.other.now c.loop-found.yielded) kept.other);
    }

pub returns : goal.returns
returns c =
    let all = YieldsList-from_first found_layer_seen (λ left. left) _ c.layers-found-items.ensures.items in
    let came = YieldsList-end (YieldsList-at c.into_iter-found-iterator.ensures.into_iter_gives all) c.loop-found.yielded _ c.loop-found.yielded_by _ _ c.in-None.is c.next.ensures.steps in
    record {
      one = c.loop-found.invariant.one ∙ ap (λ seen. the_one NoLayer AmbiguousLayer (filter (λ found. is_named c.args.one.now found.1.1) seen)) came.0;
      other = c.loop-found.invariant.other ∙ ap (λ seen. the_one NoLayer AmbiguousLayer (filter (λ found. is_named c.args.other.now found.1.1) seen)) came.0;
    }
