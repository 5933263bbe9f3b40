use Rattle.std.proofs.Common.{◌≡◌}
use Rattle.std.specs.Result.{result_map_both}
use Rattle.mvt_layers.specs.Seen.{found_layer_seen}
use Rattle.mvt_messages.specs.Views.{the_one}
use Rattle.mvt_meaning.specs.declared.refusal.Refusal.TheVariants.{AmbiguousLayer, NoLayer}
use Rattle.mvt_select.proofs.Named.{named_among}
use Rattle.mvt_select.proofs.taken.named_twice.Given as goal

abbrev pub invariant-loop-found : goal.invariant-loop-found
invariant-loop-found l = record {
  one : result_map_both found_layer_seen (λ refusal. refusal) l.of_one ≡ the_one NoLayer AmbiguousLayer (named_among l.one l.yielded);
  other : result_map_both found_layer_seen (λ refusal. refusal) l.of_other ≡ the_one NoLayer AmbiguousLayer (named_among l.other l.yielded);
}
