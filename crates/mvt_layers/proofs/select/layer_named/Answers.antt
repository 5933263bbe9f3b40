use Rattle.std.proofs.Common.{rules}
use Rattle.std.proofs.lemmas.Iterator.Consumers.{YieldsList-at, YieldsList-from_filter, YieldsList-from_first}
use Rattle.mvt_messages.specs.Views.{is_named}
use Rattle.mvt_layers.specs.Seen.{found_layer_seen}
use Rattle.mvt_layers.proofs.Yielded.{always_from_yields_List}
use Rattle.mvt_layers.proofs.select.layer_named.Goals as goal

pub returns : goal.returns
returns c =
    let all = YieldsList-from_first found_layer_seen (λ left. left) _ c.layers.ensures.items in
    c.the_one_layer.ensures _ (always_from_yields_List (YieldsList-from_filter _ (λ found. is_named c.args.name.now found.1.1) (YieldsList-at c.filter.ensures.source all) c.filter.ensures.closure (λ x b q k. search rules)))
