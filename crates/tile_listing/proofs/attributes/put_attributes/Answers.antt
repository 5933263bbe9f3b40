use Rattle.std.proofs.Common.{List, Err, Some, map, sym, ap, codes, ◌∙◌}
use Rattle.std.proofs.lemmas.Result.{on_ok_weaker}
use Rattle.mvt_layers.specs.Seen.{feature_seen, layer_seen, pair_seen}
use Rattle.mvt_layers.specs.declared.attributes.Pair.{Pair}
use Rattle.tile_listing.proofs.PairLines.{attributes_put, no_attributes_put, pairs_fit}
use Rattle.tile_listing.proofs.Puts.{ok_put}
use Rattle.tile_listing.proofs.attributes.put_attributes.Goals as goal

pub put_pairs-requires : goal.put_pairs-requires
put_pairs-requires c =
    pairs_fit (layer_seen c.args.layer) (feature_seen c.args.feature) c.as_slice.result.now (c.in-Ok.ensures.pairs ∙ ap (λ (pairs : List Pair). Some (map pair_seen pairs)) (sym c.as_slice.ensures))

pub returns-in-Ok : goal.returns-in-Ok
returns-in-Ok c =
    on_ok_weaker c.put_pairs.result
    (attributes_put (layer_seen c.args.layer) (feature_seen c.args.feature) c.as_slice.result.now c.args.text.now.items c.put_pairs.new.text.items (c.in-Ok.ensures.pairs ∙ ap (λ (pairs : List Pair). Some (map pair_seen pairs)) (sym c.as_slice.ensures)))
    c.put_pairs.ensures

pub returns-in-Err-BadTags : goal.returns-in-Err-BadTags
returns-in-Err-BadTags c =
    let last = c.extend_from_slice in
    let none = c.in-Err-BadTags.ensures.bad_tags (ap Err c.in-Err-BadTags.field-0-is) in
    on_ok_weaker last.result
    (λ put. no_attributes_put (layer_seen c.args.layer) (feature_seen c.args.feature) c.args.text.now.items last.new.self.items none put)
    (ok_put last.result c.args.text.now.items last.new.self.items (codes "attributes unreadable\n") last.ensures.items)
