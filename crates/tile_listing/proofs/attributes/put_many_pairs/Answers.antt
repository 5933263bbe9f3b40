use Rattle.std.proofs.Common.{◌≡◌, ℕ, List, Bor, Ok, map, ap, ◌∙◌}
use Rattle.std.proofs.lemmas.Iterator.Consumers.{YieldsList-from_first, map_from_collect}
use Rattle.std.specs.declared.alloc.AllocError.{AllocError}
use Rattle.std.proofs.lemmas.Result.{on_ok_weaker}
use Rattle.mvt_messages.specs.Views.{keys, values}
use Rattle.mvt_layers.specs.Seen.{layer_seen, pair_seen}
use Rattle.tile_listing.specs.ListingStands.{contents_of}
use Rattle.tile_listing.proofs.PairLines.{held_fit, held_put}
use Rattle.tile_listing.proofs.attributes.put_many_pairs.Goals as goal

pub put_named-requires : goal.put_named-requires
put_named-requires c =
    let of_keys : contents_of c.deref.result.now ≡ keys (layer_seen c.args.layer) =
    ap contents_of c.deref.ensures.value ∙ map_from_collect {E = AllocError} (Ok c.in_ok-keys.keys) c.in_ok-keys.ensures.ran (YieldsList-from_first (λ (x : Bor (List ℕ)). x.now) (λ left. left) _ c.keys.ensures.items) in
    let of_values : contents_of c.deref-2.result.now ≡ values (layer_seen c.args.layer) =
    ap contents_of c.deref-2.ensures.value ∙ map_from_collect {E = AllocError} (Ok c.in_ok-values.values) c.in_ok-values.ensures.ran (YieldsList-from_first (λ (x : Bor (List ℕ)). x.now) (λ left. left) _ c.values.ensures.items) in
    held_fit (layer_seen c.args.layer) c.args.pairs.now c.deref.result.now c.deref-2.result.now of_keys of_values c.requires

pub returns : goal.returns
returns c =
    let of_keys : contents_of c.deref.result.now ≡ keys (layer_seen c.args.layer) =
    ap contents_of c.deref.ensures.value ∙ map_from_collect {E = AllocError} (Ok c.in_ok-keys.keys) c.in_ok-keys.ensures.ran (YieldsList-from_first (λ (x : Bor (List ℕ)). x.now) (λ left. left) _ c.keys.ensures.items) in
    let of_values : contents_of c.deref-2.result.now ≡ values (layer_seen c.args.layer) =
    ap contents_of c.deref-2.ensures.value ∙ map_from_collect {E = AllocError} (Ok c.in_ok-values.values) c.in_ok-values.ensures.ran (YieldsList-from_first (λ (x : Bor (List ℕ)). x.now) (λ left. left) _ c.values.ensures.items) in
    on_ok_weaker c.put_named.result
    (λ put. held_put (layer_seen c.args.layer) (map pair_seen c.args.pairs.now) c.deref.result.now c.deref-2.result.now c.args.text.now.items c.put_named.new.text.items of_keys of_values put)
    c.put_named.ensures
