use Rattle.std.proofs.Common.{ℕ}
use Rattle.mvt_layers.specs.Seen.{layer_seen, pair_seen}
use Rattle.mvt_messages.specs.Attributes.{attribute_at}
use Rattle.tile_listing.specs.Listing.{attribute_line}
use Rattle.tile_listing.proofs.Lines.{last_line, next_line}
use Rattle.tile_listing.proofs.attributes.put_few_pairs.Goals as goal

pub put_pair-requires : goal.put_pair-requires
put_pair-requires c = c.requires c.loop-pair.pair-index _ c.loop-pair-test.true

pub loop-pair-preserved : goal.loop-pair-preserved
loop-pair-preserved c =
    next_line pair_seen (λ (pair : ℕ × ℕ). attribute_line (attribute_at (layer_seen c.args.layer) pair)) _ _ _ c.args.pairs.now c.loop-pair.pair-index _ c.loop-pair-test.true c.loop-pair.invariant c.in_ok-put_pair.ensures

pub returns : goal.returns
returns c = last_line pair_seen (λ (pair : ℕ × ℕ). attribute_line (attribute_at (layer_seen c.args.layer) pair)) _ _ c.args.pairs.now c.loop-pair.pair-index c.loop-pair-test.false c.loop-pair.invariant
