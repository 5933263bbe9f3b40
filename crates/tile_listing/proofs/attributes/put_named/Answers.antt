use Rattle.std.proofs.Common.{ℕ, List, ◌++◌, ap, ◌∙◌, arith}
use Rattle.mvt_layers.specs.Seen.{pair_seen}
use Rattle.tile_lines.specs.Lines.{with_feed}
use Rattle.tile_listing.specs.Listing.{attribute_line}
use Rattle.tile_listing.specs.ListingStands.{contents_of, named_by}
use Rattle.tile_listing.proofs.Lines.{next_line}
use Rattle.tile_listing.proofs.PairLines.{named_held}
use Rattle.tile_listing.proofs.attributes.put_named.Goals as goal

pub loop-pair-preserved : goal.loop-pair-preserved
loop-pair-preserved c =
    next_line pair_seen (λ (pair : ℕ × ℕ). attribute_line (named_by (contents_of c.args.keys.now) (contents_of c.args.values.now) pair)) _ _ _ c.args.pairs.now c.loop-pair.pair-index _ (omega arith) c.loop-pair.invariant
    (c.in_ok-put_attribute_line.ensures
    ∙ ap (λ (both : List ℕ × List ℕ). c.loop-pair.text.items ++ with_feed (attribute_line both)) (named_held c.args.keys.now c.args.values.now _ _ _ (c.requires c.loop-pair.pair-index _ (omega arith))))
