use Rattle.tile_listing.proofs.attributes.put_pairs.Goals as goal

pub returns-else-pairs-le-FEW_PAIRS : goal.returns-else-pairs-le-FEW_PAIRS
returns-else-pairs-le-FEW_PAIRS c = c.put_many_pairs.ensures
