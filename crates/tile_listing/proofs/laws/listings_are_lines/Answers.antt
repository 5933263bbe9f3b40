use Rattle.tile_listing.proofs.ListingLaws.{listings_are_lines}
use Rattle.tile_listing.proofs.laws.listings_are_lines.Goals as goal

pub returns : goal.returns
returns c = listings_are_lines
