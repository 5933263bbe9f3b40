use Rattle.tile_listing.proofs.ListingLaws.{no_listing_is_out_of_memory}
use Rattle.tile_listing.proofs.laws.no_listing_is_out_of_memory.Goals as goal

pub returns : goal.returns
returns c = no_listing_is_out_of_memory
