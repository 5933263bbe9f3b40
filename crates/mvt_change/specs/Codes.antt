-- A code for the items of the list at a place, by which a proof distinguishes them, and so steps and changes.
use Rattle.std.specs.Coded.{Coded, codes}
use Rattle.mvt_change.specs.Changes.{Place, OfTheTile, OfTheLayer, OfTheFeature, ItemAt}

-- the items of the list at a place can be distinguished
pub coded_item : (place : Place) → Coded (ItemAt place)
coded_item OfTheTile = hlevel codes
coded_item (OfTheLayer layer) = hlevel codes
coded_item (OfTheFeature layer item) = hlevel codes
