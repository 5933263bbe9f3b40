-- What a step of the program does at the place of its list, and which plain change a change of the program stands for.
use Rattle.std.specs.Prelude.{ℕ, if◌then◌else◌, map, reverse, Option, Some, None}
use Rattle.mvt_document.specs.Held.{Held}
use Rattle.mvt_change.specs.Changes as plain
use Rattle.mvt_change.specs.HeldLists.{HeldItemAt, plain_item}
use Rattle.mvt_change.specs.declared.change.Place.{Place}
use Rattle.mvt_change.specs.declared.change.Place.TheVariants.{Tile, Layer, Feature}
use Rattle.mvt_change.specs.declared.change.Step.{Step}
use Rattle.mvt_change.specs.declared.change.Step.TheVariants.{InTile, InLayer, InFeature, Move}
use Rattle.mvt_change.specs.declared.change.Change.{Change}

-- the plain place that a place of the program stands for
abbrev pub place_of : Place → plain.Place
place_of Tile = plain.OfTheTile
place_of (Layer layer) = plain.OfTheLayer layer
place_of (Feature layer item) = plain.OfTheFeature layer item

-- what a step of the program does: a splice of the list at a place, where the items to put have room, or a move
pub data Action : Type 0 where
  SpliceAt : (place : plain.Place) (index taken : ℕ) (put : Held (HeldItemAt place)) → Action
  MoveAt : (place : plain.Place) (from to : ℕ) → Action

-- what a step of the program does
abbrev pub action_of : Step → Action
action_of (InTile index taken put) = SpliceAt plain.OfTheTile index taken put
action_of (InLayer layer index taken put) = SpliceAt (plain.OfTheLayer layer) index taken put
action_of (InFeature layer item index taken put) = SpliceAt (plain.OfTheFeature layer item) index taken put
action_of (Move place from to) = MoveAt (place_of place) from to

-- the place of the list that is spliced; none where an item moves
abbrev pub spliced_place : Action → Option plain.Place
spliced_place (SpliceAt place index taken put) = Some place
spliced_place (MoveAt place from to) = None

-- the plain step that does the same
abbrev pub plain_step : Action → plain.Step
plain_step (SpliceAt place index taken put) = plain.SpliceStep place index taken (map (plain_item place) put.items)
plain_step (MoveAt place from to) = plain.MoveStep place from to

-- the plain step that a step of the program stands for
abbrev pub step_of : Step → plain.Step
step_of step = plain_step (action_of step)

-- the plain change that a change of the program stands for, in whichever order its steps stand
abbrev pub change_of : Change → plain.Change
change_of c = if c.backwards then reverse (map step_of c.steps.items) else map step_of c.steps.items
