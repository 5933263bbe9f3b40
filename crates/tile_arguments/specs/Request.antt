-- What a line of a script can ask for, as a plain value.
use Rattle.mvt_meaning.specs.Command.{LayerChoice, FeatureChoice}
use Rattle.mvt_meaning.specs.Requests.{HistoryRequest}

-- what a listing shows: the tile, a layer, or a feature of a layer
pub data What : Type 0 where
  Whole : What
  OneLayer : (layer : LayerChoice) → What
  OneFeature : (layer : LayerChoice) (feature : FeatureChoice) → What

-- what a line can ask for: a request on the history; the marks, the history, or the size of the tile; or a listing
pub data Request : Type 0 where
  OnHistory : (request : HistoryRequest) → Request
  ListMarks : Request
  PrintHistory : Request
  Size : Request
  Lists : (what : What) → Request
