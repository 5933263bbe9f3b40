-- The commands that change a tile, as plain values.
use Rattle.std.specs.Prelude.{ℕ, ◌^◌, ◌<◌, ℤ, List}
use Rattle.mvt_geometry.specs.Shapes.{Geometry}
use Rattle.mvt_value.specs.Values.{Value}

-- how a layer is selected: by its ordinal among the layers, or by its name
pub data LayerChoice : Type 0 where
  AtOrdinal : (ordinal : ℕ) → LayerChoice
  Named : (name : List ℕ) → LayerChoice

-- which layers are selected: one, or each
pub data LayersChoice : Type 0 where
  TheLayer : (layer : LayerChoice) → LayersChoice
  EachLayer : LayersChoice

-- how a feature of a layer is selected: by its ordinal among the features, or by its id
pub data FeatureChoice : Type 0 where
  FeatureAtOrdinal : (ordinal : ℕ) → FeatureChoice
  WithId : (id : ℕ) → FeatureChoice

-- a command with its arguments; an index is an ordinal
pub data Command : Type 0 where
  RenameLayer : (layer : LayerChoice) (name : List ℕ) → Command
  MoveLayer : (layer : LayerChoice) (index : ℕ) → Command
  DropLayer : (layer : LayerChoice) → Command
  KeepLayers : (names : List (List ℕ)) → Command
  InsertFeature : (layer : LayerChoice) (index : ℕ) (geometry : Geometry) → Command
  MoveFeature : (layer : LayerChoice) (feature : FeatureChoice) (index : ℕ) → Command
  DropFeature : (layer : LayerChoice) (feature : FeatureChoice) → Command
  SetId : (layer : LayerChoice) (feature : FeatureChoice) (id : ℕ) → Command
  ClearId : (layer : LayerChoice) (feature : FeatureChoice) → Command
  SetAttribute : (layer : LayerChoice) (feature : FeatureChoice) (key : List ℕ) (value : Value) → Command
  UnsetAttribute : (layer : LayerChoice) (feature : FeatureChoice) (key : List ℕ) → Command
  RenameKey : (layer : LayerChoice) (old new : List ℕ) → Command
  Exclude : (layers : LayersChoice) (key : List ℕ) → Command
  ExcludeAll : (layers : LayersChoice) → Command
  Shift : (layer : LayerChoice) (feature : FeatureChoice) (dx dy : ℤ) → Command
  SetGeometry : (layer : LayerChoice) (feature : FeatureChoice) (geometry : Geometry) → Command
  CompactKeys : (layers : LayersChoice) → Command
  CompactValues : (layers : LayersChoice) → Command
  Compact : (layers : LayersChoice) → Command

-- a valid command: the id that it sets, where it sets one, can be spelled, as it is below 2 ^ 64 (tiles 4.2)
abbrev pub IsCommand : Command → Type 0
IsCommand (SetId layer feature id) = id < 2 ^ 64
IsCommand command = Unit {0}
