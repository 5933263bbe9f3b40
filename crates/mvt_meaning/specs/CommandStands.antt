-- Which plain command a command of the program stands for.
use Rattle.std.specs.Prelude.{map}
use Rattle.mvt_value.specs.Stands.{new_value_of}
use Rattle.mvt_meaning.specs.Command as plain
use Rattle.mvt_meaning.specs.declared.command.LayerChoice.{LayerChoice}
use Rattle.mvt_meaning.specs.declared.command.LayerChoice.TheVariants.{Ordinal, Name}
use Rattle.mvt_meaning.specs.declared.command.LayersChoice.{LayersChoice}
use Rattle.mvt_meaning.specs.declared.command.LayersChoice.TheVariants.{One, All}
use Rattle.mvt_meaning.specs.declared.command.FeatureChoice.{FeatureChoice}
use Rattle.mvt_meaning.specs.declared.command.FeatureChoice.TheVariants as features
use Rattle.mvt_meaning.specs.declared.command.Command.{Command}
use Rattle.mvt_meaning.specs.declared.command.Command.TheVariants.{RenameLayer, MoveLayer, DropLayer, KeepLayers, InsertFeature, MoveFeature, DropFeature, SetId, ClearId, SetAttribute, UnsetAttribute, RenameKey, Exclude, ExcludeAll, Shift, SetGeometry, CompactKeys, CompactValues, Compact}

-- the plain choice that a choice of a layer stands for
abbrev pub layer_choice_of : LayerChoice → plain.LayerChoice
layer_choice_of (Ordinal ordinal) = plain.AtOrdinal ordinal
layer_choice_of (Name name) = plain.Named name.items

-- the plain choice that a choice of layers stands for
abbrev pub layers_choice_of : LayersChoice → plain.LayersChoice
layers_choice_of (One layer) = plain.TheLayer (layer_choice_of layer)
layers_choice_of All = plain.EachLayer

-- the plain choice that a choice of a feature stands for
abbrev pub feature_choice_of : FeatureChoice → plain.FeatureChoice
feature_choice_of (features.Ordinal ordinal) = plain.FeatureAtOrdinal ordinal
feature_choice_of (features.Id id) = plain.WithId id

-- the plain command that a command of the program stands for
abbrev pub command_of : Command → plain.Command
command_of (RenameLayer layer name) = plain.RenameLayer (layer_choice_of layer) name.items
command_of (MoveLayer layer index) = plain.MoveLayer (layer_choice_of layer) index
command_of (DropLayer layer) = plain.DropLayer (layer_choice_of layer)
command_of (KeepLayers names) = plain.KeepLayers (map (λ name. name.items) names.items)
command_of (InsertFeature layer index geometry) = plain.InsertFeature (layer_choice_of layer) index geometry
command_of (MoveFeature layer feature index) = plain.MoveFeature (layer_choice_of layer) (feature_choice_of feature) index
command_of (DropFeature layer feature) = plain.DropFeature (layer_choice_of layer) (feature_choice_of feature)
command_of (SetId layer feature id) = plain.SetId (layer_choice_of layer) (feature_choice_of feature) id
command_of (ClearId layer feature) = plain.ClearId (layer_choice_of layer) (feature_choice_of feature)
command_of (SetAttribute layer feature key value) = plain.SetAttribute (layer_choice_of layer) (feature_choice_of feature) key.items (new_value_of value)
command_of (UnsetAttribute layer feature key) = plain.UnsetAttribute (layer_choice_of layer) (feature_choice_of feature) key.items
command_of (RenameKey layer old new) = plain.RenameKey (layer_choice_of layer) old.items new.items
command_of (Exclude layers key) = plain.Exclude (layers_choice_of layers) key.items
command_of (ExcludeAll layers) = plain.ExcludeAll (layers_choice_of layers)
command_of (Shift layer feature dx dy) = plain.Shift (layer_choice_of layer) (feature_choice_of feature) dx dy
command_of (SetGeometry layer feature geometry) = plain.SetGeometry (layer_choice_of layer) (feature_choice_of feature) geometry
command_of (CompactKeys layers) = plain.CompactKeys (layers_choice_of layers)
command_of (CompactValues layers) = plain.CompactValues (layers_choice_of layers)
command_of (Compact layers) = plain.Compact (layers_choice_of layers)
