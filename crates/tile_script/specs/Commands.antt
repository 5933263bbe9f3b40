-- The commands that the words of a line ask for.
use Rattle.std.specs.Prelude.{ℕ, List, [], ◌∷◌, Result, Ok, Err, codes}
use Rattle.std.specs.Map.{lookup}
use Rattle.std.specs.Option.{option_map_or}
use Rattle.std.specs.Str.{bytes_eq}
use Rattle.mvt_meaning.specs.Command.{LayerChoice, LayersChoice, FeatureChoice, Command, RenameLayer, MoveLayer, DropLayer, KeepLayers, InsertFeature, MoveFeature, DropFeature, SetId, ClearId, SetAttribute, UnsetAttribute, RenameKey, Exclude, ExcludeAll, Shift, SetGeometry, CompactKeys, CompactValues, Compact}
use Rattle.tile_arguments.specs.Arguments.{text_of, texts_of, number_in, distance_of, layer_of, layers_of, feature_of, geometry_of, value_of}
use Rattle.tile_lines.specs.Words.{Word}
use Rattle.tile_lines.specs.Answers.{◌>>=◌}
use Rattle.tile_lines.specs.declared.parse_error.ParseError.{ParseError}
use Rattle.tile_lines.specs.declared.parse_error.ParseError.TheVariants.{UnknownCommand, BadArguments}

-- the layer and the feature that two words select, or the first refusal
unfoldable pub chosen_of : Word → Word → Result (LayerChoice × FeatureChoice) ParseError
chosen_of layer feature = do
  choice ← layer_of layer
  chosen ← feature_of feature
  Ok (choice, chosen)

-- the texts that two words say, or the first refusal
unfoldable pub two_texts_of : Word → Word → Result (List ℕ × List ℕ) ParseError
two_texts_of first second = do
  one ← text_of first
  other ← text_of second
  Ok (one, other)

-- the layers that arguments of one word mean: one layer or all; or the refusal
unfoldable pub layers_alone_of : List Word → Result LayersChoice ParseError
layers_alone_of (layers ∷ []) = layers_of layers
layers_alone_of words = Err BadArguments

-- the rename with these arguments: a layer, and its new name as a text; or the first refusal
unfoldable pub rename_layer_of : List Word → Result Command ParseError
rename_layer_of (layer ∷ name ∷ []) = do
  choice ← layer_of layer
  text ← text_of name
  Ok (RenameLayer choice text)
rename_layer_of words = Err BadArguments

-- the move with these arguments: a layer, and the ordinal to which it goes; or the first refusal
unfoldable pub move_layer_of : List Word → Result Command ParseError
move_layer_of (layer ∷ index ∷ []) = do
  choice ← layer_of layer
  at ← number_in index
  Ok (MoveLayer choice at)
move_layer_of words = Err BadArguments

-- the drop with these arguments: a layer; or the first refusal
unfoldable pub drop_layer_of : List Word → Result Command ParseError
drop_layer_of (layer ∷ []) = do
  choice ← layer_of layer
  Ok (DropLayer choice)
drop_layer_of words = Err BadArguments

-- the `keep` with these arguments: one or more names as texts; or the first refusal
unfoldable pub keep_layers_of : List Word → Result Command ParseError
keep_layers_of [] = Err BadArguments
keep_layers_of (name ∷ more) = do
  names ← texts_of (name ∷ more)
  Ok (KeepLayers names)

-- the insertion with these arguments: a layer, the ordinal of the new feature, and one or more words of its geometry;
-- or the first refusal
unfoldable pub insert_feature_of : List Word → Result Command ParseError
insert_feature_of (layer ∷ index ∷ kind ∷ points) = do
  choice ← layer_of layer
  at ← number_in index
  geometry ← geometry_of (kind ∷ points)
  Ok (InsertFeature choice at geometry)
insert_feature_of words = Err BadArguments

-- the move with these arguments: a layer, a feature, and the ordinal to which it goes; or the first refusal
unfoldable pub move_feature_of : List Word → Result Command ParseError
move_feature_of (layer ∷ feature ∷ index ∷ []) = do
  chosen ← chosen_of layer feature
  at ← number_in index
  Ok (MoveFeature chosen.0 chosen.1 at)
move_feature_of words = Err BadArguments

-- the drop with these arguments: a layer and a feature; or the first refusal
unfoldable pub drop_feature_of : List Word → Result Command ParseError
drop_feature_of (layer ∷ feature ∷ []) = do
  chosen ← chosen_of layer feature
  Ok (DropFeature chosen.0 chosen.1)
drop_feature_of words = Err BadArguments

-- the new id with these arguments: a layer, a feature, and the id; or the first refusal
unfoldable pub set_id_of : List Word → Result Command ParseError
set_id_of (layer ∷ feature ∷ id ∷ []) = do
  chosen ← chosen_of layer feature
  number ← number_in id
  Ok (SetId chosen.0 chosen.1 number)
set_id_of words = Err BadArguments

-- the cleared id with these arguments: a layer and a feature; or the first refusal
unfoldable pub clear_id_of : List Word → Result Command ParseError
clear_id_of (layer ∷ feature ∷ []) = do
  chosen ← chosen_of layer feature
  Ok (ClearId chosen.0 chosen.1)
clear_id_of words = Err BadArguments

-- the value for a key with these arguments: a layer, a feature, a key as a text, and the value by the name of its type
-- and a word; or the first refusal
unfoldable pub set_of : List Word → Result Command ParseError
set_of (layer ∷ feature ∷ key ∷ name ∷ value ∷ []) = do
  chosen ← chosen_of layer feature
  text ← text_of key
  said ← value_of name value
  Ok (SetAttribute chosen.0 chosen.1 text said)
set_of words = Err BadArguments

-- the removal with these arguments: a layer, a feature, and a key as a text; or the first refusal
unfoldable pub unset_of : List Word → Result Command ParseError
unset_of (layer ∷ feature ∷ key ∷ []) = do
  chosen ← chosen_of layer feature
  text ← text_of key
  Ok (UnsetAttribute chosen.0 chosen.1 text)
unset_of words = Err BadArguments

-- the rename with these arguments: a layer, a key and its new bytes as texts; or the first refusal
unfoldable pub rename_key_of : List Word → Result Command ParseError
rename_key_of (layer ∷ old ∷ new ∷ []) = do
  choice ← layer_of layer
  keys ← two_texts_of old new
  Ok (RenameKey choice keys.0 keys.1)
rename_key_of words = Err BadArguments

-- the exclusion with these arguments: one layer or all, and a key as a text; or the first refusal
unfoldable pub exclude_of : List Word → Result Command ParseError
exclude_of (layers ∷ key ∷ []) = do
  choice ← layers_of layers
  text ← text_of key
  Ok (Exclude choice text)
exclude_of words = Err BadArguments

-- the exclusion of all attributes with these arguments: one layer or all; or the first refusal
unfoldable pub exclude_all_of : List Word → Result Command ParseError
exclude_all_of words = do
  choice ← layers_alone_of words
  Ok (ExcludeAll choice)

-- the shift with these arguments: a layer, a feature, and how far the geometry moves along x and along y; or the first
-- refusal
unfoldable pub shift_of : List Word → Result Command ParseError
shift_of (layer ∷ feature ∷ along ∷ down ∷ []) = do
  chosen ← chosen_of layer feature
  dx ← distance_of along
  dy ← distance_of down
  Ok (Shift chosen.0 chosen.1 dx dy)
shift_of words = Err BadArguments

-- the geometry with these arguments: a layer, a feature, and one or more words of its geometry; or the first refusal
unfoldable pub set_geometry_of : List Word → Result Command ParseError
set_geometry_of (layer ∷ feature ∷ kind ∷ points) = do
  chosen ← chosen_of layer feature
  geometry ← geometry_of (kind ∷ points)
  Ok (SetGeometry chosen.0 chosen.1 geometry)
set_geometry_of words = Err BadArguments

-- the removal of unused keys with these arguments: one layer or all; or the refusal
unfoldable pub compact_keys_of : List Word → Result Command ParseError
compact_keys_of words = do
  choice ← layers_alone_of words
  Ok (CompactKeys choice)

-- the removal of unused values with these arguments: one layer or all; or the refusal
unfoldable pub compact_values_of : List Word → Result Command ParseError
compact_values_of words = do
  choice ← layers_alone_of words
  Ok (CompactValues choice)

-- the removal of unused keys and values with these arguments: one layer or all; or the refusal
unfoldable pub compact_of : List Word → Result Command ParseError
compact_of words = do
  choice ← layers_alone_of words
  Ok (Compact choice)

-- the commands, each with its word and how its arguments are read
abbrev pub commands : List (List ℕ × (List Word → Result Command ParseError))
commands =
    (codes "rename-layer", rename_layer_of)
    ∷ (codes "move-layer", move_layer_of)
    ∷ (codes "drop-layer", drop_layer_of)
    ∷ (codes "keep", keep_layers_of)
    ∷ (codes "insert", insert_feature_of)
    ∷ (codes "move-feature", move_feature_of)
    ∷ (codes "drop-feature", drop_feature_of)
    ∷ (codes "set-id", set_id_of)
    ∷ (codes "clear-id", clear_id_of)
    ∷ (codes "set", set_of)
    ∷ (codes "unset", unset_of)
    ∷ (codes "rename-key", rename_key_of)
    ∷ (codes "exclude", exclude_of)
    ∷ (codes "exclude-all", exclude_all_of)
    ∷ (codes "shift", shift_of)
    ∷ (codes "set-geometry", set_geometry_of)
    ∷ (codes "compact-keys", compact_keys_of)
    ∷ (codes "compact-values", compact_values_of)
    ∷ (codes "compact", compact_of)
    ∷ []

-- what the reader of this word in a list makes of the arguments, or `unknown` where none has the word
abbrev pub read_by : {A : Type 0} → List (List ℕ × (List Word → Result A ParseError)) → Result A ParseError → List ℕ → List Word → Result A ParseError
read_by readers unknown name arguments = option_map_or (λ read. read arguments) (lookup (bytes_eq name) readers) unknown

-- the command that begins with this word, with its arguments; or the first refusal, which is UnknownCommand where no
-- command has the word
unfoldable pub command_by : List ℕ → List Word → Result Command ParseError
command_by name arguments = read_by commands (Err UnknownCommand) name arguments
