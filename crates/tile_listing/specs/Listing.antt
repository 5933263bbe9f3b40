-- What a listing shows of a tile, of a layer and of a feature. The forms of its lines are a choice of this project.
use Rattle.std.specs.Prelude.{◌≡◌, ◌⊎◌, ℕ, ◌==◌, List, [], ◌∷◌, ◌++◌, Option, Result, Ok, Err, IsOk, codes, decimal, length, map, slice_get, if◌then◌else◌}
use Rattle.std.specs.List.{enumerate_from, find, flat_map, join_with_byte}
use Rattle.std.specs.Option.{ok_or, option_map_or}
use Rattle.mvt_document.specs.Held.{Held}
use Rattle.mvt_document.specs.Plain.{Document, Feature, Layer}
use Rattle.mvt_geometry.specs.Shapes.{Geometry, kind_number}
use Rattle.mvt_meaning.specs.Command.{FeatureChoice, LayerChoice}
use Rattle.mvt_messages.specs.Views.{extent_of, features, id_of, keys, kind_of, layers, name_of, values, version_of}
use Rattle.mvt_messages.specs.Attributes.{attributes}
use Rattle.mvt_meaning.specs.Meaning.{◌>>=◌}
use Rattle.mvt_meaning.specs.Selection.{selected, selected_feature}
use Rattle.mvt_meaning.specs.Geometries.{geometry_among}
use Rattle.mvt_meaning.specs.declared.refusal.Refusal.{Refusal}
use Rattle.mvt_meaning.specs.declared.refusal.Refusal.TheVariants.{NoFeature, NoLayer, NoMemory}
use Rattle.mvt_value.specs.Found.{value_in}
use Rattle.tile_arguments.specs.Arguments.{kinds, kind_word}
use Rattle.tile_text.specs.Texts.{geometry_form, raw_form, text_form, value_form}
use Rattle.tile_lines.specs.Lines.{with_feed}
use Rattle.tile_arguments.specs.Request.{What, Whole, OneLayer, OneFeature}

-- ---- lines

-- the words, with one space between them
abbrev pub spaced : List (List ℕ) → List ℕ
spaced words = join_with_byte 32 words

-- a line for each of the items, made of its ordinal and the item
abbrev pub numbered : {A : Type 0} → (ℕ → A → List ℕ) → List A → List (List ℕ)
numbered {A} line items = map (λ (p : ℕ × A). line p.0 p.1) (enumerate_from 0 items)

-- what is printed where there is no name or no id: `-`
abbrev pub absent : List ℕ
absent = codes "-"

-- ---- a layer

-- a name as a text, or `-`
abbrev pub name_word : Option (List ℕ) → List ℕ
name_word name = option_map_or text_form name absent

-- the version and the extent of a layer, and how many features, keys and values it has
abbrev pub layer_numbers : Layer → List ℕ
layer_numbers layer = spaced (
    codes "version" ∷ decimal (version_of layer)
    ∷ codes "extent" ∷ decimal (extent_of layer)
    ∷ codes "features" ∷ decimal (length (features layer))
    ∷ codes "keys" ∷ decimal (length (keys layer))
    ∷ codes "values" ∷ decimal (length (values layer)) ∷ [])

-- the line of a layer: its ordinal, its name and its numbers
abbrev pub layer_line : ℕ → Layer → List ℕ
layer_line ordinal layer = spaced (codes "layer" ∷ decimal ordinal ∷ name_word (name_of layer) ∷ layer_numbers layer ∷ [])

-- the line of a key, with its ordinal
abbrev pub key_line : ℕ → List ℕ → List ℕ
key_line ordinal key = spaced (codes "key" ∷ decimal ordinal ∷ text_form key ∷ [])

-- the value that the bytes of a Value message have, or the bytes where they have none
abbrev pub value_shown : List ℕ → List ℕ
value_shown bytes = option_map_or value_form (value_in bytes) (raw_form bytes)

-- the line of a value, with its ordinal
abbrev pub value_line : ℕ → List ℕ → List ℕ
value_line ordinal value = spaced (codes "value" ∷ decimal ordinal ∷ value_shown value ∷ [])

-- ---- a feature

-- an id in decimal digits, or `-`
abbrev pub id_word : Option ℕ → List ℕ
id_word id = option_map_or decimal id absent

-- the word of the kind with this number; `unknown` for 0, and `kind` and the number for any other (tiles 4.3.4)
abbrev pub kind_form : ℕ → List ℕ
kind_form number =
    if number == 0 then codes "unknown"
    else option_map_or kind_word (find (λ kind. kind_number kind == number) kinds) (spaced (codes "kind" ∷ decimal number ∷ []))

-- the line of a feature: its ordinal, its id and its kind
abbrev pub feature_line : ℕ → Feature → List ℕ
feature_line ordinal feature = spaced (codes "feature" ∷ decimal ordinal ∷ codes "id" ∷ id_word (id_of feature) ∷ kind_form (kind_of feature) ∷ [])

-- the line of an attribute: its key and its value
abbrev pub attribute_line : List ℕ × List ℕ → List ℕ
attribute_line attribute = spaced (codes "attribute" ∷ text_form attribute.0 ∷ value_shown attribute.1 ∷ [])

-- a line for each attribute of a feature, in order, or one that says that its tags cannot be read
abbrev pub attribute_lines : Layer → Feature → List (List ℕ)
attribute_lines layer feature = option_map_or (map attribute_line) (attributes layer feature) (codes "attributes unreadable" ∷ [])

-- the line of the geometry of a feature, which says so where there is none
abbrev pub geometry_line : Feature → List ℕ
geometry_line feature = spaced (codes "geometry" ∷ option_map_or geometry_form (geometry_among feature.fields) (codes "unreadable") ∷ [])

-- ---- listings

-- the line that says how many layers the tile has
abbrev pub layers_line : Document → List ℕ
layers_line document = spaced (codes "layers" ∷ decimal (length (layers document)) ∷ [])

-- the lines of a tile: how many layers it has, and a line for each layer
abbrev pub lines_of_tile : Document → List (List ℕ)
lines_of_tile document = layers_line document ∷ numbered layer_line (layers document)

-- the lines of a layer: its own, and one for each key, value and feature
abbrev pub lines_of_layer : ℕ → Layer → List (List ℕ)
lines_of_layer ordinal layer = layer_line ordinal layer ∷ (numbered key_line (keys layer) ++ (numbered value_line (values layer) ++ numbered feature_line (features layer)))

-- the lines of a feature: its own, those of its attributes, and that of its geometry
abbrev pub lines_of_feature : Layer → ℕ → Feature → List (List ℕ)
lines_of_feature layer ordinal feature = feature_line ordinal feature ∷ (attribute_lines layer feature ++ geometry_line feature ∷ [])

-- the item of this ordinal with its ordinal, or the refusal `none`
abbrev pub with_ordinal : {A : Type 0} → Refusal → List A → ℕ → Result (ℕ × A) Refusal
with_ordinal {A} none items ordinal = ok_or (slice_get items ordinal) none >>= λ item. Ok (ordinal, item)

-- the selected layer with its ordinal, or the refusal
abbrev pub chosen_layer : LayerChoice → Document → Result (ℕ × Layer) Refusal
chosen_layer choice document = selected choice document >>= with_ordinal NoLayer (layers document)

-- the selected feature of a layer with its ordinal, or the refusal
abbrev pub chosen_feature : FeatureChoice → Layer → Result (ℕ × Feature) Refusal
chosen_feature choice layer = selected_feature choice layer >>= with_ordinal NoFeature (features layer)

-- the lines of the tile, of the selected layer or of the selected feature, or the refusal
abbrev pub shown : What → Document → Result (List (List ℕ)) Refusal
shown Whole document = Ok (lines_of_tile document)
shown (OneLayer choice) document = do
  layer ← chosen_layer choice document
  Ok (lines_of_layer layer.0 layer.1)
shown (OneFeature choice feature_choice) document = do
  layer ← chosen_layer choice document
  feature ← chosen_feature feature_choice layer.1
  Ok (lines_of_feature layer.1 feature.0 feature.1)

-- the lines, each with a line feed
abbrev pub joined_lines : List (List ℕ) → List ℕ
joined_lines lines = flat_map with_feed lines

-- the bytes of a listing, or the refusal
unfoldable pub listed : What → Document → Result (List ℕ) Refusal
listed what document = shown what document >>= λ lines. Ok (joined_lines lines)

-- a listing is answered as it is defined; or out of memory, and no other refusal, is answered in place of its lines, and
-- never in place of a refusal
abbrev pub Shows : What → Document → Result (Held ℕ) Refusal → Type 0
Shows what document (Ok lines) = listed what document ≡ Ok lines.items
Shows what document (Err refusal) = ((refusal ≡ NoMemory) × IsOk (listed what document)) ⊎ (listed what document ≡ Err refusal)
