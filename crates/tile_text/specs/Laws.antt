-- Laws of the forms of texts, values and geometries.
use Rattle.std.specs.Prelude.{ℕ, List}
use Rattle.std.specs.List.{AllByRecursion, Contains}
use Rattle.mvt_value.specs.Values.{Value}
use Rattle.mvt_value.specs.Messages.{IsWritable}
use Rattle.mvt_geometry.specs.Shapes.{Geometry, IsGeometry}
use Rattle.tile_text.specs.Texts.{text_form, value_form, raw_form, geometry_form}
use Rattle.tile_text.specs.ReadBack.{AreBytes, HoldsBytes, IsNear, IsReadAsText, IsReadAsValue, IsReadAsGeometry}

-- the form of any bytes is a word that says those bytes
abbrev pub TextsReadBack : Type 0
TextsReadBack = (bytes : List ℕ) → AreBytes bytes → IsReadAsText bytes

-- the form of a value in range is two words that say that value
abbrev pub ValuesReadBack : Type 0
ValuesReadBack = (value : Value) → IsWritable value → HoldsBytes value → IsReadAsValue value

-- the form of a valid geometry whose points are near is words that say that geometry
abbrev pub GeometriesReadBack : Type 0
GeometriesReadBack = (g : Geometry) → IsGeometry g → AllByRecursion (AllByRecursion IsNear) g.parts → IsReadAsGeometry g

-- there is no line feed among the bytes
abbrev pub StandsOnALine : List ℕ → Type 0
StandsOnALine form = ¬ (Contains form 10)

-- the form of any bytes as a text holds no line feed
abbrev pub TextsStandOnALine : Type 0
TextsStandOnALine = (bytes : List ℕ) → StandsOnALine (text_form bytes)

-- the form of a value in range holds no line feed
abbrev pub ValuesStandOnALine : Type 0
ValuesStandOnALine = (value : Value) → IsWritable value → StandsOnALine (value_form value)

-- the form of bytes that are not a value holds no line feed
abbrev pub RawStandsOnALine : Type 0
RawStandsOnALine = (bytes : List ℕ) → StandsOnALine (raw_form bytes)

-- the form of a valid geometry holds no line feed
abbrev pub GeometriesStandOnALine : Type 0
GeometriesStandOnALine = (g : Geometry) → IsGeometry g → StandsOnALine (geometry_form g)
