-- Forms that a script reads as what they were written for.
use Rattle.std.specs.Prelude.{◌≡◌, ℕ, ◌^◌, ◌<◌, unsigned_abs, true, List, [], ◌∷◌, map, Ok}
use Rattle.std.specs.List.{All, AllByRecursion}
use Rattle.std.specs.Str.{is_utf8}
use Rattle.mvt_value.specs.Values.{Value, OfText, OfFloat, OfDouble}
use Rattle.mvt_geometry.specs.Shapes.{Geometry}
use Rattle.mvt_geometry.specs.declared.shapes.Point.{Point}
use Rattle.tile_lines.specs.Words.{Word, Bare}
use Rattle.tile_lines.specs.Spelling.{SpellsWord, SpellsWords}
use Rattle.tile_arguments.specs.Arguments.{text_of, value_of, geometry_of}
use Rattle.tile_text.specs.Texts.{text_form, value_words, value_form, geometry_words, geometry_form}

-- the numbers are below 256
abbrev pub AreBytes : List ℕ → Type 0
AreBytes bytes = All (λ b. b < 256) bytes

-- the text or the float that a value has is made of numbers below 256
abbrev pub HoldsBytes : Value → Type 0
HoldsBytes (OfText text) = AreBytes text
HoldsBytes (OfFloat bytes) = AreBytes bytes
HoldsBytes (OfDouble bytes) = AreBytes bytes
HoldsBytes value = Unit {0}

-- both coordinates are from -2147483647 to 2147483647
pub record IsNear (p : Point) : Type 0 where
  pub x : unsigned_abs p.x < 2 ^ 31
  pub y : unsigned_abs p.y < 2 ^ 31

-- the form of the bytes is UTF-8, as a line has to be, and spelled as a word, and that word says these bytes as a text
pub record IsReadAsText (bytes : List ℕ) : Type 0 where
  pub readable : is_utf8 (text_form bytes) ≡ true
  pub word : Word
  pub spelled : SpellsWord (text_form bytes) word
  pub read : text_of word ≡ Ok bytes

-- the form of the value is UTF-8, as a line has to be, and spelled as two words, and they say this value
pub record IsReadAsValue (value : Value) : Type 0 where
  pub readable : is_utf8 (value_form value) ≡ true
  pub name : Word
  pub argument : Word
  pub name_spelled : SpellsWord (value_words value).0 name
  pub argument_spelled : SpellsWord (value_words value).1 argument
  pub line : SpellsWords (value_form value) (name ∷ argument ∷ [])
  pub read : value_of name argument ≡ Ok value

-- the form of the geometry is UTF-8, as a line has to be, and spelled as bare words, and they say this geometry
pub record IsReadAsGeometry (g : Geometry) : Type 0 where
  pub readable : is_utf8 (geometry_form g) ≡ true
  pub spelled : AllByRecursion (λ form. SpellsWord form (Bare form)) (geometry_words g)
  pub line : SpellsWords (geometry_form g) (map Bare (geometry_words g))
  pub read : geometry_of (map Bare (geometry_words g)) ≡ Ok g
