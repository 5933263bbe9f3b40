-- How names, values and geometries are written on a line: the forms that a script reads. They are a choice of this
-- project.
use Rattle.std.specs.Prelude.{ℕ, ◌==◌, ◌||◌, if◌then◌else◌, Bool, List, [], ◌∷◌, ◌++◌, codes, decimal, map, true, false}
use Rattle.std.specs.List.{flat_map, join_by}
use Rattle.std.specs.Str.{is_utf8}
use Rattle.std.specs.Char.{is_ascii_control}
use Rattle.std.specs.Fmt.{signed_decimal}
use Rattle.hex.specs.Hex.{encode_lower}
use Rattle.mvt_value.specs.Values.{Value, OfText, OfFloat, OfDouble, OfInt, OfUint, OfSint, OfBool}
use Rattle.mvt_geometry.specs.Shapes.{Geometry}
use Rattle.mvt_geometry.specs.declared.shapes.Point.{Point}
use Rattle.tile_arguments.specs.Arguments.{kind_word}

-- ---- texts

-- the byte is a quote or a backslash
abbrev pub is_mark : ℕ → Bool
is_mark b = b == 34 || b == 92

-- a byte that does not stand for itself between quotes: a quote or a backslash, a byte below 20 in hexadecimal, and the
-- byte 7f
abbrev pub is_escaped : ℕ → Bool
is_escaped b = is_mark b || is_ascii_control b

-- a byte between quotes: a quote and a backslash after a backslash, a byte below 20 in hexadecimal and the byte 7f as
-- `\x` and two lower-case hexadecimal digits, any other byte as it is
abbrev pub quoted_byte : ℕ → List ℕ
quoted_byte b =
    if is_mark b then 92 ∷ b ∷ []
    else (if is_ascii_control b then 92 ∷ 120 ∷ encode_lower (b ∷ [])
    else b ∷ [])

-- a text between quotes
abbrev pub quoted : List ℕ → List ℕ
quoted text = 34 ∷ (flat_map quoted_byte text ++ 34 ∷ [])

-- any bytes: quoted where they are UTF-8, else `x:` and their lower-case hexadecimal digits
abbrev pub text_form : List ℕ → List ℕ
text_form bytes = if is_utf8 bytes then quoted bytes else codes "x:" ++ encode_lower bytes

-- ---- values

-- the word of a truth value: `true` or `false`
abbrev pub truth_form : Bool → List ℕ
truth_form true = codes "true"
truth_form false = codes "false"

-- a value as two words: its type and the value, with the bytes of a float in the order of the file
abbrev pub value_words : Value → List ℕ × List ℕ
value_words (OfText text) = (codes "string", text_form text)
value_words (OfFloat bytes) = (codes "float", encode_lower bytes)
value_words (OfDouble bytes) = (codes "double", encode_lower bytes)
value_words (OfInt number) = (codes "int", signed_decimal number)
value_words (OfUint number) = (codes "uint", decimal number)
value_words (OfSint number) = (codes "sint", signed_decimal number)
value_words (OfBool truth) = (codes "bool", truth_form truth)

-- a value as two words, with a space between them
abbrev pub value_form : Value → List ℕ
value_form value = (value_words value).0 ++ 32 ∷ (value_words value).1

-- bytes that are not a value: `raw` and their hexadecimal digits, or `raw` alone where there are none
abbrev pub raw_form : List ℕ → List ℕ
raw_form [] = codes "raw"
raw_form (b ∷ bytes) = codes "raw " ++ encode_lower (b ∷ bytes)

-- ---- geometries

-- a point: `X,Y`
abbrev pub point_form : Point → List ℕ
point_form p = signed_decimal p.x ++ 44 ∷ signed_decimal p.y

-- the points of each part, with the word `/` between the parts
abbrev pub part_words : List (List Point) → List (List ℕ)
part_words parts = join_by (map point_form) (codes "/" ∷ []) parts

-- a geometry as words: that of its kind, and those of its parts
abbrev pub geometry_words : Geometry → List (List ℕ)
geometry_words g = kind_word g.kind ∷ part_words g.parts

-- a geometry as words, with a space between them
abbrev pub geometry_form : Geometry → List ℕ
geometry_form g = join_by (λ word. word) (codes " ") (geometry_words g)
