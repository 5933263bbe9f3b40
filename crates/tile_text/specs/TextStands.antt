-- How what the program holds is written, piece by piece.
use Rattle.std.specs.Prelude.{ℕ, List, [], ◌∷◌, ◌++◌, map, codes, decimal}
use Rattle.std.specs.List.{flat_map}
use Rattle.std.specs.Fmt.{signed_decimal}
use Rattle.hex.specs.Hex.{encode_lower}
use Rattle.mvt_geometry.specs.declared.shapes.Point.{Point}
use Rattle.mvt_value.specs.declared.value.Value.{Value}
use Rattle.mvt_value.specs.declared.value.Value.TheVariants as shown
use Rattle.mvt_value.specs.Values as plain
use Rattle.tile_text.specs.Texts.{text_form, truth_form, value_form, raw_form, point_form}

-- the form of what the program shows of a value: the value, or the bytes that have none
abbrev pub shown_form : Value → List ℕ
shown_form (shown.Text text) = value_form (plain.OfText text.now)
shown_form (shown.Float4 bytes) = value_form (plain.OfFloat bytes)
shown_form (shown.Double8 bytes) = value_form (plain.OfDouble bytes)
shown_form (shown.Int number) = value_form (plain.OfInt number)
shown_form (shown.Uint number) = value_form (plain.OfUint number)
shown_form (shown.Sint number) = value_form (plain.OfSint number)
shown_form (shown.Bool truth) = value_form (plain.OfBool truth)
shown_form (shown.Raw bytes) = raw_form bytes.now

-- the word before bytes that are not a value, and the space after it where there are any
abbrev pub raw_word : List ℕ → List ℕ
raw_word [] = codes "raw"
raw_word (b ∷ bytes) = codes "raw "

-- the word of the type of a value, and the space after it where something follows
abbrev pub type_word : Value → List ℕ
type_word (shown.Text text) = codes "string "
type_word (shown.Float4 bytes) = codes "float "
type_word (shown.Double8 bytes) = codes "double "
type_word (shown.Int number) = codes "int "
type_word (shown.Uint number) = codes "uint "
type_word (shown.Sint number) = codes "sint "
type_word (shown.Bool truth) = codes "bool "
type_word (shown.Raw bytes) = raw_word bytes.now

-- what is shown of a value after the word of its type
abbrev pub rest_form : Value → List ℕ
rest_form (shown.Text text) = text_form text.now
rest_form (shown.Float4 bytes) = encode_lower bytes
rest_form (shown.Double8 bytes) = encode_lower bytes
rest_form (shown.Int number) = signed_decimal number
rest_form (shown.Uint number) = decimal number
rest_form (shown.Sint number) = signed_decimal number
rest_form (shown.Bool truth) = truth_form truth
rest_form (shown.Raw bytes) = encode_lower bytes.now

-- the words, each with a space before it
abbrev pub with_leading_spaces : List (List ℕ) → List ℕ
with_leading_spaces words = flat_map (λ word. codes " " ++ word) words

-- the form of a part that follows another one
abbrev pub other_part : List Point → List ℕ
other_part points = codes " /" ++ with_leading_spaces (map point_form points)
