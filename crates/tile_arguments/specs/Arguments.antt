-- What single arguments of a request say.
use Rattle.std.specs.Prelude.{ℕ, ◌-◌, ◌^◌, ℤ, pos, neg_ℤ, Bool, true, false, ◌&&◌, not, List, [], ◌∷◌, length, Option, Some, None, option_map, option_and_then, ok_or, Result, Ok, Err, IsOk, ◌==◌, nat_eq, nat_lt, nat_le, drop, if◌then◌else◌, codes}
use Rattle.std.specs.List.{starts_with, before_first, after_first, slice_split, list_all, find}
use Rattle.std.specs.Option.{option_zip}
use Rattle.std.specs.Result.{result_ok}
use Rattle.std.specs.Str.{bytes_eq, all_ascii_digits}
use Rattle.std.specs.Str.Parse.{digits_value}
use Rattle.hex.specs.Hex.{decode_of, decode_sized}
use Rattle.mvt_meaning.specs.Command.{LayerChoice, AtOrdinal, Named, LayersChoice, TheLayer, EachLayer, FeatureChoice, FeatureAtOrdinal, WithId}
use Rattle.mvt_geometry.specs.Shapes.{Geometry, least_points}
use Rattle.mvt_geometry.specs.Checks.{is_part_count}
use Rattle.mvt_geometry.specs.declared.shapes.Point.{Point}
use Rattle.mvt_geometry.specs.declared.shapes.Kind.{Kind}
use Rattle.mvt_geometry.specs.declared.shapes.Kind.TheVariants.{Dots, Lines, Areas}
use Rattle.mvt_value.specs.Values.{Value, OfText, OfFloat, OfDouble, OfInt, OfUint, OfSint, OfBool}
use Rattle.tile_lines.specs.Words.{Word, Bare, Quoted}
use Rattle.tile_lines.specs.Answers.{◌>>=◌}
use Rattle.tile_lines.specs.declared.parse_error.ParseError.{ParseError}
use Rattle.tile_lines.specs.declared.parse_error.ParseError.TheVariants.{BadArguments, BadNumber, BadValue, BadGeometryText}

-- what follows a mark, where the bytes begin with it
abbrev pub after_mark : List ℕ → List ℕ → Option (List ℕ)
after_mark mark bytes = if starts_with nat_eq bytes mark then Some (drop (length mark) bytes) else None

-- ---- numbers

-- the bytes are one or more decimal digits; leading zeros count as digits
abbrev pub are_digits : List ℕ → Bool
are_digits bytes = not (length bytes == 0) && all_ascii_digits bytes

-- the bytes are a number: decimal digits of a number below 2^64
abbrev pub is_number : List ℕ → Bool
is_number bytes = are_digits bytes && nat_lt (digits_value 10 bytes) (2 ^ 64)

-- the number that the bytes denote; else BadNumber
unfoldable pub number_of : List ℕ → Result ℕ ParseError
number_of bytes = if is_number bytes then Ok (digits_value 10 bytes) else Err BadNumber

-- the number that a bare word denotes; else BadNumber
unfoldable pub number_in : Word → Result ℕ ParseError
number_in (Bare digits) = number_of digits
number_in (Quoted text) = Err BadNumber

-- the number that decimal digits denote, where it is at most `most`
unfoldable pub number_up_to : ℕ → List ℕ → Option ℕ
number_up_to most bytes = if are_digits bytes && nat_le (digits_value 10 bytes) most then Some (digits_value 10 bytes) else None

-- the negated number of the digits after a minus sign, or the number of all bytes where there is no sign
abbrev pub signed_by : ℕ → ℕ → Option (List ℕ) → List ℕ → Option ℤ
signed_by least greatest (Some digits) bytes = option_map (λ n. neg_ℤ (pos n)) (number_up_to least digits)
signed_by least greatest None bytes = option_map pos (number_up_to greatest bytes)

-- the signed number that the bytes denote: an optional `-`, then digits; from -least to greatest
unfoldable pub signed_of : ℕ → ℕ → List ℕ → Option ℤ
signed_of least greatest bytes = signed_by least greatest (after_mark (codes "-") bytes) bytes

-- a signed number of 64 bits: from -2^63 to 2^63 - 1
abbrev pub integer_of : List ℕ → Option ℤ
integer_of bytes = signed_of (2 ^ 63) (2 ^ 63 - 1) bytes

-- a coordinate: a signed number from -2147483647 to 2147483647
abbrev pub delta_of : List ℕ → Option ℤ
delta_of bytes = signed_of 2147483647 2147483647 bytes

-- the coordinate that a bare word denotes; else BadNumber
unfoldable pub distance_of : Word → Result ℤ ParseError
distance_of (Bare bytes) = ok_or (delta_of bytes) BadNumber
distance_of (Quoted text) = Err BadNumber

-- ---- texts

-- the bytes of a bare word; none of a quoted one
abbrev pub bare_in : Word → Option (List ℕ)
bare_in (Bare bytes) = Some bytes
bare_in (Quoted text) = None

-- the bytes that pairs of hexadecimal digits of either case denote
unfoldable pub bytes_in : List ℕ → Option (List ℕ)
bytes_in digits = result_ok (decode_of digits)

-- the text that a word says: that of a quoted word, or the bytes that the digits after `x:` denote
unfoldable pub text_in : Word → Option (List ℕ)
text_in (Quoted text) = Some text
text_in (Bare bytes) = option_and_then bytes_in (after_mark (codes "x:") bytes)

-- the text that a word says; else BadArguments
unfoldable pub text_of : Word → Result (List ℕ) ParseError
text_of word = ok_or (text_in word) BadArguments

-- ---- several arguments

-- what `f` reads of each item, or the first refusal
unfoldable pub each : {A B : Type 0} → (A → Result B ParseError) → List A → Result (List B) ParseError
each f [] = Ok []
each f (x ∷ xs) = do
  y ← f x
  ys ← each f xs
  Ok (y ∷ ys)

-- the texts that several words say, or the first refusal
unfoldable pub texts_of : List Word → Result (List (List ℕ)) ParseError
texts_of words = each text_of words

-- ---- layers and features

-- the layer of the ordinal after a mark, or, where there is no mark, of the name that the word says
abbrev pub layer_by : Option (List ℕ) → Word → Result LayerChoice ParseError
layer_by (Some digits) word = number_of digits >>= λ n. Ok (AtOrdinal n)
layer_by None word = text_of word >>= λ name. Ok (Named name)

-- how a word selects a layer: `#` and an ordinal, or a name as a text
unfoldable pub layer_of : Word → Result LayerChoice ParseError
layer_of (Quoted text) = layer_by None (Quoted text)
layer_of (Bare bytes) = layer_by (after_mark (codes "#") bytes) (Bare bytes)

-- the word is the star `*` that means each layer
abbrev pub is_star : Word → Bool
is_star (Bare bytes) = bytes_eq bytes (codes "*")
is_star (Quoted text) = false

-- which layers a word means: the star means each layer, and any other word the one that it selects
unfoldable pub layers_of : Word → Result LayersChoice ParseError
layers_of word = if is_star word then Ok EachLayer else (layer_of word >>= λ choice. Ok (TheLayer choice))

-- the feature of the id after a mark, or, where there is no mark, of the ordinal that the bytes denote
abbrev pub feature_by : Option (List ℕ) → List ℕ → Result FeatureChoice ParseError
feature_by (Some digits) bytes = number_of digits >>= λ id. Ok (WithId id)
feature_by None bytes = number_of bytes >>= λ n. Ok (FeatureAtOrdinal n)

-- how a word selects a feature: an ordinal, or `@` and an id; a quoted word is refused with BadNumber
unfoldable pub feature_of : Word → Result FeatureChoice ParseError
feature_of (Quoted text) = Err BadNumber
feature_of (Bare bytes) = feature_by (after_mark (codes "@") bytes) bytes

-- ---- values

-- the bytes that pairs of hexadecimal digits of either case denote, where there are `count` pairs
unfoldable pub pairs_in : ℕ → List ℕ → Option (List ℕ)
pairs_in count digits = result_ok (decode_sized digits count)

-- `true` or `false`, in no other spelling
abbrev pub truth_in : List ℕ → Option Bool
truth_in bytes =
    if bytes_eq bytes (codes "true") then Some true
    else (if bytes_eq bytes (codes "false") then Some false
    else None)

-- the value of a type that a bare word says: a float by the digits of its bytes in the order of the file, a number, or
-- a truth value
unfoldable pub bare_value : List ℕ → List ℕ → Option Value
bare_value name bytes =
    if bytes_eq name (codes "float") then option_map OfFloat (pairs_in 4 bytes)
    else (if bytes_eq name (codes "double") then option_map OfDouble (pairs_in 8 bytes)
    else (if bytes_eq name (codes "int") then option_map OfInt (integer_of bytes)
    else (if bytes_eq name (codes "uint") then option_map OfUint (result_ok (number_of bytes))
    else (if bytes_eq name (codes "sint") then option_map OfSint (integer_of bytes)
    else (if bytes_eq name (codes "bool") then option_map OfBool (truth_in bytes)
    else None)))))

-- the value of a type that a word says: a text, or the value of a bare word
unfoldable pub value_in : List ℕ → Word → Option Value
value_in name word = if bytes_eq name (codes "string") then option_map OfText (text_in word) else option_and_then (bare_value name) (bare_in word)

-- the value that two words say: its type, a bare word, and the value; else BadValue
unfoldable pub value_of : Word → Word → Result Value ParseError
value_of (Quoted text) word = Err BadValue
value_of (Bare name) word = ok_or (value_in name word) BadValue

-- ---- geometries

-- the point of two coordinates, where both are there
abbrev pub point_at : Option ℤ → Option ℤ → Option Point
point_at x y = option_map (λ at. record { x = at.0; y = at.1 }) (option_zip x y)

-- the point that the bytes denote: two coordinates with one comma between them
unfoldable pub point_in : List ℕ → Option Point
point_in bytes = point_at (delta_of (before_first (λ b. b == 44) bytes)) (delta_of (after_first (λ b. b == 44) bytes))

-- the point that a bare word denotes; else BadGeometryText
unfoldable pub point_of : Word → Result Point ParseError
point_of word = ok_or (option_and_then point_in (bare_in word)) BadGeometryText

-- the points that words denote, or the first refusal
unfoldable pub part_of : List Word → Result (List Point) ParseError
part_of words = each point_of words

-- the word is the bar `/` that separates two parts
abbrev pub is_bar : Word → Bool
is_bar (Bare bytes) = bytes_eq bytes (codes "/")
is_bar (Quoted text) = false

-- the parts that words denote, with a bar between them, or the first refusal
unfoldable pub parts_of : List Word → Result (List (List Point)) ParseError
parts_of words = each part_of (slice_split is_bar words)

-- the kinds
abbrev pub kinds : List Kind
kinds = Dots ∷ Lines ∷ Areas ∷ []

-- the word of a kind: `point`, `line` or `polygon`
abbrev pub kind_word : Kind → List ℕ
kind_word Dots = codes "point"
kind_word Lines = codes "line"
kind_word Areas = codes "polygon"

-- the kind whose word the bytes are; else BadGeometryText
unfoldable pub kind_of : List ℕ → Result Kind ParseError
kind_of name = ok_or (find (λ kind. bytes_eq name (kind_word kind)) kinds) BadGeometryText

-- a geometry of this kind may have this many parts, and each part has enough points
abbrev pub are_parts : Kind → List (List Point) → Bool
are_parts kind parts = is_part_count kind (length parts) && list_all (λ points. nat_le (least_points kind) (length points)) parts

-- the geometry of these parts, where they are parts of one; else BadGeometryText
unfoldable pub shaped : Kind → List (List Point) → Result Geometry ParseError
shaped kind parts = if are_parts kind parts then Ok (record { kind = kind; parts = parts }) else Err BadGeometryText

-- the geometry that words say: the name of its kind, and its parts; or the first refusal
unfoldable pub geometry_of : List Word → Result Geometry ParseError
geometry_of (Bare name ∷ words) = do
  kind ← kind_of name
  parts ← parts_of words
  shaped kind parts
geometry_of words = Err BadGeometryText

-- the words name a kind, and after it are only points and bars
abbrev pub DrawsPoints : List Word → Type 0
DrawsPoints [] = ⊥
DrawsPoints (Quoted text ∷ words) = ⊥
DrawsPoints (Bare name ∷ words) = IsOk (kind_of name) × IsOk (parts_of words)
