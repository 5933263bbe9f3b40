-- The forms are UTF-8.
use Rattle.std.proofs.Common.{◌≡◌, inl, inr, ℕ, zero, suc, ◌+◌, ◌<◌, ◌≤◌, ℤ, Bool, true, false, cond, not, List, [], ◌∷◌, ◌++◌, length, get_or, refl, sym, ap, subst, ◌∙◌, arith}
use Rattle.std.specs.Prelude.{codes, FitsSigned, nat_lt}
use Rattle.std.specs.Int.{w64}
use Rattle.std.specs.Fmt.{signed_decimal}
use Rattle.std.specs.Char.{IsScalar, encode_utf8, is_ascii_control}
use Rattle.std.specs.List.{AllByRecursion, flat_map, list_all}
use Rattle.std.specs.Str.{IsAscii, IsUtf8, all_scalars, encode_utf8_all, is_utf8}
use Rattle.std.proofs.lemmas.Bool.{and_parts, cases_lt}
use Rattle.std.proofs.lemmas.Bool.Decides.{nat_tests}
use Rattle.std.proofs.lemmas.Grind.{flat_map-append}
use Rattle.std.proofs.lemmas.List.{append-nil}
use Rattle.std.proofs.lemmas.Str.{IsUtf8-append, IsUtf8-encode, IsUtf8-from_ascii, IsUtf8-from_is_utf8, IsUtf8-nil, encode_ascii, inside_one, is_utf8-from_IsUtf8}
use Rattle.hex.specs.Hex.{encode_lower}
use Rattle.mvt_document.proofs.EachItem.{all_by, all_joined}
use Rattle.mvt_value.specs.Values.{Value, OfText, OfFloat, OfDouble, OfInt, OfUint, OfSint, OfBool}
use Rattle.mvt_value.specs.Messages.{IsWritable}
use Rattle.mvt_geometry.specs.Shapes.{Geometry, IsGeometry, IsPart, IsPlaced}
use Rattle.mvt_geometry.specs.declared.shapes.Point.{Point}
use Rattle.mvt_geometry.specs.declared.shapes.Kind.{Kind}
use Rattle.mvt_geometry.specs.declared.shapes.Kind.TheVariants.{Dots, Lines, Areas}
use Rattle.tile_arguments.specs.Arguments.{kind_word}
use Rattle.tile_text.specs.Texts.{is_mark, quoted_byte, quoted, text_form, truth_form, value_form, point_form, part_words, geometry_form}
use Rattle.tile_text.specs.TextStands.{with_leading_spaces}
use Rattle.tile_text.proofs.Digits.{hex_digit_fails, hex_all, decimal_all, signed_all}
use Rattle.tile_text.proofs.Feeds.{placed_fits}
use Rattle.tile_text.proofs.Lists.{none_passes, words_all}

-- ---- ASCII

-- the byte is not ASCII
abbrev is_high : ℕ → Bool
is_high b = nat_lt 127 b

-- each byte is ASCII
abbrev IsLow : List ℕ → Type 0
IsLow bytes = AllByRecursion (λ b. is_high b ≡ false) bytes

low : (b : ℕ) → b < 128 → is_high b ≡ false
low b lt = grind (arith, nat_tests)

below : (b : ℕ) → is_high b ≡ false → b < 128
below b e = grind (arith, nat_tests)

is_ascii : (bytes : List ℕ) → IsLow bytes → IsAscii bytes
is_ascii [] h i = omega arith
is_ascii (b ∷ bytes) h zero = below b h.0
is_ascii (b ∷ bytes) h (suc i) = is_ascii bytes h.1 i

low_readable : (bytes : List ℕ) → IsLow bytes → IsUtf8 bytes
low_readable bytes h = IsUtf8-from_ascii bytes (is_ascii bytes h)

tested : (bytes : List ℕ) → list_all (λ b. not (is_high b)) bytes ≡ true → IsLow bytes
tested bytes e = none_passes is_high bytes e

joined : (xs ys : List ℕ) → IsLow xs → IsLow ys → IsLow (xs ++ ys)
joined xs ys h k = all_joined (λ b. is_high b ≡ false) xs ys h k

-- ---- digits

hex_low : (bytes : List ℕ) → IsLow (encode_lower bytes)
hex_low bytes = hex_all (λ b. is_high b ≡ false) (hex_digit_fails is_high refl refl) bytes

digit_low : (d : ℕ) → d < 10 → is_high (48 + d) ≡ false
digit_low d lt = grind (arith, nat_tests)

signed_low : (z : ℤ) → FitsSigned w64 z → IsLow (signed_decimal z)
signed_low z fits = signed_all (λ b. is_high b ≡ false) refl digit_low z fits

-- ---- texts

byte_by : (b : ℕ) (mark control : Bool) → is_high b ≡ false → IsLow (cond mark (92 ∷ b ∷ []) (cond control (92 ∷ 120 ∷ encode_lower (b ∷ [])) (b ∷ [])))
byte_by b true control h = (refl, (h, tt))
byte_by b false true h = (refl, (refl, hex_low (b ∷ [])))
byte_by b false false h = (h, tt)

-- a byte that is not ASCII stands for itself
high_byte : (b : ℕ) → 128 ≤ b → quoted_byte b ≡ b ∷ []
high_byte b ge =
    let mark : is_mark b ≡ false = grind (arith, nat_tests) in
    let control : is_ascii_control b ≡ false = grind (arith, nat_tests) in
    rw (mark, control) refl

high_bytes : (bytes : List ℕ) → ((k : ℕ) → k < length bytes → 128 ≤ get_or bytes k 0) → flat_map quoted_byte bytes ≡ bytes
high_bytes [] high = refl
high_bytes (b ∷ bytes) high =
    ap (λ (front : List ℕ). front ++ flat_map quoted_byte bytes) (high_byte b (high 0 (omega arith)))
    ∙ ap (λ (more : List ℕ). b ∷ more) (high_bytes bytes (λ k lt. high (suc k) (omega (arith, lt))))

-- the bytes of a character that is not ASCII
each_high : (c : ℕ) → 128 ≤ c → (k : ℕ) → k < length (encode_utf8 c) → 128 ≤ get_or (encode_utf8 c) k 0
each_high c ge k lt =
    elim (cases_lt (get_or (encode_utf8 c) k 0) 128) [
      | inl small ↦
          let same = inside_one c [] (encode_utf8 c) k (sym (append-nil (encode_utf8 c))) lt small in
          absurd (omega (arith, same, small))
      | inr high ↦ high
    ]

-- a character as it is written between quotes
character_readable : (c : ℕ) → IsScalar c → IsUtf8 (flat_map quoted_byte (encode_utf8 c))
character_readable c scalar =
    elim (cases_lt c 128) [
      | inl small ↦
          let one = joined (quoted_byte c) [] (byte_by c (is_mark c) (is_ascii_control c) (low c small)) tt in
          rw (encode_ascii c small) (low_readable (quoted_byte c ++ []) one)
      | inr high ↦ rw (high_bytes (encode_utf8 c) (each_high c high)) (IsUtf8-encode c scalar)
    ]

characters_readable : (cs : List ℕ) → all_scalars cs ≡ true → IsUtf8 (flat_map quoted_byte (encode_utf8_all cs))
characters_readable [] e = IsUtf8-nil
characters_readable (c ∷ cs) e =
    let parts = and_parts _ (all_scalars cs) e in
    let both = IsUtf8-append _ _ (character_readable c parts.0) (characters_readable cs parts.1) in
    subst IsUtf8 (sym (flat_map-append quoted_byte (encode_utf8 c) (encode_utf8_all cs))) both

quoted_readable : (text : List ℕ) → IsUtf8 text → IsUtf8 (quoted text)
quoted_readable text utf8 =
    let inner = subst (λ (bytes : List ℕ). IsUtf8 (flat_map quoted_byte bytes)) utf8.1.1 (characters_readable utf8.0 utf8.1.0) in
    let quote = low_readable (34 ∷ []) (refl, tt) in
    IsUtf8-append (34 ∷ []) (flat_map quoted_byte text ++ 34 ∷ []) quote (IsUtf8-append (flat_map quoted_byte text) (34 ∷ []) inner quote)

text_by : (bytes : List ℕ) (utf8 : Bool) → is_utf8 bytes ≡ utf8 → IsUtf8 (cond utf8 (quoted bytes) (codes "x:" ++ encode_lower bytes))
text_by bytes true e = quoted_readable bytes (IsUtf8-from_is_utf8 bytes e)
text_by bytes false e = low_readable (codes "x:" ++ encode_lower bytes) (refl, (refl, hex_low bytes))

text_form_is_utf8 : (bytes : List ℕ) → IsUtf8 (text_form bytes)
text_form_is_utf8 bytes = text_by bytes (is_utf8 bytes) refl

pub text_form_readable : (bytes : List ℕ) → is_utf8 (text_form bytes) ≡ true
text_form_readable bytes = is_utf8-from_IsUtf8 (text_form bytes) (text_form_is_utf8 bytes)

-- ---- values

truth_low : (truth : Bool) → IsLow (truth_form truth)
truth_low true = tested (codes "true") refl
truth_low false = tested (codes "false") refl

both : (name bytes : List ℕ) → list_all (λ b. not (is_high b)) name ≡ true → IsUtf8 bytes → IsUtf8 (name ++ 32 ∷ bytes)
both name bytes e h = IsUtf8-append name (32 ∷ bytes) (low_readable name (tested name e)) (IsUtf8-append (32 ∷ []) bytes (low_readable (32 ∷ []) (refl, tt)) h)

value_form_is_utf8 : (value : Value) → IsWritable value → IsUtf8 (value_form value)
value_form_is_utf8 (OfText text) fits = both (codes "string") (text_form text) refl (text_form_is_utf8 text)
value_form_is_utf8 (OfFloat bytes) fits = both (codes "float") _ refl (low_readable _ (hex_low bytes))
value_form_is_utf8 (OfDouble bytes) fits = both (codes "double") _ refl (low_readable _ (hex_low bytes))
value_form_is_utf8 (OfInt number) fits = both (codes "int") _ refl (low_readable _ (signed_low number fits))
value_form_is_utf8 (OfUint number) fits = both (codes "uint") _ refl (low_readable _ (decimal_all (λ b. is_high b ≡ false) digit_low number fits))
value_form_is_utf8 (OfSint number) fits = both (codes "sint") _ refl (low_readable _ (signed_low number fits))
value_form_is_utf8 (OfBool truth) fits = both (codes "bool") _ refl (low_readable _ (truth_low truth))

pub value_form_readable : (value : Value) → IsWritable value → is_utf8 (value_form value) ≡ true
value_form_readable value fits = is_utf8-from_IsUtf8 (value_form value) (value_form_is_utf8 value fits)

-- ---- geometries

point_low : (p : Point) → IsPlaced p → IsLow (point_form p)
point_low p placed = joined (signed_decimal p.x) (44 ∷ signed_decimal p.y) (signed_low p.x (placed_fits p.x placed.x)) (refl, signed_low p.y (placed_fits p.y placed.y))

kind_low : (kind : Kind) → IsLow (kind_word kind)
kind_low Dots = tested (codes "point") refl
kind_low Lines = tested (codes "line") refl
kind_low Areas = tested (codes "polygon") refl

spaced_low : (words : List (List ℕ)) → AllByRecursion IsLow words → IsLow (with_leading_spaces words)
spaced_low [] h = tt
spaced_low (word ∷ words) h = joined (codes " " ++ word) (with_leading_spaces words) (refl, h.0) (spaced_low words h.1)

geometry_form_low : (g : Geometry) → IsGeometry g → IsLow (geometry_form g)
geometry_form_low g valid =
    let points : AllByRecursion (AllByRecursion (λ p. IsLow (point_form p))) g.parts =
    all_by (IsPart g.kind) (AllByRecursion (λ p. IsLow (point_form p))) (λ part h. all_by IsPlaced (λ p. IsLow (point_form p)) point_low part h.placed) g.parts valid.parts in
    joined (kind_word g.kind) (with_leading_spaces (part_words g.parts)) (kind_low g.kind) (spaced_low (part_words g.parts) (words_all IsLow (tested (codes "/") refl) g.parts points))

pub geometry_form_readable : (g : Geometry) → IsGeometry g → is_utf8 (geometry_form g) ≡ true
geometry_form_readable g valid = is_utf8-from_IsUtf8 (geometry_form g) (low_readable (geometry_form g) (geometry_form_low g valid))
