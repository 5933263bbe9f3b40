-- No form holds a line feed.
use Rattle.std.proofs.Common.{◌≡◌, ◌≢◌, ◌⊎◌, inl, inr, ℕ, ◌+◌, ◌<◌, ◌≤◌, ◌^◌, ℤ, pos, negsuc, Bool, true, false, cond, eqb, not, List, [], ◌∷◌, ◌++◌, refl, arith}
use Rattle.std.specs.Prelude.{codes, FitsSigned, unsigned_abs}
use Rattle.std.specs.Int.{w64}
use Rattle.std.specs.Fmt.{signed_decimal}
use Rattle.std.specs.Char.{is_ascii_control}
use Rattle.std.specs.List.{AllByRecursion, Contains, flat_map, list_all}
use Rattle.std.specs.Str.{is_utf8}
use Rattle.std.proofs.lemmas.Bool.Decides.{nat_tests}
use Rattle.std.proofs.lemmas.List.Elements.{All-from_recursion, All-contains}
use Rattle.hex.specs.Hex.{encode_lower}
use Rattle.mvt_document.proofs.EachItem.{all_by, all_joined}
use Rattle.mvt_value.specs.Values.{Value, OfText, OfFloat, OfDouble, OfInt, OfUint, OfSint, OfBool}
use Rattle.mvt_value.specs.Messages.{IsWritable}
use Rattle.mvt_geometry.specs.Shapes.{Geometry, IsGeometry, IsPart, IsPlaced}
use Rattle.mvt_geometry.specs.declared.shapes.Point.{Point}
use Rattle.mvt_geometry.specs.declared.shapes.Kind.{Kind}
use Rattle.mvt_geometry.specs.declared.shapes.Kind.TheVariants.{Dots, Lines, Areas}
use Rattle.tile_arguments.specs.Arguments.{kind_word}
use Rattle.tile_text.specs.Texts.{is_mark, quoted_byte, quoted, text_form, truth_form, value_form, raw_form, point_form, part_words, geometry_form}
use Rattle.tile_text.specs.TextStands.{with_leading_spaces}
use Rattle.tile_text.proofs.Digits.{hex_digit_fails, hex_all, decimal_all, signed_all}
use Rattle.tile_text.proofs.Lists.{none_passes, words_all}
use Rattle.tile_text.proofs.Spelled.{mark_is}

-- no byte is a line feed
abbrev pub IsFeedless : List ℕ → Type 0
IsFeedless bytes = AllByRecursion (λ b. eqb b 10 ≡ false) bytes

pub holds_none : (bytes : List ℕ) → IsFeedless bytes → ¬ (Contains bytes 10)
holds_none bytes h has = let e : eqb 10 10 ≡ false = All-contains (λ b. eqb b 10 ≡ false) bytes 10 (All-from_recursion (λ b. eqb b 10 ≡ false) bytes h) has in absurd cc

-- a line feed
abbrev is_feed : ℕ → Bool
is_feed b = eqb b 10

tested : (bytes : List ℕ) → list_all (λ b. not (is_feed b)) bytes ≡ true → IsFeedless bytes
tested bytes e = none_passes is_feed bytes e

joined : (xs ys : List ℕ) → IsFeedless xs → IsFeedless ys → IsFeedless (xs ++ ys)
joined xs ys h k = all_joined (λ b. eqb b 10 ≡ false) xs ys h k

of_either : (b : Bool) (xs ys : List ℕ) → IsFeedless xs → IsFeedless ys → IsFeedless (cond b xs ys)
of_either true xs ys h k = h
of_either false xs ys h k = k

-- ---- digits

hex_feedless : (bytes : List ℕ) → IsFeedless (encode_lower bytes)
hex_feedless bytes = hex_all (λ b. eqb b 10 ≡ false) (hex_digit_fails is_feed refl refl) bytes

digit_feedless : (d : ℕ) → d < 10 → eqb (48 + d) 10 ≡ false
digit_feedless d lt = grind (arith, nat_tests)

-- ---- texts

other : (b : ℕ) → b ≢ 10 → eqb b 10 ≡ false
other b ne = grind (arith, nat_tests)

mark_other : (b : ℕ) → (b ≡ 34) ⊎ (b ≡ 92) → eqb b 10 ≡ false
mark_other b (inl e) = rw e refl
mark_other b (inr e) = rw e refl

byte_by : (b : ℕ) (mark control : Bool) → is_mark b ≡ mark → is_ascii_control b ≡ control → IsFeedless (cond mark (92 ∷ b ∷ []) (cond control (92 ∷ 120 ∷ encode_lower (b ∷ [])) (b ∷ [])))
byte_by b true control m k = (refl, (mark_other b (mark_is b m), tt))
byte_by b false true m k = (refl, (refl, hex_feedless (b ∷ [])))
byte_by b false false m k = (other b (λ e. let t : is_ascii_control b ≡ true = rw e refl in cc), tt)

text_feedless : (text : List ℕ) → IsFeedless (flat_map quoted_byte text)
text_feedless [] = tt
text_feedless (b ∷ text) = joined (quoted_byte b) (flat_map quoted_byte text) (byte_by b (is_mark b) (is_ascii_control b) refl refl) (text_feedless text)

pub text_form_feedless : (bytes : List ℕ) → IsFeedless (text_form bytes)
text_form_feedless bytes =
    of_either (is_utf8 bytes) (quoted bytes) (codes "x:" ++ encode_lower bytes)
    (refl, joined (flat_map quoted_byte bytes) (34 ∷ []) (text_feedless bytes) (refl, tt))
    (refl, (refl, hex_feedless bytes))

-- ---- values

truth_feedless : (truth : Bool) → IsFeedless (truth_form truth)
truth_feedless true = tested (codes "true") refl
truth_feedless false = tested (codes "false") refl

both : (name bytes : List ℕ) → list_all (λ b. not (is_feed b)) name ≡ true → IsFeedless bytes → IsFeedless (name ++ 32 ∷ bytes)
both name bytes e h = joined name (32 ∷ bytes) (tested name e) (refl, h)

pub value_form_feedless : (value : Value) → IsWritable value → IsFeedless (value_form value)
value_form_feedless (OfText text) fits = both (codes "string") (text_form text) refl (text_form_feedless text)
value_form_feedless (OfFloat bytes) fits = both (codes "float") (encode_lower bytes) refl (hex_feedless bytes)
value_form_feedless (OfDouble bytes) fits = both (codes "double") (encode_lower bytes) refl (hex_feedless bytes)
value_form_feedless (OfInt number) fits = both (codes "int") _ refl (signed_all (λ b. eqb b 10 ≡ false) refl digit_feedless number fits)
value_form_feedless (OfUint number) fits = both (codes "uint") _ refl (decimal_all (λ b. eqb b 10 ≡ false) digit_feedless number fits)
value_form_feedless (OfSint number) fits = both (codes "sint") _ refl (signed_all (λ b. eqb b 10 ≡ false) refl digit_feedless number fits)
value_form_feedless (OfBool truth) fits = both (codes "bool") (truth_form truth) refl (truth_feedless truth)

pub raw_form_feedless : (bytes : List ℕ) → IsFeedless (raw_form bytes)
raw_form_feedless [] = tested (codes "raw") refl
raw_form_feedless (b ∷ bytes) = joined (codes "raw ") (encode_lower (b ∷ bytes)) (tested (codes "raw ") refl) (hex_feedless (b ∷ bytes))

-- ---- geometries

pub placed_fits : (z : ℤ) → unsigned_abs z ≤ 2 ^ 62 → FitsSigned w64 z
placed_fits (pos n) le = omega (arith, le)
placed_fits (negsuc n) le = omega (arith, le)

signed_feedless : (z : ℤ) → unsigned_abs z ≤ 2 ^ 62 → IsFeedless (signed_decimal z)
signed_feedless z le = signed_all (λ b. eqb b 10 ≡ false) refl digit_feedless z (placed_fits z le)

point_feedless : (p : Point) → IsPlaced p → IsFeedless (point_form p)
point_feedless p placed = joined (signed_decimal p.x) (44 ∷ signed_decimal p.y) (signed_feedless p.x placed.x) (refl, signed_feedless p.y placed.y)

pub kind_feedless : (kind : Kind) → IsFeedless (kind_word kind)
kind_feedless Dots = tested (codes "point") refl
kind_feedless Lines = tested (codes "line") refl
kind_feedless Areas = tested (codes "polygon") refl

spaced_feedless : (words : List (List ℕ)) → AllByRecursion IsFeedless words → IsFeedless (with_leading_spaces words)
spaced_feedless [] h = tt
spaced_feedless (word ∷ words) h = joined (codes " " ++ word) (with_leading_spaces words) (refl, h.0) (spaced_feedless words h.1)

pub geometry_form_feedless : (g : Geometry) → IsGeometry g → IsFeedless (geometry_form g)
geometry_form_feedless g valid =
    let points : AllByRecursion (AllByRecursion (λ p. IsFeedless (point_form p))) g.parts =
    all_by (IsPart g.kind) (AllByRecursion (λ p. IsFeedless (point_form p))) (λ part h. all_by IsPlaced (λ p. IsFeedless (point_form p)) point_feedless part h.placed) g.parts valid.parts in
    joined (kind_word g.kind) (with_leading_spaces (part_words g.parts)) (kind_feedless g.kind) (spaced_feedless (part_words g.parts) (words_all IsFeedless (tested (codes "/") refl) g.parts points))
