-- Forms are read as what they were written for.
use Rattle.std.proofs.Common.{◌≡◌, ℕ, ◌+◌, ◌-◌, ◌<◌, ◌^◌, inl, inr, Bool, true, false, cond, not, List, [], ◌∷◌, ◌++◌, length, Option, Some, Result, Ok, refl, sym, ap, arith, ℤ, pos, negsuc}
use Rattle.std.specs.Prelude.{decimal, codes, option_map, ok_or, FitsSigned, slice_index}
use Rattle.std.specs.Int.{w64}
use Rattle.std.specs.Fmt.{signed_decimal}
use Rattle.std.specs.List.{list_all}
use Rattle.std.specs.Result.{result_ok}
use Rattle.std.specs.Str.{is_utf8}
use Rattle.std.proofs.lemmas.Bool.{cases_lt}
use Rattle.std.proofs.lemmas.Bool.Decides.{nat_tests}
use Rattle.std.proofs.lemmas.Fmt.{decimal_nonempty}
use Rattle.std.proofs.lemmas.List.{get_or_past, append-nil}
use Rattle.hex.specs.Hex.{encode_lower, lower_digits, IsBytes}
use Rattle.hex.specs.declared.error.FromHexError.{FromHexError}
use Rattle.hex.proofs.HexLemmas.{decode_of-encode_lower, decode_sized-encode_lower, length-encode_with}
use Rattle.mvt_value.specs.Values.{Value, OfText, OfFloat, OfDouble, OfInt, OfUint, OfSint, OfBool}
use Rattle.mvt_value.specs.Messages.{IsWritable}
use Rattle.tile_lines.specs.Words.{Word, Bare, Quoted, ends_bare}
use Rattle.tile_lines.specs.Spelling.{SpellsWord, SpellsWords}
use Rattle.tile_lines.specs.declared.parse_error.ParseError.TheVariants.{BadArguments, BadValue}
use Rattle.tile_arguments.specs.Arguments.{integer_of, bytes_in, text_in, text_of, pairs_in, bare_value, value_in, value_of}
use Rattle.tile_text.specs.Texts.{quoted, text_form, truth_form, value_words}
use Rattle.tile_text.specs.ReadBack.{AreBytes, HoldsBytes, IsReadAsText, IsReadAsValue}
use Rattle.tile_text.proofs.Digits.{decimal_all, signed_all, hex_all}
use Rattle.tile_text.proofs.Lists.{none_passes}
use Rattle.tile_text.proofs.Readable.{text_form_readable, value_form_readable}
use Rattle.tile_text.proofs.Numerals.{Lies, number_reads, signed_reads}
use Rattle.tile_text.proofs.Spelled.{quoted_spelled, hex_text_spelled, hex_is_bare}

-- ---- texts

each_is_byte : (bytes : List ℕ) → AreBytes bytes → IsBytes bytes
each_is_byte bytes h i =
    elim (cases_lt i (length bytes)) [
      | inl lt ↦ h i 0 lt
      | inr le ↦
          let past : slice_index bytes i ≡ 0 = get_or_past bytes i 0 le in
          omega (arith, past)
    ]

hex_read : (bytes : List ℕ) → AreBytes bytes → text_in (Bare (codes "x:" ++ encode_lower bytes)) ≡ Some bytes
unfolding text_in bytes_in
hex_read bytes h = ap (λ (r : Result (List ℕ) FromHexError). result_ok r) (decode_of-encode_lower bytes (each_is_byte bytes h))

quoted_read : (bytes : List ℕ) → text_in (Quoted bytes) ≡ Some bytes
unfolding text_in
quoted_read bytes = refl

-- a form is a word that says these bytes
record Says (form bytes : List ℕ) : Type 0 where
  word : Word
  spelled : SpellsWord form word
  read : text_in word ≡ Some bytes

says_by : (utf8 : Bool) (bytes : List ℕ) → AreBytes bytes → Says (cond utf8 (quoted bytes) (codes "x:" ++ encode_lower bytes)) bytes
says_by true bytes h = record { word = Quoted bytes; spelled = quoted_spelled bytes; read = quoted_read bytes }
says_by false bytes h = record { word = Bare (codes "x:" ++ encode_lower bytes); spelled = hex_text_spelled bytes; read = hex_read bytes h }

text_says : (bytes : List ℕ) → AreBytes bytes → Says (text_form bytes) bytes
text_says bytes h = says_by (is_utf8 bytes) bytes h

text_of_read : (word : Word) (bytes : List ℕ) → text_in word ≡ Some bytes → text_of word ≡ Ok bytes
unfolding text_of
text_of_read word bytes e = ap (λ (o : Option (List ℕ)). ok_or o BadArguments) e

pub text_read_back : (bytes : List ℕ) → AreBytes bytes → IsReadAsText bytes
text_read_back bytes h =
    let says = text_says bytes h in
    record { readable = text_form_readable bytes; word = says.word; spelled = says.spelled; read = text_of_read says.word bytes says.read }

-- ---- bare words

-- no byte ends a bare word
abbrev pub bare_test : List ℕ → Bool
bare_test bytes = list_all (λ b. not (ends_bare b)) bytes

pub bare_spelled : (bytes : List ℕ) → 0 < length bytes → bare_test bytes ≡ true → SpellsWord bytes (Bare bytes)
bare_spelled bytes lt e = (refl, lt, none_passes ends_bare bytes e)

pub digit_is_bare : (d : ℕ) → d < 10 → ends_bare (48 + d) ≡ false
digit_is_bare d lt = grind (arith, nat_tests)

decimal_spelled : (n : ℕ) → n < 2 ^ 64 → SpellsWord (decimal n) (Bare (decimal n))
decimal_spelled n fits = (refl, decimal_nonempty n fits, decimal_all (λ b. ends_bare b ≡ false) digit_is_bare n fits)

pub signed_long : (z : ℤ) → FitsSigned w64 z → 0 < length (signed_decimal z)
signed_long (pos n) fits = decimal_nonempty n (omega (arith, fits))
signed_long (negsuc n) fits = omega arith

pub signed_spelled : (z : ℤ) → FitsSigned w64 z → SpellsWord (signed_decimal z) (Bare (signed_decimal z))
signed_spelled z fits = (refl, signed_long z fits, signed_all (λ b. ends_bare b ≡ false) refl digit_is_bare z fits)

hex_spelled : (bytes : List ℕ) → 0 < length bytes → SpellsWord (encode_lower bytes) (Bare (encode_lower bytes))
hex_spelled bytes some = (refl, omega (arith, length-encode_with lower_digits bytes), hex_all (λ b. ends_bare b ≡ false) hex_is_bare bytes)

-- ---- words on a line

two_words : (one other : List ℕ) (first second : Word) → SpellsWord one first → SpellsWord other second → SpellsWords (one ++ 32 ∷ other) (first ∷ second ∷ [])
two_words one other first second h k =
    ([], one, 32 ∷ other, refl, tt, h, refl, (32 ∷ [], other, [], ap (λ (xs : List ℕ). 32 ∷ xs) (sym (append-nil other)), (refl, tt), k, refl, tt))

-- ---- values

lies_64 : (z : ℤ) → FitsSigned w64 z → Lies (2 ^ 63) (2 ^ 63 - 1) z
lies_64 (pos n) fits = omega (arith, fits)
lies_64 (negsuc n) fits = omega (arith, fits)

integer_reads : (z : ℤ) → FitsSigned w64 z → integer_of (signed_decimal z) ≡ Some z
integer_reads z fits = signed_reads (2 ^ 63) (2 ^ 63 - 1) z (omega arith) (omega arith) (lies_64 z fits)

pairs_read : (bytes : List ℕ) (n : ℕ) → length bytes ≡ n → AreBytes bytes → pairs_in n (encode_lower bytes) ≡ Some bytes
unfolding pairs_in
pairs_read bytes n len h = ap (λ (r : Result (List ℕ) FromHexError). result_ok r) (decode_sized-encode_lower bytes n len (each_is_byte bytes h))

text_value : (word : Word) (text : List ℕ) → text_in word ≡ Some text → value_of (Bare (codes "string")) word ≡ Ok (OfText text)
unfolding value_of value_in
text_value word text e = ap (λ (o : Option (List ℕ)). ok_or (option_map OfText o) BadValue) e

float_value : (bytes : List ℕ) → length bytes ≡ 4 → AreBytes bytes → value_of (Bare (codes "float")) (Bare (encode_lower bytes)) ≡ Ok (OfFloat bytes)
unfolding value_of value_in bare_value
float_value bytes len h = ap (λ (o : Option (List ℕ)). ok_or (option_map OfFloat o) BadValue) (pairs_read bytes 4 len h)

double_value : (bytes : List ℕ) → length bytes ≡ 8 → AreBytes bytes → value_of (Bare (codes "double")) (Bare (encode_lower bytes)) ≡ Ok (OfDouble bytes)
unfolding value_of value_in bare_value
double_value bytes len h = ap (λ (o : Option (List ℕ)). ok_or (option_map OfDouble o) BadValue) (pairs_read bytes 8 len h)

int_value : (z : ℤ) → FitsSigned w64 z → value_of (Bare (codes "int")) (Bare (signed_decimal z)) ≡ Ok (OfInt z)
unfolding value_of value_in bare_value
int_value z fits = ap (λ (o : Option ℤ). ok_or (option_map OfInt o) BadValue) (integer_reads z fits)

uint_value : (n : ℕ) → n < 2 ^ 64 → value_of (Bare (codes "uint")) (Bare (decimal n)) ≡ Ok (OfUint n)
unfolding value_of value_in bare_value
uint_value n fits = rw (number_reads n fits) refl

sint_value : (z : ℤ) → FitsSigned w64 z → value_of (Bare (codes "sint")) (Bare (signed_decimal z)) ≡ Ok (OfSint z)
unfolding value_of value_in bare_value
sint_value z fits = ap (λ (o : Option ℤ). ok_or (option_map OfSint o) BadValue) (integer_reads z fits)

truth_value : (truth : Bool) → value_of (Bare (codes "bool")) (Bare (truth_form truth)) ≡ Ok (OfBool truth)
unfolding value_of value_in bare_value
truth_value true = refl
truth_value false = refl

truth_spelled : (truth : Bool) → SpellsWord (truth_form truth) (Bare (truth_form truth))
truth_spelled true = bare_spelled (codes "true") (omega arith) refl
truth_spelled false = bare_spelled (codes "false") (omega arith) refl

reads_as : (value : Value) (name : List ℕ) (argument : Word) → IsWritable value → (value_words value).0 ≡ name → 0 < length name → bare_test name ≡ true → SpellsWord (value_words value).1 argument → value_of (Bare name) argument ≡ Ok value → IsReadAsValue value
reads_as value name argument fits e lt bare spelled read =
    let first : SpellsWord (value_words value).0 (Bare name) = rw e (bare_spelled name lt bare) in
    record { readable = value_form_readable value fits; name = Bare name; argument = argument; name_spelled = first; argument_spelled = spelled; line = two_words _ _ (Bare name) argument first spelled; read = read }

pub value_read_back : (value : Value) → IsWritable value → HoldsBytes value → IsReadAsValue value
value_read_back (OfText text) fits h =
    let says = text_says text h in
    reads_as (OfText text) (codes "string") says.word fits refl (omega arith) refl says.spelled (text_value says.word text says.read)
value_read_back (OfFloat bytes) fits h = reads_as (OfFloat bytes) (codes "float") _ fits refl (omega arith) refl (hex_spelled bytes (omega arith)) (float_value bytes fits h)
value_read_back (OfDouble bytes) fits h = reads_as (OfDouble bytes) (codes "double") _ fits refl (omega arith) refl (hex_spelled bytes (omega arith)) (double_value bytes fits h)
value_read_back (OfInt z) fits h = reads_as (OfInt z) (codes "int") _ fits refl (omega arith) refl (signed_spelled z fits) (int_value z fits)
value_read_back (OfUint n) fits h = reads_as (OfUint n) (codes "uint") _ fits refl (omega arith) refl (decimal_spelled n fits) (uint_value n fits)
value_read_back (OfSint z) fits h = reads_as (OfSint z) (codes "sint") _ fits refl (omega arith) refl (signed_spelled z fits) (sint_value z fits)
value_read_back (OfBool truth) fits h = reads_as (OfBool truth) (codes "bool") _ fits refl (omega arith) refl (truth_spelled truth) (truth_value truth)
