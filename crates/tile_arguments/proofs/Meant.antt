-- What words of some shapes mean.
use Rattle.std.proofs.Common.{◌≡◌, ℕ, true, false, eqb, List, [], ◌∷◌, ◌++◌, Option, None, Ok, refl, ap, ◌∙◌, arith}
use Rattle.std.specs.Prelude.{codes}
use Rattle.std.specs.Char.{is_ascii_digit}
use Rattle.std.specs.Str.Parse.{digits_value}
use Rattle.std.proofs.lemmas.Bool.Decides.{nat_tests}
use Rattle.mvt_meaning.specs.Command.{AtOrdinal, Named, FeatureAtOrdinal, WithId}
use Rattle.tile_lines.specs.Words.{Bare, Quoted}
use Rattle.tile_arguments.specs.Arguments.{after_mark, is_number, text_in, text_of, layer_of, feature_by, feature_of}
use Rattle.tile_arguments.proofs.Digits.{is_number_parts, digit_among, number_is}

pub text_quoted : (text : List ℕ) → text_of (Quoted text) ≡ Ok text
unfolding text_of text_in
text_quoted text = refl

pub layer_named : (name : List ℕ) → layer_of (Quoted name) ≡ Ok (Named name)
unfolding layer_of text_of text_in
layer_named name = refl

pub layer_at : (digits : List ℕ) → is_number digits ≡ true → layer_of (Bare (codes "#" ++ digits)) ≡ Ok (AtOrdinal (digits_value 10 digits))
unfolding layer_of
layer_at digits number = rw (number_is digits number) refl

pub feature_with_id : (digits : List ℕ) → is_number digits ≡ true → feature_of (Bare (codes "@" ++ digits)) ≡ Ok (WithId (digits_value 10 digits))
unfolding feature_of
feature_with_id digits number = rw (number_is digits number) refl

-- a number begins with a digit, and so not with a mark
no_mark : (digits : List ℕ) → is_number digits ≡ true → after_mark (codes "@") digits ≡ None
no_mark [] number = refl
no_mark (b ∷ digits) number =
    let digit : is_ascii_digit b ≡ true = digit_among (b ∷ digits) 0 (omega arith) (is_number_parts (b ∷ digits) number).1 in
    let other : eqb 64 b ≡ false = grind (arith, nat_tests) in
    rw other refl

pub feature_at : (digits : List ℕ) → is_number digits ≡ true → feature_of (Bare digits) ≡ Ok (FeatureAtOrdinal (digits_value 10 digits))
unfolding feature_of
feature_at digits number =
    ap (λ (marked : Option (List ℕ)). feature_by marked digits) (no_mark digits number) ∙ rw (number_is digits number) refl
