-- Lines that ask for nothing, and lines that ask for something.
use Rattle.std.proofs.Common.{◌≡◌, ℕ, false, true, ltb, List, length, [], ◌∷◌, ◌≤◌, Option, Some, None, IsSomeAnd, ok_or, Result, Ok, Err, refl, arith}
use Rattle.std.specs.Str.{is_utf8}
use Rattle.std.proofs.lemmas.Bool.{le-ltb}
use Rattle.std.proofs.lemmas.Str.{is_utf8-from_IsUtf8}
use Rattle.tile_lines.specs.Answers.{◌>>=◌}
use Rattle.tile_lines.specs.Words.{Word, IsLoneWord, words_of}
use Rattle.tile_script.specs.Line.{request_in, answer_to, IsAsking, HasSeveralWords}
use Rattle.tile_lines.specs.declared.TheConstants.{LINE_LIMIT}
use Rattle.tile_lines.specs.declared.parse_error.ParseError.{ParseError}
use Rattle.tile_lines.specs.declared.parse_error.ParseError.TheVariants.{BadWord}

-- a line of words is not such a line
pub asks_something : {A P : Type 0} (r : Result A ParseError) → (r >>= λ x. Ok (Some x)) ≡ Ok None → P
asks_something (Ok x) e = absurd cc
asks_something (Err error) e = absurd cc

-- a line that asks for something is read as words
pub answer_to-words : (line : List ℕ) → IsAsking line → answer_to line ≡ (request_in line >>= λ request. Ok (Some request))
unfolding answer_to
answer_to-words line (readable, other) =
    let short : ltb LINE_LIMIT (length line) ≡ false = le-ltb _ _ readable.0 in
    let text : is_utf8 line ≡ true = is_utf8-from_IsUtf8 line readable.1 in
    rw (short, text, other) refl

-- a line of words that is not a single word has several
pub not_alone : (line : List ℕ) → IsSomeAnd (words_of line) (λ words. 1 ≤ length words) → ¬ IsLoneWord line → HasSeveralWords line
not_alone line some other = others (words_of line) some (λ lone. other lone)
  where
    others : (words : Option (List Word)) → IsSomeAnd words (λ words. 1 ≤ length words) → ¬ ((word : Word) × (words ≡ Some (word ∷ []))) → IsSomeAnd words (λ words. 2 ≤ length words)
    others None some other = some
    others (Some []) some other = absurd (omega (arith, some))
    others (Some (word ∷ [])) some other = absurd (other (word, refl))
    others (Some (word ∷ next ∷ words)) some other = omega arith

-- a line that was read as several words has them
pub several_read : (line : List ℕ) (read : List Word) → ok_or (words_of line) BadWord ≡ Ok read → 2 ≤ length read → HasSeveralWords line
several_read line read e several = found (words_of line) e
  where
    found : (words : Option (List Word)) → ok_or words BadWord ≡ Ok read → IsSomeAnd words (λ words. 2 ≤ length words)
    found None e = absurd cc
    found (Some words) e =
        let same : words ≡ read = cc in
        rw same several
