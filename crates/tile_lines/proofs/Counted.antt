-- How many words a line has, and which they are.
use Rattle.std.proofs.Common.{◌≡◌, ℕ, ◌≤◌, Bool, true, false, cond, eqb, List, length, Option, Some, None, IsSomeAnd, Ok, option_map, ok_or, refl, sym, ap, ◌∙◌, arith}
use Rattle.std.specs.Bool.{then_some}
use Rattle.tile_lines.specs.Words.{Word, after_blanks, word_at, taken, all_found, words_of}
use Rattle.tile_lines.proofs.Repeats.{following, one_taken}
use Rattle.tile_lines.proofs.Short.{word_short}
use Rattle.tile_lines.specs.declared.parse_error.ParseError.TheVariants.{BadWord}

all_when : (blank : Bool) (words : List Word) (count : ℕ) → Some count ≡ option_map length (cond blank (Some words) None) → ok_or (cond blank (Some words) None) BadWord ≡ Ok words
all_when true words count e = refl
all_when false words count e = absurd cc

-- the words of a line are those that were found, where there is a number of them
pub found_words : (line : List ℕ) (words : List Word) (rest : List ℕ) (count : ℕ) → Some count ≡ option_map length (words_of line) → taken word_at line ≡ (words, rest) → ok_or (words_of line) BadWord ≡ Ok words
unfolding words_of
found_words line words rest count e found =
    ap (λ (t : List Word × List ℕ). ok_or (all_found t) BadWord) found
    ∙ all_when (eqb (length (after_blanks rest)) 0) words count (e ∙ ap (λ (t : List Word × List ℕ). option_map length (all_found t)) found)

-- the number of the words that were found, where only blanks are left
count_found : (blank : Bool) (words : List Word) → then_some blank (length words) ≡ option_map length (cond blank (Some words) None)
count_found true words = refl
count_found false words = refl

-- the number of the words of a line, where this many were found before these bytes
pub number_found : (line rest : List ℕ) (count : ℕ) (blank : Bool) → (taken word_at line).1 ≡ rest → count ≡ length (taken word_at line).0 → blank ≡ eqb (length (after_blanks rest)) 0 → then_some blank count ≡ option_map length (words_of line)
unfolding words_of
number_found line rest count blank left is e =
    let ends = eqb (length (after_blanks (taken word_at line).1)) 0 in
    ap (λ (b : Bool). then_some b count) (e ∙ ap (λ (bytes : List ℕ). eqb (length (after_blanks bytes)) 0) (sym left))
    ∙ ap (λ (n : ℕ). then_some ends n) is
    ∙ count_found ends (taken word_at line).0

-- ---- a line has words

-- its words are counted, and there are some
pub some_counted : (words : Option (List Word)) (count : ℕ) → Some count ≡ option_map length words → 1 ≤ count → IsSomeAnd words (λ words. 1 ≤ length words)
some_counted None count e some = absurd cc
some_counted (Some words) count e some =
    let is : count ≡ length words = cc in
    omega (arith, is, some)

-- one of them is found after others
pub one_found : (line rest after : List ℕ) (front : List Word) (word : Word) (count : ℕ) → Some count ≡ option_map length (words_of line) → word_at rest ≡ Some (word, after) → following front (taken word_at rest) ≡ taken word_at line → IsSomeAnd (words_of line) (λ words. 1 ≤ length words)
unfolding words_of
one_found line rest after front word count e step so_far =
    some_found (eqb (length (after_blanks (taken word_at line).1)) 0) (taken word_at line).0 e (one_taken word_at word_short front rest word after (taken word_at line) step so_far)
  where
    some_found : (blank : Bool) (words : List Word) → Some count ≡ option_map length (cond blank (Some words) None) → 1 ≤ length words → IsSomeAnd (cond blank (Some words) None) (λ words. 1 ≤ length words)
    some_found true words e some = some
    some_found false words e some = absurd cc
