-- Lines of a single word.
use Rattle.std.proofs.Common.{◌≡◌, ℕ, List, [], ◌∷◌, Some, eqb, length, true}
use Rattle.tile_lines.specs.Words.{Word, after_blanks, word_at, words_of}
use Rattle.tile_lines.proofs.Again.{words_only, next_again, blanks_end}
use Rattle.tile_lines.proofs.Found.{words_found, word_spelled, left_blank}

-- nothing but blanks follows the first word
pub lone_found : (line : List ℕ) (word : Word) (rest : List ℕ) → word_at line ≡ Some (word, rest) → eqb (length (after_blanks rest)) 0 ≡ true → words_of line ≡ Some (word ∷ [])
lone_found line word rest read blank = words_only line (word ∷ []) (word_spelled line word rest [] read (left_blank rest blank))

-- nor the one word of a line
pub lone_rest : (line : List ℕ) (word : Word) → words_of line ≡ Some (word ∷ []) → (rest : List ℕ) × (word_at line ≡ Some (word, rest)) × (after_blanks rest ≡ [])
lone_rest line word only =
    let s = words_found line (word ∷ []) only in
    (s.2, next_again line s.0 s.1 s.2 word s.3 s.4 s.5 s.6, blanks_end s.2 s.7)
