-- How words are spelled: the grammar of a line, apart from how it is read.
use Rattle.std.specs.Prelude.{◌≡◌, ◌≢◌, ℕ, ◌+◌, ◌*◌, ◌<◌, ◌⊎◌, true, false, List, [], ◌∷◌, ◌++◌, length}
use Rattle.std.specs.List.{AllByRecursion}
use Rattle.std.specs.Char.{digit_value}
use Rattle.tile_lines.specs.Words.{Word, Bare, Quoted, is_blank, ends_bare, ends_word}

-- how a byte of a quoted text is spelled: by itself, where it is neither a quote nor a backslash; these two after a
-- backslash; a byte up to 7f also as `\x` and two hexadecimal digits of either case
abbrev pub SpellsByte : List ℕ → ℕ → Type 0
SpellsByte [] c = ⊥
SpellsByte (b ∷ []) c = (b ≡ c) × (c ≢ 34) × (c ≢ 92)
SpellsByte (b ∷ e ∷ []) c = (b ≡ 92) × (e ≡ c) × ((c ≡ 34) ⊎ (c ≡ 92))
SpellsByte (b ∷ x ∷ high ∷ []) c = ⊥
SpellsByte (b ∷ x ∷ high ∷ low ∷ []) c = (b ≡ 92) × (x ≡ 120) × (digit_value high < 8) × (digit_value low < 16) × (c ≡ 16 * digit_value high + digit_value low)
SpellsByte (b ∷ x ∷ high ∷ low ∷ more ∷ others) c = ⊥

-- how a text between quotes is spelled: byte by byte
abbrev pub SpellsText : List ℕ → List ℕ → Type 0
SpellsText bytes [] = bytes ≡ []
SpellsText bytes (c ∷ text) = (first : List ℕ) × (more : List ℕ) × (bytes ≡ first ++ more) × SpellsByte first c × SpellsText more text

-- how a word is spelled: a bare word by itself, with no blank and no quote and not empty; a text between two quotes
abbrev pub SpellsWord : List ℕ → Word → Type 0
SpellsWord bytes (Bare name) = (bytes ≡ name) × (0 < length name) × AllByRecursion (λ b. ends_bare b ≡ false) name
SpellsWord bytes (Quoted text) = (inner : List ℕ) × (bytes ≡ 34 ∷ (inner ++ 34 ∷ [])) × SpellsText inner text

-- the bytes are only blanks
abbrev pub AreBlanks : List ℕ → Type 0
AreBlanks bytes = AllByRecursion (λ b. is_blank b ≡ true) bytes

-- how a line is spelled: its words, with any blanks before and after them, and at least one blank between them
abbrev pub SpellsWords : List ℕ → List Word → Type 0
SpellsWords line [] = AreBlanks line
SpellsWords line (word ∷ words) = (gap : List ℕ) × (spelled : List ℕ) × (rest : List ℕ) × (line ≡ gap ++ (spelled ++ rest)) × AreBlanks gap × SpellsWord spelled word × (ends_word rest ≡ true) × SpellsWords rest words
