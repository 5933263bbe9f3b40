-- The words of a line. Blanks separate them: spaces, tabs and carriage returns.
use Rattle.std.specs.Prelude.{◌≡◌, ℕ, zero, suc, ◌+◌, ◌*◌, Bool, true, ◌&&◌, ◌||◌, not, List, [], ◌∷◌, length, drop, Option, Some, None, option_map, ◌==◌, nat_lt, if◌then◌else◌}
use Rattle.std.specs.Option.{option_map_or}
use Rattle.std.specs.List.{position_or_len, before_first}
use Rattle.std.specs.Char.{digit_value}

-- a word: a bare one, which is its bytes, or the text between quotes
pub data Word : Type 0 where
  Bare : (bytes : List ℕ) → Word
  Quoted : (text : List ℕ) → Word

-- the byte is a space, a tab or a carriage return
abbrev pub is_blank : ℕ → Bool
is_blank b = (b == 32 || b == 9) || b == 13

-- a bare word ends before this byte: a blank or a quote
abbrev pub ends_bare : ℕ → Bool
ends_bare b = is_blank b || b == 34

-- the bytes after the blanks at the beginning
abbrev pub after_blanks : List ℕ → List ℕ
after_blanks bytes = drop (position_or_len (λ b. not (is_blank b)) bytes) bytes

-- a word may end before these bytes: they are empty or begin with a blank
abbrev pub ends_word : List ℕ → Bool
ends_word [] = true
ends_word (b ∷ more) = is_blank b

-- one more item before those that were taken
abbrev pub onto : {A : Type 0} → A → List A × List ℕ → List A × List ℕ
onto x taken = (x ∷ taken.0, taken.1)

-- what a step takes from the beginning of the bytes, at most a number of times, and the bytes that it leaves
unfoldable pub repeated : {A : Type 0} → (List ℕ → Option (A × List ℕ)) → ℕ → List ℕ → List A × List ℕ
repeated step zero bytes = ([], bytes)
repeated step (suc n) bytes = option_map_or (λ found. onto found.0 (repeated step n found.1)) (step bytes) ([], bytes)

-- what a step, which takes at least one byte each time, takes from the beginning of the bytes, as often as it takes
-- something, and the bytes that it leaves
abbrev pub taken : {A : Type 0} → (List ℕ → Option (A × List ℕ)) → List ℕ → List A × List ℕ
taken step bytes = repeated step (length bytes) bytes

-- the byte of two hexadecimal digits of either case, up to 7f
abbrev pub hex_byte : ℕ → ℕ → Option ℕ
hex_byte high low = if nat_lt (digit_value high) 8 && nat_lt (digit_value low) 16 then Some (16 * digit_value high + digit_value low) else None

-- the byte of two hexadecimal digits at the beginning, and what follows them
abbrev pub hex_at : List ℕ → Option (ℕ × List ℕ)
hex_at (high ∷ low ∷ more) = option_map (λ b. (b, more)) (hex_byte high low)
hex_at bytes = None

-- the byte after a backslash: `x` and two digits, a quote or a backslash; and what follows
abbrev pub escape_at : List ℕ → Option (ℕ × List ℕ)
escape_at [] = None
escape_at (b ∷ more) = if b == 120 then hex_at more else (if b == 34 || b == 92 then Some (b, more) else None)

-- a byte of a quoted text, by itself or by an escape, and what follows it; none at the closing quote
unfoldable pub byte_at : List ℕ → Option (ℕ × List ℕ)
byte_at [] = None
byte_at (b ∷ more) = if b == 92 then escape_at more else (if b == 34 then None else Some (b, more))

-- the text after an opening quote, and what follows it
abbrev pub text_at : List ℕ → List ℕ × List ℕ
text_at bytes = taken byte_at bytes

-- a quoted word of this text, where the closing quote follows and a word may end after it; and what follows that
abbrev pub closed_word : List ℕ → List ℕ → Option (Word × List ℕ)
closed_word text [] = None
closed_word text (b ∷ more) = if b == 34 && ends_word more then Some (Quoted text, more) else None

-- the quoted word after its opening quote, and what follows it
abbrev pub quoted_at : List ℕ → Option (Word × List ℕ)
quoted_at bytes = closed_word (text_at bytes).0 (text_at bytes).1

-- a bare word of these bytes, where a word may end before the rest
abbrev pub bare_before : List ℕ → List ℕ → Option (Word × List ℕ)
bare_before name rest = if ends_word rest then Some (Bare name, rest) else None

-- the bare word at the beginning, which goes up to the first blank or quote, and what follows it
abbrev pub bare_at : List ℕ → Option (Word × List ℕ)
bare_at bytes = bare_before (before_first ends_bare bytes) (drop (position_or_len ends_bare bytes) bytes)

-- the word at the beginning, and what follows it
abbrev pub first_word : List ℕ → Option (Word × List ℕ)
first_word [] = None
first_word (b ∷ more) = if b == 34 then quoted_at more else bare_at (b ∷ more)

-- the word after the blanks at the beginning, and what follows it; none where there is none, or where what is there is
-- not a word
unfoldable pub word_at : List ℕ → Option (Word × List ℕ)
word_at bytes = first_word (after_blanks bytes)

-- the words that were found, where only blanks are left
abbrev pub all_found : List Word × List ℕ → Option (List Word)
all_found found = if length (after_blanks found.1) == 0 then Some found.0 else None

-- the words of a line, or none where something in it is not a word
unfoldable pub words_of : List ℕ → Option (List Word)
words_of line = all_found (taken word_at line)

-- the line is a single word
abbrev pub IsLoneWord : List ℕ → Type 0
IsLoneWord line = (word : Word) × (words_of line ≡ Some (word ∷ []))
