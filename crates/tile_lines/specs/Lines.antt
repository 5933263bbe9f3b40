-- The lines of a script.
use Rattle.std.specs.Prelude.{◌≡◌, ◌⊎◌, ℕ, ◌<◌, Bool, false, List, [], ◌∷◌, ◌++◌, length, ◌==◌}
use Rattle.std.specs.List.{slice_split, AllByRecursion}

-- the bytes after the last line feed: a line, if there are any
abbrev pub last_line : List ℕ → List (List ℕ)
last_line [] = []
last_line (b ∷ line) = (b ∷ line) ∷ []

-- the parts between line feeds, without a last one that is empty
abbrev pub without_empty_end : List (List ℕ) → List (List ℕ)
without_empty_end [] = []
without_empty_end (line ∷ []) = last_line line
without_empty_end (line ∷ next ∷ more) = line ∷ without_empty_end (next ∷ more)

-- the byte is a line feed
abbrev pub is_line_feed : ℕ → Bool
is_line_feed b = b == 10

-- the lines of a script: what comes before each line feed, and what comes after the last one, if there are bytes
unfoldable pub lines_of : List ℕ → List (List ℕ)
lines_of script = without_empty_end (slice_split is_line_feed script)

-- the list without its last item
abbrev pub without_last : List (List ℕ) → List (List ℕ)
without_last [] = []
without_last (line ∷ []) = []
without_last (line ∷ next ∷ more) = line ∷ without_last (next ∷ more)

-- the lines that end with a line feed
abbrev pub whole_lines : List ℕ → List (List ℕ)
whole_lines text = without_last (slice_split is_line_feed text)

-- no byte of the line is a line feed
abbrev pub HasNoLineFeed : List ℕ → Type 0
HasNoLineFeed line = AllByRecursion (λ b. is_line_feed b ≡ false) line

-- the bytes with a line feed after them
abbrev pub with_feed : List ℕ → List ℕ
with_feed text = text ++ 10 ∷ []

-- the bytes are empty or end with a line feed
abbrev pub EndsWithALine : List ℕ → Type 0
EndsWithALine front = (front ≡ []) ⊎ ((text : List ℕ) × (front ≡ with_feed text))

-- the lines make up the script: each with a line feed after it, which only a last line that is not empty may lack, and
-- no line feed within a line
abbrev pub SpellsLines : List ℕ → List (List ℕ) → Type 0
SpellsLines script [] = script ≡ []
SpellsLines script (line ∷ lines) = HasNoLineFeed line × (((rest : List ℕ) × (script ≡ line ++ 10 ∷ rest) × SpellsLines rest lines) ⊎ ((script ≡ line) × (0 < length line) × (lines ≡ [])))
