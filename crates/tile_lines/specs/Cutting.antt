-- Cutting a script into its lines, byte by byte.
use Rattle.std.specs.Prelude.{ℕ, Bool, true, false, List, [], ◌∷◌, ◌++◌, length, Option, Some, None, nat_lt, if◌then◌else◌}
use Rattle.std.specs.List.{fold, cons_option}
use Rattle.tile_lines.specs.Lines.{is_line_feed}
use Rattle.tile_lines.specs.declared.TheConstants.{LINE_LIMIT}

-- a line cut from a script, or one that has more bytes than a line may have
pub data Cut : Type 0 where
  Whole : (line : List ℕ) → Cut
  TooLong : Cut

-- the line, or `TooLong` where it has more than 65,536 bytes
abbrev pub cut_of : List ℕ → Cut
cut_of line = if nat_lt LINE_LIMIT (length line) then TooLong else Whole line

-- what a cutter holds: its line so far, and whether a line feed has completed it
pub record Holding : Type 0 where
  pub cut : Cut
  pub is_complete : Bool

-- what a new cutter holds: a line of no bytes
abbrev pub nothing_held : Holding
nothing_held = record { cut = Whole []; is_complete = false }

-- the line that the next byte joins: the one held, or a new one where that is complete
abbrev pub line_to_join : Holding → Cut
line_to_join held = if held.is_complete then Whole [] else held.cut

-- a line with one more byte; one that is too long stays so
abbrev pub with_byte : Cut → ℕ → Cut
with_byte (Whole line) byte = cut_of (line ++ byte ∷ [])
with_byte TooLong byte = TooLong

-- what is held after one more byte: a line feed completes the line, and any other byte joins it; after a complete line
-- a new one begins
unfoldable pub pushed : Holding → ℕ → Holding
pushed held byte =
    if is_line_feed byte then record { cut = line_to_join held; is_complete = true }
    else record { cut = with_byte (line_to_join held) byte; is_complete = false }

-- the line held, where it is complete
abbrev pub complete_line : Holding → Option Cut
complete_line held = if held.is_complete then Some held.cut else None

-- the line, where it is not empty
abbrev pub some_bytes : Cut → Option Cut
some_bytes (Whole []) = None
some_bytes (Whole (b ∷ line)) = Some (Whole (b ∷ line))
some_bytes TooLong = Some TooLong

-- the line held, where it is not complete and not empty
abbrev pub rest_of : Holding → Option Cut
rest_of held = if held.is_complete then None else some_bytes held.cut

-- what is held after these bytes
abbrev pub after_pushes : Holding → List ℕ → Holding
after_pushes held bytes = fold pushed held bytes

-- the lines that these bytes complete, in order
abbrev pub cuts : Holding → List ℕ → List Cut
cuts held [] = []
cuts held (byte ∷ bytes) = cons_option (complete_line (pushed held byte)) (cuts (pushed held byte) bytes)
