-- What a line of a script asks for.
use Rattle.std.specs.Prelude.{◌≡◌, ℕ, ◌≤◌, Bool, true, false, not, List, [], ◌∷◌, ◌++◌, length, map, Option, Some, None, Result, Ok, Err, IsSomeAnd, ◌==◌, nat_lt, slice_get, if◌then◌else◌, codes, ok_or}
use Rattle.std.specs.Option.{option_map_or}
use Rattle.std.specs.Str.{is_utf8, IsUtf8}
use Rattle.tile_arguments.specs.Arguments.{text_of, layer_of}
use Rattle.mvt_meaning.specs.Requests.{HistoryRequest, Edit, Undo, Redo, SetMark, TakeMark, GoBack, Begin, End, Cancel}
use Rattle.tile_arguments.specs.Request.{Request, OnHistory, ListMarks, PrintHistory, Size, Lists, Whole, OneLayer, OneFeature}
use Rattle.tile_lines.specs.Words.{Word, Bare, after_blanks, words_of}
use Rattle.tile_lines.specs.Answers.{◌>>=◌}
use Rattle.tile_lines.specs.declared.TheConstants.{LINE_LIMIT}
use Rattle.tile_script.specs.Commands.{chosen_of, read_by, command_by}
use Rattle.tile_lines.specs.declared.parse_error.ParseError.{ParseError}
use Rattle.tile_lines.specs.declared.parse_error.ParseError.TheVariants.{LineTooLong, BadUtf8, BadWord, UnknownCommand, BadArguments}

-- the words that are a request by themselves, each with the request
abbrev pub requests_alone : List (List ℕ × Request)
requests_alone = (codes "undo", OnHistory Undo) ∷ (codes "redo", OnHistory Redo) ∷ (codes "marks", ListMarks) ∷ (codes "history", PrintHistory) ∷ (codes "begin", OnHistory Begin) ∷ (codes "end", OnHistory End) ∷ (codes "cancel", OnHistory Cancel) ∷ (codes "size", Size) ∷ []

-- the words that make a request with the name of a mark, each with the request of a name
abbrev pub requests_by_name : List (List ℕ × (List ℕ → HistoryRequest))
requests_by_name = (codes "mark", SetMark) ∷ (codes "unmark", TakeMark) ∷ (codes "back", GoBack) ∷ []

-- the request, where it has no arguments; else BadArguments
unfoldable pub alone_of : Request → List Word → Result Request ParseError
alone_of request [] = Ok request
alone_of request (more ∷ others) = Err BadArguments

-- the name that a single argument says; else BadArguments
unfoldable pub name_of : List Word → Result (List ℕ) ParseError
name_of (name ∷ []) = text_of name
name_of words = Err BadArguments

-- the listing with these arguments: none, a layer, or a layer and one of its features; or the first refusal
unfoldable pub list_of : List Word → Result Request ParseError
list_of [] = Ok (Lists Whole)
list_of (layer ∷ []) = do
  choice ← layer_of layer
  Ok (Lists (OneLayer choice))
list_of (layer ∷ feature ∷ []) = do
  chosen ← chosen_of layer feature
  Ok (Lists (OneFeature chosen.0 chosen.1))
list_of words = Err BadArguments

-- the requests that are not commands, each with its word and how its arguments are read
abbrev pub requests : List (List ℕ × (List Word → Result Request ParseError))
requests =
    map (λ word. (word.0, λ arguments. name_of arguments >>= λ name. Ok (OnHistory (word.1 name)))) requests_by_name
    ++ map (λ word. (word.0, alone_of word.1)) requests_alone
    ++ (codes "list", list_of) ∷ []

-- the request for the command that begins with this word, with its arguments; or the first refusal
abbrev pub edit_by : List ℕ → List Word → Result Request ParseError
edit_by name arguments = command_by name arguments >>= λ command. Ok (OnHistory (Edit command))

-- the request that begins with this word, with its arguments; or the first refusal
unfoldable pub request_by : List ℕ → List Word → Result Request ParseError
request_by name arguments = read_by requests (edit_by name arguments) name arguments

-- what the words of a line ask for, or the first refusal: the first word is bare and says which request it is
unfoldable pub asked_by : List Word → Result Request ParseError
asked_by (Bare name ∷ arguments) = request_by name arguments
asked_by words = Err UnknownCommand

-- a line that asks for nothing: after the blanks at its beginning there is nothing, or a `#` comes first
abbrev pub is_remark : List ℕ → Bool
is_remark line = option_map_or (λ byte. byte == 35) (slice_get (after_blanks line) 0) true

-- what a line of words asks for, or the first refusal
unfoldable pub request_in : List ℕ → Result Request ParseError
request_in line = ok_or (words_of line) BadWord >>= asked_by

-- what a line asks for: nothing, or a request; or the first of its refusals: it is too long, not UTF-8, no words, or no
-- request
unfoldable pub answer_to : List ℕ → Result (Option Request) ParseError
answer_to line =
    if nat_lt LINE_LIMIT (length line) then Err LineTooLong
    else (if not (is_utf8 line) then Err BadUtf8
    else (if is_remark line then Ok None
    else (request_in line >>= λ request. Ok (Some request))))

-- the line has at most 65,536 bytes, and is UTF-8
abbrev pub IsReadable : List ℕ → Type 0
IsReadable line = (length line ≤ LINE_LIMIT) × IsUtf8 line

-- the line is readable, and neither blank nor a comment
abbrev pub IsAsking : List ℕ → Type 0
IsAsking line = IsReadable line × (is_remark line ≡ false)

-- the line has two words or more, and nothing in it is not a word
abbrev pub HasSeveralWords : List ℕ → Type 0
HasSeveralWords line = IsSomeAnd (words_of line) (λ words. 2 ≤ length words)

-- reading the line takes memory: it asks for something, by two words or more; no other line is refused as out of memory
-- when it is read
abbrev pub TakesMemory : List ℕ → Type 0
TakesMemory line = IsAsking line × HasSeveralWords line
