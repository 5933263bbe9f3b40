-- Lines of the word of a request, and what they ask for.
use Rattle.std.specs.Prelude.{◌≡◌, ℕ, List, [], ◌∷◌, Some, Ok}
use Rattle.mvt_meaning.specs.Requests.{HistoryRequest}
use Rattle.tile_arguments.specs.Request.{Request, OnHistory}
use Rattle.tile_lines.specs.Words.{Bare, Quoted}
use Rattle.tile_lines.specs.Spelling.{SpellsWords}
use Rattle.tile_script.specs.Line.{IsReadable, answer_to}

-- a readable line of the word by itself asks for the request
abbrev pub AsksAlone : List ℕ × Request → Type 0
AsksAlone shape = (line : List ℕ) → IsReadable line → SpellsWords line (Bare shape.0 ∷ []) → answer_to line ≡ Ok (Some shape.1)

-- a readable line of the word and a quoted name asks for the request of that name
abbrev pub AsksByName : List ℕ × (List ℕ → HistoryRequest) → Type 0
AsksByName shape = (line name : List ℕ) → IsReadable line → SpellsWords line (Bare shape.0 ∷ Quoted name ∷ []) → answer_to line ≡ Ok (Some (OnHistory (shape.1 name)))
