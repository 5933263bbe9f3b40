-- What a request prints, and what it makes of a history.
use Rattle.std.specs.Prelude.{ℕ, ◌-◌, ℤ, pos, ◌-ℤ◌, List, [], ◌++◌, length, Option, Some, None, Result, Ok, codes, decimal, option_map}
use Rattle.std.specs.List.{flat_map}
use Rattle.std.specs.Result.{result_map_both}
use Rattle.std.specs.Fmt.{signed_decimal}
use Rattle.mvt_document.specs.Plain.{Document}
use Rattle.mvt_document.specs.Wire.{bytes_of}
use Rattle.mvt_meaning.specs.declared.refusal.Refusal.{Refusal}
use Rattle.tile_text.specs.Texts.{text_form}
use Rattle.tile_arguments.specs.Request.{Request, OnHistory, ListMarks, PrintHistory, Size, Lists}
use Rattle.tile_listing.specs.Listing.{listed}
use Rattle.mvt_history_steps.specs.Marks.{Mark}
use Rattle.mvt_history_steps.specs.History.{History, standing_document}
use Rattle.mvt_history_steps.specs.Requests.{by_answer}
use Rattle.tile_course.specs.declared.refused.Refused.{Refused}
use Rattle.tile_course.specs.declared.refused.Refused.TheVariants as refused

-- what an accepted request returns: the lines that it prints, and the history after it
pub record Answer : Type 0 where
  pub lines : List ℕ
  pub history : History

-- what a request that changes the history returns: no lines, and the history after it; or its refusal, which is a
-- refusal of a line as `refusal` says
abbrev pub answer_of_change : {E : Type 0} → (E → Refused) → Result History E → Result Answer Refused
answer_of_change refusal made = result_map_both (λ history. record { lines = []; history = history }) refusal made

-- what a look returns: its lines, and the history as it was; or its refusal
abbrev pub answer_of_look : History → Result (List ℕ) Refusal → Result Answer Refused
answer_of_look history shown = result_map_both (λ lines. record { lines = lines; history = history }) refused.Edit shown

-- the line of a mark: its name, and how far its point is from the present one, below 0 where undo leads there
abbrev pub offset_line : List ℕ → ℤ → List ℕ
offset_line name offset = codes "mark " ++ text_form name ++ codes " " ++ signed_decimal offset ++ codes "\n"

-- the line of a mark: its name, and its point less the present one
abbrev pub mark_line : ℕ → Mark → List ℕ
mark_line present mark = offset_line mark.name (pos mark.point -ℤ pos present)

-- the lines of all marks, in the order of the bytes of their names
abbrev pub mark_lines : History → List ℕ
mark_lines history = flat_map (mark_line history.present) history.marks

-- the line that says how many steps undo and redo go, and how many undo goes at most
abbrev pub reach_line : ℕ → ℕ → ℕ → List ℕ
reach_line undo redo depth = codes "undo " ++ decimal undo ++ codes " redo " ++ decimal redo ++ codes " depth " ++ decimal depth ++ codes "\n"

-- the line that says how many commands the open step has; none where no step is open
abbrev pub open_line : Option ℕ → List ℕ
open_line None = []
open_line (Some commands) = codes "open " ++ decimal commands ++ codes "\n"

-- the lines of a history: how far undo and redo go, and the open step if there is one
abbrev pub history_lines : History → List ℕ
history_lines history = reach_line (history.present - history.floor) (length history.steps - history.present) history.depth ++ open_line (option_map length history.group)

-- the line that says how many bytes the document has
abbrev pub size_line : Document → List ℕ
size_line document = codes "size " ++ decimal (length (bytes_of document)) ++ codes "\n"

-- what a request prints and makes of a history, or its refusal
abbrev pub carried_out : Request → History → Result Answer Refused
carried_out (OnHistory request) history = by_answer (answer_of_change refused.Edit) (answer_of_change refused.History) request history
carried_out ListMarks history = answer_of_look history (Ok (mark_lines history))
carried_out PrintHistory history = answer_of_look history (Ok (history_lines history))
carried_out Size history = answer_of_look history (Ok (size_line (standing_document history)))
carried_out (Lists what) history = answer_of_look history (listed what (standing_document history))
