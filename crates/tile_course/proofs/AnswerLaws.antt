-- What the laws of requests rest on.
use Rattle.std.proofs.Common.{◌≡◌, ◌≢◌, ◌-◌, inl, inr, ℕ, suc, option_map, Bool, true, false, ℤ, pos, negsuc, List, [], ◌∷◌, ◌++◌, length, Option, Some, None, Result, Ok, Err, codes, decimal, refl, sym, ap, subst, ◌∙◌, arith}
use Rattle.std.specs.Prelude.{◌-ℤ◌, if◌then◌else◌}
use Rattle.std.specs.Fmt.{signed_decimal}
use Rattle.std.proofs.lemmas.Grind.{flat_map-append}
use Rattle.std.proofs.lemmas.List.Elements.{All-append}
use Rattle.std.specs.List.{flat_map}
use Rattle.mvt_document.specs.Plain.{Document}
use Rattle.mvt_document.specs.Wire.{bytes_of}
use Rattle.mvt_meaning.specs.Command.{Command}
use Rattle.mvt_meaning.specs.Requests.{Edit, Undo, Redo, SetMark, TakeMark, GoBack, Begin, End, Cancel}
use Rattle.mvt_meaning.proofs.Others.{Other}
use Rattle.mvt_meaning.specs.Meaning.{applied}
use Rattle.mvt_meaning.specs.declared.refusal.Refusal.{Refusal}
use Rattle.mvt_meaning.specs.declared.refusal.Refusal.TheVariants as edit
use Rattle.mvt_meaning.proofs.NeverOutOfMemory.{applied_other}
use Rattle.tile_lines.specs.Lines.{HasNoLineFeed, with_feed}
use Rattle.tile_text.specs.Texts.{text_form}
use Rattle.tile_text.proofs.Feeds.{text_form_feedless}
use Rattle.tile_arguments.specs.Request.{OnHistory, ListMarks, PrintHistory, Size, Lists}
use Rattle.tile_listing.specs.Listing.{listed}
use Rattle.tile_listing.specs.Printed.{MayBePrinted, AreLinesToPrint}
use Rattle.tile_listing.proofs.Printing.{uncut-append, decimal_uncut, may_print, none_to_print, one_to_print}
use Rattle.tile_listing.proofs.ListingLaws.{listings_are_lines, no_listing_is_out_of_memory}
use Rattle.mvt_history_steps.specs.Marks.{Mark}
use Rattle.mvt_history_steps.specs.History.{History, standing_document, unless_open, gone_to, ended, edited_to, edited, undone, redone, marked, unmarked, gone_back, opened, closed, cancelled}
use Rattle.mvt_history_steps.specs.declared.error.HistoryError.{HistoryError}
use Rattle.mvt_history_steps.specs.declared.error.HistoryError.TheVariants as history_errors
use Rattle.tile_course.specs.Replies.{IsOutOfMemory}
use Rattle.tile_course.specs.declared.refused.Refused.{Refused}
use Rattle.tile_course.specs.declared.refused.Refused.TheVariants as refused
use Rattle.tile_course.specs.Answering.{Answer, answer_of_change, answer_of_look, mark_line, mark_lines, reach_line, open_line, history_lines, size_line}
use Rattle.tile_course.specs.AnswerLaws.{RequestsPrintLines, NoRequestIsOutOfMemory, LooksLeaveHistory}

-- ---- lines

change_prints : {E : Type 0} (refusal : E → Refused) (made : Result History E) (answer : Answer) → answer_of_change refusal made ≡ Ok answer → AreLinesToPrint answer.lines
change_prints refusal (Ok history) answer e = let none : [] ≡ answer.lines = cc in subst AreLinesToPrint none none_to_print
change_prints refusal (Err error) answer e = absurd cc

both_to_print : (first second : List ℕ) → AreLinesToPrint first → AreLinesToPrint second → AreLinesToPrint (first ++ second)
both_to_print first second before following = record {
  lines = before.lines ++ following.lines;
  spelled = ap (λ text. text ++ second) before.spelled ∙ ap (λ text. flat_map with_feed before.lines ++ text) following.spelled ∙ sym (flat_map-append with_feed before.lines following.lines);
  each = All-append MayBePrinted before.lines following.lines before.each following.each;
}

size_to_print : (document : Document) → AreLinesToPrint (size_line document)
size_to_print document =
    let count = decimal (length (bytes_of document)) in
    one_to_print (codes "size " ++ count)
    (may_print _ (uncut-append (codes "size ") count (refl, (refl, (refl, (refl, (refl, tt))))) (decimal_uncut (length (bytes_of document)))) refl refl)

signed_uncut : (number : ℤ) → HasNoLineFeed (signed_decimal number)
signed_uncut (pos number) = decimal_uncut number
signed_uncut (negsuc number) = (refl, decimal_uncut (suc number))

mark_to_print : (present : ℕ) (mark : Mark) → AreLinesToPrint (mark_line present mark)
mark_to_print present mark =
    let offset = signed_decimal (pos mark.point -ℤ pos present) in
    let named = uncut-append (codes "mark ") (text_form mark.name) (refl, (refl, (refl, (refl, (refl, tt))))) (text_form_feedless mark.name) in
    let spaced = uncut-append (codes "mark " ++ text_form mark.name) (codes " ") named (refl, tt) in
    one_to_print (codes "mark " ++ text_form mark.name ++ codes " " ++ offset)
    (may_print _ (uncut-append (codes "mark " ++ text_form mark.name ++ codes " ") offset spaced (signed_uncut (pos mark.point -ℤ pos present))) refl refl)

marks_to_print : (present : ℕ) (marks : List Mark) → AreLinesToPrint (flat_map (mark_line present) marks)
marks_to_print present [] = none_to_print
marks_to_print present (mark ∷ marks) = both_to_print (mark_line present mark) (flat_map (mark_line present) marks) (mark_to_print present mark) (marks_to_print present marks)

reach_to_print : (undo redo depth : ℕ) → AreLinesToPrint (reach_line undo redo depth)
reach_to_print undo redo depth =
    let first = uncut-append (codes "undo ") (decimal undo) (refl, (refl, (refl, (refl, (refl, tt))))) (decimal_uncut undo) in
    let second = uncut-append (codes "undo " ++ decimal undo) (codes " redo ") first (refl, (refl, (refl, (refl, (refl, (refl, tt)))))) in
    let third = uncut-append (codes "undo " ++ decimal undo ++ codes " redo ") (decimal redo) second (decimal_uncut redo) in
    let fourth = uncut-append (codes "undo " ++ decimal undo ++ codes " redo " ++ decimal redo) (codes " depth ") third (refl, (refl, (refl, (refl, (refl, (refl, (refl, tt))))))) in
    one_to_print (codes "undo " ++ decimal undo ++ codes " redo " ++ decimal redo ++ codes " depth " ++ decimal depth)
    (may_print _ (uncut-append (codes "undo " ++ decimal undo ++ codes " redo " ++ decimal redo ++ codes " depth ") (decimal depth) fourth (decimal_uncut depth)) refl refl)

step_to_print : (commands : Option ℕ) → AreLinesToPrint (open_line commands)
step_to_print None = none_to_print
step_to_print (Some commands) =
    one_to_print (codes "open " ++ decimal commands)
    (may_print _ (uncut-append (codes "open ") (decimal commands) (refl, (refl, (refl, (refl, (refl, tt))))) (decimal_uncut commands)) refl refl)

history_to_print : (history : History) → AreLinesToPrint (history_lines history)
history_to_print history =
    both_to_print (reach_line (history.present - history.floor) (length history.steps - history.present) history.depth) (open_line (option_map length history.group))
    (reach_to_print (history.present - history.floor) (length history.steps - history.present) history.depth) (step_to_print (option_map length history.group))

look_prints : (history : History) (shown : Result (List ℕ) Refusal) (answer : Answer) → ((lines : List ℕ) → shown ≡ Ok lines → AreLinesToPrint lines) → answer_of_look history shown ≡ Ok answer → AreLinesToPrint answer.lines
look_prints history (Ok lines) answer each e = let same : lines ≡ answer.lines = cc in subst AreLinesToPrint same (each lines refl)
look_prints history (Err refusal) answer each e = absurd cc

-- lines that are always printed
prints_these : (history : History) (lines : List ℕ) (answer : Answer) → AreLinesToPrint lines → answer_of_look history (Ok lines) ≡ Ok answer → AreLinesToPrint answer.lines
prints_these history lines answer may e = look_prints history (Ok lines) answer (λ others is. let same : lines ≡ others = cc in subst AreLinesToPrint same may) e

pub requests_print_lines : RequestsPrintLines
requests_print_lines (OnHistory (Edit command)) history answer e = change_prints refused.Edit (edited command history) answer e
requests_print_lines (OnHistory Undo) history answer e = change_prints refused.History (undone history) answer e
requests_print_lines (OnHistory Redo) history answer e = change_prints refused.History (redone history) answer e
requests_print_lines (OnHistory (SetMark name)) history answer e = change_prints refused.History (marked name history) answer e
requests_print_lines (OnHistory (TakeMark name)) history answer e = change_prints refused.History (unmarked name history) answer e
requests_print_lines (OnHistory (GoBack name)) history answer e = change_prints refused.History (gone_back name history) answer e
requests_print_lines (OnHistory Begin) history answer e = change_prints refused.History (opened history) answer e
requests_print_lines (OnHistory End) history answer e = change_prints refused.History (closed history) answer e
requests_print_lines (OnHistory Cancel) history answer e = change_prints refused.History (cancelled history) answer e
requests_print_lines ListMarks history answer e = prints_these history (mark_lines history) answer (marks_to_print history.present history.marks) e
requests_print_lines PrintHistory history answer e = prints_these history (history_lines history) answer (history_to_print history) e
requests_print_lines Size history answer e = prints_these history (size_line (standing_document history)) answer (size_to_print (standing_document history)) e
requests_print_lines (Lists what) history answer e =
    look_prints history (listed what (standing_document history)) answer (listings_are_lines what (standing_document history)) e

-- ---- refusals

edit_is_other : (refusal : Refusal) → refusal ≢ edit.NoMemory → ¬ (IsOutOfMemory (refused.Edit refusal))
edit_is_other edit.NoLayer other out_of_memory = elim out_of_memory [ inl e ↦ omega arith | inr e ↦ omega arith ]
edit_is_other edit.AmbiguousLayer other out_of_memory = elim out_of_memory [ inl e ↦ omega arith | inr e ↦ omega arith ]
edit_is_other edit.NoFeature other out_of_memory = elim out_of_memory [ inl e ↦ omega arith | inr e ↦ omega arith ]
edit_is_other edit.NoKey other out_of_memory = elim out_of_memory [ inl e ↦ omega arith | inr e ↦ omega arith ]
edit_is_other edit.BadPlace other out_of_memory = elim out_of_memory [ inl e ↦ omega arith | inr e ↦ omega arith ]
edit_is_other edit.AmbiguousFeature other out_of_memory = elim out_of_memory [ inl e ↦ omega arith | inr e ↦ omega arith ]
edit_is_other (edit.BadTags layer feature) other out_of_memory = elim out_of_memory [ inl e ↦ omega arith | inr e ↦ omega arith ]
edit_is_other (edit.RepeatedKey layer feature) other out_of_memory = elim out_of_memory [ inl e ↦ omega arith | inr e ↦ omega arith ]
edit_is_other (edit.BadGeometry layer feature) other out_of_memory = elim out_of_memory [ inl e ↦ omega arith | inr e ↦ omega arith ]
edit_is_other edit.NameTaken other out_of_memory = elim out_of_memory [ inl e ↦ omega arith | inr e ↦ omega arith ]
edit_is_other edit.KeyTaken other out_of_memory = elim out_of_memory [ inl e ↦ omega arith | inr e ↦ omega arith ]
edit_is_other edit.OutOfRange other out_of_memory = elim out_of_memory [ inl e ↦ omega arith | inr e ↦ omega arith ]
edit_is_other edit.TooLarge other out_of_memory = elim out_of_memory [ inl e ↦ omega arith | inr e ↦ omega arith ]
edit_is_other edit.NoMemory other out_of_memory = other refl

-- neither out of memory nor a stop
abbrev IsOther : HistoryError → Type 0
IsOther error = ¬ (IsOutOfMemory (refused.History error))

edit_is_not_out_of_memory : (command : Command) (history : History) (made : Result Document Refusal) (reason : Refused) → Other edit.NoMemory made → answer_of_change refused.Edit (edited_to command history made) ≡ Err reason → ¬ (IsOutOfMemory reason)
edit_is_not_out_of_memory command history (Ok document) reason other e = absurd cc
edit_is_not_out_of_memory command history (Err refusal) reason other e =
    let same : refused.Edit refusal ≡ reason = cc in subst (λ (r : Refused). ¬ (IsOutOfMemory r)) same (edit_is_other refusal other)

-- a request is refused only for other reasons
abbrev RefusesOther : Result History HistoryError → Type 0
RefusesOther (Ok history) = Unit {0}
RefusesOther (Err error) = IsOther error

move_is_not_out_of_memory : (made : Result History HistoryError) (reason : Refused) → RefusesOther made → answer_of_change refused.History made ≡ Err reason → ¬ (IsOutOfMemory reason)
move_is_not_out_of_memory (Ok history) reason other e = absurd cc
move_is_not_out_of_memory (Err error) reason other e =
    let same : refused.History error ≡ reason = cc in subst (λ (r : Refused). ¬ (IsOutOfMemory r)) same other

other_either : (q : Bool) (error : HistoryError) (history : History) → IsOther error → RefusesOther (if q then Err error else Ok history)
other_either true error history other = other
other_either false error history other = tt

either_other : (q : Bool) (error : HistoryError) (history : History) → IsOther error → RefusesOther (if q then Ok history else Err error)
either_other true error history other = tt
either_other false error history other = other

nothing_to_undo : IsOther history_errors.NothingToUndo
nothing_to_undo out_of_memory = elim out_of_memory [ inl e ↦ omega arith | inr e ↦ omega arith ]

nothing_to_redo : IsOther history_errors.NothingToRedo
nothing_to_redo out_of_memory = elim out_of_memory [ inl e ↦ omega arith | inr e ↦ omega arith ]

no_mark : IsOther history_errors.NoMark
no_mark out_of_memory = elim out_of_memory [ inl e ↦ omega arith | inr e ↦ omega arith ]

too_many_marks : IsOther history_errors.TooManyMarks
too_many_marks out_of_memory = elim out_of_memory [ inl e ↦ omega arith | inr e ↦ omega arith ]

group_open : IsOther history_errors.GroupOpen
group_open out_of_memory = elim out_of_memory [ inl e ↦ omega arith | inr e ↦ omega arith ]

no_group : IsOther history_errors.NoGroup
no_group out_of_memory = elim out_of_memory [ inl e ↦ omega arith | inr e ↦ omega arith ]

unless_open_other : (group : Option (List Command)) (answer : Result History HistoryError) → RefusesOther answer → RefusesOther (unless_open group answer)
unless_open_other None answer other = other
unless_open_other (Some commands) answer other = group_open

gone_to_other : (point : Option ℕ) (history : History) → RefusesOther (gone_to point history)
gone_to_other None history = no_mark
gone_to_other (Some point) history = tt

ended_other : (group : Option (List Command)) (history : History) → RefusesOther (ended group history)
ended_other None history = no_group
ended_other (Some []) history = tt
ended_other (Some (command ∷ commands)) history = tt

look_is_not_out_of_memory : (history : History) (shown : Result (List ℕ) Refusal) (reason : Refused) → shown ≢ Err edit.NoMemory → answer_of_look history shown ≡ Err reason → ¬ (IsOutOfMemory reason)
look_is_not_out_of_memory history (Ok lines) reason other e = absurd cc
look_is_not_out_of_memory history (Err refusal) reason other e =
    let same : refused.Edit refusal ≡ reason = cc in subst (λ (r : Refused). ¬ (IsOutOfMemory r)) same (edit_is_other refusal (λ out_of_memory. other (ap Err out_of_memory)))

pub no_request_is_out_of_memory : NoRequestIsOutOfMemory
no_request_is_out_of_memory (OnHistory (Edit command)) history reason e =
    edit_is_not_out_of_memory command history (applied command (standing_document history)) reason (applied_other command (standing_document history)) e
no_request_is_out_of_memory (OnHistory Undo) history reason e = move_is_not_out_of_memory (undone history) reason (unless_open_other history.group _ (other_either _ _ _ nothing_to_undo)) e
no_request_is_out_of_memory (OnHistory Redo) history reason e = move_is_not_out_of_memory (redone history) reason (unless_open_other history.group _ (other_either _ _ _ nothing_to_redo)) e
no_request_is_out_of_memory (OnHistory (SetMark name)) history reason e = move_is_not_out_of_memory (marked name history) reason (unless_open_other history.group _ (either_other _ _ _ too_many_marks)) e
no_request_is_out_of_memory (OnHistory (TakeMark name)) history reason e = move_is_not_out_of_memory (unmarked name history) reason (unless_open_other history.group _ (either_other _ _ _ no_mark)) e
no_request_is_out_of_memory (OnHistory (GoBack name)) history reason e = move_is_not_out_of_memory (gone_back name history) reason (unless_open_other history.group _ (gone_to_other _ history)) e
no_request_is_out_of_memory (OnHistory Begin) history reason e = move_is_not_out_of_memory (opened history) reason (unless_open_other history.group _ tt) e
no_request_is_out_of_memory (OnHistory End) history reason e = move_is_not_out_of_memory (closed history) reason (ended_other history.group history) e
no_request_is_out_of_memory (OnHistory Cancel) history reason e = move_is_not_out_of_memory (cancelled history) reason (either_other _ _ _ no_group) e
no_request_is_out_of_memory ListMarks history reason e = absurd cc
no_request_is_out_of_memory PrintHistory history reason e = absurd cc
no_request_is_out_of_memory Size history reason e = absurd cc
no_request_is_out_of_memory (Lists what) history reason e =
    look_is_not_out_of_memory history (listed what (standing_document history)) reason (no_listing_is_out_of_memory what (standing_document history)) e

-- ---- looks

look_leaves : (history : History) (shown : Result (List ℕ) Refusal) (answer : Answer) → answer_of_look history shown ≡ Ok answer → answer.history ≡ history
look_leaves history (Ok lines) answer e = cc
look_leaves history (Err refusal) answer e = absurd cc

pub looks_leave_history : LooksLeaveHistory
looks_leave_history ListMarks history answer looks e = look_leaves history (Ok (mark_lines history)) answer e
looks_leave_history PrintHistory history answer looks e = look_leaves history (Ok (history_lines history)) answer e
looks_leave_history Size history answer looks e = look_leaves history (Ok (size_line (standing_document history))) answer e
looks_leave_history (Lists what) history answer looks e = look_leaves history (listed what (standing_document history)) answer e
looks_leave_history (OnHistory request) history answer looks e = absurd looks
