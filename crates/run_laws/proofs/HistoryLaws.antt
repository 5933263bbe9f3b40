-- What the laws of undo rest on.
use Rattle.std.proofs.Common.{◌≡◌, ◌+◌, ◌-◌, ◌<◌, ◌≤◌, ◌==◌, false, Some, None, Result, Ok, Err, List, [], ◌∷◌, length, length-take-le, take, refl, sym, ap, ◌∙◌, arith}
use Rattle.std.proofs.lemmas.Bool.Decides.{nat_tests}
use Rattle.std.proofs.lemmas.List.{take_at}
use Rattle.mvt_document.specs.Plain.{Document}
use Rattle.mvt_meaning.specs.Command.{Command}
use Rattle.mvt_meaning.specs.Meaning.{after, applied}
use Rattle.mvt_meaning.specs.declared.refusal.Refusal.{Refusal}
use Rattle.mvt_history_steps.specs.History.{History, IsSound, after_steps, document_at, present_document, standing_document, at_point, with_group, with_step, with_command, edited_to, undone, ended, closed}
use Rattle.run_laws.specs.HistoryLaws.{StaysSound, UndoAtOnce, UndoAfterEnd, StepUndoesWhole}
use Rattle.mvt_history.proofs.Closed.{standing_alone}
use Rattle.mvt_history_steps.proofs.Sound.{begins_sound, sound_asked}
use Rattle.run_laws.proofs.OpenStep.{within_step}

-- ---- undo

-- the point at which the step came
pub point_before : (step : List Command) (history : History) → history.present ≤ length history.steps → document_at history.present (with_step step history) ≡ present_document history
point_before step history within =
    ap (λ steps. after_steps steps history.start) (take_at (take history.present history.steps) (step ∷ []) history.present (length-take-le history.present history.steps within))

step_undone : (step : List Command) (history : History) → IsSound history → (back : History) × (undone (with_step step history) ≡ Ok back) × (standing_document back ≡ present_document history)
step_undone step history sound =
    let after = with_step step history in
    let some = sound.some_depth in
    let above = sound.above_floor in
    let floor : after.floor < after.present = omega arith in
    let apart : (after.present == after.floor) ≡ false = grind (arith, nat_tests) in
    let point : history.present + 1 - 1 ≡ history.present = omega arith in
    (at_point (after.present - 1) after, rw apart refl, rw point (point_before step history sound.within_steps))

edited_alone : (command : Command) (history after : History) (made : Result Document Refusal) → history.group ≡ None → edited_to command history made ≡ Ok after → with_step (command ∷ []) history ≡ after
edited_alone command history after (Ok document) alone e = let done : edited_to command history (Ok document) ≡ Ok (with_step (command ∷ []) history) = ap (λ group. Ok (with_command command group history)) alone in cc
edited_alone command history after (Err refusal) alone e = absurd cc

pub undo_at_once : UndoAtOnce
undo_at_once command history after sound alone e =
    rw (standing_alone history alone) (rw (← edited_alone command history after (applied command (standing_document history)) alone e) (step_undone (command ∷ []) history sound))

pub undo_after_end : UndoAfterEnd
undo_after_end command commands history sound opened =
    let step = command ∷ commands in
    let undo = step_undone step history sound in
    (with_step step history, undo.0, ap (λ group. ended group history) opened, undo.1, undo.2)

-- the end of a step of these commands, and its undo
ended_undoes : (commands : List Command) (history : History) → IsSound history → ¬ (commands ≡ []) → (after : History) × (back : History) × (closed (with_group (Some commands) history) ≡ Ok after) × (undone after ≡ Ok back) × (standing_document back ≡ present_document history)
ended_undoes [] history sound some = absurd (some refl)
ended_undoes (command ∷ commands) history sound some =
    let step = command ∷ commands in
    let undo = step_undone step history sound in
    (with_step step history, undo.0, refl, undo.1, undo.2)

pub step_undoes_whole : StepUndoesWhole
step_undoes_whole requests history opening sound open_so leave some =
    let step = within_step requests history opening open_so leave in
    let held = step.1.1 in
    let not_none : ¬ (step.1.0 ≡ []) = λ none. some (ap (λ h. h.group) held ∙ ap Some none) in
    let undo = ended_undoes step.1.0 history sound not_none in
    (undo.0, undo.1, ap closed held ∙ undo.2, undo.3, undo.4 ∙ sym (standing_alone history step.0))

-- ---- numbers and marks in order

pub stays_sound : StaysSound
stays_sound = (begins_sound, sound_asked)
