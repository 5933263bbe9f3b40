-- As many redos as there were undos lead to the very history before them, and as many undos as there were redos.
use Rattle.std.proofs.Common.{◌≡◌, ℕ, zero, suc, ◌+◌, ◌-◌, ◌<◌, ◌≤◌, ◌==◌, false, Option, None, Some, Result, Ok, Err, List, length, refl, ap, ◌∙◌, inl, inr, arith, if◌then◌else◌}
use Rattle.std.proofs.lemmas.Bool.{cases_Bool}
use Rattle.std.proofs.lemmas.Bool.Decides.{nat_tests}
use Rattle.mvt_meaning.specs.Command.{Command}
use Rattle.mvt_history_steps.specs.History.{History, at_point, unless_open, undone, redone}
use Rattle.mvt_history_steps.specs.Requests.{and_then, then_times}
use Rattle.run_laws.specs.HistoryLaws.{RedosUndoUndos, UndosUndoRedos}
use Rattle.mvt_history_steps.specs.declared.error.HistoryError.{HistoryError}
use Rattle.mvt_history_steps.specs.declared.error.HistoryError.TheVariants.{NothingToUndo, NothingToRedo}

-- ---- where no step is open

pub none_open : (group : Option (List Command)) (answer : Result History HistoryError) (after : History) → unless_open group answer ≡ Ok after → (group ≡ None) × (answer ≡ Ok after)
none_open None answer after e = (refl, e)
none_open (Some commands) answer after e = absurd cc

-- ---- one request after the others

follows_answer : (count : ℕ) (ask : History → Result History HistoryError) (answer : Result History HistoryError) (middle after : History) → ((history : History) → then_times count ask history ≡ Ok middle → then_times (suc count) ask history ≡ Ok after) → and_then answer (then_times count ask) ≡ Ok middle → and_then answer (then_times (suc count) ask) ≡ Ok after
follows_answer count ask (Ok history) middle after more e = more history e
follows_answer count ask (Err error) middle after more e = absurd cc

pub one_more : (count : ℕ) (ask : History → Result History HistoryError) (middle after : History) → ask middle ≡ Ok after → (history : History) → then_times count ask history ≡ Ok middle → then_times (suc count) ask history ≡ Ok after
one_more zero ask middle after last history e = let same : history ≡ middle = cc in rw same (rw last refl)
one_more (suc count) ask middle after last history e = follows_answer count ask (ask history) middle after (one_more count ask middle after last) e

-- ---- an undo, and the redo of it

pub record IsUndone (history after : History) : Type 0 where
  pub is_closed : history.group ≡ None
  pub above : history.floor < history.present
  pub is_before : at_point (history.present - 1) history ≡ after

pub undone_so : (history after : History) → history.floor ≤ history.present → undone history ≡ Ok after → IsUndone history after
undone_so history after low e =
    let answer : Result History HistoryError = if history.present == history.floor then Err NothingToUndo else Ok (at_point (history.present - 1) history) in
    let closed = none_open history.group answer after e in
    elim (cases_Bool (history.present == history.floor)) [
      | inl at_floor ↦ absurd (let refused = rw at_floor at closed.1 in cc)
      | inr not_at ↦ (let done = rw not_at at closed.1 in record { is_closed = closed.0; above = grind (arith, nat_tests); is_before = cc })
    ]

redo_of_undo : (history : History) → history.group ≡ None → history.floor < history.present → history.present ≤ length history.steps → redone (at_point (history.present - 1) history) ≡ Ok history
redo_of_undo history closed above within =
    let back = at_point (history.present - 1) history in
    let apart : (history.present - 1 == length history.steps) ≡ false = grind (arith, nat_tests) in
    let point : history.present - 1 + 1 ≡ history.present = omega arith in
    let answer : Result History HistoryError = if back.present == length back.steps then Err NothingToRedo else Ok (at_point (back.present + 1) back) in
    let done : answer ≡ Ok history = rw apart (ap (λ point. Ok (at_point point history)) point) in
    ap (λ group. unless_open group answer) closed ∙ done

-- ---- a redo, and the undo of it

pub record IsRedone (history after : History) : Type 0 where
  pub is_closed : history.group ≡ None
  pub below : history.present < length history.steps
  pub is_next : at_point (history.present + 1) history ≡ after

redone_so : (history after : History) → history.present ≤ length history.steps → redone history ≡ Ok after → IsRedone history after
redone_so history after high e =
    let answer : Result History HistoryError = if history.present == length history.steps then Err NothingToRedo else Ok (at_point (history.present + 1) history) in
    let closed = none_open history.group answer after e in
    elim (cases_Bool (history.present == length history.steps)) [
      | inl at_end ↦ absurd (let refused = rw at_end at closed.1 in cc)
      | inr not_at ↦ (let done = rw not_at at closed.1 in record { is_closed = closed.0; below = grind (arith, nat_tests); is_next = cc })
    ]

undo_of_redo : (history : History) → history.group ≡ None → history.floor ≤ history.present → undone (at_point (history.present + 1) history) ≡ Ok history
undo_of_redo history closed above =
    let next = at_point (history.present + 1) history in
    let apart : (history.present + 1 == history.floor) ≡ false = grind (arith, nat_tests) in
    let point : history.present + 1 - 1 ≡ history.present = omega arith in
    let answer : Result History HistoryError = if next.present == next.floor then Err NothingToUndo else Ok (at_point (next.present - 1) next) in
    let done : answer ≡ Ok history = rw apart (ap (λ point. Ok (at_point point history)) point) in
    ap (λ group. unless_open group answer) closed ∙ done

-- ---- all of them

first_of : (answer : Result History HistoryError) (more : History → Result History HistoryError) (after : History) → and_then answer more ≡ Ok after → (first : History) × (answer ≡ Ok first) × (more first ≡ Ok after)
first_of (Ok first) more after e = (first, refl, e)
first_of (Err error) more after e = absurd cc

redos_lead_back : (count : ℕ) (history after : History) → history.floor ≤ history.present → history.present ≤ length history.steps → then_times count undone history ≡ Ok after → then_times count redone after ≡ Ok history
redos_lead_back zero history after low within e = cc
redos_lead_back (suc count) history after low within e =
    let rest = first_of (undone history) (then_times count undone) after e in
    let undo = undone_so history rest.0 low rest.1 in
    let above = undo.above in
    let before = at_point (history.present - 1) history in
    let others : then_times count undone before ≡ Ok after = rw undo.is_before rest.2 in
    let back : then_times count redone after ≡ Ok before = redos_lead_back count before after (omega (arith, above)) (omega (arith, within)) others in
    one_more count redone before history (redo_of_undo history undo.is_closed above within) after back

pub redos_undo_undos : RedosUndoUndos
redos_undo_undos count history after sound e = redos_lead_back count history after sound.above_floor sound.within_steps e

undos_lead_back : (count : ℕ) (history after : History) → history.floor ≤ history.present → history.present ≤ length history.steps → then_times count redone history ≡ Ok after → then_times count undone after ≡ Ok history
undos_lead_back zero history after low within e = cc
undos_lead_back (suc count) history after low within e =
    let rest = first_of (redone history) (then_times count redone) after e in
    let redo = redone_so history rest.0 within rest.1 in
    let below = redo.below in
    let next = at_point (history.present + 1) history in
    let others : then_times count redone next ≡ Ok after = rw redo.is_next rest.2 in
    let back : then_times count undone after ≡ Ok next = undos_lead_back count next after (omega (arith, low)) (omega (arith, below)) others in
    one_more count undone next history (undo_of_redo history redo.is_closed low) after back

pub undos_undo_redos : UndosUndoRedos
undos_undo_redos count history after sound e = undos_lead_back count history after sound.above_floor sound.within_steps e
