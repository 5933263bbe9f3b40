-- Requests that are refused, also as memory ran out, or stopped halfway.
use Rattle.std.proofs.Common.{◌≡◌, ◌⊎◌, ℕ, ◌+◌, List, None, option_map, Result, Ok, Err, refl, ap, ◌∙◌, inl, inr}
use Rattle.std.specs.Prelude.{IsOk, IfErr}
use Rattle.mvt_history.specs.declared.session.Session.{Session}
use Rattle.mvt_history_steps.specs.History.{History, marked, opened, undone}
use Rattle.mvt_history_steps.specs.Marks.{point_of}
use Rattle.mvt_history_steps.specs.Session.{StandsFor, Answers, AnswersBack, AnswersCancel, AnswersWithMemory, IsStop}
use Rattle.mvt_history_steps.specs.Standing.{Standing}
use Rattle.mvt_history_steps.specs.declared.error.HistoryError.{HistoryError}
use Rattle.mvt_history_steps.specs.declared.error.HistoryError.TheVariants.{NoMemory, Stopped}
use Rattle.mvt_history_steps.proofs.Counting.{counted_point_of}
use Rattle.mvt_meaning.specs.Requests.{HistoryRequest, Undo, SetMark, GoBack, Begin, Cancel}
use Rattle.tile_arguments.specs.Request.{OnHistory}
use Rattle.tile_course.specs.declared.refused.Refused.TheVariants as refused
use Rattle.tile_course.specs.Answering.{answer_of_change, carried_out}
use Rattle.tile_course.specs.Answers.{IsAnswered, NeedsMemory}
use Rattle.tile_course.specs.Replies.{refusal_number}
use Rattle.tile_run.specs.Steps.{AnswersChange}

-- ---- stopped

pub back_refused : (name : List ℕ) (history : History) (error : HistoryError) (new : Standing) → AnswersBack name history (Err error) new → IsAnswered (OnHistory (GoBack name)) history (Err (refused.History error)) new
back_refused name history error new (inl answers) = inl (inr (ap (answer_of_change refused.History) answers.0), answers.1)
back_refused name history error new (inr (taken, between, is, stops, stands)) = inr (taken, between, ap (λ (e : HistoryError). refused.History e) is, stops, stands)

pub cancel_refused : (history : History) (error : HistoryError) (new : Standing) → AnswersCancel history (Err error) new → IsAnswered (OnHistory Cancel) history (Err (refused.History error)) new
cancel_refused history error new (inl answers) = inl (inr (ap (answer_of_change refused.History) answers.0), answers.1)
cancel_refused history error new (inr (taken, between, is, stops, stands)) = inr (taken, between, ap (λ (e : HistoryError). refused.History e) is, stops, stands)

pub answers_back : (name : List ℕ) (history : History) (result : Result (Unit {0}) HistoryError) (new : Standing) → AnswersBack name history result new → AnswersChange (OnHistory (GoBack name)) history result new
answers_back name history (Ok done) new (after, made, stands) = (after, ap (answer_of_change refused.History) made, stands)
answers_back name history (Err error) new answers = back_refused name history error new answers

pub answers_cancel : (history : History) (result : Result (Unit {0}) HistoryError) (new : Standing) → AnswersCancel history result new → AnswersChange (OnHistory Cancel) history result new
answers_cancel history (Ok done) new (after, made, stands) = (after, ap (answer_of_change refused.History) made, stands)
answers_cancel history (Err error) new answers = cancel_refused history error new answers

-- ---- out of memory

is_accepted : (made : Result History HistoryError) → IsOk made → IsOk (answer_of_change refused.History made)
is_accepted (Ok after) accepted = refl
is_accepted (Err error) accepted = absurd cc

-- a name that marks nothing in the session marks nothing in the history
unmarked_in : (name : List ℕ) (history : History) (session : Standing) → StandsFor session history → point_of name session.marks ≡ None → point_of name history.marks ≡ None
unmarked_in name history session stands none = ap (point_of name) stands.marks ∙ counted_point_of history.floor name session.marks ∙ ap (option_map (λ (point : ℕ). history.floor + point)) none

pub mark_refused : (name : List ℕ) (history : History) (error : HistoryError) (session new : Standing) → StandsFor session history → (error ≡ NoMemory → point_of name session.marks ≡ None)
    → AnswersWithMemory (marked name history) history (Err error) new → IsAnswered (OnHistory (SetMark name)) history (Err (refused.History error)) new
mark_refused name history error session new stands unmarked (inl (is, accepted), kept) =
    inl (inl ((is_accepted (marked name history) accepted, unmarked_in name history session stands (unmarked is)), ap (λ (e : HistoryError). refusal_number (refused.History e)) is), kept)
mark_refused name history error session new stands unmarked (inr is, kept) = inl (inr (ap (answer_of_change refused.History) is), kept)

pub answers_mark : (name : List ℕ) (history : History) (result : Result (Unit {0}) HistoryError) (session new : Standing) → StandsFor session history
    → IfErr result (λ error. error ≡ NoMemory → point_of name session.marks ≡ None)
    → AnswersWithMemory (marked name history) history result new → AnswersChange (OnHistory (SetMark name)) history result new
answers_mark name history (Ok done) session new stands unmarked (after, made, still) = (after, ap (answer_of_change refused.History) made, still)
answers_mark name history (Err error) session new stands unmarked answers = mark_refused name history error session new stands unmarked answers

-- a request that is refused with 60 only where it is accepted with all memory
with_memory : (request : HistoryRequest) (history : History) (made : Result History HistoryError) (result : Result (Unit {0}) HistoryError) (new : Standing)
    → carried_out (OnHistory request) history ≡ answer_of_change refused.History made → (IsOk made → NeedsMemory (OnHistory request) history)
    → AnswersWithMemory made history result new → AnswersChange (OnHistory request) history result new
with_memory request history made (Ok done) new is needs (after, so, stands) = (after, is ∙ ap (answer_of_change refused.History) so, stands)
with_memory request history made (Err error) new is needs (inl (no_memory, accepted), kept) = inl (inl (needs accepted, ap (λ (e : HistoryError). refusal_number (refused.History e)) no_memory), kept)
with_memory request history made (Err error) new is needs (inr so, kept) = inl (inr (is ∙ ap (answer_of_change refused.History) so), kept)

pub answers_undo : (history : History) (result : Result (Unit {0}) HistoryError) (new : Standing) → AnswersWithMemory (undone history) history result new → AnswersChange (OnHistory Undo) history result new
answers_undo history result new answers = with_memory Undo history (undone history) result new refl (is_accepted (undone history)) answers

-- a request that takes no memory
without_memory : (request : HistoryRequest) (history : History) (made : Result History HistoryError) (result : Result (Unit {0}) HistoryError) (new : Standing)
    → carried_out (OnHistory request) history ≡ answer_of_change refused.History made → Answers made history result new → AnswersChange (OnHistory request) history result new
without_memory request history made (Ok done) new is (after, so, stands) = (after, is ∙ ap (answer_of_change refused.History) so, stands)
without_memory request history made (Err error) new is (so, kept) = inl (inr (is ∙ ap (answer_of_change refused.History) so), kept)

pub answers_begin : (history : History) (result : Result (Unit {0}) HistoryError) (new : Standing) → Answers (opened history) history result new → AnswersChange (OnHistory Begin) history result new
answers_begin history result new answers = without_memory Begin history (opened history) result new refl answers

-- ---- in the words of a line

number_of_stop : (error : HistoryError) → IsStop error → refusal_number (refused.History error) ≡ 54
number_of_stop (Stopped taken) stop = refl
number_of_stop error stop = absurd stop

pub kept_or_stopped : (error : HistoryError) (old new : Session) → (new ≡ old) ⊎ IsStop error → (new ≡ old) ⊎ (refusal_number (refused.History error) ≡ 54)
kept_or_stopped error old new (inl kept) = inl kept
kept_or_stopped error old new (inr stop) = inr (number_of_stop error stop)
