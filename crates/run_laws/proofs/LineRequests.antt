-- What lines ask of a history, and what therefore holds after any lines.
use Rattle.std.proofs.Common.{◌≡◌, ℕ, ◌≤◌, Bool, List, [], ◌∷◌, ◌++◌, Option, Some, None, Result, Ok, Err, refl, sym, ap, subst, ◌∙◌, inl, inr}
use Rattle.std.specs.List.{AllByRecursion}
use Rattle.std.proofs.lemmas.Bool.{cases_Bool}
use Rattle.mvt_document.specs.Plain.{Document}
use Rattle.mvt_meaning.specs.declared.refusal.Refusal.{Refusal}
use Rattle.mvt_history_steps.specs.History.{History, IsSound, standing_document, edited, undone, redone, marked, unmarked, gone_back, opened, closed, cancelled}
use Rattle.mvt_history_steps.specs.Requests.{or_before, asked, asked_all}
use Rattle.run_laws.specs.HistoryLaws.{IsRequest}
use Rattle.run_laws.proofs.HistoryLaws.{stays_sound}
use Rattle.mvt_meaning.specs.Requests.{HistoryRequest, Edit, Undo, Redo, SetMark, TakeMark, GoBack, Begin, End, Cancel}
use Rattle.tile_arguments.specs.Request.{Request, OnHistory, ListMarks, PrintHistory, Size, Lists}
use Rattle.tile_lines.specs.declared.parse_error.ParseError.{ParseError}
use Rattle.tile_script.specs.Line.{answer_to}
use Rattle.tile_lines.specs.Lines.{lines_of}
use Rattle.tile_listing.specs.Listing.{listed}
use Rattle.tile_course.specs.declared.refused.Refused.{Refused}
use Rattle.tile_course.specs.declared.refused.Refused.TheVariants as refused
use Rattle.tile_course.specs.Answering.{answer_of_change, answer_of_look, mark_lines, history_lines, size_line, carried_out}
use Rattle.tile_course.specs.Answers.{MayStop}
use Rattle.tile_course.specs.Run.{Progress, at_first, ran, settled_by, answered_by, after_line, is_over, after_lines, MayFollow, Walk}
use Rattle.tile_course.proofs.Overs.{walk_over, walk_on}
use Rattle.run_laws.specs.RunLaws.{asked_of, asked_in, requests_of, LinesAreRequests}
use Rattle.run_laws.proofs.ValidRequests.{lines_ask_validly}
use Rattle.tile_course.specs.declared.outcome.Options.{Options}

-- ---- requests

change_settles : {E : Type 0} (refusal : E → Refused) (p : Progress) (made : Result History E) → (settled_by p (answer_of_change refusal made)).history ≡ or_before p.history made
change_settles refusal p (Ok history) = refl
change_settles refusal p (Err error) = refl

look_settles : (p : Progress) (lines : Result (List ℕ) Refusal) → (settled_by p (answer_of_look p.history lines)).history ≡ p.history
look_settles p (Ok lines) = refl
look_settles p (Err refusal) = refl

request_settles : (p : Progress) (request : Request) → (settled_by p (carried_out request p.history)).history ≡ asked_all (asked_of request) p.history
request_settles p (OnHistory (Edit command)) = change_settles refused.Edit p (edited command p.history)
request_settles p (OnHistory Undo) = change_settles refused.History p (undone p.history)
request_settles p (OnHistory Redo) = change_settles refused.History p (redone p.history)
request_settles p (OnHistory (SetMark name)) = change_settles refused.History p (marked name p.history)
request_settles p (OnHistory (TakeMark name)) = change_settles refused.History p (unmarked name p.history)
request_settles p (OnHistory (GoBack name)) = change_settles refused.History p (gone_back name p.history)
request_settles p (OnHistory Begin) = change_settles refused.History p (opened p.history)
request_settles p (OnHistory End) = change_settles refused.History p (closed p.history)
request_settles p (OnHistory Cancel) = change_settles refused.History p (cancelled p.history)
request_settles p ListMarks = look_settles p (Ok (mark_lines p.history))
request_settles p PrintHistory = look_settles p (Ok (history_lines p.history))
request_settles p Size = look_settles p (Ok (size_line (standing_document p.history)))
request_settles p (Lists what) = look_settles p (listed what (standing_document p.history))

answer_asks : (p : Progress) (answer : Result (Option Request) ParseError) → (answered_by p answer).history ≡ asked_all (asked_in answer) p.history
answer_asks p (Ok None) = refl
answer_asks p (Ok (Some request)) = request_settles p request
answer_asks p (Err error) = refl

line_asks : (p : Progress) (line : List ℕ) → (after_line p line).history ≡ asked_all (asked_in (answer_to line)) p.history
line_asks p line = answer_asks p (answer_to line)

pub asked_joined : (requests more : List HistoryRequest) (history : History) → asked_all (requests ++ more) history ≡ asked_all more (asked_all requests history)
asked_joined [] more history = refl
asked_joined (request ∷ requests) more history = asked_joined requests more (asked request history)

pub lines_are_requests : LinesAreRequests
lines_are_requests p [] = refl
lines_are_requests p (line ∷ lines) =
    lines_are_requests (after_line p line) lines
    ∙ ap (asked_all (requests_of lines)) (line_asks p line)
    ∙ sym (asked_joined (asked_in (answer_to line)) (requests_of lines) p.history)

-- ---- what each valid request keeps

module _ (Holds : History → Type 0) (kept : (request : HistoryRequest) (history : History) → IsRequest request → Holds history → Holds (asked request history)) where
  kept_by_all : (requests : List HistoryRequest) (history : History) → AllByRecursion IsRequest requests → Holds history → Holds (asked_all requests history)
  kept_by_all [] history valid holds = holds
  kept_by_all (request ∷ requests) history valid holds = kept_by_all requests (asked request history) valid.1 (kept request history valid.0 holds)

  kept_by_line : (p : Progress) (line : List ℕ) → Holds p.history → Holds (after_line p line).history
  kept_by_line p line holds = subst Holds (sym (line_asks p line)) (kept_by_all (asked_in (answer_to line)) p.history (lines_ask_validly line) holds)

  pub kept_by_lines : (strict : Bool) (p : Progress) (lines : List (List ℕ)) → Holds p.history → Holds (after_lines strict p lines).history
  kept_by_lines strict p [] holds = holds
  kept_by_lines strict p (line ∷ lines) holds =
      elim (cases_Bool (is_over strict p)) [
        | inl over ↦ rw over holds
        | inr on ↦ rw on (kept_by_lines strict (after_line p line) lines (kept_by_line p line holds))
      ]

  -- the same where growths may be refused, and requests stopped
  module _ (kept_by_stop : (request : Request) (taken : ℕ) (history between : History) → MayStop request history taken between → Holds history → Holds between) where
    kept_by_next : (p : Progress) (line : List ℕ) (q : Progress) → MayFollow p line q → Holds p.history → Holds q.history
    kept_by_next p line q (inl follows) holds = subst (λ (r : Progress). Holds r.history) (sym follows) (kept_by_line p line holds)
    kept_by_next p line q (inr (inl (may, follows))) holds = subst (λ (r : Progress). Holds r.history) (sym follows) holds
    kept_by_next p line q (inr (inr stop)) holds =
        subst (λ (r : Progress). Holds r.history) (sym stop.stopped) (kept_by_stop stop.request stop.taken p.history stop.between stop.stops holds)

    pub kept_by_walk : (strict : Bool) (p : Progress) (lines : List (List ℕ)) (q : Progress) → Walk strict p lines q → Holds p.history → Holds q.history
    kept_by_walk strict p [] q walk holds = subst (λ (r : Progress). Holds r.history) (sym walk) holds
    kept_by_walk strict p (line ∷ lines) q walk holds =
        elim (cases_Bool (is_over strict p)) [
          | inl over ↦ subst (λ (r : Progress). Holds r.history) (sym (walk_over strict p q (line ∷ lines) over walk)) holds
          | inr on ↦ (
              let steps = walk_on strict p q line lines on walk in
              kept_by_walk strict steps.0 lines q steps.2 (kept_by_next p line steps.0 steps.1 holds)
              )
        ]

pub sound_ran : (document : Document) (options : Options) (script : List ℕ) → 1 ≤ options.depth → IsSound (ran document options script).history
sound_ran document options script some =
    kept_by_lines IsSound (λ request history valid. stays_sound.1 request history) options.strict (at_first document options.depth) (lines_of script) (stays_sound.0 document options.depth some)
