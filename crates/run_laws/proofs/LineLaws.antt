-- What lines change, what they add to the replies, and how strict runs go.
use Rattle.std.proofs.Common.{◌≡◌, ℕ, ◌+◌, true, false, List, [], ◌∷◌, ◌++◌, length, Option, Some, None, Result, Ok, Err, codes, refl, sym, ap, ◌∙◌, inl, inr, length-append, arith}
use Rattle.std.proofs.lemmas.Bool.{cases_Bool}
use Rattle.std.proofs.lemmas.List.{append_cancel_left}
use Rattle.tile_arguments.specs.Request.{Request}
use Rattle.tile_script.specs.Line.{answer_to}
use Rattle.tile_lines.specs.Lines.{lines_of, with_feed}
use Rattle.mvt_document.specs.Wire.{bytes_of}
use Rattle.mvt_history_steps.specs.History.{History, standing_document}
use Rattle.tile_course.specs.Answering.{Answer, carried_out}
use Rattle.tile_course.proofs.AnswerLaws.{looks_leave_history}
use Rattle.tile_course.specs.Replies.{accepted_reply, refused_reply}
use Rattle.tile_course.specs.Run.{Progress, ran, tile_of, settled_by, answered_by, after_line, is_over, after_lines}
use Rattle.run_laws.specs.RunLaws.{RepliesStand, RefusedLinesChangeNothing, SilentLinesChangeNothing, StrictRunsStop, AcceptedRunsAreAlike, RunsAreWalks, LookingChangesNothing}
use Rattle.tile_lines.specs.declared.parse_error.ParseError.{ParseError}
use Rattle.tile_course.specs.declared.refused.Refused.{Refused}
use Rattle.tile_course.proofs.ReplyEnds.{accepted_text, accepted_is_not_refused}
use Rattle.tile_course.proofs.Overs.{over_stays, goes_on}
use Rattle.tile_course.proofs.Prefixes.{after_lines-append, prefix_stands}
use Rattle.tile_course.proofs.Replying.{lines_add}

-- ---- replies

pub replies_stand : RepliesStand
replies_stand document options prefix rest ends =
    let adds = lines_add options.strict (ran document options prefix) (lines_of rest) in
    (adds.reply, ap (λ (q : Progress). q.replies) (prefix_stands document options prefix rest ends) ∙ adds.is)

-- ---- which lines change nothing

settled_refused : (p : Progress) (result : Result Answer Refused) (reason : Refused) → (settled_by p result).replies ≡ p.replies ++ refused_reply (p.lines + 1) reason → ((settled_by p result).history ≡ p.history) × (tile_of (settled_by p result) ≡ tile_of p) × ((settled_by p result).any_refused ≡ true)
settled_refused p (Ok answer) reason e = absurd (accepted_is_not_refused answer.lines (p.lines + 1) reason (append_cancel_left p.replies (accepted_reply answer.lines) (refused_reply (p.lines + 1) reason) e))
settled_refused p (Err other) reason e = (refl, refl, refl)

something : (xs : List ℕ) (b : ℕ) (more : List ℕ) → xs ≡ xs ++ b ∷ more → ⊥
something xs b more e = let longer : length xs ≡ length (xs ++ b ∷ more) = ap length e in omega (arith, length-append xs (b ∷ more))

answer_refused : (p : Progress) (answer : Result (Option Request) ParseError) (reason : Refused) → (answered_by p answer).replies ≡ p.replies ++ refused_reply (p.lines + 1) reason → ((answered_by p answer).history ≡ p.history) × (tile_of (answered_by p answer) ≡ tile_of p) × ((answered_by p answer).any_refused ≡ true)
answer_refused p (Ok None) reason e = absurd (something p.replies _ _ e)
answer_refused p (Ok (Some request)) reason e = settled_refused p (carried_out request p.history) reason e
answer_refused p (Err error) reason e = (refl, refl, refl)

pub refused_lines : RefusedLinesChangeNothing
refused_lines p line reason e = answer_refused p (answer_to line) reason e

-- text that ends with a line feed is not empty
added : (xs ys text : List ℕ) → ys ≡ with_feed text → xs ≡ xs ++ ys → ⊥
added xs ys text whole e =
    let longer : length xs ≡ length (xs ++ ys) = ap length e in
    omega (arith, length-append xs ys, ap length whole, length-append text (10 ∷ []))

settled_silent : (p : Progress) (result : Result Answer Refused) → (settled_by p result).replies ≡ p.replies → ⊥
settled_silent p (Ok answer) e = added p.replies (accepted_reply answer.lines) (answer.lines ++ codes "ok") (accepted_text answer.lines) (sym e)
settled_silent p (Err reason) e = something p.replies _ _ (sym e)

answer_silent : (p : Progress) (answer : Result (Option Request) ParseError) → (answered_by p answer).replies ≡ p.replies → answered_by p answer ≡ record p { lines = p.lines + 1 }
answer_silent p (Ok None) e = refl
answer_silent p (Ok (Some request)) e = absurd (settled_silent p (carried_out request p.history) e)
answer_silent p (Err error) e = absurd (something p.replies _ _ (sym e))

pub silent_lines : SilentLinesChangeNothing
silent_lines p line e = answer_silent p (answer_to line) e

-- a request that looks is counted and replied to
settled_looks : (p : Progress) (result : Result Answer Refused) → ((answer : Answer) → result ≡ Ok answer → answer.history ≡ p.history) → ((settled_by p result).history ≡ p.history) × (tile_of (settled_by p result) ≡ tile_of p) × ((settled_by p result).lines ≡ p.lines + 1)
settled_looks p (Ok answer) stays = let same = stays answer refl in (same, ap (λ (history : History). bytes_of (standing_document history)) same, refl)
settled_looks p (Err reason) stays = (refl, refl, refl)

pub looking_lines : LookingChangesNothing
looking_lines p line request asks looks =
    let after : after_line p line ≡ settled_by p (carried_out request p.history) = ap (answered_by p) asks in
    let settled = settled_looks p (carried_out request p.history) (λ answer e. looks_leave_history request p.history answer looks e) in
    (ap (λ (q : Progress). q.history) after ∙ settled.0, ap tile_of after ∙ settled.1, ap (λ (q : Progress). q.lines) after ∙ settled.2)

-- ---- strict runs

pub runs_stop : StrictRunsStop
runs_stop p lines more over = after_lines-append true p lines more ∙ over_stays true (after_lines true p lines) more over

-- once a line was refused, that stays noted
settled_stays : (p : Progress) (result : Result Answer Refused) → p.any_refused ≡ true → (settled_by p result).any_refused ≡ true
settled_stays p (Ok answer) refused = refused
settled_stays p (Err reason) refused = refl

refused_stays : (p : Progress) (answer : Result (Option Request) ParseError) → p.any_refused ≡ true → (answered_by p answer).any_refused ≡ true
refused_stays p (Ok None) refused = refused
refused_stays p (Ok (Some request)) refused = settled_stays p (carried_out request p.history) refused
refused_stays p (Err error) refused = refl

lines_stay_refused : (p : Progress) (lines : List (List ℕ)) → p.any_refused ≡ true → (after_lines false p lines).any_refused ≡ true
lines_stay_refused p [] refused = refused
lines_stay_refused p (line ∷ lines) refused = lines_stay_refused (after_line p line) lines (refused_stays p (answer_to line) refused)

pub runs_are_alike : AcceptedRunsAreAlike
runs_are_alike p [] accepted = refl
runs_are_alike p (line ∷ lines) accepted =
    elim (cases_Bool p.any_refused) [
      | inl refused ↦ absurd (let stays = lines_stay_refused p (line ∷ lines) refused in cc)
      | inr none ↦ goes_on true p line lines none ∙ runs_are_alike (after_line p line) lines accepted
    ]

-- ---- walks

pub runs_are_walks : RunsAreWalks
runs_are_walks strict p [] = refl
runs_are_walks strict p (line ∷ lines) =
    elim (cases_Bool (is_over strict p)) [
      | inl over ↦ rw over refl
      | inr on ↦ rw on (after_line p line, inl refl, runs_are_walks strict (after_line p line) lines)
    ]
