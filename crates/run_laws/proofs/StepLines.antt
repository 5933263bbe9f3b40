-- Lines that open a step and close it, and lines that set a mark and go back to it.
use Rattle.std.proofs.Common.{◌≡◌, ℕ, false, List, [], ◌∷◌, ◌++◌, Some, None, Ok, refl, sym, ap, ap₂, ◌∙◌}
use Rattle.std.proofs.lemmas.Grind.{flat_map-append}
use Rattle.mvt_document.specs.Wire.{bytes_of}
use Rattle.mvt_history_steps.specs.History.{History, with_group, standing_document, gone_back, opened}
use Rattle.mvt_history_steps.specs.Requests.{or_before, asked, asked_all}
use Rattle.run_laws.proofs.NoTrace.{cancel_leaves_no_trace}
use Rattle.run_laws.proofs.HistoryLaws.{step_undoes_whole}
use Rattle.run_laws.proofs.BackToMark.{back_to_mark}
use Rattle.run_laws.proofs.HistoryLaws.{stays_sound}
use Rattle.mvt_meaning.specs.Requests.{Begin, End, Cancel, Undo, SetMark, GoBack}
use Rattle.tile_arguments.specs.Request.{Request, OnHistory}
use Rattle.tile_script.specs.Line.{answer_to}
use Rattle.tile_course.specs.Run.{Progress, after_lines}
use Rattle.run_laws.specs.RunLaws.{asked_of, asked_in, requests_of, CancelInARun, StepUndoneInARun, BackInARun}
use Rattle.run_laws.proofs.LineRequests.{asked_joined, lines_are_requests}

-- ---- a first line, some lines, and others after them

requests_joined : (lines more : List (List ℕ)) → requests_of (lines ++ more) ≡ requests_of lines ++ requests_of more
requests_joined lines more = flat_map-append (λ line. asked_in (answer_to line)) lines more

-- a line asks for this
asks_for : (line : List ℕ) (request : Request) → answer_to line ≡ Ok (Some request) → asked_in (answer_to line) ≡ asked_of request
asks_for line request asks_so = ap asked_in asks_so

-- the history after a first line and others, where the first asks for this
following_first : (p : Progress) (first : List ℕ) (request : Request) (lines : List (List ℕ)) → answer_to first ≡ Ok (Some request) → (after_lines false p (first ∷ lines)).history ≡ asked_all (requests_of lines) (asked_all (asked_of request) p.history)
following_first p first request lines asks_so =
    lines_are_requests p (first ∷ lines)
    ∙ ap (λ requests. asked_all (requests ++ requests_of lines) p.history) (asks_for first request asks_so)
    ∙ asked_joined (asked_of request) (requests_of lines) p.history

-- the same, and more lines
following_lines : (p : Progress) (first : List ℕ) (request : Request) (lines more : List (List ℕ)) → answer_to first ≡ Ok (Some request) → (after_lines false p (first ∷ lines ++ more)).history ≡ asked_all (requests_of more) (asked_all (requests_of lines) (asked_all (asked_of request) p.history))
following_lines p first request lines more asks_so =
    following_first p first request (lines ++ more) asks_so
    ∙ ap (λ requests. asked_all requests (asked_all (asked_of request) p.history)) (requests_joined lines more)
    ∙ asked_joined (requests_of lines) (requests_of more) (asked_all (asked_of request) p.history)

-- what a last line asks for
last_asks : (line : List ℕ) (request : Request) (history : History) → answer_to line ≡ Ok (Some request) → asked_all (requests_of (line ∷ [])) history ≡ asked_all (asked_of request ++ []) history
last_asks line request history asks_so = ap (λ requests. asked_all (requests ++ []) history) (asks_for line request asks_so)

-- what the last two ask for
last_two_ask : (line more : List ℕ) (request next : Request) (history : History) → answer_to line ≡ Ok (Some request) → answer_to more ≡ Ok (Some next) → asked_all (requests_of (line ∷ more ∷ [])) history ≡ asked_all (asked_of request ++ (asked_of next ++ [])) history
last_two_ask line more request next history first second =
    ap₂ (λ requests others. asked_all (requests ++ (others ++ [])) history) (asks_for line request first) (asks_for more next second)

-- ---- steps

opens : (history : History) → history.group ≡ None → opened history ≡ Ok (with_group (Some []) history)
opens history none = rw none refl

pub cancel_in_a_run : CancelInARun
cancel_in_a_run p begin cancel lines none asks_begin leave asks_cancel =
    let requests = requests_of lines in
    let opening = with_group (Some []) p.history in
    let begun : asked Begin p.history ≡ opening = ap (or_before p.history) (opens p.history none) in
    let whole = cancel_leaves_no_trace requests p.history opening (opens p.history none) leave in
    following_lines p begin (OnHistory Begin) lines (cancel ∷ []) asks_begin
    ∙ last_asks cancel (OnHistory Cancel) (asked_all requests (asked Begin p.history)) asks_cancel
    ∙ ap (λ history. asked Cancel (asked_all requests history)) begun
    ∙ ap (or_before (asked_all requests opening)) whole

pub step_undone_in_a_run : StepUndoneInARun
step_undone_in_a_run p begin end undo lines sound none asks_begin leave some asks_end asks_undo =
    let requests = requests_of lines in
    let opening = with_group (Some []) p.history in
    let begun : asked Begin p.history ≡ opening = ap (or_before p.history) (opens p.history none) in
    let within : (after_lines false p (begin ∷ lines)).history ≡ asked_all requests opening = following_first p begin (OnHistory Begin) lines asks_begin ∙ ap (asked_all requests) begun in
    let whole = step_undoes_whole requests p.history opening sound (opens p.history none) leave (λ empty. some (ap (λ (history : History). history.group) within ∙ empty)) in
    let after = whole.0 in
    let back = whole.1 in
    let ended : asked End (asked_all requests opening) ≡ after = ap (or_before (asked_all requests opening)) whole.2 in
    let taken_back : asked Undo after ≡ back = ap (or_before after) whole.3 in
    let all : (after_lines false p (begin ∷ lines ++ end ∷ undo ∷ [])).history ≡ back =
    following_lines p begin (OnHistory Begin) lines (end ∷ undo ∷ []) asks_begin
    ∙ last_two_ask end undo (OnHistory End) (OnHistory Undo) (asked_all requests (asked Begin p.history)) asks_end asks_undo
    ∙ ap (λ history. asked Undo (asked End (asked_all requests history))) begun
    ∙ ap (asked Undo) ended
    ∙ taken_back in
    ap (λ history. bytes_of (standing_document history)) all ∙ ap bytes_of whole.4

-- ---- marks

pub back_in_a_run : BackInARun
back_in_a_run p name mark back lines set gone sound asks_mark sets others asks_back goes =
    let requests = requests_of lines in
    let marks : asked (SetMark name) p.history ≡ set = ap (or_before p.history) sets in
    let between : (after_lines false p (mark ∷ lines)).history ≡ asked_all requests set = following_first p mark (OnHistory (SetMark name)) lines asks_mark ∙ ap (asked_all requests) marks in
    let goes_so : gone_back name (asked_all requests set) ≡ Ok gone = ap (gone_back name) (sym between) ∙ goes in
    let all : (after_lines false p (mark ∷ lines ++ back ∷ [])).history ≡ gone =
    following_lines p mark (OnHistory (SetMark name)) lines (back ∷ []) asks_mark
    ∙ last_asks back (OnHistory (GoBack name)) (asked_all requests (asked (SetMark name) p.history)) asks_back
    ∙ ap (λ history. asked (GoBack name) (asked_all requests history)) marks
    ∙ ap (or_before (asked_all requests set)) goes_so in
    ap (λ history. bytes_of (standing_document history)) all ∙ ap bytes_of (back_to_mark stays_sound name requests p.history set gone sound sets others goes_so)
