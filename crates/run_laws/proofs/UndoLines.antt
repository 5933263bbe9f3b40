-- A line with a command, and a line that takes it back.
use Rattle.std.proofs.Common.{◌≡◌, ℕ, Bool, false, List, [], ◌∷◌, ◌++◌, Some, Ok, refl, ap, ◌∙◌, inl, append_assoc}
use Rattle.mvt_document.specs.Plain.{Document}
use Rattle.mvt_document.specs.Wire.{bytes_of}
use Rattle.mvt_meaning.specs.Requests.{Edit, Undo}
use Rattle.tile_arguments.specs.Request.{Request, OnHistory}
use Rattle.tile_script.specs.Line.{answer_to}
use Rattle.tile_lines.specs.Lines.{lines_of, HasNoLineFeed, with_feed, EndsWithALine}
use Rattle.mvt_history_steps.specs.History.{History, with_command, edited_to, edited}
use Rattle.tile_course.specs.declared.refused.Refused.TheVariants as refused
use Rattle.tile_course.specs.Answering.{Answer, answer_of_change, carried_out}
use Rattle.tile_course.specs.Run.{Progress, accepted, answered_by, settled_by, after_line, is_over, after_lines, ran, tile_of}
use Rattle.run_laws.specs.RunLaws.{UndoInARun, UndoInAScript}
use Rattle.tile_course.specs.declared.outcome.Options.{Options}
use Rattle.tile_course.proofs.Prefixes.{prefix_stands}
use Rattle.run_laws.proofs.HistoryLaws.{undo_at_once}
use Rattle.tile_lines.proofs.LineLaws.{lines_only}
use Rattle.run_laws.proofs.LineRequests.{sound_ran}

-- a line whose request is accepted
accepts : (p : Progress) (line : List ℕ) (request : Request) (answer : Answer) → answer_to line ≡ Ok (Some request) → carried_out request p.history ≡ Ok answer → after_line p line ≡ accepted answer p
accepts p line request answer asks e = ap (answered_by p) asks ∙ ap (settled_by p) e

-- two lines that are accepted, in a run that is not over
two_accepted : (strict : Bool) (p : Progress) (line undo : List ℕ) (first second : Answer) → is_over strict p ≡ false → after_line p line ≡ accepted first p → after_line (accepted first p) undo ≡ accepted second (accepted first p) → after_lines strict p (line ∷ undo ∷ []) ≡ accepted second (accepted first p)
two_accepted strict p line undo first second on one two = rw (on, one, on) two

-- a request that prints nothing
abbrev printing_nothing : History → Answer
printing_nothing history = record { lines = []; history = history }

pub undo_in_a_run : UndoInARun
undo_in_a_run strict p line undo command edited_document sound alone on asks made asks_undo =
    let after = with_command command p.history.group p.history in
    let done : edited command p.history ≡ Ok after = ap (edited_to command p.history) made in
    let back = undo_at_once command p.history after sound alone done in
    let one = printing_nothing after in
    let two = printing_nothing back.0 in
    let first = accepts p line (OnHistory (Edit command)) one asks (ap (answer_of_change refused.Edit) done) in
    let second = accepts (accepted one p) undo (OnHistory Undo) two asks_undo (ap (answer_of_change refused.History) back.1) in
    let both = two_accepted strict p line undo one two on first second in (
      ap (λ (q : Progress). q.replies) both,
      ap tile_of both ∙ ap bytes_of back.2,
    )

two_lines : (line undo : List ℕ) → HasNoLineFeed line → HasNoLineFeed undo → lines_of (with_feed line ++ with_feed undo) ≡ line ∷ undo ∷ []
two_lines line undo first second = lines_only (with_feed line ++ with_feed undo) (line ∷ undo ∷ []) (first, inl (with_feed undo, append_assoc line (10 ∷ []) (with_feed undo), (second, inl ([], refl, refl))))

two_more : (document : Document) (options : Options) (prefix line undo : List ℕ) → EndsWithALine prefix → HasNoLineFeed line → HasNoLineFeed undo → ran document options (prefix ++ with_feed line ++ with_feed undo) ≡ after_lines options.strict (ran document options prefix) (line ∷ undo ∷ [])
two_more document options prefix line undo ends first second =
    ap (ran document options) (append_assoc prefix (with_feed line) (with_feed undo)) ∙ prefix_stands document options prefix (with_feed line ++ with_feed undo) ends ∙ ap (after_lines options.strict (ran document options prefix)) (two_lines line undo first second)

pub undo_in_a_script : UndoInAScript
undo_in_a_script document options prefix line undo command edited_document some ends alone on first second asks made asks_undo =
    let whole = two_more document options prefix line undo ends first second in
    let both = undo_in_a_run options.strict (ran document options prefix) line undo command edited_document (sound_ran document options prefix some) alone on asks made asks_undo in
    (ap (λ (q : Progress). q.replies) whole ∙ both.0, ap tile_of whole ∙ both.1)
