-- The lines that the bytes of a script complete, one byte after the other.
use Rattle.std.proofs.Common.{◌≡◌, ℕ, ◌+◌, ◌<◌, Bool, true, List, [], ◌∷◌, ◌++◌, length, take, drop, get_or, Some, None, sym, ap, subst, ◌∙◌, append_assoc, take-append-drop}
use Rattle.std.specs.Prelude.{Result, Err}
use Rattle.std.proofs.lemmas.List.{take_more}
use Rattle.tile_lines.specs.Cutting.{Cut, Holding, after_pushes, complete_line, cut_of, nothing_held, pushed}
use Rattle.tile_lines.specs.Lines.{whole_lines}
use Rattle.tile_lines.proofs.Cutting.{after_pushes-snoc, line_completed, none_completed, whole_lines-front}
use Rattle.tile_course.specs.Run.{Progress}
use Rattle.tile_run.specs.Steps.{Moment, AnswersLine, CarriesOutLines, ComesTo, WasGiven}
use Rattle.tile_run.specs.declared.editor.Editor.{Editor}
use Rattle.tile_course.specs.declared.outcome.LineStop.{LineStop}
use Rattle.tile_course.specs.declared.outcome.LineStop.TheVariants as line_stops
use Rattle.tile_run.proofs.Running.{comes_more, over_after, cut_short}

grown : (before bytes : List ℕ) (i : ℕ) → i < length bytes → before ++ take (i + 1) bytes ≡ (before ++ take i bytes) ++ get_or bytes i 0 ∷ []
grown before bytes i within = ap (λ (t : List ℕ). before ++ t) (take_more bytes i 0 within) ∙ sym (append_assoc before (take i bytes) (get_or bytes i 0 ∷ []))

-- one more byte was pushed
pub given_more : (cutter next : Holding) (before bytes : List ℕ) (i : ℕ) → i < length bytes
    → WasGiven cutter (before ++ take i bytes) → next ≡ pushed cutter (get_or bytes i 0) → WasGiven next (before ++ take (i + 1) bytes)
given_more cutter next before bytes i within given push =
    push ∙ ap (λ (h : Holding). pushed h (get_or bytes i 0)) given ∙ sym (after_pushes-snoc nothing_held (before ++ take i bytes) (get_or bytes i 0))
    ∙ ap (after_pushes nothing_held) (sym (grown before bytes i within))

-- it completed no line
pub none_more : (next : Holding) (before bytes : List ℕ) (i : ℕ) → i < length bytes → WasGiven next (before ++ take (i + 1) bytes)
    → None ≡ complete_line next → whole_lines (before ++ take (i + 1) bytes) ≡ whole_lines (before ++ take i bytes)
none_more next before bytes i within given none =
    let e = grown before bytes i within in
    ap whole_lines e ∙ none_completed (before ++ take i bytes) (get_or bytes i 0) (ap (λ (t : List ℕ). complete_line (after_pushes nothing_held t)) (sym e) ∙ ap complete_line (sym given) ∙ sym none)

-- it completed this line
pub some_more : (next : Holding) (before bytes : List ℕ) (i : ℕ) (cut : Cut) → i < length bytes → WasGiven next (before ++ take (i + 1) bytes)
    → Some cut ≡ complete_line next → (line : List ℕ) × (cut_of line ≡ cut) × (whole_lines (before ++ take (i + 1) bytes) ≡ whole_lines (before ++ take i bytes) ++ line ∷ [])
some_more next before bytes i cut within given some =
    let e = grown before bytes i within in
    let found = line_completed (before ++ take i bytes) (get_or bytes i 0) cut (ap (λ (t : List ℕ). complete_line (after_pushes nothing_held t)) (sym e) ∙ ap complete_line (sym given) ∙ sym some) in
    (found.0, found.1, ap whole_lines e ∙ found.2)

-- the lines of the other bytes come after it
others_after : (before bytes : List ℕ) (i : ℕ) → (others : List (List ℕ)) × (whole_lines (before ++ bytes) ≡ whole_lines (before ++ take i bytes) ++ others)
others_after before bytes i =
    let found = whole_lines-front (before ++ take i bytes) (drop i bytes) in
    (found.0, ap (λ (t : List ℕ). whole_lines (before ++ t)) (sym (take-append-drop i bytes)) ∙ ap whole_lines (sym (append_assoc before (take i bytes) (drop i bytes))) ∙ found.1)

-- the line that was completed ended the run
pub stops_there : (strict : Bool) (start : Progress) (before bytes line : List ℕ) (i : ℕ) (a b c : Moment) (editor after : Editor) (stop : LineStop)
    → whole_lines (before ++ take (i + 1) bytes) ≡ whole_lines (before ++ take i bytes) ++ line ∷ []
    → (to : ComesTo strict start (whole_lines (before ++ take i bytes)) a b editor)
    → AnswersLine b c after strict line to.comes.progress (Err stop)
    → CarriesOutLines strict start (whole_lines (before ++ bytes)) a c after (Err stop)
stops_there strict start before bytes line i a b c editor after line_stops.Strict whole to step =
    let others = others_after before bytes (i + 1) in
    over_after strict start (whole_lines (before ++ take (i + 1) bytes)) (whole_lines (before ++ bytes)) others.0 a c others.1
    (comes_more strict true start (whole_lines (before ++ take i bytes)) (whole_lines (before ++ take (i + 1) bytes)) line a b c editor after whole to step)
stops_there strict start before bytes line i a b c editor after line_stops.Replies whole to step =
    let others = others_after before bytes (i + 1) in
    let all : whole_lines (before ++ bytes) ≡ whole_lines (before ++ take i bytes) ++ line ∷ others.0 =
    others.1 ∙ ap (λ (ls : List (List ℕ)). ls ++ others.0) whole ∙ append_assoc (whole_lines (before ++ take i bytes)) (line ∷ []) others.0 in
    cut_short strict start (whole_lines (before ++ take i bytes)) (whole_lines (before ++ bytes)) others.0 line a b c editor all to step

pub stops_so : (strict : Bool) (start : Progress) (lines : List (List ℕ)) (a c : Moment) (after : Editor) (stop : LineStop) (q : Result (Unit {0}) LineStop)
    → q ≡ Err stop → CarriesOutLines strict start lines a c after (Err stop) → CarriesOutLines strict start lines a c after q
stops_so strict start lines a c after stop q is stops = subst (λ (r : Result (Unit {0}) LineStop). CarriesOutLines strict start lines a c after r) (sym is) stops
