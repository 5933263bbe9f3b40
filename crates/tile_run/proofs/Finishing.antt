-- The last line of a script that was read whole.
use Rattle.std.proofs.Common.{◌≡◌, ℕ, ◌-◌, Bool, true, false, List, [], ◌∷◌, ◌++◌, Some, None, refl, sym, ap, subst, ◌∙◌, arith}
use Rattle.std.specs.Prelude.{Result, Ok, Err}
use Rattle.tile_device.specs.Seen.{Seen, nothing_read, written}
use Rattle.tile_device.proofs.Sending.{receives_nothing}
use Rattle.tile_device.proofs.Supplying.{supplies_nothing}
use Rattle.tile_lines.specs.Cutting.{Cut, Holding, cut_of, rest_of}
use Rattle.tile_lines.specs.Lines.{lines_of, whole_lines}
use Rattle.tile_lines.proofs.Cutting.{rest_is_last, no_rest}
use Rattle.tile_course.specs.Run.{Progress}
use Rattle.tile_run.specs.Steps.{Moment, AnswersLine, Advances, ComesTo, CarriesOutScript, ReadsWhole}
use Rattle.tile_run.specs.declared.editor.Editor.{Editor}
use Rattle.tile_course.specs.declared.outcome.LineStop.{LineStop}
use Rattle.tile_course.specs.declared.outcome.LineStop.TheVariants as line_stops
use Rattle.tile_course.specs.declared.outcome.ScriptStop.{ScriptStop}
use Rattle.tile_course.specs.declared.outcome.ScriptStop.TheVariants as script_stops
use Rattle.tile_course.specs.Outcomes.{script_stop_of}
use Rattle.tile_run.proofs.Running.{comes_more, comes_to_more, cut_short}
use Rattle.tile_run.proofs.Reading.{all_replies}

-- memory was refused before the first read
pub no_memory : (strict : Bool) (start : Progress) (now : Moment) (editor : Editor) → CarriesOutScript strict start now now editor (Err script_stops.NoMemory)
no_memory strict start now editor = record {
  script = nothing_read;
  within = omega arith;
  supplies = supplies_nothing now.script;
  replies = written 0 [];
  receives = receives_nothing now.replies;
  spent = omega arith;
  last_read = λ e. absurd cc;
  last_write = λ e. absurd cc;
  ends = (refl, all_replies 0 []);
}

-- all lines were carried out
all_done : (strict : Bool) (start : Progress) (before now : Moment) (replies : Seen) (less : ℕ) (editor after : Editor) (cutter : Holding) (whole : ReadsWhole strict start before now editor cutter)
    → ComesTo strict start (lines_of whole.bytes) (record before { retries = whole.allowed }) (record now { replies = replies; retries = less }) after
    → CarriesOutScript strict start before (record now { replies = replies; retries = less }) after (Ok tt)
all_done strict start before now replies less editor after cutter whole to =
    let c = to.comes in
    record {
      script = record { bytes = whole.bytes; is_whole = true; retries = whole.retries; trouble = None };
      within = omega (arith, whole.within);
      supplies = whole.supplies;
      replies = written (whole.allowed - less) c.progress.replies;
      receives = c.sends.receives;
      spent = omega (arith, whole.share, c.sends.pays.spent);
      last_read = λ e. absurd cc;
      last_write = λ e. absurd cc;
      ends = (c.progress, record { whole = refl; within = whole.within; untroubled = refl; walk = c.walk; goes_on = c.over; replies = all_replies (whole.allowed - less) c.progress.replies }, to.at);
    }

-- nothing is left after the last line feed
pub ends_with_feed : (strict : Bool) (start : Progress) (before now : Moment) (editor : Editor) (cutter : Holding)
    → ReadsWhole strict start before now editor cutter → None ≡ rest_of cutter → CarriesOutScript strict start before now editor (Ok tt)
ends_with_feed strict start before now editor cutter whole none =
    let e = no_rest whole.bytes (ap rest_of (sym whole.given) ∙ sym none) in
    all_done strict start before now now.replies now.retries editor editor cutter whole
    (subst (λ (ls : List (List ℕ)). ComesTo strict start ls (record before { retries = whole.allowed }) now editor) (sym e) whole.comes)

-- what is left is a line
pub last_line_in : (strict : Bool) (start : Progress) (before now : Moment) (editor : Editor) (cutter : Holding) (cut : Cut)
    → (whole : ReadsWhole strict start before now editor cutter) → Some cut ≡ rest_of cutter
    → (line : List ℕ) × (cut_of line ≡ cut) × (lines_of whole.bytes ≡ whole_lines whole.bytes ++ line ∷ [])
last_line_in strict start before now editor cutter cut whole some = rest_is_last whole.bytes cut (ap rest_of (sym whole.given) ∙ sym some)

pub ends_with_line : (strict : Bool) (start : Progress) (before now : Moment) (replies : Seen) (less : ℕ) (editor after : Editor) (cutter : Holding) (line : List ℕ)
    → (whole : ReadsWhole strict start before now editor cutter) → lines_of whole.bytes ≡ whole_lines whole.bytes ++ line ∷ []
    → Advances now (record now { replies = replies; retries = less }) after strict line whole.comes.comes.progress false
    → CarriesOutScript strict start before (record now { replies = replies; retries = less }) after (Ok tt)
ends_with_line strict start before now replies less editor after cutter line whole last step =
    all_done strict start before now replies less editor after cutter whole
    (comes_to_more strict start (whole_lines whole.bytes) (lines_of whole.bytes) line (record before { retries = whole.allowed }) now (record now { replies = replies; retries = less }) editor after last whole.comes step)

-- that line ended the run
pub stops_at_last_line : (strict : Bool) (start : Progress) (before now : Moment) (replies : Seen) (less : ℕ) (editor after : Editor) (cutter : Holding) (line : List ℕ) (stop : LineStop)
    → (whole : ReadsWhole strict start before now editor cutter) → lines_of whole.bytes ≡ whole_lines whole.bytes ++ line ∷ []
    → AnswersLine now (record now { replies = replies; retries = less }) after strict line whole.comes.comes.progress (Err stop)
    → CarriesOutScript strict start before (record now { replies = replies; retries = less }) after (Err (script_stop_of stop))
stops_at_last_line strict start before now replies less editor after cutter line line_stops.Strict whole last step =
    let c = comes_more strict true start (whole_lines whole.bytes) (lines_of whole.bytes) line (record before { retries = whole.allowed }) now (record now { replies = replies; retries = less }) editor after last whole.comes step in
    record {
      script = record { bytes = whole.bytes; is_whole = true; retries = whole.retries; trouble = None };
      within = omega (arith, whole.within);
      supplies = whole.supplies;
      replies = written (whole.allowed - less) c.progress.replies;
      receives = c.sends.receives;
      spent = omega (arith, whole.share, c.sends.pays.spent);
      last_read = λ e. absurd cc;
      last_write = λ e. absurd cc;
      ends = record { within = λ e. whole.within; untroubled = refl; progress = c.progress; walk = c.walk; over = c.over; replies = all_replies (whole.allowed - less) c.progress.replies };
    }
stops_at_last_line strict start before now replies less editor after cutter line line_stops.Replies whole last step =
    let k = cut_short strict start (whole_lines whole.bytes) (lines_of whole.bytes) [] line (record before { retries = whole.allowed }) now (record now { replies = replies; retries = less }) editor last whole.comes step in
    record {
      script = record { bytes = whole.bytes; is_whole = true; retries = whole.retries; trouble = None };
      within = omega (arith, whole.within);
      supplies = whole.supplies;
      replies = k.0;
      receives = k.2.receives;
      spent = omega (arith, whole.share, k.2.pays.spent);
      last_read = λ e. absurd cc;
      last_write = k.2.pays.last;
      ends = record { untroubled = refl; cut_short = k.1 };
    }

pub script_ends_as : (strict : Bool) (start : Progress) (before after : Moment) (editor : Editor) (stop : ScriptStop) (q : Result (Unit {0}) ScriptStop) → q ≡ Err stop
    → CarriesOutScript strict start before after editor (Err stop) → CarriesOutScript strict start before after editor q
script_ends_as strict start before after editor stop q is carries = subst (CarriesOutScript strict start before after editor) (sym is) carries
