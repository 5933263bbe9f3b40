-- How a run ends, from what its steps return.
use Rattle.std.proofs.Common.{◌≡◌, ℕ, ◌+◌, ◌≤◌, Bool, true, false, [], length, refl, arith, sym, ap, subst, ◌∙◌, inl, inr}
use Rattle.std.specs.Prelude.{Result, Ok, Err}
use Rattle.mvt_document.specs.declared.TheConstants.{MAX_FILE}
use Rattle.mvt_document.specs.declared.Document as program
use Rattle.mvt_document.specs.Stands.{document_of}
use Rattle.mvt_document.specs.Wire.{bytes_of}
use Rattle.mvt_document.specs.Opens.{OpensAs}
use Rattle.mvt_document.specs.Settle.{settle}
use Rattle.tile_device.specs.Seen.{Seen, Intake, Output, Reads, Writes, nothing_read, written}
use Rattle.tile_device.proofs.Sending.{receives_nothing}
use Rattle.tile_device.proofs.Supplying.{supplies_nothing}
use Rattle.tile_course.specs.Course.{Course, Ends, IsEdited, IsWritten, OpensAgain, RepliesToAll, StopsAtTile, start_of}
use Rattle.tile_course.specs.Headline.{Devices, Runs}
use Rattle.mvt_history_steps.specs.History.{History, standing_document}
use Rattle.tile_course.specs.Outcomes.{edited_outcome, opening_outcome, script_outcome, writing_outcome}
use Rattle.mvt_history_steps.specs.Session.{StandsFor}
use Rattle.tile_run.specs.Steps.{Moment, Opening, OpensTile, CarriesOutScript, WritesTile}
use Rattle.tile_run.specs.declared.editor.Editor.{Editor}
use Rattle.tile_course.specs.declared.outcome.Options.{Options}
use Rattle.tile_course.specs.declared.outcome.Outcome.{Outcome}
use Rattle.tile_course.specs.declared.outcome.Outcome.TheVariants as outcomes
use Rattle.tile_course.specs.declared.outcome.ScriptStop.{ScriptStop}
use Rattle.tile_course.specs.declared.outcome.ScriptStop.TheVariants as script_stops
use Rattle.tile_course.specs.declared.outcome.Unopened.{Unopened}
use Rattle.tile_course.specs.declared.outcome.Unopened.TheVariants as unopened
use Rattle.tile_course.specs.declared.outcome.Unwritten.{Unwritten}
use Rattle.tile_course.specs.declared.outcome.Unwritten.TheVariants as unwritten
use Rattle.tile_course.specs.declared.limits.TheConstants.{MAX_RETRIES}
use Rattle.tile_run.proofs.Reading.{all_replies}

abbrev seen : Seen → Seen → Seen → Seen → Devices
seen tile script replies out = record { tile = tile; script = script; replies = replies; out = out }

-- ---- with the tile

abbrev at_tile : Intake → Course
at_tile tile = record { tile = tile; script = nothing_read; replies = written 0 []; out = written 0 [] }

stops_at_tile : (tile : Intake) → StopsAtTile (at_tile tile)
stops_at_tile tile = record { script = refl; replies = all_replies 0 []; out = all_replies 0 [] }

opening_ends : (options : Options) (stop : Unopened) (tile : Intake) → OpensTile (Err stop) tile → Ends options (opening_outcome stop) (at_tile tile)
opening_ends options unopened.Device tile opens = (opens, stops_at_tile tile)
opening_ends options (unopened.Refused fault) tile opens = (opens.0, opens.1, stops_at_tile tile)
opening_ends options unopened.NoMemory tile opens = record { untroubled = opens; replied = inl (refl, all_replies 0 []); out = all_replies 0 [] }

-- a run that reads and writes nothing else
runs_at_tile : (options : Options) (t0 t1 s r o : Seen) (before after : ℕ) (tile : Intake) (outcome : Outcome) → before ≡ MAX_RETRIES → length tile.bytes ≤ MAX_FILE + 1
    → Reads t0 t1 before after tile → Ends options outcome (at_tile tile) → Runs options (seen t0 s r o) (seen t1 s r o) outcome
runs_at_tile options t0 t1 s r o before after tile outcome all within reads ends = record {
  course = at_tile tile;
  ends = ends;
  patient = record {
    within = omega (arith, all, reads.pays.spent);
    tile = λ e. let none = reads.pays.last e in omega (arith, all, reads.pays.spent, none);
    script = λ e. absurd cc;
    replies = λ e. absurd cc;
    out = λ e. absurd cc;
  };
  tile = reads.supplies;
  script = supplies_nothing s;
  replies = receives_nothing r;
  out = receives_nothing o;
  tile_within = within;
  script_within = omega arith;
}

pub runs_to_tile : (options : Options) (t0 t1 s r o : Seen) (before after : ℕ) (stop : Unopened) (outcome : Outcome) → before ≡ MAX_RETRIES
    → Opening t0 t1 before after (Err stop) → outcome ≡ opening_outcome stop → Runs options (seen t0 s r o) (seen t1 s r o) outcome
runs_to_tile options t0 t1 s r o before after stop outcome all opening is =
    let tile = opening.0 in
    let ends = subst (λ (t : Outcome). Ends options t (at_tile tile)) (sym is) (opening_ends options stop tile opening.2) in
    runs_at_tile options t0 t1 s r o before after tile outcome all opening.1 opening.3 ends

-- the tile opened, and memory was refused for what the session keeps
pub runs_to_start : (options : Options) (t0 t1 s r o : Seen) (before after : ℕ) (document : program.Document) → before ≡ MAX_RETRIES
    → Opening t0 t1 before after (Ok document) → Runs options (seen t0 s r o) (seen t1 s r o) outcomes.NoMemory
runs_to_start options t0 t1 s r o before after document all opening =
    runs_at_tile options t0 t1 s r o before after opening.0 outcomes.NoMemory all opening.1 opening.3
    (record { untroubled = opening.2.untroubled; replied = inl (refl, all_replies 0 []); out = all_replies 0 [] })

-- ---- with the script or its replies

-- what carrying out the script of a tile that opened takes
abbrev pub CarryingOut : Options → program.Document → Moment → Moment → Editor → Result (Unit {0}) ScriptStop → Type 0
CarryingOut options document before after editor result = CarriesOutScript options.strict (start_of options (document_of document)) before after editor result

script_ends : (options : Options) (stop : ScriptStop) (t0 t1 : Seen) (before : ℕ) (start end : Moment) (document : program.Document) (editor : Editor)
    → (opening : Opening t0 t1 before start.retries (Ok document))
    → (c : CarryingOut options document start end editor (Err stop))
    → Ends options (script_outcome stop) (record { tile = opening.0; script = c.script; replies = c.replies; out = written 0 [] })
script_ends options script_stops.Script t0 t1 before start end document editor opening c = record { document = document_of document; opened = opening.2; between = c.ends; out = all_replies 0 [] }
script_ends options script_stops.Replies t0 t1 before start end document editor opening c = record { document = document_of document; opened = opening.2; between = c.ends; out = all_replies 0 [] }
script_ends options script_stops.Strict t0 t1 before start end document editor opening c = record { document = document_of document; opened = opening.2; between = c.ends; out = all_replies 0 [] }
script_ends options script_stops.NoMemory t0 t1 before start end document editor opening c = record { untroubled = opening.2.untroubled; replied = inl c.ends; out = all_replies 0 [] }

pub runs_to_script : (options : Options) (t0 t1 o : Seen) (before : ℕ) (start end : Moment) (document : program.Document) (editor : Editor) (stop : ScriptStop) (outcome : Outcome)
    → before ≡ MAX_RETRIES → Opening t0 t1 before start.retries (Ok document) → CarryingOut options document start end editor (Err stop)
    → outcome ≡ script_outcome stop → Runs options (seen t0 start.script start.replies o) (seen t1 end.script end.replies o) outcome
runs_to_script options t0 t1 o before start end document editor stop outcome all opening c is =
    let tile = opening.0 in
    let reads = opening.3 in
    let course : Course = record { tile = tile; script = c.script; replies = c.replies; out = written 0 [] } in
    record {
      course = course;
      ends = subst (λ (t : Outcome). Ends options t course) (sym is) (script_ends options stop t0 t1 before start end document editor opening c);
      patient = record {
        within = omega (arith, all, reads.pays.spent, c.spent);
        tile = λ e. let no = sym opening.2.untroubled ∙ e in absurd cc;
        script = λ e. let none = c.last_read e in omega (arith, all, reads.pays.spent, c.spent, none);
        replies = λ e. let none = c.last_write e in omega (arith, all, reads.pays.spent, c.spent, none);
        out = λ e. absurd cc;
      };
      tile = reads.supplies;
      script = c.supplies;
      replies = c.receives;
      out = receives_nothing o;
      tile_within = opening.1;
      script_within = c.within;
    }

-- ---- with the tile to write

-- what writing the document of the session takes
abbrev pub Writing : program.Document → Seen → Seen → ℕ → ℕ → Result (Unit {0}) Unwritten → Type 0
Writing document o0 o1 before after result = (out : Output) × WritesTile (bytes_of (document_of document)) out result × Writes o0 o1 before after out

-- the document is the standing one of the history of the session
abbrev pub IsPresent : Editor → program.Document → Type 0
IsPresent editor document = (history : History) → StandsFor editor.session history → document_of document ≡ standing_document history

module _ (options : Options) (t0 t1 o0 o1 : Seen) (before last : ℕ) (start end : Moment) (read edited : program.Document) (editor : Editor) (all : before ≡ MAX_RETRIES)
    (opening : Opening t0 t1 before start.retries (Ok read)) (carried : CarryingOut options read start end editor (Ok tt)) (present : IsPresent editor edited) where
  abbrev course_with : Output → Course
  course_with out = record { tile = opening.0; script = carried.script; replies = carried.replies; out = out }

  with_out : (outcome : Outcome) (out : Output) → Writes o0 o1 end.retries last out → Ends options outcome (course_with out) → Runs options (seen t0 start.script start.replies o0) (seen t1 end.script end.replies o1) outcome
  with_out outcome out writes ends = record {
    course = course_with out;
    ends = ends;
    patient = record {
      within = omega (arith, all, opening.3.pays.spent, carried.spent, writes.pays.spent);
      tile = λ e. let no = sym opening.2.untroubled ∙ e in absurd cc;
      script = λ e. let no = sym carried.ends.1.untroubled ∙ e in absurd cc;
      replies = λ e. let no = sym carried.ends.1.replies.untroubled ∙ e in absurd cc;
      out = λ e. let none = writes.pays.last e in omega (arith, all, opening.3.pays.spent, carried.spent, writes.pays.spent, none);
    };
    tile = opening.3.supplies;
    script = carried.supplies;
    replies = carried.receives;
    out = writes.receives;
    tile_within = opening.1;
    script_within = carried.within;
  }

  abbrev all_replied : (out : Output) → RepliesToAll options (course_with out)
  all_replied out = record { document = document_of read; opened = opening.2; progress = carried.ends.0; carried = carried.ends.1 }

  file_is : bytes_of (document_of edited) ≡ bytes_of (standing_document carried.ends.0.history)
  file_is = ap bytes_of (present carried.ends.0.history carried.ends.2.stands)

  out_ends : (stop : Unwritten) (out : Output) → WritesTile {A = Unit {0}} (bytes_of (document_of edited)) out (Err stop) → Ends options (writing_outcome stop) (course_with out)
  out_ends unwritten.Device out writes = record {
    through = all_replied out;
    prefix = (writes.0.0, sym file_is ∙ writes.0.1);
    trouble = writes.1;
  }
  out_ends unwritten.NoMemory out writes = record {
    untroubled = opening.2.untroubled;
    replied = inr (all_replied out);
    out = writes;
  }

  pub runs_to_out : (stop : Unwritten) (outcome : Outcome) → Writing edited o0 o1 end.retries last (Err stop) → outcome ≡ writing_outcome stop → Runs options (seen t0 start.script start.replies o0) (seen t1 end.script end.replies o1) outcome
  runs_to_out stop outcome writing is =
      subst (λ (t : Outcome). Runs options (seen t0 start.script start.replies o0) (seen t1 end.script end.replies o1) t) (sym is) (with_out (writing_outcome stop) writing.0 writing.2 (out_ends stop writing.0 writing.1))

  is_written : (out : Output) → IsWritten out (bytes_of (document_of edited)) → IsWritten out (bytes_of (standing_document carried.ends.0.history))
  is_written out writes = subst (IsWritten out) file_is writes

  -- what was written is that of the document that stands
  opens_again : OpensAs (bytes_of (document_of edited)) (settle (document_of edited)) → OpensAgain carried.ends.0
  opens_again opens = subst (λ d. OpensAs (bytes_of d) (settle d)) (present carried.ends.0.history carried.ends.2.stands) opens

  edited_ends : (any_refused : Bool) (course : Course) → IsEdited options any_refused course → Ends options (edited_outcome any_refused) course
  edited_ends false course edited = edited
  edited_ends true course edited = edited

  pub runs_through : (any_refused : Bool) (outcome : Outcome) → Writing edited o0 o1 end.retries last (Ok tt) → OpensAs (bytes_of (document_of edited)) (settle (document_of edited)) → any_refused ≡ editor.any_refused → outcome ≡ edited_outcome any_refused → Runs options (seen t0 start.script start.replies o0) (seen t1 end.script end.replies o1) outcome
  runs_through any_refused outcome writing opens refused is =
      subst (λ (t : Outcome). Runs options (seen t0 start.script start.replies o0) (seen t1 end.script end.replies o1) t) (sym is) (with_out (edited_outcome any_refused) writing.0 writing.2 (edited_ends any_refused (course_with writing.0) (record {
        through = all_replied writing.0;
        refused = sym carried.ends.2.refused ∙ sym refused;
        out = is_written writing.0 writing.1;
        opens = opens_again opens;
      })))
