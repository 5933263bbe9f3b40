-- A script that is read piece by piece, and its lines that are carried out.
use Rattle.std.proofs.Common.{◌≡◌, ◌≢◌, ℕ, ◌+◌, ◌-◌, ◌<◌, ◌≤◌, Bool, true, false, ◌&&◌, ◌==◌, List, [], ◌++◌, length, take, drop, min, ◌⊎◌, Some, None, refl, sym, ap, subst, ◌∙◌, inl, inr, arith, append-nil, length-append, length-take-le}
use Rattle.std.specs.Prelude.{Result, Ok, Err, nat_lt}
use Rattle.std.proofs.lemmas.Bool.Decides.{nat_tests}
use Rattle.std.proofs.Math.Seq.{take-append-add}
use Rattle.std.proofs.lemmas.Bool.{cases_lt, and_right}
use Rattle.std.proofs.lemmas.List.{take_all, take-append-le, take-append-drop}
use Rattle.mvt_document.specs.Plain.{Document}
use Rattle.tile_device.specs.Seen.{Seen, Intake, Reads, Receives, Sends, Supplies, written}
use Rattle.tile_device.specs.Transfer.{piece_of}
use Rattle.tile_device.specs.declared.device.Trouble.{Trouble}
use Rattle.tile_device.proofs.Sending.{sends_nothing}
use Rattle.tile_device.proofs.Supplying.{part, supplies_nothing, supplies_more}
use Rattle.tile_lines.specs.Cutting.{Holding, nothing_held}
use Rattle.tile_lines.specs.Lines.{whole_lines}
use Rattle.tile_course.specs.Course.{IsCutShort, IsWritten}
use Rattle.tile_course.specs.Run.{Progress, at_first, Walk}
use Rattle.tile_run.specs.Steps.{Moment, IsAt, ComesTo, CarriesOutLines, CarriesOutPieces, CarriesOutScript, ReadsWhole, WasGiven}
use Rattle.tile_run.specs.declared.editor.Editor.{Editor}
use Rattle.tile_course.specs.declared.outcome.LineStop.{LineStop}
use Rattle.tile_course.specs.declared.outcome.LineStop.TheVariants as line_stops
use Rattle.tile_course.specs.declared.outcome.ScriptStop.{ScriptStop}
use Rattle.tile_course.specs.declared.outcome.ScriptStop.TheVariants as script_stops
use Rattle.tile_course.specs.Outcomes.{script_stop_of}
use Rattle.tile_course.specs.declared.limits.TheConstants.{MAX_SCRIPT}

-- So much of the script was read, and its whole lines were carried out. What reading took of the retries was not
-- allowed for the replies.
pub record SoFar (strict : Bool) (start : Progress) (before now : Moment) (room : ℕ) (editor : Editor) (cutter : Holding) : Type 0 where
  pub bytes : List ℕ
  pub counted : length bytes + room ≡ MAX_SCRIPT
  pub given : WasGiven cutter bytes
  pub retries : ℕ
  pub supplies : Supplies before.script now.script (part retries bytes)
  pub allowed : ℕ
  pub share : allowed + retries ≡ before.retries
  pub comes : ComesTo strict start (whole_lines bytes) (record before { retries = allowed }) now editor

pub so_far_none : (strict : Bool) (document : Document) (depth : ℕ) (now : Moment) (editor : Editor) (cutter : Holding) → cutter ≡ nothing_held
    → IsAt editor strict (at_first document depth) → SoFar strict (at_first document depth) now now MAX_SCRIPT editor cutter
so_far_none strict document depth now editor cutter empty at = record {
  bytes = [];
  counted = omega arith;
  given = empty;
  retries = 0;
  supplies = supplies_nothing now.script;
  allowed = now.retries;
  share = omega arith;
  comes = record {
    comes = record { progress = at_first document depth; walk = refl; over = and_right strict false refl; sends = sends_nothing now.replies now.retries };
    at = at;
  };
}

-- ---- another piece

-- another piece was read after these bytes, whose whole lines were carried out
pub record Got (strict : Bool) (start : Progress) (before now : Moment) (room : ℕ) (editor : Editor) (cutter : Holding) (piece : List ℕ) : Type 0 where
  pub bytes : List ℕ
  pub counted : length bytes + room ≡ MAX_SCRIPT
  pub given : WasGiven cutter bytes
  pub retries : ℕ
  pub supplies : Supplies before.script now.script (part retries (bytes ++ piece))
  pub allowed : ℕ
  pub share : allowed + retries ≡ before.retries
  pub comes : ComesTo strict start (whole_lines bytes) (record before { retries = allowed }) now editor

-- the same was sent with `less` retries less before and after
sends_with_less : (a b : Seen) (n m i j less : ℕ) (bytes : List ℕ) → i + less ≡ n → j + less ≡ m → Sends a b n m bytes None → Sends a b i j bytes None
sends_with_less a b n m i j less bytes before after sends =
    let same : n - m ≡ i - j = omega (arith, before, after) in
    record {
      receives = subst (λ (retries : ℕ). Receives a b (written retries bytes)) same sends.receives;
      pays = record { spent = omega (arith, sends.pays.spent); last = λ e. absurd cc };
    }

-- with fewer retries allowed before and after, in whatever state the script is
comes_with_less : (strict : Bool) (start : Progress) (lines : List (List ℕ)) (a b : Moment) (first now : Seen) (i j less : ℕ) (editor : Editor) → i + less ≡ a.retries → j + less ≡ b.retries
    → ComesTo strict start lines a b editor → ComesTo strict start lines (record a { script = first; retries = i }) (record b { script = now; retries = j }) editor
comes_with_less strict start lines a b first now i j less editor before after to =
    let c = to.comes in
    record {
      comes = record { progress = c.progress; walk = c.walk; over = c.over; sends = sends_with_less a.replies b.replies a.retries b.retries i j less c.progress.replies before after c.sends };
      at = to.at;
    }

nonzero : (n : ℕ) (more : Bool) → n ≢ 0 → ((n == 0) && more) ≡ false
nonzero n more h = let apart : (n == 0) ≡ false = grind (arith, nat_tests) in rw apart refl

-- the part that a read gave
some_part : (n used : ℕ) (buffer : List ℕ) → n ≢ 0 → piece_of (Ok n) buffer used ≡ part used (take n buffer)
some_part n used buffer h = ap (λ (whole : Bool). record { bytes = take n buffer; is_whole = whole; retries = used; trouble = None }) (nonzero n (nat_lt 0 (length buffer)) h)

-- what a read takes of the retries is not allowed for the replies
less_allowed : (strict : Bool) (start : Progress) (before now : Moment) (script : Seen) (less room : ℕ) (editor : Editor) (cutter : Holding)
    → (so_far : SoFar strict start before now room editor cutter) → less ≤ now.retries
    → ComesTo strict start (whole_lines so_far.bytes) (record before { retries = so_far.allowed - (now.retries - less) }) (record now { script = script; retries = less }) editor
less_allowed strict start before now script less room editor cutter so_far fewer =
    let used = now.retries - less in
    let spent = so_far.comes.comes.sends.pays.spent in
    comes_with_less strict start (whole_lines so_far.bytes) (record before { retries = so_far.allowed }) now before.script script (so_far.allowed - used) less used editor (omega (arith, so_far.share, spent)) (omega arith) so_far.comes

pub got_piece : (strict : Bool) (start : Progress) (before now : Moment) (script : Seen) (less room n : ℕ) (buffer : List ℕ) (editor : Editor) (cutter : Holding)
    → SoFar strict start before now room editor cutter → n ≢ 0
    → Reads now.script script now.retries less (piece_of (Ok n) buffer (now.retries - less)) → Got strict start before (record now { script = script; retries = less }) room editor cutter (take n buffer)
got_piece strict start before now script less room n buffer editor cutter so_far some reads =
    let used = now.retries - less in
    let spent = so_far.comes.comes.sends.pays.spent in
    record {
      bytes = so_far.bytes;
      counted = so_far.counted;
      given = so_far.given;
      retries = so_far.retries + used;
      supplies = supplies_more before.script now.script script so_far.retries (so_far.retries + used) so_far.bytes (part used (take n buffer)) refl so_far.supplies
          (subst (Supplies now.script script) (some_part n used buffer some) reads.supplies);
      allowed = so_far.allowed - used;
      share = omega (arith, so_far.share, spent, reads.pays.spent);
      comes = less_allowed strict start before now script less room editor cutter so_far (omega (arith, reads.pays.spent));
    }

-- what counts of a script is what it may have
cut_at : (bytes piece : List ℕ) (room n : ℕ) → length bytes + room ≡ MAX_SCRIPT → n ≤ length piece → take MAX_SCRIPT (bytes ++ take n piece) ≡ bytes ++ take (min n room) piece
cut_at bytes piece room n counted within =
    ap (λ (k : ℕ). take k (bytes ++ take n piece)) (sym counted) ∙ take-append-add bytes (take n piece) room ∙ ap (λ (t : List ℕ). bytes ++ t) (prefix (cases_lt room n))
  where
    prefix : (room < n) ⊎ (n ≤ room) → take room (take n piece) ≡ take (min n room) piece
    prefix (inl over) =
        let low : min n room ≡ room = omega arith in
        let long : room ≤ length (take n piece) = omega (arith, length-take-le n piece within) in
        sym (take-append-le room (take n piece) (drop n piece) long) ∙ ap (take room) (take-append-drop n piece) ∙ ap (λ (k : ℕ). take k piece) (sym low)
    prefix (inr all) =
        let low : min n room ≡ n = omega arith in
        let short : length (take n piece) ≤ room = omega (arith, length-take-le n piece within) in
        take_all room (take n piece) short ∙ ap (λ (k : ℕ). take k piece) (sym low)

-- what was passed on of a piece that comes before other bytes
pub passed_on : (buffer following : List ℕ) (k n room : ℕ) → k ≡ min n room → n ≤ length buffer → take k (buffer ++ following) ≡ take (min n room) buffer
passed_on buffer following k n room is within =
    let low : k ≤ length buffer = omega (arith, is) in
    take-append-le k buffer following low ∙ ap (λ (i : ℕ). take i buffer) is

pub all_replies : (retries : ℕ) (bytes : List ℕ) → IsWritten (written retries bytes) bytes
all_replies retries bytes = record { all = refl; untroubled = refl }

counts : (bytes piece passed : List ℕ) (room n : ℕ) → length bytes + room ≡ MAX_SCRIPT → n ≤ length piece → passed ≡ take (min n room) piece → bytes ++ passed ≡ take MAX_SCRIPT (bytes ++ take n piece)
counts bytes piece passed room n counted within is = ap (λ (t : List ℕ). bytes ++ t) is ∙ sym (cut_at bytes piece room n counted within)

-- the lines of the other piece were carried out too
pub so_far_more : (strict : Bool) (start : Progress) (before read : Moment) (replies : Seen) (less room more n : ℕ) (buffer : List ℕ) (editor after : Editor) (cutter next : Holding) (passed : List ℕ)
    → (got : Got strict start before read room editor cutter (take n buffer)) → n ≤ length buffer → more + n ≡ room → passed ≡ take (min n room) buffer
    → WasGiven next (got.bytes ++ passed)
    → ComesTo strict start (whole_lines (got.bytes ++ passed)) (record before { retries = got.allowed }) (record read { replies = replies; retries = less }) after
    → SoFar strict start before (record read { replies = replies; retries = less }) more after next
so_far_more strict start before read replies less room more n buffer editor after cutter next passed got within rest is given comes =
    let low : min n room ≡ n = omega arith in
    let same : got.bytes ++ passed ≡ got.bytes ++ take n buffer = ap (λ (t : List ℕ). got.bytes ++ t) is ∙ ap (λ (k : ℕ). got.bytes ++ take k buffer) low in
    record {
      bytes = got.bytes ++ take n buffer;
      counted = omega (arith, got.counted, length-append got.bytes (take n buffer), length-take-le n buffer within);
      given = subst (WasGiven next) same given;
      retries = got.retries;
      supplies = got.supplies;
      allowed = got.allowed;
      share = got.share;
      comes = subst (λ (bytes : List ℕ). ComesTo strict start (whole_lines bytes) (record before { retries = got.allowed }) (record read { replies = replies; retries = less }) after) same comes;
    }

-- ---- ends

-- the next read met trouble
pub stops_reading : (strict : Bool) (start : Progress) (before now : Moment) (script : Seen) (less room : ℕ) (editor : Editor) (cutter : Holding) (trouble : Trouble)
    → SoFar strict start before now room editor cutter → Reads now.script script now.retries less (piece_of (Err trouble) [] (now.retries - less))
    → CarriesOutScript strict start before (record now { script = script; retries = less }) editor (Err script_stops.Script)
stops_reading strict start before now script less room editor cutter trouble so_far reads =
    let c = so_far.comes.comes in
    let used = now.retries - less in
    let within : length so_far.bytes ≤ MAX_SCRIPT = omega (arith, so_far.counted) in
    let same : take MAX_SCRIPT (so_far.bytes ++ []) ≡ so_far.bytes = ap (take MAX_SCRIPT) (append-nil so_far.bytes) ∙ take_all MAX_SCRIPT so_far.bytes within in
    record {
      script = record { bytes = so_far.bytes ++ []; is_whole = false; retries = so_far.retries + used; trouble = Some trouble };
      within = omega (arith, within, length-append so_far.bytes []);
      supplies = supplies_more before.script now.script script so_far.retries (so_far.retries + used) so_far.bytes (piece_of (Err trouble) [] used) refl so_far.supplies reads.supplies;
      replies = written (so_far.allowed - now.retries) c.progress.replies;
      receives = c.sends.receives;
      spent = omega (arith, so_far.share, c.sends.pays.spent, reads.pays.spent);
      last_read = reads.pays.last;
      last_write = λ e. absurd cc;
      ends = record {
        cause = inl refl;
        cut = refl;
        progress = c.progress;
        walk = subst (λ (bytes : List ℕ). Walk strict start (whole_lines bytes) c.progress) (sym same) c.walk;
        goes_on = c.over;
        replies = all_replies (so_far.allowed - now.retries) c.progress.replies;
      };
    }

-- the other piece has more than a script may have
pub stops_too_long : (strict : Bool) (start : Progress) (before read : Moment) (replies : Seen) (less room n : ℕ) (buffer : List ℕ) (editor after : Editor) (cutter : Holding) (passed : List ℕ)
    → (got : Got strict start before read room editor cutter (take n buffer)) → n ≤ length buffer → room < n → n ≤ room + 1 → passed ≡ take (min n room) buffer
    → ComesTo strict start (whole_lines (got.bytes ++ passed)) (record before { retries = got.allowed }) (record read { replies = replies; retries = less }) after
    → CarriesOutScript strict start before (record read { replies = replies; retries = less }) after (Err script_stops.Script)
stops_too_long strict start before read replies less room n buffer editor after cutter passed got within over by_one is to =
    let c = to.comes in
    let size : length (got.bytes ++ take n buffer) ≡ length got.bytes + n = omega (arith, length-append got.bytes (take n buffer), length-take-le n buffer within) in
    record {
      script = part got.retries (got.bytes ++ take n buffer);
      within = omega (arith, got.counted, size);
      supplies = got.supplies;
      replies = written (got.allowed - less) c.progress.replies;
      receives = c.sends.receives;
      spent = omega (arith, got.share, c.sends.pays.spent);
      last_read = λ e. absurd cc;
      last_write = λ e. absurd cc;
      ends = record {
        cause = inr (omega (arith, got.counted, size));
        cut = refl;
        progress = c.progress;
        walk = subst (λ (bytes : List ℕ). Walk strict start (whole_lines bytes) c.progress) (counts got.bytes buffer passed room n got.counted within is) c.walk;
        goes_on = c.over;
        replies = all_replies (got.allowed - less) c.progress.replies;
      };
    }

-- a line of the other piece ended the run
pub stops_at_line : (strict : Bool) (start : Progress) (before read : Moment) (replies : Seen) (less room n : ℕ) (buffer : List ℕ) (editor after : Editor) (cutter : Holding) (passed : List ℕ) (stop : LineStop)
    → (got : Got strict start before read room editor cutter (take n buffer)) → n ≤ length buffer → n ≤ room + 1 → passed ≡ take (min n room) buffer
    → CarriesOutLines strict start (whole_lines (got.bytes ++ passed)) (record before { retries = got.allowed }) (record read { replies = replies; retries = less }) after (Err stop)
    → CarriesOutScript strict start before (record read { replies = replies; retries = less }) after (Err (script_stop_of stop))
stops_at_line strict start before read replies less room n buffer editor after cutter passed line_stops.Strict got within by_one is c = record {
  script = part got.retries (got.bytes ++ take n buffer);
  within = omega (arith, got.counted, length-append got.bytes (take n buffer), length-take-le n buffer within);
  supplies = got.supplies;
  replies = written (got.allowed - less) c.progress.replies;
  receives = c.sends.receives;
  spent = omega (arith, got.share, c.sends.pays.spent);
  last_read = λ e. absurd cc;
  last_write = λ e. absurd cc;
  ends = record {
    within = λ e. absurd cc;
    untroubled = refl;
    progress = c.progress;
    walk = subst (λ (bytes : List ℕ). Walk strict start (whole_lines bytes) c.progress) (counts got.bytes buffer passed room n got.counted within is) c.walk;
    over = c.over;
    replies = all_replies (got.allowed - less) c.progress.replies;
  };
}
stops_at_line strict start before read replies less room n buffer editor after cutter passed line_stops.Replies got within by_one is (output, short, writes) = record {
  script = part got.retries (got.bytes ++ take n buffer);
  within = omega (arith, got.counted, length-append got.bytes (take n buffer), length-take-le n buffer within);
  supplies = got.supplies;
  replies = output;
  receives = writes.receives;
  spent = omega (arith, got.share, writes.pays.spent);
  last_read = λ e. absurd cc;
  last_write = writes.pays.last;
  ends = record {
    untroubled = refl;
    cut_short = subst (λ (bytes : List ℕ). IsCutShort strict start (whole_lines bytes) output) (counts got.bytes buffer passed room n got.counted within is) short;
  };
}

pub stops_as : (strict : Bool) (start : Progress) (before after : Moment) (editor : Editor) (cutter : Holding) (stop : ScriptStop) (q : Result (Unit {0}) ScriptStop) → q ≡ Err stop
    → CarriesOutScript strict start before after editor (Err stop) → CarriesOutPieces strict start before after editor cutter q
stops_as strict start before after editor cutter stop q is carries = subst (CarriesOutPieces strict start before after editor cutter) (sym is) carries

-- there is no more to read
pub ends_reading : (strict : Bool) (start : Progress) (before now : Moment) (script : Seen) (less room n : ℕ) (buffer : List ℕ) (editor : Editor) (cutter : Holding)
    → SoFar strict start before now room editor cutter → n ≡ 0 → 0 < length buffer
    → Reads now.script script now.retries less (piece_of (Ok n) buffer (now.retries - less)) → ReadsWhole strict start before (record now { script = script; retries = less }) editor cutter
ends_reading strict start before now script less room n buffer editor cutter so_far none some reads =
    let used = now.retries - less in
    let all : nat_lt 0 (length buffer) ≡ true = grind (arith, nat_tests) in
    let nothing : Intake = record { bytes = []; is_whole = true; retries = used; trouble = None } in
    let same : piece_of (Ok n) buffer used ≡ nothing =
    ap (λ (k : ℕ). piece_of (Ok k) buffer used) none ∙ ap (λ (whole : Bool). record { bytes = []; is_whole = whole; retries = used; trouble = None }) all in
    let whole = supplies_more before.script now.script script so_far.retries (so_far.retries + used) so_far.bytes nothing refl so_far.supplies (subst (Supplies now.script script) same reads.supplies) in
    record {
      bytes = so_far.bytes;
      within = omega (arith, so_far.counted);
      given = so_far.given;
      retries = so_far.retries + used;
      supplies = subst (λ (bytes : List ℕ). Supplies before.script script (record { bytes = bytes; is_whole = true; retries = so_far.retries + used; trouble = None })) (append-nil so_far.bytes) whole;
      allowed = so_far.allowed - used;
      share = omega (arith, so_far.share, so_far.comes.comes.sends.pays.spent, reads.pays.spent);
      comes = less_allowed strict start before now script less room editor cutter so_far (omega (arith, reads.pays.spent));
    }
