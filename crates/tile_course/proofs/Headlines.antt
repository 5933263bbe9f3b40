-- The headline, from what a run reads and writes.
use Rattle.std.proofs.Common.{◌≡◌, ℕ, ◌+◌, ◌<◌, ◌≤◌, Bool, true, false, List, [], ◌∷◌, ◌++◌, length, drop, Some, None, refl, sym, ap, subst, ◌∙◌, inl, inr, arith, append-nil, append_assoc, length-append}
use Rattle.std.specs.Prelude.{IsSome, is_some, ◌⊎◌}
use Rattle.std.specs.declared.option.Option.{Option}
use Rattle.std.specs.Io.KnownBytes.{Appends, Consumes, IsAtEnd}
use Rattle.std.proofs.lemmas.List.{drop_at, take_all}
use Rattle.mvt_document.specs.Opens.{OpensAs, OpensAsNothing}
use Rattle.mvt_document.specs.Plain.{Document}
use Rattle.mvt_document.proofs.SameBytes.{one_document_by_bytes}
use Rattle.tile_device.specs.Device.{interruptions_in, failures_in}
use Rattle.tile_device.specs.Seen.{Seen, Intake, Output, Meets, Supplies, Receives, IsPrefix}
use Rattle.tile_device.specs.declared.device.Trouble.{Trouble}
use Rattle.tile_device.specs.declared.device.Trouble.TheVariants.{Interrupted, Failed}
use Rattle.tile_lines.specs.Lines.{lines_of, whole_lines}
use Rattle.tile_course.specs.Course.{Course, OpensAgain, retries_in, start_of, IsOpened, IsEdited, IsWritten, CarriesThrough, StopsBetween, StopsStrictly, IsFaultOf, IsFaulty, lines_in}
use Rattle.tile_course.specs.DeviceLaws.{HaveLowCounts}
use Rattle.tile_course.specs.Headline.{Devices, HasLowCounts, Serves, AllServe, interruptions_between, all_interruptions, WritesNoneOutOfMemory, outcome_of, tile_written, IsRunOf, Premises, Headline, RefusesTile, Runs, WritesATile}
use Rattle.tile_course.specs.Replies.{NoneIsOutOfMemory}
use Rattle.tile_course.specs.Run.{Progress, after_lines, is_over, ran, tile_of, Walk}
use Rattle.tile_course.specs.declared.limits.TheConstants.{MAX_RETRIES, MAX_SCRIPT}
use Rattle.tile_course.specs.declared.outcome.Options.{Options}
use Rattle.tile_course.specs.declared.outcome.Outcome.{Outcome}
use Rattle.tile_course.specs.declared.outcome.Outcome.TheVariants as outcomes
use Rattle.tile_course.specs.declared.outcome.DeviceName.TheVariants as devices
use Rattle.tile_course.specs.declared.outcome.TileFault.{TileFault}
use Rattle.tile_course.specs.declared.outcome.TileFault.TheVariants as faults
use Rattle.tile_lines.proofs.Cutting.{lines-front}
use Rattle.tile_course.proofs.Prefixes.{after_lines-append, prefix_stands}
use Rattle.tile_course.proofs.Overs.{over_stays}
use Rattle.tile_course.proofs.Replying.{walks_are_runs}

-- ---- what the counts show

one_at_most : (trouble : Option Trouble) → interruptions_in trouble ≤ 1
one_at_most None = omega arith
one_at_most (Some Interrupted) = omega arith
one_at_most (Some Failed) = omega arith

-- a low count of interruptions grew by `retries`, and by one more where an interruption ended the calls
counts_all : (old new : Seen) (retries : ℕ) (trouble : Option Trouble) → HasLowCounts old → retries ≤ MAX_RETRIES → Meets old new retries trouble
    → interruptions_between old new ≡ retries + interruptions_in trouble
counts_all old new retries trouble low few meets = omega (arith, low.interruptions, few, meets.interruptions, one_at_most trouble)

-- the interruptions that ended calls
abbrev pub last_interruptions : Course → ℕ
last_interruptions course =
    interruptions_in course.tile.trouble + interruptions_in course.script.trouble + interruptions_in course.replies.trouble + interruptions_in course.out.trouble

sums_are : (a b c d ra rb rc rd ia ib ic id : ℕ) → a ≡ ra + ia → b ≡ rb + ib → c ≡ rc + ic → d ≡ rd + id → a + b + c + d ≡ ra + rb + rc + rd + (ia + ib + ic + id)
sums_are a b c d ra rb rc rd ia ib ic id ea eb ec ed = omega arith

-- Each interrupted call was made again, or was the last one of its device.
pub all_interruptions_are : (options : Options) (before after : Devices) (outcome : Outcome) (r : Runs options before after outcome) → HaveLowCounts before
    → all_interruptions before after ≡ retries_in r.course + last_interruptions r.course
all_interruptions_are options before after outcome r low =
    let few : retries_in r.course ≤ MAX_RETRIES = r.patient.within in
    sums_are
    (interruptions_between before.tile after.tile) (interruptions_between before.script after.script) (interruptions_between before.replies after.replies) (interruptions_between before.out after.out)
    r.course.tile.retries r.course.script.retries r.course.replies.retries r.course.out.retries
    (interruptions_in r.course.tile.trouble) (interruptions_in r.course.script.trouble) (interruptions_in r.course.replies.trouble) (interruptions_in r.course.out.trouble)
    (counts_all before.tile after.tile r.course.tile.retries r.course.tile.trouble low.tile (omega (arith, few)) r.tile.meets)
    (counts_all before.script after.script r.course.script.retries r.course.script.trouble low.script (omega (arith, few)) r.script.meets)
    (counts_all before.replies after.replies r.course.replies.retries r.course.replies.trouble low.replies (omega (arith, few)) r.replies.meets)
    (counts_all before.out after.out r.course.out.retries r.course.out.trouble low.out (omega (arith, few)) r.out.meets)

-- ---- where all devices serve

-- no device of the course met trouble
pub record IsUntroubled (course : Course) : Type 0 where
  pub tile : course.tile.trouble ≡ None
  pub script : course.script.trouble ≡ None
  pub replies : course.replies.trouble ≡ None
  pub out : course.out.trouble ≡ None

unfailing : (old new : Seen) (retries : ℕ) (trouble : Option Trouble) → Serves old new → Meets old new retries trouble → failures_in trouble ≡ 0
unfailing old new retries trouble serve meets = omega (arith, serve.low.failures, serve.unfailing, meets.failures)

-- no interruption was one too many
uninterrupted : (trouble : Option Trouble) (retries : ℕ) → (trouble ≡ Some Interrupted → retries ≡ MAX_RETRIES) → retries + interruptions_in trouble ≤ MAX_RETRIES → interruptions_in trouble ≡ 0
uninterrupted None retries last within = refl
uninterrupted (Some Failed) retries last within = refl
uninterrupted (Some Interrupted) retries last within = absurd (omega (arith, last refl, within))

pub none_counted : (trouble : Option Trouble) → interruptions_in trouble ≡ 0 → failures_in trouble ≡ 0 → trouble ≡ None
none_counted None i f = refl
none_counted (Some Interrupted) i f = absurd (omega (arith, i))
none_counted (Some Failed) i f = absurd (omega (arith, f))

served : (old new : Seen) (own : ℕ) (trouble : Option Trouble) (retries : ℕ) → Serves old new → Meets old new own trouble
    → (trouble ≡ Some Interrupted → retries ≡ MAX_RETRIES) → retries + interruptions_in trouble ≤ MAX_RETRIES → trouble ≡ None
served old new own trouble retries serve meets last within = none_counted trouble (uninterrupted trouble retries last within) (unfailing old new own trouble serve meets)

pub untroubled : (options : Options) (before after : Devices) (outcome : Outcome) (r : Runs options before after outcome) → AllServe before after → IsUntroubled r.course
untroubled options before after outcome r serve =
    let low : HaveLowCounts before = record { tile = serve.tile.low; script = serve.script.low; replies = serve.replies.low; out = serve.out.low } in
    let within : retries_in r.course + last_interruptions r.course ≤ MAX_RETRIES =
    subst (λ (n : ℕ). n ≤ MAX_RETRIES) (all_interruptions_are options before after outcome r low) serve.patient in record {
      tile = served before.tile after.tile r.course.tile.retries r.course.tile.trouble (retries_in r.course) serve.tile r.tile.meets r.patient.tile (omega (arith, within));
      script = served before.script after.script r.course.script.retries r.course.script.trouble (retries_in r.course) serve.script r.script.meets r.patient.script (omega (arith, within));
      replies = served before.replies after.replies r.course.replies.retries r.course.replies.trouble (retries_in r.course) serve.replies r.replies.meets r.patient.replies (omega (arith, within));
      out = served before.out after.out r.course.out.retries r.course.out.trouble (retries_in r.course) serve.out r.out.meets r.patient.out (omega (arith, within));
    }

not_some : (A : Type 0) (trouble : Option Trouble) → trouble ≡ None → IsSome trouble → A
not_some A trouble none some = let h : false ≡ true = ap is_some (sym none) ∙ some in absurd cc

-- ---- what the devices tell

-- a source at its end gave all that it had
all_given : (old new : Option (List ℕ)) (bytes file : List ℕ) → old ≡ Some file → Consumes old new bytes → IsAtEnd new → bytes ≡ file
all_given None new bytes file e consumed end = absurd cc
all_given (Some xs) None bytes file e consumed end = absurd consumed
all_given (Some xs) (Some ys) bytes file e consumed end =
    let same : xs ≡ file = cc in
    sym (append-nil bytes) ∙ sym (ap (λ (t : List ℕ). bytes ++ t) end) ∙ sym consumed ∙ same

-- and what a source gave is a prefix of what it had
prefix_given : (old new : Option (List ℕ)) (bytes file : List ℕ) → old ≡ Some file → Consumes old new bytes → IsPrefix bytes file
prefix_given None new bytes file e consumed = absurd cc
prefix_given (Some xs) None bytes file e consumed = absurd consumed
prefix_given (Some xs) (Some ys) bytes file e consumed = let same : xs ≡ file = cc in (ys, sym same ∙ consumed)

-- so no source gives more than it had
pub given_within : (old new : Option (List ℕ)) (bytes file : List ℕ) → old ≡ Some file → Consumes old new bytes → length bytes ≤ length file
given_within old new bytes file e consumed =
    let prefix = prefix_given old new bytes file e consumed in omega (arith, ap length prefix.1, length-append bytes prefix.0)

none_out_of_memory_of : (old new : Option (List ℕ)) (replies : List ℕ) → WritesNoneOutOfMemory old new → Appends old new replies → NoneIsOutOfMemory replies
none_out_of_memory_of None new replies tells appends = absurd tells
none_out_of_memory_of (Some xs) None replies tells appends = absurd tells
none_out_of_memory_of (Some xs) (Some ys) replies tells appends =
    subst NoneIsOutOfMemory (ap (drop (length xs)) appends ∙ drop_at xs replies (length xs) refl) tells

-- what was read of a source to its end is what it had
whole_file : (old new : Seen) (intake : Intake) (file : List ℕ) → old.bytes ≡ Some file → Serves old new → Supplies old new intake → intake.is_whole ≡ true → intake.bytes ≡ file
whole_file old new intake file file_is serve given whole = all_given old.bytes new.bytes intake.bytes file file_is (given.bytes serve.tells) (given.whole serve.tells whole)

-- what was read of a source is no longer than what it had
file_within : (old new : Seen) (intake : Intake) (file : List ℕ) → old.bytes ≡ Some file → Serves old new → Supplies old new intake → length intake.bytes ≤ length file
file_within old new intake file file_is serve given = given_within old.bytes new.bytes intake.bytes file file_is (given.bytes serve.tells)

-- a sink grew by what was written to it
grown : (old new : Seen) (output : Output) (bytes : List ℕ) → Serves old new → Receives old new output → IsWritten output bytes → Appends old.bytes new.bytes bytes
grown old new output bytes serve taken written = subst (Appends old.bytes new.bytes) written.all (taken.bytes serve.tells)

-- ---- the lines that were read

whole_lines_in : (intake : Intake) → intake.is_whole ≡ true → lines_in intake ≡ lines_of intake.bytes
whole_lines_in intake whole = rw whole refl

cut_lines_in : (intake : Intake) → intake.is_whole ≡ false → length intake.bytes ≤ MAX_SCRIPT → lines_in intake ≡ whole_lines intake.bytes
cut_lines_in intake cut within = rw cut (ap whole_lines (take_all MAX_SCRIPT intake.bytes within))

-- the lines of what was read are the first ones of the script
first_lines_in : (intake : Intake) (script : List ℕ) → IsPrefix intake.bytes script → (intake.is_whole ≡ true → intake.bytes ≡ script) → length intake.bytes ≤ MAX_SCRIPT
    → (others : List (List ℕ)) × (lines_of script ≡ lines_in intake ++ others)
first_lines_in intake script prefix all within = by_whole intake.is_whole refl
  where
    by_whole : (q : Bool) → intake.is_whole ≡ q → (others : List (List ℕ)) × (lines_of script ≡ lines_in intake ++ others)
    by_whole true whole = ([], ap lines_of (sym (all whole)) ∙ sym (whole_lines_in intake whole) ∙ sym (append-nil (lines_in intake)))
    by_whole false cut = let more = lines-front intake.bytes prefix.0 in
        (more.0, ap lines_of prefix.1 ∙ more.1 ∙ ap (λ (t : List (List ℕ)). t ++ more.0) (sym (cut_lines_in intake cut within)))

-- ---- the headline

-- a file opens as at most one document
one_opening : (file : List ℕ) (d e : Document) → OpensAs file d → OpensAs file e → d ≡ e
one_opening file d e p q = one_document_by_bytes d e p.settled q.settled (p.spelled ∙ sym q.spelled)

module _ (options : Options) (before after : Devices) (outcome : Outcome) (r : Runs options before after outcome) (script : List ℕ) (document : Document) where
  tile_opened : Premises document script before after outcome → (opened : Document) → IsOpened r.course.tile opened → opened ≡ document
  tile_opened premises opened is =
      one_opening premises.file opened document (subst (λ (t : List ℕ). OpensAs t opened) (whole_file before.tile after.tile r.course.tile premises.file premises.tile premises.serve.tile r.tile is.whole) is.opens) premises.opens

  -- a walk in which no reply says that memory was refused
  lines_carried : Premises document script before after outcome → (opened : Document) (progress : Progress) → Walk options.strict (start_of options opened) (lines_in r.course.script) progress
      → IsWritten r.course.replies progress.replies → progress ≡ after_lines options.strict (start_of options opened) (lines_in r.course.script)
  lines_carried premises opened progress walk written =
      walks_are_runs options.strict (start_of options opened) progress (lines_in r.course.script) progress.replies walk refl
      (none_out_of_memory_of before.replies.bytes after.replies.bytes progress.replies premises.none_out_of_memory (grown before.replies after.replies r.course.replies progress.replies premises.serve.replies r.replies written))

  carried_through : Premises document script before after outcome → (opened : Document) → IsOpened r.course.tile opened → (progress : Progress)
      → CarriesThrough options.strict (start_of options opened) r.course.script r.course.replies progress → progress ≡ ran document options script
  carried_through premises opened is progress carried =
      let all : r.course.script.bytes ≡ script = whole_file before.script after.script r.course.script script premises.script_is premises.serve.script r.script carried.whole in
      lines_carried premises opened progress carried.walk carried.replies
      ∙ ap (after_lines options.strict (start_of options opened)) (whole_lines_in r.course.script carried.whole ∙ ap lines_of all)
      ∙ ap (λ (d : Document). ran d options script) (tile_opened premises opened is)

  -- the lines after the end of a strict run change nothing
  stopped_strictly : Premises document script before after outcome → (opened : Document) → IsOpened r.course.tile opened
      → (stops : StopsStrictly options.strict (start_of options opened) r.course.script r.course.replies) → stops.progress ≡ ran document options script
  stopped_strictly premises opened is stops =
      let start = start_of options opened in
      let prefix = prefix_given before.script.bytes after.script.bytes r.course.script.bytes script premises.script_is (r.script.bytes premises.serve.script.tells) in
      let short = file_within before.script after.script r.course.script script premises.script_is premises.serve.script r.script in
      let first = first_lines_in r.course.script script prefix (whole_file before.script after.script r.course.script script premises.script_is premises.serve.script r.script) (omega (arith, short, premises.within)) in
      let carried = lines_carried premises opened stops.progress stops.walk stops.replies in
      sym (over_stays options.strict stops.progress first.0 stops.over)
      ∙ ap (λ (p : Progress). after_lines options.strict p first.0) carried
      ∙ sym (after_lines-append options.strict start (lines_in r.course.script) first.0)
      ∙ ap (after_lines options.strict start) (sym first.1)
      ∙ ap (λ (d : Document). ran d options script) (tile_opened premises opened is)

  -- a run that comes to the progress of the script on the document
  comes_to : (progress : Progress) → progress ≡ ran document options script → outcome ≡ outcome_of options.strict progress
      → Appends before.replies.bytes after.replies.bytes progress.replies → Appends before.out.bytes after.out.bytes (tile_written options.strict progress)
      → IsRunOf options document script before after outcome
  comes_to progress made ends replied wrote = record {
    ends = ends ∙ ap (outcome_of options.strict) made;
    replies = subst (λ (t : Progress). Appends before.replies.bytes after.replies.bytes t.replies) made replied;
    out = subst (λ (t : Progress). Appends before.out.bytes after.out.bytes (tile_written options.strict t)) made wrote;
    prefixes = λ prefix more is. ap (ran document options) (is ∙ sym (append_assoc prefix (10 ∷ []) more)) ∙ prefix_stands document options (prefix ++ 10 ∷ []) more (inr (prefix, refl));
  }

tile_is_written : (strict : Bool) (progress : Progress) → is_over strict progress ≡ false → tile_of progress ≡ tile_written strict progress
tile_is_written strict progress on = rw on refl

no_tile_is_written : (strict : Bool) (progress : Progress) → is_over strict progress ≡ true → [] ≡ tile_written strict progress
no_tile_is_written strict progress over = rw over refl

ends_done : (strict : Bool) (progress : Progress) → is_over strict progress ≡ false → progress.any_refused ≡ false → outcomes.Done ≡ outcome_of strict progress
ends_done strict progress on accepted = rw on (rw accepted refl)

ends_refused : (strict : Bool) (progress : Progress) → is_over strict progress ≡ false → progress.any_refused ≡ true → outcomes.SomeRefused ≡ outcome_of strict progress
ends_refused strict progress on refused = rw on (rw refused refl)

ends_strictly : (strict : Bool) (progress : Progress) → is_over strict progress ≡ true → outcomes.StrictStop ≡ outcome_of strict progress
ends_strictly strict progress over = rw over refl

-- the run of the script on the document, whose tile opens again where it is written
record Comes (options : Options) (document : Document) (script : List ℕ) (before after : Devices) (outcome : Outcome) : Type 0 where
  run : IsRunOf options document script before after outcome
  opens : is_over options.strict (ran document options script) ≡ false → OpensAgain (ran document options script)

is_edited : (options : Options) (before after : Devices) (any_refused : Bool) (outcome : Outcome) (r : Runs options before after outcome) (script : List ℕ) (document : Document)
    → Premises document script before after outcome
    → ((progress : Progress) → is_over options.strict progress ≡ false → progress.any_refused ≡ any_refused → outcome ≡ outcome_of options.strict progress)
    → IsEdited options any_refused r.course → Comes options document script before after outcome
is_edited options before after any_refused outcome r script document premises ends edited =
    let made = carried_through options before after outcome r script document premises edited.through.document edited.through.opened edited.through.progress edited.through.carried in
    record {
      run = comes_to options before after outcome r script document edited.through.progress made
          (ends edited.through.progress edited.through.carried.goes_on edited.refused)
          (grown before.replies after.replies r.course.replies edited.through.progress.replies premises.serve.replies r.replies edited.through.carried.replies)
          (subst (Appends before.out.bytes after.out.bytes) (tile_is_written options.strict edited.through.progress edited.through.carried.goes_on)
          (grown before.out after.out r.course.out (tile_of edited.through.progress) premises.serve.out r.out edited.out));
      opens = λ on. subst OpensAgain made edited.opens;
    }

is_stopped : (options : Options) (before after : Devices) (r : Runs options before after outcomes.StrictStop) (script : List ℕ) (document : Document)
    → Premises document script before after outcomes.StrictStop → StopsBetween options StopsStrictly r.course → Comes options document script before after outcomes.StrictStop
is_stopped options before after r script document premises stopped =
    let made = stopped_strictly options before after outcomes.StrictStop r script document premises stopped.document stopped.opened stopped.between in
    record {
      run = comes_to options before after outcomes.StrictStop r script document stopped.between.progress made
          (ends_strictly options.strict stopped.between.progress stopped.between.over)
          (grown before.replies after.replies r.course.replies stopped.between.progress.replies premises.serve.replies r.replies stopped.between.replies)
          (subst (Appends before.out.bytes after.out.bytes) (no_tile_is_written options.strict stopped.between.progress stopped.between.over)
          (grown before.out after.out r.course.out [] premises.serve.out r.out stopped.out));
      opens = λ on. let no : true ≡ false = sym stopped.between.over ∙ ap (is_over options.strict) made ∙ on in absurd cc;
    }

not_faulty : (A : Type 0) (fault : TileFault) (old new : Seen) (intake : Intake) (file : List ℕ) (document : Document)
    → old.bytes ≡ Some file → Serves old new → Supplies old new intake → OpensAs file document → IsFaulty fault intake → A
not_faulty A (faults.BadWire place) old new intake file document file_is serve given opens faulty =
    absurd (faulty.1.1 document (subst (λ (t : List ℕ). OpensAs t document) (sym (whole_file old new intake file file_is serve given faulty.0)) opens))
not_faulty A faults.FileTooLarge old new intake file document file_is serve given opens faulty =
    let k = file_within old new intake file file_is serve given in
    let no : ⊥ = omega (arith, opens.within, faulty) in
    absurd no

-- a script that is not too long is read to its end or meets trouble
not_cut : (A : Type 0) (trouble : Option Trouble) (size : ℕ) → trouble ≡ None → size ≤ MAX_SCRIPT → IsSome trouble ⊎ (MAX_SCRIPT < size) → A
not_cut A trouble size none within (inl some) = not_some A trouble none some
not_cut A trouble size none within (inr long) = let no : ⊥ = omega (arith, within, long) in absurd no

-- a run where no device and no growth fails
comes : (options : Options) (before after : Devices) (outcome : Outcome) → Runs options before after outcome → (document : Document) (script : List ℕ) → Premises document script before after outcome
    → Comes options document script before after outcome
comes options before after outcomes.Done r document script premises = is_edited options before after false outcomes.Done r script document premises (ends_done options.strict) r.ends
comes options before after outcomes.SomeRefused r document script premises = is_edited options before after true outcomes.SomeRefused r script document premises (ends_refused options.strict) r.ends
comes options before after outcomes.StrictStop r document script premises = is_stopped options before after r script document premises r.ends
comes options before after (outcomes.TileRefused fault) r document script premises =
    not_faulty _ fault before.tile after.tile r.course.tile premises.file document premises.tile premises.serve.tile r.tile premises.opens r.ends.1
comes options before after (outcomes.Device devices.Tile) r document script premises = not_some _ r.course.tile.trouble (untroubled options before after (outcomes.Device devices.Tile) r premises.serve).tile r.ends.0
comes options before after (outcomes.Device devices.Script) r document script premises =
    let short = file_within before.script after.script r.course.script script premises.script_is premises.serve.script r.script in
    not_cut _ r.course.script.trouble (length r.course.script.bytes) (untroubled options before after (outcomes.Device devices.Script) r premises.serve).script (omega (arith, short, premises.within)) r.ends.between.cause
comes options before after (outcomes.Device devices.Replies) r document script premises =
    not_some _ r.course.replies.trouble (untroubled options before after (outcomes.Device devices.Replies) r premises.serve).replies r.ends.between.cut_short.trouble
comes options before after (outcomes.Device devices.Out) r document script premises = not_some _ r.course.out.trouble (untroubled options before after (outcomes.Device devices.Out) r premises.serve).out r.ends.trouble
comes options before after outcomes.NoMemory r document script premises = absurd (premises.has_memory refl)

pub headline : (options : Options) (before after : Devices) (outcome : Outcome) → Runs options before after outcome → Headline options before after outcome
headline options before after outcome r document script premises = (comes options before after outcome r document script premises).run

pub writes_a_tile : (options : Options) (before after : Devices) (outcome : Outcome) → Runs options before after outcome → WritesATile options before after outcome
writes_a_tile options before after outcome r document script premises = (comes options before after outcome r document script premises).opens

-- ---- a tile that does not open as a document

-- such a tile does not open
not_opened : (A : Type 0) (old new : Seen) (intake : Intake) (document : Document) (file : List ℕ)
    → old.bytes ≡ Some file → Serves old new → Supplies old new intake → OpensAsNothing file → IsOpened intake document → A
not_opened A old new intake document file file_is serve given nothing opened =
    absurd (nothing document (subst (λ (t : List ℕ). OpensAs t document) (whole_file old new intake file file_is serve given opened.whole) opened.opens))

faulty_file : (fault : TileFault) (old new : Seen) (intake : Intake) (file : List ℕ) → old.bytes ≡ Some file → Serves old new → Supplies old new intake → IsFaulty fault intake → IsFaultOf fault file
faulty_file (faults.BadWire place) old new intake file file_is serve given faulty =
    subst (IsFaultOf (faults.BadWire place)) (whole_file old new intake file file_is serve given faulty.0) faulty.1
faulty_file faults.FileTooLarge old new intake file file_is serve given faulty =
    let k = file_within old new intake file file_is serve given in omega (arith, faulty)

pub refuses_tile : (options : Options) (before after : Devices) (outcome : Outcome) → Runs options before after outcome → RefusesTile before after outcome
refuses_tile options before after outcomes.Done r file file_is nothing serve not_memory =
    not_opened _ before.tile after.tile r.course.tile r.ends.through.document file file_is serve.tile r.tile nothing r.ends.through.opened
refuses_tile options before after outcomes.SomeRefused r file file_is nothing serve not_memory =
    not_opened _ before.tile after.tile r.course.tile r.ends.through.document file file_is serve.tile r.tile nothing r.ends.through.opened
refuses_tile options before after outcomes.StrictStop r file file_is nothing serve not_memory =
    not_opened _ before.tile after.tile r.course.tile r.ends.document file file_is serve.tile r.tile nothing r.ends.opened
refuses_tile options before after (outcomes.TileRefused fault) r file file_is nothing serve not_memory =
    (fault, refl, faulty_file fault before.tile after.tile r.course.tile file file_is serve.tile r.tile r.ends.1)
refuses_tile options before after (outcomes.Device devices.Tile) r file file_is nothing serve not_memory =
    not_some _ r.course.tile.trouble (untroubled options before after (outcomes.Device devices.Tile) r serve).tile r.ends.0
refuses_tile options before after (outcomes.Device devices.Script) r file file_is nothing serve not_memory =
    not_opened _ before.tile after.tile r.course.tile r.ends.document file file_is serve.tile r.tile nothing r.ends.opened
refuses_tile options before after (outcomes.Device devices.Replies) r file file_is nothing serve not_memory =
    not_opened _ before.tile after.tile r.course.tile r.ends.document file file_is serve.tile r.tile nothing r.ends.opened
refuses_tile options before after (outcomes.Device devices.Out) r file file_is nothing serve not_memory =
    not_opened _ before.tile after.tile r.course.tile r.ends.through.document file file_is serve.tile r.tile nothing r.ends.through.opened
refuses_tile options before after outcomes.NoMemory r file file_is nothing serve not_memory = absurd (not_memory refl)
