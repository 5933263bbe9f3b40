-- What an edit of a tile in memory returns, from what its run reads and writes.
use Rattle.std.proofs.Common.{◌≡◌, ◌≢◌, ◌⊎◌, ℕ, ◌<◌, ◌≤◌, Bool, true, false, List, [], length, Some, None, refl, sym, ap, subst, ◌∙◌, inl, inr, arith, if◌then◌else◌}
use Rattle.std.specs.declared.option.Option.{Option}
use Rattle.std.specs.declared.vec.Vec.{Vec}
use Rattle.std.specs.declared.alloc.Global.{Global}
use Rattle.std.proofs.lemmas.List.{drop_at}
use Rattle.std.proofs.lemmas.Bool.{cases_eq}
use Rattle.mvt_document.specs.Opens.{OpensAs, OpensAsNothing}
use Rattle.mvt_document.specs.Plain.{Document}
use Rattle.tile_device.specs.Seen.{Seen, Intake, Supplies}
use Rattle.tile_course.specs.Course.{IsFaultOf}
use Rattle.tile_course.specs.DeviceLaws.{GivesUp, HasCause, HaveLowCounts}
use Rattle.tile_course.specs.Headline.{Devices, AllServe, IsRunOf, Runs, outcome_of, tile_written}
use Rattle.tileshell.specs.InMemory.{handed_out, bytes_in, tile_given, IsEditOf, EditsTile, RefusesFile, IsReadOf, IsRunInMemory, NamesLongScript}
use Rattle.tile_course.specs.Replies.{NoneIsOutOfMemory}
use Rattle.tile_course.specs.Run.{Progress, is_over, ran, tile_of}
use Rattle.tile_course.specs.declared.outcome.DeviceName.{DeviceName}
use Rattle.tile_course.specs.declared.outcome.DeviceName.TheVariants as devices
use Rattle.tile_course.specs.declared.outcome.Options.{Options}
use Rattle.tile_course.specs.declared.outcome.Outcome.{Outcome}
use Rattle.tile_course.specs.declared.outcome.Outcome.TheVariants as outcomes
use Rattle.tile_course.specs.declared.outcome.TileFault.{TileFault}
use Rattle.tile_course.specs.declared.limits.TheConstants.{MAX_SCRIPT}
use Rattle.tile_course.proofs.DeviceLaws.{failed_is_named, named_for_cause}
use Rattle.tile_course.proofs.Headlines.{headline, none_counted, refuses_tile}

-- a device in memory with these bytes, `failures` calls of which failed
abbrev pub held : List ℕ → ℕ → Seen
held bytes failures = record { bytes = Some bytes; tells = true; interruptions = 0; failures = failures }

-- sources that never fail, and sinks
abbrev pub devices_with : List ℕ → List ℕ → Seen → Seen → Devices
devices_with tile script replies out = record { tile = held tile 0; script = held script 0; replies = replies; out = out }

-- a run over devices in memory, to sinks that were empty and now hold these bytes
pub record RunsInMemory (options : Options) (tile script replies out : List ℕ) (outcome : Outcome) : Type 0 where
  pub tile_left : List ℕ
  pub script_left : List ℕ
  pub replies_failures : ℕ
  pub out_failures : ℕ
  pub runs : Runs options (devices_with tile script (held [] 0) (held [] 0)) (devices_with tile_left script_left (held replies replies_failures) (held out out_failures)) outcome

-- sinks that were made new are empty, and did not fail
pub from_new : (options : Options) (tile script replies out : List ℕ) (replies_failures out_failures : ℕ) (last : Devices) (outcome : Outcome)
    → replies ≡ [] → replies_failures ≡ 0 → out ≡ [] → out_failures ≡ 0
    → Runs options (devices_with tile script (held replies replies_failures) (held out out_failures)) last outcome
    → Runs options (devices_with tile script (held [] 0) (held [] 0)) last outcome
from_new options tile script replies out replies_failures out_failures last outcome no_replies low no_out low_out runs =
    let same : devices_with tile script (held replies replies_failures) (held out out_failures) ≡ devices_with tile script (held [] 0) (held [] 0) = cc in
    subst (λ (first : Devices). Runs options first last outcome) same runs

-- a count that did not change, since a device that failed would be named
unfailed : (A : Type 0) (m n : ℕ) → (m ≢ n → A) → (A → ⊥) → m ≡ n
unfailed A m n named other = elim (cases_eq m n) [
  | inl same ↦ same
  | inr different ↦ absurd (other (named different))
]

module _ (options : Options) (tile script replies out : List ℕ) where
  abbrev pub before : Devices
  before = devices_with tile script (held [] 0) (held [] 0)

  abbrev pub after : (outcome : Outcome) → RunsInMemory options tile script replies out outcome → Devices
  after outcome r = devices_with r.tile_left r.script_left (held replies r.replies_failures) (held out r.out_failures)

  all_low : HaveLowCounts before
  all_low = record {
    tile = record { interruptions = omega arith; failures = omega arith };
    script = record { interruptions = omega arith; failures = omega arith };
    replies = record { interruptions = omega arith; failures = omega arith };
    out = record { interruptions = omega arith; failures = omega arith };
  }

  -- a run that does not end with a sink
  all_serve : (outcome : Outcome) (r : RunsInMemory options tile script replies out outcome)
      → outcome ≢ outcomes.Device devices.Replies → outcome ≢ outcomes.Device devices.Out → AllServe before (after outcome r)
  all_serve outcome r other_replies other_out =
      let named = failed_is_named options before (after outcome r) outcome r.runs in record {
        tile = record { tells = refl; low = all_low.tile; unfailing = refl };
        script = record { tells = refl; low = all_low.script; unfailing = refl };
        replies = record { tells = refl; low = all_low.replies; unfailing = unfailed _ r.replies_failures 0 named.replies other_replies };
        out = record { tells = refl; low = all_low.out; unfailing = unfailed _ r.out_failures 0 named.out other_out };
        patient = omega arith;
      }

  is_run_of : (outcome : Outcome) (r : RunsInMemory options tile script replies out outcome) (document : Document) → OpensAs tile document → length script ≤ MAX_SCRIPT
      → NoneIsOutOfMemory replies → outcome ≢ outcomes.NoMemory → outcome ≢ outcomes.Device devices.Replies → outcome ≢ outcomes.Device devices.Out
      → IsRunOf options document script before (after outcome r) outcome
  is_run_of outcome r document opens within none_out_of_memory memory other_replies other_out =
      headline options before (after outcome r) outcome r.runs document script (record {
        file = tile;
        tile = refl;
        opens = opens;
        script_is = refl;
        within = within;
        serve = all_serve outcome r other_replies other_out;
        none_out_of_memory = subst NoneIsOutOfMemory (sym (drop_at [] replies 0 refl)) none_out_of_memory;
        has_memory = memory;
      })

-- ---- the tile that is handed out

-- a run with this outcome wrote the tile
abbrev EndsWithTile : Outcome → Type 0
EndsWithTile outcome = (outcome ≡ outcomes.Done) ⊎ (outcome ≡ outcomes.SomeRefused)

with_tile : (over refused : Bool) (outcome : Outcome) (out tile : List ℕ) → EndsWithTile outcome
    → outcome ≡ (if over then outcomes.StrictStop else (if refused then outcomes.SomeRefused else outcomes.Done))
    → out ≡ (if over then [] else tile) → Some out ≡ (if over then None else Some tile)
with_tile true refused outcome out tile (inl done) ends wrote = absurd cc
with_tile true refused outcome out tile (inr done) ends wrote = absurd cc
with_tile false refused outcome out tile done ends wrote = ap Some wrote

without_tile : (over refused : Bool) (outcome : Outcome) (tile : List ℕ) → outcome ≢ outcomes.Done → outcome ≢ outcomes.SomeRefused
    → outcome ≡ (if over then outcomes.StrictStop else (if refused then outcomes.SomeRefused else outcomes.Done))
    → None ≡ (if over then None else Some tile)
without_tile true refused outcome tile not_done not_refused ends = refl
without_tile false true outcome tile not_done not_refused ends = absurd (not_refused ends)
without_tile false false outcome tile not_done not_refused ends = absurd (not_done ends)

module _ (options : Options) (tile script : List ℕ) (replies out : Vec ℕ Global) where
  -- a run with memory that does not end with a sink
  serves_edit : (outcome : Outcome) → RunsInMemory options tile script replies.items out.items outcome
      → outcome ≢ outcomes.NoMemory → outcome ≢ outcomes.Device devices.Replies → outcome ≢ outcomes.Device devices.Out
      → (given : Option (Vec ℕ Global))
      → ((progress : Progress) → outcome ≡ outcome_of options.strict progress → out.items ≡ tile_written options.strict progress → bytes_in given ≡ tile_given options.strict progress)
      → (document : Document) → OpensAs tile document → length script ≤ MAX_SCRIPT → NoneIsOutOfMemory replies.items
      → IsEditOf options document script (record { outcome = outcome; replies = replies; tile = given })
  serves_edit outcome r memory other_replies other_out given tile_is document opens within none_out_of_memory =
      let is : IsRunOf options document script (before options tile script replies.items out.items) (after options tile script replies.items out.items outcome r) outcome =
      is_run_of options tile script replies.items out.items outcome r document opens within none_out_of_memory memory other_replies other_out in record {
        outcome = is.ends;
        replies = is.replies;
        tile = tile_is (ran document options script) is.ends is.out;
      }

  with_tile_edits : (outcome : Outcome) → RunsInMemory options tile script replies.items out.items outcome → EndsWithTile outcome
      → outcome ≢ outcomes.NoMemory → outcome ≢ outcomes.Device devices.Replies → outcome ≢ outcomes.Device devices.Out
      → (document : Document) → OpensAs tile document → length script ≤ MAX_SCRIPT → NoneIsOutOfMemory replies.items
      → IsEditOf options document script (record { outcome = outcome; replies = replies; tile = Some out })
  with_tile_edits outcome r done memory other_replies other_out =
      serves_edit outcome r memory other_replies other_out (Some out)
      (λ progress ends wrote. with_tile (is_over options.strict progress) progress.any_refused outcome out.items (tile_of progress) done ends wrote)

  without_tile_edits : (outcome : Outcome) → RunsInMemory options tile script replies.items out.items outcome → outcome ≢ outcomes.Done → outcome ≢ outcomes.SomeRefused
      → outcome ≢ outcomes.NoMemory → outcome ≢ outcomes.Device devices.Replies → outcome ≢ outcomes.Device devices.Out
      → (document : Document) → OpensAs tile document → length script ≤ MAX_SCRIPT → NoneIsOutOfMemory replies.items
      → IsEditOf options document script (record { outcome = outcome; replies = replies; tile = None })
  without_tile_edits outcome r not_done not_refused memory other_replies other_out =
      serves_edit outcome r memory other_replies other_out None
      (λ progress ends wrote. without_tile (is_over options.strict progress) progress.any_refused outcome (tile_of progress) not_done not_refused ends)

  pub edits_tile : (outcome : Outcome) → RunsInMemory options tile script replies.items out.items outcome → EditsTile options tile script (handed_out outcome replies out)
  edits_tile outcomes.Done r document opens within memory none_out_of_memory =
      with_tile_edits outcomes.Done r (inl refl) (λ e. cc) (λ e. cc) (λ e. cc) document opens within none_out_of_memory
  edits_tile outcomes.SomeRefused r document opens within memory none_out_of_memory =
      with_tile_edits outcomes.SomeRefused r (inr refl) (λ e. cc) (λ e. cc) (λ e. cc) document opens within none_out_of_memory
  edits_tile outcomes.StrictStop r document opens within memory none_out_of_memory =
      without_tile_edits outcomes.StrictStop r (λ e. cc) (λ e. cc) (λ e. cc) (λ e. cc) (λ e. cc) document opens within none_out_of_memory
  edits_tile (outcomes.TileRefused fault) r document opens within memory none_out_of_memory =
      without_tile_edits (outcomes.TileRefused fault) r (λ e. cc) (λ e. cc) (λ e. cc) (λ e. cc) (λ e. cc) document opens within none_out_of_memory
  edits_tile (outcomes.Device devices.Tile) r document opens within memory none_out_of_memory =
      without_tile_edits (outcomes.Device devices.Tile) r (λ e. cc) (λ e. cc) (λ e. cc) (λ e. cc) (λ e. cc) document opens within none_out_of_memory
  edits_tile (outcomes.Device devices.Script) r document opens within memory none_out_of_memory =
      without_tile_edits (outcomes.Device devices.Script) r (λ e. cc) (λ e. cc) (λ e. cc) (λ e. cc) (λ e. cc) document opens within none_out_of_memory
  edits_tile (outcomes.Device devices.Replies) r document opens within memory none_out_of_memory = absurd (memory refl)
  edits_tile (outcomes.Device devices.Out) r document opens within memory none_out_of_memory = absurd (memory refl)
  edits_tile outcomes.NoMemory r document opens within memory none_out_of_memory = absurd (memory refl)

  -- ---- even where memory runs out

  -- what was read of a source no call of which failed or was interrupted
  read_of : (bytes left : List ℕ) (intake : Intake) → Supplies (held bytes 0) (held left 0) intake → IsReadOf bytes intake
  read_of bytes left intake supplies = record {
    left = left;
    is_prefix = supplies.bytes refl;
    whole = supplies.whole refl;
    untroubled = none_counted intake.trouble (omega (arith, supplies.meets.interruptions)) (omega (arith, supplies.meets.failures));
  }

  same_replies : (outcome : Outcome) → (handed_out outcome replies out).replies ≡ replies
  same_replies outcomes.Done = refl
  same_replies outcomes.SomeRefused = refl
  same_replies outcomes.StrictStop = refl
  same_replies (outcomes.TileRefused fault) = refl
  same_replies (outcomes.Device devices.Tile) = refl
  same_replies (outcomes.Device devices.Script) = refl
  same_replies (outcomes.Device devices.Replies) = refl
  same_replies (outcomes.Device devices.Out) = refl
  same_replies outcomes.NoMemory = refl

  pub run_in_memory : (outcome : Outcome) → RunsInMemory options tile script replies.items out.items outcome → IsRunInMemory options tile script (handed_out outcome replies out)
  run_in_memory outcome r = record {
    outcome = outcome;
    course = r.runs.course;
    ends = r.runs.ends;
    tile_read = read_of tile r.tile_left r.runs.course.tile r.runs.tile;
    script_read = read_of script r.script_left r.runs.course.script r.runs.script;
    out = out;
    written = r.runs.out.bytes refl;
    replies = ap (λ (v : Vec ℕ Global). v.items) (same_replies outcome) ∙ r.runs.replies.bytes refl;
    handed = ap (λ (v : Vec ℕ Global). handed_out outcome v out) (sym (same_replies outcome));
  }

  -- ---- a tile that does not open as a document

  refused_for : (outcome : Outcome) (r : RunsInMemory options tile script replies.items out.items outcome) → OpensAsNothing tile
      → outcome ≢ outcomes.NoMemory → outcome ≢ outcomes.Device devices.Replies → outcome ≢ outcomes.Device devices.Out
      → (fault : TileFault) × (outcome ≡ outcomes.TileRefused fault) × IsFaultOf fault tile
  refused_for outcome r nothing memory other_replies other_out =
      refuses_tile options (before options tile script replies.items out.items) (after options tile script replies.items out.items outcome r) outcome r.runs tile refl nothing
      (all_serve options tile script replies.items out.items outcome r other_replies other_out) memory

  pub refuses_file : (outcome : Outcome) → RunsInMemory options tile script replies.items out.items outcome → RefusesFile tile (handed_out outcome replies out)
  refuses_file outcomes.Done r nothing memory =
      let no = refused_for outcomes.Done r nothing (λ e. cc) (λ e. cc) (λ e. cc) in absurd cc
  refuses_file outcomes.SomeRefused r nothing memory =
      let no = refused_for outcomes.SomeRefused r nothing (λ e. cc) (λ e. cc) (λ e. cc) in absurd cc
  refuses_file outcomes.StrictStop r nothing memory =
      let no = refused_for outcomes.StrictStop r nothing (λ e. cc) (λ e. cc) (λ e. cc) in absurd cc
  refuses_file (outcomes.TileRefused fault) r nothing memory =
      let is = refused_for (outcomes.TileRefused fault) r nothing (λ e. cc) (λ e. cc) (λ e. cc) in record {
        fault = is.0;
        outcome = is.1;
        is_fault = is.2;
        no_replies = r.runs.replies.bytes refl ∙ r.runs.ends.2.replies.all;
        no_tile = refl;
      }
  refuses_file (outcomes.Device devices.Tile) r nothing memory =
      let no = refused_for (outcomes.Device devices.Tile) r nothing (λ e. cc) (λ e. cc) (λ e. cc) in absurd cc
  refuses_file (outcomes.Device devices.Script) r nothing memory =
      let no = refused_for (outcomes.Device devices.Script) r nothing (λ e. cc) (λ e. cc) (λ e. cc) in absurd cc
  refuses_file (outcomes.Device devices.Replies) r nothing memory = absurd (memory refl)
  refuses_file (outcomes.Device devices.Out) r nothing memory = absurd (memory refl)
  refuses_file outcomes.NoMemory r nothing memory = absurd (memory refl)

  -- ---- the script that is named

  -- a source never gives up
  never_up : (A : Type 0) (old new : Devices) (bytes left : List ℕ) → GivesUp old new (held bytes 0) (held left 0) → A
  never_up A old new bytes left (inl failed) = absurd (failed refl)
  never_up A old new bytes left (inr worn) = let low = worn.0 in let no : ⊥ = omega arith in absurd no

  cause_of : (first last : Devices) (left : List ℕ) (tile_left : List ℕ) (name : DeviceName) → name ≢ devices.Replies → name ≢ devices.Out
      → first.tile ≡ held tile 0 → last.tile ≡ held tile_left 0 → first.script ≡ held script 0 → last.script ≡ held left 0
      → HasCause name first last → (name ≡ devices.Script) × (MAX_SCRIPT < length script)
  cause_of first last left tile_left devices.Tile other_replies other_out t0 t1 s0 s1 cause =
      never_up _ first last tile tile_left (subst (GivesUp first last (held tile 0)) t1 (subst (λ (old : Seen). GivesUp first last old last.tile) t0 cause))
  cause_of first last left tile_left devices.Script other_replies other_out t0 t1 s0 s1 (inl up) =
      never_up _ first last script left (subst (GivesUp first last (held script 0)) s1 (subst (λ (old : Seen). GivesUp first last old last.script) s0 up))
  cause_of first last left tile_left devices.Script other_replies other_out t0 t1 s0 s1 (inr long) =
      (refl, long script (ap (λ (t : Seen). t.bytes) s0) (ap (λ (t : Seen). t.tells) s1))
  cause_of first last left tile_left devices.Replies other_replies other_out t0 t1 s0 s1 cause = absurd (other_replies refl)
  cause_of first last left tile_left devices.Out other_replies other_out t0 t1 s0 s1 cause = absurd (other_out refl)

  long_script : (outcome : Outcome) (r : RunsInMemory options tile script replies.items out.items outcome) (name : DeviceName)
      → name ≢ devices.Replies → name ≢ devices.Out → outcome ≡ outcomes.Device name → (name ≡ devices.Script) × (MAX_SCRIPT < length script)
  long_script outcome r name other_replies other_out is =
      let first : Devices = before options tile script replies.items out.items in
      let last : Devices = after options tile script replies.items out.items outcome r in
      cause_of first last r.script_left r.tile_left name other_replies other_out refl refl refl refl
      (named_for_cause options first last name (subst (Runs options first last) is r.runs) (all_low options tile script replies.items out.items))

  pub names_long_script : (outcome : Outcome) → RunsInMemory options tile script replies.items out.items outcome → NamesLongScript script (handed_out outcome replies out)
  names_long_script (outcomes.Device devices.Tile) r name is = long_script (outcomes.Device devices.Tile) r name (λ e. cc) (λ e. cc) is
  names_long_script (outcomes.Device devices.Script) r name is = long_script (outcomes.Device devices.Script) r name (λ e. cc) (λ e. cc) is
  names_long_script (outcomes.Device devices.Replies) r name is = absurd cc
  names_long_script (outcomes.Device devices.Out) r name is = absurd cc
  names_long_script outcomes.Done r name is = absurd cc
  names_long_script outcomes.SomeRefused r name is = absurd cc
  names_long_script outcomes.StrictStop r name is = absurd cc
  names_long_script (outcomes.TileRefused fault) r name is = absurd cc
  names_long_script outcomes.NoMemory r name is = absurd cc
