-- The laws on devices, from what a run reads and writes.
use Rattle.std.proofs.Common.{◌≡◌, ℕ, ◌+◌, ◌<◌, ◌≤◌, ◌⊎◌, Bool, true, false, length, Some, None, refl, sym, ap, subst, inl, inr, arith}
use Rattle.std.specs.Prelude.{IsSome}
use Rattle.std.specs.declared.option.Option.{Option}
use Rattle.tile_device.specs.Device.{interruptions_in, failures_in}
use Rattle.tile_device.specs.Seen.{Seen, Intake, nothing_read, Meets, Supplies}
use Rattle.tile_device.specs.declared.device.Trouble.{Trouble}
use Rattle.tile_device.specs.declared.device.Trouble.TheVariants.{Interrupted, Failed}
use Rattle.tile_course.specs.Course.{Course, Ends, retries_in, IsEdited, StopsForMemory}
use Rattle.tile_course.specs.DeviceLaws.{HasFailed, HaveLowCounts, AreWornOut, FailedDevicesAreNamed, WornOutRunsNameADevice, GivesUp, IsTooLong, HasCause, DevicesAreNamedForCause}
use Rattle.tile_course.specs.Headline.{Devices, HasLowCounts, Runs}
use Rattle.tile_course.specs.declared.limits.TheConstants.{MAX_RETRIES, MAX_SCRIPT}
use Rattle.tile_course.specs.declared.outcome.Options.{Options}
use Rattle.tile_course.specs.declared.outcome.Outcome.{Outcome}
use Rattle.tile_course.specs.declared.outcome.Outcome.TheVariants as outcomes
use Rattle.tile_course.specs.declared.outcome.DeviceName.TheVariants as devices
use Rattle.tile_course.proofs.Headlines.{given_within, all_interruptions_are, last_interruptions, IsUntroubled}

-- ---- which devices met trouble

-- a device met no trouble, unless the outcome names it
record NamesTheTroubled (outcome : Outcome) (course : Course) : Type 0 where
  tile : (course.tile.trouble ≡ None) ⊎ (outcome ≡ outcomes.Device devices.Tile)
  script : (course.script.trouble ≡ None) ⊎ (outcome ≡ outcomes.Device devices.Script)
  replies : (course.replies.trouble ≡ None) ⊎ (outcome ≡ outcomes.Device devices.Replies)
  out : (course.out.trouble ≡ None) ⊎ (outcome ≡ outcomes.Device devices.Out)

none_troubled : (outcome : Outcome) (course : Course) → IsUntroubled course → NamesTheTroubled outcome course
none_troubled outcome course none = record { tile = inl none.tile; script = inl none.script; replies = inl none.replies; out = inl none.out }

edited_untroubled : (options : Options) (any_refused : Bool) (course : Course) → IsEdited options any_refused course → IsUntroubled course
edited_untroubled options any_refused course edited = record {
  tile = edited.through.opened.untroubled;
  script = edited.through.carried.untroubled;
  replies = edited.through.carried.replies.untroubled;
  out = edited.out.untroubled;
}

nothing_read_untroubled : (intake : Intake) → intake ≡ nothing_read → intake.trouble ≡ None
nothing_read_untroubled intake is = ap (λ (t : Intake). t.trouble) is

memory_untroubled : (options : Options) (course : Course) → StopsForMemory options course → IsUntroubled course
memory_untroubled options course stops = elim stops.replied [
  | inl unread ↦ record { tile = stops.untroubled; script = nothing_read_untroubled course.script unread.0; replies = unread.1.untroubled; out = stops.out.untroubled }
  | inr all ↦ record { tile = stops.untroubled; script = all.carried.untroubled; replies = all.carried.replies.untroubled; out = stops.out.untroubled }
]

names_the_troubled : (options : Options) (outcome : Outcome) (course : Course) → Ends options outcome course → NamesTheTroubled outcome course
names_the_troubled options outcomes.Done course ends = none_troubled outcomes.Done course (edited_untroubled options false course ends)
names_the_troubled options outcomes.SomeRefused course ends = none_troubled outcomes.SomeRefused course (edited_untroubled options true course ends)
names_the_troubled options outcomes.StrictStop course ends = record {
  tile = inl ends.opened.untroubled;
  script = inl ends.between.untroubled;
  replies = inl ends.between.replies.untroubled;
  out = inl ends.out.untroubled;
}
names_the_troubled options (outcomes.TileRefused fault) course ends = record {
  tile = inl ends.0;
  script = inl (nothing_read_untroubled course.script ends.2.script);
  replies = inl ends.2.replies.untroubled;
  out = inl ends.2.out.untroubled;
}
names_the_troubled options (outcomes.Device devices.Tile) course ends = record {
  tile = inr refl;
  script = inl (nothing_read_untroubled course.script ends.1.script);
  replies = inl ends.1.replies.untroubled;
  out = inl ends.1.out.untroubled;
}
names_the_troubled options (outcomes.Device devices.Script) course ends = record {
  tile = inl ends.opened.untroubled;
  script = inr refl;
  replies = inl ends.between.replies.untroubled;
  out = inl ends.out.untroubled;
}
names_the_troubled options (outcomes.Device devices.Replies) course ends = record {
  tile = inl ends.opened.untroubled;
  script = inl ends.between.untroubled;
  replies = inr refl;
  out = inl ends.out.untroubled;
}
names_the_troubled options (outcomes.Device devices.Out) course ends = record {
  tile = inl ends.through.opened.untroubled;
  script = inl ends.through.carried.untroubled;
  replies = inl ends.through.carried.replies.untroubled;
  out = inr refl;
}
names_the_troubled options outcomes.NoMemory course ends = none_troubled outcomes.NoMemory course (memory_untroubled options course ends)

-- ---- devices that failed

-- a device that failed met trouble
failed_or : (A : Type 0) (old new : Seen) (retries : ℕ) (trouble : Option Trouble) → Meets old new retries trouble → (trouble ≡ None) ⊎ A → HasFailed old new → A
failed_or A old new retries trouble meets (inr named) failed = named
failed_or A old new retries trouble meets (inl none) failed = absurd (failed (omega (arith, meets.failures, ap failures_in none)))

pub failed_is_named : FailedDevicesAreNamed
failed_is_named options before after outcome r =
    let named = names_the_troubled options outcome r.course r.ends in record {
      tile = failed_or _ before.tile after.tile r.course.tile.retries r.course.tile.trouble r.tile.meets named.tile;
      script = failed_or _ before.script after.script r.course.script.retries r.course.script.trouble r.script.meets named.script;
      replies = failed_or _ before.replies after.replies r.course.replies.retries r.course.replies.trouble r.replies.meets named.replies;
      out = failed_or _ before.out after.out r.course.out.retries r.course.out.trouble r.out.meets named.out;
    }

-- ---- devices that were interrupted too often

-- without trouble no more calls were interrupted than are made again
not_worn : (A : Type 0) (options : Options) (before after : Devices) (outcome : Outcome) (r : Runs options before after outcome) → HaveLowCounts before → AreWornOut before after → IsUntroubled r.course → A
not_worn A options before after outcome r low worn none =
    let more : MAX_RETRIES < retries_in r.course + last_interruptions r.course = subst (λ (n : ℕ). MAX_RETRIES < n) (all_interruptions_are options before after outcome r low) worn in
    let no : ⊥ = omega (arith, more, r.patient.within, ap interruptions_in none.tile, ap interruptions_in none.script, ap interruptions_in none.replies, ap interruptions_in none.out) in
    absurd no

pub worn_out_names : WornOutRunsNameADevice
worn_out_names options before after outcome r low worn =
    let named = names_the_troubled options outcome r.course r.ends in
    elim named.tile [
      | inr is ↦ (devices.Tile, is)
      | inl tile ↦ elim named.script [
        | inr is ↦ (devices.Script, is)
        | inl script ↦ elim named.replies [
          | inr is ↦ (devices.Replies, is)
          | inl replies ↦ elim named.out [
            | inr is ↦ (devices.Out, is)
            | inl out ↦ not_worn _ options before after outcome r low worn (record { tile = tile; script = script; replies = replies; out = out })
          ]
        ]
      ]
    ]

-- an interruption after which no call is made again is one too many
worn_out : (options : Options) (before after : Devices) (outcome : Outcome) (r : Runs options before after outcome) → HaveLowCounts before
    → retries_in r.course ≡ MAX_RETRIES → 1 ≤ last_interruptions r.course → AreWornOut before after
worn_out options before after outcome r low full last =
    subst (λ (n : ℕ). MAX_RETRIES < n) (sym (all_interruptions_are options before after outcome r low)) (omega (arith, full, last))

-- ---- why a device is named

gives_up : (before after : Devices) (old new : Seen) (retries : ℕ) (trouble : Option Trouble) → HasLowCounts old → retries ≤ MAX_RETRIES → Meets old new retries trouble
    → (trouble ≡ Some Interrupted → AreWornOut before after) → IsSome trouble → GivesUp before after old new
gives_up before after old new retries None low few meets worn some = let no : false ≡ true = some in absurd cc
gives_up before after old new retries (Some Interrupted) low few meets worn some = inr (omega (arith, low.interruptions, few, meets.interruptions), worn refl)
gives_up before after old new retries (Some Failed) low few meets worn some = inl (λ same. omega (arith, low.failures, meets.failures, same))

too_long : (old new : Seen) (intake : Intake) → Supplies old new intake → MAX_SCRIPT < length intake.bytes → IsTooLong old new
too_long old new intake given long script script_is tells =
    let within = given_within old.bytes new.bytes intake.bytes script script_is (given.bytes tells) in omega (arith, long, within)

script_has_cause : (before after : Devices) (intake : Intake) → Supplies before.script after.script intake → (IsSome intake.trouble → GivesUp before after before.script after.script)
    → IsSome intake.trouble ⊎ (MAX_SCRIPT < length intake.bytes) → HasCause devices.Script before after
script_has_cause before after intake given up (inl some) = inl (up some)
script_has_cause before after intake given up (inr long) = inr (too_long before.script after.script intake given long)

pub named_for_cause : DevicesAreNamedForCause
named_for_cause options before after devices.Tile r low =
    let few : retries_in r.course ≤ MAX_RETRIES = r.patient.within in
    gives_up before after before.tile after.tile r.course.tile.retries r.course.tile.trouble low.tile (omega (arith, few)) r.tile.meets
    (λ is. worn_out options before after (outcomes.Device devices.Tile) r low (r.patient.tile is) (omega (arith, ap interruptions_in is))) r.ends.0
named_for_cause options before after devices.Script r low =
    let few : retries_in r.course ≤ MAX_RETRIES = r.patient.within in
    script_has_cause before after r.course.script r.script
    (gives_up before after before.script after.script r.course.script.retries r.course.script.trouble low.script (omega (arith, few)) r.script.meets
    (λ is. worn_out options before after (outcomes.Device devices.Script) r low (r.patient.script is) (omega (arith, ap interruptions_in is))))
    r.ends.between.cause
named_for_cause options before after devices.Replies r low =
    let few : retries_in r.course ≤ MAX_RETRIES = r.patient.within in
    gives_up before after before.replies after.replies r.course.replies.retries r.course.replies.trouble low.replies (omega (arith, few)) r.replies.meets
    (λ is. worn_out options before after (outcomes.Device devices.Replies) r low (r.patient.replies is) (omega (arith, ap interruptions_in is))) r.ends.between.cut_short.trouble
named_for_cause options before after devices.Out r low =
    let few : retries_in r.course ≤ MAX_RETRIES = r.patient.within in
    gives_up before after before.out after.out r.course.out.retries r.course.out.trouble low.out (omega (arith, few)) r.out.meets
    (λ is. worn_out options before after (outcomes.Device devices.Out) r low (r.patient.out is) (omega (arith, ap interruptions_in is))) r.ends.trouble
