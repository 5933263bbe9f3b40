-- What an edit of a tile in memory returns for a script that is too long.
use Rattle.std.proofs.Common.{◌≡◌, ◌≢◌, ℕ, zero, suc, ◌<◌, ◌≤◌, ◌⊎◌, Bool, true, false, List, [], ◌∷◌, ◌++◌, length, take, None, refl, sym, ap, subst, ◌∙◌, inl, inr, arith, append-nil, length-append}
use Rattle.std.specs.Prelude.{IsSome, is_some}
use Rattle.std.specs.declared.option.Option.{Option}
use Rattle.std.specs.declared.vec.Vec.{Vec}
use Rattle.std.specs.declared.alloc.Global.{Global}
use Rattle.std.proofs.lemmas.List.{take-append-le}
use Rattle.mvt_document.specs.Opens.{OpensAs}
use Rattle.mvt_document.specs.Plain.{Document}
use Rattle.mvt_document.proofs.SameBytes.{one_document_by_bytes}
use Rattle.tile_device.specs.Seen.{Intake, Supplies}
use Rattle.tile_lines.specs.Lines.{whole_lines}
use Rattle.tile_lines.proofs.WholeLines.{whole_lines-front}
use Rattle.tile_course.specs.Course.{start_of, lines_in, IsFaulty, IsOpened, IsWritten, CarriesThrough}
use Rattle.tileshell.specs.InMemory.{handed_out, ran_cut, IsCutOff, CutsLongScript}
use Rattle.tile_course.specs.Replies.{NoneIsOutOfMemory}
use Rattle.tile_course.specs.Run.{Progress, after_lines, is_over, Walk}
use Rattle.tile_course.specs.declared.outcome.DeviceName.TheVariants as devices
use Rattle.tile_course.specs.declared.outcome.Options.{Options}
use Rattle.tile_course.specs.declared.outcome.Outcome.{Outcome}
use Rattle.tile_course.specs.declared.outcome.Outcome.TheVariants as outcomes
use Rattle.tile_course.specs.declared.outcome.TileFault.{TileFault}
use Rattle.tile_course.specs.declared.outcome.TileFault.TheVariants as faults
use Rattle.tile_course.specs.declared.limits.TheConstants.{MAX_SCRIPT}
use Rattle.tileshell.proofs.InMemory.{held, RunsInMemory}
use Rattle.tile_course.proofs.Prefixes.{after_lines-append}
use Rattle.tile_course.proofs.Overs.{over_stays}
use Rattle.tile_course.proofs.Replying.{walks_are_runs}
use Rattle.tile_course.proofs.Headlines.{none_counted}

-- ---- what a source in memory gives

-- what it gave, and what it has left, are all that it had
given : (all left : List ℕ) (intake : Intake) → Supplies (held all 0) (held left 0) intake → all ≡ intake.bytes ++ left
given all left intake supplies = supplies.bytes refl

given_whole : (all left : List ℕ) (intake : Intake) → Supplies (held all 0) (held left 0) intake → intake.is_whole ≡ true → length intake.bytes ≡ length all
given_whole all left intake supplies whole =
    let none : left ≡ [] = supplies.whole refl whole in
    omega (arith, ap length (given all left intake supplies), length-append intake.bytes left, ap length none)

given_bytes : (all left : List ℕ) (intake : Intake) → Supplies (held all 0) (held left 0) intake → intake.is_whole ≡ true → intake.bytes ≡ all
given_bytes all left intake supplies whole =
    let none : left ≡ [] = supplies.whole refl whole in
    sym (given all left intake supplies ∙ ap (λ (t : List ℕ). intake.bytes ++ t) none ∙ append-nil intake.bytes)

no_trouble : (all left : List ℕ) (intake : Intake) → Supplies (held all 0) (held left 0) intake → intake.trouble ≡ None
no_trouble all left intake supplies = none_counted intake.trouble (omega (arith, supplies.meets.interruptions)) (omega (arith, supplies.meets.failures))

-- ---- the lines of a prefix

-- what is taken of a prefix is a prefix of what is taken of the whole
front_taken : (n : ℕ) (prefix more : List ℕ) → (rest : List ℕ) × (take n (prefix ++ more) ≡ take n prefix ++ rest)
front_taken zero prefix more = ([], refl)
front_taken (suc n) [] more = (take (suc n) more, refl)
front_taken (suc n) (b ∷ prefix) more = let taken = front_taken n prefix more in (taken.0, ap (λ (t : List ℕ). b ∷ t) taken.1)

cut_lines : (intake : Intake) → intake.is_whole ≡ false → lines_in intake ≡ whole_lines (take MAX_SCRIPT intake.bytes)
cut_lines intake cut = rw cut refl

-- ---- how the run ends

module _ (options : Options) (tile script : List ℕ) (replies out : Vec ℕ Global) (document : Document) (opens : OpensAs tile document) (long : MAX_SCRIPT < length script) where
  -- no script that is too long is read to its end
  not_through : (A : Type 0) (start progress : Progress) (outcome : Outcome) (r : RunsInMemory options tile script replies.items out.items outcome)
      → CarriesThrough options.strict start r.runs.course.script r.runs.course.replies progress → A
  not_through A start progress outcome r carried =
      let no : ⊥ = omega (arith, long, carried.within, given_whole script r.script_left r.runs.course.script r.runs.script carried.whole) in absurd no

  opened_as : (outcome : Outcome) (r : RunsInMemory options tile script replies.items out.items outcome) (opened : Document) → IsOpened r.runs.course.tile opened → opened ≡ document
  opened_as outcome r opened is =
      let all : r.runs.course.tile.bytes ≡ tile = given_bytes tile r.tile_left r.runs.course.tile r.runs.tile is.whole in
      one_document_by_bytes opened document is.opens.settled opens.settled (is.opens.spelled ∙ all ∙ sym opens.spelled)

  not_faulty : (A : Type 0) (fault : TileFault) (left : List ℕ) (intake : Intake) → Supplies (held tile 0) (held left 0) intake → IsFaulty fault intake → A
  not_faulty A (faults.BadWire place) left intake supplies faulty =
      absurd (faulty.1.1 document (subst (λ (t : List ℕ). OpensAs t document) (sym (given_bytes tile left intake supplies faulty.0)) opens))
  not_faulty A faults.FileTooLarge left intake supplies faulty =
      let no : ⊥ = omega (arith, opens.within, faulty, ap length (given tile left intake supplies), length-append intake.bytes left) in absurd no

  -- as much of the script was read as may be read
  first_lines : (left : List ℕ) (intake : Intake) → Supplies (held script 0) (held left 0) intake → intake.is_whole ≡ false → (IsSome intake.trouble ⊎ (MAX_SCRIPT < length intake.bytes))
      → lines_in intake ≡ whole_lines (take MAX_SCRIPT script)
  first_lines left intake supplies cut (inl some) = let no : is_some intake.trouble ≡ false = ap is_some (no_trouble script left intake supplies) in absurd cc
  first_lines left intake supplies cut (inr more) =
      let read : MAX_SCRIPT ≤ length intake.bytes = omega arith in
      rw cut (ap whole_lines (sym (take-append-le MAX_SCRIPT intake.bytes left read) ∙ ap (take MAX_SCRIPT) (sym (given script left intake supplies))))

  -- the lines of what was read are the first of those that may be read
  front_lines : (left : List ℕ) (intake : Intake) → Supplies (held script 0) (held left 0) intake → (intake.is_whole ≡ true → length intake.bytes ≤ MAX_SCRIPT)
      → (others : List (List ℕ)) × (whole_lines (take MAX_SCRIPT script) ≡ lines_in intake ++ others)
  front_lines left intake supplies within = by_whole intake.is_whole refl
    where
      by_whole : (q : Bool) → intake.is_whole ≡ q → (others : List (List ℕ)) × (whole_lines (take MAX_SCRIPT script) ≡ lines_in intake ++ others)
      by_whole true whole = let no : ⊥ = omega (arith, long, within whole, given_whole script left intake supplies whole) in absurd no
      by_whole false cut =
          let taken = front_taken MAX_SCRIPT intake.bytes left in
          let more = whole_lines-front (take MAX_SCRIPT intake.bytes) taken.0 in
          (more.0, ap whole_lines (ap (take MAX_SCRIPT) (given script left intake supplies) ∙ taken.1) ∙ more.1 ∙ ap (λ (t : List (List ℕ)). t ++ more.0) (sym (cut_lines intake cut)))

  replied : (outcome : Outcome) (r : RunsInMemory options tile script replies.items out.items outcome) (progress : Progress) → IsWritten r.runs.course.replies progress.replies
      → replies.items ≡ progress.replies
  replied outcome r progress written = r.runs.replies.bytes refl ∙ written.all

  -- with all memory a run comes to where its lines lead
  comes_to : (outcome : Outcome) (r : RunsInMemory options tile script replies.items out.items outcome) → NoneIsOutOfMemory replies.items → (opened : Document) → IsOpened r.runs.course.tile opened
      → (progress : Progress) → Walk options.strict (start_of options opened) (lines_in r.runs.course.script) progress → IsWritten r.runs.course.replies progress.replies
      → progress ≡ after_lines options.strict (start_of options document) (lines_in r.runs.course.script)
  comes_to outcome r none_out_of_memory opened is progress walk written =
      walks_are_runs options.strict (start_of options opened) progress (lines_in r.runs.course.script) progress.replies walk refl (subst NoneIsOutOfMemory (replied outcome r progress written) none_out_of_memory)
      ∙ ap (λ (d : Document). after_lines options.strict (start_of options d) (lines_in r.runs.course.script)) (opened_as outcome r opened is)

  names_script : (r : RunsInMemory options tile script replies.items out.items (outcomes.Device devices.Script)) → NoneIsOutOfMemory replies.items
      → IsCutOff options document script (handed_out (outcomes.Device devices.Script) replies out)
  names_script r none_out_of_memory =
      let stops = r.runs.ends.between in
      let lines = first_lines r.script_left r.runs.course.script r.runs.script stops.cut stops.cause in
      let made : stops.progress ≡ ran_cut document options script =
      comes_to (outcomes.Device devices.Script) r none_out_of_memory r.runs.ends.document r.runs.ends.opened stops.progress stops.walk stops.replies
      ∙ ap (after_lines options.strict (start_of options document)) lines in
      let goes_on : is_over options.strict (ran_cut document options script) ≡ false = ap (is_over options.strict) (sym made) ∙ stops.goes_on in
      record {
        outcome = rw goes_on refl;
        replies = replied (outcomes.Device devices.Script) r stops.progress stops.replies ∙ ap (λ (p : Progress). p.replies) made;
        no_tile = refl;
      }

  stops_strictly : (r : RunsInMemory options tile script replies.items out.items outcomes.StrictStop) → NoneIsOutOfMemory replies.items
      → IsCutOff options document script (handed_out outcomes.StrictStop replies out)
  stops_strictly r none_out_of_memory =
      let stops = r.runs.ends.between in
      let more = front_lines r.script_left r.runs.course.script r.runs.script stops.within in
      let made : stops.progress ≡ ran_cut document options script =
      sym (over_stays options.strict stops.progress more.0 stops.over)
      ∙ ap (λ (p : Progress). after_lines options.strict p more.0) (comes_to outcomes.StrictStop r none_out_of_memory r.runs.ends.document r.runs.ends.opened stops.progress stops.walk stops.replies)
      ∙ sym (after_lines-append options.strict (start_of options document) (lines_in r.runs.course.script) more.0)
      ∙ ap (after_lines options.strict (start_of options document)) (sym more.1) in
      let over : is_over options.strict (ran_cut document options script) ≡ true = ap (is_over options.strict) (sym made) ∙ stops.over in
      record {
        outcome = rw over refl;
        replies = replied outcomes.StrictStop r stops.progress stops.replies ∙ ap (λ (p : Progress). p.replies) made;
        no_tile = refl;
      }

  cut_off : (outcome : Outcome) → RunsInMemory options tile script replies.items out.items outcome
      → (handed_out outcome replies out).outcome ≢ outcomes.NoMemory → NoneIsOutOfMemory (handed_out outcome replies out).replies.items → IsCutOff options document script (handed_out outcome replies out)
  cut_off outcomes.Done r memory none_out_of_memory = not_through _ (start_of options r.runs.ends.through.document) r.runs.ends.through.progress outcomes.Done r r.runs.ends.through.carried
  cut_off outcomes.SomeRefused r memory none_out_of_memory = not_through _ (start_of options r.runs.ends.through.document) r.runs.ends.through.progress outcomes.SomeRefused r r.runs.ends.through.carried
  cut_off outcomes.StrictStop r memory none_out_of_memory = stops_strictly r none_out_of_memory
  cut_off (outcomes.TileRefused fault) r memory none_out_of_memory = not_faulty _ fault r.tile_left r.runs.course.tile r.runs.tile r.runs.ends.1
  cut_off (outcomes.Device devices.Tile) r memory none_out_of_memory =
      let no : is_some r.runs.course.tile.trouble ≡ false = ap is_some (no_trouble tile r.tile_left r.runs.course.tile r.runs.tile) in
      let some : is_some r.runs.course.tile.trouble ≡ true = r.runs.ends.0 in absurd cc
  cut_off (outcomes.Device devices.Script) r memory none_out_of_memory = names_script r none_out_of_memory
  cut_off (outcomes.Device devices.Replies) r memory none_out_of_memory = absurd (memory refl)
  cut_off (outcomes.Device devices.Out) r memory none_out_of_memory = absurd (memory refl)
  cut_off outcomes.NoMemory r memory none_out_of_memory = absurd (memory refl)

pub cuts_long_script : (options : Options) (tile script : List ℕ) (replies out : Vec ℕ Global) (outcome : Outcome) → RunsInMemory options tile script replies.items out.items outcome
    → CutsLongScript options tile script (handed_out outcome replies out)
cuts_long_script options tile script replies out outcome r document opens long memory none_out_of_memory = cut_off options tile script replies out document opens long outcome r memory none_out_of_memory
