-- What a session stands for, and that it is held, when steps were taken back or made again.
use Rattle.std.proofs.Common.{◌≡◌, ℕ, zero, suc, ◌+◌, ◌-◌, ◌<◌, ◌≤◌, true, false, is_some, if◌then◌else◌, ◌==◌, Result, Ok, Err, Option, Some, None, List, [], ◌∷◌, length, take, get_or, refl, sym, ap, ◌∙◌, subst, inl, inr, arith}
use Rattle.std.specs.List.{AllByRecursion}
use Rattle.std.specs.Result.{IsOk, OnOk, IfErr, result_or}
use Rattle.std.specs.List.Sorted.{IsStrictlySortedBy}
use Rattle.std.proofs.lemmas.Bool.Decides.{nat_tests}
use Rattle.mvt_document.specs.declared.TheConstants.{MAX_FILE}
use Rattle.mvt_document.specs.Plain.{Document}
use Rattle.mvt_document.specs.Wire.{bytes_of}
use Rattle.mvt_document.specs.Opens.{IsDocument}
use Rattle.mvt_meaning.specs.Command.{Command}
use Rattle.mvt_change.specs.Changes.{Change, turn}
use Rattle.mvt_change.specs.Joining.{FitAlong}
use Rattle.mvt_change.proofs.Turning.{change_makes, turned_back, turned_fits}
use Rattle.mvt_history_steps.specs.History.{History, begun, after_all, after_steps, document_at, commands_in, at_point, with_group, opened}
use Rattle.mvt_history_steps.specs.Moves.{Track, stepped, walked, walk_in, with_walk, moved_along, LeadsAlong, gone}
use Rattle.mvt_history_steps.specs.Reached.{Leads, LeadBack, LeadOn, LeadOut, all_taken_by, all_put_by, step_allowance}
use Rattle.mvt_history_steps.specs.declared.steps.Direction.{Direction}
use Rattle.mvt_history_steps.specs.declared.steps.Direction.TheVariants.{Undo, Redo}
use Rattle.mvt_history_steps.specs.Standing.{Standing, IsReady}
use Rattle.mvt_history_steps.specs.Held.{IsReached, IsHeld}
use Rattle.mvt_history_steps.specs.declared.TheConstants.{MAX_DEPTH}
use Rattle.mvt_history_steps.specs.declared.error.HistoryError.{HistoryError}
use Rattle.mvt_history_steps.specs.declared.error.HistoryError.TheVariants.{GroupOpen, NoMemory, NothingToUndo, NothingToRedo}
use Rattle.mvt_history.specs.Refusing.{ensured_ahead}
use Rattle.mvt_history_steps.specs.Session.{StandsFor, AnswersWithMemory}
use Rattle.mvt_history_steps.proofs.Sound.{begins_sound, sound_at_point, sound_with_group}
use Rattle.mvt_history_steps.proofs.Following.{next_document}
use Rattle.mvt_history_steps.proofs.Stepping.{walk_of}
use Rattle.mvt_history.proofs.Closed.{is_closed, stands_present}
use Rattle.mvt_history_steps.proofs.Turned.{turned_leads}

-- ---- how many changes are ahead and behind

stepped_count : (document : Document) (ahead behind : List Change) → 1 ≤ length ahead → let walk = stepped (record { document = document; ahead = ahead; behind = behind }) in (length walk.ahead + 1 ≡ length ahead) × (length walk.behind ≡ length behind + 1)
stepped_count document [] behind some = absurd (omega (arith, some))
stepped_count document (change ∷ ahead) behind some = (omega arith, omega arith)

pub walked_count : (count : ℕ) (walk : Track) → count ≤ length walk.ahead → (length (walked count walk).ahead + count ≡ length walk.ahead) × (length (walked count walk).behind ≡ length walk.behind + count)
walked_count zero walk enough = (omega arith, omega arith)
walked_count (suc count) walk enough =
    let before = walked count walk in
    let so_far = walked_count count walk (omega (arith, enough)) in
    let next = stepped_count before.document before.ahead before.behind (omega (arith, so_far, enough)) in
    (omega (arith, so_far, next), omega (arith, so_far, next))

-- ---- what is ready on the way

record IsReadyWalk (document : Document) (ahead behind : List Change) : Type 0 where
  valid : IsDocument document
  ahead_fit : FitAlong ahead document
  behind_fit : FitAlong behind document

stepped_ready : (document : Document) (ahead behind : List Change) → IsReadyWalk document ahead behind → let walk = stepped (record { document = document; ahead = ahead; behind = behind }) in IsReadyWalk walk.document walk.ahead walk.behind
stepped_ready document [] behind ready = ready
stepped_ready document (change ∷ ahead) behind ready =
    let fits = ready.ahead_fit.0 in
    record {
      valid = change_makes change document ready.valid fits;
      ahead_fit = ready.ahead_fit.1;
      behind_fit = (turned_fits change document ready.valid fits, subst (FitAlong behind) (sym (turned_back change document fits)) ready.behind_fit);
    }

walked_ready : (count : ℕ) (walk : Track) → IsReadyWalk walk.document walk.ahead walk.behind → IsReadyWalk (walked count walk).document (walked count walk).ahead (walked count walk).behind
walked_ready zero walk ready = ready
walked_ready (suc count) walk ready =
    let before = walked count walk in stepped_ready before.document before.ahead before.behind (walked_ready count walk ready)

-- ---- what stands on the way

-- the changes lead along from a point in a direction
abbrev LeadAlong : Direction → List (List Command) → Document → ℕ → List Change → Type 0
LeadAlong Undo steps start point changes = LeadBack steps start point changes
LeadAlong Redo steps start point changes = LeadOn steps start point changes

-- the other direction
abbrev opposite : Direction → Direction
opposite Undo = Redo
opposite Redo = Undo

-- the document is that of the point, and from there the changes lead along, ahead and behind
record StandsAt (steps : List (List Command)) (start : Document) (direction : Direction) (point : ℕ) (walk : Track) : Type 0 where
  valid : IsDocument walk.document
  here : walk.document ≡ after_steps (take point steps) start
  ahead : LeadAlong direction steps start point walk.ahead
  behind : LeadAlong (opposite direction) steps start point walk.behind

one_back : (steps : List (List Command)) (start : Document) (point : ℕ) (document : Document) (ahead behind : List Change) → suc point ≤ length steps → 1 ≤ length ahead → StandsAt steps start Undo (suc point) (walk_of document ahead behind) → StandsAt steps start Undo point (stepped (walk_of document ahead behind))
one_back steps start point document [] behind inside some stands = absurd (omega (arith, some))
one_back steps start point document (change ∷ ahead) behind inside some stands =
    let step = get_or steps point [] in
    let before = after_steps (take point steps) start in
    let here : document ≡ after_all step before = stands.here ∙ next_document steps start point (omega (arith, inside)) in
    let leads = subst (λ d. Leads change d before (all_taken_by step before) (all_put_by step before) (step_allowance step before)) (sym here) stands.ahead.0 in
    record {
      valid = change_makes change document stands.valid leads.fits;
      here = leads.leads;
      ahead = stands.ahead.1;
      behind = (subst (λ d. Leads (turn change document) before d (all_put_by step before) (all_taken_by step before) (step_allowance step before)) here (turned_leads change document before (all_taken_by step before) (all_put_by step before) (step_allowance step before) stands.valid leads), stands.behind);
    }

one_on : (steps : List (List Command)) (start : Document) (point : ℕ) (document : Document) (ahead behind : List Change) → suc point ≤ length steps → 1 ≤ length ahead → StandsAt steps start Redo point (walk_of document ahead behind) → StandsAt steps start Redo (suc point) (stepped (walk_of document ahead behind))
one_on steps start point document [] behind inside some stands = absurd (omega (arith, some))
one_on steps start point document (change ∷ ahead) behind inside some stands =
    let step = get_or steps point [] in
    let before = after_steps (take point steps) start in
    let after = after_all step before in
    let leads = subst (λ d. Leads change d after (all_put_by step before) (all_taken_by step before) (step_allowance step before)) (sym stands.here) stands.ahead.0 in
    record {
      valid = change_makes change document stands.valid leads.fits;
      here = leads.leads ∙ sym (next_document steps start point (omega (arith, inside)));
      ahead = stands.ahead.1;
      behind = (subst (λ d. Leads (turn change document) after d (all_taken_by step before) (all_put_by step before) (step_allowance step before)) stands.here (turned_leads change document after (all_put_by step before) (all_taken_by step before) (step_allowance step before) stands.valid leads), stands.behind);
    }

some_along : (direction : Direction) (steps : List (List Command)) (start : Document) (count from to : ℕ) (walk : Track) → LeadsAlong direction count from to → from ≤ length steps → to ≤ length steps → count ≤ length walk.ahead → StandsAt steps start direction from walk → StandsAt steps start direction to (walked count walk)
some_along Undo steps start zero from to walk way low high enough stands =
    let same : from ≡ to = omega (arith, way) in subst (λ point. StandsAt steps start Undo point walk) same stands
some_along Redo steps start zero from to walk way low high enough stands =
    let same : from ≡ to = omega (arith, way) in subst (λ point. StandsAt steps start Redo point walk) same stands
some_along Undo steps start (suc count) from to walk way low high enough stands =
    let before = walked count walk in
    let left = walked_count count walk (omega (arith, enough)) in
    let so_far = some_along Undo steps start count from (suc to) walk (omega (arith, way)) low (omega (arith, way, low)) (omega (arith, enough)) stands in
    one_back steps start to before.document before.ahead before.behind (omega (arith, way, low)) (omega (arith, left, enough)) so_far
some_along Redo steps start (suc count) from to walk way low high enough stands =
    let before = walked count walk in
    let left = walked_count count walk (omega (arith, enough)) in
    let next : suc (from + count) ≡ to = omega (arith, way) in
    let so_far = some_along Redo steps start count from (from + count) walk refl low (omega (arith, way, high)) (omega (arith, enough)) stands in
    let made = one_on steps start (from + count) before.document before.ahead before.behind (omega (arith, way, high)) (omega (arith, left, enough)) so_far in
    subst (λ point. StandsAt steps start Redo point (walked (suc count) walk)) next made

-- ---- where no step is open

pub closed_fits : (session : Standing) → session.pending ≡ None → IsReady session → FitAlong session.undo session.document × FitAlong session.redo session.document
closed_fits session closed ready = (let fit = ready.undo_fit in rw closed at fit, let fit = ready.redo_fit in rw closed at fit)

pub closed_ready : (session : Standing) → session.pending ≡ None → IsDocument session.document → FitAlong session.undo session.document → FitAlong session.redo session.document → IsReady session
closed_ready session closed valid undo_fit redo_fit = record { valid = valid; pending_fit = rw closed tt; undo_fit = rw closed undo_fit; redo_fit = rw closed redo_fit }

closed_leads : (group : Option (List Command)) (document : Document) (pending : Option (List Change)) → group ≡ None → pending ≡ None → LeadOut group document pending
closed_leads None document None e closed = tt
closed_leads None document (Some changes) e closed = absurd cc
closed_leads (Some commands) document pending e closed = absurd cc

none_pending : (pending : Option (List Change)) (answer : Result (Unit {0}) HistoryError) (done : Unit {0}) → answer ≡ Ok done → answer ≡ (if is_some pending then Err GroupOpen else Ok tt) → pending ≡ None
none_pending None answer done e is = refl
none_pending (Some changes) answer done e is = absurd cc

-- what an answer of `ensure_closed` means for the session that was seen
pub seen_closed : (session seen : Standing) (done : Unit {0}) → session ≡ seen → ◌≡◌ {A = Result (Unit {0}) HistoryError} (Ok done) (if is_some seen.pending then Err GroupOpen else Ok tt) → session.pending ≡ None
seen_closed session seen done same is = ap (λ session. session.pending) same ∙ none_pending seen.pending (Ok done) done refl is

-- ---- undo and redo

-- as many changes are kept as before
moved_held : (undo_room redo_room : ℕ) (session : Standing) (document : Document) (undo redo : List Change) → session.pending ≡ None → IsDocument document → FitAlong undo document → FitAlong redo document → length session.undo + length session.redo ≡ length undo + length redo → IsHeld undo_room redo_room session → IsHeld undo_room redo_room (record session { document = document; undo = undo; redo = redo })
moved_held undo_room redo_room session document undo redo closed valid undo_fit redo_fit all held = record {
  ready = closed_ready (record session { document = document; undo = undo; redo = redo }) closed valid undo_fit redo_fit;
  some_depth = held.some_depth;
  little_depth = held.little_depth;
  room_for_undo = held.room_for_undo;
  room_for_redo = held.room_for_redo;
  within_depth = subst (λ n. n ≤ session.depth) all held.within_depth;
  in_order = held.in_order;
  few_marks = held.few_marks;
  reached = subst (λ n. AllByRecursion (IsReached n) session.marks) all held.reached;
}

pub walked_held : (direction : Direction) (undo_room redo_room count : ℕ) (session : Standing) → session.pending ≡ None → count ≤ length (walk_in direction session).ahead → IsHeld undo_room redo_room session → IsHeld undo_room redo_room (moved_along direction count session)
walked_held Undo undo_room redo_room count session closed enough held =
    let walk = walked count (walk_in Undo session) in
    let fit = closed_fits session closed held.ready in
    let ready = walked_ready count (walk_in Undo session) (record { valid = held.ready.valid; ahead_fit = fit.0; behind_fit = fit.1 }) in
    let left = walked_count count (walk_in Undo session) enough in
    moved_held undo_room redo_room session walk.document walk.ahead walk.behind closed ready.valid ready.ahead_fit ready.behind_fit (omega (arith, left)) held
walked_held Redo undo_room redo_room count session closed enough held =
    let walk = walked count (walk_in Redo session) in
    let fit = closed_fits session closed held.ready in
    let ready = walked_ready count (walk_in Redo session) (record { valid = held.ready.valid; ahead_fit = fit.1; behind_fit = fit.0 }) in
    let left = walked_count count (walk_in Redo session) enough in
    moved_held undo_room redo_room session walk.document walk.behind walk.ahead closed ready.valid ready.behind_fit ready.ahead_fit (omega (arith, left)) held

-- what is asked of the session that is seen, for the one that is kept
pub closed_here : (session seen : Standing) → session ≡ seen → seen.pending ≡ None → session.pending ≡ None
closed_here session seen same closed = ap (λ session. session.pending) same ∙ closed

pub enough_here : (given direction : Direction) (count : ℕ) (session seen : Standing) → given ≡ direction → session ≡ seen → count ≤ length (walk_in given seen).ahead → count ≤ length (walk_in direction session).ahead
enough_here given direction count session seen is same enough = subst (λ direction. count ≤ length (walk_in direction session).ahead) is (subst (λ session. count ≤ length (walk_in given session).ahead) (sym same) enough)

-- wherever a walk of `count` steps ended, at its end or before, the session is held
pub ended_held : (direction : Direction) (undo_room redo_room count : ℕ) (session : Standing) (walk : Track) (ended : Result (Unit {0}) ℕ) → session.pending ≡ None → count ≤ length (walk_in direction session).ahead → OnOk ended (walk ≡ walked count (walk_in direction session)) → IfErr ended (λ taken. (taken < count) × (walk ≡ walked taken (walk_in direction session))) → IsHeld undo_room redo_room session → IsHeld undo_room redo_room (with_walk direction walk session)
ended_held direction undo_room redo_room count session walk (Ok done) closed enough ok err held =
    subst (λ walk. IsHeld undo_room redo_room (with_walk direction walk session)) (sym ok) (walked_held direction undo_room redo_room count session closed enough held)
ended_held direction undo_room redo_room count session walk (Err taken) closed enough ok err held =
    let less = err.0 in subst (λ walk. IsHeld undo_room redo_room (with_walk direction walk session)) (sym err.1) (walked_held direction undo_room redo_room taken session closed (omega arith) held)

-- what the session stands for at another point
placed : (point : ℕ) (session : Standing) (history : History) (document : Document) (undo redo : List Change) → session.pending ≡ None → StandsFor session history → document ≡ document_at point history → LeadBack history.steps history.start point undo → LeadOn history.steps history.start point redo → history.floor + length undo ≡ point → point + length redo ≡ length history.steps → StandsFor (record session { document = document; undo = undo; redo = redo }) (at_point point history)
placed point session history document undo redo closed stands here leads_back leads_on back on =
    let none = is_closed session history closed stands in
    record {
      sound = sound_at_point point history stands.sound (omega (arith, back)) (omega (arith, on));
      fits_in_file = stands.fits_in_file;
      depth = stands.depth;
      document = here ∙ ap (λ group. after_all (commands_in group) (document_at point history)) (sym none);
      undo_reaches = back;
      redo_reaches = on;
      undo_leads = leads_back;
      redo_leads = leads_on;
      pending_leads = closed_leads history.group (document_at point history) session.pending none closed;
      marks = stands.marks;
    }

pub walked_stands : (direction : Direction) (count to : ℕ) (session : Standing) (history : History) → session.pending ≡ None → IsReady session → count ≤ length (walk_in direction session).ahead → LeadsAlong direction count history.present to → StandsFor session history → StandsFor (moved_along direction count session) (at_point to history)
walked_stands Undo count to session history closed ready enough way stands =
    let walk = walked count (walk_in Undo session) in
    let back = stands.undo_reaches in
    let on = stands.redo_reaches in
    let within = stands.sound.within_steps in
    let here : StandsAt history.steps history.start Undo history.present (walk_in Undo session) = record { valid = ready.valid; here = stands_present session history closed stands; ahead = stands.undo_leads; behind = stands.redo_leads } in
    let there = some_along Undo history.steps history.start count history.present to (walk_in Undo session) way within (omega (arith, way, within)) enough here in
    let left = walked_count count (walk_in Undo session) enough in
    placed to session history walk.document walk.ahead walk.behind closed stands there.here there.ahead there.behind (omega (arith, left, way, back)) (omega (arith, left, way, on))
walked_stands Redo count to session history closed ready enough way stands =
    let walk = walked count (walk_in Redo session) in
    let back = stands.undo_reaches in
    let on = stands.redo_reaches in
    let within = stands.sound.within_steps in
    let here : StandsAt history.steps history.start Redo history.present (walk_in Redo session) = record { valid = ready.valid; here = stands_present session history closed stands; ahead = stands.redo_leads; behind = stands.undo_leads } in
    let there = some_along Redo history.steps history.start count history.present to (walk_in Redo session) way within (omega (arith, way, enough, on)) enough here in
    let left = walked_count count (walk_in Redo session) enough in
    placed to session history walk.document walk.behind walk.ahead closed stands there.here there.behind there.ahead (omega (arith, left, way, back)) (omega (arith, left, way, on))

-- ---- what one undo or redo answers

not_moved : (direction : Direction) (session : Standing) → moved_along direction 0 session ≡ session
not_moved Undo session = refl
not_moved Redo session = refl

step_goes : (direction : Direction) (session : Standing) (history : History) → session.pending ≡ None → IsReady session → 1 ≤ length (walk_in direction session).ahead → StandsFor session history → (after : History) × (gone direction history ≡ Ok after) × StandsFor (moved_along direction 1 session) after
step_goes Undo session history closed ready some stands =
    let back = stands.undo_reaches in
    let none = is_closed session history closed stands in
    let apart : (history.present == history.floor) ≡ false = grind (arith, nat_tests) in
    (at_point (history.present - 1) history, rw (none, apart) refl, walked_stands Undo 1 (history.present - 1) session history closed ready some (omega arith) stands)
step_goes Redo session history closed ready some stands =
    let on = stands.redo_reaches in
    let none = is_closed session history closed stands in
    let apart : (history.present == length history.steps) ≡ false = grind (arith, nat_tests) in
    (at_point (history.present + 1) history, rw (none, apart) refl, walked_stands Redo 1 (history.present + 1) session history closed ready some refl stands)

some_there : (count : ℕ) (error : HistoryError) (done : Unit {0}) → ◌≡◌ {A = Result (Unit {0}) HistoryError} (Ok done) (if count == 0 then Err error else Ok tt) → 1 ≤ count
some_there zero error done is = absurd cc
some_there (suc count) error done is = omega arith

none_there : (count : ℕ) (error why : HistoryError) → ◌≡◌ {A = Result (Unit {0}) HistoryError} (Err why) (if count == 0 then Err error else Ok tt) → (count ≡ 0) × (why ≡ error)
none_there zero error why is = (refl, cc)
none_there (suc count) error why is = absurd (let apart : (suc count == 0) ≡ false = grind (arith, nat_tests) in let no = rw apart at is in cc)

-- a step is ahead if `ensure_ahead` says so
pub lies_ahead : (direction : Direction) (session : Standing) (done : Unit {0}) → ◌≡◌ {A = Result (Unit {0}) HistoryError} (Ok done) (ensured_ahead direction session) → 1 ≤ length (walk_in direction session).ahead
lies_ahead Undo session done is = some_there (length session.undo) NothingToUndo done is
lies_ahead Redo session done is = some_there (length session.redo) NothingToRedo done is

refused_ahead : (direction : Direction) (session : Standing) (history : History) (why : HistoryError) → session.pending ≡ None → ◌≡◌ {A = Result (Unit {0}) HistoryError} (Err why) (ensured_ahead direction session) → StandsFor session history → gone direction history ≡ Err why
refused_ahead Undo session history why closed is stands =
    let none = is_closed session history closed stands in
    let found = none_there (length session.undo) NothingToUndo why is in
    let undo = stands.undo_reaches in
    let empty = found.0 in
    let there : (history.present == history.floor) ≡ true = grind (arith, nat_tests) in
    rw (none, there) (ap (λ error. Err error) (sym found.1))
refused_ahead Redo session history why closed is stands =
    let none = is_closed session history closed stands in
    let found = none_there (length session.redo) NothingToRedo why is in
    let redo = stands.redo_reaches in
    let empty = found.0 in
    let there : (history.present == length history.steps) ≡ true = grind (arith, nat_tests) in
    rw (none, there) (ap (λ error. Err error) (sym found.1))

-- what is answered if it refuses
pub refusal_answers : (direction : Direction) (session : Standing) (history : History) (answer : Result (Unit {0}) HistoryError) (why : HistoryError) → answer ≡ Err why → session.pending ≡ None → ◌≡◌ {A = Result (Unit {0}) HistoryError} (Err why) (ensured_ahead direction session) → StandsFor session history → AnswersWithMemory (gone direction history) history answer session
refusal_answers direction session history answer why is closed refuses stands =
    subst (λ answer. AnswersWithMemory (gone direction history) history answer session) (sym is) (inr (refused_ahead direction session history why closed refuses stands), stands)

-- what is answered after one step that was made, or was not
pub step_answers : (direction : Direction) (session new : Standing) (history : History) (ended : Result (Unit {0}) ℕ) → session.pending ≡ None → IsReady session → 1 ≤ length (walk_in direction session).ahead → OnOk ended (new ≡ moved_along direction 1 session) → IfErr ended (λ taken. (taken < 1) × (new ≡ moved_along direction taken session)) → StandsFor session history → AnswersWithMemory (gone direction history) history (result_or ended (Err NoMemory)) new
step_answers direction session new history (Ok done) closed ready some ok err stands =
    let made = step_goes direction session history closed ready some stands in
    (made.0, made.1, subst (λ new. StandsFor new made.0) (sym ok) made.2)
step_answers direction session new history (Err taken) closed ready some ok err stands =
    let none : taken ≡ 0 = omega (arith, err.0) in
    let made = step_goes direction session history closed ready some stands in
    let same : new ≡ session = err.1 ∙ ap (λ n. moved_along direction n session) none ∙ not_moved direction session in
    (inl (refl, subst IsOk (sym made.1) refl), subst (λ new. StandsFor new history) (sym same) stands)

-- ---- a step that is opened

pub opened_answers : (session : Standing) (history : History) → session.pending ≡ None → StandsFor session history → (after : History) × (opened history ≡ Ok after) × StandsFor (record session { pending = Some [] }) after
opened_answers session history closed stands =
    let none = is_closed session history closed stands in (
      with_group (Some []) history,
      rw none refl,
      record {
        sound = sound_with_group (Some []) history stands.sound;
        fits_in_file = stands.fits_in_file;
        depth = stands.depth;
        document = stands_present session history closed stands;
        undo_reaches = stands.undo_reaches;
        redo_reaches = stands.redo_reaches;
        undo_leads = stands.undo_leads;
        redo_leads = stands.redo_leads;
        pending_leads = (refl, tt);
        marks = stands.marks;
      },
    )

-- ---- a session that is started

pub started_stands : (document : Document) (depth : ℕ) → 1 ≤ depth → length (bytes_of document) ≤ MAX_FILE → StandsFor (record { document = document; undo = []; redo = []; depth = depth; marks = []; pending = None }) (begun document depth)
started_stands document depth some fits = record {
  sound = begins_sound document depth some;
  fits_in_file = fits;
  depth = refl;
  document = refl;
  undo_reaches = refl;
  redo_reaches = refl;
  undo_leads = tt;
  redo_leads = tt;
  pending_leads = tt;
  marks = refl;
}

pub started_held : (document : Document) (depth : ℕ) → IsDocument document → 1 ≤ depth → depth ≤ MAX_DEPTH → IsHeld depth depth (record { document = document; undo = []; redo = []; depth = depth; marks = []; pending = None })
unfolding IsStrictlySortedBy
started_held document depth valid some little = record {
  ready = record { valid = valid; pending_fit = tt; undo_fit = tt; redo_fit = tt };
  some_depth = some;
  little_depth = little;
  room_for_undo = refl;
  room_for_redo = refl;
  within_depth = omega (arith, some);
  in_order = tt;
  few_marks = omega arith;
  reached = tt;
}
