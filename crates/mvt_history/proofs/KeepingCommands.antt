-- What a session stands for, and that it is held, after a command, after the end of a step, and after a step is
-- cancelled.
use Rattle.std.proofs.Common.{◌≡◌, ℕ, ◌+◌, ◌-◌, ◌<◌, ◌≤◌, true, false, is_some, ◌==◌, OnErr, inl, Option, Some, None, option_map, Vec, Global, Result, Ok, Err, List, [], ◌∷◌, ◌++◌, length, map, reverse, take, drop, refl, sym, ap, subst, ◌∙◌, arith}
use Rattle.std.proofs.lemmas.List.{take_all}
use Rattle.std.proofs.lemmas.Bool.Decides.{nat_tests}
use Rattle.std.specs.Result.{IsErrAnd, IsOk, is_ok}
use Rattle.mvt_document.specs.Plain.{Document}
use Rattle.mvt_document.specs.Opens.{IsDocument}
use Rattle.mvt_document.specs.declared.document.Document.{Document as HeldDocument}
use Rattle.mvt_meaning.specs.Command.{Command}
use Rattle.mvt_meaning.specs.Meaning.{after, applied}
use Rattle.mvt_change.specs.declared.change.Change.{Change as HeldChange}
use Rattle.mvt_change.specs.ChangeStands.{change_of}
use Rattle.mvt_change.specs.Changes.{Change, Fits, go, turn, weight}
use Rattle.mvt_change.specs.Joining.{joined, go_along, FitAlong}
use Rattle.mvt_change.proofs.Turning.{change_makes, turned_back, turned_fits, turned_twice}
use Rattle.mvt_change.proofs.JoinedChanges.{go_joined_list, fit_joined_list}
use Rattle.mvt_change.proofs.Changed.{map-reverse}
use Rattle.mvt_edit_steps.specs.Prepared.{IsPrepared}
use Rattle.mvt_history_steps.specs.Marks.{between, counted_from}
use Rattle.mvt_history_steps.specs.declared.marks.Mark.{Mark as HeldMark}
use Rattle.mvt_history_steps.specs.History.{History, after_all, present_document, commands_in, with_group, with_step, with_command, edited_to, edited, ended, closed, cancelled}
use Rattle.mvt_history_steps.specs.declared.error.HistoryError.{HistoryError}
use Rattle.mvt_history_steps.specs.declared.error.HistoryError.TheVariants.{NoMemory}
use Rattle.mvt_history_steps.specs.Reached.{LeadsBack, LeadOut}
use Rattle.mvt_history_steps.specs.Standing.{Standing, changes_in, closed_document}
use Rattle.mvt_history_steps.specs.Held.{mark_of, from_last, standing_of, IsHeld}
use Rattle.mvt_history_steps.specs.Session.{StandsFor, AnswersWithMemory, StopsWithin}
use Rattle.mvt_history_steps.proofs.Stepping.{length_from_last}
use Rattle.mvt_history.proofs.Closed.{is_closed, stands_present}
use Rattle.mvt_history_steps.proofs.Joined.{after_accepted, lead_out_more, lead_out_stopped, between_commands, lead_out_along, lead_out_joined}
use Rattle.mvt_history_steps.proofs.Following.{all_joined}
use Rattle.mvt_history_steps.proofs.Turned.{length_turned}
use Rattle.mvt_history.specs.Kept.{CarriesOut, IsEnded, IsKept, KeepsNext, with_open}
use Rattle.mvt_history.proofs.Keeping.{fit_taken, fit_dropped, along_dropped, along_makes, kept_held, kept_stands, open_held, open_stands}

-- ---- as the code keeps it

pub is_kept : (old new : HeldDocument) (undo undo_new redo redo_new : List HeldChange) (depth room : ℕ) (marks marks_new : List HeldMark) (pending pending_new : Option (List HeldChange)) (change : Change) → room ≡ depth → from_last undo_new ≡ take room (change ∷ from_last undo) → redo_new ≡ [] → map (counted_from (length undo + 1 - room)) (map mark_of marks_new) ≡ between (length undo + 1 - room) (length undo) (map mark_of marks) → pending_new ≡ None → IsKept (standing_of old undo redo depth marks pending) (standing_of new undo_new redo_new depth marks_new pending_new) change
is_kept old new undo undo_new redo redo_new depth room marks marks_new pending pending_new change full next none stay closed =
    let long : length undo ≡ length (from_last undo) = sym (length_from_last undo) in
    let gone : length undo + 1 - room ≡ length (from_last undo) + 1 - depth = omega (arith, long, full) in
    record {
      undo = next ∙ ap (λ n. take n (change ∷ from_last undo)) full;
      redo = ap from_last none;
      depth = refl;
      marks = ap (λ n. map (counted_from n) (map mark_of marks_new)) (sym gone) ∙ stay ∙ ap (λ n. between n (length undo) (map mark_of marks)) gone ∙ ap (λ n. between (length (from_last undo) + 1 - depth) n (map mark_of marks)) long;
      pending = ap (option_map from_last) closed;
    }

pub all_taken : (changes : List HeldChange) → take (length changes) (from_last changes) ≡ from_last changes
all_taken changes = take_all (length changes) (from_last changes) (omega (arith, length_from_last changes))

pub joined_from : (changes : List HeldChange) (change : Change) → change ≡ joined (reverse (map change_of changes)) → change ≡ joined (from_last changes)
joined_from changes change e = e ∙ ap joined (sym (map-reverse change_of changes))

pub same_from_last : (changes others : List HeldChange) → map change_of changes ≡ map change_of others → from_last changes ≡ from_last others
same_from_last changes others e = map-reverse change_of changes ∙ ap reverse e ∙ sym (map-reverse change_of others)

pub no_items : {A : Type 0} (items : List A) (count : ℕ) → count ≡ length items → true ≡ (count == 0) → items ≡ []
no_items [] count long none = refl
no_items (item ∷ items) count long none = let is : (count == 0) ≡ true = sym none in let zero : count ≡ 0 = grind (arith, nat_tests, is) in absurd (omega (arith, long, zero))

pub some_items : {A : Type 0} (items : List A) (count : ℕ) → count ≡ length items → false ≡ (count == 0) → 1 ≤ length items
some_items [] count long some = let is : (count == 0) ≡ false = sym some in let more : 1 ≤ count = grind (arith, nat_tests, is) in absurd (omega (arith, long, more))
some_items (item ∷ items) count long some = omega arith

-- the changes of an open step, as they are seen
pub seen_open : (pending : Option (Vec HeldChange Global)) (changes : Vec HeldChange Global) → pending ≡ Some changes → option_map from_last (option_map (λ pending. pending.items) pending) ≡ Some (from_last changes.items)
seen_open pending changes e = ap (λ pending. option_map from_last (option_map (λ (pending : Vec HeldChange Global). pending.items) pending)) e

-- and where none is open
pub seen_none : (pending : Option (Vec HeldChange Global)) → ((changes : Vec HeldChange Global) → pending ≡ Some changes → ⊥) → option_map (λ pending. pending.items) pending ≡ None
seen_none None left = refl
seen_none (Some changes) left = absurd (left changes refl)

-- and what contracts see of none is none
pub seen_nothing : (pending : Option (Vec HeldChange Global)) → option_map from_last (option_map (λ pending. pending.items) pending) ≡ None → option_map (λ pending. pending.items) pending ≡ None
seen_nothing None is = refl
seen_nothing (Some changes) is = absurd (cc)

-- contracts see an open step where one is open
pub seen_is_some : (pending : Option (Vec HeldChange Global)) → is_some (option_map from_last (option_map (λ pending. pending.items) pending)) ≡ is_some pending
seen_is_some None = refl
seen_is_some (Some changes) = refl

-- ---- out of memory

pub ran_out_of_memory : (asked : Result History HistoryError) (history : History) (answer : Result (Unit {0}) HistoryError) (session : Standing) → IsErrAnd answer (λ error. error ≡ NoMemory) → IsOk asked → StandsFor session history → AnswersWithMemory asked history answer session
ran_out_of_memory asked history (Ok done) session wanted accepted stands = absurd wanted
ran_out_of_memory asked history (Err error) session wanted accepted stands = (inl (wanted, accepted), stands)

pub on_error : (answer : Result (Unit {0}) HistoryError) {P : Type 0} → P → OnErr answer P
on_error (Ok done) says = tt
on_error (Err error) says = says

-- ---- which step is open

pub group_some : (group : Option (List Command)) (document : Document) (changes : List Change) → LeadOut group document (Some changes) → (commands : List Command) × (group ≡ Some commands) × LeadOut (Some commands) document (Some changes)
group_some None document changes out = absurd out
group_some (Some commands) document changes out = (commands, refl, out)

stands_open : (history : History) (session : Standing) (changes : List Change) → session.pending ≡ Some changes → StandsFor session history → (commands : List Command) × (history.group ≡ Some commands) × LeadOut (Some commands) (present_document history) (Some changes)
stands_open history session changes is stands = group_some history.group (present_document history) changes (subst (LeadOut history.group (present_document history)) is stands.pending_leads)

standing_open : (history : History) (session : Standing) (group : Option (List Command)) → history.group ≡ group → StandsFor session history → session.document ≡ after_all (commands_in group) (present_document history)
standing_open history session group is stands = stands.document ∙ ap (λ g. after_all (commands_in g) (present_document history)) is

closed_from : (session : Standing) (pending : Option (List Change)) → session.pending ≡ pending → go_along (changes_in pending) session.document ≡ closed_document session
closed_from session pending is = ap (λ p. go_along (changes_in p) session.document) (sym is)

pending_fits : (undo_room redo_room : ℕ) (session : Standing) (pending : Option (List Change)) → session.pending ≡ pending → IsHeld undo_room redo_room session → FitAlong (changes_in pending) session.document
pending_fits undo_room redo_room session pending is held = subst (λ p. FitAlong (changes_in p) session.document) is held.ready.pending_fit

-- ---- a command that is a step

-- what carries a command out leads back over it, once it is turned
prepared_leads_back : (command : Command) (document : Document) (change : Change) → IsDocument document → IsPrepared command document change → LeadsBack (command ∷ []) document (turn change document)
prepared_leads_back command document change valid prepared =
    let made : after command document ≡ go change document = after_accepted command document (go change document) prepared.means in
    let turned = turn change document in
    let twice : turn turned (after command document) ≡ change = ap (turn turned) made ∙ turned_twice change document prepared.fits in
    let takes = prepared.takes in
    let puts = prepared.puts in
    let few = prepared.steps in
    let again : weight (turn turned (after command document)) ≡ weight change = ap weight twice in
    record {
      fits = subst (Fits turned) (sym made) (turned_fits change document valid prepared.fits);
      leads = ap (go turned) made ∙ turned_back change document prepared.fits;
      holds = omega arith;
      becomes = omega arith;
      few_steps = omega (arith, length_turned change document);
    }

pub command_alone_held : (undo_room redo_room : ℕ) (before after : Standing) (change : Change) → IsKept before after (turn change before.document) → before.pending ≡ None → IsHeld undo_room redo_room before → Fits change before.document → after.document ≡ go change before.document → IsHeld undo_room redo_room after
command_alone_held undo_room redo_room before after change kept is held fits made =
    let old = before.document in
    let valid = held.ready.valid in
    let leads : go (turn change old) after.document ≡ closed_document before = ap (go (turn change old)) made ∙ turned_back change old fits ∙ closed_from before None is in
    kept_held undo_room redo_room before after (turn change old) kept held
    (subst IsDocument (sym made) (change_makes change old valid fits))
    (subst (Fits (turn change old)) (sym made) (turned_fits change old valid fits))
    leads

edited_so : (command : Command) (history : History) (session : Standing) (group : Option (List Command)) (new : Document) → history.group ≡ group → StandsFor session history → applied command session.document ≡ Ok new → edited command history ≡ Ok (with_command command group history)
edited_so command history session group new is stands means =
    ap (edited_to command history) (ap (applied command) (sym stands.document) ∙ means) ∙ ap (λ g. Ok (with_command command g history)) is

pub command_alone : (command : Command) (history : History) (before after : Standing) (change : Change) → IsKept before after (turn change before.document) → before.pending ≡ None → IsDocument before.document → IsPrepared command before.document change → after.document ≡ go change before.document → StandsFor before history → (next : History) × (edited command history ≡ Ok next) × StandsFor after next
command_alone command history before next change kept is valid prepared made stands =
    let old = before.document in
    let alone = is_closed before history is stands in
    let here : old ≡ present_document history = stands_present before history is stands in
    let accepted : after command old ≡ go change old = after_accepted command old (go change old) prepared.means in
    let document : next.document ≡ after_all (command ∷ []) (present_document history) = made ∙ sym accepted ∙ ap (after command) here in
    let back = subst (λ d. LeadsBack (command ∷ []) d (turn change old)) here (prepared_leads_back command old change valid prepared) in (
      with_step (command ∷ []) history,
      edited_so command history before None (go change old) alone stands prepared.means,
      kept_stands (command ∷ []) history before next (turn change old) kept stands document back,
    )

-- ---- a command of the open step

pub command_within_held : (undo_room redo_room : ℕ) (session : Standing) (changes : List Change) (change : Change) → session.pending ≡ Some changes → IsHeld undo_room redo_room session → Fits change session.document → IsHeld undo_room redo_room (with_open (go change session.document) (Some (turn change session.document ∷ changes)) session)
command_within_held undo_room redo_room session changes change is held fits =
    let old = session.document in
    let valid = held.ready.valid in
    let back = turned_back change old fits in
    open_held undo_room redo_room session (go change old) (Some (turn change old ∷ changes)) held
    (change_makes change old valid fits)
    (turned_fits change old valid fits, subst (FitAlong changes) (sym back) (pending_fits undo_room redo_room session (Some changes) is held))
    (ap (go_along changes) back ∙ closed_from session (Some changes) is)

pub command_within : (command : Command) (history : History) (session : Standing) (changes : List Change) (change : Change) → session.pending ≡ Some changes → IsDocument session.document → IsPrepared command session.document change → StandsFor session history → (next : History) × (edited command history ≡ Ok next) × StandsFor (with_open (go change session.document) (Some (turn change session.document ∷ changes)) session) next
command_within command history session changes change is valid prepared stands =
    let old = session.document in
    let found = stands_open history session changes is stands in
    let commands = found.0 in
    let present = present_document history in
    let here : old ≡ after_all commands present = standing_open history session (Some commands) found.1 stands in
    let accepted : after command old ≡ go change old = after_accepted command old (go change old) prepared.means in
    let document : go change old ≡ after_all (commands ++ command ∷ []) present =
    sym accepted ∙ ap (after command) here ∙ sym (all_joined commands (command ∷ []) present) in
    let back = subst (λ d. LeadsBack (command ∷ []) d (turn change old)) here (prepared_leads_back command old change valid prepared) in
    let more = commands ++ command ∷ [] in (
      with_group (Some more) history,
      edited_so command history session (Some commands) (go change old) found.1 stands prepared.means,
      open_stands (Some more) history session (go change old) (Some (turn change old ∷ changes)) stands document (lead_out_more commands command present changes (turn change old) found.2 back),
    )

-- ---- the end of a step

empty_step : (commands : List Command) (document : Document) → LeadOut (Some commands) document (Some []) → commands ≡ []
empty_step [] document out = refl
empty_step (command ∷ commands) document out = absurd (omega (arith, out.0))

pub empty_ended : (history : History) (session : Standing) → session.pending ≡ Some [] → StandsFor session history → (next : History) × (closed history ≡ Ok next) × StandsFor (with_open session.document None session) next
empty_ended history session is stands =
    let found = stands_open history session [] is stands in
    let none : history.group ≡ Some [] = found.1 ∙ ap (λ commands. Some commands) (empty_step found.0 (present_document history) found.2) in (
      with_group None history,
      ap (λ group. ended group history) none,
      open_stands None history session session.document None stands (standing_open history session (Some []) none stands) tt,
    )

pub ended_held : (undo_room redo_room : ℕ) (before after : Standing) (changes : List Change) → IsKept before after (joined changes) → before.pending ≡ Some changes → after.document ≡ before.document → IsHeld undo_room redo_room before → IsHeld undo_room redo_room after
ended_held undo_room redo_room before after changes kept is same held =
    let old = before.document in
    let fit = (fit_joined_list changes old).1 (pending_fits undo_room redo_room before (Some changes) is held) in
    let leads : go (joined changes) after.document ≡ closed_document before = ap (go (joined changes)) same ∙ go_joined_list changes old ∙ closed_from before (Some changes) is in
    kept_held undo_room redo_room before after (joined changes) kept held (subst IsDocument (sym same) held.ready.valid) (subst (Fits (joined changes)) (sym same) fit) leads

ended_some : (commands : List Command) (history : History) → 1 ≤ length commands → ended (Some commands) history ≡ Ok (with_step commands history)
ended_some [] history some = absurd (omega (arith, some))
ended_some (command ∷ commands) history some = refl

ended_ok : (commands : List Command) (history : History) → is_ok (ended (Some commands) history) ≡ true
ended_ok [] history = refl
ended_ok (command ∷ commands) history = refl

-- an open step can always be ended
pub end_accepted : (history : History) (session : Standing) (changes : List Change) → session.pending ≡ Some changes → StandsFor session history → IsOk (closed history)
end_accepted history session changes is stands =
    let found = stands_open history session changes is stands in
    ap (λ group. is_ok (ended group history)) found.1 ∙ ended_ok found.0 history

pub step_ended : (history : History) (before after : Standing) (changes : List Change) → IsKept before after (joined changes) → before.pending ≡ Some changes → 1 ≤ length changes → after.document ≡ before.document → StandsFor before history → (next : History) × (closed history ≡ Ok next) × StandsFor after next
step_ended history before after changes kept is some same stands =
    let found = stands_open history before changes is stands in
    let commands = found.0 in
    let present = present_document history in (
      with_step commands history,
      ap (λ group. ended group history) found.1 ∙ ended_some commands history (omega (arith, some, found.2.0)),
      kept_stands commands history before after (joined changes) kept stands (same ∙ standing_open history before (Some commands) found.1 stands) (lead_out_joined commands present changes found.2),
    )

-- ---- a step that is cancelled

pub stopped_held : (undo_room redo_room : ℕ) (session : Standing) (changes : List Change) (taken : ℕ) → session.pending ≡ Some changes → IsHeld undo_room redo_room session → IsHeld undo_room redo_room (with_open (go_along (take taken changes) session.document) (Some (drop taken changes)) session)
stopped_held undo_room redo_room session changes taken is held =
    let old = session.document in
    let fit = pending_fits undo_room redo_room session (Some changes) is held in
    open_held undo_room redo_room session (go_along (take taken changes) old) (Some (drop taken changes)) held
    (along_makes (take taken changes) old held.ready.valid (fit_taken taken changes old fit))
    (fit_dropped taken changes old fit)
    (along_dropped taken changes old ∙ closed_from session (Some changes) is)

pub cancelled_held : (undo_room redo_room : ℕ) (session : Standing) (changes : List Change) → session.pending ≡ Some changes → IsHeld undo_room redo_room session → IsHeld undo_room redo_room (with_open (go_along changes session.document) None session)
cancelled_held undo_room redo_room session changes is held =
    let fit = pending_fits undo_room redo_room session (Some changes) is held in
    open_held undo_room redo_room session (go_along changes session.document) None held (along_makes changes session.document held.ready.valid fit) tt (closed_from session (Some changes) is)

pub step_stopped : (history : History) (session : Standing) (changes : List Change) (taken : ℕ) → session.pending ≡ Some changes → taken < length changes → StandsFor session history → (between : History) × StopsWithin history taken between × StandsFor (with_open (go_along (take taken changes) session.document) (Some (drop taken changes)) session) between
step_stopped history session changes taken is some stands =
    let found = stands_open history session changes is stands in
    let commands = found.0 in
    let present = present_document history in
    let within : taken < length commands = omega (arith, some, found.2.0) in
    let left = take (length commands - taken) commands in
    let document : go_along (take taken changes) session.document ≡ after_all left present =
    ap (go_along (take taken changes)) (standing_open history session (Some commands) found.1 stands) ∙ between_commands commands present changes taken found.2 (omega (arith, within)) in (
      with_group (Some left) history,
      record { commands = commands; is_open = found.1; some_left = within; stands = refl },
      open_stands (Some left) history session (go_along (take taken changes) session.document) (Some (drop taken changes)) stands document (lead_out_stopped commands present changes taken found.2 (omega (arith, within))),
    )

pub step_cancelled : (history : History) (session : Standing) (changes : List Change) → session.pending ≡ Some changes → StandsFor session history → (next : History) × (cancelled history ≡ Ok next) × StandsFor (with_open (go_along changes session.document) None session) next
step_cancelled history session changes is stands =
    let found = stands_open history session changes is stands in
    let commands = found.0 in
    let opened : is_some history.group ≡ true = ap is_some found.1 in
    let document : go_along changes session.document ≡ present_document history =
    ap (go_along changes) (standing_open history session (Some commands) found.1 stands) ∙ lead_out_along (Some commands) (present_document history) (Some changes) found.2 in (
      with_group None history,
      rw opened refl,
      open_stands None history session (go_along changes session.document) None stands document tt,
    )

-- ---- what is kept of a command

-- `seen` is the session as contracts see it before
pub seen_kept : (before seen after : Standing) (change : Change) → before ≡ seen → IsKept before after (turn change before.document) → IsKept seen after (turn change seen.document)
seen_kept before seen after change same kept = subst (λ session. IsKept session after (turn change session.document)) same kept

-- where no step is open; `seen` is the session as contracts see it before
pub alone_carries : (command : Command) (seen before after : Standing) (change : Change) → before ≡ seen → before.pending ≡ None → IsKept before after (turn change before.document) → IsPrepared command before.document change → after.document ≡ go change before.document → CarriesOut command seen after
alone_carries command seen before after change same none kept prepared document =
    subst (λ session. CarriesOut command session after) same
    (record { change = change; prepared = prepared; document = document; keeps = subst (λ pending. KeepsNext pending (turn change before.document) before after) (sym none) kept })

-- where one is
pub within_carries : (command : Command) (seen before : Standing) (changes : List Change) (change : Change) → before ≡ seen → before.pending ≡ Some changes → IsPrepared command before.document change → CarriesOut command seen (with_open (go change before.document) (Some (turn change before.document ∷ changes)) before)
within_carries command seen before changes change same some prepared =
    let after = with_open (go change before.document) (Some (turn change before.document ∷ changes)) before in
    subst (λ session. CarriesOut command session after) same
    (record { change = change; prepared = prepared; document = refl; keeps = subst (λ pending. KeepsNext pending (turn change before.document) before after) (sym some) refl })

-- ---- what is kept where a step ends

pub empty_ends : (seen before : Standing) → before ≡ seen → before.pending ≡ Some [] → IsEnded seen.pending seen (with_open before.document None before)
empty_ends seen before same none = subst (λ session. IsEnded session.pending session (with_open before.document None before)) same (subst (λ pending. IsEnded pending before (with_open before.document None before)) (sym none) refl)

joined_ends : (before after : Standing) (changes : List Change) → 1 ≤ length changes → after.document ≡ before.document → IsKept before after (joined changes) → IsEnded (Some changes) before after
joined_ends before after [] some document kept = absurd (omega (arith, some))
joined_ends before after (change ∷ changes) some document kept = (document, kept)

pub step_ends : (seen before after : Standing) (changes : List Change) → before ≡ seen → before.pending ≡ Some changes → 1 ≤ length changes → after.document ≡ before.document → IsKept before after (joined changes) → IsEnded seen.pending seen after
step_ends seen before after changes same is some document kept =
    subst (λ session. IsEnded session.pending session after) same
    (subst (λ pending. IsEnded pending before after) (sym is) (joined_ends before after changes some document kept))
