-- What a session stands for, and that it is held, when a step is kept, and while one is open.
use Rattle.std.proofs.Common.{◌≡◌, ℕ, zero, suc, ◌+◌, ◌-◌, ◌≤◌, min, Bool, true, ◌&&◌, nat_le, Option, None, List, [], ◌∷◌, length, length-take, length-take-le, map, take, drop, get_or, refl, sym, ap, subst, ◌∙◌, inl, inr, arith}
use Rattle.std.specs.List.{AllByRecursion}
use Rattle.std.proofs.lemmas.List.{take_all, take_at, get_or_at, length-map}
use Rattle.std.proofs.lemmas.Bool.{cases_Bool}
use Rattle.std.proofs.lemmas.Bool.Decides.{nat_tests}
use Rattle.mvt_document.specs.Plain.{Document}
use Rattle.mvt_document.specs.Opens.{IsDocument}
use Rattle.mvt_meaning.specs.Command.{Command}
use Rattle.mvt_change.specs.Changes.{Change, Fits, go}
use Rattle.mvt_change.specs.Joining.{go_along, FitAlong}
use Rattle.mvt_change.proofs.Turning.{change_makes}
use Rattle.mvt_history_steps.specs.Marks.{Mark, InOrder, between, counted_from}
use Rattle.mvt_history_steps.specs.History.{History, IsWithin, after_all, after_steps, present_document, standing_document, commands_in, with_group, with_step}
use Rattle.mvt_history_steps.specs.Reached.{LeadsBack, LeadBack, LeadOn, LeadOut}
use Rattle.mvt_history_steps.specs.Standing.{Standing, IsReady, changes_in, closed_document}
use Rattle.mvt_history_steps.specs.Held.{IsReached, IsHeld}
use Rattle.mvt_history_steps.specs.Session.{StandsFor}
use Rattle.mvt_history.specs.Kept.{IsKept, gone_from, with_open}
use Rattle.mvt_history_steps.proofs.MarkOrder.{all_passed, order_filtered, length_filtered}
use Rattle.mvt_history_steps.proofs.Counting.{counted_twice, counted_between, all_from_counted, in_order_from_counted}
use Rattle.mvt_history_steps.proofs.Sound.{length-with_step, sound_with_step, sound_with_group}
use Rattle.mvt_history_steps.proofs.Following.{steps_joined, lead_back_same, lead_back_taken}

-- ---- changes one after the other

pub fit_taken : (count : ℕ) (changes : List Change) (document : Document) → FitAlong changes document → FitAlong (take count changes) document
fit_taken zero changes document fit = tt
fit_taken (suc count) [] document fit = tt
fit_taken (suc count) (change ∷ changes) document fit = (fit.0, fit_taken count changes (go change document) fit.1)

pub fit_dropped : (count : ℕ) (changes : List Change) (document : Document) → FitAlong changes document → FitAlong (drop count changes) (go_along (take count changes) document)
fit_dropped zero changes document fit = fit
fit_dropped (suc count) [] document fit = tt
fit_dropped (suc count) (change ∷ changes) document fit = fit_dropped count changes (go change document) fit.1

pub along_dropped : (count : ℕ) (changes : List Change) (document : Document) → go_along (drop count changes) (go_along (take count changes) document) ≡ go_along changes document
along_dropped zero changes document = refl
along_dropped (suc count) [] document = refl
along_dropped (suc count) (change ∷ changes) document = along_dropped count changes (go change document)

pub along_makes : (changes : List Change) (document : Document) → IsDocument document → FitAlong changes document → IsDocument (go_along changes document)
along_makes [] document valid fit = valid
along_makes (change ∷ changes) document valid fit = along_makes changes (go change document) (change_makes change document valid fit.0) fit.1

-- ---- a step that is kept

within_tested : (low high : ℕ) (mark : Mark) → (nat_le low mark.point && nat_le mark.point high) ≡ true → IsWithin low high mark
within_tested low high mark e =
    elim (cases_Bool (nat_le low mark.point)) [
      | inl above ↦ (let below : nat_le mark.point high ≡ true = rw above at e in (grind (arith, nat_tests, above), grind (arith, nat_tests, below)))
      | inr not_above ↦ absurd (let no = rw not_above at e in cc)
    ]

length_kept : (before after : Standing) (change : Change) → IsKept before after change → (length after.undo ≡ min before.depth (length before.undo + 1)) × (length after.redo ≡ 0)
length_kept before after change kept =
    let one : suc (length before.undo) ≡ length before.undo + 1 = omega arith in
    (ap length kept.undo ∙ length-take before.depth (change ∷ before.undo) ∙ ap (min before.depth) one, ap length kept.redo)

kept_ready : (before after : Standing) (change : Change) → IsKept before after change → IsReady before → IsDocument after.document → Fits change after.document → go change after.document ≡ closed_document before → IsReady after
kept_ready before after change kept ready valid fits leads =
    let closed : after.document ≡ closed_document after = ap (λ pending. go_along (changes_in pending) after.document) (sym kept.pending) in
    let fit : FitAlong (change ∷ before.undo) after.document = (fits, subst (FitAlong before.undo) (sym leads) ready.undo_fit) in
    record {
      valid = valid;
      pending_fit = subst (λ pending. FitAlong (changes_in pending) after.document) (sym kept.pending) tt;
      undo_fit = subst (λ undo. FitAlong undo (closed_document after)) (sym kept.undo) (subst (FitAlong (take before.depth (change ∷ before.undo))) closed (fit_taken before.depth (change ∷ before.undo) after.document fit));
      redo_fit = subst (λ redo. FitAlong redo (closed_document after)) (sym kept.redo) tt;
    }

pub kept_held : (undo_room redo_room : ℕ) (before after : Standing) (change : Change) → IsKept before after change → IsHeld undo_room redo_room before → IsDocument after.document → Fits change after.document → go change after.document ≡ closed_document before → IsHeld undo_room redo_room after
kept_held undo_room redo_room before after change kept held valid fits leads =
    let gone = gone_from before in
    let high = length before.undo in
    let test : Mark → Bool = λ mark. nat_le gone mark.point && nat_le mark.point high in
    let few = held.few_marks in
    let counts = length_kept before after change kept in
    let same = kept.depth in
    let within = held.within_depth in
    let marks_kept : length after.marks ≡ length (between gone high before.marks) = sym (length-map after.marks (counted_from gone)) ∙ ap length kept.marks in
    let passed = all_passed (IsWithin gone high) test (λ mark e. within_tested gone high mark e) before.marks in
    let counted : AllByRecursion (IsWithin gone high) (map (counted_from gone) after.marks) = subst (AllByRecursion (IsWithin gone high)) (sym kept.marks) passed in
    record {
      ready = kept_ready before after change kept held.ready valid fits leads;
      some_depth = let some = held.some_depth in omega arith;
      little_depth = let little = held.little_depth in omega arith;
      room_for_undo = held.room_for_undo ∙ sym same;
      room_for_redo = held.room_for_redo ∙ sym same;
      within_depth = omega (arith, counts);
      in_order = in_order_from_counted gone after.marks (subst InOrder (sym kept.marks) (order_filtered test before.marks held.in_order));
      few_marks = omega (arith, few, marks_kept, length_filtered test before.marks);
      reached = all_from_counted (IsReached (length after.undo + length after.redo)) (IsWithin gone high) gone (λ mark reached. omega (arith, counts, within, reached)) after.marks counted;
    }

-- ---- what holds with it

kept_document : (step : List Command) (history : History) → history.present ≤ length history.steps → standing_document (with_step step history) ≡ after_all step (present_document history)
kept_document step history within =
    let steps = (with_step step history).steps in
    let all : length steps ≤ history.present + 1 = omega (arith, length-with_step step history within) in
    ap (λ kept. after_steps kept history.start) (take_all (history.present + 1) steps all)
    ∙ steps_joined (take history.present history.steps) (step ∷ []) history.start

kept_leads : (step : List Command) (history : History) (change : Change) (undo : List Change) → history.present ≤ length history.steps → LeadsBack step (present_document history) change → LeadBack history.steps history.start history.present undo → LeadBack (with_step step history).steps history.start (history.present + 1) (change ∷ undo)
kept_leads step history change undo within back leads =
    let present = history.present in
    let steps = (with_step step history).steps in
    let long = length-take-le present history.steps within in
    let last : get_or steps present [] ≡ step = get_or_at (take present history.steps) step [] [] present long in
    let front : take present steps ≡ take present history.steps = take_at (take present history.steps) (step ∷ []) present long in
    let one : suc present ≡ present + 1 = omega arith in
    let here : LeadsBack (get_or steps present []) (after_steps (take present steps) history.start) change =
    subst (λ s. LeadsBack s (after_steps (take present steps) history.start) change) (sym last) (subst (λ f. LeadsBack step (after_steps f history.start) change) (sym front) back) in
    subst (λ point. LeadBack steps history.start point (change ∷ undo)) one (here, lead_back_same history.steps steps history.start present undo (sym front) leads)

kept_floor : (step : List Command) (history : History) (before : Standing) → StandsFor before history → (with_step step history).floor ≡ gone_from before + history.floor
kept_floor step history before stands =
    let depth = stands.depth in
    let undo = stands.undo_reaches in
    let few = stands.sound.within_depth in
    let steps = stands.sound.within_steps in
    omega arith

kept_marks : (step : List Command) (history : History) (before after : Standing) (change : Change) → IsKept before after change → StandsFor before history → (with_step step history).marks ≡ map (counted_from (with_step step history).floor) after.marks
kept_marks step history before after change kept stands =
    let gone = gone_from before in
    let floor = history.floor in
    let new : (with_step step history).floor ≡ gone + floor = kept_floor step history before stands in
    let low : gone + floor ≡ floor + gone = omega arith in
    let high : history.present ≡ floor + length before.undo = sym stands.undo_reaches in
    ap (λ n. between n history.present history.marks) (new ∙ low)
    ∙ ap (λ n. between (floor + gone) n history.marks) high
    ∙ ap (between (floor + gone) (floor + length before.undo)) stands.marks
    ∙ counted_between floor gone (length before.undo) before.marks
    ∙ ap (map (counted_from floor)) (sym kept.marks)
    ∙ counted_twice floor gone after.marks
    ∙ ap (λ n. map (counted_from n) after.marks) (sym (new ∙ low))

pub kept_stands : (step : List Command) (history : History) (before after : Standing) (change : Change) → IsKept before after change → StandsFor before history → after.document ≡ after_all step (present_document history) → LeadsBack step (present_document history) change → StandsFor after (with_step step history)
kept_stands step history before after change kept stands document back =
    let within = stands.sound.within_steps in
    let few = stands.sound.within_depth in
    let depth = stands.depth in
    let some = stands.sound.some_depth in
    let undo = stands.undo_reaches in
    let counts = length_kept before after change kept in
    let floor = kept_floor step history before stands in
    let all = length-with_step step history within in
    let leads = lead_back_taken (with_step step history).steps history.start (history.present + 1) before.depth (change ∷ before.undo) (kept_leads step history change before.undo within back stands.undo_leads) in
    record {
      sound = sound_with_step step history stands.sound;
      fits_in_file = stands.fits_in_file;
      depth = kept.depth ∙ depth;
      document = document ∙ sym (kept_document step history within);
      undo_reaches = omega (arith, counts, floor);
      redo_reaches = omega (arith, counts, all);
      undo_leads = subst (LeadBack (with_step step history).steps history.start (history.present + 1)) (sym kept.undo) leads;
      redo_leads = subst (LeadOn (with_step step history).steps history.start (history.present + 1)) (sym kept.redo) tt;
      pending_leads = subst (LeadOut None (present_document (with_step step history))) (sym kept.pending) tt;
      marks = kept_marks step history before after change kept stands;
    }

-- ---- an open step

pub open_held : (undo_room redo_room : ℕ) (session : Standing) (document : Document) (pending : Option (List Change)) → IsHeld undo_room redo_room session → IsDocument document → FitAlong (changes_in pending) document → go_along (changes_in pending) document ≡ closed_document session → IsHeld undo_room redo_room (with_open document pending session)
open_held undo_room redo_room session document pending held valid fit leads =
    record {
      ready = record {
        valid = valid;
        pending_fit = fit;
        undo_fit = subst (FitAlong session.undo) (sym leads) held.ready.undo_fit;
        redo_fit = subst (FitAlong session.redo) (sym leads) held.ready.redo_fit;
      };
      some_depth = held.some_depth;
      little_depth = held.little_depth;
      room_for_undo = held.room_for_undo;
      room_for_redo = held.room_for_redo;
      within_depth = held.within_depth;
      in_order = held.in_order;
      few_marks = held.few_marks;
      reached = held.reached;
    }

pub open_stands : (group : Option (List Command)) (history : History) (session : Standing) (document : Document) (pending : Option (List Change)) → StandsFor session history → document ≡ after_all (commands_in group) (present_document history) → LeadOut group (present_document history) pending → StandsFor (with_open document pending session) (with_group group history)
open_stands group history session document pending stands same out =
    record {
      sound = sound_with_group group history stands.sound;
      fits_in_file = stands.fits_in_file;
      depth = stands.depth;
      document = same;
      undo_reaches = stands.undo_reaches;
      redo_reaches = stands.redo_reaches;
      undo_leads = stands.undo_leads;
      redo_leads = stands.redo_leads;
      pending_leads = out;
      marks = stands.marks;
    }
