-- What a session stands for when a name was marked or unmarked, or it went back to a mark.
use Rattle.std.proofs.Common.{◌≡◌, ◌↔◌, ℕ, ◌+◌, ◌-◌, ◌<◌, ◌≤◌, Bool, true, false, ◌||◌, not, is_some, nat_lt, Result, Ok, Err, Option, Some, None, option_map, List, [], ◌∷◌, length, refl, sym, ap, ap₂, ◌∙◌, subst, inl, inr, arith}
use Rattle.std.specs.Option.{IsSome, ok_or}
use Rattle.std.specs.Result.{OnOk, OnErr, IfErr, IsErrAnd, MatchResult}
use Rattle.std.proofs.lemmas.Bool.{cases_Bool}
use Rattle.std.proofs.lemmas.List.{length-map}
use Rattle.mvt_history_steps.specs.Marks.{Mark, has_name, point_of, bound, unbound, counted_from}
use Rattle.mvt_history_steps.specs.History.{History, at_point, with_marks, marked, unmarked, gone_back}
use Rattle.mvt_history_steps.specs.Moves.{walk_in, moved_along, LeadsAlong}
use Rattle.mvt_history_steps.specs.Standing.{Standing, IsReady}
use Rattle.mvt_history_steps.specs.Held.{IsReached, IsHeld}
use Rattle.mvt_history.specs.Kept.{with_names}
use Rattle.mvt_history.specs.Refusing.{has_room}
use Rattle.mvt_history_steps.specs.Session.{StandsFor, Answers, IsOnTheWay, StopsAt, AnswersBack}
use Rattle.mvt_history_steps.specs.declared.TheConstants.{MAX_MARKS}
use Rattle.mvt_history_steps.specs.declared.steps.Direction.{Direction}
use Rattle.mvt_history_steps.specs.declared.steps.Direction.TheVariants.{Undo, Redo}
use Rattle.mvt_history_steps.specs.declared.error.HistoryError.{HistoryError}
use Rattle.mvt_history_steps.specs.declared.error.HistoryError.TheVariants.{NoMark, TooManyMarks, Stopped}
use Rattle.mvt_history_steps.proofs.Counting.{counted_point_of, counted_bound, counted_unbound}
use Rattle.mvt_meaning.proofs.Elements.{all_filtered}
use Rattle.mvt_history_steps.proofs.MarkOrder.{all_bound, order_bound, order_unbound, few_bound, length_filtered, point_holds}
use Rattle.mvt_history_steps.proofs.Sound.{sound_bound, sound_unbound}
use Rattle.mvt_history.proofs.Closed.{is_closed}
use Rattle.mvt_history.proofs.Moving.{walked_stands}

-- ---- the same names are marked in the history

some_counted : (floor : ℕ) (found : Option ℕ) → is_some (option_map (λ point. floor + point) found) ≡ is_some found
some_counted floor None = refl
some_counted floor (Some point) = refl

same_point : (name : List ℕ) (session : Standing) (history : History) → StandsFor session history → point_of name history.marks ≡ option_map (λ point. history.floor + point) (point_of name session.marks)
same_point name session history stands = ap (point_of name) stands.marks ∙ counted_point_of history.floor name session.marks

same_named : (name : List ℕ) (session : Standing) (history : History) → StandsFor session history → is_some (point_of name history.marks) ≡ is_some (point_of name session.marks)
same_named name session history stands = ap is_some (same_point name session history stands) ∙ some_counted history.floor (point_of name session.marks)

same_room : (name : List ℕ) (session : Standing) (history : History) → StandsFor session history → has_room name history.marks ≡ has_room name session.marks
same_room name session history stands =
    ap₂ (λ named count. named || nat_lt count MAX_MARKS) (same_named name session history stands) (ap length stands.marks ∙ length-map session.marks (counted_from history.floor))

-- ---- a name that is marked

pub marked_held : (undo_room redo_room : ℕ) (name : List ℕ) (session : Standing) → has_room name session.marks ≡ true → IsHeld undo_room redo_room session → IsHeld undo_room redo_room (with_names (bound name (length session.undo) session.marks) session)
marked_held undo_room redo_room name session room held =
    let all = length session.undo + length session.redo in
    record {
      ready = record { valid = held.ready.valid; pending_fit = held.ready.pending_fit; undo_fit = held.ready.undo_fit; redo_fit = held.ready.redo_fit };
      some_depth = held.some_depth;
      little_depth = held.little_depth;
      room_for_undo = held.room_for_undo;
      room_for_redo = held.room_for_redo;
      within_depth = held.within_depth;
      in_order = order_bound name (length session.undo) session.marks held.in_order;
      few_marks = few_bound name (length session.undo) session.marks room held.few_marks;
      reached = all_bound (IsReached all) name (length session.undo) session.marks (omega arith) held.reached;
    }

pub marked_answers : (name : List ℕ) (session : Standing) (history : History) → session.pending ≡ None → has_room name session.marks ≡ true → StandsFor session history → (after : History) × (marked name history ≡ Ok after) × StandsFor (with_names (bound name (length session.undo) session.marks) session) after
marked_answers name session history closed room stands =
    let none = is_closed session history closed stands in
    let there : has_room name history.marks ≡ true = same_room name session history stands ∙ room in (
      with_marks (bound name history.present history.marks) history,
      rw (none, there) refl,
      record {
        sound = sound_bound name history stands.sound there;
        fits_in_file = stands.fits_in_file;
        depth = stands.depth;
        document = stands.document;
        undo_reaches = stands.undo_reaches;
        redo_reaches = stands.redo_reaches;
        undo_leads = stands.undo_leads;
        redo_leads = stands.redo_leads;
        pending_leads = stands.pending_leads;
        marks = ap₂ (bound name) (sym stands.undo_reaches) stands.marks ∙ counted_bound history.floor name (length session.undo) session.marks;
      },
    )

pub marked_refused : (name : List ℕ) (session : Standing) (history : History) → session.pending ≡ None → has_room name session.marks ≡ false → StandsFor session history → marked name history ≡ Err TooManyMarks
marked_refused name session history closed room stands =
    let none = is_closed session history closed stands in
    let there : has_room name history.marks ≡ false = same_room name session history stands ∙ room in
    rw (none, there) refl

-- ---- a name that is no longer marked

-- a name that marks nothing is removed from nowhere
pub nothing_unbound : (name : List ℕ) (marks : List Mark) → is_some (point_of name marks) ≡ false → unbound name marks ≡ marks
nothing_unbound name [] none = refl
nothing_unbound name (mark ∷ marks) none =
    elim (cases_Bool (has_name name mark)) [
      | inl named ↦ absurd (let some = rw named at none in cc)
      | inr other ↦ rw other (ap (λ rest. mark ∷ rest) (nothing_unbound name marks (rw other at none)))
    ]

pub unmarked_held : (undo_room redo_room : ℕ) (name : List ℕ) (session : Standing) → IsHeld undo_room redo_room session → IsHeld undo_room redo_room (with_names (unbound name session.marks) session)
unmarked_held undo_room redo_room name session held =
    let all = length session.undo + length session.redo in
    let kept : Mark → Bool = λ mark. not (has_name name mark) in
    let few = held.few_marks in
    record {
      ready = record { valid = held.ready.valid; pending_fit = held.ready.pending_fit; undo_fit = held.ready.undo_fit; redo_fit = held.ready.redo_fit };
      some_depth = held.some_depth;
      little_depth = held.little_depth;
      room_for_undo = held.room_for_undo;
      room_for_redo = held.room_for_redo;
      within_depth = held.within_depth;
      in_order = order_unbound name session.marks held.in_order;
      few_marks = omega (arith, few, length_filtered kept session.marks);
      reached = all_filtered (IsReached all) kept session.marks held.reached;
    }

pub unmarked_answers : (name : List ℕ) (session : Standing) (history : History) → session.pending ≡ None → is_some (point_of name session.marks) ≡ true → StandsFor session history → (after : History) × (unmarked name history ≡ Ok after) × StandsFor (with_names (unbound name session.marks) session) after
unmarked_answers name session history closed named stands =
    let none = is_closed session history closed stands in
    let there : is_some (point_of name history.marks) ≡ true = same_named name session history stands ∙ named in (
      with_marks (unbound name history.marks) history,
      rw (none, there) refl,
      record {
        sound = sound_unbound name history stands.sound;
        fits_in_file = stands.fits_in_file;
        depth = stands.depth;
        document = stands.document;
        undo_reaches = stands.undo_reaches;
        redo_reaches = stands.redo_reaches;
        undo_leads = stands.undo_leads;
        redo_leads = stands.redo_leads;
        pending_leads = stands.pending_leads;
        marks = ap (unbound name) stands.marks ∙ counted_unbound history.floor name session.marks;
      },
    )

pub unmarked_refused : (name : List ℕ) (session : Standing) (history : History) → session.pending ≡ None → is_some (point_of name session.marks) ≡ false → StandsFor session history → unmarked name history ≡ Err NoMark
unmarked_refused name session history closed unnamed stands =
    let none = is_closed session history closed stands in
    let there : is_some (point_of name history.marks) ≡ false = same_named name session history stands ∙ unnamed in
    rw (none, there) refl

unnamed_from : (name : List ℕ) (marks : List Mark) → (IsSome (point_of name marks) → IsSome {T = Unit {0}} None) → is_some (point_of name marks) ≡ false
unnamed_from name marks says = elim (cases_Bool (is_some (point_of name marks))) [ inl named ↦ absurd (let no = says named in cc) | inr unnamed ↦ unnamed ]

-- what is answered where `unbind` found the name, or found none
pub unmark_answers : (name : List ℕ) (session : Standing) (history : History) (found : Option (Unit {0})) → IsSome found ↔ IsSome (point_of name session.marks) → session.pending ≡ None → StandsFor session history → Answers (unmarked name history) history (ok_or found NoMark) (with_names (unbound name session.marks) session)
unmark_answers name session history None says closed stands =
    let unnamed = unnamed_from name session.marks says.1 in
    (unmarked_refused name session history closed unnamed stands, subst (λ marks. StandsFor (with_names marks session) history) (sym (nothing_unbound name session.marks unnamed)) stands)
unmark_answers name session history (Some done) says closed stands = unmarked_answers name session history closed (says.0 refl) stands

pub unmark_kept : (name : List ℕ) (session seen : Standing) (found : Option (Unit {0})) → IsSome found ↔ IsSome (point_of name session.marks) → session ≡ seen → OnErr (ok_or found NoMark) (with_names (unbound name session.marks) session ≡ seen)
unmark_kept name session seen None says same = let unnamed = unnamed_from name session.marks says.1 in ap (λ marks. with_names marks session) (nothing_unbound name session.marks unnamed) ∙ same
unmark_kept name session seen (Some done) says same = tt

-- ---- back to a mark

-- undo or redo reaches the point that a name marks
point_reached : (undo_room redo_room : ℕ) (name : List ℕ) (point : ℕ) (session : Standing) → point_of name session.marks ≡ Some point → IsHeld undo_room redo_room session → point ≤ length session.undo + length session.redo
point_reached undo_room redo_room name point session found held = point_holds (λ point. point ≤ length session.undo + length session.redo) name session.marks held.reached point found

pub back_refused : (name : List ℕ) (session : Standing) (history : History) → session.pending ≡ None → point_of name session.marks ≡ None → StandsFor session history → gone_back name history ≡ Err NoMark
back_refused name session history closed unnamed stands =
    let none = is_closed session history closed stands in
    let there : point_of name history.marks ≡ None = same_point name session history stands ∙ ap (option_map (λ point. history.floor + point)) unnamed in
    rw (none, there) refl

marked_there : (name : List ℕ) (point : ℕ) (session : Standing) (history : History) → point_of name session.marks ≡ Some point → StandsFor session history → point_of name history.marks ≡ Some (history.floor + point)
marked_there name point session history found stands = same_point name session history stands ∙ ap (option_map (λ point. history.floor + point)) found

goes_back : (name : List ℕ) (point : ℕ) (session : Standing) (history : History) → session.pending ≡ None → point_of name session.marks ≡ Some point → StandsFor session history → gone_back name history ≡ Ok (at_point (history.floor + point) history)
goes_back name point session history closed found stands =
    let none = is_closed session history closed stands in
    let there = marked_there name point session history found stands in
    rw (none, there) refl

-- the way from the present point, counted from 0
way_counted : (direction : Direction) (floor count from to point : ℕ) → LeadsAlong direction count from to → floor + from ≡ point → LeadsAlong direction count point (floor + to)
way_counted Undo floor count from to point way is = omega (arith, way, is)
way_counted Redo floor count from to point way is = omega (arith, way, is)

-- a part of a way
part_of_way : (direction : Direction) (taken count from to : ℕ) → taken < count → LeadsAlong direction count from to → (at : ℕ) × LeadsAlong direction taken from at × IsOnTheWay from to taken at
part_of_way Undo taken count from to less way = (from - taken, omega (arith, way, less), inl (omega (arith, way, less), omega (arith, way, less)))
part_of_way Redo taken count from to less way = (from + taken, refl, inr (refl, omega (arith, way, less)))

-- as many changes are ahead as the way to a mark has steps
way_within : (direction : Direction) (count to : ℕ) (session : Standing) → LeadsAlong direction count (length session.undo) to → to ≤ length session.undo + length session.redo → count ≤ length (walk_in direction session).ahead
way_within Undo count to session way within = omega (arith, way)
way_within Redo count to session way within = omega (arith, way, within)

-- `count` steps in a direction lead to the point of a mark, and as many changes are ahead
pub record IsWayToMark (name : List ℕ) (point : ℕ) (direction : Direction) (count : ℕ) (session : Standing) : Type 0 where
  pub found : point_of name session.marks ≡ Some point
  pub way : LeadsAlong direction count (length session.undo) point
  pub enough : count ≤ length (walk_in direction session).ahead

pub way_to_mark : (undo_room redo_room : ℕ) (name : List ℕ) (point : ℕ) (direction : Direction) (count : ℕ) (session seen : Standing) → session ≡ seen → point_of name session.marks ≡ Some point → LeadsAlong direction count (length session.undo) point → IsHeld undo_room redo_room session → IsWayToMark name point direction count seen
way_to_mark undo_room redo_room name point direction count session seen same found way held =
    let here : IsWayToMark name point direction count session = record { found = found; way = way; enough = way_within direction count point session way (point_reached undo_room redo_room name point session found held) } in
    subst (IsWayToMark name point direction count) same here

-- what is answered after a walk that ended, or was stopped
pub back_answers : (name : List ℕ) (direction : Direction) (point count : ℕ) (session new : Standing) (history : History) (ended : Result (Unit {0}) ℕ) (answer : Result (Unit {0}) HistoryError) → MatchResult ended (λ done. answer ≡ Ok done) (λ taken. answer ≡ Err (Stopped taken)) → session.pending ≡ None → IsReady session → IsWayToMark name point direction count session → OnOk ended (new ≡ moved_along direction count session) → IfErr ended (λ taken. (taken < count) × (new ≡ moved_along direction taken session)) → StandsFor session history → AnswersBack name history answer new
back_answers name direction point count session new history (Ok done) answer is closed ready mark ok err stands =
    let whole = way_counted direction history.floor count (length session.undo) point history.present mark.way stands.undo_reaches in
    let there = walked_stands direction count (history.floor + point) session history closed ready mark.enough whole stands in
    rw is (at_point (history.floor + point) history, goes_back name point session history closed mark.found stands, subst (λ new. StandsFor new (at_point (history.floor + point) history)) (sym ok) there)
back_answers name direction point count session new history (Err taken) answer is closed ready mark ok err stands =
    let less = err.0 in
    let whole = way_counted direction history.floor count (length session.undo) point history.present mark.way stands.undo_reaches in
    let part = part_of_way direction taken count history.present (history.floor + point) less whole in
    let between = at_point part.0 history in
    let stops : StopsAt name history taken between = record {
      is_closed = is_closed session history closed stands;
      to = history.floor + point;
      marked = marked_there name point session history mark.found stands;
      at = part.0;
      on_the_way = part.2;
      stands = refl;
    } in
    rw is (inr (taken, between, refl, stops, subst (λ new. StandsFor new between) (sym err.1) (walked_stands direction taken part.0 session history closed ready (let enough = mark.enough in omega (arith, less, enough)) part.1 stands)))

-- what `map_err` returns
pub stopped_from : (ended : Result (Unit {0}) ℕ) (answer : Result (Unit {0}) HistoryError) (Gives : ℕ → HistoryError → Type 0) → ((taken : ℕ) (error : HistoryError) → Gives taken error → error ≡ Stopped taken) → MatchResult ended (λ done. answer ≡ Ok done) (λ taken. IsErrAnd answer (Gives taken)) → MatchResult ended (λ done. answer ≡ Ok done) (λ taken. answer ≡ Err (Stopped taken))
stopped_from (Ok done) answer Gives says is = is
stopped_from (Err taken) (Ok done) Gives says is = absurd is
stopped_from (Err taken) (Err error) Gives says is = ap (λ error. Err error) (says taken error is)
