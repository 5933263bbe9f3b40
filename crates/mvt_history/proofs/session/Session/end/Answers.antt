use Rattle.std.proofs.Common.{refl, Some, None, option_map, Vec, Global, take, ap, ◌∙◌, subst, sym, ◌∷◌}
use Rattle.circular_buffer.specs.Buffer.{Buffer}
use Rattle.mvt_change.specs.declared.change.Change.{Change}
use Rattle.mvt_change.specs.ChangeStands.{change_of}
use Rattle.mvt_change.specs.Joining.{joined}
use Rattle.mvt_history_steps.specs.History.{closed}
use Rattle.mvt_history_steps.specs.Held.{IsHeld, from_last, standing_of}
use Rattle.mvt_history.specs.Inside.{seen_in}
use Rattle.mvt_history_steps.specs.Session.{StandsFor}
use Rattle.mvt_history.specs.Kept.{IsKept, with_open}
use Rattle.mvt_history_steps.proofs.Stepping.{length_from_last}
use Rattle.mvt_history.proofs.KeepingCommands.{is_kept, joined_from, same_from_last, no_items, some_items, seen_open, ran_out_of_memory, on_error, empty_ended, empty_ends, end_accepted, ended_held, step_ended, step_ends}
use Rattle.mvt_history.proofs.session.Session.end.Goals as goal

-- ---- a step of no commands

pub returns-then-is_empty-clause-answer : goal.returns-then-is_empty-clause-answer
returns-then-is_empty-clause-answer c = λ history stands.
    let s = c.self.inside in
    let session = seen_in s in
    let before = subst (λ s. StandsFor s history) (sym c.self.view_is) stands in
    let pending = c.in-Some.pending in
    let is = seen_open s.pending c.in-Some.pending c.in-Some.is in
    let none = no_items pending.items pending.len pending.ok.0 c.if-is_empty.ensures in
    empty_ended history session (is ∙ ap (λ items. Some (from_last items)) none) before

pub returns-then-is_empty-clause-kept : goal.returns-then-is_empty-clause-kept
returns-then-is_empty-clause-kept c =
    let s = c.self.inside in
    let pending = c.in-Some.pending in
    let is = seen_open s.pending c.in-Some.pending c.in-Some.is in
    let none = no_items pending.items pending.len pending.ok.0 c.if-is_empty.ensures in
    empty_ends c.args.self.now (seen_in s) c.self.view_is (is ∙ ap (λ items. Some (from_last items)) none)

-- ---- out of memory

pub invariant_of-self-in_err-change : goal.invariant_of-self-in_err-change
invariant_of-self-in_err-change c =
    let s = c.self.inside in
    let session = seen_in s in
    let pending = c.in-Some.pending in
    let is = seen_open s.pending c.in-Some.pending c.in-Some.is in
    let same = is ∙ ap (λ changes. Some changes) (sym (same_from_last c.join.new.changes.items pending.items c.in_err-change.ensures.err)) in
    subst (λ pending. IsHeld s.undo.capacity s.redo.capacity (with_open session.document pending session)) same c.self.invariant

pub returns-in_err-change-clause-answer : goal.returns-in_err-change-clause-answer
returns-in_err-change-clause-answer c = λ history stands.
    let s = c.self.inside in
    let session = seen_in s in
    let before = subst (λ s. StandsFor s history) (sym c.self.view_is) stands in
    let pending = c.in-Some.pending in
    let is = seen_open s.pending c.in-Some.pending c.in-Some.is in
    let same = is ∙ ap (λ changes. Some changes) (sym (same_from_last c.join.new.changes.items pending.items c.in_err-change.ensures.err)) in
    ran_out_of_memory (closed history) history c.from_residual.result _ c.from_residual.ensures.1 (end_accepted history session (from_last pending.items) is before) (subst (λ pending. StandsFor (with_open session.document pending session) history) same before)

pub returns-in_err-change-clause-err : goal.returns-in_err-change-clause-err
returns-in_err-change-clause-err c =
    let s = c.self.inside in
    let session = seen_in s in
    let pending = c.in-Some.pending in
    let is = seen_open s.pending c.in-Some.pending c.in-Some.is in
    let same = is ∙ ap (λ changes. Some changes) (sym (same_from_last c.join.new.changes.items pending.items c.in_err-change.ensures.err)) in
    on_error c.from_residual.result (ap (λ pending. with_open session.document pending session) (sym same) ∙ c.self.view_is)

-- ---- a step of some

kept : (c : goal.After-keep) → let s = c.self.inside in IsKept (seen_in s) (standing_of s.document c.keep.new.undo.items c.keep.new.redo.items s.depth c.keep.new.marks.items None) (joined (from_last c.in-Some.pending.items))
kept c =
    let s = c.self.inside in
    let k = c.keep.new in
    let pending = option_map (λ (pending : Vec Change Global). pending.items) s.pending in
    let changes = c.in-Some.pending.items in
    let one = joined_from changes (change_of c.in_ok-change.change) c.in_ok-change.ensures.ok in
    let undo = c.keep.ensures.undo ∙ ap (λ change. take s.undo.capacity (change ∷ from_last s.undo.items)) one in
    let redo = ap (λ (redo : Buffer Change). redo.items) c.keep.ensures.redo in
    is_kept s.document s.document s.undo.items k.undo.items s.redo.items k.redo.items s.depth s.undo.capacity s.marks.items k.marks.items pending None (joined (from_last changes)) c.self.invariant.room_for_undo undo redo c.keep.ensures.marks refl

pub invariant_of-self-2 : goal.invariant_of-self-2
invariant_of-self-2 c =
    let s = c.self.inside in
    let session = seen_in s in
    let is = seen_open s.pending c.in-Some.pending c.in-Some.is in
    rw (c.keep.ensures.capacity, ap (λ (redo : Buffer Change). redo.capacity) c.keep.ensures.redo)
    (ended_held s.undo.capacity s.redo.capacity session _ (from_last c.in-Some.pending.items) (kept c) is refl c.self.invariant)

pub returns-clause-answer : goal.returns-clause-answer
returns-clause-answer c = λ history stands.
    let s = c.self.inside in
    let session = seen_in s in
    let before = subst (λ s. StandsFor s history) (sym c.self.view_is) stands in
    let pending = c.in-Some.pending in
    let is = seen_open s.pending c.in-Some.pending c.in-Some.is in
    let some = rw (← length_from_last pending.items) at (some_items pending.items pending.len pending.ok.0 c.if-is_empty.ensures) in
    step_ended history session _ (from_last pending.items) (kept c) is some refl before

pub returns-clause-kept : goal.returns-clause-kept
returns-clause-kept c =
    let s = c.self.inside in
    let pending = c.in-Some.pending in
    let is = seen_open s.pending c.in-Some.pending c.in-Some.is in
    let some = rw (← length_from_last pending.items) at (some_items pending.items pending.len pending.ok.0 c.if-is_empty.ensures) in
    step_ends c.args.self.now (seen_in s) _ (from_last pending.items) c.self.view_is is some refl (kept c)
