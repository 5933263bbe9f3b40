use Rattle.std.proofs.Common.{◌≡◌, ◌∷◌, None, option_map, Vec, Global, take, ap, ◌∙◌, subst, sym}
use Rattle.circular_buffer.specs.Buffer.{Buffer}
use Rattle.mvt_document.specs.Stands.{document_of}
use Rattle.mvt_change.specs.declared.change.Change.{Change}
use Rattle.mvt_change.specs.ChangeStands.{change_of}
use Rattle.mvt_change.specs.Changes.{Fits, go, turn}
use Rattle.mvt_history_steps.specs.Held.{from_last, standing_of}
use Rattle.mvt_history.specs.Inside.{seen_in}
use Rattle.mvt_history.specs.Kept.{IsKept}
use Rattle.mvt_history.proofs.KeepingCommands.{is_kept, seen_kept, seen_nothing, command_alone_held}
use Rattle.mvt_history.proofs.session.Session.carry_out.Goals as goal

pub flipped-requires : goal.flipped-requires
flipped-requires c = subst (λ session. Fits (change_of c.args.change) session.document) (sym c.self.view_is) c.requires.fits

kept : (c : goal.After-keep) → let s = c.self.inside in let pending = option_map (λ (pending : Vec Change Global). pending.items) s.pending in IsKept (seen_in s) (standing_of c.flipped.new.document c.keep.new.undo.items c.keep.new.redo.items s.depth c.keep.new.marks.items pending) (turn (change_of c.args.change) (document_of s.document))
kept c =
    let s = c.self.inside in
    let k = c.keep.new in
    let pending = option_map (λ (pending : Vec Change Global). pending.items) s.pending in
    let none = seen_nothing s.pending (ap (λ session. session.pending) c.self.view_is ∙ c.requires.closed) in
    let undo = c.keep.ensures.undo ∙ ap (λ change. take s.undo.capacity (change ∷ from_last s.undo.items)) c.in_ok-change.ensures.back in
    let redo = ap (λ (redo : Buffer Change). redo.items) c.keep.ensures.redo in
    is_kept s.document c.flipped.new.document s.undo.items k.undo.items s.redo.items k.redo.items s.depth s.undo.capacity s.marks.items k.marks.items pending pending (turn (change_of c.args.change) (document_of s.document)) c.self.invariant.room_for_undo undo redo c.keep.ensures.marks none

pub invariant_of-self-2 : goal.invariant_of-self-2
invariant_of-self-2 c =
    let s = c.self.inside in
    let session = seen_in s in
    let none = ap (λ session. session.pending) c.self.view_is ∙ c.requires.closed in
    let fits = subst (λ session. Fits (change_of c.args.change) session.document) (sym c.self.view_is) c.requires.fits in
    rw (c.keep.ensures.capacity, ap (λ (redo : Buffer Change). redo.capacity) c.keep.ensures.redo)
    (command_alone_held s.undo.capacity s.redo.capacity session _ (change_of c.args.change) (kept c) none c.self.invariant fits c.in_ok-change.ensures.document)

pub returns-clause-document : goal.returns-clause-document
returns-clause-document c = c.in_ok-change.ensures.document ∙ ap (λ session. go (change_of c.args.change) session.document) c.self.view_is

pub returns-clause-kept : goal.returns-clause-kept
returns-clause-kept c = seen_kept _ _ _ (change_of c.args.change) c.self.view_is (kept c)
