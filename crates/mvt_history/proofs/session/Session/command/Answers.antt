use Rattle.std.proofs.Common.{◌∷◌, option_map, Vec, Global, take, ap, ◌∙◌, subst, sym}
use Rattle.circular_buffer.specs.Buffer.{Buffer}
use Rattle.mvt_document.specs.Stands.{document_of}
use Rattle.mvt_change.specs.declared.change.Change.{Change}
use Rattle.mvt_change.specs.ChangeStands.{change_of}
use Rattle.mvt_change.specs.Changes.{turn}
use Rattle.mvt_meaning.specs.CommandStands.{command_of}
use Rattle.mvt_history_steps.specs.Held.{from_last, standing_of}
use Rattle.mvt_history.specs.Inside.{seen_in}
use Rattle.mvt_history_steps.specs.Session.{StandsFor}
use Rattle.mvt_history.specs.Kept.{IsKept}
use Rattle.mvt_history.proofs.KeepingCommands.{alone_carries, is_kept, seen_open, seen_none, command_alone_held, command_alone, command_within_held, command_within, within_carries}
use Rattle.mvt_history.proofs.session.Session.command.Goals as goal

-- ---- where a step is open

pub flip_onto-requires : goal.flip_onto-requires
flip_onto-requires c = c.in_ok-change.ensures.fits

pub invariant_of-self : goal.invariant_of-self
invariant_of-self c =
    let s = c.self.inside in
    let session = seen_in s in
    let change = c.in_ok-change.change in
    let pending = c.in-Some.pending.items in
    let is = seen_open s.pending c.in-Some.pending c.in-Some.is in
    rw (c.in_ok-flip_onto.ensures.ok, c.in_ok-flip_onto.ensures.document)
    (command_within_held s.undo.capacity s.redo.capacity session (from_last pending) (change_of change) is c.self.invariant c.in_ok-change.ensures.fits)

pub returns-in_ok-flip_onto-clause-answer : goal.returns-in_ok-flip_onto-clause-answer
returns-in_ok-flip_onto-clause-answer c = λ history stands.
    let s = c.self.inside in
    let session = seen_in s in
    let before = subst (λ s. StandsFor s history) (sym c.self.view_is) stands in
    let change = c.in_ok-change.change in
    let pending = c.in-Some.pending.items in
    let is = seen_open s.pending c.in-Some.pending c.in-Some.is in
    rw (c.in_ok-flip_onto.ensures.ok, c.in_ok-flip_onto.ensures.document)
    (command_within (command_of c.args.command.now) history session (from_last pending) (change_of change) is c.self.invariant.ready.valid c.in_ok-change.ensures before)

pub returns-in_ok-flip_onto-clause-kept : goal.returns-in_ok-flip_onto-clause-kept
returns-in_ok-flip_onto-clause-kept c =
    let s = c.self.inside in
    let is = seen_open s.pending c.in-Some.pending c.in-Some.is in
    rw (c.in_ok-flip_onto.ensures.ok, c.in_ok-flip_onto.ensures.document)
    (within_carries (command_of c.args.command.now) c.args.self.now (seen_in s) (from_last c.in-Some.pending.items) (change_of c.in_ok-change.change) c.self.view_is is c.in_ok-change.ensures)

-- ---- where none is open

pub carry_out-requires-clause-closed : goal.carry_out-requires-clause-closed
carry_out-requires-clause-closed c = ap (option_map from_last) (seen_none c.self.inside.pending c.in_default.not-Some)

pub carry_out-requires-clause-fits : goal.carry_out-requires-clause-fits
carry_out-requires-clause-fits c = c.in_ok-change.ensures.fits

pub returns-in_ok-carry_out-clause-answer : goal.returns-in_ok-carry_out-clause-answer
returns-in_ok-carry_out-clause-answer c = λ history stands.
    let s = c.self.inside in
    let session = seen_in s in
    let before = subst (λ s. StandsFor s history) (sym c.self.view_is) stands in
    let none = ap (option_map from_last) (seen_none s.pending c.in_default.not-Some) in
    command_alone (command_of c.args.command.now) history session c.carry_out.new.self (change_of c.in_ok-change.change) c.in_ok-carry_out.ensures.kept none c.self.invariant.ready.valid c.in_ok-change.ensures c.in_ok-carry_out.ensures.document before

pub returns-in_ok-carry_out-clause-kept : goal.returns-in_ok-carry_out-clause-kept
returns-in_ok-carry_out-clause-kept c =
    let s = c.self.inside in
    let none = ap (option_map from_last) (seen_none s.pending c.in_default.not-Some) in
    alone_carries (command_of c.args.command.now) c.args.self.now (seen_in s) c.carry_out.new.self (change_of c.in_ok-change.change) c.self.view_is none c.in_ok-carry_out.ensures.kept c.in_ok-change.ensures c.in_ok-carry_out.ensures.document
