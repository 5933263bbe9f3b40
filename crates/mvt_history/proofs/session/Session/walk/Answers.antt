use Rattle.mvt_document.specs.Stands.{document_of}
use Rattle.mvt_history_steps.specs.Held.{from_last}
use Rattle.mvt_history.specs.Inside.{seen_in}
use Rattle.mvt_history_steps.specs.declared.steps.Direction.TheVariants.{Undo, Redo}
use Rattle.mvt_history_steps.proofs.Stepping.{walk_of}
use Rattle.mvt_history.proofs.Moving.{ended_held, closed_here, enough_here}
use Rattle.mvt_history.proofs.session.Session.walk.Goals as goal

pub invariant_of-self : goal.invariant_of-self
invariant_of-self c =
    let s = c.self.inside in
    let session = seen_in s in
    let after = c.walk.new in
    let walk = walk_of (document_of after.document) (from_last after.from.items) (from_last after.to.items) in
    let room = c.walk.ensures.capacities in
    let closed = closed_here session c.args.self.now c.self.view_is c.requires.closed in
    let enough = enough_here c.args.direction Undo c.args.count session c.args.self.now c.in-Undo.is c.self.view_is c.requires.enough in
    rw (room.0, room.1) (ended_held Undo s.undo.capacity s.redo.capacity c.args.count session walk c.walk.result closed enough c.walk.ensures.ok c.walk.ensures.err c.self.invariant)

pub invariant_of-self-in-Redo : goal.invariant_of-self-in-Redo
invariant_of-self-in-Redo c =
    let s = c.self.inside in
    let session = seen_in s in
    let after = c.walk-in-Redo.new in
    let walk = walk_of (document_of after.document) (from_last after.from.items) (from_last after.to.items) in
    let room = c.walk-in-Redo.ensures.capacities in
    let closed = closed_here session c.args.self.now c.self.view_is c.requires.closed in
    let enough = enough_here c.args.direction Redo c.args.count session c.args.self.now c.in-Redo.is c.self.view_is c.requires.enough in
    rw (room.0, room.1) (ended_held Redo s.undo.capacity s.redo.capacity c.args.count session walk c.walk-in-Redo.result closed enough c.walk-in-Redo.ensures.ok c.walk-in-Redo.ensures.err c.self.invariant)
