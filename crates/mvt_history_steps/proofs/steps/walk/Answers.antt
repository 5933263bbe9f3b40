use Rattle.std.proofs.Common.{◌≡◌, refl, ap, ◌∙◌, arith}
use Rattle.mvt_document.specs.Stands.{document_of}
use Rattle.mvt_history_steps.specs.Held.{from_last}
use Rattle.mvt_history_steps.specs.Moves.{walked}
use Rattle.mvt_history_steps.proofs.Stepping.{further, length_from_last, walk_of}
use Rattle.mvt_history_steps.proofs.steps.walk.Goals as goal

pub loop-taken-init : goal.loop-taken-init
loop-taken-init c = record {
  from_room = refl;
  to_room = refl;
  way = record { is = refl; fit = c.requires.fits; ahead = omega arith; behind = omega arith };
}

pub step-requires-clause-fits : goal.step-requires-clause-fits
step-requires-clause-fits c = c.loop-taken.invariant.way.fit

pub step-requires-clause-room : goal.step-requires-clause-room
step-requires-clause-room c =
    let way = c.loop-taken.invariant.way in
    omega (arith, way.behind, length_from_last c.loop-taken.to.items, length_from_last c.args.to.now.items, c.requires.room, c.loop-taken.invariant.to_room)

pub returns-then-is_err-clause-capacities : goal.returns-then-is_err-clause-capacities
returns-then-is_err-clause-capacities c =
    (c.step.ensures.capacities.0 ∙ c.loop-taken.invariant.from_room, c.step.ensures.capacities.1 ∙ c.loop-taken.invariant.to_room)

pub returns-then-is_err-clause-err : goal.returns-then-is_err-clause-err
returns-then-is_err-clause-err c =
    let same = rw c.if-is_err.ensures.negation at c.step.ensures.walk in
    (c.loop-taken-test.true, same ∙ c.loop-taken.invariant.way.is)

pub loop-taken-preserved : goal.loop-taken-preserved
loop-taken-preserved c =
    let way = c.loop-taken.invariant.way in
    let next = rw c.if-is_err.ensures.negation at c.step.ensures.walk in
    record {
      from_room = c.step.ensures.capacities.0 ∙ c.loop-taken.invariant.from_room;
      to_room = c.step.ensures.capacities.1 ∙ c.loop-taken.invariant.to_room;
      way = further _ _ _ c.loop-taken.taken way (omega (arith, length_from_last c.args.from.now.items, c.requires.enough, c.loop-taken-test.true)) next;
    }

pub returns-clause-capacities : goal.returns-clause-capacities
returns-clause-capacities c = (c.loop-taken.invariant.from_room, c.loop-taken.invariant.to_room)

pub returns-clause-ok : goal.returns-clause-ok
returns-clause-ok c =
    let all : c.loop-taken.taken ≡ c.args.count = omega (arith, c.loop-taken.auto.taken-end, c.loop-taken-test.false) in
    let before = walk_of (document_of c.args.document.now) (from_last c.args.from.now.items) (from_last c.args.to.now.items) in
    c.loop-taken.invariant.way.is ∙ ap (λ n. walked n before) all
