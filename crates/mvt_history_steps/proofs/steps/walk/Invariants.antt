use Rattle.std.proofs.Common.{◌≡◌}
use Rattle.mvt_document.specs.Stands.{document_of}
use Rattle.mvt_history_steps.specs.Held.{from_last}
use Rattle.mvt_history_steps.proofs.Stepping.{IsOnTheWay, walk_of}
use Rattle.mvt_history_steps.proofs.steps.walk.Given as goal

abbrev pub invariant-loop-taken : goal.invariant-loop-taken
invariant-loop-taken l = record {
  from_room : l.from.capacity ≡ l.fn.from.capacity;
  to_room : l.to.capacity ≡ l.fn.to.capacity;
  way : IsOnTheWay (walk_of (document_of l.fn.document) (from_last l.fn.from.items) (from_last l.fn.to.items)) l.taken (walk_of (document_of l.document) (from_last l.from.items) (from_last l.to.items));
}
