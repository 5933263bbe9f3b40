use Rattle.mvt_document.specs.Stands.{document_of}
use Rattle.mvt_history_steps.specs.Held.{from_last}
use Rattle.mvt_history_steps.proofs.Stepping.{IsTakenBack}
use Rattle.mvt_history_steps.proofs.steps.take_back.Given as goal

abbrev pub invariant-loop-taken : goal.invariant-loop-taken
invariant-loop-taken l = IsTakenBack (from_last l.fn.changes.items) (document_of l.fn.document) l.taken (from_last l.changes.items) (document_of l.document)
