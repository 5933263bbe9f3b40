use Rattle.std.proofs.Common.{◌≤◌}
use Rattle.mvt_document.proofs.Steps.{EndsAt, IsReadFrom}
use Rattle.mvt_document.proofs.varint.number_of_any_width.Given as goal

abbrev pub invariant-loop-index : goal.invariant-loop-index
invariant-loop-index l = record {
  ends : EndsAt l.bytes l.last;
  down : l.index ≤ l.last;
  read : IsReadFrom l.bytes l.last l.value l.index;
}
