use Rattle.std.proofs.Common.{◌≡◌, ◌+◌, ◌≤◌, drop}
use Rattle.mvt_document.specs.declared.TheConstants.{MAX_FILE}
use Rattle.mvt_edit_geometry.proofs.Drawn.{others_weigh}
use Rattle.mvt_edit_geometry.proofs.set_geometry.and_others.Given as goal

abbrev pub invariant-loop-field : goal.invariant-loop-field
invariant-loop-field l = record {
  sum : l.size + others_weigh (drop l.field-index l.fields) ≡ l.fn.bytes + others_weigh l.fields;
  within : l.size ≤ MAX_FILE;
}
