use Rattle.std.proofs.Common.{◌≡◌, ◌≤◌, length, map, filter, drop}
use Rattle.mvt_document.specs.Stands.{field_of}
use Rattle.mvt_renumber.specs.Fates.{changes}
use Rattle.mvt_edit_steps.specs.Decided.{field_fates}
use Rattle.mvt_edit_steps.specs.Fates.{splices_from, splices_of}
use Rattle.mvt_edit_attributes.proofs.tags_run.first_renumbered.Given as goal

abbrev pub invariant-loop-index : goal.invariant-loop-index
invariant-loop-index l =
    (splices_of (field_fates 2 l.decisions (map field_of l.fields)) ≡ splices_from l.index (field_fates 2 l.left (map field_of (drop l.index l.fields))))
    × (length (filter changes (field_fates 2 l.left (map field_of (drop l.index l.fields)))) ≤ 1)
