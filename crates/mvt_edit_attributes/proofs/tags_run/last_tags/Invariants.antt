use Rattle.std.proofs.Common.{◌≡◌, map, drop}
use Rattle.std.specs.List.{last_or}
use Rattle.mvt_document.specs.Stands.{field_of}
use Rattle.mvt_meaning.specs.Tagging.{is_tags}
use Rattle.mvt_meaning.specs.Ordinals.{positions_of}
use Rattle.mvt_meaning.proofs.Positions.{positions_from}
use Rattle.mvt_edit_attributes.proofs.tags_run.last_tags.Given as goal

abbrev pub invariant-loop-position : goal.invariant-loop-position
invariant-loop-position l = last_or l.last (positions_from is_tags l.position (map field_of (drop l.position l.fields))) ≡ last_or l.initial.last (positions_of is_tags (map field_of l.fields))
