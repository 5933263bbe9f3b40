use Rattle.std.proofs.Common.{◌≡◌, map, drop}
use Rattle.std.specs.List.{last_or}
use Rattle.mvt_document.specs.Stands.{field_of}
use Rattle.mvt_meaning.specs.Ordinals.{positions_of}
use Rattle.mvt_meaning.proofs.Positions.{positions_from}
use Rattle.mvt_edit_steps.specs.NumberPut.{is_numbered}
use Rattle.mvt_edit_steps.proofs.numbered.last_number.Given as goal

abbrev pub invariant-loop-position : goal.invariant-loop-position
invariant-loop-position l = last_or l.last (positions_from (is_numbered l.tag) l.position (map field_of (drop l.position l.fields))) ≡ last_or l.initial.last (positions_of (is_numbered l.tag) (map field_of l.fields))
