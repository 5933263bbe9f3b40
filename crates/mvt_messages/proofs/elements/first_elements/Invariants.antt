use Rattle.std.proofs.Common.{◌≡◌, map}
use Rattle.mvt_document.specs.Stands.{field_of}
use Rattle.mvt_messages.specs.Left.{numbers_from}
use Rattle.mvt_messages.proofs.elements.first_elements.Given as goal

abbrev pub invariant-loop-position : goal.invariant-loop-position
invariant-loop-position l = numbers_from l.number l.start (map field_of l.fields) ≡ numbers_from l.number l.position (map field_of l.fields)
