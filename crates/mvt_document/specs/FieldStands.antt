-- Which plain field a field of the program stands for.
use Rattle.mvt_document.specs.Plain as plain
use Rattle.mvt_document.specs.Bodies.{number_of, body_of}
use Rattle.mvt_document.specs.declared.field.FieldParts.{FieldParts as Field}

-- the plain field that a field of the program stands for
abbrev pub field_of : Field → plain.Field
field_of f = record { tag = number_of f.tag; body = body_of f.body }
