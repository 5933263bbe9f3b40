-- Which plain field a borrowed field, whose bytes are where they were read, stands for.
use Rattle.mvt_document.specs.Plain as plain
use Rattle.mvt_document.specs.Bodies.{number_of, body_seen}
use Rattle.mvt_wire.specs.declared.front.FieldRef.{FieldRef}

-- the plain field that a borrowed field stands for
abbrev pub front_of : FieldRef → plain.Field
front_of f = record { tag = number_of f.tag; body = body_seen f.body }
