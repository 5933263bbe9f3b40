-- Which plain value a value of the program stands for.
use Rattle.std.specs.Prelude.{List, map}
use Rattle.mvt_geometry.specs.Shapes.{Point, Kind, Geometry}
use Rattle.mvt_geometry.specs.declared.shapes.Part.{Part}

-- the points of a part of the program
abbrev pub points_of : Part → List Point
points_of part = part.points.items

-- parts of the program as a geometry of this kind
abbrev pub geometry_with : Kind → List Part → Geometry
geometry_with kind parts = record { kind = kind; parts = map points_of parts }
