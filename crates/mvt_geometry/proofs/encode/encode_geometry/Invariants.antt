use Rattle.std.proofs.Common.{drop, map}
use Rattle.mvt_geometry.specs.Stands.{points_of}
use Rattle.mvt_geometry.proofs.Packs.{PuttingParts}
use Rattle.mvt_geometry.proofs.encode.encode_geometry.Given as goal

abbrev pub invariant-loop-part : goal.invariant-loop-part
invariant-loop-part l = PuttingParts l.kind l.geometry.parts l.from (map points_of (drop l.part-index l.part-items)) l.bytes.items
