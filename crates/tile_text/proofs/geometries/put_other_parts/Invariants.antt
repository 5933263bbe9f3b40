use Rattle.std.proofs.Common.{◌≡◌, ◌++◌, take}
use Rattle.std.specs.List.{flat_map}
use Rattle.mvt_geometry.specs.Stands.{points_of}
use Rattle.tile_text.specs.Extends.{Extends}
use Rattle.tile_text.specs.TextStands.{other_part}
use Rattle.tile_text.proofs.geometries.put_other_parts.Given as goal

abbrev pub invariant-loop-part : goal.invariant-loop-part
invariant-loop-part l = record {
  kept : Extends l.fn.line.items l.line.items;
  so_far : l.line.items ≡ l.fn.line.items ++ flat_map (λ part. other_part (points_of part)) (take l.part-index l.parts);
}
