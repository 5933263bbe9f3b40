use Rattle.std.proofs.Common.{◌-ℤ◌, rules, SFits, w64, to_z-of_z}
use Rattle.std.proofs.lemmas.Result.{on_ok_weaker}
use Rattle.mvt_document.specs.Signed.{zigzag}
use Rattle.mvt_document.specs.Wire.{shortest}
use Rattle.mvt_geometry.proofs.Packs.{two_put}
use Rattle.mvt_geometry.proofs.encode.put_move.Goals as goal

pub returns-clause-bytes : goal.returns-clause-bytes
returns-clause-bytes c =
    let to = c.args.to in
    let from = c.args.from in
    let to_x : SFits w64 to.x = search rules in
    let to_y : SFits w64 to.y = search rules in
    let from_x : SFits w64 from.x = search rules in
    let from_y : SFits w64 from.y = search rules in
    let along = simp to_z-of_z at c.in_ok-put_delta.ensures.bytes in
    let down = simp to_z-of_z at c.put_delta-2.ensures.bytes in
    on_ok_weaker c.put_delta-2.result (two_put (shortest (zigzag (to.x -ℤ from.x))) (shortest (zigzag (to.y -ℤ from.y))) c.args.bytes.now.items c.put_delta.new.bytes.items c.put_delta-2.new.bytes.items along) down
