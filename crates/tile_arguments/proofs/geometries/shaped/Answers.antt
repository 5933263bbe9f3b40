use Rattle.std.proofs.Common.{Ok, refl, sym, ap, ◌∙◌, map}
use Rattle.mvt_geometry.specs.Shapes.{Geometry}
use Rattle.mvt_geometry.specs.Stands.{points_of}
use Rattle.tile_arguments.proofs.Shaped.{shaped_ok, shaped_err}
use Rattle.tile_arguments.proofs.geometries.shaped.Goals as goal

pub returns-in-Ok : goal.returns-in-Ok
returns-in-Ok c =
    ap (λ (geometry : Geometry). Ok geometry) c.in-Ok.ensures.ok
    ∙ sym (shaped_ok c.args.kind (map points_of c.args.parts.items) (c.in-Ok.ensures.valid.0 refl))

pub returns : goal.returns
returns c =
    sym (shaped_err c.args.kind (map points_of c.args.parts.items) c.requires (λ valid. absurd (let never = c.in-Err.ensures.valid.1 valid in cc)))
