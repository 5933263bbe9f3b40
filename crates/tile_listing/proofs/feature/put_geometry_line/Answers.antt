use Rattle.std.proofs.Common.{Err, ap, codes}
use Rattle.std.proofs.lemmas.Result.{on_ok_weaker}
use Rattle.mvt_layers.specs.Seen.{feature_seen}
use Rattle.tile_listing.proofs.Puts.{ok_put, geometry_put, no_geometry_put}
use Rattle.tile_listing.proofs.feature.put_geometry_line.Goals as goal

pub returns-in_ok-put_geometry-in-Ok : goal.returns-in_ok-put_geometry-in-Ok
returns-in_ok-put_geometry-in-Ok c =
    let last = c.extend_from_slice-in-Ok in
    on_ok_weaker last.result
    (λ put. geometry_put (feature_seen c.args.feature) c.in-Ok.geometry c.args.text.now.items c.extend_from_slice.new.self.items c.put_geometry.new.line.items last.new.self.items
    c.in-Ok.ensures.found c.in_ok-extend_from_slice-in-Ok.ensures.items c.in_ok-put_geometry-in-Ok.ensures.ok put)
    (ok_put last.result c.put_geometry.new.line.items last.new.self.items (codes "\n") last.ensures.items)

pub returns-in-Err-BadGeometry : goal.returns-in-Err-BadGeometry
returns-in-Err-BadGeometry c =
    let last = c.extend_from_slice-in-Err-BadGeometry in
    let none = c.in-Err-BadGeometry.ensures.bad (ap Err c.in-Err-BadGeometry.field-0-is) in
    on_ok_weaker last.result
    (λ put. no_geometry_put (feature_seen c.args.feature) c.args.text.now.items last.new.self.items none put)
    (ok_put last.result c.args.text.now.items last.new.self.items (codes "geometry unreadable\n") last.ensures.items)
