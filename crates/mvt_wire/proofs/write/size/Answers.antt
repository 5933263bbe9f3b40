use Rattle.std.proofs.lemmas.List.Folds.{flat_map-map}
use Rattle.mvt_wire.proofs.write.size.Goals as goal

pub returns-in_err-size : goal.returns-in_err-size
returns-in_err-size c = rw (c.from_residual.ensures, flat_map-map) c.in_err-size.ensures

pub returns : goal.returns
returns c = rw flat_map-map c.in_ok-size.ensures
