use Rattle.std.proofs.Common.{Err, subst, sym}
use Rattle.tile_run.specs.Steps.{OpensTile}
use Rattle.tile_run.proofs.Tiles.{opens_so, opens_not}
use Rattle.tile_run.proofs.runs.open.Goals as goal

pub returns-in-Ok : goal.returns-in-Ok
returns-in-Ok g c =
    let read = c.in_ok-file.ensures in
    let opens = opens_so c.in_ok-file.file c.deref.result.now read.0 c.in-Ok.document c.deref.ensures.value read.1 c.in-Ok.ensures.too_large c.in-Ok.ensures.opens in
    (read.0, read.1.at_most, opens, read.2)

pub returns-in-Err : goal.returns-in-Err
returns-in-Err g c =
    let read = c.in_ok-file.ensures in
    let opens = opens_not c.in_ok-file.file c.deref.result.now read.0 c.in-Err.error c.deref.ensures.value read.1 c.in-Err.ensures.too_large c.in-Err.ensures.bad_wire c.in-Err.ensures.place in
    (read.0, read.1.at_most, subst (λ stop. OpensTile (Err stop) read.0) (sym c.stop_for.ensures) opens, read.2)
