use Rattle.std.proofs.Common.{[], length, inl, inr}
use Rattle.std.proofs.lemmas.Bool.{cases_lt}
use Rattle.mvt_document.specs.declared.TheConstants.{MAX_FILE}
use Rattle.mvt_document.specs.Stands.{document_of}
use Rattle.mvt_document.specs.Wire.{bytes_of}
use Rattle.mvt_document.proofs.Settling.{settled_file}
use Rattle.tile_device.specs.Seen.{written}
use Rattle.tile_device.proofs.Sending.{writes_nothing}
use Rattle.tile_run.proofs.Reading.{all_replies}
use Rattle.tile_run.proofs.Tiles.{on_ok}
use Rattle.tile_run.proofs.runs.write_tile.Goals as goal

pub returns-in_default-clause-writes : goal.returns-in_default-clause-writes
returns-in_default-clause-writes g c = (written 0 [], all_replies 0 [], writes_nothing _ _)

pub returns-clause-opens : goal.returns-clause-opens
returns-clause-opens g c = λ valid.
    let document = document_of c.args.document.now in
    on_ok c.or.result (elim (cases_lt MAX_FILE (length (bytes_of document))) [
      | inl longer ↦ absurd (let refused = c.in-Ok.ensures.too_large.1 longer in cc)
      | inr within ↦ settled_file document valid within
    ])
