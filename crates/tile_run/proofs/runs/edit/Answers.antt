use Rattle.tile_run.proofs.Courses.{runs_to_script, runs_to_out, runs_through}
use Rattle.std.proofs.Common.{refl}
use Rattle.mvt_document.specs.Stands.{document_of}
use Rattle.tile_run.proofs.runs.edit.Goals as goal

pub returns-in-Err-clause-course : goal.returns-in-Err-clause-course
returns-in-Err-clause-course g c = λ options document before after opening at.
    runs_to_script options _ _ _ _ _ _ document _ c.in-Err.stop _ refl opening
    (c.in-Err.ensures options.strict (document_of document) options.depth at) c.into.ensures

pub returns-in-Err-write_tile-clause-course : goal.returns-in-Err-write_tile-clause-course
returns-in-Err-write_tile-clause-course g c = λ options document before after opening at.
    runs_to_out options _ _ _ _ _ _ _ _ document c.document.result.now _ refl opening
    (c.in_default.ensures options.strict (document_of document) options.depth at) c.document.ensures.present
    c.in-Err-write_tile.stop _ c.in-Err-write_tile.ensures.writes c.into-in-Err-write_tile.ensures

pub returns-clause-course : goal.returns-clause-course
returns-clause-course g c = λ options document before after opening at.
    runs_through options _ _ _ _ _ _ _ _ document c.document.result.now _ refl opening
    (c.in_default.ensures options.strict (document_of document) options.depth at) c.document.ensures.present
    _ _ c.in_default-write_tile.ensures.writes (c.in_default-write_tile.ensures.opens c.document.ensures.valid) c.any_refused.ensures c.edited.ensures
