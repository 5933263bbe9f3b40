use Rattle.std.proofs.Common.{refl}
use Rattle.tile_run.proofs.editor.Editor.start.Goals as goal

pub returns : goal.returns
returns c = record { strict = refl; stands = c.in-Ok.ensures.ok; lines = refl; refused = refl }
