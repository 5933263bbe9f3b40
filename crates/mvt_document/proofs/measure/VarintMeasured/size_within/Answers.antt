use Rattle.std.proofs.Common.{add-zero}
use Rattle.mvt_document.proofs.Spelling.{length-spell}
use Rattle.mvt_document.proofs.measure.VarintMeasured.size_within.Goals as goal

pub returns : goal.returns
returns c = rw (length-spell, ← c.from.ensures, ← add-zero c.from.result) c.sum_within.ensures
