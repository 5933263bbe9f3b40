use Rattle.mvt_document.proofs.Sizes.{length-delimited}
use Rattle.mvt_document.proofs.lengths.BodyRefMeasured.size_within.Goals as goal

pub returns-in-Bytes : goal.returns-in-Bytes
returns-in-Bytes c = rw (c.in-Bytes.is, length-delimited) c.delimited_size.ensures
