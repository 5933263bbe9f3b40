use Rattle.mvt_document.proofs.SameBytes.{one_document_by_bytes}
use Rattle.mvt_document.proofs.laws.one_document.Goals as goal

pub returns : goal.returns
returns c = one_document_by_bytes
