use Rattle.run_laws.proofs.Throughout.{history_of_documents}
use Rattle.run_laws.proofs.history.history_of_documents.Goals as goal

pub returns : goal.returns
returns c = history_of_documents
