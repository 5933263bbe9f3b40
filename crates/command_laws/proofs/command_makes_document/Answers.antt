use Rattle.command_laws.proofs.Documents.{command_makes_document}
use Rattle.command_laws.proofs.command_makes_document.Goals as goal

pub returns : goal.returns
returns c = command_makes_document
