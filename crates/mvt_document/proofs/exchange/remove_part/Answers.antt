use Rattle.std.proofs.Common.{arith}
use Rattle.std.proofs.lemmas.Grind.{common_steps}
use Rattle.mvt_document.proofs.Exchanged.{part_after}
use Rattle.mvt_document.proofs.exchange.remove_part.Goals as goal

pub returns-clause-to : goal.returns-clause-to
returns-clause-to g c = grind (arith, common_steps, part_after)
