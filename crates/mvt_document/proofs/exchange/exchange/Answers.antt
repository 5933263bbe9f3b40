use Rattle.std.proofs.Common.{arith}
use Rattle.std.proofs.lemmas.Grind.{common_steps}
use Rattle.mvt_document.proofs.Exchanged.{fewer_list, fewer_put}
use Rattle.mvt_document.proofs.exchange.exchange.Goals as goal

pub returns-else-taken-given-clause-list : goal.returns-else-taken-given-clause-list
returns-else-taken-given-clause-list g c = grind (arith, common_steps, fewer_list)

pub returns-else-taken-given-clause-put : goal.returns-else-taken-given-clause-put
returns-else-taken-given-clause-put g c = grind (arith, common_steps, fewer_put)
