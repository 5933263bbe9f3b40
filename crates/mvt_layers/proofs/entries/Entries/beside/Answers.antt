use Rattle.std.proofs.Common.{arith}
use Rattle.mvt_document.specs.Stands.{layer_item_of}
use Rattle.mvt_layers.specs.Pools.{entry_in}
use Rattle.mvt_layers.proofs.Placing.{found_fit}
use Rattle.mvt_layers.proofs.entries.Entries.beside.Goals as goal

pub returns-clause-bound : goal.returns-clause-bound
returns-clause-bound c = found_fit layer_item_of (entry_in c.args.number) c.args.items.now c.well_formed.0.0

pub invariant_of-result : goal.invariant_of-result
invariant_of-result c = (omega arith, omega arith, c.requires)
