use Rattle.std.proofs.Common.{arith}
use Rattle.mvt_layers.proofs.InRun.{fields_parted, parted_length}
use Rattle.mvt_layers.proofs.fields.beside_run.Goals as goal

pub returns-clause-items : goal.returns-clause-items
returns-clause-items c = fields_parted c.args.features c.args.items.now c.requires

pub returns-clause-fits : goal.returns-clause-fits
returns-clause-fits c = omega (arith, parted_length c.args.features c.args.items.now c.requires, c.well_formed.0.0)
