use Rattle.std.proofs.Common.{arith}
use Rattle.mvt_document.specs.Kinds.{is_entry}
use Rattle.mvt_document.specs.Stands.{layer_item_of}
use Rattle.mvt_layers.specs.Pools.{entry_in}
use Rattle.mvt_layers.proofs.InRun.{count_before, is_found_entry, run_total, until_within}
use Rattle.mvt_layers.proofs.Placing.{found_fit}
use Rattle.mvt_layers.proofs.entries.Entries.following.Goals as goal

pub returns-clause-bound : goal.returns-clause-bound
returns-clause-bound c =
    let number = c.args.number in
    let items = c.args.items.now in
    omega (arith, run_total layer_item_of (entry_in number) (is_entry number) (is_found_entry number) c.args.entries items c.requires.entries, found_fit layer_item_of (entry_in number) items c.well_formed.0.0)

pub invariant_of-result : goal.invariant_of-result
invariant_of-result c =
    let f = is_entry c.args.number in
    (count_before f c.args.entries c.args.items.now c.requires.entries, until_within f c.args.entries c.args.items.now c.requires.entries, c.requires.features)
