use Rattle.std.proofs.Common.{[], refl, arith}
use Rattle.mvt_document.specs.Kinds.{in_layer_of_kind}
use Rattle.mvt_document.specs.declared.run.Kind.TheVariants.{Key}
use Rattle.mvt_layers.proofs.InRun.{run_within}
use Rattle.mvt_edit_attributes.specs.KeyFates.{FindsKeys}
use Rattle.mvt_edit_attributes.proofs.KeysInRun.{found_in_run}
use Rattle.mvt_edit_attributes.proofs.rename_key.look_for.Goals as goal

pub slice_bounds-and_items-end : goal.slice_bounds-and_items-end
slice_bounds-and_items-end c = rw c.as_slice-items.ensures (run_within (in_layer_of_kind Key) c.runs.result.keys c.args.items.now.items c.runs.ensures.keys)

pub returns : goal.returns
returns c =
    let none : FindsKeys c.args.old.now c.args.new.now [] _ = record { old_there = refl; new_there = refl; old_size = (omega arith, refl); new_size = (omega arith, refl) } in
    found_in_run c.args.old.now c.args.new.now c.args.items.now.items c.as_slice-items.result.now c.runs.result.keys c.and_items.result c.as_slice-items.ensures c.runs.ensures.keys (c.and_items.ensures _ (c.and_items-keys.ensures [] none))
