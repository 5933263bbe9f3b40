use Rattle.std.proofs.Common.{◌+◌, length, map, sym, ap, ◌∙◌, arith}
use Rattle.std.proofs.lemmas.List.{length-map}
use Rattle.mvt_document.specs.Kinds.{is_entry}
use Rattle.mvt_document.specs.Stands.{layer_item_of}
use Rattle.mvt_messages.specs.Found.{found_in}
use Rattle.mvt_layers.specs.Pools.{entry_in}
use Rattle.mvt_layers.proofs.InRun.{entries_total, found_contents, until_within}
use Rattle.mvt_layers.proofs.Placing.{found_fit}
use Rattle.mvt_layers.proofs.entries.entry_count.Goals as goal

pub entries_from-requires-clause-there : goal.entries_from-requires-clause-there
entries_from-requires-clause-there c = until_within (is_entry c.args.number) c.args.entries c.args.items.now c.requires.entries

pub overflow_add-result : goal.overflow_add-result
overflow_add-result c =
    omega (arith, c.entries_from.ensures, entries_total c.args.number c.args.entries c.args.items.now c.requires.entries, found_fit layer_item_of (entry_in c.args.number) c.args.items.now c.well_formed.0.0)

pub returns : goal.returns
returns c =
    let number = c.args.number in
    let items = map layer_item_of c.args.items.now in
    ap (λ n. c.args.entries.count + n) c.entries_from.ensures
    ∙ sym (entries_total number c.args.entries c.args.items.now c.requires.entries)
    ∙ sym (length-map (found_in (entry_in number) items) (λ found. found.1.1))
    ∙ ap length (found_contents number items)
