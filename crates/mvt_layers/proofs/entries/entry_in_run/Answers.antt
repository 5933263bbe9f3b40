use Rattle.std.proofs.Common.{◌+◌, length, option_map, refl, sym, ap, ◌∙◌, arith}
use Rattle.std.proofs.lemmas.Option.{slice_get_read}
use Rattle.mvt_document.specs.Kinds.{is_entry}
use Rattle.mvt_document.specs.Stands.{layer_item_of}
use Rattle.mvt_layers.specs.Pools.{entry_in}
use Rattle.mvt_layers.proofs.InRun.{is_found_entry, run_there, run_within, there}
use Rattle.mvt_layers.proofs.entries.entry_in_run.Goals as goal

pub overflow_add-position : goal.overflow_add-position
overflow_add-position c = omega (arith, run_within (is_entry c.args.number) c.args.entries c.args.items.now c.requires.run, c.well_formed.0.0)

pub returns-in_err-bytes : goal.returns-in_err-bytes
returns-in_err-bytes c =
    let number = c.args.number in
    let items = c.args.items.now in
    let k = c.args.ordinal in
    let position = c.args.entries.first + k in
    let at = slice_get_read items (length items) position c.index-items-position.result refl (omega (arith, run_within (is_entry number) c.args.entries items c.requires.run)) c.index-items-position.is in
    let whole = run_there layer_item_of (entry_in number) (is_entry number) (is_found_entry number) c.args.entries items k c.requires.run c.requires.there
    ∙ ap (there layer_item_of (entry_in number) (is_entry number) (is_found_entry number) k position) at
    ∙ ap (option_map (λ found. (k, (position, found)))) (sym (rw c.in_err-bytes.was at c.entry_in.ensures)) in
    rw c.from_residual.ensures (sym whole)

pub returns : goal.returns
returns c =
    let number = c.args.number in
    let items = c.args.items.now in
    let k = c.args.ordinal in
    let position = c.args.entries.first + k in
    let at = slice_get_read items (length items) position c.index-items-position.result refl (omega (arith, run_within (is_entry number) c.args.entries items c.requires.run)) c.index-items-position.is in
    sym (run_there layer_item_of (entry_in number) (is_entry number) (is_found_entry number) c.args.entries items k c.requires.run c.requires.there
    ∙ ap (there layer_item_of (entry_in number) (is_entry number) (is_found_entry number) k position) at
    ∙ ap (option_map (λ found. (k, (position, found)))) (sym (rw c.in_ok-bytes.was at c.entry_in.ensures)))
