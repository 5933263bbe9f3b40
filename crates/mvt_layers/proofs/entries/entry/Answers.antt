use Rattle.std.proofs.Common.{◌+◌, length, map, option_map, refl, sym, ap, ◌∙◌, arith}
use Rattle.std.specs.Prelude.{slice_get}
use Rattle.std.proofs.lemmas.Iterator.Consumers.{nth_from_yields_List, YieldsList-from_first}
use Rattle.std.proofs.lemmas.Option.{slice_get_read, slice_get-map}
use Rattle.mvt_document.specs.Kinds.{is_entry}
use Rattle.mvt_document.specs.Stands.{layer_item_of}
use Rattle.mvt_messages.specs.Found.{found_in}
use Rattle.mvt_layers.specs.Pools.{entry_in}
use Rattle.mvt_layers.specs.Seen.{found_entry_seen}
use Rattle.mvt_layers.proofs.InRun.{content_there, found_contents, is_found_entry, run_past, run_there, run_within, there}
use Rattle.mvt_layers.proofs.entries.entry.Goals as goal

pub returns-then-ordinal-entries : goal.returns-then-ordinal-entries
returns-then-ordinal-entries c =
    let number = c.args.number in
    let items = c.args.items.now in
    let plain = map layer_item_of items in
    let k = c.args.ordinal in
    let position = c.args.entries.first + k in
    let x = c.index-items-entries.result in
    let at = slice_get_read items (length items) position x refl (omega (arith, run_within (is_entry number) c.args.entries items c.requires.entries, c.if-ordinal-entries.true)) c.index-items-entries.is in
    c.entry_in.ensures
    ∙ sym (ap (λ xs. slice_get xs k) (sym (found_contents number plain))
    ∙ slice_get-map (λ f. f.1.1) (found_in (entry_in number) plain) k
    ∙ ap (option_map (λ f. f.1.1)) (run_there layer_item_of (entry_in number) (is_entry number) (is_found_entry number) c.args.entries items k c.requires.entries c.if-ordinal-entries.true ∙ ap (there layer_item_of (entry_in number) (is_entry number) (is_found_entry number) k position) at)
    ∙ content_there number k position x)

pub returns-in_err-found : goal.returns-in_err-found
returns-in_err-found c =
    let number = c.args.number in
    let items = map layer_item_of c.args.items.now in
    let found = nth_from_yields_List _ _ _ c.nth.ensures.ran (YieldsList-from_first found_entry_seen (λ left. left) _ c.following.ensures.items) in
    let past = found ∙ sym (run_past layer_item_of (entry_in number) (is_entry number) (is_found_entry number) c.args.entries c.args.items.now c.args.ordinal c.requires.entries c.if-ordinal-entries.false) in
    let whole = ap (option_map (λ f. f.1.1)) past ∙ sym (slice_get-map (λ f. f.1.1) (found_in (entry_in number) items) c.args.ordinal) ∙ ap (λ xs. slice_get xs c.args.ordinal) (found_contents number items) in
    rw c.from_residual.ensures (rw c.in_err-found.was at whole)

pub returns : goal.returns
returns c =
    let number = c.args.number in
    let items = map layer_item_of c.args.items.now in
    let found = nth_from_yields_List _ _ _ c.nth.ensures.ran (YieldsList-from_first found_entry_seen (λ left. left) _ c.following.ensures.items) in
    let past = found ∙ sym (run_past layer_item_of (entry_in number) (is_entry number) (is_found_entry number) c.args.entries c.args.items.now c.args.ordinal c.requires.entries c.if-ordinal-entries.false) in
    let whole = ap (option_map (λ f. f.1.1)) past ∙ sym (slice_get-map (λ f. f.1.1) (found_in (entry_in number) items) c.args.ordinal) ∙ ap (λ xs. slice_get xs c.args.ordinal) (found_contents number items) in
    rw c.in_ok-found.was at whole

pub overflow_add-entries : goal.overflow_add-entries
overflow_add-entries c = omega (arith, run_within (is_entry c.args.number) c.args.entries c.args.items.now c.requires.entries, c.if-ordinal-entries.true, c.well_formed.0.0)

pub bounds-items-entries : goal.bounds-items-entries
bounds-items-entries c = omega (arith, run_within (is_entry c.args.number) c.args.entries c.args.items.now c.requires.entries, c.if-ordinal-entries.true)
