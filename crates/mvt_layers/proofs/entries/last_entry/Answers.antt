use Rattle.std.proofs.Common.{◌-◌, sym, ◌∙◌, arith}
use Rattle.std.proofs.lemmas.Iterator.Consumers.{YieldsList-from_first}
use Rattle.mvt_document.specs.Kinds.{is_entry}
use Rattle.mvt_document.specs.Stands.{layer_item_of}
use Rattle.mvt_layers.specs.Pools.{entry_in}
use Rattle.mvt_layers.specs.Seen.{found_entry_seen}
use Rattle.mvt_layers.proofs.InRun.{is_found_entry, run_last_after, run_last_in, run_no_last}
use Rattle.mvt_layers.proofs.Yielded.{last_from_yields_List}
use Rattle.mvt_layers.proofs.entries.last_entry.Goals as goal

pub returns-in-Some : goal.returns-in-Some
returns-in-Some c =
    let number = c.args.number in
    let last = last_from_yields_List _ c.in-Some.ensures.ran (YieldsList-from_first found_entry_seen (λ left. left) _ c.following.ensures.items) in
    sym (run_last_after layer_item_of (entry_in number) (is_entry number) (is_found_entry number) c.args.entries c.args.items.now (found_entry_seen c.in-Some.found) c.requires.entries (sym last))

pub returns-then-entries-eq0 : goal.returns-then-entries-eq0
returns-then-entries-eq0 c =
    let number = c.args.number in
    let last = last_from_yields_List _ c.in_default.ensures.ran (YieldsList-from_first found_entry_seen (λ left. left) _ c.following.ensures.items) in
    sym (run_no_last layer_item_of (entry_in number) (is_entry number) (is_found_entry number) c.args.entries c.args.items.now c.requires.entries (sym last) c.if-entries-eq0.true)

pub returns : goal.returns
returns c =
    let number = c.args.number in
    let last = last_from_yields_List _ c.in_default.ensures.ran (YieldsList-from_first found_entry_seen (λ left. left) _ c.following.ensures.items) in
    let k = c.args.entries.count - 1 in
    c.entry_in_run.ensures
    ∙ sym (run_last_in layer_item_of (entry_in number) (is_entry number) (is_found_entry number) c.args.entries c.args.items.now k c.requires.entries (sym last) (omega (arith, c.if-entries-eq0.false)))
