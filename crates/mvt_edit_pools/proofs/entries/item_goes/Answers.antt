use Rattle.std.proofs.Common.{◌+◌, drop, map, ◌∙◌}
use Rattle.mvt_document.specs.Stands.{layer_item_of}
use Rattle.mvt_messages.specs.Views.{key_field, value_field}
use Rattle.mvt_edit_pools.proofs.Gone.{goes_key, goes_neither, goes_value}
use Rattle.mvt_edit_pools.proofs.EntryRuns.{item_at}
use Rattle.mvt_edit_pools.proofs.entries.item_goes.Goals as goal

pub returns-then-is_entry_at : goal.returns-then-is_entry_at
returns-then-is_entry_at c =
    let keys = c.args.keys.now in
    let values = c.args.values.now in
    let following = map layer_item_of (drop (c.args.index + 1) c.args.items.now) in
    let at = item_at c.args.items.now c.args.index c.requires.there in
    let key = at.seen key_field _ c.is_entry_at.ensures ∙ c.if-is_entry_at.true in
    at.first keys values ∙ goes_key keys values (layer_item_of at.item) following _ _ key c.first_goes.ensures c.after_first.ensures

pub returns-then-is_entry_at-2 : goal.returns-then-is_entry_at-2
returns-then-is_entry_at-2 c =
    let keys = c.args.keys.now in
    let values = c.args.values.now in
    let following = map layer_item_of (drop (c.args.index + 1) c.args.items.now) in
    let at = item_at c.args.items.now c.args.index c.requires.there in
    let key = at.seen key_field _ c.is_entry_at.ensures ∙ c.if-is_entry_at.false in
    let value = at.seen value_field _ c.is_entry_at-2.ensures ∙ c.if-is_entry_at-2.true in
    at.first keys values ∙ goes_value keys values (layer_item_of at.item) following _ _ key value c.first_goes-then-is_entry_at-2.ensures c.after_first-then-is_entry_at-2.ensures

pub returns : goal.returns
returns c =
    let keys = c.args.keys.now in
    let values = c.args.values.now in
    let following = map layer_item_of (drop (c.args.index + 1) c.args.items.now) in
    let at = item_at c.args.items.now c.args.index c.requires.there in
    let key = at.seen key_field _ c.is_entry_at.ensures ∙ c.if-is_entry_at.false in
    let value = at.seen value_field _ c.is_entry_at-2.ensures ∙ c.if-is_entry_at-2.false in
    at.first keys values ∙ goes_neither keys values (layer_item_of at.item) following key value

pub is_entry_at-requires-clause-run : goal.is_entry_at-requires-clause-run
is_entry_at-requires-clause-run c = c.requires.runs.keys

pub is_entry_at-requires-2-clause-run : goal.is_entry_at-requires-2-clause-run
is_entry_at-requires-2-clause-run c = c.requires.runs.values
