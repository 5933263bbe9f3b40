use Rattle.std.proofs.Common.{ℕ, List, ◌++◌, length, sym, ap, ◌∙◌}
use Rattle.std.proofs.lemmas.Result.{on_ok_weaker}
use Rattle.std.proofs.lemmas.Bool.{and_parts}
use Rattle.std.specs.Option.{option_copied}
use Rattle.mvt_messages.specs.Attributes.{is_ordinal}
use Rattle.mvt_messages.specs.Views.{keys, values}
use Rattle.mvt_layers.specs.Seen.{layer_seen, pair_seen}
use Rattle.tile_lines.specs.Lines.{with_feed}
use Rattle.tile_listing.specs.Listing.{attribute_line}
use Rattle.tile_listing.proofs.PairLines.{entry_there, pair_named}
use Rattle.tile_listing.proofs.attributes.put_pair.Goals as goal

pub unwrap-key-requires : goal.unwrap-key-requires
unwrap-key-requires c =
    let layer = layer_seen c.args.layer in
    entry_there (keys layer) c.args.pair.key c.key.result (and_parts (is_ordinal (length (keys layer)) c.args.pair.key) (is_ordinal (length (values layer)) c.args.pair.value) c.requires).0 c.key.ensures

pub unwrap-value-requires : goal.unwrap-value-requires
unwrap-value-requires c =
    let layer = layer_seen c.args.layer in
    entry_there (values layer) c.args.pair.value c.value.result (and_parts (is_ordinal (length (keys layer)) c.args.pair.key) (is_ordinal (length (values layer)) c.args.pair.value) c.requires).1 c.value.ensures

pub returns : goal.returns
returns c =
    let named = pair_named (layer_seen c.args.layer) (pair_seen c.args.pair) c.unwrap-key.result.now c.unwrap-value.result.now (sym c.key.ensures ∙ ap option_copied c.unwrap-key.ensures) (sym c.value.ensures ∙ ap option_copied c.unwrap-value.ensures) in
    on_ok_weaker c.put_attribute_line.result (λ put. put ∙ ap (λ (both : List ℕ × List ℕ). c.args.text.now.items ++ with_feed (attribute_line both)) named) c.put_attribute_line.ensures
