use Rattle.std.proofs.Common.{map, length-append, sym, ap, ◌∙◌, arith}
use Rattle.std.proofs.lemmas.List.Elements.{filter_map-append}
use Rattle.mvt_document.specs.Stands.{layer_item_of}
use Rattle.mvt_messages.specs.Views.{content_in, contents, plain_fields, plain_in}
use Rattle.mvt_layers.proofs.Yielded.{twice_picked_within}
use Rattle.mvt_layers.proofs.lists.Contents.of.Goals as goal

pub returns-clause-items : goal.returns-clause-items
returns-clause-items c =
    let content = content_in c.args.number in
    let front = plain_fields (map layer_item_of c.beside_features.result.0.now) in
    let back = plain_fields (map layer_item_of c.beside_features.result.1.now) in
    sym (ap (contents c.args.number) c.beside_features.ensures.items ∙ filter_map-append content front back)

pub returns-clause-bound : goal.returns-clause-bound
returns-clause-bound c =
    let content = content_in c.args.number in
    let front = c.beside_features.result.0.now in
    let back = c.beside_features.result.1.now in
    omega (arith, c.beside_features.ensures.fits, twice_picked_within layer_item_of plain_in content front, twice_picked_within layer_item_of plain_in content back, length-append (contents c.args.number (plain_fields (map layer_item_of front))) (contents c.args.number (plain_fields (map layer_item_of back))))
