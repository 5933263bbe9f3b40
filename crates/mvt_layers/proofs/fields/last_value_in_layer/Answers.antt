use Rattle.std.proofs.Common.{None, map, sym, ap, ◌∙◌}
use Rattle.std.specs.List.{filter_map, last_or}
use Rattle.std.proofs.lemmas.List.Elements.{filter_map-append}
use Rattle.mvt_document.specs.Stands.{layer_item_of}
use Rattle.mvt_messages.specs.Views.{plain_fields, value_in}
use Rattle.mvt_layers.proofs.Yielded.{last_joined}
use Rattle.mvt_layers.proofs.fields.last_value_in_layer.Goals as goal

pub returns : goal.returns
returns c =
    let value = value_in c.args.number in
    let front = plain_fields (map layer_item_of c.beside_features.result.0.now) in
    let back = plain_fields (map layer_item_of c.beside_features.result.1.now) in
    c.last_value_in_items.ensures
    ∙ ap (λ last. last_or last (filter_map value back)) c.last_value_in_items-last.ensures
    ∙ sym (last_joined None (filter_map value front) (filter_map value back))
    ∙ ap (last_or None) (sym (filter_map-append value front back))
    ∙ ap (λ fields. last_or None (filter_map value fields)) (sym c.beside_features.ensures.items)
