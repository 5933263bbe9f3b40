use Rattle.std.proofs.Common.{ap, sym, ◌∙◌, subst}
use Rattle.mvt_document.specs.Parts.{IsWholeField, IsWholeLayerItem}
use Rattle.mvt_document.specs.Bodies.{body_seen}
use Rattle.mvt_wire.specs.Fronts.{front_of}
use Rattle.mvt_document.specs.Bodies.{number_of}
use Rattle.mvt_document.specs.Stands.{layer_item_of}
use Rattle.std.proofs.lemmas.Result.{err_from_is_err_and}
use Rattle.mvt_document.proofs.EachItem.{all_of_map}
use Rattle.mvt_document.proofs.Wholes.{layer_items-bytes, same_content, layer_whole, no_layer}
use Rattle.mvt_wire.proofs.decode.TileItemDecode.decode.Goals as goal

pub returns-in_ok-decode_inside-in-Bytes-clause-made : goal.returns-in_ok-decode_inside-in-Bytes-clause-made
returns-in_ok-decode_inside-in-Bytes-clause-made c =
    let items = c.of_size.result.items in
    rw c.new.ensures (same_content (number_of c.args.front.tag) c.in-Bytes.width _ (body_seen c.args.front.body) c.in-Bytes.bytes.now
    (ap body_seen c.in-Bytes.is) ((rw (← c.of_size.ensures) at c.in_ok-decode_inside-in-Bytes.ensures.spelled) ∙ sym (layer_items-bytes layer_item_of items)))

pub returns-in_ok-decode_inside-in-Bytes-clause-whole : goal.returns-in_ok-decode_inside-in-Bytes-clause-whole
returns-in_ok-decode_inside-in-Bytes-clause-whole c =
    let items = c.of_size.result.items in
    layer_whole _ (subst IsWholeField (sym (returns-in_ok-decode_inside-in-Bytes-clause-made c)) c.requires) (rw c.new.ensures c.if-front-eq-LAYER_TAG.true)
    (all_of_map layer_item_of IsWholeLayerItem items (rw (← c.of_size.ensures) at c.in_ok-decode_inside-in-Bytes.ensures.whole))

pub returns-in_err-decode_inside-in-Bytes-clause-broken : goal.returns-in_err-decode_inside-in-Bytes-clause-broken
returns-in_err-decode_inside-in-Bytes-clause-broken c = λ e.
    let p = err_from_is_err_and c.from_residual.result c.from_residual.ensures.1 in
    no_layer (front_of c.args.front) c.in-Bytes.width c.in-Bytes.bytes.now (ap body_seen c.in-Bytes.is) c.if-front-eq-LAYER_TAG.true
    (c.in_err-decode_inside-in-Bytes.ensures.broken (cc (p.1, p.2)))
