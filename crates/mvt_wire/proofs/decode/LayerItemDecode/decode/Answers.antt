use Rattle.std.proofs.Common.{ap, sym, ◌∙◌, subst}
use Rattle.std.proofs.lemmas.List.Folds.{flat_map-map}
use Rattle.mvt_document.specs.Parts.{IsWholeField}
use Rattle.mvt_document.specs.Bodies.{body_seen}
use Rattle.mvt_document.specs.Bodies.{number_of}
use Rattle.mvt_document.specs.Stands.{field_of}
use Rattle.mvt_document.proofs.EachItem.{all_of_map}
use Rattle.mvt_document.proofs.Wholes.{same_content, feature_whole}
use Rattle.mvt_document.specs.Wire.{field_bytes}
use Rattle.mvt_wire.proofs.decode.LayerItemDecode.decode.Goals as goal

pub returns-in_ok-decode_inside-in-Bytes-clause-made : goal.returns-in_ok-decode_inside-in-Bytes-clause-made
returns-in_ok-decode_inside-in-Bytes-clause-made c =
    let fields = c.from_vec.result.items in
    rw (c.new-in-Bytes.ensures, c.new.ensures) (same_content (number_of c.args.front.tag) c.in-Bytes.width _ (body_seen c.args.front.body) c.in-Bytes.bytes.now
    (ap body_seen c.in-Bytes.is) ((rw (← c.from_vec.ensures.items) at c.in_ok-decode_inside-in-Bytes.ensures.spelled) ∙ sym (flat_map-map field_bytes field_of fields)))

pub returns-in_ok-decode_inside-in-Bytes-clause-whole : goal.returns-in_ok-decode_inside-in-Bytes-clause-whole
returns-in_ok-decode_inside-in-Bytes-clause-whole c =
    let fields = c.from_vec.result.items in
    feature_whole _ (subst IsWholeField (sym (returns-in_ok-decode_inside-in-Bytes-clause-made c)) c.requires) (rw (c.new-in-Bytes.ensures, c.new.ensures) c.if-front-eq-FEATURE_TAG.true)
    (rw c.new-in-Bytes.ensures (all_of_map field_of IsWholeField fields (rw (← c.from_vec.ensures.items) at c.in_ok-decode_inside-in-Bytes.ensures.whole)))
