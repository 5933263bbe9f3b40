use Rattle.std.proofs.Common.{[], ◌∷◌, ◌++◌, append_assoc, map, take, sym, ap, ◌∙◌, subst}
use Rattle.std.proofs.lemmas.List.{map_more}
use Rattle.mvt_document.specs.Stands.{layer_item_of}
use Rattle.mvt_edit_attributes.specs.KeyFates.{FindsKeys}
use Rattle.mvt_edit_attributes.proofs.rename_key.and_items.Goals as goal

pub loop-item-preserved : goal.loop-item-preserved
loop-item-preserved c = λ before finds.
    let seen = map layer_item_of (take c.loop-item.item-index c.args.items.now) in
    let more = ap (λ item. seen ++ layer_item_of item ∷ []) c.item-item.is ∙ sym (map_more layer_item_of c.args.items.now c.loop-item.item-index c.item-item.result c.loop-item-test.true) in
    subst (λ items. FindsKeys c.args.old.now c.args.new.now items c.and_item-keys.result) (append_assoc before seen _ ∙ ap (λ items. before ++ items) more) (c.and_item-keys.ensures (before ++ seen) (c.loop-item.invariant before finds))
