use Rattle.std.proofs.Common.{◌≡◌, true, sym, ◌∙◌}
use Rattle.std.specs.Prelude.{◌||◌}
use Rattle.mvt_document.specs.declared.TheConstants.{MAX_FILE}
use Rattle.mvt_document.specs.Stands.{layer_item_of}
use Rattle.mvt_document.proofs.Sizes.{same_size}
use Rattle.mvt_meaning.specs.Tagging.{is_key}
use Rattle.mvt_edit_attributes.proofs.KeysRenamed.{key_found, length-renamed}
use Rattle.mvt_edit_attributes.proofs.rename_key.and_item.Goals as goal
use Rattle.mvt_edit_attributes.proofs.rename_key.and_item.Goals.{then-keys, else-keys}

pub returns-in-Some : goal.returns-in-Some
returns-in-Some c = λ items finds.
    let old = c.args.old.now in
    let new = c.args.new.now in
    let item = layer_item_of c.args.item.now in
    let key : is_key old item ≡ true = sym c.in-Some.ensures.there in
    let long = same_size MAX_FILE c.message_size.result _ _ (length-renamed _ _ _ item old new c.in-Some.ensures.parts) c.message_size.ensures in
    let taken : c.if-keys.taken ≡ (c.args.keys.taken || is_key new item) = elim c.if-keys.branch [ then-keys w ↦ rw w.if-keys.true (w.taken-is ∙ w.if-keys.true) | else-keys w ↦ rw w.if-keys.false (w.taken-is ∙ w.is_some-taken.ensures ∙ w.key_field.ensures.there) ] in
    key_found old new items item key c.args.keys _ _ _ finds taken (c.and_size.ensures _ _ finds.old_size c.size.ensures) (c.and_size-in-Some.ensures _ _ finds.new_size long)
