use Rattle.std.proofs.Common.{refl, sym, ◌∙◌}
use Rattle.mvt_document.specs.Stands.{document_of, layer_of}
use Rattle.mvt_edit_attributes.proofs.KeysRenamed.{may_rename_by}
use Rattle.mvt_edit_attributes.proofs.rename_key.check.Goals as goal

pub returns-then-not-fits_with_items : goal.returns-then-not-fits_with_items
returns-then-not-fits_with_items c =
    let finds = c.look_for-keys.ensures in
    let found = may_rename_by c.args.old.now c.args.new.now c.args.found.position (layer_of c.args.found.layer.now) (document_of c.args.document.now) c.look_for-keys.result c.and_size-size.result c.fits_with_items.result c.requires finds (c.and_size-size.ensures _ _ c.size_of_others.ensures finds.new_size) c.if-not-keys.false (sym c.is_taken.ensures ∙ c.if-is_taken.false) c.fits_with_items.ensures in
    rw (found, c.if-not-fits_with_items.true) refl

pub returns : goal.returns
returns c =
    let finds = c.look_for-keys.ensures in
    let found = may_rename_by c.args.old.now c.args.new.now c.args.found.position (layer_of c.args.found.layer.now) (document_of c.args.document.now) c.look_for-keys.result c.and_size-size.result c.fits_with_items.result c.requires finds (c.and_size-size.ensures _ _ c.size_of_others.ensures finds.new_size) c.if-not-keys.false (sym c.is_taken.ensures ∙ c.if-is_taken.false) c.fits_with_items.ensures in
    rw (found, c.if-not-fits_with_items.false) refl
