use Rattle.std.proofs.Common.{arith}
use Rattle.mvt_document.specs.declared.TheConstants.{MAX_FILE}
use Rattle.mvt_document.specs.Stands.{layer_item_of}
use Rattle.mvt_document.specs.Wire.{layer_item_bytes}
use Rattle.mvt_document.proofs.Sizes.{same_size}
use Rattle.mvt_meaning.specs.Tagging.{is_key}
use Rattle.mvt_edit_attributes.proofs.KeysRenamed.{others_size}
use Rattle.mvt_edit_attributes.proofs.rename_key.size_of_others.Goals as goal

pub overflow_sub-sum : goal.overflow_sub-sum
overflow_sub-sum c =
    let goes = rw c.in-Some-Some.is-1 at c.requires in
    let whole = others_size layer_item_bytes (is_key c.args.old.now) layer_item_of c.args.items.now.items c.in-Some-Some.sum c.in-Some-Some.gone c.in-Some-Some.ensures goes.1 in
    omega (arith, whole)

pub returns-in-Some-Some : goal.returns-in-Some-Some
returns-in-Some-Some c =
    let goes = rw c.in-Some-Some.is-1 at c.requires in
    let whole = others_size layer_item_bytes (is_key c.args.old.now) layer_item_of c.args.items.now.items c.in-Some-Some.sum c.in-Some-Some.gone c.in-Some-Some.ensures goes.1 in
    same_size MAX_FILE c.sum_within.result _ _ (omega (arith, whole)) c.sum_within.ensures
