use Rattle.std.proofs.Common.{◌≡◌, map, inr, sym, ap, ◌∙◌, subst}
use Rattle.std.proofs.lemmas.Result.{err_from_is_err_and}
use Rattle.std.proofs.lemmas.Slice.Eq.{bytes_eq-Decides}
use Rattle.mvt_document.specs.Stands.{document_of, layer_item_of, layer_of}
use Rattle.mvt_document.specs.Wire.{layer_item_bytes}
use Rattle.mvt_change.specs.ChangeStands.{change_of, step_of}
use Rattle.mvt_meaning.specs.Command.{RenameKey}
use Rattle.mvt_meaning.specs.CommandStands.{layer_choice_of}
use Rattle.mvt_meaning.specs.Tagging.{is_key}
use Rattle.mvt_edit_steps.specs.Prepared.{IsPrepared}
use Rattle.mvt_edit_steps.proofs.Heavy.{heavy}
use Rattle.mvt_edit_steps.proofs.Refusing.{ran_out}
use Rattle.mvt_edit_attributes.proofs.KeyFields.{key_has_bytes, keys_valid}
use Rattle.mvt_edit_attributes.proofs.KeysRenamed.{keys_renamed, keys_stay, not_renamed, renaming_asks}
use Rattle.mvt_edit_attributes.proofs.rename_key.rename_key.Goals as goal

pub returns-in_err-check-clause-prepares : goal.returns-in_err-check-clause-prepares
returns-in_err-check-clause-prepares c =
    let found = c.in_ok-found.found in
    let is = c.in_ok-found.ensures.found in
    let passed = err_from_is_err_and c.from_residual-in_err-check.result c.from_residual-in_err-check.ensures.1 in
    rw (passed.1, passed.2) (inr (not_renamed (layer_choice_of c.args.choice.now) c.args.old.now c.args.new.now (document_of c.args.document.now) found.ordinal found.position (layer_of found.layer.now) is.selects is.placed is.there _ (sym c.in_err-check.ensures)))

pub returns-then-eq-clause-prepares : goal.returns-then-eq-clause-prepares
returns-then-eq-clause-prepares c =
    let choice = layer_choice_of c.args.choice.now in
    let old = c.args.old.now in
    let new = c.args.new.now in
    let document = document_of c.args.document.now in
    let found = c.in_ok-found.found in
    let is = c.in_ok-found.ensures.found in
    let same : old ≡ new = (bytes_eq-Decides old new).0 (sym c.eq.ensures ∙ c.if-eq.true) in
    subst (IsPrepared (RenameKey choice old new) document) (sym (c.new-then-eq.ensures.change ∙ ap (map step_of) c.new.ensures.items)) (keys_stay choice old new document found.ordinal found.position (layer_of found.layer.now) is.selects is.placed is.there (sym c.in_ok-check.ensures) same)

pub returns-then-eq-clause-same : goal.returns-then-eq-clause-same
returns-then-eq-clause-same c = λ _. c.new-then-eq.ensures.change ∙ ap (map step_of) c.new.ensures.items

pub returns-in_err-renaming-clause-prepares : goal.returns-in_err-renaming-clause-prepares
returns-in_err-renaming-clause-prepares c =
    let choice = layer_choice_of c.args.choice.now in
    let old = c.args.old.now in
    let new = c.args.new.now in
    let document = document_of c.args.document.now in
    let found = c.in_ok-found.found in
    let is = c.in_ok-found.ensures.found in
    let out = c.from_residual-in_err-renaming in
    ran_out (RenameKey choice old new) document out.result out.ensures.1
    (renaming_asks choice old new document found.ordinal found.position (layer_of found.layer.now) is.selects is.placed is.there (sym c.in_ok-check.ensures))

pub returns-clause-prepares : goal.returns-clause-prepares
returns-clause-prepares c =
    let choice = layer_choice_of c.args.choice.now in
    let old = c.args.old.now in
    let new = c.args.new.now in
    let document = document_of c.args.document.now in
    let found = c.in_ok-found.found in
    let is = c.in_ok-found.ensures.found in
    let items = found.layer.now.items.items in
    keys_renamed choice old new document found.ordinal found.position (layer_of found.layer.now) is.selects is.placed is.there (sym c.in_ok-check.ensures) (sym c.eq.ensures ∙ c.if-eq.false) (keys_valid old new items) (heavy layer_item_bytes layer_item_of (is_key old) (key_has_bytes old new) items)
    (change_of c.in_ok-renaming.field-0) (rw c.as_slice-items.ensures at c.in_ok-renaming.ensures)

pub returns-clause-same : goal.returns-clause-same
returns-clause-same c = λ same. absurd (let others = sym ((bytes_eq-Decides c.args.old.now c.args.new.now).1 same) ∙ sym c.eq.ensures ∙ c.if-eq.false in cc)
