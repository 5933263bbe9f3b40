use Rattle.std.proofs.Common.{◌≡◌, Some, None, false, true, map, refl, sym, ◌∙◌}
use Rattle.mvt_document.specs.Stands.{field_of}
use Rattle.mvt_meaning.specs.Tagging.{is_packed_last}
use Rattle.mvt_edit_attributes.proofs.PairPut.{packed_seen}
use Rattle.mvt_edit_attributes.proofs.tags_run.last_packed.Goals as goal

pub returns-then-is_packed : goal.returns-then-is_packed
returns-then-is_packed c =
    let answered = packed_seen c.args.fields.now c.in_ok-position.position (Some c.in_ok-get.field-0) (sym c.in_ok-position.ensures) c.in_ok-get.ensures.lookup in
    let packed : is_packed_last (map field_of c.args.fields.now) ≡ true = answered ∙ sym c.is_packed.ensures ∙ c.if-is_packed.true in
    rw packed c.in_ok-position.ensures

pub returns-else-is_packed : goal.returns-else-is_packed
returns-else-is_packed c =
    let answered = packed_seen c.args.fields.now c.in_ok-position.position (Some c.in_ok-get.field-0) (sym c.in_ok-position.ensures) c.in_ok-get.ensures.lookup in
    let other : is_packed_last (map field_of c.args.fields.now) ≡ false = answered ∙ sym c.is_packed.ensures ∙ c.if-is_packed.false in
    rw other refl

pub returns-in_err-get : goal.returns-in_err-get
returns-in_err-get c =
    let other = packed_seen c.args.fields.now c.in_ok-position.position None (sym c.in_ok-position.ensures) c.in_err-get.ensures.lookup in
    rw other c.from_residual-in_err-get.ensures
