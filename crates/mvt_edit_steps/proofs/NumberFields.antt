-- VARINT fields of a number, new ones and those that get another value.
use Rattle.std.proofs.Common.{◌≡◌, ℕ, ◌/◌, ◌==◌, true, Option, Some, None, is_some, refl, ap, ◌∙◌}
use Rattle.std.proofs.lemmas.Bool.{eq-eqb}
use Rattle.std.specs.Borrow.{Bor}
use Rattle.std.specs.Option.{IfSome, option_map_or}
use Rattle.mvt_document.specs.Plain as plain
use Rattle.mvt_document.specs.Stands.{field_of}
use Rattle.mvt_document.specs.declared.field.FieldParts.{FieldParts as Field}
use Rattle.mvt_meaning.specs.Fields.{new_number, with_field_value}
use Rattle.mvt_meaning.proofs.Given.{value_given}
use Rattle.mvt_edit_steps.specs.NumberPut.{is_numbered}

pub numbered_kept : (tag value : ℕ) (field : plain.Field) → is_numbered tag field ≡ true → is_numbered tag (with_field_value value field) ≡ true
numbered_kept tag value field is = ap (λ found. is_some found) (value_given (tag / 8) value field is)

pub new_numbered : (tag value : ℕ) → is_numbered tag (new_number tag value) ≡ true
new_numbered tag value = let own : (tag / 8 == tag / 8) ≡ true = eq-eqb (tag / 8) (tag / 8) refl in rw own refl

-- the field that is put
pub put_numbered : (tag value : ℕ) (old : Option (Bor Field)) (field : plain.Field) → IfSome old (λ found. is_numbered tag (field_of found.now) ≡ true) → field ≡ option_map_or (λ found. with_field_value value (field_of found.now)) old (new_number tag value) → is_numbered tag field ≡ true
put_numbered tag value None field was is = ap (is_numbered tag) is ∙ new_numbered tag value
put_numbered tag value (Some found) field was is = ap (is_numbered tag) is ∙ numbered_kept tag value (field_of found.now) was
