use Rattle.std.proofs.Common.{map, [], ◌∷◌, ap, ◌∙◌}
use Rattle.mvt_document.specs.Opens.{IsField}
use Rattle.mvt_document.specs.Stands.{field_of}
use Rattle.mvt_document.specs.Wire.{field_bytes}
use Rattle.mvt_meaning.specs.Fields.{new_number, with_field_value}
use Rattle.mvt_edit_steps.specs.NumberPut.{is_numbered}
use Rattle.mvt_edit_steps.proofs.NumberFields.{new_numbered, numbered_kept, put_numbered}
use Rattle.mvt_edit_steps.proofs.Putting.{old_passes, run_puts}
use Rattle.mvt_edit_steps.proofs.numbered.number_put.Goals as goal

pub number_field-field-requires-clause-old : goal.number_field-field-requires-clause-old
number_field-field-requires-clause-old c =
    let tag = c.args.tag in
    let value = c.args.value in
    old_passes field_of (is_numbered tag) (with_field_value value) (new_number tag value) (new_numbered tag value) (numbered_kept tag value) field_bytes c.args.fields.now c.last_number.result c.of-spot.result.index c.get.result c.last_number.ensures c.of-spot.ensures.index c.get.ensures.lookup

pub returns : goal.returns
returns c =
    let tag = c.args.tag in
    let value = c.args.value in
    let field = c.number_field-field.ensures.field in
    let was = old_passes field_of (is_numbered tag) (with_field_value value) (new_number tag value) (new_numbered tag value) (numbered_kept tag value) field_bytes c.args.fields.now c.last_number.result c.of-spot.result.index c.get.result c.last_number.ensures c.of-spot.ensures.index c.get.ensures.lookup in
    record {
      puts =
          run_puts field_of (is_numbered tag) (with_field_value value) (new_number tag value) (new_numbered tag value) (numbered_kept tag value) field_bytes IsField c.args.fields.now c.last_number.result c.of-spot.result.index c.of-spot.result.take c.get.result c.number_field-field.result c.in_ok-vec.field-0.items c.last_number.ensures c.of-spot.ensures.index c.of-spot.ensures.take c.get.ensures.lookup field c.number_field-field.ensures.valid c.in_ok-vec.ensures.items;
      one =
          ap (map (λ put. is_numbered tag (field_of put))) c.in_ok-vec.ensures.items
          ∙ ap (λ is. is ∷ []) (put_numbered tag value c.get.result (field_of c.number_field-field.result) was field);
    }
