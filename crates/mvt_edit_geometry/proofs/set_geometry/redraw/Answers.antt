use Rattle.std.proofs.Common.{length, map, subst, ap, ◌∙◌, arith}
use Rattle.std.proofs.lemmas.List.{length-map}
use Rattle.mvt_document.specs.Opens.{IsField}
use Rattle.mvt_document.specs.Stands.{field_of}
use Rattle.mvt_document.specs.Wire.{field_bytes}
use Rattle.mvt_geometry.specs.Shapes.{kind_number}
use Rattle.mvt_meaning.specs.Geometries.{is_kind, with_kind}
use Rattle.mvt_edit_steps.specs.NumberPut.{is_numbered}
use Rattle.mvt_edit_steps.specs.PutsLast.{ReplacesLast}
use Rattle.mvt_edit_geometry.proofs.set_geometry.redraw.Goals as goal

pub returns-clause-kind : goal.returns-clause-kind
returns-clause-kind c =
    let kind = c.in_ok-kind.kind in
    let fields = map field_of c.args.fields.now in
    subst (λ n. ReplacesLast IsField field_bytes is_kind fields (with_kind n fields) kind.index kind.take (map field_of kind.put.items)) (c.number.ensures ∙ ap kind_number c.kind.ensures) c.in_ok-kind.ensures.puts

pub returns-clause-one : goal.returns-clause-one
returns-clause-one c = omega (arith, length-map c.in_ok-kind.kind.put.items (λ field. is_numbered 24 (field_of field)), ap (λ list. length list) c.in_ok-kind.ensures.one)

pub returns-clause-field : goal.returns-clause-field
returns-clause-field c = cc c.in_ok-bytes.ensures.bytes
