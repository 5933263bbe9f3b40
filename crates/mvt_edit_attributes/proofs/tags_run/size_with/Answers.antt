use Rattle.std.proofs.Common.{length, sym, ap, arith}
use Rattle.std.proofs.lemmas.List.Folds.{flat_map-map}
use Rattle.mvt_document.specs.declared.TheConstants.{MAX_FILE}
use Rattle.mvt_document.specs.Stands.{field_of}
use Rattle.mvt_document.specs.Wire.{field_bytes}
use Rattle.mvt_document.proofs.Sizes.{same_size}
use Rattle.mvt_change.proofs.Resized.{exchanged_size}
use Rattle.mvt_edit_attributes.proofs.tags_run.size_with.Goals as goal

pub returns-in-None : goal.returns-in-None
returns-in-None c = rw c.in-None.is (same_size MAX_FILE c.size_of_all.result _ _ (ap length (sym (flat_map-map field_bytes field_of c.args.fields.now))) c.size_of_all.ensures)

pub returns-in_err-beside-in-Some : goal.returns-in_err-beside-in-Some
returns-in_err-beside-in-Some c =
    let run = c.in-Some.run' in
    let whole = exchanged_size field_bytes field_of run.index run.take run.put.items c.args.fields.now in
    rw (c.in-Some.is, c.from_residual.ensures) (λ within. c.in_err-beside-in-Some.ensures (omega (arith, within, whole)))

pub returns-in_err-put-in-Some : goal.returns-in_err-put-in-Some
returns-in_err-put-in-Some c =
    let run = c.in-Some.run' in
    let whole = exchanged_size field_bytes field_of run.index run.take run.put.items c.args.fields.now in
    let none = rw c.as_slice.ensures.value at c.in_err-put-in-Some.ensures in
    rw (c.in-Some.is, c.from_residual-in_err-put-in-Some.ensures) (λ within. none (omega (arith, within, whole)))

pub returns-in_ok-put-in-Some : goal.returns-in_ok-put-in-Some
returns-in_ok-put-in-Some c =
    let run = c.in-Some.run' in
    let whole = exchanged_size field_bytes field_of run.index run.take run.put.items c.args.fields.now in
    let put = rw c.as_slice.ensures.value at c.in_ok-put-in-Some.ensures in
    rw c.in-Some.is (same_size MAX_FILE c.sum_within.result _ _ (omega (arith, whole, c.in_ok-beside-in-Some.ensures.1, put.1)) c.sum_within.ensures)
