use Rattle.std.proofs.Common.{◌++◌, ap, subst, ◌∙◌, arith}
use Rattle.mvt_geometry.specs.Stands.{points_of}
use Rattle.mvt_geometry.specs.declared.shapes.Part.{Part}
use Rattle.tile_text.specs.Extends.{Extends}
use Rattle.tile_text.specs.TextStands.{other_part}
use Rattle.tile_text.proofs.Writing.{extends_more, one_more, item_begun, on_err}
use Rattle.tile_text.proofs.geometries.put_other_parts.Goals as goal

pub returns-in_err-put_other_part-clause-kept : goal.returns-in_err-put_other_part-clause-kept
returns-in_err-put_other_part-clause-kept c = extends_more _ _ _ c.loop-part.invariant.kept c.in_err-put_other_part.ensures.kept

pub loop-part-preserved : goal.loop-part-preserved
loop-part-preserved c = record {
  kept = extends_more _ _ _ c.loop-part.invariant.kept c.in_ok-put_other_part.ensures.kept;
  so_far = one_more (λ (part : Part). other_part (points_of part)) _ _ _ c.args.parts.now c.loop-part.part-index c.part-item.result (omega arith) c.loop-part.invariant.so_far
      (c.in_ok-put_other_part.ensures.ok ∙ ap (λ (part : Part). c.loop-part.line.items ++ other_part (points_of part)) c.part-item.is);
}

pub returns-in_err-put_other_part-clause-err : goal.returns-in_err-put_other_part-clause-err
returns-in_err-put_other_part-clause-err c =
    on_err c.from_residual.result
    (item_begun (λ (part : Part). other_part (points_of part)) _ _ _ c.args.parts.now c.loop-part.part-index c.part-item.result (omega arith) c.loop-part.invariant.so_far
    (subst (λ (part : Part). Extends c.put_other_part.new.line.items (c.loop-part.line.items ++ other_part (points_of part))) c.part-item.is c.in_err-put_other_part.ensures.err))
