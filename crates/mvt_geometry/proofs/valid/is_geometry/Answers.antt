use Rattle.std.proofs.Common.{ℕ, length, sym, subst}
use Rattle.std.proofs.lemmas.List.{length-map}
use Rattle.mvt_geometry.specs.Shapes.{IsPart, IsPartCount}
use Rattle.mvt_geometry.specs.Stands.{points_of}
use Rattle.mvt_document.proofs.EachItem.{all_of_map, all_from_map}
use Rattle.mvt_geometry.proofs.valid.is_geometry.Goals as goal

pub returns-then-is_part_count : goal.returns-then-is_part_count
returns-then-is_part_count c =
    let kind = c.args.kind in
    let parts = c.args.parts.now in
    let counted : IsPartCount kind (length parts) = c.is_part_count.ensures.0 c.if-is_part_count.true in (
      λ valid. record {
        counted = subst (λ (n : ℕ). IsPartCount kind n) (sym (length-map parts points_of)) counted;
        parts = all_of_map points_of (IsPart kind) parts (c.are_parts.ensures.0 valid);
      },
      λ g. c.are_parts.ensures.1 (all_from_map points_of (IsPart kind) parts g.parts),
    )
