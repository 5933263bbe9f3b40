use Rattle.std.proofs.Common.{rules, SFits, sym, ap, ◌∙◌, w64}
use Rattle.mvt_document.specs.Signed.{zigzag}
use Rattle.mvt_geometry.specs.Checks.{is_delta}
use Rattle.mvt_edit_geometry.proofs.Further.{leads_to, too_far}
use Rattle.mvt_edit_geometry.proofs.shift.further.Goals as goal

pub returns-in_err-delta-clause-held : goal.returns-in_err-delta-clause-held
returns-in_err-delta-clause-held c =
    let fits : SFits w64 c.from_zigzag.result = search rules in
    rw c.from_residual.ensures (too_far c.args.parameter c.from_zigzag.result c.args.more fits c.ranges.more c.from_zigzag.ensures c.in_err-delta.ensures)

pub returns-then-is_delta-clause-held : goal.returns-then-is_delta-clause-held
returns-then-is_delta-clause-held c =
    let fits : SFits w64 c.from_zigzag.result = search rules in
    sym c.if-is_delta.true ∙ c.is_delta.ensures ∙ ap is_delta (leads_to c.args.parameter c.from_zigzag.result c.args.more fits c.ranges.more c.from_zigzag.ensures _ c.in_ok-delta.ensures)

pub returns-then-is_delta-clause-holds : goal.returns-then-is_delta-clause-holds
returns-then-is_delta-clause-holds c =
    let fits : SFits w64 c.from_zigzag.result = search rules in
    c.to_zigzag.ensures ∙ ap zigzag (leads_to c.args.parameter c.from_zigzag.result c.args.more fits c.ranges.more c.from_zigzag.ensures _ c.in_ok-delta.ensures)

pub returns-else-is_delta-clause-held : goal.returns-else-is_delta-clause-held
returns-else-is_delta-clause-held c =
    let fits : SFits w64 c.from_zigzag.result = search rules in
    sym c.if-is_delta.false ∙ c.is_delta.ensures ∙ ap is_delta (leads_to c.args.parameter c.from_zigzag.result c.args.more fits c.ranges.more c.from_zigzag.ensures _ c.in_ok-delta.ensures)
