use Rattle.std.proofs.Common.{◌++◌, ◌∙◌, codes, Err, ap, append_assoc}
use Rattle.std.proofs.lemmas.Result.{err_from_is_err_and}
use Rattle.tile_device.proofs.Sending.{sends_more, stops_early}
use Rattle.tile_course.specs.Replies.{after_name, refused_front}
use Rattle.tile_course.proofs.replies.write_refusal.Goals as goal

pub returns-in_err-write_reason : goal.returns-in_err-write_reason
returns-in_err-write_reason g c =
    let front = refused_front c.args.line c.args.reason in
    let following = after_name c.args.reason in
    let p = err_from_is_err_and c.from_residual.result c.from_residual.ensures.1 in
    rw (p.1 ∙ ap Err p.2, append_assoc front following (codes "\n"))
    (stops_early _ _ _ _ front (following ++ codes "\n") _ c.in_err-write_reason.ensures)

pub returns : goal.returns
returns g c =
    let front = refused_front c.args.line c.args.reason in
    let following = after_name c.args.reason in
    rw (append_assoc front following (codes "\n"))
    (sends_more _ _ _ _ _ _ front (following ++ codes "\n") _ c.in_ok-write_reason.ensures c.write_end.ensures)
