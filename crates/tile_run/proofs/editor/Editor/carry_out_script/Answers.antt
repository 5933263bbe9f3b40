use Rattle.std.proofs.Common.{◌∙◌, ap, Err}
use Rattle.std.proofs.lemmas.Result.{err_from_is_err_and}
use Rattle.tile_course.specs.Run.{at_first}
use Rattle.tile_run.proofs.Finishing.{no_memory, ends_with_feed, last_line_in, ends_with_line, stops_at_last_line, script_ends_as}
use Rattle.tile_run.proofs.editor.Editor.carry_out_script.Goals as goal

pub returns-in_err-cutter : goal.returns-in_err-cutter
returns-in_err-cutter g c strict document depth at =
    let q = err_from_is_err_and c.from_residual.result c.from_residual.ensures.1 in
    script_ends_as strict (at_first document depth) _ _ _ _ c.from_residual.result (q.1 ∙ ap Err q.2) (no_memory strict (at_first document depth) _ _)

pub returns-in_default : goal.returns-in_default
returns-in_default g c strict document depth at =
    ends_with_feed strict (at_first document depth) _ _ _ _ (c.in_ok-carry_out_pieces.ensures.pieces strict document depth at) c.in_default.ensures

pub returns-in_err-carry_out : goal.returns-in_err-carry_out
returns-in_err-carry_out g c strict document depth at =
    let whole = c.in_ok-carry_out_pieces.ensures.pieces strict document depth at in
    let last = last_line_in strict (at_first document depth) _ _ _ _ _ whole c.in-Some.ensures in
    let q = err_from_is_err_and c.from_residual-in_err-carry_out.result c.from_residual-in_err-carry_out.ensures.1 in
    script_ends_as strict (at_first document depth) _ _ _ _ c.from_residual-in_err-carry_out.result (q.1 ∙ ap Err q.2)
    (stops_at_last_line strict (at_first document depth) _ _ _ _ _ _ _ last.0 c.in_err-carry_out.field-0.0 whole last.2
    (c.in_err-carry_out.ensures.answers _ strict whole.comes.comes.progress last.0 whole.comes.at whole.comes.comes.over last.1))

pub returns : goal.returns
returns g c strict document depth at =
    let whole = c.in_ok-carry_out_pieces.ensures.pieces strict document depth at in
    let last = last_line_in strict (at_first document depth) _ _ _ _ _ whole c.in-Some.ensures in
    ends_with_line strict (at_first document depth) _ _ _ _ _ _ _ last.0 whole last.2
    (c.in_ok-carry_out.ensures.answers _ strict whole.comes.comes.progress last.0 whole.comes.at whole.comes.comes.over last.1)
