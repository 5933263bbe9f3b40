use Rattle.std.proofs.Common.{rules, ◌≡◌, ℤ, ◌++◌, ◌∙◌, ap, sym, refl, length, w64, arith}
use mir.Val.{SFits}
use Rattle.std.proofs.lemmas.Int.{to_z-of_z}
use Rattle.tile_course.specs.Answering.{offset_line}
use Rattle.tile_run.proofs.Printing.{mark_there, none_after, lines_of_marks, all_printed}
use Rattle.tile_run.proofs.printed.mark_lines.Goals as goal
use Rattle.tile_run.proofs.printed.mark_lines.Goals.{else-loop-index-test, then-loop-index-test+in_default}

pub loop-index-preserved : goal.loop-index-preserved
loop-index-preserved c =
    let fits : SFits w64 c.in-Some.offset = search rules in
    let added : c.put_mark.new.lines.items ≡ c.loop-index.lines.items ++ offset_line c.in-Some.name.now c.in-Some.offset = c.in_ok-put_mark.ensures ∙ ap (λ (offset : ℤ). c.loop-index.lines.items ++ offset_line c.in-Some.name.now offset) (to_z-of_z _ _ fits) in
    mark_there (length c.args.session.now.undo) c.args.session.now.marks c.loop-index.index c.loop-index.lines.items c.put_mark.new.lines.items (c.in-Some.name, c.in-Some.offset) _ refl c.in-Some.ensures c.loop-index.invariant added

pub returns-clause-lines : goal.returns-clause-lines
returns-clause-lines c history stands =
    let session = c.args.session.now in
    elim c.loop-index-test.branch [
      | else-loop-index-test w ↦ c.from_vec.ensures.items ∙ c.loop-index.invariant ∙ all_printed (length session.undo) session.marks c.loop-index.index (omega (arith, w.loop-index-test.false, c.mark_count-index-end.ensures)) ∙ sym (lines_of_marks session history stands)
      | then-loop-index-test+in_default w ↦ absurd (none_after (length session.undo) session.marks c.loop-index.index _ refl w.in_default.ensures (omega (arith, w.loop-index-test.true, c.mark_count-index-end.ensures)))
    ]
