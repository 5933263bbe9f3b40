use Rattle.std.proofs.Common.{rules, ◌∙◌, ◌<◌, ◌≤◌, ◌+◌, ap, Err, ℕ, length, refl, arith}
use Rattle.std.proofs.lemmas.List.{length-take}
use Rattle.std.proofs.lemmas.Result.{err_from_is_err_and}
use Rattle.tile_course.specs.Run.{at_first}
use Rattle.tile_run.proofs.Reading.{so_far_none, got_piece, passed_on, so_far_more, stops_reading, stops_too_long, stops_at_line, stops_as, ends_reading}
use Rattle.tile_run.proofs.editor.Editor.carry_out_pieces.Goals as goal

pub loop-count-init : goal.loop-count-init
loop-count-init g c = record {
  lines = omega (arith, c.requires.lines);
  so_far = λ strict document depth at. so_far_none strict document depth _ _ _ c.requires.cutter at;
}

pub returns-in_default-clause-pieces : goal.returns-in_default-clause-pieces
returns-in_default-clause-pieces g c strict document depth at =
    let so_far = c.loop-count.invariant.so_far strict document depth at in
    stops_reading strict (at_first document depth) _ _ _ _ _ _ _ c.in_default.field-0 so_far c.in_default.ensures.reads

pub returns-then-count-eq0-clause-pieces : goal.returns-then-count-eq0-clause-pieces
returns-then-count-eq0-clause-pieces g c strict document depth at =
    let so_far = c.loop-count.invariant.so_far strict document depth at in
    let some : 0 < length c.read_some.new.buffer = omega (arith, length-take {A = ℕ}, c.min-size.ensures, c.read_some.auto.buffer) in
    ends_reading strict (at_first document depth) _ _ _ _ _ _ _ _ _ so_far c.if-count-eq0.true some c.in-Ok.ensures.reads

pub returns-in_err-carry_out_lines-clause-pieces : goal.returns-in_err-carry_out_lines-clause-pieces
returns-in_err-carry_out_lines-clause-pieces g c strict document depth at =
    let so_far = c.loop-count.invariant.so_far strict document depth at in
    let within = c.in-Ok.ensures.within in
    let got = got_piece strict (at_first document depth) _ _ _ _ _ _ _ _ _ so_far c.if-count-eq0.false c.in-Ok.ensures.reads in
    let by_one : c.in-Ok.count ≤ c.loop-count.room + 1 = search rules in
    let q = err_from_is_err_and c.from_residual.result c.from_residual.ensures.1 in
    stops_as strict (at_first document depth) _ _ _ _ _ c.from_residual.result (q.1 ∙ ap Err q.2)
    (stops_at_line strict (at_first document depth) _ _ _ _ _ _ _ _ _ _ _ c.in_err-carry_out_lines.field-0.0 got within by_one (passed_on _ _ _ _ _ c.min.ensures within)
    (c.in_err-carry_out_lines.ensures.comes strict (at_first document depth) got.bytes _ _ got.given got.comes))

pub returns-then-count-room-clause-pieces : goal.returns-then-count-room-clause-pieces
returns-then-count-room-clause-pieces g c strict document depth at =
    let so_far = c.loop-count.invariant.so_far strict document depth at in
    let within = c.in-Ok.ensures.within in
    let got = got_piece strict (at_first document depth) _ _ _ _ _ _ _ _ _ so_far c.if-count-eq0.false c.in-Ok.ensures.reads in
    let by_one : c.in-Ok.count ≤ c.loop-count.room + 1 = search rules in
    stops_too_long strict (at_first document depth) _ _ _ _ _ _ _ _ _ _ _ got within c.if-count-room.true by_one (passed_on _ _ _ _ _ c.min.ensures within)
    (c.in_ok-carry_out_lines.ensures.comes strict (at_first document depth) got.bytes _ _ got.given got.comes)

pub loop-count-preserved : goal.loop-count-preserved
loop-count-preserved g c = record {
  lines = omega (arith, c.loop-count.invariant.lines, c.carry_out_lines.ensures.lines, c.min.ensures, length-take {A = ℕ});
  so_far = λ strict document depth at.
      let so_far = c.loop-count.invariant.so_far strict document depth at in
      let within = c.in-Ok.ensures.within in
      let got = got_piece strict (at_first document depth) _ _ _ _ _ _ _ _ _ so_far c.if-count-eq0.false c.in-Ok.ensures.reads in
      so_far_more strict (at_first document depth) _ _ _ _ _ _ _ _ _ _ _ _ _ got within (omega arith) (passed_on _ _ _ _ _ c.min.ensures within)
      (c.in_ok-carry_out_lines.ensures.cutter got.bytes got.given refl) (c.in_ok-carry_out_lines.ensures.comes strict (at_first document depth) got.bytes _ _ got.given got.comes);
}
