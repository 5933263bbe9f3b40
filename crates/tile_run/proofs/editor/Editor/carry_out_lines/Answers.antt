use Rattle.std.proofs.Common.{◌∙◌, ◌++◌, ap, subst, Err, ℕ, List, arith}
use Rattle.std.proofs.lemmas.List.{take_all}
use Rattle.std.proofs.lemmas.Result.{err_from_is_err_and}
use Rattle.tile_lines.specs.Lines.{whole_lines}
use Rattle.tile_run.specs.Steps.{ComesTo, WasGiven, moment_at}
use Rattle.tile_run.proofs.Running.{comes_to_same, comes_to_more}
use Rattle.tile_run.proofs.Feeding.{given_more, none_more, some_more, stops_there, stops_so}
use Rattle.tile_run.proofs.editor.Editor.carry_out_lines.Goals as goal

pub loop-byte-preserved : goal.loop-byte-preserved
loop-byte-preserved g c =
    let so_far = c.loop-byte.invariant in
    let step = c.in_ok-carry_out.ensures in
    record {
      lines = omega (arith, so_far.lines, step.lines);
      cutter = λ before given. given_more _ _ before _ _ c.loop-byte-test.true (so_far.cutter before given) c.push.ensures;
      comes = λ strict start before first script given to.
          let now = given_more _ _ before _ _ c.loop-byte-test.true (so_far.cutter before given) c.push.ensures in
          let found = some_more _ before _ _ _ c.loop-byte-test.true now c.in-Some.ensures in
          let there = so_far.comes strict start before first script given to in
          comes_to_more strict start _ _ found.0 first _ _ _ _ found.2 there (step.answers script strict there.comes.progress found.0 there.at there.comes.over found.1);
    }

pub loop-byte-preserved-in_default : goal.loop-byte-preserved-in_default
loop-byte-preserved-in_default g c =
    let so_far = c.loop-byte.invariant in
    record {
      lines = omega (arith, so_far.lines);
      cutter = λ before given. given_more _ _ before _ _ c.loop-byte-test.true (so_far.cutter before given) c.push.ensures;
      comes = λ strict start before first script given to.
          let now = given_more _ _ before _ _ c.loop-byte-test.true (so_far.cutter before given) c.push.ensures in
          comes_to_same strict start _ _ first _ _ (none_more _ before _ _ c.loop-byte-test.true now c.in_default.ensures) (so_far.comes strict start before first script given to);
    }

pub returns-in_err-carry_out-clause-comes : goal.returns-in_err-carry_out-clause-comes
returns-in_err-carry_out-clause-comes g c = λ strict start before first script given to.
    let so_far = c.loop-byte.invariant in
    let now = given_more _ _ before _ _ c.loop-byte-test.true (so_far.cutter before given) c.push.ensures in
    let found = some_more _ before _ _ _ c.loop-byte-test.true now c.in-Some.ensures in
    let there = so_far.comes strict start before first script given to in
    let q = err_from_is_err_and c.from_residual.result c.from_residual.ensures.1 in
    stops_so strict start _ first _ _ _ c.from_residual.result (q.1 ∙ ap Err q.2)
    (stops_there strict start before c.args.bytes.now found.0 c.loop-byte.byte-index first _ _ c.loop-byte.self _ c.in_err-carry_out.field-0.0 found.2 there
    (c.in_err-carry_out.ensures.answers script strict there.comes.progress found.0 there.at there.comes.over found.1))

pub returns-clause-cutter : goal.returns-clause-cutter
returns-clause-cutter g c = λ before given done.
    let all = take_all c.loop-byte.byte-index c.args.bytes.now c.loop-byte-test.false in
    subst (λ (t : List ℕ). WasGiven c.loop-byte.cutter (before ++ t)) all (c.loop-byte.invariant.cutter before given)

pub returns-clause-comes : goal.returns-clause-comes
returns-clause-comes g c = λ strict start before first script given to.
    let all = take_all c.loop-byte.byte-index c.args.bytes.now c.loop-byte-test.false in
    subst (λ (t : List ℕ). ComesTo strict start (whole_lines (before ++ t)) first (moment_at g.W.Sink script c.loop-byte.replies c.loop-byte.retries) c.loop-byte.self) all
    (c.loop-byte.invariant.comes strict start before first script given to)
