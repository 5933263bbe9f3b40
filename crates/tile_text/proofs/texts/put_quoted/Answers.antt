use Rattle.std.proofs.Common.{◌∙◌}
use Rattle.tile_text.specs.Extends.{Extends}
use Rattle.tile_text.proofs.Writing.{extends_more, text_begun, on_err}
use Rattle.tile_text.proofs.texts.put_quoted.Goals as goal

pub returns-in_err-rest-clause-kept : goal.returns-in_err-rest-clause-kept
returns-in_err-rest-clause-kept c = extends_more _ _ _ c.loop-rest.invariant.kept c.in_err-rest.ensures.kept

pub returns-in_err-rest-clause-err : goal.returns-in_err-rest-clause-err
returns-in_err-rest-clause-err c =
    on_err c.from_residual-in_err-rest.result
    (text_begun c.args.line.now.items c.loop-rest.line.items _ c.loop-rest.rest.now c.args.text.now c.loop-rest.invariant.whole c.in_err-rest.ensures.err)

pub loop-rest-preserved : goal.loop-rest-preserved
loop-rest-preserved c = record {
  kept = extends_more _ _ _ c.loop-rest.invariant.kept c.in_ok-rest.ensures.kept;
  whole = c.in_ok-rest.ensures.ok ∙ c.loop-rest.invariant.whole;
}

pub returns-clause-kept : goal.returns-clause-kept
returns-clause-kept c =
    let closed : Extends c.loop-rest.line.items c.push-2.new.self.items = record { added = _; whole = c.in_ok-push-2.ensures.items } in
    extends_more _ _ _ c.loop-rest.invariant.kept closed
