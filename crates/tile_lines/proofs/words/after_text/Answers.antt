use Rattle.std.proofs.Common.{sym, ap, ◌∙◌}
use Rattle.std.proofs.Common.{List, ℕ}
use Rattle.tile_lines.specs.Words.{byte_at}
use Rattle.tile_lines.proofs.Repeats.{taken_some, taken_none}
use Rattle.tile_lines.proofs.Short.{byte_short}
use Rattle.tile_lines.proofs.words.after_text.Goals as goal

pub loop-after-preserved : goal.loop-after-preserved
loop-after-preserved c =
    let whole = taken_some byte_at byte_short c.loop-after.rest.now c.in-Some.field-0-0 c.in-Some.after.now (sym c.in-Some.ensures.value) in
    ap (λ (t : List ℕ × List ℕ). t.1) (sym whole) ∙ c.loop-after.invariant

pub returns : goal.returns
returns c =
    let whole = taken_none byte_at byte_short c.loop-after.rest.now (sym c.in_default.ensures.value) in
    ap (λ (t : List ℕ × List ℕ). t.1) (sym whole) ∙ c.loop-after.invariant
