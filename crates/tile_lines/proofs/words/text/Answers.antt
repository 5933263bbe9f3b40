use Rattle.std.proofs.Common.{ℕ, List, sym, ap}
use Rattle.tile_lines.specs.Words.{byte_at, text_at}
use Rattle.tile_lines.proofs.Repeats.{goes_on, ends, one_taken}
use Rattle.tile_lines.proofs.Short.{byte_short}
use Rattle.tile_lines.proofs.words.text.Goals as goal

pub loop-byte-preserved : goal.loop-byte-preserved
loop-byte-preserved c =
    rw c.in_ok-push.ensures.items (goes_on byte_at byte_short c.loop-byte.text.items c.loop-byte.rest.now c.in-Some.byte c.in-Some.after.now (text_at c.args.bytes.now) (sym c.in-Some.ensures.value) c.loop-byte.invariant)

pub returns-clause-said : goal.returns-clause-said
returns-clause-said c =
    ap (λ (t : List ℕ × List ℕ). t.0) (sym (ends byte_at byte_short c.loop-byte.text.items c.loop-byte.rest.now (text_at c.args.bytes.now) (sym c.in_default.ensures.value) c.loop-byte.invariant))

pub returns-in_err-push-clause-no_memory : goal.returns-in_err-push-clause-no_memory
returns-in_err-push-clause-no_memory c = λ err.
    one_taken byte_at byte_short c.loop-byte.text.items c.loop-byte.rest.now c.in-Some.byte c.in-Some.after.now (text_at c.args.bytes.now) (sym c.in-Some.ensures.value) c.loop-byte.invariant
