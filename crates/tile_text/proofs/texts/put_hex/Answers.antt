use Rattle.hex.specs.Hex.{lower_digits, encode_lower}
use Rattle.tile_text.proofs.Writing.{extends_more, encode_with-append, encode_with-nil, piece_written, piece_begun, all_written, on_err}
use Rattle.tile_text.proofs.texts.put_hex.Goals as goal

pub loop-chunk-preserved : goal.loop-chunk-preserved
loop-chunk-preserved c = record {
  kept = extends_more _ _ _ c.loop-chunk.invariant.kept c.in_ok-put_hex_chunk.ensures.kept;
  whole = piece_written encode_lower (encode_with-append lower_digits) c.loop-chunk.line.items c.put_hex_chunk.new.line.items _ c.in-Some.chunk.now _ _ c.in-Some.ensures.steps.1.0 c.in_ok-put_hex_chunk.ensures.ok c.loop-chunk.invariant.whole;
}

pub returns-clause-ok : goal.returns-clause-ok
returns-clause-ok c = all_written encode_lower (encode_with-nil lower_digits) c.loop-chunk.line.items _ _ c.in-None.ensures.steps.1.0 c.loop-chunk.invariant.whole

pub returns-in_err-put_hex_chunk-clause-kept : goal.returns-in_err-put_hex_chunk-clause-kept
returns-in_err-put_hex_chunk-clause-kept c = extends_more _ _ _ c.loop-chunk.invariant.kept c.in_err-put_hex_chunk.ensures.kept

pub returns-in_err-put_hex_chunk-clause-err : goal.returns-in_err-put_hex_chunk-clause-err
returns-in_err-put_hex_chunk-clause-err c =
    on_err c.from_residual-in_err-put_hex_chunk.result
    (piece_begun encode_lower (encode_with-append lower_digits) c.loop-chunk.line.items c.put_hex_chunk.new.line.items _ c.in-Some.chunk.now _ _ c.in-Some.ensures.steps.1.0 c.loop-chunk.invariant.whole c.in_err-put_hex_chunk.ensures.err)
