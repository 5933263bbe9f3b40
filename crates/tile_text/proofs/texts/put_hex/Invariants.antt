use Rattle.std.proofs.Common.{◌≡◌, ◌++◌}
use Rattle.std.specs.Slice.Iter.{chunks_rest}
use Rattle.hex.specs.Hex.{encode_lower}
use Rattle.tile_text.specs.Extends.{Extends}
use Rattle.tile_text.proofs.texts.put_hex.Given as goal

abbrev pub invariant-loop-chunk : goal.invariant-loop-chunk
invariant-loop-chunk l = record {
  kept : Extends l.fn.line.items l.line.items;
  whole : l.line.items ++ encode_lower (chunks_rest l.chunk-iterator) ≡ l.fn.line.items ++ encode_lower l.bytes;
}
