use Rattle.std.proofs.Common.{◌-◌, length, arith}
use Rattle.mvt_document.proofs.Steps.{put-more, put-end}
use Rattle.mvt_document.proofs.Spelling.{length-spell}
use Rattle.mvt_document.proofs.varint.put_number.Goals as goal

pub loop-index-preserved : goal.loop-index-preserved
loop-index-preserved c = put-more c.loop-index.room _ c.loop-index.rest c.loop-index.index (omega arith) c.loop-index.invariant

pub returns : goal.returns
returns c = record {
  counted = omega (arith, length-spell c.args.value c.args.width);
  written = put-end c.loop-index.room _ c.loop-index.rest c.loop-index.index (length c.args.room.now - 1) (omega arith) (omega arith) c.loop-index.invariant;
}
