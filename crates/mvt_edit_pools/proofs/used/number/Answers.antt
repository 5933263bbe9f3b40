use Rattle.std.proofs.Common.{◌++◌, ap, arith}
use Rattle.mvt_edit_pools.specs.Marks.{numbered_from}
use Rattle.mvt_edit_pools.proofs.Numbering.{numbered_all, numbered_more, one_at_most}
use Rattle.mvt_edit_pools.proofs.used.number.Goals as goal

pub loop-stays-init : goal.loop-stays-init
loop-stays-init c = let made = c.in_ok-ordinals.ensures in record {
  numbered = ap (λ front. front ++ numbered_from 0 c.args.marks.now) made.items;
  few = omega arith;
  put = made.len;
  room = made.capacity;
}

pub loop-stays-preserved : goal.loop-stays-preserved
loop-stays-preserved c = record {
  numbered = numbered_more c.args.marks.now c.loop-stays.stays-index _ c.loop-stays.ordinals.items _ _ c.loop-stays.next _ c.loop-stays-test.true c.loop-stays.invariant.numbered c.push_reserved.ensures.items c.next_ordinal-next.ensures;
  few = one_at_most _ c.loop-stays.next _ c.loop-stays.stays-index c.loop-stays.invariant.few c.next_ordinal-next.ensures;
  put = omega (arith, c.loop-stays.invariant.put, c.push_reserved.ensures.len);
  room = omega (arith, c.loop-stays.invariant.room, c.push_reserved.ensures.capacity);
}

pub returns : goal.returns
returns c = numbered_all c.args.marks.now c.loop-stays.stays-index _ _ _ c.loop-stays-test.false c.loop-stays.invariant.numbered
