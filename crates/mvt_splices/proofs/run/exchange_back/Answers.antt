use Rattle.std.proofs.Common.{◌-◌, refl, arith}
use Rattle.std.proofs.lemmas.List.{length-set}
use Rattle.mvt_splices.proofs.Backwards.{all_left, back_put_room, back_room, back_there, one_less}
use Rattle.mvt_splices.proofs.run.exchange_back.Goals as goal

pub loop-at-init : goal.loop-at-init
loop-at-init g c =
    let of = g.S.Splices in
    let steps = c.args.steps.now in
    record { there = omega arith; back = λ first items back. all_left of.splice_of of.turned steps c.args.gap.now first items _ refl back; room = refl }

pub exchange-requires-clause-there : goal.exchange-requires-clause-there
exchange-requires-clause-there g c =
    let of = g.S.Splices in
    let l = c.loop-at in
    let start = c.requires in
    let met = l.invariant.back start.0 start.1 start.2 in
    back_there of.splice_of of.turned g.met.S.Splices.turned_twice g.met.S.Splices.turned_splice l.at (l.at - 1) l.steps l.gap start.0 start.1 c.index-steps-at.result (omega arith) (omega arith) met.0

pub exchange-requires-clause-room : goal.exchange-requires-clause-room
exchange-requires-clause-room g c =
    let of = g.S.Splices in
    let l = c.loop-at in
    let start = c.requires in
    let met = l.invariant.back start.0 start.1 start.2 in
    back_room of.splice_of of.turned g.met.S.Splices.turned_twice g.met.S.Splices.turned_splice l.at (l.at - 1) l.steps l.gap start.0 start.1 c.index-steps-at.result (omega arith) (omega arith) met.0

pub exchange-requires-clause-put_room : goal.exchange-requires-clause-put_room
exchange-requires-clause-put_room g c =
    let of = g.S.Splices in
    let l = c.loop-at in
    let start = c.requires in
    let met = l.invariant.back start.0 start.1 start.2 in
    back_put_room of.splice_of of.turned g.met.S.Splices.turned_twice g.met.S.Splices.turned_splice l.at (l.at - 1) l.steps l.gap start.0 start.1 c.index-steps-at.result (omega arith) (omega arith) met.0

pub loop-at-preserved : goal.loop-at-preserved
loop-at-preserved g c =
    let of = g.S.Splices in
    let l = c.loop-at in
    let next = c.exchange.new.self in
    let made = c.exchange.ensures in
    record {
      there = omega (arith, length-set l.steps (l.at - 1) next);
      back = λ first items back.
          let met = l.invariant.back first items back in
          one_less of.splice_of of.turned g.met.S.Splices.turned_twice g.met.S.Splices.turned_splice l.at (l.at - 1) l.steps l.gap first items c.index-steps-at.result (omega arith) (omega arith) met.0 c.exchange.new.gap next made.items made.room made.turned met.1;
      room = omega (arith, made.room, l.invariant.room);
    }
