use Rattle.std.proofs.Common.{arith}
use Rattle.mvt_splices.proofs.Runs.{ends_there, lead_back, next_there, one_more, read_again, refused, stops}
use Rattle.mvt_splices.proofs.run.exchange_all.Goals as goal

pub exchange_next-requires-clause-there : goal.exchange_next-requires-clause-there
exchange_next-requires-clause-there g c =
    let of = g.S.Splices in
    let l = c.loop-made in
    let on = of.on_list c.args.place.now in
    let given = c.args.steps.now in
    let d = c.index-steps-made-in-loop-made.result in
    let here = read_again on l.steps l.made c.index-steps-made.result d (omega arith) (c.is_on.ensures.0 c.if-is_on.true) in
    next_there on of.splice_of of.turned of.roomier l.made given l.steps c.args.gap.now l.gap l.gap d l.invariant.made (omega arith) c.requires.fit here

pub loop-made-preserved : goal.loop-made-preserved
loop-made-preserved g c =
    let of = g.S.Splices in
    let l = c.loop-made in
    let on = of.on_list c.args.place.now in
    let given = c.args.steps.now in
    let d = c.index-steps-made-in-loop-made.result in
    let here = read_again on l.steps l.made c.index-steps-made.result d (omega arith) (c.is_on.ensures.0 c.if-is_on.true) in
    let met = c.in-Ok.ensures in
    record {
      made = one_more on of.splice_of of.turned of.roomier l.made given l.steps c.args.gap.now l.gap c.exchange_next.new.gap d l.invariant.made (omega arith) g.met.S.Splices.roomy_splice c.exchange_next.new.step c.requires.fit here met.items met.room met.turned;
      size = c.in-Ok.ensures.size;
    }

pub exchange_back-requires : goal.exchange_back-requires
exchange_back-requires g c =
    let of = g.S.Splices in
    let l = c.loop-made in
    let on = of.on_list c.args.place.now in
    let given = c.args.steps.now in
    let d = c.index-steps-made-in-loop-made.result in
    let met = c.in-Err.ensures in
    (l.invariant.made.are_turned.0, c.args.gap.now.items, lead_back on of.splice_of of.turned of.roomier l.made given l.steps c.args.gap.now l.gap c.exchange_next.new.gap d l.invariant.made (omega arith) g.met.S.Splices.roomy_splice c.exchange_next.new.step met.items met.room c.requires.fit)

pub returns-in-Err-clause-steps : goal.returns-in-Err-clause-steps
returns-in-Err-clause-steps g c =
    let of = g.S.Splices in
    let l = c.loop-made in
    let on = of.on_list c.args.place.now in
    let given = c.args.steps.now in
    let d = c.index-steps-made-in-loop-made.result in
    let met = c.in-Err.ensures in
    let next = c.exchange_next.new.step in
    let law = g.met.S.Splices.roomy_splice in
    let back = c.exchange_back.ensures.back l.invariant.made.are_turned.0 c.args.gap.now.items (lead_back on of.splice_of of.turned of.roomier l.made given l.steps c.args.gap.now l.gap c.exchange_next.new.gap d l.invariant.made (omega arith) law next met.items met.room c.requires.fit) in
    record {
      first = tt;
      ends = tt;
      refused = stops on of.splice_of of.turned of.roomier l.made given l.steps c.args.gap.now l.gap c.exchange_next.new.gap d l.invariant.made (omega arith) law next met.items met.room g.met.S.Splices.as_roomy met.err c.exchange_back.new.steps c.exchange_back.new.gap back.0 back.1 c.exchange_back.ensures.room;
    }

pub returns-else-is_on-clause-steps : goal.returns-else-is_on-clause-steps
returns-else-is_on-clause-steps g c =
    let of = g.S.Splices in
    let l = c.loop-made in
    let on = of.on_list c.args.place.now in
    let given = c.args.steps.now in
    record {
      first = l.invariant.made;
      ends = ends_there on of.splice_of of.turned of.roomier l.made given l.steps c.args.gap.now l.gap l.gap c.index-steps-made.result l.invariant.made (λ inside. refused c.is_on.result _ c.is_on.ensures.1 c.if-is_on.false);
      refused = tt;
    }

pub returns-in-Err-clause-size : goal.returns-in-Err-clause-size
returns-in-Err-clause-size g c =
    let of = g.S.Splices in
    let l = c.loop-made in
    let on = of.on_list c.args.place.now in
    let given = c.args.steps.now in
    let d = c.index-steps-made-in-loop-made.result in
    let met = c.in-Err.ensures in
    let back = c.exchange_back.ensures.back l.invariant.made.are_turned.0 c.args.gap.now.items (lead_back on of.splice_of of.turned of.roomier l.made given l.steps c.args.gap.now l.gap c.exchange_next.new.gap d l.invariant.made (omega arith) g.met.S.Splices.roomy_splice c.exchange_next.new.step met.items met.room c.requires.fit) in
    rw back.1 c.requires.size
