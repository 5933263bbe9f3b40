use Rattle.std.proofs.Common.{refl}
use Rattle.mvt_wire.specs.Fronts.{front_of}
use Rattle.mvt_wire.proofs.Begins.{from}
use Rattle.mvt_wire.proofs.Reaches.{IsFieldAt, reaches_more, further, none_beside, stops_at}
use Rattle.mvt_wire.proofs.decode.decode_all.Goals as goal

pub returns-in_default-clause-stops : goal.returns-in_default-clause-stops
returns-in_default-clause-stops g c =
    stops_at g.T.Decode.as_field g.T.Decode.is_whole g.T.Decode.makes c.args.content.now c.loop-place.place c.loop-place.items.items c.loop-place.invariant c.loop-place-test.true
    (λ field rest p m e. c.in_default.ensures.none (record { thing = field; holds = p; rest = rest; spelled = e }))

pub returns-in-Err-Broken-clause-stops : goal.returns-in-Err-Broken-clause-stops
returns-in-Err-Broken-clause-stops g c =
    let at : IsFieldAt (front_of c.in-Some.front) c.in-Some.length (from c.loop-place.place c.args.content.now) =
    record { within = c.in-Some.ensures.within; spelled = c.in-Some.ensures.spelled; whole = record { valid = c.in-Some.ensures.valid; stored = c.in-Some.ensures.stored } } in
    stops_at g.T.Decode.as_field g.T.Decode.is_whole g.T.Decode.makes c.args.content.now c.loop-place.place c.loop-place.items.items c.loop-place.invariant c.loop-place-test.true
    (none_beside g.T.Decode.makes (front_of c.in-Some.front) c.in-Some.length (from c.loop-place.place c.args.content.now) at (c.in-Err-Broken.ensures.broken (rw c.in-Err-Broken.field-0-is refl)))

pub loop-place-smaller : goal.loop-place-smaller
loop-place-smaller g c =
    let at : IsFieldAt (front_of c.in-Some.front) c.in-Some.length (from c.loop-place.place c.args.content.now) =
    record { within = c.in-Some.ensures.within; spelled = c.in-Some.ensures.spelled; whole = record { valid = c.in-Some.ensures.valid; stored = c.in-Some.ensures.stored } } in
    further c.args.content.now c.loop-place.place c.in-Some.length (front_of c.in-Some.front) c.loop-place-test.true at

pub loop-place-preserved : goal.loop-place-preserved
loop-place-preserved g c =
    let at : IsFieldAt (front_of c.in-Some.front) c.in-Some.length (from c.loop-place.place c.args.content.now) =
    record { within = c.in-Some.ensures.within; spelled = c.in-Some.ensures.spelled; whole = record { valid = c.in-Some.ensures.valid; stored = c.in-Some.ensures.stored } } in
    rw c.push_reserved.ensures.items (rw c.in_ok-reserve.ensures.items (reaches_more g.T.Decode.as_field g.T.Decode.is_whole c.args.content.now c.loop-place.place c.loop-place.items.items c.in-Ok.item (front_of c.in-Some.front) c.in-Some.length c.loop-place.invariant at c.in-Ok.ensures.made c.in-Ok.ensures.whole))
