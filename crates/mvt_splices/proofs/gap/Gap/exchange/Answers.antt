use Rattle.std.proofs.Common.{◌≡◌, ◌+◌, ◌-◌, ◌++◌, drop, take, length, ap, sym, ◌∙◌, arith, rules}
use Rattle.mvt_document.specs.Splicing.{part}
use Rattle.mvt_splices.proofs.Gaps.{fits_moved, length_unrolled, one_fits, one_more, part_after, put_after, put_exchanged, room_unrolled, unrolled}
use Rattle.mvt_splices.proofs.gap.Gap.exchange.Goals as goal

pub returns-then-comes_first-clause-items : goal.returns-then-comes_first-clause-items
returns-then-comes_first-clause-items g c =
    let index = c.args.index in
    let put = c.args.put.now.items in
    let items = c.args.self.now.items in
    let ring = c.self.inside.ring in
    let before = c.self.inside.following in
    let following = c.len-2.result - index - c.args.taken + 1 in
    let one = c.comes_first.ensures.0 c.if-comes_first.true in
    let seen : unrolled before ring.items ≡ items = ap (λ held. held.items) c.self.view_is in
    ap (unrolled following) (c.put_first.ensures.ring ∙ ap (λ rest. put ++ rest) c.move_gap.ensures.items)
    ∙ ap (λ list. unrolled following (put ++ (drop index list ++ take index list))) seen
    ∙ put_after c.len-2.result index c.args.taken put items (c.len-2.ensures ∙ ring.ok.0 ∙ sym (length_unrolled before ring.items) ∙ ap length seen) c.requires.there one.1 (sym c.len-3.ensures ∙ one.2)

pub returns-then-comes_first-clause-put_room : goal.returns-then-comes_first-clause-put_room
returns-then-comes_first-clause-put_room g c = c.put_first.ensures.put_room

pub returns-else-comes_first-clause-put_room : goal.returns-else-comes_first-clause-put_room
returns-else-comes_first-clause-put_room g c = c.exchange_first.ensures.put_room

pub returns-else-comes_first-clause-room : goal.returns-else-comes_first-clause-room
returns-else-comes_first-clause-room g c =
    let ring = c.self.inside.ring in
    let new = c.exchange_first.new.ring in
    let following = c.len-2.result - c.args.index - c.args.taken in
    let given = length c.args.put.now.items in
    ap (λ n. length (unrolled following new.items) + (n - new.len)) (c.exchange_first.ensures.ring_room ∙ c.move_gap.ensures.room)
    ∙ room_unrolled c.self.inside.following following c.args.taken given ring.len new.len ring.cap c.args.self.now.room ring.items new.items c.args.self.now.items ring.ok.0 new.ok.0 (ap (λ held. held.items) c.self.view_is) (ap (λ held. held.room) c.self.view_is) c.self.invariant.1 (omega (arith, c.requires.there)) c.requires.room (c.exchange_first.ensures.length ∙ ap (λ n. n + given) c.move_gap.ensures.length)

pub returns-else-comes_first-clause-items : goal.returns-else-comes_first-clause-items
returns-else-comes_first-clause-items g c =
    let index = c.args.index in
    let taken = c.args.taken in
    let put = c.args.put.now.items in
    let items = c.args.self.now.items in
    let ring = c.self.inside.ring in
    let before = c.self.inside.following in
    let following = c.len-2.result - index - taken in
    let seen : unrolled before ring.items ≡ items = ap (λ held. held.items) c.self.view_is in
    ap (unrolled following) (c.exchange_first.ensures.ring ∙ ap (λ rest. drop taken rest ++ put) c.move_gap.ensures.items)
    ∙ ap (λ list. unrolled following (drop taken (drop index list ++ take index list) ++ put)) seen
    ∙ put_exchanged c.len-2.result index taken put items (c.len-2.ensures ∙ ring.ok.0 ∙ sym (length_unrolled before ring.items) ∙ ap length seen) c.requires.there

pub returns-else-comes_first-clause-put : goal.returns-else-comes_first-clause-put
returns-else-comes_first-clause-put g c =
    let index = c.args.index in
    let taken = c.args.taken in
    c.exchange_first.ensures.put
    ∙ ap (take taken) c.move_gap.ensures.items
    ∙ ap (λ list. take taken (drop index list ++ take index list)) (ap (λ held. held.items) c.self.view_is)
    ∙ part_after index taken c.args.self.now.items c.requires.there

pub returns-then-comes_first-clause-put : goal.returns-then-comes_first-clause-put
returns-then-comes_first-clause-put g c =
    let one = c.comes_first.ensures.0 c.if-comes_first.true in
    c.put_first.ensures.put ∙ ap (λ n. part c.args.index n c.args.self.now.items) (sym one.1)

pub returns-then-comes_first-clause-room : goal.returns-then-comes_first-clause-room
returns-then-comes_first-clause-room g c =
    let ring = c.self.inside.ring in
    let new = c.put_first.new.ring in
    let following = c.len-2.result - c.args.index - c.args.taken + 1 in
    let one = c.comes_first.ensures.0 c.if-comes_first.true in
    let given = sym c.len-3.ensures ∙ one.2 in
    let changed = one_more c.args.taken (length c.args.put.now.items) _ new.len ring.len c.put_first.ensures.length c.move_gap.ensures.length one.1 given in
    ap (λ n. length (unrolled following new.items) + (n - new.len)) (c.put_first.ensures.ring_room ∙ c.move_gap.ensures.room)
    ∙ room_unrolled c.self.inside.following following c.args.taken (length c.args.put.now.items) ring.len new.len ring.cap c.args.self.now.room ring.items new.items c.args.self.now.items ring.ok.0 new.ok.0 (ap (λ held. held.items) c.self.view_is) (ap (λ held. held.room) c.self.view_is) c.self.invariant.1 (omega (arith, c.requires.there)) c.requires.room changed

pub put_first-requires : goal.put_first-requires
put_first-requires g c =
    let ring = c.self.inside.ring in
    let one = c.comes_first.ensures.0 c.if-comes_first.true in
    let given = sym c.len-3.ensures ∙ one.2 in
    let fits = fits_moved c.self.inside.following c.args.index c.args.taken _ ring.len ring.cap c.args.self.now.room _ _ ring.items c.args.self.now.items ring.ok.0 (ap (λ held. held.items) c.self.view_is) (ap (λ held. held.room) c.self.view_is) c.self.invariant.1 c.requires.there c.requires.room c.move_gap.ensures.length c.move_gap.ensures.room in
    (search rules, (given, one_fits c.args.taken _ _ _ fits.1 one.1 given))

pub exchange_first-requires : goal.exchange_first-requires
exchange_first-requires g c =
    let ring = c.self.inside.ring in
    let fits = fits_moved c.self.inside.following c.args.index c.args.taken _ ring.len ring.cap c.args.self.now.room _ _ ring.items c.args.self.now.items ring.ok.0 (ap (λ held. held.items) c.self.view_is) (ap (λ held. held.room) c.self.view_is) c.self.invariant.1 c.requires.there c.requires.room c.move_gap.ensures.length c.move_gap.ensures.room in
    (search rules, (fits.0, (fits.1, c.requires.put_room)))
