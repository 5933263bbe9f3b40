use Rattle.std.proofs.Common.{◌≡◌, ◌+◌, ◌-◌, ◌++◌, length, take, drop, length-drop, ap, ◌∙◌, arith}
use Rattle.std.proofs.lemmas.List.{length-take-le}
use borrow.Rule.Slice.PartMut.{put_mid}
use Rattle.mvt_document.proofs.Exchanged.{turned_left, turned_right}
use Rattle.mvt_document.proofs.exchange.move_item.Goals as goal

pub returns-then-from-to : goal.returns-then-from-to
returns-then-from-to g c =
    ap (put_mid c.args.from (c.args.to + 1 - c.args.from) c.args.items.now) c.rotate_left.ensures.after
    ∙ turned_left c.args.from c.args.to c.args.items.now c.if-from-to.true c.requires.within

pub returns-else-from-to : goal.returns-else-from-to
returns-else-from-to g c =
    let items = c.args.items.now in
    let range = take (c.args.from + 1 - c.args.to) (drop c.args.to items) in
    let long : length range ≡ c.args.from + 1 - c.args.to = length-take-le (c.args.from + 1 - c.args.to) (drop c.args.to items) (omega (arith, length-drop c.args.to items)) in
    let n : length range - 1 ≡ c.args.from - c.args.to = omega arith in
    ap (put_mid c.args.to (c.args.from + 1 - c.args.to) items) c.rotate_right.ensures.after
    ∙ ap (λ k. put_mid c.args.to (c.args.from + 1 - c.args.to) items (drop k range ++ take k range)) n
    ∙ turned_right c.args.from c.args.to items c.if-from-to.false c.requires.there
