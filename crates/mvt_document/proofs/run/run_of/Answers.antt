use Rattle.std.proofs.Common.{◌≡◌, ◌+◌, ◌-◌, length, length-drop, take, drop, arith}
use Rattle.std.proofs.lemmas.List.{take_all}
use Rattle.mvt_document.proofs.Running.{found_run}
use Rattle.mvt_document.proofs.run.run_of.Goals as goal

pub returns : goal.returns
returns g c =
    let items = c.args.items.now in
    let first = c.leading-first.result in
    let count = c.leading-count.result in
    let others = c.leading-others.result in
    let rest = take (length items - first) (drop first items) in
    let last = take (length rest - count) (drop count rest) in
    let rest_is : rest ≡ drop first items = take_all (length items - first) (drop first items) (omega (arith, length-drop first items)) in
    let last_is : last ≡ drop count rest = take_all (length rest - count) (drop count rest) (omega (arith, length-drop count rest)) in
    found_run (g.T.Item.of_kind c.args.kind) items rest last (record { first = first; count = count; until = first + count + others }) rest_is last_is c.leading-first.ensures.items c.leading-count.ensures.items others (omega arith) c.leading-others.ensures.items
