use Rattle.std.proofs.Common.{◌≤◌, ◌+◌, [], ◌∷◌, ◌++◌, drop, length, map, append_assoc, append-nil, sym, ap, ◌∙◌, arith}
use Rattle.std.proofs.lemmas.List.{drop_all}
use Rattle.mvt_document.specs.Stands.{layer_item_of}
use Rattle.mvt_edit_pools.specs.Marks.{gone_by}
use Rattle.mvt_edit_pools.proofs.entries.gone.Goals as goal

pub loop-index-preserved : goal.loop-index-preserved
loop-index-preserved c =
    let items = c.as_slice-items.result.now in
    let index = c.loop-index.index in
    let front = c.loop-index.gone.items in
    let rest = map layer_item_of (drop (index + 1) items) in
    let goes = c.item_goes-goes.result in
    record {
      so_far = ap (λ list. list ++ gone_by goes.1.now goes.2.now rest) c.push_reserved.ensures.items
          ∙ append_assoc front (goes.0 ∷ []) (gone_by goes.1.now goes.2.now rest)
          ∙ ap (λ list. front ++ list) (sym c.item_goes-goes.ensures)
          ∙ c.loop-index.invariant.so_far;
      put = omega (arith, c.loop-index.invariant.put, c.push_reserved.ensures.len);
      room = omega (arith, c.loop-index.invariant.room, c.push_reserved.ensures.capacity);
    }

pub returns : goal.returns
returns c =
    let items = c.as_slice-items.result.now in
    let all : length items ≤ c.loop-index.index = let done = c.loop-index-test.false in omega arith in
    let front = c.loop-index.gone.items in
    sym (append-nil front)
    ∙ ap (λ list. front ++ gone_by c.loop-index.keys_left.now c.loop-index.values_left.now (map layer_item_of list)) (sym (drop_all c.loop-index.index items all))
    ∙ c.loop-index.invariant.so_far
    ∙ ap (λ listed. gone_by c.args.keys.now c.args.values.now (map layer_item_of listed)) c.as_slice-items.ensures
