use Rattle.std.proofs.Common.{◌≡◌, ◌-◌, [], ◌∷◌, ◌++◌, Some, length, map, sym, ap, ◌∙◌, arith}
use Rattle.std.specs.Option.{unwrap_or}
use Rattle.std.proofs.lemmas.List.{length-map}
use Rattle.mvt_layers.specs.Seen.{feature_seen, pair_seen}
use Rattle.mvt_messages.specs.Numbers.{numbers}
use Rattle.mvt_messages.specs.Tags.{plain_pairs, tag_pairs}
use Rattle.mvt_edit_pools.proofs.Marking.{count_of_found, counts_with}
use Rattle.mvt_edit_pools.proofs.used.mark_and_count.Goals as goal

pub overflow_sub-len : goal.overflow_sub-len
overflow_sub-len c =
    let found = plain_pairs (tag_pairs c.args.sizes.keys c.args.sizes.values (numbers 2 (feature_seen c.args.feature).fields)) in
    let more = count_of_found (map pair_seen c.args.marks.now.pairs.items) _ found c.in_ok-mark_pairs.ensures.pairs in
    omega (arith, more, length-map c.args.marks.now.pairs.items pair_seen, length-map c.mark_pairs.new.marks.pairs.items pair_seen, c.len.ensures, c.len-before.ensures)

pub returns-clause-counts : goal.returns-clause-counts
returns-clause-counts c =
    let found = plain_pairs (tag_pairs c.args.sizes.keys c.args.sizes.values (numbers 2 (feature_seen c.args.feature).fields)) in
    let before = map pair_seen c.args.marks.now.pairs.items in
    let more = count_of_found before _ found c.in_ok-mark_pairs.ensures.pairs in
    let many : c.len.result - c.len-before.result ≡ length (unwrap_or found []) = omega (arith, more, length-map c.args.marks.now.pairs.items pair_seen, length-map c.mark_pairs.new.marks.pairs.items pair_seen, c.len.ensures, c.len-before.ensures) in
    counts_with c.args.marks.now.counts.items before _ found (c.len.result - c.len-before.result) c.in_ok-mark_pairs.ensures.pairs many
    ∙ ap Some (ap (λ front. front ++ (c.len.result - c.len-before.result) ∷ []) (sym c.in_ok-mark_pairs.ensures.counts) ∙ sym c.in_ok-push.ensures.items)
