use Rattle.std.proofs.Common.{◌≡◌, [], ◌∷◌, ◌++◌, Ok, Err, Some, is_some, map, option_map, refl, sym, ap, ◌∙◌}
use Rattle.mvt_document.proofs.Options.{none_is}
use Rattle.std.proofs.lemmas.List.{append-nil, map-append}
use Rattle.mvt_edit_steps.proofs.Deciding.{more_some}
use Rattle.mvt_messages.specs.Numbers.{and_more}
use Rattle.mvt_messages.specs.Seen.{placed_of}
use Rattle.mvt_layers.specs.Seen.{pair_seen}
use Rattle.mvt_messages.specs.Tags.{plain_pairs}
use Rattle.mvt_layers.proofs.Pairing.{plain_more}
use Rattle.mvt_edit_pools.specs.Marks.{marked, names_key, names_value}
use Rattle.mvt_edit_pools.proofs.Marking.{keys_pair, marked_none, pairs_pair, values_pair}
use Rattle.mvt_edit_pools.proofs.used.mark_pairs.Goals as goal

pub loop-tags-init : goal.loop-tags-init
loop-tags-init c =
    let read = c.into_iter-tags-iterator.ensures.into_iter_gives ∙ c.tag_pairs-tags-items.ensures in
    record {
      keys = ap (λ found. option_map (λ pairs. marked (names_key pairs) 0 c.args.marks.now.keys.items) (plain_pairs found)) read;
      values = ap (λ found. option_map (λ pairs. marked (names_value pairs) 0 c.args.marks.now.values.items) (plain_pairs found)) read;
      pairs = ap (λ found. option_map (λ pairs. map pair_seen c.args.marks.now.pairs.items ++ pairs) (plain_pairs found)) read;
      counts = refl;
      read = ap (λ found. is_some (plain_pairs found)) read;
    }

pub loop-tags-preserved : goal.loop-tags-preserved
loop-tags-preserved c =
    let found = c.in_ok-pair.field-0 in
    let pair = pair_seen found.pair in
    let rest = plain_pairs c.next.new.self in
    let front = map pair_seen c.loop-tags.marks.pairs.items in
    let read : c.loop-tags.tags-iterator ≡ Ok (pair, (placed_of found.key, placed_of found.value)) ∷ c.next.new.self = rw c.in_ok-pair.was at c.in-Some.ensures.steps in
    let step : plain_pairs c.loop-tags.tags-iterator ≡ and_more pair rest = ap plain_pairs read ∙ plain_more (pair, (placed_of found.key, placed_of found.value)) c.next.new.self in
    record {
      keys = keys_pair pair c.loop-tags.marks.keys.items _ rest c.mark_pair.ensures.keys ∙ ap (option_map (λ pairs. marked (names_key pairs) 0 c.loop-tags.marks.keys.items)) (sym step) ∙ c.loop-tags.invariant.keys;
      values = values_pair pair c.loop-tags.marks.values.items _ rest c.mark_pair.ensures.values ∙ ap (option_map (λ pairs. marked (names_value pairs) 0 c.loop-tags.marks.values.items)) (sym step) ∙ c.loop-tags.invariant.values;
      pairs = pairs_pair pair front _ rest (ap (map pair_seen) c.in_ok-mark_pair.ensures.pairs ∙ map-append pair_seen c.loop-tags.marks.pairs.items (found.pair ∷ [])) ∙ ap (option_map (λ pairs. front ++ pairs)) (sym step) ∙ c.loop-tags.invariant.pairs;
      counts = c.mark_pair.ensures.counts ∙ c.loop-tags.invariant.counts;
      read = sym (ap (λ found. is_some found) step ∙ more_some pair rest) ∙ c.loop-tags.invariant.read;
    }

pub returns-clause-keys : goal.returns-clause-keys
returns-clause-keys c =
    let marks = c.loop-tags.marks.keys.items in
    sym c.loop-tags.invariant.keys ∙ ap (λ left. option_map (λ pairs. marked (names_key pairs) 0 marks) (plain_pairs left)) c.in-None.ensures.steps.0 ∙ ap Some (marked_none 0 marks)

pub returns-clause-values : goal.returns-clause-values
returns-clause-values c =
    let marks = c.loop-tags.marks.values.items in
    sym c.loop-tags.invariant.values ∙ ap (λ left. option_map (λ pairs. marked (names_value pairs) 0 marks) (plain_pairs left)) c.in-None.ensures.steps.0 ∙ ap Some (marked_none 0 marks)

pub returns-clause-pairs : goal.returns-clause-pairs
returns-clause-pairs c =
    let front = map pair_seen c.loop-tags.marks.pairs.items in
    sym c.loop-tags.invariant.pairs ∙ ap (λ left. option_map (λ pairs. front ++ pairs) (plain_pairs left)) c.in-None.ensures.steps.0 ∙ ap Some (append-nil front)

pub returns-clause-counts : goal.returns-clause-counts
returns-clause-counts c = c.loop-tags.invariant.counts

pub returns-in_err-pair-clause-bad_tags : goal.returns-in_err-pair-clause-bad_tags
returns-in_err-pair-clause-bad_tags c = λ bad.
    let read : c.loop-tags.tags-iterator ≡ Err tt ∷ c.next.new.self = rw c.in_err-pair.was at c.in-Some.ensures.steps in
    none_is _ (sym c.loop-tags.invariant.read ∙ ap (λ left. is_some (plain_pairs left)) read)
