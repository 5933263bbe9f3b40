use Rattle.std.proofs.Common.{[], ◌∷◌, ◌++◌, length, append_assoc, map, inl, inr, sym, ap, ◌∙◌}
use Rattle.std.proofs.lemmas.List.{append-nil}
use Rattle.std.proofs.lemmas.Result.{err_from_is_err_and}
use Rattle.mvt_document.specs.Stands.{layer_of}
use Rattle.mvt_layers.specs.Seen.{found_feature_seen, pair_seen}
use Rattle.mvt_edit_steps.proofs.Deciding.{no_pairs}
use Rattle.mvt_edit_steps.proofs.Unreadable.{bad_among, feature_refused, readable_more, unreadable_in}
use Rattle.mvt_edit_pools.specs.Marks.{marked, names_key, names_value, pair_counts, pairs_at}
use Rattle.mvt_edit_pools.proofs.Marking.{counts_own, is_readable, keys_more, marked_none, pairs_found, pairs_left, pairs_own, values_more}
use Rattle.mvt_edit_pools.proofs.used.mark_used.Goals as goal

pub returns-in_err-mark_or_refuse-clause-refused : goal.returns-in_err-mark_or_refuse-clause-refused
returns-in_err-mark_or_refuse-clause-refused c =
    let layer = layer_of c.args.found.layer.now in
    let found = found_feature_seen c.in-Some.feature in
    let passed = err_from_is_err_and c.from_residual.result c.from_residual.ensures.1 in
    rw (passed.1, passed.2) (
    elim c.in_err-mark_or_refuse.ensures.refused [
      | inl memory ↦ inl memory
      | inr bad ↦ inr (feature_refused c.args.found.ordinal c.args.found.position layer found c.next.new.self _
          (ap (bad_among layer c.args.found.ordinal) (sym c.in-Some.ensures.steps) ∙ c.loop-feature.invariant.readable)
          (no_pairs layer found.1.1 c.args.sizes.keys c.args.sizes.values c.requires.keys c.requires.values bad.1)
          bad.0)
    ])

pub loop-feature-preserved : goal.loop-feature-preserved
loop-feature-preserved c =
    let layer = layer_of c.args.found.layer.now in
    let found = found_feature_seen c.in-Some.feature in
    let rest = c.next.new.self in
    let made = c.in_ok-mark_or_refuse.ensures in
    let keys_before = c.loop-feature.marks.keys.items in
    let values_before = c.loop-feature.marks.values.items in
    let pairs_before = map pair_seen c.loop-feature.marks.pairs.items in
    let counts_before = c.loop-feature.marks.counts.items in
    let own = pairs_at layer.items found in
    let is = pairs_own layer found c.args.sizes.keys c.args.sizes.values pairs_before _ c.requires.keys c.requires.values made.pairs in
    record {
      pairs = ap (λ list. list ++ pairs_left layer.items rest) is
          ∙ append_assoc pairs_before own (pairs_left layer.items rest)
          ∙ ap (λ left. pairs_before ++ pairs_left layer.items left) (sym c.in-Some.ensures.steps)
          ∙ c.loop-feature.invariant.pairs;
      counts = ap (λ list. list ++ pair_counts layer.items rest) (counts_own layer found c.args.sizes.keys c.args.sizes.values counts_before _ c.requires.keys c.requires.values made.counts)
          ∙ append_assoc counts_before (length own ∷ []) (pair_counts layer.items rest)
          ∙ ap (λ left. counts_before ++ pair_counts layer.items left) (sym c.in-Some.ensures.steps)
          ∙ c.loop-feature.invariant.counts;
      keys = keys_more layer found rest c.args.sizes.keys c.args.sizes.values keys_before _ c.requires.keys c.requires.values made.keys
          ∙ ap (λ left. marked (names_key (pairs_left layer.items left)) 0 keys_before) (sym c.in-Some.ensures.steps)
          ∙ c.loop-feature.invariant.keys;
      values = values_more layer found rest c.args.sizes.keys c.args.sizes.values values_before _ c.requires.keys c.requires.values made.values
          ∙ ap (λ left. marked (names_value (pairs_left layer.items left)) 0 values_before) (sym c.in-Some.ensures.steps)
          ∙ c.loop-feature.invariant.values;
      readable = sym (readable_more layer c.args.found.ordinal found rest (is_readable layer found.1.1 c.args.sizes.keys c.args.sizes.values keys_before _ c.requires.keys c.requires.values made.keys))
          ∙ ap (bad_among layer c.args.found.ordinal) (sym c.in-Some.ensures.steps) ∙ c.loop-feature.invariant.readable;
    }

pub returns-clause-keys : goal.returns-clause-keys
returns-clause-keys c =
    let layer = layer_of c.args.found.layer.now in
    let marks = c.loop-feature.marks.keys.items in
    sym (marked_none 0 marks)
    ∙ ap (λ left. marked (names_key (pairs_left layer.items left)) 0 marks) (sym c.in-None.ensures.steps.0)
    ∙ c.loop-feature.invariant.keys
    ∙ ap (λ pairs. marked (names_key pairs) 0 c.args.marks.now.keys.items) (pairs_found layer.items)

pub returns-clause-values : goal.returns-clause-values
returns-clause-values c =
    let layer = layer_of c.args.found.layer.now in
    let marks = c.loop-feature.marks.values.items in
    sym (marked_none 0 marks)
    ∙ ap (λ left. marked (names_value (pairs_left layer.items left)) 0 marks) (sym c.in-None.ensures.steps.0)
    ∙ c.loop-feature.invariant.values
    ∙ ap (λ pairs. marked (names_value pairs) 0 c.args.marks.now.values.items) (pairs_found layer.items)

pub returns-clause-pairs : goal.returns-clause-pairs
returns-clause-pairs c =
    let layer = layer_of c.args.found.layer.now in
    let front = map pair_seen c.loop-feature.marks.pairs.items in
    sym (append-nil front)
    ∙ ap (λ left. front ++ pairs_left layer.items left) (sym c.in-None.ensures.steps.0)
    ∙ c.loop-feature.invariant.pairs
    ∙ ap (λ pairs. map pair_seen c.args.marks.now.pairs.items ++ pairs) (pairs_found layer.items)

pub returns-clause-counts : goal.returns-clause-counts
returns-clause-counts c =
    let layer = layer_of c.args.found.layer.now in
    let front = c.loop-feature.marks.counts.items in
    sym (append-nil front)
    ∙ ap (λ left. front ++ pair_counts layer.items left) (sym c.in-None.ensures.steps.0)
    ∙ c.loop-feature.invariant.counts

pub returns-clause-readable : goal.returns-clause-readable
returns-clause-readable c =
    let layer = layer_of c.args.found.layer.now in
    unreadable_in c.args.found.ordinal c.args.found.position layer ∙ sym c.loop-feature.invariant.readable ∙ ap (bad_among layer c.args.found.ordinal) c.in-None.ensures.steps.0
