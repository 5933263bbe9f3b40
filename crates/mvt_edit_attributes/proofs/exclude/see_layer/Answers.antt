use Rattle.std.proofs.Common.{◌≡◌, true, false, is_some, refl, sym, ap, ◌∙◌}
use Rattle.mvt_document.specs.Stands.{layer_of}
use Rattle.mvt_messages.specs.Numbers.{numbers}
use Rattle.mvt_layers.specs.Seen.{found_feature_seen}
use Rattle.mvt_messages.specs.Attributes.{pairs_of}
use Rattle.mvt_messages.specs.Tags.{plain_pairs, tag_pairs}
use Rattle.mvt_edit_steps.proofs.Unreadable.{bad_among, feature_refused, readable_more, unreadable_in}
use Rattle.mvt_edit_attributes.proofs.Deciding.{pairs_by_sizes}
use Rattle.mvt_edit_attributes.proofs.exclude.see_layer.Goals as goal

pub returns-then-not-makes_pairs-clause-refused : goal.returns-then-not-makes_pairs-clause-refused
returns-then-not-makes_pairs-clause-refused c =
    let layer = layer_of c.args.found.layer.now in
    let found = found_feature_seen c.in-Some.feature in
    let by = pairs_by_sizes layer found.1.1 c.args.sizes.keys c.args.sizes.values c.requires.keys c.requires.values in
    let seen = c.makes_pairs.ensures ∙ ap (λ feature. is_some (plain_pairs (tag_pairs c.args.sizes.keys c.args.sizes.values (numbers 2 feature.fields)))) c.view-in-loop-feature.ensures in
    let none : is_some (pairs_of layer found.1.1) ≡ false = sym by ∙ sym seen ∙ c.if-not-makes_pairs.true in
    feature_refused c.args.found.ordinal c.args.found.position layer found c.next.new.self _
    (ap (bad_among layer c.args.found.ordinal) (sym c.in-Some.ensures.steps) ∙ c.loop-feature.invariant)
    none
    refl

pub loop-feature-preserved : goal.loop-feature-preserved
loop-feature-preserved c =
    let layer = layer_of c.args.found.layer.now in
    let found = found_feature_seen c.in-Some.feature in
    let by = pairs_by_sizes layer found.1.1 c.args.sizes.keys c.args.sizes.values c.requires.keys c.requires.values in
    let seen = c.makes_pairs.ensures ∙ ap (λ feature. is_some (plain_pairs (tag_pairs c.args.sizes.keys c.args.sizes.values (numbers 2 feature.fields)))) c.view-in-loop-feature.ensures in
    let some : is_some (pairs_of layer found.1.1) ≡ true = sym by ∙ sym seen ∙ c.if-not-makes_pairs.false in
    sym (readable_more layer c.args.found.ordinal found c.next.new.self some) ∙ ap (bad_among layer c.args.found.ordinal) (sym c.in-Some.ensures.steps) ∙ c.loop-feature.invariant

pub returns-clause-readable : goal.returns-clause-readable
returns-clause-readable c =
    let layer = layer_of c.args.found.layer.now in
    unreadable_in c.args.found.ordinal c.args.found.position layer ∙ sym c.loop-feature.invariant ∙ ap (bad_among layer c.args.found.ordinal) c.in-None.ensures.steps.0
