use Rattle.std.proofs.Common.{ℕ, Bool, false, rules, slice_get, ◌∙◌}
use Rattle.std.proofs.lemmas.Result.{IfOk-weaker}
use Rattle.std.specs.Option.{unwrap_or}
use Rattle.mvt_messages.specs.Numbers.{numbers}
use Rattle.mvt_layers.specs.Seen.{found_feature_seen}
use Rattle.mvt_messages.specs.Tags.{plain_pairs, tag_pairs}
use Rattle.mvt_edit_steps.specs.Decided.{said_of}
use Rattle.mvt_edit_steps.proofs.NamedKeys.{said_pairs}
use Rattle.mvt_edit_steps.proofs.decide.decide_or_refuse.Goals as goal

pub returns-clause-decided : goal.returns-clause-decided
returns-clause-decided c =
    let selects : ℕ → Bool = λ key. unwrap_or (slice_get c.args.named.now key) false in
    let found = plain_pairs (tag_pairs c.args.sizes.keys c.args.sizes.values (numbers 2 (found_feature_seen c.args.found).1.1.fields)) in
    IfOk-weaker c.decide_pairs.result _ _ (λ n made. said_pairs selects c.args.to found ∙ made.decided) (c.decide_pairs.ensures.decided (said_of selects c.args.to) (λ pair made says. search rules))

pub returns-clause-counted : goal.returns-clause-counted
returns-clause-counted c =
    let selects : ℕ → Bool = λ key. unwrap_or (slice_get c.args.named.now key) false in
    IfOk-weaker c.decide_pairs.result _ _ (λ n made. made.counted) (c.decide_pairs.ensures.decided (said_of selects c.args.to) (λ pair made says. search rules))
