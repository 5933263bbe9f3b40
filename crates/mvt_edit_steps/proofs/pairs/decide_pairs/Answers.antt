use Rattle.std.proofs.Common.{subst}
use Rattle.mvt_document.specs.Plain as plain
use Rattle.mvt_messages.specs.Numbers.{numbers}
use Rattle.mvt_messages.specs.Tags.{plain_pairs, tag_pairs}
use Rattle.mvt_edit_steps.specs.Decided.{IsDecided}
use Rattle.mvt_edit_steps.proofs.pairs.decide_pairs.Goals as goal

pub returns-in-Ok-clause-decided : goal.returns-in-Ok-clause-decided
returns-in-Ok-clause-decided g c = λ said means.
    subst (λ (feature : plain.Feature). IsDecided said (plain_pairs (tag_pairs c.args.sizes.keys c.args.sizes.values (numbers 2 feature.fields))) c.decide_all.new.decisions.items c.in-Ok.count) c.view.ensures (c.in-Ok.ensures.decided said means)
