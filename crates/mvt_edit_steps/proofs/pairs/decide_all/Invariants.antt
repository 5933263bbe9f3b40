use Rattle.std.proofs.Common.{◌≡◌, ℕ, ◌≤◌, Bool, Option, is_some, length}
use Rattle.std.specs.Fn.{FnReturns}
use Rattle.mvt_messages.specs.Numbers.{numbers}
use Rattle.mvt_layers.specs.Seen.{feature_seen, pair_seen}
use Rattle.mvt_messages.specs.Tags.{plain_pairs, tag_pairs}
use Rattle.mvt_edit_steps.specs.Fates.{Means}
use Rattle.mvt_edit_steps.proofs.Deciding.{SoFarDecided}
use Rattle.mvt_edit_steps.proofs.pairs.decide_all.Given as goal

abbrev pub invariant-loop-tags : goal.invariant-loop-tags
invariant-loop-tags g l = record {
  decided : (said : ℕ × ℕ → Option ℕ × Option ℕ × Bool) → Means (λ pair made. FnReturns g.D.Fn l.decide (pair, tt) made) (λ made. made) (λ pair. said (pair_seen pair)) →
      SoFarDecided said (plain_pairs l.tags-iterator) (plain_pairs (tag_pairs l.fn.sizes.keys l.fn.sizes.values (numbers 2 (feature_seen l.feature).fields))) l.decisions.items l.count;
  read : is_some (plain_pairs l.tags-iterator) ≡ is_some (plain_pairs (tag_pairs l.fn.sizes.keys l.fn.sizes.values (numbers 2 (feature_seen l.feature).fields)));
  few : l.count ≤ length l.decisions.items;
}
