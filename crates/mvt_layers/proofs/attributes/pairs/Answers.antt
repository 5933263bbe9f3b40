use Rattle.std.proofs.Common.{◌≡◌, ℕ, List, [], ◌∷◌, ◌++◌, Result, Ok, Err, map, option_map, slice_get, refl, subst, sym, ap, ◌∙◌}
use Rattle.std.specs.Prelude.{IsOk, IsSomeAnd}
use Rattle.std.proofs.lemmas.List.{map_push}
use Rattle.mvt_messages.specs.Numbers.{and_more}
use Rattle.mvt_messages.specs.Seen.{placed_of}
use Rattle.mvt_layers.specs.Seen.{feature_seen, layer_seen, pair_seen}
use Rattle.mvt_messages.specs.Tags.{plain_pairs}
use Rattle.mvt_layers.proofs.Pairing.{done_more, done_none, plain_more, tags_are_pairs}
use Rattle.mvt_layers.proofs.attributes.pairs.Goals as goal

pub loop-tags-init : goal.loop-tags-init
loop-tags-init c =
    let sizes = c.pool_sizes.ensures in
    let items = c.into_iter-tags-iterator.ensures.into_iter_gives ∙ rw (sizes.keys, sizes.values) at c.tag_pairs-tags-items.ensures in
    record {
      made = ap (λ (list : List _). option_map (λ rest. map pair_seen list ++ rest) (plain_pairs c.into_iter-tags-iterator.result)) c.new-pairs.ensures.items
          ∙ done_none (plain_pairs c.into_iter-tags-iterator.result)
          ∙ ap plain_pairs items
          ∙ tags_are_pairs (layer_seen c.args.layer.now) (feature_seen c.args.feature.now);
      first = subst (λ tags. IsSomeAnd (slice_get tags 0) IsOk) items;
    }

pub loop-tags-preserved : goal.loop-tags-preserved
loop-tags-preserved c =
    let found = c.in_ok-tags.field-0 in
    let rest = plain_pairs c.next.new.self in
    let done : List (ℕ × ℕ) = map pair_seen c.loop-tags.pairs.items in
    let front : c.loop-tags.tags-iterator ≡ Ok (pair_seen found.pair, (placed_of found.key, placed_of found.value)) ∷ c.next.new.self = rw c.in_ok-tags.was at c.in-Some.ensures.steps in
    let step : plain_pairs c.loop-tags.tags-iterator ≡ and_more (pair_seen found.pair) rest =
    ap plain_pairs front ∙ plain_more (pair_seen found.pair, (placed_of found.key, placed_of found.value)) c.next.new.self in
    let pushed : map pair_seen c.push.new.self.items ≡ done ++ pair_seen found.pair ∷ [] = ap (map pair_seen) c.in_ok-push.ensures.items ∙ map_push pair_seen c.loop-tags.pairs.items found.pair in
    record {
      made = ap (λ (front : List (ℕ × ℕ)). option_map (λ rest. front ++ rest) rest) pushed
          ∙ sym (done_more done (pair_seen found.pair) rest)
          ∙ ap (option_map (λ rest. done ++ rest)) (sym step)
          ∙ c.loop-tags.invariant.made;
      first = λ is. c.loop-tags.invariant.first (subst (λ tags. IsSomeAnd (slice_get tags 0) IsOk) (sym front) refl);
    }

no_error : {A E : Type 0} (x : A) (e : E) → ◌≡◌ {A = Result A E} (Ok x) (Err e) → ⊥
no_error x e is = cc

pub returns-clause-bad_tags : goal.returns-clause-bad_tags
returns-clause-bad_tags c = λ bad. absurd (no_error _ _ bad)

pub returns-clause-no_memory : goal.returns-clause-no_memory
returns-clause-no_memory c = λ bad. absurd (no_error _ _ bad)
