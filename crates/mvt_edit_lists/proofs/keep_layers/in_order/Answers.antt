use Rattle.std.proofs.Common.{◌≡◌, ℕ, ◌+◌, ◌<◌, List, [], ◌∷◌, ◌++◌, length, get_or, map, take, take_all, sym, ap, ◌∙◌, subst}
use Rattle.std.specs.List.Sorted.{IsPermutation}
use Rattle.std.proofs.lemmas.List.{map_more, map_push}
use Rattle.std.proofs.lemmas.List.Sorted.{IsPermutation-map}
use Rattle.mvt_edit_lists.proofs.keep_layers.in_order.Goals as goal

-- one more item on both sides
alike_more : {X Y Z : Type 0} (f : X → Z) (g : Y → Z) (xs after : List X) (x : X) (ys : List Y) (i : ℕ) (y : Y) → i < length ys → y ≡ get_or ys i y
    → map f xs ≡ map g (take i ys) → after ≡ xs ++ x ∷ [] → f x ≡ g y → map f after ≡ map g (take (i + 1) ys)
alike_more f g xs after x ys i y inside is so_far put same =
    ap (map f) put ∙ map_push f xs x
    ∙ ap (λ list. list ++ f x ∷ []) so_far
    ∙ ap (λ last. map g (take i ys) ++ last ∷ []) (same ∙ ap g is)
    ∙ sym (map_more g ys i y inside)

pub loop-name-preserved : goal.loop-name-preserved
loop-name-preserved c =
    alike_more (λ name. name.now) (λ name. name.items) c.loop-name.ordered.items _ _ c.args.names.now c.loop-name.name-index c.name-item.result c.loop-name-test.true c.name-item.is
    c.loop-name.invariant c.in_ok-push.ensures.items c.as_slice.ensures

pub returns-clause-sorted : goal.returns-clause-sorted
returns-clause-sorted c = c.sort_unstable.ensures.sorted

pub returns-clause-same : goal.returns-clause-same
returns-clause-same c =
    let names = c.args.names.now in
    let all : take c.loop-name.name-index names ≡ names = take_all c.loop-name.name-index names (c.loop-name-test.false) in
    let before = c.loop-name.invariant ∙ ap (map (λ name. name.items)) all in
    subst (λ texts. IsPermutation texts (map (λ name. name.now) c.sort_unstable.new.self.items)) before
    (IsPermutation-map (λ name. name.now) c.loop-name.ordered.items c.sort_unstable.new.self.items c.sort_unstable.ensures.permutation)
