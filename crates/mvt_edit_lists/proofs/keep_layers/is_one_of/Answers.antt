use Rattle.std.proofs.Common.{◌≡◌, List, [], ◌∷◌, false, map, refl, ◌∙◌}
use Rattle.std.specs.List.{list_any}
use Rattle.mvt_edit_lists.proofs.Searched.{search_finds}
use Rattle.mvt_edit_lists.proofs.keep_layers.is_one_of.Goals as goal

none_of : {A : Type 0} (xs : List A) → false ≡ list_any (λ x. false) xs
none_of [] = refl
none_of (x ∷ xs) = none_of xs

pub returns-in-Some : goal.returns-in-Some
returns-in-Some c =
    rw c.in-Some.is (c.is_ok.ensures.value ∙ search_finds (λ name. name.now) c.in-Some.text.now c.args.names.now c.binary_search.result c.requires c.binary_search.ensures.bound c.binary_search.ensures.position)

pub returns-in-None : goal.returns-in-None
returns-in-None c = rw c.in-None.is (none_of (map (λ name. name.now) c.args.names.now))
