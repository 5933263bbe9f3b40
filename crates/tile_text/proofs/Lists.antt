-- What holds of each element of lists that are made of others, and of the words of a geometry.
use Rattle.std.proofs.Common.{◌≡◌, ℕ, Bool, true, false, not, refl, List, [], ◌∷◌, ◌++◌, map}
use Rattle.std.specs.Prelude.{codes}
use Rattle.std.specs.List.{AllByRecursion, flat_map, list_all}
use Rattle.std.proofs.lemmas.Bool.{and_parts, not-true}
use Rattle.mvt_document.proofs.EachItem.{all_joined, all_of_map}
use Rattle.mvt_geometry.specs.declared.shapes.Point.{Point}
use Rattle.tile_text.specs.Texts.{point_form, part_words}

-- what a test says of each, where it computes
pub none_passes : (p : ℕ → Bool) (xs : List ℕ) → list_all (λ x. not (p x)) xs ≡ true → AllByRecursion (λ x. p x ≡ false) xs
none_passes p [] e = tt
none_passes p (x ∷ xs) e =
    let parts = and_parts (not (p x)) (list_all (λ y. not (p y)) xs) e in
    (not-true (p x) parts.0, none_passes p xs parts.1)

-- ---- the words of a geometry's parts: points and bars

appended : (P : List ℕ → Type 0) → P (codes "/") → (parts : List (List Point)) → AllByRecursion (AllByRecursion (λ p. P (point_form p))) parts → AllByRecursion P (flat_map (λ points. codes "/" ∷ [] ++ map point_form points) parts)
appended P bar [] h = tt
appended P bar (part ∷ parts) h = all_joined P (codes "/" ∷ [] ++ map point_form part) (flat_map (λ points. codes "/" ∷ [] ++ map point_form points) parts) (bar, all_of_map point_form P part h.0) (appended P bar parts h.1)

pub words_all : (P : List ℕ → Type 0) → P (codes "/") → (parts : List (List Point)) → AllByRecursion (AllByRecursion (λ p. P (point_form p))) parts → AllByRecursion P (part_words parts)
words_all P bar [] h = tt
words_all P bar (part ∷ parts) h = all_joined P (map point_form part) (flat_map (λ points. codes "/" ∷ [] ++ map point_form points) parts) (all_of_map point_form P part h.0) (appended P bar parts h.1)
