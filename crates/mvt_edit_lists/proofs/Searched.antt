-- Whether a search among texts in order finds one.
use Rattle.std.proofs.Common.{◌≡◌, ℕ, ◌<◌, Bool, true, false, Result, Ok, Err, is_ok, List, [], ◌∷◌, length, map, get_or, refl, sym, ap, ◌∙◌, arith, inl, inr}
use Rattle.std.specs.Prelude.{◌||◌}
use Rattle.std.specs.Cmp.Lexicographic.{slice_cmp, texts_ties}
use Rattle.std.specs.List.{list_any}
use Rattle.std.specs.List.Sorted.{IsBinarySearchResult, IsSearchInRange, IsSortedBy}
use Rattle.std.specs.Ordering.{is_eq, is_lt, nat_cmp}
use Rattle.std.specs.declared.cmp.Ordering.TheVariants.{Equal}
use Rattle.std.proofs.lemmas.Bool.{cases_lt}
use Rattle.std.specs.Str.{bytes_eq}
use Rattle.std.proofs.lemmas.Cmp.{nat_list_cmp_total}
use Rattle.std.proofs.lemmas.List.Folds.{list_any_at, list_any_none}
use Rattle.std.proofs.lemmas.List.Sorted.{searchable_from_sorted}

any_map : {A B : Type 0} (v : A → B) (test : B → Bool) (xs : List A) → list_any (λ x. test (v x)) xs ≡ list_any test (map v xs)
any_map v test [] = refl
any_map v test (x ∷ xs) = ap (λ b. test (v x) || b) (any_map v test xs)

module _ {X : Type 0} (text_of : X → List ℕ) (text : List ℕ) where
  abbrev is_text : X → Bool
  is_text x = bytes_eq (text_of x) text

  found : (xs : List X) (place : ℕ) → place < length xs → ((other : X) → slice_cmp nat_cmp (text_of (get_or xs place other)) text ≡ Equal) → true ≡ list_any is_text xs
  found [] place within equal = absurd (omega arith)
  found (x ∷ xs) place within equal = sym (list_any_at is_text (x ∷ xs) place x within (texts_ties (text_of (get_or (x ∷ xs) place x)) text ∙ ap is_eq (equal x)))

  pub search_finds : (xs : List X) (place : Result ℕ ℕ) → IsSortedBy (λ first second. is_lt (slice_cmp nat_cmp (text_of first) (text_of second))) xs → IsSearchInRange place (length xs) → IsBinarySearchResult (λ x. slice_cmp nat_cmp (text_of x) text) xs place → is_ok place ≡ list_any (λ name. bytes_eq name text) (map text_of xs)
  search_finds xs (Ok place) sorted within says = found xs place within says ∙ any_map text_of (λ name. bytes_eq name text) xs
  search_finds xs (Err place) sorted within says =
      let sides = says (searchable_from_sorted nat_list_cmp_total text_of xs text sorted) in
      let none : list_any is_text xs ≡ false = list_any_none is_text xs (λ k other inside.
      let ties = texts_ties (text_of (get_or xs k other)) text in
      elim (cases_lt k place) [
        | inl before ↦ ties ∙ ap is_eq (sides.0 k other (omega arith) before)
        | inr following ↦ ties ∙ ap is_eq (sides.1 k other following inside)
      ]) in
      sym none ∙ any_map text_of (λ name. bytes_eq name text) xs
