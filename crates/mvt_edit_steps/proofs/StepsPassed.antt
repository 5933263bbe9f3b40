-- The steps of features and of layers that come one after the other; a feature none of whose numbers changes has none.
use Rattle.std.proofs.Common.{◌≡◌, ℕ, ◌+◌, ◌==◌, true, false, Option, Some, None, List, [], ◌∷◌, ◌++◌, append_assoc, length, drop, refl, sym, ap, ◌∙◌}
use Rattle.std.proofs.lemmas.List.{append-nil}
use Rattle.std.proofs.lemmas.Bool.{eq-eqb}
use Rattle.std.specs.List.{flat_map}
use Rattle.mvt_document.specs.Plain.{Number, Field}
use Rattle.mvt_renumber.specs.Laws.{NoneIsNew}
use Rattle.mvt_renumber.specs.Renumbering.{field_numbers, some_changed}
use Rattle.mvt_edit_steps.specs.Decided.{field_fates, is_any_gone}
use Rattle.mvt_edit_steps.specs.Fates.{splices_from}

-- ---- one after the other

-- after the steps so far come those of an item, and then those of the rest
pub steps_more : {A B : Type 0} (steps : A → List B) (front mid all : List B) (x : A) (rest : List A) → mid ≡ front ++ steps x → front ++ flat_map steps (x ∷ rest) ≡ all → mid ++ flat_map steps rest ≡ all
steps_more steps front mid all x rest is so_far = ap (λ m. m ++ flat_map steps rest) is ∙ append_assoc front (steps x) (flat_map steps rest) ∙ so_far

pub none_more : {A B : Type 0} (steps : A → List B) (front : List B) (x : A) → steps x ≡ [] → front ≡ front ++ steps x
none_more steps front x none = sym (append-nil front) ∙ ap (λ more. front ++ more) (sym none)

-- ---- a feature that keeps its numbers

-- no number goes by the decisions, and what is decided on some numbers changes none of them; the same holds after these
record Kept (decisions : List (Option ℕ)) (own rest : List Number) : Type 0 where
  same : some_changed decisions own ≡ false
  none : is_any_gone (drop (length own) decisions) ≡ false
  kept : NoneIsNew (drop (length own) decisions) rest

own_kept : (decisions : List (Option ℕ)) (own rest : List Number) → is_any_gone decisions ≡ false → NoneIsNew decisions (own ++ rest) → Kept decisions own rest
own_kept decisions [] rest none kept = record { same = refl; none = none; kept = kept }
own_kept [] (number ∷ own) rest none kept = record { same = refl; none = refl; kept = tt }
own_kept (None ∷ decisions) (number ∷ own) rest none kept = absurd cc
own_kept (Some value ∷ decisions) (number ∷ own) rest none kept =
    let more = own_kept decisions own rest none kept.1 in
    let is : (value == number.value) ≡ true = eq-eqb value number.value kept.0 in
    record { same = rw is more.same; none = more.none; kept = more.kept }

pub no_splices : (number : ℕ) (decisions : List (Option ℕ)) (fields : List Field) → is_any_gone decisions ≡ false → NoneIsNew decisions (flat_map (field_numbers number) fields) → (n : ℕ) → splices_from n (field_fates number decisions fields) ≡ []
no_splices number decisions [] none kept n = refl
no_splices number decisions (field ∷ fields) none kept n =
    let own = field_numbers number field in
    let first = own_kept decisions own (flat_map (field_numbers number) fields) none kept in
    let same = first.same in
    rw same (no_splices number (drop (length own) decisions) fields first.none first.kept (n + 1))
