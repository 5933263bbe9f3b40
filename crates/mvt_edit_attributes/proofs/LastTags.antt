-- The last item that passes a test, in a walk over a list.
use Rattle.std.proofs.Common.{◌≡◌, ℕ, ◌+◌, ◌<◌, Bool, true, false, Option, Some, None, List, ◌∷◌, length, map, drop, get_or, sym, ap, ◌∙◌}
use Rattle.std.proofs.lemmas.List.{drop_more}
use Rattle.std.specs.List.{last_or}
use Rattle.mvt_meaning.proofs.Positions.{positions_from, positions_pass, positions_skip}

module _ {X A : Type 0} (view : X → A) (passes : A → Bool) (items : List X) (n : ℕ) (x : X) (last all : Option ℕ) (within : n < length items) (here : x ≡ get_or items n x) (so_far : last_or last (positions_from passes n (map view (drop n items))) ≡ all) where
  at : last_or last (positions_from passes n (view x ∷ map view (drop (n + 1) items))) ≡ all
  at = ap (λ xs. last_or last (positions_from passes n (map view xs))) (sym (drop_more items n x within ∙ ap (λ y. y ∷ drop (n + 1) items) (sym here))) ∙ so_far

  pub last_passes : passes (view x) ≡ true → last_or (Some n) (positions_from passes (n + 1) (map view (drop (n + 1) items))) ≡ all
  last_passes pass = ap (last_or last) (sym (positions_pass passes n (view x) (map view (drop (n + 1) items)) pass)) ∙ at

  pub last_skipped : passes (view x) ≡ false → last_or last (positions_from passes (n + 1) (map view (drop (n + 1) items))) ≡ all
  last_skipped skip = ap (last_or last) (sym (positions_skip passes n (view x) (map view (drop (n + 1) items)) skip)) ∙ at
