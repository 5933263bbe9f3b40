-- Items that go by a mark for each, in a list of the program and in that of its plain values.
use Rattle.std.proofs.Common.{◌≡◌, Bool, true, false, List, [], ◌∷◌, map, refl, ap, ◌∙◌}
use Rattle.mvt_renumber.specs.Fates.{fate_seen}
use Rattle.mvt_renumber.specs.declared.fate.Fate.{Fate}
use Rattle.mvt_edit_steps.specs.Fates.{goes_if, seen, splices_from, splices_of}
use Rattle.mvt_edit_steps.proofs.Planned.{splices_seen}
use Rattle.mvt_edit_steps.proofs.Going.{goes_seen}

module _ {T A : Type 0} (view : T → A) where
  fates_seen : (picked : List Bool) → map (fate_seen view) (map (λ is. goes_if is) picked) ≡ map (λ is. goes_if is) picked
  fates_seen [] = refl
  fates_seen (is ∷ picked) =
      let rest : List (Fate A) = map (fate_seen view) (map (λ is. goes_if is) picked) in
      ap (λ fate. fate ∷ rest) (goes_seen view is) ∙ ap (λ fates. goes_if is ∷ fates) (fates_seen picked)

  pub marks_seen : (picked : List Bool) → map (seen view) (splices_of (map (λ is. goes_if is) picked)) ≡ splices_of (map (λ is. goes_if is) picked)
  marks_seen picked = splices_seen view 0 (map (λ is. goes_if is) picked) ∙ ap (splices_from 0) (fates_seen picked)
