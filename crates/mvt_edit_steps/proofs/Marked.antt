-- Items of which some go by a mark for each.
use Rattle.std.proofs.Common.{◌≡◌, ℕ, ◌+◌, ◌<◌, Bool, List, [], ◌∷◌, ◌++◌, length, map, take, get_or, sym, ap, ◌∙◌}
use Rattle.std.proofs.lemmas.List.{map-append, take_more}
use Rattle.mvt_renumber.specs.declared.fate.Fate.{Fate}
use Rattle.mvt_edit_steps.specs.Fates.{goes_if}

abbrev fates_by : {T : Type 0} → List Bool → List (Fate T)
fates_by picked = map (λ is. goes_if is) picked

pub marked_more : {T : Type 0} (picked : List Bool) (index : ℕ) (d : Bool) (fates : List (Fate T)) (fate : Fate T) → index < length picked → fates ≡ fates_by (take index picked) → fate ≡ goes_if (get_or picked index d) → fates ++ fate ∷ [] ≡ fates_by (take (index + 1) picked)
marked_more picked index d fates fate within so_far becomes =
    ap (λ all. all ++ fate ∷ []) so_far
    ∙ ap (λ next. fates_by (take index picked) ++ next ∷ []) becomes
    ∙ sym (map-append (λ is. goes_if is) (take index picked) (get_or picked index d ∷ []))
    ∙ ap fates_by (sym (take_more picked index d within))
