-- What becomes of each item, in a list of the program and in that of its plain values.
use Rattle.std.proofs.Common.{◌≡◌, ℕ, ◌+◌, ◌==◌, suc, List, [], ◌∷◌, length, map, filter, refl, ap, ◌∙◌, inl, inr}
use Rattle.std.proofs.lemmas.Bool.{cases_Bool}
use Rattle.std.proofs.lemmas.List.{length-map, map-append}
use Rattle.std.specs.List.{AllZip}
use Rattle.mvt_renumber.specs.Fates.{changes, fate_seen}
use Rattle.mvt_edit_steps.specs.Fates.{Splice, and_splices, seen, splices_from, splices_of}
use Rattle.mvt_renumber.specs.declared.fate.Fate.{Fate}
use Rattle.mvt_renumber.specs.declared.fate.Fate.TheVariants.{Stays, Goes, Becomes}

module _ {T A : Type 0} (view : T → A) where
  seen_and : (s : Splice T) (splices : List (Splice T)) → map (seen view) (and_splices s splices) ≡ and_splices (seen view s) (map (seen view) splices)
  seen_and s [] = refl
  seen_and s (next ∷ splices) =
      let long : length (map view s.put) ≡ length s.put = length-map s.put view in
      elim (cases_Bool (next.index == s.index + length s.put)) [
        | inl joins ↦ rw (long, joins) (ap (λ put. record { index = s.index; taken = s.taken + next.taken; put = put } ∷ map (seen view) splices) (map-append view s.put next.put))
        | inr apart ↦ rw (long, apart) refl
      ]

  pub splices_seen : (at : ℕ) (fates : List (Fate T)) → map (seen view) (splices_from at fates) ≡ splices_from at (map (fate_seen view) fates)
  splices_seen at [] = refl
  splices_seen at (Stays ∷ fates) = splices_seen (at + 1) fates
  splices_seen at (Goes ∷ fates) = seen_and (record { index = at; taken = 1; put = [] }) (splices_from at fates) ∙ ap (and_splices (record { index = at; taken = 1; put = [] })) (splices_seen at fates)
  splices_seen at (Becomes item ∷ fates) = seen_and (record { index = at; taken = 1; put = item ∷ [] }) (splices_from (at + 1) fates) ∙ ap (and_splices (record { index = at; taken = 1; put = view item ∷ [] })) (splices_seen (at + 1) fates)

  changes_seen : (fate : Fate T) → changes (fate_seen view fate) ≡ changes fate
  changes_seen Stays = refl
  changes_seen Goes = refl
  changes_seen (Becomes item) = refl

  pub count_fates : (fates : List (Fate T)) → length (filter changes fates) ≡ length (filter changes (map (fate_seen view) fates))
  count_fates [] = refl
  count_fates (fate ∷ fates) =
      let same = changes_seen fate in
      elim (cases_Bool (changes fate)) [ inl out ↦ rw (same, out) (ap suc (count_fates fates)) | inr stays ↦ rw (same, stays) (count_fates fates) ]

  -- where each answer of the program is what is planned for the plain value of its item
  module _ (plan : A → Fate A) (answers : T → Fate T → Type 0) (each : (x : T) (fate : Fate T) → answers x fate → fate_seen view fate ≡ plan (view x)) where
    answered : (xs : List T) (fates : List (Fate T)) → AllZip answers xs fates → map (fate_seen view) fates ≡ map plan (map view xs)
    answered [] [] all = refl
    answered [] (fate ∷ fates) all = absurd all
    answered (x ∷ xs) [] all = absurd all
    answered (x ∷ xs) (fate ∷ fates) all = ap (λ f. f ∷ map (fate_seen view) fates) (each x fate all.0) ∙ ap (λ fs. plan (view x) ∷ fs) (answered xs fates all.1)

    -- the splices that the program makes are those that are planned
    pub splices_planned : (xs : List T) (fates : List (Fate T)) → AllZip answers xs fates → map (seen view) (splices_of fates) ≡ splices_of (map plan (map view xs))
    splices_planned xs fates all = splices_seen 0 fates ∙ ap (splices_from 0) (answered xs fates all)

    -- and as many items change as is planned
    pub count_planned : (xs : List T) (fates : List (Fate T)) → AllZip answers xs fates → length (filter changes fates) ≡ length (filter changes (map plan (map view xs)))
    count_planned xs fates all = count_fates fates ∙ ap (λ fs. length (filter changes fs)) (answered xs fates all)
