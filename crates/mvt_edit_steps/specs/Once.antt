-- A new item in place of the first that passes: what becomes of each item, and the splices that carry it out.
use Rattle.std.specs.Prelude.{ℕ, Bool, true, false, List, [], ◌∷◌, ◌++◌, Option, Some, None, if◌then◌else◌}
use Rattle.mvt_edit_steps.specs.Fates.{Splice, splices_of}
use Rattle.mvt_renumber.specs.declared.fate.Fate.{Fate}
use Rattle.mvt_renumber.specs.declared.fate.Fate.TheVariants.{Stays, Goes, Becomes}

-- an item that is picked becomes the new one, where that is left, and else goes
abbrev pub once_fate : {A : Type 0} → Bool → Option A → Fate A
once_fate false new = Stays
once_fate true None = Goes
once_fate true (Some item) = Becomes item

-- what becomes of each item, by whether it is picked, where this is left of the new one
abbrev pub once_fates : {A : Type 0} → List Bool → Option A → List (Fate A)
once_fates [] new = []
once_fates (picked ∷ more) new = once_fate picked new ∷ once_fates more (if picked then None else new)

-- what is left of the new one after all items
abbrev pub left_once : {A : Type 0} → List Bool → Option A → Option A
left_once [] new = new
left_once (picked ∷ more) new = left_once more (if picked then None else new)

-- the splice that puts what is left at the end, where anything is
abbrev pub at_end : {A : Type 0} → Option A → ℕ → List (Splice A)
at_end None end = []
at_end (Some item) end = record { index = end; taken = 0; put = item ∷ [] } ∷ []

-- the splices by which the first item that is picked becomes the new one and the others that are picked go; where none
-- is, the new one goes to the end
abbrev pub once_splices : {A : Type 0} → List Bool → A → ℕ → List (Splice A)
once_splices picked new end = splices_of (once_fates picked (Some new)) ++ at_end (left_once picked (Some new)) end
