-- What becomes of an item, and what is left of it.
use Rattle.std.specs.Prelude.{◌≢◌, ℕ, Bool, true, false, List, [], ◌∷◌, Option, if◌then◌else◌}
use Rattle.mvt_document.specs.Plain.{Field}
use Rattle.mvt_renumber.specs.Renumbering.{field_numbers, renumbered_field, some_changed}
use Rattle.mvt_renumber.specs.declared.fate.Fate.{Fate}
use Rattle.mvt_renumber.specs.declared.fate.Fate.TheVariants.{Stays, Goes, Becomes}

-- the items that are left of one with this fate: itself, none, or the one that another stands for
abbrev pub left_of_fate : {T A : Type 0} → (T → A) → A → Fate T → List A
left_of_fate stands item Stays = item ∷ []
left_of_fate stands item Goes = []
left_of_fate stands item (Becomes other) = stands other ∷ []

-- where it becomes another, that one stands for a different item
abbrev pub IsChange : {T A : Type 0} → (T → A) → A → Fate T → Type 0
IsChange stands item (Becomes other) = stands other ≢ item
IsChange stands item fate = Unit {0}

-- an item of this fate changes
abbrev pub changes : {A : Type 0} → Fate A → Bool
changes Stays = false
changes fate = true

-- the fate, with the item that another stands for
abbrev pub fate_seen : {T A : Type 0} → (T → A) → Fate T → Fate A
fate_seen stands Stays = Stays
fate_seen stands Goes = Goes
fate_seen stands (Becomes other) = Becomes (stands other)

-- what becomes of an item that changes and of which these are left
abbrev pub fate_left : {A : Type 0} → List A → Fate A
fate_left [] = Goes
fate_left (item ∷ more) = Becomes item

-- what becomes of a field, by a decision for each of its numbers
abbrev pub field_fate : ℕ → List (Option ℕ) → Field → Fate Field
field_fate number decisions field = if some_changed decisions (field_numbers number field) then fate_left (renumbered_field number decisions field) else Stays
