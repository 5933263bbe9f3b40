-- What becomes of the items of a list, and the splices that carry it out: neighbours that change are one.
use Rattle.std.specs.Prelude.{◌≡◌, ℕ, ◌+◌, ◌==◌, Bool, List, [], ◌∷◌, ◌++◌, Option, Some, None, length, filter, map, option_map, if◌then◌else◌}
use Rattle.mvt_change.specs.Changes as plain
use Rattle.mvt_change.specs.ChangeStands.{step_of}
use Rattle.mvt_change.specs.Changes.{Place, OfTheTile, OfTheLayer, OfTheFeature, Step, TileStep, LayerStep, FeatureStep}
use Rattle.mvt_change.specs.declared.change.Step as code
use Rattle.mvt_edit_steps.specs.declared.fates.Run.{Run}
use Rattle.mvt_edit_steps.specs.declared.fates.Walk.{Walk}
use Rattle.mvt_renumber.specs.Fates.{changes}
use Rattle.mvt_renumber.specs.declared.fate.Fate.{Fate}
use Rattle.mvt_renumber.specs.declared.fate.Fate.TheVariants.{Stays, Goes, Becomes}

-- `taken` items from `index` of a list are taken out, and those of `put` go there
pub record Splice (A : Type 0) : Type 0 where
  pub index : ℕ
  pub taken : ℕ
  pub put : List A

-- the splice that a run of the program is
abbrev pub splice_of : {T : Type 0} → Run T → Splice T
splice_of run = record { index = run.index; taken = run.take; put = run.put.items }

-- the splice with plain values for the items of the program that it puts
abbrev pub seen : {T A : Type 0} → (T → A) → Splice T → Splice A
seen view s = record { index = s.index; taken = s.taken; put = map view s.put }

-- the step that takes out the item at this position of the list at a place
abbrev pub item_out : Place → ℕ → Step
item_out OfTheTile position = TileStep position 1 []
item_out (OfTheLayer layer) position = LayerStep layer position 1 []
item_out (OfTheFeature layer item) position = FeatureStep layer item position 1 []

-- ---- the splices of items of these fates

-- the splices after one; where the first of them begins right where the items that the one puts end, the two are one
abbrev pub and_splices : {A : Type 0} → Splice A → List (Splice A) → List (Splice A)
and_splices s [] = s ∷ []
and_splices s (next ∷ splices) = if next.index == s.index + length s.put then record { index = s.index; taken = s.taken + next.taken; put = s.put ++ next.put } ∷ splices else s ∷ next ∷ splices

-- the splices after one that is open, where one is
abbrev pub and_last : {A : Type 0} → Option (Splice A) → List (Splice A) → List (Splice A)
and_last None splices = splices
and_last (Some s) splices = and_splices s splices

-- the splices of a list whose first item is at this index once those before it are carried out
abbrev pub splices_from : {A : Type 0} → ℕ → List (Fate A) → List (Splice A)
splices_from at [] = []
splices_from at (Stays ∷ fates) = splices_from (at + 1) fates
splices_from at (Goes ∷ fates) = and_splices (record { index = at; taken = 1; put = [] }) (splices_from at fates)
splices_from at (Becomes item ∷ fates) = and_splices (record { index = at; taken = 1; put = item ∷ [] }) (splices_from (at + 1) fates)

-- the splices of a list whose items have these fates, each on what those before it made
abbrev pub splices_of : {A : Type 0} → List (Fate A) → List (Splice A)
splices_of fates = splices_from 0 fates

-- what a test picks goes, and other items stay
abbrev pub goes_if : {A : Type 0} → Bool → Fate A
goes_if picked = if picked then Goes else Stays

-- the steps that there are once items of these fates follow those that a walk has passed
abbrev pub steps_then : {T : Type 0} → (Splice T → plain.Step) → plain.Change → Walk T → List (Fate T) → plain.Change
steps_then step_with steps walk rest = steps ++ map step_with (and_last (option_map splice_of walk.last) (splices_from walk.at rest))

-- after the steps that were given come those of the splices, and `changed` items change
pub record IsCarriedOut {A : Type 0} (step_with : Splice A → plain.Step) (fates : List (Fate A)) (given steps : plain.Change) (changed : ℕ) : Type 0 where
  pub following : steps ≡ given ++ map step_with (splices_of fates)
  pub counted : changed ≡ length (filter changes fates)

-- each answer of the code means what `said` gives for the item
abbrev pub Means : {A B C : Type 0} → (A → B → Type 0) → (B → C) → (A → C) → Type 0
Means {A} {B} answers meant said = (item : A) (answer : B) → answers item answer → meant answer ≡ said item

-- each step that the code makes of a run is the one that `step_with` gives for its splice
abbrev pub MakesSteps : {T : Type 0} → (Run T → code.Step → Type 0) → (Splice T → plain.Step) → Type 0
MakesSteps makes step_with = Means makes step_of (λ run. step_with (splice_of run))
