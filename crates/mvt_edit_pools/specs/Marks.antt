-- Which entries of a layer stay, by a mark for each, and what the marks make of the layer.
use Rattle.std.specs.Prelude.{ℕ, zero, suc, ◌+◌, ◌^◌, ◌==◌, Bool, false, ◌&&◌, ◌||◌, not, List, [], ◌∷◌, map, length, take, drop, slice_get, Option, if◌then◌else◌}
use Rattle.std.specs.List.{list_any}
use Rattle.std.specs.Option.{option_map_or, unwrap_or}
use Rattle.mvt_document.specs.Plain.{Field, Feature, LayerItem}
use Rattle.mvt_change.specs.Changes.{Change, LayerStep}
use Rattle.mvt_messages.specs.Views.{key_field, value_field}
use Rattle.mvt_meaning.specs.Compaction.{is_entry}
use Rattle.mvt_meaning.specs.Tagging.{pairs_among}
use Rattle.mvt_edit_steps.specs.Decided.{decided_by, field_fates}
use Rattle.mvt_edit_steps.specs.Fates.{Splice, goes_if, splices_of}
use Rattle.mvt_renumber.specs.declared.fate.Fate.{Fate}

-- ---- marks

-- for each of a number of entries, the first of which has this ordinal, whether it stays
abbrev pub stays_from : (ℕ → Bool) → ℕ → ℕ → List Bool
stays_from stays ordinal zero = []
stays_from stays ordinal (suc count) = stays ordinal ∷ stays_from stays (ordinal + 1) count

-- the marks of entries, the first of which has this ordinal, where the selected ordinals are marked as well
abbrev pub marked : (ℕ → Bool) → ℕ → List Bool → List Bool
marked selects ordinal [] = []
marked selects ordinal (mark ∷ marks) = (selects ordinal || mark) ∷ marked selects (ordinal + 1) marks

-- the ordinal is this one
abbrev pub is_one : ℕ → ℕ → Bool
is_one one ordinal = one == ordinal

-- one of the pairs names the key of this ordinal (tiles 4.4)
abbrev pub names_key : List (ℕ × ℕ) → ℕ → Bool
names_key pairs ordinal = list_any (λ pair. pair.0 == ordinal) pairs

-- one of the pairs names the value of this ordinal (tiles 4.4)
abbrev pub names_value : List (ℕ × ℕ) → ℕ → Bool
names_value pairs ordinal = list_any (λ pair. pair.1 == ordinal) pairs

-- ---- pairs

-- the pairs of a feature that was found with its position, in a layer of these items (tiles 4.4)
abbrev pub pairs_at : List LayerItem → ℕ × (ℕ × Feature) → List (ℕ × ℕ)
pairs_at items at = unwrap_or (pairs_among items at.1.1.fields) []

-- how many pairs each of these features has, in a layer of these items (tiles 4.4)
abbrev pub pair_counts : List LayerItem → List (ℕ × (ℕ × Feature)) → List ℕ
pair_counts items found = map (λ at. length (pairs_at items at)) found

-- ---- new ordinals

-- for each entry how many of those before it stay, by their marks, where `next` stay before the first
abbrev pub numbered_from : ℕ → List Bool → List ℕ
numbered_from next [] = []
numbered_from next (stays ∷ marks) = next ∷ numbered_from (next + (if stays then 1 else 0)) marks

-- the new ordinals of the entries that a pair can name, by the marks of those that stay: it names by uint32 (tiles 4.4)
abbrev pub ordinals_by : List Bool → List ℕ
ordinals_by marks = numbered_from 0 (take (2 ^ 32) marks)

-- there is a new ordinal, and it is the old one
abbrev pub keeps_ordinal : ℕ → Option ℕ → Bool
keeps_ordinal ordinal new = option_map_or (λ n. n == ordinal) new false

-- what becomes of the two numbers of a pair, where the keys and the values have these new ordinals; and whether one of
-- them changes (tiles 4.4)
abbrev pub pair_repointed : List ℕ → List ℕ → ℕ × ℕ → Option ℕ × Option ℕ × Bool
pair_repointed keys values pair =
    (slice_get keys pair.0, slice_get values pair.1, not (keeps_ordinal pair.0 (slice_get keys pair.0) && keeps_ordinal pair.1 (slice_get values pair.1)))

-- what is decided on each number of the tags of a feature, in a layer of these items; nothing where they make no pairs
-- (tiles 4.4)
abbrev pub ordinals_in : List ℕ → List ℕ → List LayerItem → List Field → List (Option ℕ)
ordinals_in keys values items fields = option_map_or (decided_by (pair_repointed keys values)) (pairs_among items fields) []

-- what then becomes of the fields of a feature (tiles 4.4)
abbrev pub pairs_repointed : List ℕ → List ℕ → List LayerItem → List Field → List (Fate Field)
pairs_repointed keys values items fields = field_fates 2 (ordinals_in keys values items fields) fields

-- ---- entries

-- the first of the marks is there, and its entry does not stay
abbrev pub first_goes : List Bool → Bool
first_goes [] = false
first_goes (stays ∷ marks) = not stays

-- for each item of a layer whether it is a key or a value that does not stay, by a mark for each key and each value
-- that does (tiles 4.1)
abbrev pub gone_by : List Bool → List Bool → List LayerItem → List Bool
gone_by keys values [] = []
gone_by keys values (item ∷ items) =
    if is_entry key_field item then first_goes keys ∷ gone_by (drop 1 keys) values items
    else if is_entry value_field item then first_goes values ∷ gone_by keys (drop 1 values) items
    else false ∷ gone_by keys values items

-- the splices by which the items of a layer that are picked go, by a mark for each
abbrev pub entry_splices : List Bool → List (Splice LayerItem)
entry_splices picked = splices_of (map (λ is. goes_if is) picked)

-- the steps of these splices, where the layer is at this position of the tile
abbrev pub entry_steps : ℕ → List Bool → Change
entry_steps layer picked = map (λ s. LayerStep layer s.index s.taken s.put) (entry_splices picked)
