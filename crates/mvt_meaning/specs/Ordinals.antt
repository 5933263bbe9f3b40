-- Lists in which the items that pass a test are counted by ordinals, from 0.
use Rattle.std.specs.Prelude.{ℕ, ◌-◌, ◌==◌, nat_lt, Bool, ◌&&◌, not, List, [], ◌∷◌, ◌++◌, length, take, drop, filter, slice_get, if◌then◌else◌}
use Rattle.std.specs.List.{list_any}
use Rattle.std.specs.Option.{option_map_or}
use Rattle.mvt_messages.specs.Views.{ordinals_of}

-- ---- positions

-- the positions among all items of those that pass, in order
abbrev pub positions_of : {A : Type 0} → (A → Bool) → List A → List ℕ
positions_of passes items = ordinals_of passes items

-- how many items pass
abbrev pub count : {A : Type 0} → (A → Bool) → List A → ℕ
count passes items = length (filter passes items)

-- ---- one item

-- the list with all changed from the item of this ordinal among those that pass; as it is where there is none
abbrev pub from_nth : {A : Type 0} → (A → Bool) → (List A → List A) → ℕ → List A → List A
from_nth passes change ordinal [] = []
from_nth passes change ordinal (x ∷ xs) = if passes x && (ordinal == 0) then change (x ∷ xs) else x ∷ from_nth passes change (if passes x then ordinal - 1 else ordinal) xs

-- the list with its first item changed
abbrev pub change_first : {A : Type 0} → (A → A) → List A → List A
change_first change [] = []
change_first change (x ∷ xs) = change x ∷ xs

-- the list with the item of this ordinal among those that pass changed
abbrev pub change_nth : {A : Type 0} → (A → Bool) → (A → A) → ℕ → List A → List A
change_nth passes change ordinal items = from_nth passes (change_first change) ordinal items

-- the list without the item of this ordinal among those that pass
abbrev pub without : {A : Type 0} → (A → Bool) → ℕ → List A → List A
without passes ordinal items = from_nth passes (λ rest. drop 1 rest) ordinal items

-- the list with a new item right before the item of this ordinal among those that pass
abbrev pub before : {A : Type 0} → (A → Bool) → ℕ → A → List A → List A
before passes ordinal new items = from_nth passes (λ rest. new ∷ rest) ordinal items

-- the list with a new item right after the item of this ordinal among those that pass
abbrev pub after : {A : Type 0} → (A → Bool) → ℕ → A → List A → List A
after passes ordinal new items = from_nth passes (λ rest. take 1 rest ++ new ∷ drop 1 rest) ordinal items

-- ---- moves and insertions

-- the list with the item of ordinal `from`, among those that pass, moved to ordinal `to`: right after the item that has
-- that ordinal now, where `to` is greater, and right before it, where `to` is smaller
abbrev pub move_nth : {A : Type 0} → (A → Bool) → ℕ → ℕ → List A → List A
move_nth passes from to items = option_map_or (λ item.
    if nat_lt from to then after passes (to - 1) item (without passes from items)
    else if nat_lt to from then before passes to item (without passes from items)
    else items) (slice_get (filter passes items) from) items

-- the list with a new item right before the item of this ordinal among those that pass; where there is none, right
-- after the last that passes, or at the end
abbrev pub insert_nth : {A : Type 0} → (A → Bool) → ℕ → A → List A → List A
insert_nth passes ordinal new items =
    if nat_lt ordinal (count passes items) then before passes ordinal new items
    else if list_any passes items then after passes (count passes items - 1) new items
    else items ++ new ∷ []

-- ---- one item for all that pass

-- the list with a new item in place of the first that passes, and without the others that pass; with the new one at the
-- end where none passes
abbrev pub put_once : {A : Type 0} → (A → Bool) → A → List A → List A
put_once passes new [] = new ∷ []
put_once passes new (x ∷ xs) = if passes x then new ∷ filter (λ y. not (passes y)) xs else x ∷ put_once passes new xs

-- ---- the last item

-- the list with the last item that passes changed
abbrev pub change_last : {A : Type 0} → (A → Bool) → (A → A) → List A → List A
change_last passes change [] = []
change_last passes change (x ∷ xs) = if passes x && not (list_any passes xs) then change x ∷ xs else x ∷ change_last passes change xs

-- the list with the last item that passes changed, or with a new item at the end where none passes
abbrev pub put_last : {A : Type 0} → (A → Bool) → (A → A) → A → List A → List A
put_last passes change new items = if list_any passes items then change_last passes change items else items ++ new ∷ []
