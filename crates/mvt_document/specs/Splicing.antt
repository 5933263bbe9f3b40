-- Lists in which a part is replaced, or an item moved.
use Rattle.std.specs.Prelude.{ℕ, ◌+◌, List, [], ◌++◌, take, drop}

-- `count` items of the list from `index`, or as many as there are
abbrev pub part : {A : Type 0} → ℕ → ℕ → List A → List A
part index count items = take count (drop index items)

-- the list with `taken` items from `index` replaced by the items `put`
abbrev pub splice : {A : Type 0} → ℕ → ℕ → List A → List A → List A
splice index taken put items = take index items ++ put ++ drop (index + taken) items

-- the list with the item at `from` taken out and put back so that it is at `to`
abbrev pub moved : {A : Type 0} → ℕ → ℕ → List A → List A
moved from to items = splice to 0 (part from 1 items) (splice from 1 [] items)
