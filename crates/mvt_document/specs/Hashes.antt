-- The hashes of ids, by which a feature is looked up.
use Rattle.std.specs.Prelude.{◌≡◌, ℕ, ◌%◌, List, length, map, take, Option, Some, None}
use Rattle.mvt_document.specs.declared.feature.TheConstants.{FOUR_BYTES}

-- the last four bytes of an id; 0 if there is no id
abbrev pub hash_of : Option ℕ → ℕ
hash_of None = 0
hash_of (Some id) = id % FOUR_BYTES

-- the hashes are those of that many items at the front
abbrev pub AreHashes : {T : Type 0} → (T → ℕ) → List ℕ → List T → Type 0
AreHashes hash hashes items = hashes ≡ map hash (take (length hashes) items)
