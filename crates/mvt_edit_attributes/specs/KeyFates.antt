-- What becomes of the items of a layer whose keys are renamed, and what a walk over them finds of two keys.
use Rattle.std.specs.Prelude.{◌≡◌, ℕ, List, Result, length, map, nat_lt, not, ◌&&◌, if◌then◌else◌}
use Rattle.std.specs.List.{filter, flat_map, list_any}
use Rattle.std.specs.Str.{bytes_eq}
use Rattle.mvt_document.specs.declared.TheConstants.{MAX_FILE}
use Rattle.mvt_document.specs.Plain.{LayerItem, Document}
use Rattle.mvt_document.specs.Places.{change_items}
use Rattle.mvt_document.specs.Wire.{bytes_of, layer_item_bytes}
use Rattle.mvt_change.specs.FileSizes.{IsFileSize}
use Rattle.mvt_meaning.specs.Fields.{with_text}
use Rattle.mvt_meaning.specs.Meaning.{◌>>=◌, refuse_if}
use Rattle.mvt_meaning.specs.Tagging.{is_key, renamed_keys}
use Rattle.mvt_meaning.specs.declared.refusal.Refusal.{Refusal}
use Rattle.mvt_meaning.specs.declared.refusal.Refusal.TheVariants.{KeyTaken, NoKey, TooLarge}
use Rattle.mvt_renumber.specs.declared.fate.Fate.{Fate}
use Rattle.mvt_renumber.specs.declared.fate.Fate.TheVariants.{Stays, Becomes}
use Rattle.mvt_edit_attributes.specs.declared.rename_key.Keys.{Keys}

-- a key of the old bytes becomes one of the new bytes, and other items stay (tiles 4.1)
abbrev pub key_fate : List ℕ → List ℕ → LayerItem → Fate LayerItem
key_fate old new item = if is_key old item then Becomes (with_text new item) else Stays

-- whether the old key and the new one are among the items, how many bytes the keys that are the old one take, and how
-- many these take with the bytes of the new one (tiles 4.1)
pub record FindsKeys (old new : List ℕ) (items : List LayerItem) (keys : Keys) : Type 0 where
  pub old_there : keys.there ≡ list_any (is_key old) items
  pub new_there : keys.taken ≡ list_any (is_key new) items
  pub old_size : IsFileSize keys.gone (length (flat_map layer_item_bytes (filter (is_key old) items)))
  pub new_size : IsFileSize keys.come (length (flat_map layer_item_bytes (map (with_text new) (filter (is_key old) items))))

-- whether the keys of the layer with these items, at this position, can be renamed: the old key is there, the new one is
-- not, unless it is the old one, and the tile that results has at most 67,108,864 bytes; or the refusal (tiles 4.1)
abbrev pub may_rename : List ℕ → List ℕ → ℕ → List LayerItem → Document → Result (Unit {0}) Refusal
may_rename old new position items document = do
  there ← refuse_if (not (list_any (is_key old) items)) NoKey
  free ← refuse_if (list_any (is_key new) items && not (bytes_eq old new)) KeyTaken
  refuse_if (nat_lt MAX_FILE (length (bytes_of (change_items (renamed_keys old new) position document)))) TooLarge
