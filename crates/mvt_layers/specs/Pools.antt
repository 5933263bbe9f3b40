-- The entries of the pools of a layer: its keys and its values.
use Rattle.std.specs.Prelude.{ℕ, List, Option}
use Rattle.std.specs.List.{find}
use Rattle.std.specs.Option.{option_and_then}
use Rattle.std.specs.Str.{bytes_eq}
use Rattle.mvt_document.specs.Plain.{Layer, LayerItem}
use Rattle.mvt_messages.specs.Found.{found_in}
use Rattle.mvt_messages.specs.Views.{content_in, key_field, plain_in, value_field}

-- the content of an item of a layer that is a LEN field of this number; none for another item (tiles 4.1)
abbrev pub entry_in : ℕ → LayerItem → Option (List ℕ)
entry_in number item = option_and_then (content_in number) (plain_in item)

-- the entries of a number among the items of a layer, in order, each with its ordinal and its position (tiles 4.1)
abbrev pub found_entries : ℕ → List LayerItem → List (ℕ × (ℕ × List ℕ))
found_entries number items = found_in (entry_in number) items

-- the keys of a layer, in order, each with its ordinal and its position (tiles 4.1)
abbrev pub found_keys : Layer → List (ℕ × (ℕ × List ℕ))
found_keys layer = found_entries key_field layer.items

-- the values of a layer, in order, each with its ordinal and its position (tiles 4.1)
abbrev pub found_values : Layer → List (ℕ × (ℕ × List ℕ))
found_values layer = found_entries value_field layer.items

-- the first entry that is these bytes, or none
abbrev pub first_equal : List ℕ → List (ℕ × (ℕ × List ℕ)) → Option (ℕ × (ℕ × List ℕ))
first_equal bytes found = find (λ (entry : ℕ × (ℕ × List ℕ)). bytes_eq entry.1.1 bytes) found
