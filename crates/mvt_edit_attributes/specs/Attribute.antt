-- What a feature and its layer get for an attribute: a run of the feature's fields, where they change, and entries.
use Rattle.std.specs.Prelude.{◌≡◌, ℕ, ◌+◌, Bool, not, List, [], ◌∷◌, ◌++◌, Option, Some, None, Result, is_some, length, nat_lt, if◌then◌else◌}
use Rattle.std.specs.List.{flat_map, list_any}
use Rattle.std.specs.Option.{IfSome}
use Rattle.std.specs.Str.{bytes_eq}
use Rattle.mvt_document.specs.Lists.{CanSplice}
use Rattle.mvt_document.specs.Opens.{IsField}
use Rattle.mvt_document.specs.Plain.{Field, LayerItem, PlainInLayer, Layer}
use Rattle.mvt_document.specs.Splicing.{part, splice}
use Rattle.mvt_document.specs.Wire.{field_bytes, layer_item_bytes}
use Rattle.mvt_change.specs.Changes.{Change, LayerStep}
use Rattle.mvt_messages.specs.Views.{keys, values}
use Rattle.mvt_meaning.specs.Fields.{new_content}
use Rattle.mvt_meaning.specs.Meaning.{◌>>=◌, refuse_if}
use Rattle.mvt_meaning.specs.Tagging.{entry_ordinal, is_packed_last, is_tags, missing_entries, pairs_among, pairs_with, with_attribute, with_more_tags}
use Rattle.mvt_meaning.specs.Weights.{set_puts, set_takes, weigh, weigh_last}
use Rattle.mvt_meaning.specs.declared.refusal.Refusal.{Refusal}
use Rattle.mvt_meaning.specs.declared.refusal.Refusal.TheVariants.{BadTags, RepeatedKey}
use Rattle.mvt_edit_steps.specs.Fates.{Splice}
use Rattle.mvt_renumber.specs.declared.fate.Fate.{Fate}
use Rattle.mvt_renumber.specs.declared.fate.Fate.TheVariants.{Stays, Goes, Becomes}
use Rattle.mvt_edit_attributes.specs.declared.pools.Ordinals.{Ordinals}
use Rattle.mvt_edit_attributes.specs.declared.pools.Sought.{Sought}

-- ---- a run of fields, where they change

-- the fields with the run carried out, where there is one
abbrev pub fields_with : List Field → Option (Splice Field) → List Field
fields_with fields None = fields
fields_with fields (Some s) = splice s.index s.taken s.put fields

-- the bytes of the fields that the run takes out
abbrev pub bytes_taken : List Field → Option (Splice Field) → ℕ
bytes_taken fields None = 0
bytes_taken fields (Some s) = length (flat_map field_bytes (part s.index s.taken fields))

-- the bytes of the fields that the run puts
abbrev pub bytes_put : Option (Splice Field) → ℕ
bytes_put None = 0
bytes_put (Some s) = length (flat_map field_bytes s.put)

-- the run for a field of this fate at an index, where it changes
abbrev pub run_for : ℕ → Fate Field → Option (Splice Field)
run_for index Stays = None
run_for index Goes = Some (record { index = index; taken = 1; put = [] })
run_for index (Becomes field) = Some (record { index = index; taken = 1; put = field ∷ [] })

-- the run puts these bytes after those of the last tags field, where that is a LEN field, and else in a new one at the
-- end; it takes out and puts only that field (tiles 4.2)
pub record PutsPair (more : List ℕ) (fields : List Field) (run : Splice Field) : Type 0 where
  pub can : CanSplice IsField run.index run.taken run.put fields
  pub makes : fields_with fields (Some run) ≡ with_more_tags more fields
  pub takes : bytes_taken fields (Some run) ≡ (if is_packed_last fields then weigh_last field_bytes is_tags fields else 0)
  pub puts : bytes_put (Some run) ≡ weigh_last field_bytes is_tags (with_more_tags more fields)

-- the run, where there is one, gives the value to the key in a feature of these fields, in a layer of these items, and
-- takes out and puts no other field than the command does (tiles 4.2, 4.4)
pub record GivesAttribute (key value : List ℕ) (items : List LayerItem) (fields : List Field) (run : Option (Splice Field)) : Type 0 where
  pub can : IfSome run (λ s. CanSplice IsField s.index s.taken s.put fields)
  pub makes : fields_with fields run ≡ with_attribute key value items fields
  pub takes : bytes_taken fields run ≡ set_takes key value items fields
  pub puts : weigh layer_item_bytes (missing_entries key value items) + bytes_put run ≡ set_puts key value items fields

-- ---- when a feature is refused

-- nothing, where the tags of a feature of these fields make pairs at most one of which has the key, in a layer of these
-- items; else the refusal, with the ordinals of both (tiles 4.4)
abbrev pub attribute_checked : List ℕ → ℕ → ℕ → List LayerItem → List Field → Result (Unit {0}) Refusal
attribute_checked key ordinal feature items fields =
    refuse_if (not (is_some (pairs_among items fields))) (BadTags ordinal feature) >>= λ readable. refuse_if (nat_lt 1 (pairs_with key items fields)) (RepeatedKey ordinal feature)

-- ---- the entries of a layer

-- `sought` has the ordinal of these bytes among entries, or the one that they get as a further entry; whether they are
-- there; and how many entries there are (tiles 4.1, 4.4)
pub record IsSought (bytes : List ℕ) (entries : List (List ℕ)) (sought : Sought) : Type 0 where
  pub at : sought.ordinal ≡ entry_ordinal bytes entries
  pub there : sought.is_there ≡ list_any (bytes_eq bytes) entries
  pub count : sought.count ≡ length entries

-- the key and the value were looked up in the layer (tiles 4.1, 4.4)
pub record AreFound (key value : List ℕ) (layer : Layer) (ordinals : Ordinals) : Type 0 where
  pub key_so : IsSought key (keys layer) ordinals.key
  pub value_so : IsSought value (values layer) ordinals.value

-- a new entry of these bytes, with this tag, unless there is one (tiles 4.1)
abbrev pub entry_unless : Bool → ℕ → List ℕ → List LayerItem
entry_unless there tag bytes = if there then [] else PlainInLayer (new_content tag bytes) ∷ []

-- the entries of the key and of the value that the layer lacks, as `ordinals` says (tiles 4.1)
abbrev pub entries_for : List ℕ → List ℕ → Ordinals → List LayerItem
entries_for key value ordinals = entry_unless ordinals.key.is_there 26 key ++ entry_unless ordinals.value.is_there 34 value

-- the step that puts these items, where there are any, after all items of the layer at this position of the tile
abbrev pub appended : ℕ → List LayerItem → List LayerItem → Change
appended layer items [] = []
appended layer items (item ∷ more) = LayerStep layer (length items) 0 (item ∷ more) ∷ []
