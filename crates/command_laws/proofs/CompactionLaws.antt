-- The laws of compaction about more than one command.
use Rattle.std.proofs.Common.{◌≡◌, ℕ, Bool, Result, Ok, List, refl, sym, ap, ◌∙◌}
use Rattle.mvt_document.specs.Plain.{LayerItem, Document}
use Rattle.mvt_meaning.specs.Command.{LayersChoice, CompactKeys, CompactValues, Compact}
use Rattle.mvt_messages.specs.Views.{content_in, contents, features_in, key_field, plain_fields, value_field}
use Rattle.mvt_meaning.specs.Compaction.{compacted, is_any, is_key_used, is_value_used, staying}
use Rattle.mvt_meaning.specs.Meaning.{◌>>=◌, change_readable}
use Rattle.mvt_meaning.specs.declared.refusal.Refusal.{Refusal}
use Rattle.command_laws.proofs.Staying.{filter_map-apart}
use Rattle.command_laws.proofs.Twice.{AreRead}
use Rattle.command_laws.specs.CompactionLaws.{AgainChangesNothing, CompactIsBoth, is_entry_of, key_of, value_of}
use Rattle.command_laws.proofs.Again.{both_again, keys_again, values_again}
use Rattle.command_laws.proofs.Compacted.{EachIsRead, any_covered, keys_covered, read_staying, values_covered}
use Rattle.command_laws.proofs.CompactedDocuments.{changes_in_turn}
use Rattle.command_laws.proofs.InTurn.{keys_then_values}
use Rattle.command_laws.proofs.Repointed.{none_of_other, plain_new}
use Rattle.command_laws.proofs.Used.{read_new}

-- the names of a layer are neither keys nor values
names : (keys values : List LayerItem → ℕ → Bool) (items : List LayerItem) → contents 1 (plain_fields (compacted keys values items)) ≡ contents 1 (plain_fields items)
names keys values items =
    ap (contents 1) (plain_new (keys items) (values items) items)
    ∙ filter_map-apart (is_entry_of value_field) (values items) (content_in 1) (none_of_other value_field 1 refl) 0 (staying (is_entry_of key_field) (keys items) 0 (plain_fields items))
    ∙ filter_map-apart (is_entry_of key_field) (keys items) (content_in 1) (none_of_other key_field 1 refl) 0 (plain_fields items)

keys_read : (items : List LayerItem) → EachIsRead items → AreRead (compacted is_key_used is_any items) (features_in (compacted is_key_used is_any items))
keys_read items each = read_new (is_key_used items) (is_any items) items (read_staying (is_key_used items) (is_any items) items (keys_covered items) (any_covered value_of items) each)

values_read : (items : List LayerItem) → EachIsRead items → AreRead (compacted is_any is_value_used items) (features_in (compacted is_any is_value_used items))
values_read items each = read_new (is_any items) (is_value_used items) items (read_staying (is_any items) (is_value_used items) items (any_covered key_of items) (values_covered items) each)

both_read : (items : List LayerItem) → EachIsRead items → AreRead (compacted is_key_used is_value_used items) (features_in (compacted is_key_used is_value_used items))
both_read items each = read_new (is_key_used items) (is_value_used items) items (read_staying (is_key_used items) (is_value_used items) items (keys_covered items) (values_covered items) each)

pub compact_is_both : CompactIsBoth
compact_is_both choice old =
    changes_in_turn (compacted is_key_used is_any) (compacted is_any is_value_used) (compacted is_key_used is_value_used) (names is_key_used is_any) keys_read keys_then_values choice old

again : (change : List LayerItem → List LayerItem) → ((choice : LayersChoice) (old : Document) → change_readable change choice old ≡ (change_readable change choice old >>= λ new. change_readable change choice new)) → (choice : LayersChoice) (old new : Document) → change_readable change choice old ≡ Ok new → change_readable change choice new ≡ Ok new
again change turns choice old new e =
    sym (ap (λ (r : Result Document Refusal). r >>= λ new. change_readable change choice new) e) ∙ sym (turns choice old) ∙ e

pub keys_change_nothing : (choice : LayersChoice) → AgainChangesNothing (CompactKeys choice)
keys_change_nothing choice old new e =
    let change = compacted is_key_used is_any in
    again change (changes_in_turn change change change (names is_key_used is_any) keys_read keys_again) choice old new e

pub values_change_nothing : (choice : LayersChoice) → AgainChangesNothing (CompactValues choice)
values_change_nothing choice old new e =
    let change = compacted is_any is_value_used in
    again change (changes_in_turn change change change (names is_any is_value_used) values_read values_again) choice old new e

pub both_change_nothing : (choice : LayersChoice) → AgainChangesNothing (Compact choice)
both_change_nothing choice old new e =
    let change = compacted is_key_used is_value_used in
    again change (changes_in_turn change change change (names is_key_used is_value_used) both_read both_again) choice old new e
