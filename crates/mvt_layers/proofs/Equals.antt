-- The first entry that equals given bytes, and how many entries there are.
use Rattle.std.proofs.Common.{◌≡◌, ℕ, ◌+◌, Option, Some, Result, Ok, Err, List, length, map, option_map, sym, ap, ◌∙◌, arith}
use Rattle.std.specs.Prelude.{IfErr, IfOk}
use Rattle.std.specs.List.{enumerate_from}
use Rattle.std.specs.Result.{result_ok}
use Rattle.mvt_document.specs.declared.document.LayerItem.{LayerItem}
use Rattle.mvt_document.specs.declared.run.Run.{Run}
use Rattle.mvt_document.specs.Kinds.{is_entry}
use Rattle.mvt_document.specs.Runs.{IsRunOf}
use Rattle.mvt_document.specs.Stands.{layer_item_of}
use Rattle.mvt_messages.specs.Found.{found_from, placed_from}
use Rattle.mvt_messages.specs.Views.{contents, plain_fields}
use Rattle.mvt_layers.specs.Pools.{entry_in, first_equal}
use Rattle.mvt_layers.specs.Seen.{found_entry_seen}
use Rattle.mvt_layers.specs.declared.found.FoundEntry.{FoundEntry}
use Rattle.mvt_layers.proofs.InRun.{is_found_entry, none_before, none_after, placed_contents, placed_past}

-- where a part that was looked at goes up to the last item, none of the rest is left
pub equal_ended : (number : ℕ) (bytes : List ℕ) (items : List LayerItem) (whole part : Option (ℕ × (ℕ × List ℕ))) (result : Result FoundEntry ℕ) → whole ≡ part
    → IfOk result (λ found. part ≡ Some (found_entry_seen found))
    → IfErr result (λ next. part ≡ first_equal bytes (found_from (entry_in number) next (length items) (map layer_item_of items)))
    → option_map found_entry_seen (result_ok result) ≡ whole
equal_ended number bytes items whole part (Ok found) same is none = sym (same ∙ is)
equal_ended number bytes items whole part (Err next) same is none = sym (same ∙ none ∙ ap (λ (placed : List (ℕ × List ℕ)). first_equal bytes (enumerate_from next placed)) (placed_past number items))

pub counted_ended : (number : ℕ) (items : List LayerItem) (whole part : ℕ) (result : Result FoundEntry ℕ) → whole ≡ part
    → IfErr result (λ next. part ≡ next + length (placed_from (entry_in number) (length items) (map layer_item_of items)))
    → IfErr result (λ count. count ≡ whole)
counted_ended number items whole part (Ok found) same is = tt
counted_ended number items whole part (Err next) same is = omega (arith, same, is, ap length (placed_past number items))

-- as many as are counted up to the end of the run, and those after it
pub counted_in_run : (number : ℕ) (run : Run) (items : List LayerItem) (next : ℕ) → IsRunOf (is_entry number) run items
    → 0 + length (placed_from (entry_in number) run.first (map layer_item_of items)) ≡ next + length (placed_from (entry_in number) (run.first + run.count) (map layer_item_of items))
    → next + length (placed_from (entry_in number) run.until (map layer_item_of items)) ≡ length (contents number (plain_fields (map layer_item_of items)))
counted_in_run number run items next h counted =
    let front = ap length (none_before layer_item_of (entry_in number) (is_entry number) (is_found_entry number) run items h) in
    let back = ap length (none_after layer_item_of (entry_in number) (is_entry number) (is_found_entry number) run items h) in
    omega (arith, counted, front, back, placed_contents number (map layer_item_of items))
