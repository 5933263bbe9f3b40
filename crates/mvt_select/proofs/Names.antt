-- The positions of the names of a layer.
use Rattle.std.proofs.Common.{◌≡◌, ℕ, ◌+◌, Option, Some, None, List, [], ◌∷◌, map, option_map, filter, refl, ap, ◌∙◌}
use Rattle.std.specs.Prelude.{is_some, if◌then◌else◌}
use Rattle.std.specs.List.{cons_option, enumerate_from, filter_map, last_or}
use Rattle.mvt_document.specs.Plain.{LayerItem, OfFeature, PlainInLayer}
use Rattle.mvt_messages.specs.Found.{placed_from, with_position}
use Rattle.mvt_layers.specs.Pools.{entry_in, found_entries}
use Rattle.mvt_layers.proofs.Yielded.{map_last}
use Rattle.mvt_meaning.specs.Meaning.{is_name}
use Rattle.mvt_meaning.specs.Ordinals.{positions_of}
use Rattle.mvt_meaning.proofs.Positions.{positions_from}

position_more : {A B : Type 0} (found : Option B) (position : ℕ) (x : A) (placed : List (ℕ × B)) (passed : List (ℕ × A)) → map (λ (p : ℕ × B). p.0) placed ≡ map (λ (p : ℕ × A). p.0) passed
    → map (λ (p : ℕ × B). p.0) (cons_option (option_map (λ found. (position, found)) found) placed) ≡ map (λ (p : ℕ × A). p.0) (if is_some found then (position, x) ∷ passed else passed)
position_more None position x placed passed e = e
position_more (Some found) position x placed passed e = ap (λ more. position ∷ more) e

-- the entries of number 1 are where the names are
entries_named : (position : ℕ) (items : List LayerItem) → map (λ (p : ℕ × List ℕ). p.0) (filter_map (with_position (entry_in 1)) (enumerate_from position items)) ≡ positions_from is_name position items
entries_named position [] = refl
entries_named position (OfFeature feature ∷ items) = entries_named (position + 1) items
entries_named position (PlainInLayer field ∷ items) =
    position_more (entry_in 1 (PlainInLayer field)) position (PlainInLayer field) (filter_map (with_position (entry_in 1)) (enumerate_from (position + 1) items)) (filter (λ (p : ℕ × LayerItem). is_name p.1) (enumerate_from (position + 1) items)) (entries_named (position + 1) items)

numbered_positions : {B : Type 0} (ordinal : ℕ) (placed : List (ℕ × B)) → map (λ (f : ℕ × (ℕ × B)). f.1.0) (enumerate_from ordinal placed) ≡ map (λ (p : ℕ × B). p.0) placed
numbered_positions ordinal [] = refl
numbered_positions ordinal (x ∷ placed) = ap (λ more. x.0 ∷ more) (numbered_positions (ordinal + 1) placed)

-- the last entry of number 1 is where the last name is
pub last_named : (items : List LayerItem) → option_map (λ (found : ℕ × (ℕ × List ℕ)). found.1.0) (last_or None (found_entries 1 items)) ≡ last_or None (positions_of is_name items)
last_named items =
    map_last (λ found. found.1.0) None (found_entries 1 items)
    ∙ ap (last_or None) (numbered_positions 0 (placed_from (entry_in 1) 0 items) ∙ entries_named 0 items)
