-- What becomes of the fields of a message whose numbers are decided on, and how many bytes they take then; what is
-- decided on the numbers of pairs.
use Rattle.std.specs.Prelude.{◌≡◌, ℕ, ◌+◌, Bool, not, List, [], ◌∷◌, Option, Some, None, is_some, length, drop, option_map, if◌then◌else◌}
use Rattle.std.specs.List.{flat_map, list_any}
use Rattle.std.specs.Option.{option_map_or}
use Rattle.mvt_document.specs.Plain.{Field}
use Rattle.mvt_change.specs.FileSizes.{IsFileSize}
use Rattle.mvt_meaning.specs.Ordinals.{count}
use Rattle.mvt_meaning.specs.Tagging.{revalued, without_pairs}
use Rattle.mvt_renumber.specs.Renumbering.{field_numbers}
use Rattle.mvt_renumber.specs.Fates.{field_fate}
use Rattle.mvt_renumber.specs.declared.fate.Fate.{Fate}

-- what becomes of each field of a message, by a decision for each number in the fields of this number, in order
abbrev pub field_fates : ℕ → List (Option ℕ) → List Field → List (Fate Field)
field_fates number decisions [] = []
field_fates number decisions (field ∷ more) = field_fate number decisions field ∷ field_fates number (drop (length (field_numbers number field)) decisions) more

-- where `beside` is the size of some bytes, the other is the size of these and of `more` bytes after them
abbrev pub IsSizeBeside : Option ℕ → ℕ → Option ℕ → Type 0
IsSizeBeside beside more answer = (before : ℕ) → IsFileSize beside before → IsFileSize answer (before + more)

-- some number goes, by a decision for each
abbrev pub is_any_gone : List (Option ℕ) → Bool
is_any_gone decisions = list_any (λ decision. not (is_some decision)) decisions

-- what is decided on each number of these pairs, where `said` gives for each pair what becomes of its two numbers, and
-- whether it counts
abbrev pub decided_by : (ℕ × ℕ → Option ℕ × Option ℕ × Bool) → List (ℕ × ℕ) → List (Option ℕ)
decided_by said pairs = flat_map (λ pair. (said pair).0 ∷ (said pair).1 ∷ []) pairs

-- how many of these pairs count
abbrev pub counted_by : (ℕ × ℕ → Option ℕ × Option ℕ × Bool) → List (ℕ × ℕ) → ℕ
counted_by said pairs = count (λ pair. (said pair).2) pairs

-- there are pairs, their numbers are decided on as `said` gives, and `n` of them count
pub record IsDecided (said : ℕ × ℕ → Option ℕ × Option ℕ × Bool) (pairs : Option (List (ℕ × ℕ))) (decisions : List (Option ℕ)) (n : ℕ) : Type 0 where
  pub decided : option_map (decided_by said) pairs ≡ Some decisions
  pub counted : option_map (counted_by said) pairs ≡ Some n

-- what is decided on the two numbers of a pair: they stay, and where the pair is selected both go, or the second
-- becomes this one (tiles 4.4)
abbrev pub pair_decided : Bool → Option ℕ → ℕ × ℕ → Option ℕ × Option ℕ
pair_decided selects to pair = if selects then option_map_or (λ value. (Some pair.0, Some value)) to (None, None) else (Some pair.0, Some pair.1)

-- the same by the key of the pair, and whether the pair is selected (tiles 4.4)
abbrev pub said_of : (ℕ → Bool) → Option ℕ → ℕ × ℕ → Option ℕ × Option ℕ × Bool
said_of selects to pair = ((pair_decided (selects pair.0) to pair).0, (pair_decided (selects pair.0) to pair).1, selects pair.0)

-- what is decided on each number of these pairs, where the pairs of some keys go, or get this value, and all others stay
-- (tiles 4.4)
abbrev pub pairs_decided : (ℕ → Bool) → Option ℕ → List (ℕ × ℕ) → List (Option ℕ)
pairs_decided selects None pairs = without_pairs selects pairs
pairs_decided selects (Some value) pairs = revalued selects value pairs
