use Rattle.std.proofs.Common.{rules, arith, ◌≡◌, ℕ, ◌-◌, ◌<◌, List, [], ◌∷◌, ◌++◌, length, take, drop, slice_set, slice_index_or, sym, ap}
use Rattle.std.proofs.lemmas.List.{take_rest}
use Rattle.test_devices.proofs.drip.DripSourceSource.read.Goals as goal

moved_first : (rest buffer : List ℕ) → 0 < length rest → 0 < length buffer
    → rest ≡ take 1 (slice_set buffer 0 (slice_index_or rest 0 0)) ++ take (length rest - 1) (drop 1 rest)
moved_first [] buffer h k = absurd (omega arith)
moved_first (x ∷ rest) [] h k = absurd (omega arith)
moved_first (x ∷ rest) (y ∷ buffer) h k = ap (λ (t : List ℕ). x ∷ t) (sym (take_rest (x ∷ rest) 1))

pub returns-clause-bytes : goal.returns-clause-bytes
returns-clause-bytes c = λ h. (moved_first _ _ (search rules) (search rules), λ none. absurd (omega arith))
