-- The pairs of the features of a layer that are left, and how many each has: those of the first, and those after it.
use Rattle.std.proofs.Common.{◌≡◌, ℕ, ◌≤◌, List, ◌∷◌, ◌++◌, length, length-append, map, take, drop, sym, ap, ◌∙◌, arith}
use Rattle.std.proofs.lemmas.List.{drop-map, length-map, take-map}
use Rattle.std.proofs.Math.Seq.{take-append_seam, drop-append_seam}
use Rattle.mvt_document.specs.Plain.{Feature, LayerItem}
use Rattle.mvt_layers.specs.Seen.{pair_seen}
use Rattle.mvt_layers.specs.declared.attributes.Pair.{Pair}
use Rattle.mvt_edit_pools.specs.Marks.{pair_counts, pairs_at}
use Rattle.mvt_edit_pools.proofs.Marking.{pairs_left}

-- the first feature's own pairs, and what is kept of the features after it
pub record FirstAndRest (items : List LayerItem) (at : ℕ × (ℕ × Feature)) (rest : List (ℕ × (ℕ × Feature))) (front back : List Pair) (following : List ℕ) : Type 0 where
  pub own : map pair_seen front ≡ pairs_at items at
  pub pairs : map pair_seen back ≡ pairs_left items rest
  pub counts : following ≡ pair_counts items rest

module _ (items : List LayerItem) (at : ℕ × (ℕ × Feature)) (left rest : List (ℕ × (ℕ × Feature))) (pairs : List Pair) (counts following : List ℕ) (count : ℕ)
    (first : left ≡ at ∷ rest) (kept : map pair_seen pairs ≡ pairs_left items left) (counted : counts ≡ pair_counts items left) (split : counts ≡ count ∷ following) where
  counts_split : count ∷ following ≡ length (pairs_at items at) ∷ pair_counts items rest
  counts_split = sym split ∙ counted ∙ ap (pair_counts items) first

  own_count : count ≡ length (pairs_at items at)
  own_count = let both = counts_split in cc

  pairs_split : map pair_seen pairs ≡ pairs_at items at ++ pairs_left items rest
  pairs_split = kept ∙ ap (pairs_left items) first

  pub there : count ≤ length pairs
  there =
      let whole = sym (length-map pairs pair_seen) ∙ ap length pairs_split ∙ length-append (pairs_at items at) (pairs_left items rest) in
      omega (arith, whole, own_count)

  cut : (part : ℕ → List (ℕ × ℕ) → List (ℕ × ℕ)) → part count (map pair_seen pairs) ≡ part (length (pairs_at items at)) (pairs_at items at ++ pairs_left items rest)
  cut part = ap (part count) pairs_split ∙ ap (λ n. part n (pairs_at items at ++ pairs_left items rest)) own_count

  pub first_and_rest : (front back : List Pair) → front ≡ take count pairs → back ≡ drop count pairs → FirstAndRest items at rest front back following
  first_and_rest front back is_front is_back = record {
    own = ap (map pair_seen) is_front ∙ sym (take-map pair_seen count pairs) ∙ cut take ∙ take-append_seam (pairs_at items at) (pairs_left items rest);
    pairs = ap (map pair_seen) is_back ∙ sym (drop-map pair_seen count pairs) ∙ cut drop ∙ drop-append_seam (pairs_at items at) (pairs_left items rest);
    counts = let both = counts_split in cc;
  }
