-- The first entry that is some bytes, and its ordinal among the entries.
use Rattle.std.proofs.Common.{◌≡◌, ℕ, suc, ◌+◌, Bool, Option, Some, None, is_some, List, [], ◌∷◌, length, map, filter, option_map, refl, sym, ap, ◌∙◌, inl, inr, arith}
use Rattle.mvt_select.proofs.Named.{bytes_eq-flip}
use Rattle.std.proofs.lemmas.Bool.{cases_Bool}
use Rattle.std.proofs.lemmas.List.{length-map}
use Rattle.std.proofs.lemmas.Slice.Eq.{bytes_eq-Decides}
use Rattle.std.specs.Prelude.{slice_index_or}
use Rattle.std.specs.List.{cons_option, enumerate_from, filter_map, find, list_any}
use Rattle.std.specs.Option.{option_map_or}
use Rattle.std.specs.Str.{bytes_eq}
use Rattle.mvt_document.specs.Plain.{LayerItem, OfFeature, PlainInLayer}
use Rattle.mvt_messages.specs.Found.{with_position}
use Rattle.mvt_layers.specs.Pools.{entry_in, first_equal, found_entries}
use Rattle.mvt_layers.specs.Seen.{found_entry_seen}
use Rattle.mvt_messages.specs.Views.{content_in, contents, plain_fields}
use Rattle.mvt_layers.specs.declared.found.FoundEntry.{FoundEntry}
use Rattle.mvt_meaning.specs.Tagging.{entry_ordinal}

-- ---- entries with their positions

one_placed : (n position : ℕ) (content : Option (List ℕ)) (rest : List (ℕ × List ℕ)) → map (λ (at : ℕ × List ℕ). at.1) (cons_option (option_map (λ found. (position, found)) content) rest) ≡ cons_option content (map (λ (at : ℕ × List ℕ). at.1) rest)
one_placed n position None rest = refl
one_placed n position (Some bytes) rest = refl

placed_contents : (n position : ℕ) (items : List LayerItem) → map (λ (at : ℕ × List ℕ). at.1) (filter_map (with_position (entry_in n)) (enumerate_from position items)) ≡ contents n (plain_fields items)
placed_contents n position [] = refl
placed_contents n position (OfFeature feature ∷ items) = placed_contents n (position + 1) items
placed_contents n position (PlainInLayer field ∷ items) =
    one_placed n position (content_in n field) (filter_map (with_position (entry_in n)) (enumerate_from (position + 1) items)) ∙ ap (cons_option (content_in n field)) (placed_contents n (position + 1) items)

-- ---- the first that is these bytes

module _ (bytes : List ℕ) where
  abbrev is : ℕ × (ℕ × List ℕ) → Bool
  is entry = bytes_eq entry.1.1 bytes

  first_ordinal : (k : ℕ) (placed : List (ℕ × List ℕ)) → option_map_or (λ (entry : ℕ × (ℕ × List ℕ)). entry.0) (find is (enumerate_from k placed)) (k + length placed) ≡ slice_index_or (map (λ (p : ℕ × List ℕ). p.0) (filter (λ (p : ℕ × List ℕ). bytes_eq bytes p.1) (enumerate_from k (map (λ (at : ℕ × List ℕ). at.1) placed)))) 0 (k + length placed)
  first_ordinal k [] = refl
  first_ordinal k (at ∷ placed) =
      let swapped = bytes_eq-flip bytes at.1 in
      let long : k + suc (length placed) ≡ k + 1 + length placed = omega arith in
      elim (cases_Bool (bytes_eq at.1 bytes)) [
        | inl here ↦ (let there = swapped ∙ here in rw (here, there) refl)
        | inr other ↦ (let none = swapped ∙ other in rw (other, none, long) (first_ordinal (k + 1) placed))
      ]

  first_there : (k : ℕ) (placed : List (ℕ × List ℕ)) → is_some (find is (enumerate_from k placed)) ≡ list_any (bytes_eq bytes) (map (λ (at : ℕ × List ℕ). at.1) placed)
  first_there k [] = refl
  first_there k (at ∷ placed) =
      let swapped = bytes_eq-flip bytes at.1 in
      elim (cases_Bool (bytes_eq at.1 bytes)) [
        | inl here ↦ (let there = swapped ∙ here in rw (here, there) refl)
        | inr other ↦ (let none = swapped ∙ other in rw (other, none) (first_there (k + 1) placed))
      ]

  -- its ordinal, or that of a further entry
  pub ordinal_found : (n : ℕ) (items : List LayerItem) → option_map_or (λ (entry : ℕ × (ℕ × List ℕ)). entry.0) (first_equal bytes (found_entries n items)) (length (contents n (plain_fields items))) ≡ entry_ordinal bytes (contents n (plain_fields items))
  ordinal_found n items =
      let placed = filter_map (with_position (entry_in n)) (enumerate_from 0 items) in
      let same = placed_contents n 0 items in
      let mapped = ap length (sym same) ∙ length-map placed (λ (at : ℕ × List ℕ). at.1) in
      let long : length (contents n (plain_fields items)) ≡ 0 + length placed = omega (arith, mapped) in
      ap (option_map_or (λ (entry : ℕ × (ℕ × List ℕ)). entry.0) (find is (enumerate_from 0 placed))) long
      ∙ first_ordinal 0 placed
      ∙ ap (slice_index_or (map (λ (p : ℕ × List ℕ). p.0) (filter (λ (p : ℕ × List ℕ). bytes_eq bytes p.1) (enumerate_from 0 (map (λ (at : ℕ × List ℕ). at.1) placed)))) 0) (sym long)
      ∙ ap (λ entries. slice_index_or (map (λ (p : ℕ × List ℕ). p.0) (filter (λ (p : ℕ × List ℕ). bytes_eq bytes p.1) (enumerate_from 0 entries))) 0 (length (contents n (plain_fields items)))) same

  -- and whether it is there
  pub entry_found : (n : ℕ) (items : List LayerItem) → is_some (first_equal bytes (found_entries n items)) ≡ list_any (bytes_eq bytes) (contents n (plain_fields items))
  entry_found n items = first_there 0 (filter_map (with_position (entry_in n)) (enumerate_from 0 items)) ∙ ap (list_any (bytes_eq bytes)) (placed_contents n 0 items)

-- ---- the same for an entry of the program

seen_ordinal : (found : Option FoundEntry) (count : ℕ) → option_map_or (λ (entry : FoundEntry). entry.ordinal) found count ≡ option_map_or (λ (entry : ℕ × (ℕ × List ℕ)). entry.0) (option_map found_entry_seen found) count
seen_ordinal None count = refl
seen_ordinal (Some entry) count = refl

seen_there : (found : Option FoundEntry) → is_some found ≡ is_some (option_map found_entry_seen found)
seen_there None = refl
seen_there (Some entry) = refl

module _ (bytes : List ℕ) (n : ℕ) (items : List LayerItem) (found : Option FoundEntry) (is_first : option_map found_entry_seen found ≡ first_equal bytes (found_entries n items)) where
  pub ordinal_is : (count : ℕ) → count ≡ length (contents n (plain_fields items)) → option_map_or (λ (entry : FoundEntry). entry.ordinal) found count ≡ entry_ordinal bytes (contents n (plain_fields items))
  ordinal_is count long =
      ap (option_map_or (λ (entry : FoundEntry). entry.ordinal) found) long
      ∙ seen_ordinal found (length (contents n (plain_fields items)))
      ∙ ap (λ seen. option_map_or (λ (entry : ℕ × (ℕ × List ℕ)). entry.0) seen (length (contents n (plain_fields items)))) is_first
      ∙ ordinal_found bytes n items

  pub entry_is_there : is_some found ≡ list_any (bytes_eq bytes) (contents n (plain_fields items))
  entry_is_there = seen_there found ∙ ap (λ seen. is_some seen) is_first ∙ entry_found bytes n items
