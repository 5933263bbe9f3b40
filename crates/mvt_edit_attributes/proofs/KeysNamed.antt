-- For each entry whether it is some bytes, where none is, or only the last.
use Rattle.std.proofs.Common.{◌≡◌, ℕ, zero, suc, ◌+◌, ◌≤◌, Bool, true, false, List, [], ◌∷◌, ◌++◌, length, map, filter, refl, sym, ap, ◌∙◌, inl, inr, arith}
use Rattle.std.specs.Prelude.{replicate, slice_index_or, if◌then◌else◌}
use Rattle.std.proofs.lemmas.Bool.{cases_Bool}
use Rattle.std.specs.List.{enumerate_from, list_any}
use Rattle.std.specs.Str.{bytes_eq}
use Rattle.mvt_meaning.specs.Tagging.{entry_ordinal}

module _ (bytes : List ℕ) where
  -- the ordinal of the first that is these bytes, or the end, where the first of all has this one
  abbrev first_of : ℕ → List (List ℕ) → ℕ → ℕ
  first_of k entries end = slice_index_or (map (λ (p : ℕ × List ℕ). p.0) (filter (λ (p : ℕ × List ℕ). bytes_eq bytes p.1) (enumerate_from k entries))) 0 end

  -- `n` that are not, and one that is, if there is one
  abbrev pub and_one : ℕ → Bool → List Bool
  and_one n there = replicate n false ++ (if there then true ∷ [] else [])

  named_from : (k end n : ℕ) (entries : List (List ℕ)) → end ≡ k + length entries → first_of k entries end ≡ k + n → length entries ≤ n + 1 → map (bytes_eq bytes) entries ≡ and_one n (list_any (bytes_eq bytes) entries)
  named_from k end zero [] long at few = refl
  named_from k end (suc n) [] long at few = absurd (omega (arith, long, at))
  named_from k end zero (x ∷ (y ∷ more)) long at few = absurd (omega (arith, few))
  named_from k end zero (x ∷ []) long at few =
      elim (cases_Bool (bytes_eq bytes x)) [
        | inl is ↦ rw is refl
        | inr other ↦ absurd (let later = rw other at at in omega (arith, later, long))
      ]
  named_from k end (suc n) (x ∷ entries) long at few =
      let next : k + suc n ≡ k + 1 + n = omega arith in
      let all : end ≡ k + 1 + length entries = omega (arith, long) in
      elim (cases_Bool (bytes_eq bytes x)) [
        | inl is ↦ absurd (let first = rw is at at in omega (arith, first))
        | inr other ↦ (let later = rw other at at in rw other (ap (λ more. false ∷ more) (named_from (k + 1) end n entries all (later ∙ next) (omega (arith, few)))))
      ]

  -- where the first that is these bytes is the last of all, or there is none
  pub none_or_last : (n : ℕ) (entries : List (List ℕ)) → n ≡ entry_ordinal bytes entries → length entries ≤ n + 1 → map (bytes_eq bytes) entries ≡ and_one n (list_any (bytes_eq bytes) entries)
  none_or_last n entries at few =
      let first : n ≡ 0 + n = omega arith in
      named_from 0 (length entries) n entries (omega arith) (sym at ∙ first) few
