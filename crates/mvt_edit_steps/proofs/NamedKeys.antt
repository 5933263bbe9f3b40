-- What is decided on the pairs of the keys that are named; and the keys of a layer that have some bytes.
use Rattle.std.proofs.Common.{◌≡◌, ℕ, zero, suc, Bool, false, Option, Some, None, List, [], ◌∷◌, map, option_map, slice_get, refl, sym, ap, ◌∙◌, inl, inr}
use Rattle.std.proofs.lemmas.Bool.{cases_Bool}
use Rattle.std.specs.Option.{option_map_or, unwrap_or}
use Rattle.std.specs.Str.{bytes_eq}
use Rattle.mvt_edit_steps.specs.Decided.{decided_by, pair_decided, pairs_decided, said_of}

-- ---- one more pair

first_decided : (selects : ℕ → Bool) (to : Option ℕ) (pair : ℕ × ℕ) (more : List (ℕ × ℕ)) → pairs_decided selects to (pair ∷ more) ≡ (pair_decided (selects pair.0) to pair).0 ∷ (pair_decided (selects pair.0) to pair).1 ∷ pairs_decided selects to more
first_decided selects None pair more = elim (cases_Bool (selects pair.0)) [ inl gone ↦ rw gone refl | inr stays ↦ rw stays refl ]
first_decided selects (Some value) pair more = elim (cases_Bool (selects pair.0)) [ inl is ↦ rw is refl | inr stays ↦ rw stays refl ]

none_decided : (selects : ℕ → Bool) (to : Option ℕ) → pairs_decided selects to [] ≡ []
none_decided selects None = refl
none_decided selects (Some value) = refl

-- what is said of each pair is what is decided on all
said_list : (selects : ℕ → Bool) (to : Option ℕ) (pairs : List (ℕ × ℕ)) → decided_by (said_of selects to) pairs ≡ pairs_decided selects to pairs
said_list selects to [] = sym (none_decided selects to)
said_list selects to (pair ∷ pairs) =
    let two = pair_decided (selects pair.0) to pair in
    ap (λ more. two.0 ∷ two.1 ∷ more) (said_list selects to pairs) ∙ sym (first_decided selects to pair pairs)

pub said_pairs : (selects : ℕ → Bool) (to : Option ℕ) (found : Option (List (ℕ × ℕ))) → option_map (pairs_decided selects to) found ≡ option_map (decided_by (said_of selects to)) found
said_pairs selects to None = refl
said_pairs selects to (Some pairs) = ap Some (sym (said_list selects to pairs))

-- ---- keys that have these bytes

pub named_at : (key : List ℕ) (keys : List (List ℕ)) (ordinal : ℕ) → unwrap_or (slice_get (map (bytes_eq key) keys) ordinal) false ≡ option_map_or (bytes_eq key) (slice_get keys ordinal) false
named_at key [] zero = refl
named_at key [] (suc ordinal) = refl
named_at key (first ∷ keys) zero = refl
named_at key (first ∷ keys) (suc ordinal) = named_at key keys ordinal
