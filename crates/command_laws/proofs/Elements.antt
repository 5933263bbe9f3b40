-- What holds of each item of a list holds of each after the list is changed.
use Rattle.std.proofs.Common.{◌≡◌, ℕ, zero, suc, ◌+◌, ◌-◌, ◌≤◌, Bool, false, ◌&&◌, not, cond, ltb, ◌==◌, Option, Some, None, List, [], ◌∷◌, ◌++◌, length, length-append, take, drop, map, filter, slice_get, refl, subst, inl, inr, arith}
use Rattle.std.specs.List.{AllByRecursion, flat_map, list_any}
use Rattle.std.specs.Option.{option_map_or}
use Rattle.std.proofs.lemmas.Bool.{cases_Bool, cond_both, ne_eqb}
use Rattle.mvt_document.proofs.EachItem.{all_joined, one_of_all}
use Rattle.mvt_meaning.specs.Compaction.{staying}
use Rattle.mvt_meaning.specs.Ordinals.{from_nth, change_first, change_nth, change_last, put_last, put_once, count, without, before, after, move_nth, insert_nth}
use Rattle.mvt_meaning.proofs.Elements.{all_filtered}

module _ {A : Type 0} (P : A → Type 0) where
  pub all_pushed : (new : A) → P new → (xs : List A) → AllByRecursion P xs → AllByRecursion P (xs ++ new ∷ [])
  all_pushed new valid xs all = all_joined P xs (new ∷ []) all (valid, tt)

  pub all_mapped : (change : A → A) → ((x : A) → P x → P (change x)) → (xs : List A) → AllByRecursion P xs → AllByRecursion P (map change xs)
  all_mapped change keeps [] all = tt
  all_mapped change keeps (x ∷ xs) all = (keeps x all.0, all_mapped change keeps xs all.1)

  all_from_nth : (passes : A → Bool) (change : List A → List A) → ((xs : List A) → AllByRecursion P xs → AllByRecursion P (change xs)) → (ordinal : ℕ) (xs : List A) → AllByRecursion P xs → AllByRecursion P (from_nth passes change ordinal xs)
  all_from_nth passes change keeps ordinal [] all = tt
  all_from_nth passes change keeps ordinal (x ∷ xs) all =
      let next = cond (passes x) (ordinal - 1) ordinal in
      cond_both (passes x && (ordinal == 0)) (change (x ∷ xs)) (x ∷ from_nth passes change next xs) (AllByRecursion P)
      (λ _. keeps (x ∷ xs) all)
      (λ _. (all.0, all_from_nth passes change keeps next xs all.1))

  all_first : (change : A → A) → ((x : A) → P x → P (change x)) → (xs : List A) → AllByRecursion P xs → AllByRecursion P (change_first change xs)
  all_first change keeps [] all = tt
  all_first change keeps (x ∷ xs) all = (keeps x all.0, all.1)

  all_rest : (xs : List A) → AllByRecursion P xs → AllByRecursion P (drop 1 xs)
  all_rest [] all = tt
  all_rest (x ∷ xs) all = all.1

  all_second : (new : A) → P new → (xs : List A) → AllByRecursion P xs → AllByRecursion P (take 1 xs ++ new ∷ drop 1 xs)
  all_second new valid [] all = (valid, tt)
  all_second new valid (x ∷ xs) all = (all.0, (valid, all.1))

  pub all_changed : (passes : A → Bool) (change : A → A) → ((x : A) → P x → P (change x)) → (ordinal : ℕ) (xs : List A) → AllByRecursion P xs → AllByRecursion P (change_nth passes change ordinal xs)
  all_changed passes change keeps ordinal xs all = all_from_nth passes (change_first change) (all_first change keeps) ordinal xs all

  -- the same, where the change keeps what holds of the item of that ordinal
  pub all_changed_at : (passes : A → Bool) (change : A → A) (ordinal : ℕ) (xs : List A) → ((x : A) → slice_get (filter passes xs) ordinal ≡ Some x → P x → P (change x)) → AllByRecursion P xs → AllByRecursion P (change_nth passes change ordinal xs)
  all_changed_at passes change ordinal [] keeps all = tt
  all_changed_at passes change zero (x ∷ xs) keeps all =
      elim (cases_Bool (passes x)) [
        | inl pass ↦ rw pass (keeps x (rw pass refl) all.0, all.1)
        | inr skip ↦ rw skip (all.0, all_changed_at passes change zero xs (λ y is valid. keeps y (rw skip is) valid) all.1)
      ]
  all_changed_at passes change (suc ordinal) (x ∷ xs) keeps all =
      elim (cases_Bool (passes x)) [
        | inl pass ↦
            let less : suc ordinal - 1 ≡ ordinal = omega arith in
            let later : (suc ordinal == 0) ≡ false = ne_eqb (suc ordinal) 0 (λ e. omega arith) in
            rw (pass, less, later) (all.0, all_changed_at passes change ordinal xs (λ y is valid. keeps y (rw pass is) valid) all.1)
        | inr skip ↦ rw skip (all.0, all_changed_at passes change (suc ordinal) xs (λ y is valid. keeps y (rw skip is) valid) all.1)
      ]

  pub all_without : (passes : A → Bool) (ordinal : ℕ) (xs : List A) → AllByRecursion P xs → AllByRecursion P (without passes ordinal xs)
  all_without passes ordinal xs all = all_from_nth passes (λ rest. drop 1 rest) all_rest ordinal xs all

  all_before : (passes : A → Bool) (ordinal : ℕ) (new : A) (xs : List A) → P new → AllByRecursion P xs → AllByRecursion P (before passes ordinal new xs)
  all_before passes ordinal new xs valid all = all_from_nth passes (λ rest. new ∷ rest) (λ rest holds. (valid, holds)) ordinal xs all

  all_after : (passes : A → Bool) (ordinal : ℕ) (new : A) (xs : List A) → P new → AllByRecursion P xs → AllByRecursion P (after passes ordinal new xs)
  all_after passes ordinal new xs valid all = all_from_nth passes (λ rest. take 1 rest ++ new ∷ drop 1 rest) (all_second new valid) ordinal xs all

  moved_by : (passes : A → Bool) (from to : ℕ) (xs : List A) (found : Option A) → slice_get (filter passes xs) from ≡ found → AllByRecursion P xs
      → AllByRecursion P (option_map_or (λ item. cond (ltb from to) (after passes (to - 1) item (without passes from xs)) (cond (ltb to from) (before passes to item (without passes from xs)) xs)) found xs)
  moved_by passes from to xs None is all = all
  moved_by passes from to xs (Some item) is all =
      let out = without passes from xs in
      let rest = all_without passes from xs all in
      let valid = one_of_all P (filter passes xs) from item is (all_filtered P passes xs all) in
      cond_both (ltb from to) (after passes (to - 1) item out) (cond (ltb to from) (before passes to item out) xs) (AllByRecursion P)
      (λ _. all_after passes (to - 1) item out valid rest)
      (λ _. cond_both (ltb to from) (before passes to item out) xs (AllByRecursion P) (λ _. all_before passes to item out valid rest) (λ _. all))

  pub all_moved : (passes : A → Bool) (from to : ℕ) (xs : List A) → AllByRecursion P xs → AllByRecursion P (move_nth passes from to xs)
  all_moved passes from to xs all = moved_by passes from to xs (slice_get (filter passes xs) from) refl all

  pub all_inserted : (passes : A → Bool) (ordinal : ℕ) (new : A) (xs : List A) → P new → AllByRecursion P xs → AllByRecursion P (insert_nth passes ordinal new xs)
  all_inserted passes ordinal new xs valid all =
      let last = after passes (count passes xs - 1) new xs in
      cond_both (ltb ordinal (count passes xs)) (before passes ordinal new xs) (cond (list_any passes xs) last (xs ++ new ∷ [])) (AllByRecursion P)
      (λ _. all_before passes ordinal new xs valid all)
      (λ _. cond_both (list_any passes xs) last (xs ++ new ∷ []) (AllByRecursion P) (λ _. all_after passes (count passes xs - 1) new xs valid all) (λ _. all_pushed new valid xs all))

  pub all_last : (passes : A → Bool) (change : A → A) → ((x : A) → P x → P (change x)) → (xs : List A) → AllByRecursion P xs → AllByRecursion P (change_last passes change xs)
  all_last passes change keeps [] all = tt
  all_last passes change keeps (x ∷ xs) all =
      cond_both (passes x && not (list_any passes xs)) (change x ∷ xs) (x ∷ change_last passes change xs) (AllByRecursion P)
      (λ _. (keeps x all.0, all.1))
      (λ _. (all.0, all_last passes change keeps xs all.1))

  pub all_put : (passes : A → Bool) (change : A → A) (new : A) → ((x : A) → P x → P (change x)) → P new → (xs : List A) → AllByRecursion P xs → AllByRecursion P (put_last passes change new xs)
  all_put passes change new keeps valid xs all =
      cond_both (list_any passes xs) (change_last passes change xs) (xs ++ new ∷ []) (AllByRecursion P)
      (λ _. all_last passes change keeps xs all)
      (λ _. all_pushed new valid xs all)

  pub all_staying : (passes : A → Bool) (stays : ℕ → Bool) (ordinal : ℕ) (xs : List A) → AllByRecursion P xs → AllByRecursion P (staying passes stays ordinal xs)
  all_staying passes stays ordinal [] all = tt
  all_staying passes stays ordinal (x ∷ xs) all =
      let later = all_staying passes stays (ordinal + 1) xs all.1 in
      let following = staying passes stays (ordinal + 1) xs in
      cond_both (passes x) (cond (stays ordinal) (x ∷ following) following) (x ∷ staying passes stays ordinal xs) (AllByRecursion P)
      (λ _. cond_both (stays ordinal) (x ∷ following) following (AllByRecursion P) (λ _. (all.0, later)) (λ _. later))
      (λ _. (all.0, all_staying passes stays ordinal xs all.1))

  pub all_put_once : (passes : A → Bool) (new : A) → P new → (xs : List A) → AllByRecursion P xs → AllByRecursion P (put_once passes new xs)
  all_put_once passes new valid [] all = (valid, tt)
  all_put_once passes new valid (x ∷ xs) all =
      cond_both (passes x) (new ∷ filter (λ y. not (passes y)) xs) (x ∷ put_once passes new xs) (AllByRecursion P)
      (λ _. (valid, all_filtered P (λ y. not (passes y)) xs all.1))
      (λ _. (all.0, all_put_once passes new valid xs all.1))

-- the item of an ordinal changed, where the change keeps what holds of those that are then within a limit
pub all_changed_within : {A : Type 0} (P : A → Type 0) (bytes : A → List ℕ) (limit : ℕ) (passes : A → Bool) (change : A → A) → ((x : A) → P x → length (bytes (change x)) ≤ limit → P (change x)) → (ordinal : ℕ) (xs : List A) → AllByRecursion P xs → length (flat_map bytes (change_nth passes change ordinal xs)) ≤ limit → AllByRecursion P (change_nth passes change ordinal xs)
all_changed_within P bytes limit passes change keeps ordinal [] all within = tt
all_changed_within P bytes limit passes change keeps ordinal (x ∷ xs) all within =
    let next = cond (passes x) (ordinal - 1) ordinal in
    let rest = change_nth passes change next xs in
    cond_both (passes x && (ordinal == 0)) (change x ∷ xs) (x ∷ rest) (λ ys. length (flat_map bytes ys) ≤ limit → AllByRecursion P ys)
    (λ _ within. (keeps x all.0 (omega (arith, within, length-append (bytes (change x)) (flat_map bytes xs))), all.1))
    (λ _ within. (all.0, all_changed_within P bytes limit passes change keeps next xs all.1 (omega (arith, within, length-append (bytes x) (flat_map bytes rest)))))
    within
