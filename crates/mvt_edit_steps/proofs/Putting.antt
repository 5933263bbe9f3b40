-- What puts an item in place of the last one that passes, from the list of the program.
use Rattle.std.proofs.Common.{◌≡◌, ℕ, Bool, true, Bor, Option, Some, None, List, [], ◌∷◌, length, map, slice_get, refl, sym, ap, ◌∙◌, subst}
use Rattle.std.proofs.lemmas.List.{length-map}
use Rattle.std.proofs.lemmas.Option.{slice_get-map, slice_get_past, slice_get_read}
use Rattle.std.specs.Option.{IfSome, option_copied, option_map_or, unwrap_or}
use Rattle.std.specs.Slice.{IsItemAt}
use Rattle.mvt_meaning.specs.Ordinals.{put_last}
use Rattle.mvt_edit_steps.specs.PutsLast.{ReplacesLast}
use Rattle.mvt_edit_steps.proofs.PutLast.{IsPutLast, index_of, last_of, put_last_at, put_of, taken_of}

-- ---- what is put

replaces_last : {A : Type 0} (valid : A → Type 0) (bytes : A → List ℕ) (passes : A → Bool) (change : A → A) (new : A) (xs : List A) (last : Option ℕ) (index taken : ℕ) (item : A) → IsPutLast passes change new bytes xs last → index ≡ index_of last xs → taken ≡ taken_of last → item ≡ put_of change new last xs → valid item → ReplacesLast valid bytes passes xs (put_last passes change new xs) index taken (item ∷ [])
replaces_last valid bytes passes change new xs last index taken item is index_is taken_is item_is valid_item =
    let after = put_last passes change new xs in
    subst (λ at. ReplacesLast valid bytes passes xs after at taken (item ∷ [])) (sym index_is)
    (subst (λ count. ReplacesLast valid bytes passes xs after (index_of last xs) count (item ∷ [])) (sym taken_is)
    (subst (λ put. ReplacesLast valid bytes passes xs after (index_of last xs) (taken_of last) (put ∷ [])) (sym item_is) (record {
      can = record { within = is.within; valid_put = (subst valid item_is valid_item, tt) };
      makes = is.made;
      puts = is.put;
      takes = is.taken;
    })))

-- ---- the old item, as the program sees it

pub item_seen : {X : Type 0} (xs : List X) (i : ℕ) (o : Option (Bor X)) → IsItemAt xs i o → option_copied o ≡ slice_get xs i
item_seen xs i None is = sym (slice_get_past xs i is.3)
item_seen xs i (Some x) is = sym (slice_get_read xs (length xs) i x.now refl is.3.0 is.1)

module _ {X A : Type 0} (view : X → A) (passes : A → Bool) (change : A → A) (new : A) (given : passes new ≡ true) (kept : (x : A) → passes x ≡ true → passes (change x) ≡ true) (bytes : A → List ℕ) where
  pub old_or_new : (xs : List X) (i : ℕ) (o : Option (Bor X)) → option_copied o ≡ slice_get xs i → option_map_or (λ old. change (view old.now)) o new ≡ option_map_or change (slice_get (map view xs) i) new
  old_or_new xs i None e = rw (slice_get-map view xs i, ← e) refl
  old_or_new xs i (Some old) e = rw (slice_get-map view xs i, ← e) refl

  old_passing : (xs : List X) (i : ℕ) (o : Option (Bor X)) → option_copied o ≡ slice_get xs i → IfSome (slice_get (map view xs) i) (λ x. passes x ≡ true) → IfSome o (λ old. passes (view old.now) ≡ true)
  old_passing xs i None e is = tt
  old_passing xs i (Some old) e is = rw (slice_get-map view xs i, ← e) at is

  index_seen : (xs : List X) (last : Option ℕ) (index : ℕ) → index ≡ unwrap_or last (length xs) → index ≡ index_of last (map view xs)
  index_seen xs last index e = e ∙ ap (unwrap_or last) (sym (length-map xs view))

  pub old_passes : (xs : List X) (last : Option ℕ) (index : ℕ) (o : Option (Bor X)) → last ≡ last_of passes (map view xs) → index ≡ unwrap_or last (length xs) → IsItemAt xs index o → IfSome o (λ old. passes (view old.now) ≡ true)
  old_passes xs last index o last_is index_is lookup =
      let is = put_last_at passes change new bytes (map view xs) last given kept (sym last_is) in
      old_passing xs index o (item_seen xs index o lookup) (subst (λ at. IfSome (slice_get (map view xs) at) (λ x. passes x ≡ true)) (sym (index_seen xs last index index_is)) is.old)

  pub run_puts : (valid : A → Type 0) (xs : List X) (last : Option ℕ) (index taken : ℕ) (o : Option (Bor X)) (item : X) (list : List X) → last ≡ last_of passes (map view xs) → index ≡ unwrap_or last (length xs) → taken ≡ taken_of last → IsItemAt xs index o → view item ≡ option_map_or (λ old. change (view old.now)) o new → valid (view item) → list ≡ item ∷ [] → ReplacesLast valid bytes passes (map view xs) (put_last passes change new (map view xs)) index taken (map view list)
  run_puts valid xs last index taken o item list last_is index_is taken_is lookup item_is valid_item list_is =
      let is = put_last_at passes change new bytes (map view xs) last given kept (sym last_is) in
      let at = index_seen xs last index index_is in
      let put = item_is ∙ old_or_new xs index o (item_seen xs index o lookup) ∙ ap (λ i. option_map_or change (slice_get (map view xs) i) new) at in
      subst (λ items. ReplacesLast valid bytes passes (map view xs) (put_last passes change new (map view xs)) index taken (map view items)) (sym list_is)
      (replaces_last valid bytes passes change new (map view xs) last index taken (view item) is at taken_is put valid_item)
