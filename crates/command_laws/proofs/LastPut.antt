-- The last item with a part, where it was changed or a new one was added at the end.
use Rattle.std.proofs.Common.{◌≡◌, suc, ◌-◌, ◌<◌, Bool, true, false, ◌&&◌, ◌||◌, not, is_some, Option, Some, None, List, [], ◌∷◌, ◌++◌, filter, length, refl, ap, ◌∙◌, inl, inr, arith}
use Rattle.mvt_document.proofs.Lists.{last_pushed}
use Rattle.std.proofs.lemmas.Bool.{cases_Bool, and_left}
use Rattle.std.proofs.lemmas.List.{append-nil}
use Rattle.std.proofs.lemmas.List.Elements.{filter_map-append, filter-append}
use Rattle.std.specs.List.{filter_map, cons_option, list_any, last_or}
use Rattle.mvt_meaning.specs.Ordinals.{change_last, put_last}
use Rattle.mvt_meaning.proofs.Positions.{change_later, change_here}
use Rattle.command_laws.specs.Kept.{all_but_last}
use Rattle.command_laws.proofs.Around.{has_part, no_parts, some_parts}

front_next : {B : Type 0} (found : Option B) (parts : List B) (value : B) → 0 < length parts → cons_option found (all_but_last parts ++ value ∷ []) ≡ all_but_last (cons_option found parts) ++ value ∷ []
front_next found [] value some = absurd (omega arith)
front_next None (part ∷ parts) value some = refl
front_next (Some first) (part ∷ parts) value some =
    let less : suc (length parts) - 1 ≡ length parts = omega arith in
    let more : suc (suc (length parts)) - 1 ≡ suc (length parts) = omega arith in
    rw (less, more) refl

alone_last : {B : Type 0} (found : Option B) (value : B) → is_some found ≡ true → value ∷ [] ≡ all_but_last (cons_option found []) ++ value ∷ []
alone_last None value e = absurd cc
alone_last (Some first) value e = refl

here_alone : (passes later : Bool) → (passes || later) ≡ true → later ≡ false → passes ≡ true
here_alone true later e none = refl
here_alone false later e none = absurd cc

change_skip : {A : Type 0} (passes : A → Bool) (change : A → A) (x : A) (xs : List A) → passes x ≡ false → change_last passes change (x ∷ xs) ≡ x ∷ change_last passes change xs
change_skip passes change x xs skip = let no : (passes x && not (list_any passes xs)) ≡ false = and_left (passes x) (not (list_any passes xs)) skip in rw no refl

module _ {A B : Type 0} (part : A → Option B) (change : A → A) (value : B) (gives : (x : A) → is_some (part x) ≡ true → part (change x) ≡ Some value) where
  parts_changed : (items : List A) → list_any (has_part part) items ≡ true → filter_map part (change_last (has_part part) change items) ≡ all_but_last (filter_map part items) ++ value ∷ []
  parts_changed [] e = absurd cc
  parts_changed (x ∷ xs) e =
      elim (cases_Bool (list_any (has_part part) xs)) [
        | inl later ↦ rw (change_later (has_part part) change x xs later) (ap (cons_option (part x)) (parts_changed xs later) ∙ front_next (part x) (filter_map part xs) value (some_parts part xs later))
        | inr none ↦ (
            let here = here_alone (is_some (part x)) (list_any (has_part part) xs) e none in
            rw (change_here (has_part part) change x xs here none, gives x here, no_parts part xs none) (alone_last (part x) value here)
            )
      ]

  -- the parts are the former ones, except for the last
  pub parts_put : (new : A) (items : List A) → part new ≡ Some value → filter_map part (put_last (has_part part) change new items) ≡ all_but_last (filter_map part items) ++ value ∷ []
  parts_put new items has =
      elim (cases_Bool (list_any (has_part part) items)) [
        | inl some ↦ rw some (parts_changed items some)
        | inr none ↦ rw (none, filter_map-append, no_parts part items none, has) refl
      ]

  -- the part of the last item
  pub last_put : (new : A) (items : List A) → part new ≡ Some value → last_or None (filter_map part (put_last (has_part part) change new items)) ≡ Some value
  last_put new items has = ap (last_or None) (parts_put new items has) ∙ last_pushed None (all_but_last (filter_map part items)) value

  others_below : (x : A) (xs ys : List A) → filter (λ y. not (is_some (part y))) ys ≡ filter (λ y. not (is_some (part y))) xs → filter (λ y. not (is_some (part y))) (x ∷ ys) ≡ filter (λ y. not (is_some (part y))) (x ∷ xs)
  others_below x xs ys same = elim (cases_Bool (is_some (part x))) [ inl pass ↦ rw pass same | inr skip ↦ rw skip (ap (λ rest. x ∷ rest) same) ]

  others_here : (x : A) (xs : List A) → is_some (part x) ≡ true → filter (λ y. not (is_some (part y))) (change x ∷ xs) ≡ filter (λ y. not (is_some (part y))) (x ∷ xs)
  others_here x xs here = rw (here, gives x here) refl

  others_kept : (items : List A) → filter (λ x. not (is_some (part x))) (change_last (has_part part) change items) ≡ filter (λ x. not (is_some (part x))) items
  others_kept [] = refl
  others_kept (x ∷ xs) =
      elim (cases_Bool (list_any (has_part part) xs)) [
        | inl later ↦ rw (change_later (has_part part) change x xs later) (others_below x xs (change_last (has_part part) change xs) (others_kept xs))
        | inr none ↦ elim (cases_Bool (is_some (part x))) [
          | inl here ↦ rw (change_here (has_part part) change x xs here none) (others_here x xs here)
          | inr skip ↦ rw (change_skip (has_part part) change x xs skip) (others_below x xs (change_last (has_part part) change xs) (others_kept xs))
        ]
      ]

  -- the items without a part
  pub others_put : (new : A) (items : List A) → part new ≡ Some value → filter (λ x. not (is_some (part x))) (put_last (has_part part) change new items) ≡ filter (λ x. not (is_some (part x))) items
  others_put new items has =
      elim (cases_Bool (list_any (has_part part) items)) [
        | inl some ↦ rw some (others_kept items)
        | inr none ↦ rw (none, filter-append, has) (append-nil (filter (λ x. not (is_some (part x))) items))
      ]
