-- What results from the items of an iterator.
use Rattle.std.proofs.Common.{◌≡◌, ◌≤◌, ◌<◌, ◌^◌, Option, Some, None, List, [], ◌∷◌, ◌++◌, length, map, option_map, refl, ap, ◌∙◌, arith}
use Rattle.mvt_document.proofs.Lists.{cons_no_more}
use Rattle.std.proofs.lemmas.List.{length-map}
use Rattle.std.proofs.lemmas.Iterator.{YieldsList, items_from_drains}
use Rattle.std.specs.Iterator.{AlwaysYields, Drains}
use Rattle.std.specs.List.{filter_map, last_or}

pub map_last : {A B : Type 0} (v : A → B) (o : Option A) (xs : List A) → option_map v (last_or o xs) ≡ last_or (option_map v o) (map v xs)
map_last v o [] = refl
map_last v o (x ∷ xs) = map_last v (Some x) xs

-- the last item that comes
pub last_from_yields_List : {S A B : Type 0} {steps : S → Option A → S → Type 0} {v : A → B} {s : S} {all : List B} (r : Option A) → (xs : List A) × Drains steps s xs × (r ≡ last_or None xs) → YieldsList steps v s all → option_map v r ≡ last_or None all
last_from_yields_List {v = v} r ran e =
    let drained = ran.1 in
    let items = items_from_drains ran.0 (drained.1.0, drained.1.1, λ _. (drained.0, drained.1.2)) e in
    ap (option_map v) ran.2 ∙ map_last v None ran.0 ∙ ap (last_or None) items

-- no more is picked than there are items
pub length-filter_map : {A B : Type 0} (h : A → Option B) (xs : List A) → length (filter_map h xs) ≤ length xs
length-filter_map h [] = omega arith
length-filter_map h (x ∷ xs) = cons_no_more (h x) (filter_map h xs) (length xs) (length-filter_map h xs)

pub picked_fit : {X A B : Type 0} (view : X → A) (h : A → Option B) (xs : List X) → length xs < 2 ^ 64 → length (filter_map h (map view xs)) < 2 ^ 64
picked_fit view h xs fits = omega (arith, length-filter_map h (map view xs), length-map xs view, fits)

pub twice_picked_within : {X A B C : Type 0} (view : X → A) (h : A → Option B) (k : B → Option C) (xs : List X) → length (filter_map k (filter_map h (map view xs))) ≤ length xs
twice_picked_within view h k xs = omega (arith, length-filter_map k (filter_map h (map view xs)), length-filter_map h (map view xs), length-map xs view)

pub always_from_yields_List : {S A B : Type 0} {steps : S → Option A → S → Type 0} {v : A → B} {s : S} {all : List B} → YieldsList steps v s all → AlwaysYields steps v s all
always_from_yields_List e = e.runs

-- the last of two lists, one after the other
pub last_joined : {A : Type 0} (last : Option A) (xs ys : List A) → last_or last (xs ++ ys) ≡ last_or (last_or last xs) ys
last_joined last [] ys = refl
last_joined last (x ∷ xs) ys = last_joined (Some x) xs ys
