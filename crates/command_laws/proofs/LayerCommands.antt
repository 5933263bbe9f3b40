-- What an accepted command on layers makes of a tile.
use Rattle.std.proofs.Common.{◌≡◌, ◌≢◌, ℕ, ◌<◌, Bool, true, not, Ok, List, [], ◌∷◌, filter, length, nat_lt, refl, sym, ap, ◌∙◌, inl, inr, subst}
use Rattle.std.proofs.lemmas.Bool.{cases_Bool, not-false, ltb-true}
use Rattle.std.specs.List.{list_any}
use Rattle.mvt_document.specs.Plain.{OfLayer, PlainInTile, Document}
use Rattle.mvt_messages.specs.Views.{layer_in, layers}
use Rattle.mvt_meaning.specs.Ordinals.{move_nth, without}
use Rattle.mvt_meaning.specs.Selection.{is_layer, selected}
use Rattle.mvt_meaning.specs.Meaning.{◌>>=◌, is_kept, layer_count, refuse_if}
use Rattle.mvt_meaning.specs.declared.refusal.Refusal.TheVariants.{BadPlace, NoLayer}
use Rattle.mvt_meaning.proofs.Selecting.{selected_within}
use Rattle.command_laws.specs.Kept.{field_in, tile_fields}
use Rattle.command_laws.specs.LayerLaws.{AreKept, DropLayerDrops, IsDropped, IsMoved, IsPartOf, KeepLayersKeeps, MoveLayerMoves, has_one_of}
use Rattle.command_laws.proofs.Accepted.{accepted, not_refused}
use Rattle.command_laws.proofs.Around.{around, one_less, one_moved}
use Rattle.command_laws.proofs.Parts.{layer_apart}

-- ---- moves and drops

is_moved : (from to : ℕ) (document : Document) → from < length (layers document) → to < length (layers document) → IsMoved from to document (move_nth is_layer from to document)
is_moved from to document there within =
    let m = one_moved layer_in field_in layer_apart from to document there within in
    record { there = m.there; others = m.others; fields = m.fields; items = m.items }

pub move_layer_moves : MoveLayerMoves
move_layer_moves choice index old new e =
    let selects = accepted (selected choice old) (λ ordinal. refuse_if (not (nat_lt index (layer_count old))) BadPlace >>= λ there. Ok (move_nth is_layer ordinal index old)) new e in
    let there = accepted (refuse_if (not (nat_lt index (layer_count old))) BadPlace) (λ there. Ok (move_nth is_layer selects.0 index old)) new selects.2 in
    let within = ltb-true index (layer_count old) (not-false (nat_lt index (layer_count old)) (not_refused (not (nat_lt index (layer_count old))) BadPlace there.0 there.1)) in
    let made : move_nth is_layer selects.0 index old ≡ new = let same = there.2 in cc in
    (selects.0, selects.1, subst (IsMoved selects.0 index old) made (is_moved selects.0 index old (selected_within choice old selects.0 selects.1) within))

is_dropped : (ordinal : ℕ) (document : Document) → ordinal < length (layers document) → IsDropped ordinal document (without is_layer ordinal document)
is_dropped ordinal document within =
    let d = one_less layer_in field_in layer_apart ordinal document (around layer_in document ordinal within) in
    record { others = d.others; fields = d.fields; items = d.items }

pub drop_layer_drops : DropLayerDrops
drop_layer_drops choice old new e =
    let selects = accepted (selected choice old) (λ ordinal. Ok (without is_layer ordinal old)) new e in
    let made : without is_layer selects.0 old ≡ new = let same = selects.2 in cc in
    (selects.0, selects.1, subst (IsDropped selects.0 old) made (is_dropped selects.0 old (selected_within choice old selects.0 selects.1)))

-- ---- layers that are kept

layers_kept : (names : List (List ℕ)) (document : Document) → layers (filter (is_kept names) document) ≡ filter (has_one_of names) (layers document)
layers_kept names [] = refl
layers_kept names (PlainInTile field ∷ document) = layers_kept names document
layers_kept names (OfLayer layer ∷ document) =
    elim (cases_Bool (has_one_of names layer)) [
      | inl kept ↦ rw kept (ap (λ rest. layer ∷ rest) (layers_kept names document))
      | inr gone ↦ rw gone (layers_kept names document)
    ]

fields_kept : (names : List (List ℕ)) (document : Document) → tile_fields (filter (is_kept names) document) ≡ tile_fields document
fields_kept names [] = refl
fields_kept names (PlainInTile field ∷ document) = ap (λ rest. field ∷ rest) (fields_kept names document)
fields_kept names (OfLayer layer ∷ document) =
    elim (cases_Bool (has_one_of names layer)) [
      | inl kept ↦ rw kept (fields_kept names document)
      | inr gone ↦ rw gone (fields_kept names document)
    ]

some_kept : {A : Type 0} (passes : A → Bool) (xs : List A) → list_any passes xs ≡ true → filter passes xs ≢ []
some_kept passes [] e = absurd cc
some_kept passes (x ∷ xs) e =
    elim (cases_Bool (passes x)) [
      | inl pass ↦ (λ none. let some = rw pass at none in cc)
      | inr skip ↦ (λ none. some_kept passes xs (rw skip at e) (rw skip at none))
    ]

part_of_more : {A : Type 0} (xs : List A) (y : A) (ys : List A) → IsPartOf xs ys → IsPartOf xs (y ∷ ys)
part_of_more [] y ys part = tt
part_of_more (x ∷ xs) y ys part = inr part

filter_part : {A : Type 0} (passes : A → Bool) (xs : List A) → IsPartOf (filter passes xs) xs
filter_part passes [] = tt
filter_part passes (x ∷ xs) =
    elim (cases_Bool (passes x)) [
      | inl pass ↦ rw pass (inl (refl, filter_part passes xs))
      | inr skip ↦ rw skip (part_of_more (filter passes xs) x xs (filter_part passes xs))
    ]

are_kept : (names : List (List ℕ)) (document : Document) → list_any (has_one_of names) (layers document) ≡ true → AreKept names document (filter (is_kept names) document)
are_kept names document some = record {
  kept = layers_kept names document;
  some = λ none. some_kept (has_one_of names) (layers document) some (sym (layers_kept names document) ∙ none);
  fields = fields_kept names document;
  items = filter_part (is_kept names) document;
}

pub keep_layers_keeps : KeepLayersKeeps
keep_layers_keeps names old new e =
    let some = accepted (refuse_if (not (list_any (has_one_of names) (layers old))) NoLayer) (λ some. Ok (filter (is_kept names) old)) new e in
    let any = not-false (list_any (has_one_of names) (layers old)) (not_refused (not (list_any (has_one_of names) (layers old))) NoLayer some.0 some.1) in
    let made : filter (is_kept names) old ≡ new = let same = some.2 in cc in
    subst (AreKept names old) made (are_kept names old any)
