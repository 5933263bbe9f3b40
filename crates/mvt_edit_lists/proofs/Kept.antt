-- The layers that stay.
use Rattle.std.proofs.Common.{◌≡◌, ◌≢◌, ℕ, suc, ◌*◌, ◌<◌, ◌≤◌, Bool, true, false, not, List, [], ◌∷◌, length, map, filter, Ok, Err, refl, sym, ap, ◌∙◌, subst, inl, inr, arith}
use Rattle.std.proofs.lemmas.Bool.{cases_Bool, or_parts, false_from_ne_true, true_from_ne_false}
use Rattle.std.proofs.lemmas.List.{length-map}
use Rattle.std.proofs.lemmas.List.Elements.{filter_agree}
use Rattle.std.proofs.lemmas.List.Sorted.{list_any-IsPermutation}
use Rattle.std.specs.List.{AllByRecursion, flat_map, list_any}
use Rattle.std.specs.List.Sorted.{IsPermutation}
use Rattle.mvt_document.specs.Plain.{TileItem, OfLayer, PlainInTile, Document}
use Rattle.mvt_document.specs.Opens.{IsTileItem}
use Rattle.mvt_document.specs.Wire.{tile_item_bytes}
use Rattle.mvt_messages.specs.Views.{is_named, layers}
use Rattle.mvt_change.specs.Changes.{Change}
use Rattle.mvt_meaning.specs.Command.{KeepLayers}
use Rattle.mvt_meaning.specs.Meaning.{applied, is_kept}
use Rattle.mvt_meaning.specs.declared.refusal.Refusal.TheVariants.{NoLayer}
use Rattle.mvt_edit_steps.specs.Prepared.{IsPrepared}
use Rattle.mvt_edit_steps.proofs.Carrying.{carried, in_the_tile, in_tile}
use Rattle.mvt_edit_steps.proofs.Going.{out, takes_out}

-- an item that goes
abbrev pub goes : List (List ℕ) → TileItem → Bool
goes names item = not (is_kept names item)

-- the order of the names does not matter
pub kept_alike : (names others : List (List ℕ)) → IsPermutation names others → (item : TileItem) → is_kept others item ≡ is_kept names item
kept_alike names others same (OfLayer layer) = sym (list_any-IsPermutation (λ name. is_named name layer) names others same)
kept_alike names others same (PlainInTile field) = refl

abbrev some_stay : List (List ℕ) → Document → Bool
some_stay names document = list_any (λ layer. is_kept names (OfLayer layer)) (layers document)

no_more_go : (names : List (List ℕ)) (document : Document) → length (filter (goes names) document) ≤ length (layers document)
no_more_go names [] = omega arith
no_more_go names (PlainInTile field ∷ document) = no_more_go names document
no_more_go names (OfLayer layer ∷ document) =
    let more = no_more_go names document in
    elim (cases_Bool (is_kept names (OfLayer layer))) [ inl stays ↦ rw stays (omega arith) | inr out ↦ rw out (omega arith) ]

-- all layers go if none stays, and fewer if one does
all_go : (names : List (List ℕ)) (document : Document) → some_stay names document ≡ false → length (filter (goes names) document) ≡ length (layers document)
all_go names [] none = refl
all_go names (PlainInTile field ∷ document) none = all_go names document none
all_go names (OfLayer layer ∷ document) none =
    let parts = or_parts (is_kept names (OfLayer layer)) (some_stay names document) none in
    rw parts.0 (ap suc (all_go names document parts.1))

fewer_go : (names : List (List ℕ)) (document : Document) → some_stay names document ≡ true → length (filter (goes names) document) < length (layers document)
fewer_go names [] some = absurd cc
fewer_go names (PlainInTile field ∷ document) some = fewer_go names document some
fewer_go names (OfLayer layer ∷ document) some =
    let most = no_more_go names document in
    elim (cases_Bool (is_kept names (OfLayer layer))) [
      | inl stays ↦ rw stays (omega arith)
      | inr out ↦ let more = fewer_go names document (rw out at some) in rw out (omega arith)
    ]

pub none_stays : (names : List (List ℕ)) (document : Document) → length (filter (goes names) document) ≡ length (layers document) → applied (KeepLayers names) document ≡ Err NoLayer
none_stays names document all =
    let none : some_stay names document ≡ false = false_from_ne_true (some_stay names document) (λ some. let fewer = fewer_go names document some in omega arith) in
    rw none refl

not_not : (b : Bool) → not (not b) ≡ b
not_not true = refl
not_not false = refl

stays : (names : List (List ℕ)) (document : Document) → filter (λ item. not (goes names item)) document ≡ filter (is_kept names) document
stays names document = filter_agree (λ item. not (goes names item)) (is_kept names) (λ item. not_not (is_kept names item)) document

pub keeps : (names : List (List ℕ)) (document : Document) (change : Change) → change ≡ map in_tile (out (goes names) document) → length (filter (goes names) document) ≢ length (layers document) → 2 * length (filter (goes names) document) ≤ length (flat_map tile_item_bytes (filter (goes names) document)) → IsPrepared (KeepLayers names) document change
keeps names document change steps fewer heavy =
    let splices = out (goes names) document in
    let cut = takes_out (goes names) document in
    let done = carried in_the_tile document document refl splices cut.there (subst (AllByRecursion IsTileItem) (sym cut.puts) tt) in
    let some : some_stay names document ≡ true = true_from_ne_false (some_stay names document) (λ none. fewer (all_go names document none)) in
    let few = cut.few in
    let puts = done.puts ∙ ap (λ new. length (flat_map tile_item_bytes new)) cut.puts in
    let takes = done.takes ∙ ap (λ gone. length (flat_map tile_item_bytes gone)) cut.takes in
    rw steps (record {
      fits = done.fits;
      means = rw some (ap Ok (sym (done.makes ∙ cut.leaves ∙ stays names document)));
      puts = omega arith;
      takes = omega arith;
      steps = omega (arith, length-map splices in_tile);
      one = λ is. absurd cc;
    })
