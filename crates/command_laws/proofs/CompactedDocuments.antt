-- A change of layers that are read, and then another, as if both were one.
use Rattle.std.proofs.Common.{◌≡◌, ℕ, zero, suc, ◌-◌, ◌==◌, false, Some, None, Result, Ok, Err, List, [], ◌∷◌, map, slice_get, refl, sym, ap, ◌∙◌, subst, arith}
use Rattle.std.proofs.lemmas.Bool.{ne_eqb}
use Rattle.std.specs.List.{AllByRecursion, last_or}
use Rattle.mvt_document.specs.Plain.{LayerItem, Layer, TileItem, OfLayer, PlainInTile, Document}
use Rattle.mvt_document.specs.Places.{in_layer}
use Rattle.mvt_meaning.specs.Command.{LayerChoice, LayersChoice, TheLayer, EachLayer}
use Rattle.mvt_messages.specs.Views.{contents, features_in, layers, name_of, plain_fields}
use Rattle.mvt_meaning.specs.Selection.{selected, selected_layers}
use Rattle.mvt_meaning.specs.Tagging.{unreadable}
use Rattle.mvt_meaning.specs.Meaning.{◌>>=◌, change_layer, change_layers, change_readable, refuse_first}
use Rattle.mvt_meaning.specs.declared.refusal.Refusal.{Refusal}
use Rattle.mvt_meaning.proofs.Found.{layer_found}
use Rattle.command_laws.proofs.Parts.{with_items}
use Rattle.mvt_select.proofs.Chosen.{the_one_selected}
use Rattle.command_laws.specs.ChangedLayers.{IsSelected}
use Rattle.command_laws.proofs.ChangedLayers.{layers_change, some_same}
use Rattle.command_laws.proofs.Readable.{selected_read}
use Rattle.command_laws.proofs.SameSelected.{same_layer}
use Rattle.command_laws.proofs.Twice.{AreRead, IsRead, all_found_read, all_of, found_read}
use Rattle.command_laws.proofs.Compacted.{EachIsRead}

module _ (first second both : List LayerItem → List LayerItem)
    (names : (items : List LayerItem) → contents 1 (plain_fields (first items)) ≡ contents 1 (plain_fields items))
    (reads : (items : List LayerItem) → EachIsRead items → AreRead (first items) (features_in (first items)))
    (makes : (items : List LayerItem) → EachIsRead items → second (first items) ≡ both items) where
  -- ---- each layer

  abbrev IsReadLayer : Layer → Type 0
  IsReadLayer layer = EachIsRead layer.items

  each_read : (document : Document) → AllByRecursion IsReadLayer (layers document) → AllByRecursion IsRead (layers (map (in_layer first) document))
  each_read [] read = tt
  each_read (OfLayer layer ∷ document) read = (reads layer.items read.0, each_read document read.1)
  each_read (PlainInTile field ∷ document) read = each_read document read

  each_made : (document : Document) → AllByRecursion IsReadLayer (layers document) → map (in_layer second) (map (in_layer first) document) ≡ map (in_layer both) document
  each_made [] read = refl
  each_made (OfLayer layer ∷ document) read =
      let with_these : List LayerItem → TileItem = λ items. OfLayer (record { tag = layer.tag; width = layer.width; items = items }) in
      ap (λ items. with_these items ∷ map (in_layer second) (map (in_layer first) document)) (makes layer.items read.0)
      ∙ ap (λ rest. with_these (both layer.items) ∷ rest) (each_made document read.1)
  each_made (PlainInTile field ∷ document) read = ap (λ rest. PlainInTile field ∷ rest) (each_made document read)

  each_in_turn : (old : Document) → AllByRecursion IsReadLayer (layers old) → change_readable second EachLayer (map (in_layer first) old) ≡ Ok (map (in_layer both) old)
  each_in_turn old read =
      let new = map (in_layer first) old in
      ap (λ bad. refuse_first bad >>= λ readable. change_layers second EachLayer new) (all_found_read 0 0 new (each_read old read)) ∙ ap Ok (each_made old read)

  -- ---- one layer

  name_stays : (layer : Layer) → name_of (with_items first layer) ≡ name_of layer
  name_stays layer = ap (last_or None) (names layer.items)

  names_stay : (ordinal : ℕ) (document : Document) → map name_of (layers (change_layer first ordinal document)) ≡ map name_of (layers document)
  names_stay ordinal [] = refl
  names_stay zero (OfLayer layer ∷ document) = ap (λ name. name ∷ map name_of (layers document)) (name_stays layer)
  names_stay (suc ordinal) (OfLayer layer ∷ document) =
      let less : suc ordinal - 1 ≡ ordinal = omega arith in
      let later : (suc ordinal == 0) ≡ false = ne_eqb (suc ordinal) 0 (λ e. omega arith) in
      rw (later, less) (ap (λ rest. name_of layer ∷ rest) (names_stay ordinal document))
  names_stay ordinal (PlainInTile field ∷ document) = names_stay ordinal document

  made_at : (ordinal : ℕ) (document : Document) → ((layer : Layer) → slice_get (layers document) ordinal ≡ Some layer → IsReadLayer layer) → change_layer second ordinal (change_layer first ordinal document) ≡ change_layer both ordinal document
  made_at ordinal [] read = refl
  made_at zero (OfLayer layer ∷ document) read =
      let with_these : List LayerItem → TileItem = λ items. OfLayer (record { tag = layer.tag; width = layer.width; items = items }) in
      ap (λ items. with_these items ∷ document) (makes layer.items (read layer refl))
  made_at (suc ordinal) (OfLayer layer ∷ document) read =
      let less : suc ordinal - 1 ≡ ordinal = omega arith in
      let later : (suc ordinal == 0) ≡ false = ne_eqb (suc ordinal) 0 (λ e. omega arith) in
      rw (later, less) (rw later (ap (λ rest. OfLayer layer ∷ rest) (made_at ordinal document read)))
  made_at ordinal (PlainInTile field ∷ document) read = ap (λ rest. PlainInTile field ∷ rest) (made_at ordinal document read)

  one_in_turn : (choice : LayerChoice) (old : Document) (ordinal : ℕ) → selected choice old ≡ Ok ordinal → ((layer : Layer) → slice_get (layers old) ordinal ≡ Some layer → IsReadLayer layer) → change_readable second (TheLayer choice) (change_layer first ordinal old) ≡ Ok (change_layer both ordinal old)
  one_in_turn choice old ordinal selects read =
      let new = change_layer first ordinal old in
      let was = the_one_selected choice old ordinal selects in
      let there_was = layer_found old ordinal was.position was.layer was.placed was.there in
      let made : change_layers first (TheLayer choice) old ≡ Ok new = ap (λ (r : Result ℕ Refusal). r >>= λ ordinal. Ok (change_layer first ordinal old)) selects in
      let became = layers_change (λ former present. present ≡ with_items first former) first (TheLayer choice) old new made (λ ordinal layer selects there. refl) in
      let present = became.selects ordinal was.layer selects there_was in
      let still : selected choice new ≡ Ok ordinal = same_layer choice new old (names_stay ordinal old) ∙ selects in
      let is = the_one_selected choice new ordinal still in
      let same : is.layer ≡ with_items first was.layer =
      some_same is.layer present.0 (slice_get (layers new) ordinal) (layer_found new ordinal is.position is.layer is.placed is.there) present.1 ∙ present.2.changed in
      let none : unreadable ((ordinal, (is.position, is.layer)) ∷ []) ≡ [] =
      found_read ordinal is.position is.layer [] (subst IsRead (sym same) (reads was.layer.items (read was.layer there_was))) refl in
      ap (λ found. found >>= λ layers. refuse_first (unreadable layers) >>= λ readable. change_layers second (TheLayer choice) new) is.alone
      ∙ ap (λ bad. refuse_first bad >>= λ readable. change_layers second (TheLayer choice) new) none
      ∙ ap (λ chosen. chosen >>= λ ordinal. Ok (change_layer second ordinal new)) still
      ∙ ap Ok (made_at ordinal old read)

  -- ---- the selected layers

  module _ (old : Document) where
    one_by : (choice : LayerChoice) (selects : Result ℕ Refusal) → selected choice old ≡ selects → ((ordinal : ℕ) (layer : Layer) → selected choice old ≡ Ok ordinal → slice_get (layers old) ordinal ≡ Some layer → IsReadLayer layer) → change_layers both (TheLayer choice) old ≡ (change_layers first (TheLayer choice) old >>= λ new. change_readable second (TheLayer choice) new)
    one_by choice (Err refusal) is read =
        ap (λ (r : Result ℕ Refusal). r >>= λ ordinal. Ok (change_layer both ordinal old)) is
        ∙ sym (ap (λ (r : Result ℕ Refusal). (r >>= λ ordinal. Ok (change_layer first ordinal old)) >>= λ new. change_readable second (TheLayer choice) new) is)
    one_by choice (Ok ordinal) is read =
        ap (λ (r : Result ℕ Refusal). r >>= λ ordinal. Ok (change_layer both ordinal old)) is
        ∙ sym (ap (λ (r : Result ℕ Refusal). (r >>= λ ordinal. Ok (change_layer first ordinal old)) >>= λ new. change_readable second (TheLayer choice) new) is
        ∙ one_in_turn choice old ordinal is (λ layer there. read ordinal layer is there))

    layers_in_turn : (choice : LayersChoice) → ((ordinal : ℕ) (layer : Layer) → IsSelected choice ordinal old → slice_get (layers old) ordinal ≡ Some layer → IsReadLayer layer) → change_layers both choice old ≡ (change_layers first choice old >>= λ new. change_readable second choice new)
    layers_in_turn (TheLayer choice) read = one_by choice (selected choice old) refl read
    layers_in_turn EachLayer read = sym (each_in_turn old (all_of IsReadLayer (layers old) (λ ordinal layer there. read ordinal layer tt there)))

    module _ (choice : LayersChoice) where
      by_readable : (found : List (ℕ × (ℕ × Layer))) (readable : Result (Unit {0}) Refusal) → selected_layers choice old ≡ Ok found → refuse_first (unreadable found) ≡ readable → (readable >>= λ nothing. change_layers both choice old) ≡ ((readable >>= λ nothing. change_layers first choice old) >>= λ new. change_readable second choice new)
      by_readable found (Err refusal) selects is = refl
      by_readable found (Ok nothing) selects is =
          layers_in_turn choice (λ ordinal layer chosen there. selected_read choice old found nothing selects is ordinal layer chosen there)

      by_selected : (selects : Result (List (ℕ × (ℕ × Layer))) Refusal) → selected_layers choice old ≡ selects → (selects >>= λ layers. refuse_first (unreadable layers) >>= λ readable. change_layers both choice old) ≡ ((selects >>= λ layers. refuse_first (unreadable layers) >>= λ readable. change_layers first choice old) >>= λ new. change_readable second choice new)
      by_selected (Err refusal) is = refl
      by_selected (Ok found) is = by_readable found (refuse_first (unreadable found)) is refl

  -- both changes, one after the other, are the one, with its refusals
  pub changes_in_turn : (choice : LayersChoice) (old : Document) → change_readable both choice old ≡ (change_readable first choice old >>= λ new. change_readable second choice new)
  changes_in_turn choice old = by_selected old choice (selected_layers choice old) refl
