-- The selected layers, each changed by steps of its own.
use Rattle.std.proofs.Common.{◌≡◌, ℕ, ◌+◌, zero, suc, Some, Result, Ok, Err, List, [], ◌∷◌, ◌++◌, length, append_assoc, map, slice_get, refl, sym, ap, ◌∙◌, subst, arith}
use Rattle.std.specs.List.{AllByRecursion, enumerate_from, filter_map, flat_map}
use Rattle.mvt_document.specs.Plain.{Field, Layer, LayerItem, TileItem, OfLayer, PlainInTile, Document}
use Rattle.mvt_document.specs.Wire.{field_bytes}
use Rattle.mvt_document.specs.Places.{change_items, in_layer}
use Rattle.mvt_document.proofs.EachItem.{one_of_all}
use Rattle.mvt_change.specs.Changes.{Change, Fits, go, turn, weight}
use Rattle.mvt_messages.specs.Found.{found_layers, with_position}
use Rattle.mvt_messages.specs.Views.{layer_in}
use Rattle.mvt_meaning.specs.Command.{LayerChoice, LayersChoice, TheLayer, EachLayer}
use Rattle.mvt_meaning.specs.Meaning.{change_layers}
use Rattle.mvt_meaning.specs.Selection.{selected, selected_layers}
use Rattle.mvt_meaning.specs.declared.refusal.Refusal.{Refusal}
use Rattle.mvt_meaning.proofs.Between.{get_between}
use Rattle.mvt_meaning.proofs.Found.{change_layer_found}
use Rattle.mvt_select.proofs.Chosen.{the_one_selected}
use Rattle.mvt_edit_steps.proofs.Come.{Come, both_come, change_between, none_come, numbered, one_longer}

-- what holds for a layer, where the item is one
abbrev pub InTile : (Layer → Type 0) → TileItem → Type 0
InTile Holds (OfLayer layer) = Holds layer
InTile Holds (PlainInTile field) = Unit {0}

-- for each layer that was found
abbrev pub each_found : {A : Type 0} → (ℕ × Layer → List A) → List (ℕ × (ℕ × Layer)) → List A
each_found f found = flat_map (λ (at : ℕ × (ℕ × Layer)). f at.1) found

abbrev placed_layers : ℕ → List TileItem → List (ℕ × Layer)
placed_layers n items = filter_map (with_position layer_in) (enumerate_from n items)

same_list : (one other : List (ℕ × (ℕ × Layer))) (r : Result (List (ℕ × (ℕ × Layer))) Refusal) → r ≡ Ok one → r ≡ Ok other → one ≡ other
same_list one other r is is_too = let both = sym is ∙ is_too in cc

-- the steps of a layer that is found with its position, what it becomes, and the fields that are put and taken out,
-- where this holds for the layer
module _ (steps_of : ℕ × Layer → Change) (change : List LayerItem → List LayerItem) (puts_of takes_of : ℕ × Layer → List Field) (Holds : Layer → Type 0) where
  -- the steps of a layer result in that, in any tile
  abbrev pub Comes : Type 0
  Comes = (position : ℕ) (layer : Layer) (document : Document) → slice_get document position ≡ Some (OfLayer layer) → Holds layer → Come (steps_of (position, layer)) document (change_items change position document) (puts_of (position, layer)) (takes_of (position, layer))

  -- what the steps make of the document is what the change of the selected layers makes
  pub record Made (choice : LayersChoice) (document : Document) (found : List (ℕ × (ℕ × Layer))) : Type 0 where
    pub made : Document
    pub means : change_layers change choice document ≡ Ok made
    pub come : Come (each_found steps_of found) document made (each_found puts_of found) (each_found takes_of found)

  module _ (comes : Comes) where
    layers_come : (front rest : List TileItem) (n : ℕ) → length front ≡ n → AllByRecursion (InTile Holds) rest
        → Come (flat_map steps_of (placed_layers n rest)) (front ++ rest) (front ++ map (in_layer change) rest) (flat_map puts_of (placed_layers n rest)) (flat_map takes_of (placed_layers n rest))
    layers_come front [] n e all = record { fits = tt; makes = refl; puts_so = refl; takes_so = refl; few_so = omega arith }
    layers_come front (PlainInTile field ∷ rest) n e all =
        let more = layers_come (front ++ PlainInTile field ∷ []) rest (n + 1) (one_longer front (PlainInTile field) n e) all.1 in
        let list = placed_layers (n + 1) rest in
        subst (λ d. Come (flat_map steps_of list) d (front ++ PlainInTile field ∷ map (in_layer change) rest) (flat_map puts_of list) (flat_map takes_of list)) (append_assoc front (PlainInTile field ∷ []) rest)
        (subst (λ d. Come (flat_map steps_of list) ((front ++ PlainInTile field ∷ []) ++ rest) d (flat_map puts_of list) (flat_map takes_of list)) (append_assoc front (PlainInTile field ∷ []) (map (in_layer change) rest)) more)
    layers_come front (OfLayer layer ∷ rest) n e all =
        let item = in_layer change (OfLayer layer) in
        let list = placed_layers (n + 1) rest in
        let document = front ++ OfLayer layer ∷ rest in
        let half = (front ++ item ∷ []) ++ rest in
        let first = comes n layer document (get_between front (OfLayer layer) rest n e) all.0 in
        let made : change_items change n document ≡ half = change_between (in_layer change) front (OfLayer layer) rest n e ∙ sym (append_assoc front (item ∷ []) rest) in
        let first_so : Come (steps_of (n, layer)) document half (puts_of (n, layer)) (takes_of (n, layer)) =
        record { fits = first.fits; makes = first.makes ∙ made; puts_so = first.puts_so; takes_so = first.takes_so; few_so = first.few_so } in
        let more = layers_come (front ++ item ∷ []) rest (n + 1) (one_longer front item n e) all.1 in
        subst (λ d. Come (steps_of (n, layer) ++ flat_map steps_of list) document d (puts_of (n, layer) ++ flat_map puts_of list) (takes_of (n, layer) ++ flat_map takes_of list)) (append_assoc front (item ∷ []) (map (in_layer change) rest))
        (both_come (steps_of (n, layer)) (flat_map steps_of list) document half ((front ++ item ∷ []) ++ map (in_layer change) rest) (puts_of (n, layer)) (flat_map puts_of list) (takes_of (n, layer)) (flat_map takes_of list) first_so more)

    -- for each layer of a tile
    all_come : (document : Document) → AllByRecursion (InTile Holds) document
        → Come (each_found steps_of (found_layers document)) document (map (in_layer change) document) (each_found puts_of (found_layers document)) (each_found takes_of (found_layers document))
    all_come document all =
        let come = layers_come [] document 0 refl all in
        let list = placed_layers 0 document in
        let steps = numbered steps_of 0 list in
        let puts = ap (λ fields. length (flat_map field_bytes fields)) (numbered puts_of 0 list) in
        let takes = ap (λ fields. length (flat_map field_bytes fields)) (numbered takes_of 0 list) in
        record {
          fits = subst (λ s. Fits s document) (sym steps) come.fits;
          makes = ap (λ s. go s document) steps ∙ come.makes;
          puts_so = ap weight steps ∙ come.puts_so ∙ sym puts;
          takes_so = ap (λ s. weight (turn s document)) steps ∙ come.takes_so ∙ sym takes;
          few_so = omega (arith, come.few_so, ap length steps, puts, takes);
        }

    one_made : (choice : LayerChoice) (document : Document) (found : List (ℕ × (ℕ × Layer))) (ordinal : ℕ) → selected choice document ≡ Ok ordinal → selected_layers (TheLayer choice) document ≡ Ok found → AllByRecursion (InTile Holds) document → Made (TheLayer choice) document found
    one_made choice document found ordinal selects is all =
        let one = the_one_selected choice document ordinal selects in
        let at : ℕ × (ℕ × Layer) = (ordinal, (one.position, one.layer)) in
        let here : at ∷ [] ≡ found = same_list (at ∷ []) found (selected_layers (TheLayer choice) document) one.alone is in
        let changed = change_items change one.position document in
        let come = comes one.position one.layer document one.there (one_of_all (InTile Holds) document one.position (OfLayer one.layer) one.there all) in
        subst (Made (TheLayer choice) document) here (record {
          made = changed;
          means = rw selects (ap Ok (change_layer_found document ordinal one.position one.layer one.placed one.there change));
          come = both_come (steps_of at.1) [] document changed changed (puts_of at.1) [] (takes_of at.1) [] come (none_come changed);
        })

    chosen_made : (choice : LayerChoice) (document : Document) (found : List (ℕ × (ℕ × Layer))) (r : Result ℕ Refusal) → selected choice document ≡ r → selected_layers (TheLayer choice) document ≡ Ok found → AllByRecursion (InTile Holds) document → Made (TheLayer choice) document found
    chosen_made choice document found (Ok ordinal) selects is all = one_made choice document found ordinal selects is all
    chosen_made choice document found (Err refusal) selects is all = absurd (let refused = rw selects at is in cc)

    pub layers_made : (choice : LayersChoice) (document : Document) (found : List (ℕ × (ℕ × Layer))) → selected_layers choice document ≡ Ok found → AllByRecursion (InTile Holds) document → Made choice document found
    layers_made (TheLayer choice) document found is all = chosen_made choice document found (selected choice document) refl is all
    layers_made EachLayer document found is all =
        subst (Made EachLayer document) (same_list (found_layers document) found (selected_layers EachLayer document) refl is) (record { made = map (in_layer change) document; means = refl; come = all_come document all })

-- if no layer is selected, a change is refused
module _ (change : List LayerItem → List LayerItem) where
  none_chosen : (choice : LayerChoice) (document : Document) (refusal : Refusal) (r : Result ℕ Refusal) → selected choice document ≡ r → selected_layers (TheLayer choice) document ≡ Err refusal → change_layers change (TheLayer choice) document ≡ Err refusal
  none_chosen choice document refusal (Ok ordinal) selects is = absurd (let chosen = rw selects at is in cc)
  none_chosen choice document refusal (Err other) selects is = let same : other ≡ refusal = (let refused = rw selects at is in cc) in rw selects (ap Err same)

  pub none_made : (choice : LayersChoice) (document : Document) (refusal : Refusal) → selected_layers choice document ≡ Err refusal → change_layers change choice document ≡ Err refusal
  none_made (TheLayer choice) document refusal is = none_chosen choice document refusal (selected choice document) refl is
  none_made EachLayer document refusal is = absurd cc
