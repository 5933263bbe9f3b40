-- Actions on documents of the program: that they keep room, what the plain steps are, and what leads back.
use Rattle.std.proofs.Common.{◌≡◌, ℕ, zero, suc, List, [], ◌∷◌, length, map, Option, Some, None, option_map, refl, ap, ◌∙◌, subst, arith}
use Rattle.std.specs.Option.{IfSome, IsSomeAnd, option_and_then}
use Rattle.std.proofs.lemmas.List.{length-map}
use Rattle.mvt_document.specs.Held.{Held}
use Rattle.mvt_document.specs.Plain as plain
use Rattle.mvt_document.specs.Splicing.{splice, moved}
use Rattle.mvt_document.specs.Lists.{CanMove, CanSplice, change_at}
use Rattle.mvt_document.specs.Places.{items_in, fields_in, fields_in_at, in_layer, in_feature}
use Rattle.mvt_document.specs.Bodies.{number_of}
use Rattle.mvt_document.specs.Stands.{field_of, layer_item_of, tile_item_of, document_of}
use Rattle.mvt_document.specs.HeldPlaces.{held_items_in, held_fields_in, held_items_at, held_fields_in_at, in_held_layer, in_held_feature, change_held_at}
use Rattle.mvt_document.specs.declared.document.LayerItem.{LayerItem}
use Rattle.mvt_document.specs.declared.document.LayerItem.TheVariants as in_layer_item
use Rattle.mvt_document.specs.declared.document.TileItem.{TileItem}
use Rattle.mvt_document.specs.declared.document.TileItem.TheVariants as in_tile_item
use Rattle.mvt_document.specs.declared.document.Document.{Document}
use Rattle.mvt_change.specs.Changes.{Place, OfTheTile, OfTheLayer, OfTheFeature, list_at, change_list, IsItemAt, go_step, FitsStep, turn_step, taken_out}
use Rattle.mvt_change.specs.HeldLists.{plain_item, held_list_at, change_held_list, KeepsItemAt}
use Rattle.mvt_change.specs.ChangeStands.{Action, SpliceAt, MoveAt, plain_step}
use Rattle.mvt_change.specs.Room.{KeepsList, KeepsDocument}
use Rattle.mvt_change.specs.HeldChanges.{exchanged, held_moved, held_taken_out, HasHeldPart, HasRoom, CanMoveHeld, go_action, FindsAction, ActionHasRoom, IsTurnedAction}
use Rattle.mvt_document.proofs.Options.{where_some, some_each, if_each, some_mapped, mapped_some}
use Rattle.mvt_change.proofs.Changed.{map-part, map-splice, map-moved}
use Rattle.mvt_change.proofs.Keeping.{document_order, exchanged_keeps, moved_keeps, room_keeps, can_move_keeps, leads_back, move_leads_back, back_has_room, move_back_fits}
use Rattle.mvt_change.proofs.Lenses.{find_at, found_there, through_found}
use Rattle.mvt_change.proofs.HeldLenses.{list_part, order_at, changed_keeps, found_keeps, leads_there}

-- ---- in documents that are the same

pub action_keeps : (action : Action) (a b : Document) → KeepsDocument a b → KeepsDocument (go_action action a) (go_action action b)
action_keeps (SpliceAt place index taken put) a b keeps = changed_keeps place (exchanged index taken put) (exchanged_keeps (order_at place) index taken put) a b keeps
action_keeps (MoveAt place from to) a b keeps = changed_keeps place (held_moved from to) (moved_keeps (KeepsItemAt place) from to) a b keeps

pub action_room_keeps : (action : Action) (a b : Document) → KeepsDocument a b → ActionHasRoom action a → ActionHasRoom action b
action_room_keeps (SpliceAt place index taken put) a b keeps has = found_keeps place (HasRoom index taken put) (room_keeps (KeepsItemAt place) index taken put) a b keeps has
action_room_keeps (MoveAt place from to) a b keeps has = found_keeps place (CanMoveHeld from to) (can_move_keeps (KeepsItemAt place) from to) a b keeps has

-- an action that has room finds its list
pub room_finds : (action : Action) (document : Document) → ActionHasRoom action document → FindsAction action document
room_finds (SpliceAt place index taken put) document has = some_each (held_list_at place document) (HasRoom index taken put) (HasHeldPart index taken) (λ list room. room.within) has
room_finds (MoveAt place from to) document has = has

-- ---- a list of a document of the program stands for that of the plain one, and so does what is made of it

abbrev plain_list : {T P : Type 0} → (T → P) → Held T → List P
plain_list g list = map g list.items

-- the plain part is that of the part that is found, and the plain change of the whole is that of the change, where this
-- holds for the part
record Stands {X Y B : Type 0} (h : X → Y) (found : Option X) (plain_found : Option Y) (made : (X → X) → B) (plain_made : (Y → Y) → B) : Type 0 where
  pub finds : plain_found ≡ option_map h found
  pub makes : (F : X → X) (G : Y → Y) → ((x : X) → h (F x) ≡ G (h x)) → made F ≡ plain_made G

module _ {A B X Y : Type 0} (find : A → Option X) (change : (X → X) → A → A) (plain_find : B → Option Y) (plain_change : (Y → Y) → B → B) (g : A → B) (h : X → Y) where
  abbrev StandsIn : A → Type 0
  StandsIn a = Stands h (find a) (plain_find (g a)) (λ F. g (change F a)) (λ G. plain_change G (g a))

  stands_at : ((a : A) → StandsIn a) → (at : ℕ) (items : List A) → Stands h (find_at find at items) (find_at plain_find at (map g items)) (λ F. map g (change_at (change F) at items)) (λ G. change_at (plain_change G) at (map g items))
  stands_at each at [] = record { finds = refl; makes = λ F G so. refl }
  stands_at each zero (a ∷ items) = record { finds = (each a).finds; makes = λ F G so. ap (λ b. b ∷ map g items) ((each a).makes F G so) }
  stands_at each (suc at) (a ∷ items) =
      let rest = stands_at each at items in
      record { finds = rest.finds; makes = λ F G so. ap (λ bs. g a ∷ bs) (rest.makes F G so) }

layer_stands : (item : TileItem) → StandsIn held_items_in in_held_layer items_in in_layer tile_item_of (plain_list layer_item_of) item
layer_stands (in_tile_item.Layer layer) =
    let with : List plain.LayerItem → plain.TileItem = λ items. plain.OfLayer (record { tag = number_of layer.tag; width = layer.width; items = items }) in
    record { finds = refl; makes = λ F G so. ap with (so layer.items) }
layer_stands (in_tile_item.Plain field) = record { finds = refl; makes = λ F G so. refl }

feature_stands : (item : LayerItem) → StandsIn held_fields_in in_held_feature fields_in in_feature layer_item_of (plain_list field_of) item
feature_stands (in_layer_item.Feature feature) =
    let with : List plain.Field → plain.LayerItem = λ fields. plain.OfFeature (record { tag = number_of feature.tag; width = feature.width; fields = fields }) in
    record { finds = refl; makes = λ F G so. ap with (so feature.fields) }
feature_stands (in_layer_item.Plain field) = record { finds = refl; makes = λ F G so. refl }

list_stands : (place : Place) (document : Document) → StandsIn (held_list_at place) (change_held_list place) (list_at place) (change_list place) document_of (plain_list (plain_item place)) document
list_stands OfTheTile document = record { finds = refl; makes = λ F G so. so document.items }
list_stands (OfTheLayer layer) document = stands_at held_items_in in_held_layer items_in in_layer tile_item_of (plain_list layer_item_of) layer_stands layer document.items.items
list_stands (OfTheFeature layer item) document =
    let first = stands_at held_items_in in_held_layer items_in in_layer tile_item_of (plain_list layer_item_of) layer_stands layer document.items.items in
    let second = λ (list : Held LayerItem). stands_at held_fields_in in_held_feature fields_in in_feature layer_item_of (plain_list field_of) feature_stands item list.items in
    record {
      finds = ap (option_and_then (fields_in_at item)) first.finds ∙ through_found (held_fields_in_at item) (fields_in_at item) (plain_list layer_item_of) (plain_list field_of) (λ list. (second list).finds) (held_items_at layer document);
      makes = λ F G so. first.makes (change_held_at (in_held_feature F) item) (change_at (in_feature G) item) (λ list. (second list).makes F G so);
    }

-- ---- an action is the plain step on the plain document

pub action_stands : (action : Action) (document : Document) → document_of (go_action action document) ≡ go_step (plain_step action) (document_of document)
action_stands (SpliceAt place index taken put) document =
    (list_stands place document).makes (exchanged index taken put) (splice index taken (plain_list (plain_item place) put)) (λ list. map-splice (plain_item place) index taken put.items list.items)
action_stands (MoveAt place from to) document = (list_stands place document).makes (held_moved from to) (moved from to) (λ list. map-moved (plain_item place) from to list.items)

taken_stands : {T P : Type 0} (g : T → P) (index taken : ℕ) (o : Option (Held T)) → map g (held_taken_out index taken o) ≡ taken_out index taken (option_map (plain_list g) o)
taken_stands g index taken None = refl
taken_stands g index taken (Some list) = map-part g index taken list.items

pub turned_stands : (action : Action) (document : Document) (next : Action) → IsTurnedAction action document next → plain_step next ≡ turn_step (plain_step action) (document_of document)
turned_stands (SpliceAt place index taken put) document next (back, is, leads) =
    rw (is, length-map put.items (plain_item place), leads.items, taken_stands (plain_item place) index taken (held_list_at place document), (list_stands place document).finds)
turned_stands (MoveAt place from to) document next is = ap plain_step is

-- one that fits finds its list
pub fits_finds : (action : Action) (document : Document) → FitsStep (plain_step action) (document_of document) → FindsAction action document
fits_finds (SpliceAt place index taken put) document fits =
    let g = plain_item place in
    let Can = CanSplice (IsItemAt place) index taken (map g put.items) in
    mapped_some (plain_list g) (held_list_at place document) (HasHeldPart index taken) Can (λ list can. omega (arith, length-map list.items g, can.within)) (subst (λ o. IsSomeAnd o Can) (list_stands place document).finds fits)
fits_finds (MoveAt place from to) document fits =
    let g = plain_item place in
    mapped_some (plain_list g) (held_list_at place document) (CanMoveHeld from to) (CanMove from to) (λ list can. record { there = omega (arith, length-map list.items g, can.there); within = omega (arith, length-map list.items g, can.within) }) (subst (λ o. IsSomeAnd o (CanMove from to)) (list_stands place document).finds fits)

-- ---- a turned action has room on what came after, and leads back from there

-- the action that leads back has room where the first was carried out, and leads back
back_has : (action : Action) (document : Document) (next : Action) → FindsAction action document → IsTurnedAction action document next → ActionHasRoom next (go_action action document)
back_has (SpliceAt place index taken put) document next finds (back, is, leads) =
    rw is
    (found_there (list_part place document) (exchanged index taken put) (HasRoom index (length put.items) back)
    (where_some (held_list_at place document) (HasHeldPart index taken) (λ o. back.items ≡ held_taken_out index taken o → IsSomeAnd (option_map (exchanged index taken put) o) (HasRoom index (length put.items) back)) (λ x there is. back_has_room index taken put back x there is leads.room) finds leads.items))
back_has (MoveAt place from to) document next finds is =
    rw is (found_there (list_part place document) (held_moved from to) (CanMoveHeld to from) (some_mapped (held_moved from to) (held_list_at place document) (CanMoveHeld from to) (CanMoveHeld to from) (move_back_fits from to) finds))

back_leads : (action : Action) (document : Document) (next : Action) → FindsAction action document → IsTurnedAction action document next → KeepsDocument document (go_action next (go_action action document))
back_leads (SpliceAt place index taken put) document next finds (back, is, leads) =
    rw is
    (leads_there place (exchanged index taken put) (exchanged index (length put.items) back) document
    (where_some (held_list_at place document) (HasHeldPart index taken) (λ o. back.items ≡ held_taken_out index taken o → IfSome o (λ x. KeepsList (KeepsItemAt place) x (exchanged index (length put.items) back (exchanged index taken put x)))) (leads_back (order_at place) index taken put back) finds leads.items))
back_leads (MoveAt place from to) document next finds is =
    rw is (leads_there place (held_moved from to) (held_moved to from) document (if_each (held_list_at place document) (CanMoveHeld from to) _ (move_leads_back (order_at place) from to) finds))

module _ (action : Action) (document : Document) (next : Action) (after : Document) (finds : FindsAction action document) (is : IsTurnedAction action document next) (keeps : KeepsDocument (go_action action document) after) where
  pub turned_room : ActionHasRoom next after
  turned_room = action_room_keeps next (go_action action document) after keeps (back_has action document next finds is)

  pub turned_leads : KeepsDocument document (go_action next after)
  turned_leads =
      document_order.joined document (go_action next (go_action action document)) (go_action next after) (back_leads action document next finds is) (action_keeps next (go_action action document) after keeps)
