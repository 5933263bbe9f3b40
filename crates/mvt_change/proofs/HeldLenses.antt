-- The list at a place of a document of the program, in documents that are the same and have room.
use Rattle.std.proofs.Common.{◌≡◌, ℕ, zero, suc, ◌≤◌, Bool, true, false, cond, List, [], ◌∷◌, slice_index_or, Option, Some, None, refl, sym, ap, subst, arith}
use Rattle.std.specs.List.{AllZip}
use Rattle.std.specs.Option.{IfSome, IsSomeAnd, option_and_then}
use Rattle.std.proofs.lemmas.List.Elements.{length_all_zip}
use Rattle.mvt_document.specs.Held.{Held}
use Rattle.mvt_document.specs.declared.field.FieldParts.{FieldParts as Field}
use Rattle.mvt_document.specs.declared.document.LayerItem.{LayerItem}
use Rattle.mvt_document.specs.declared.document.LayerItem.TheVariants as in_layer
use Rattle.mvt_document.specs.declared.document.TileItem.{TileItem}
use Rattle.mvt_document.specs.declared.document.TileItem.TheVariants as in_tile
use Rattle.mvt_document.specs.declared.document.Document.{Document}
use Rattle.mvt_document.specs.Lists.{change_at}
use Rattle.mvt_document.specs.HeldPlaces.{held_items_in, held_fields_in, in_held_layer, in_held_feature, change_held_at, change_held_tile}
use Rattle.mvt_change.specs.Changes.{Place, OfTheTile, OfTheLayer, OfTheFeature}
use Rattle.mvt_change.specs.HeldLists.{HeldItemAt, KeepsItemAt, held_list_at, change_held_list}
use Rattle.mvt_change.specs.Room.{capacity, KeepsList, KeepsField, KeepsLayerItem, KeepsTileItem, KeepsDocument}
use Rattle.mvt_change.specs.HeldChanges.{ExchangesFirst, TakesOut, exchanged}
use Rattle.mvt_document.proofs.Options.{where_some, some_each}
use Rattle.mvt_change.proofs.Keeping.{Order, field_order, layer_item_order, tile_item_order, document_order}
use Rattle.mvt_change.proofs.Lenses.{IsPart, find_at, part_at, part_through}

-- both are there, and this holds of them; or neither is
abbrev pub Alike : {X Y : Type 0} → (X → Y → Type 0) → Option X → Option Y → Type 0
Alike P None None = Unit {0}
Alike P (Some x) (Some y) = P x y
Alike P o p = ⊥

alike_changed : {X : Type 0} (P : X → X → Type 0) (f g : X → X) (o p : Option X) → ((x y : X) → P x y → P (f x) (g y)) → Alike P o p → Alike (λ x y. P (f x) (g y)) o p
alike_changed P f g None None keep both = tt
alike_changed P f g (Some x) (Some y) keep both = keep x y both
alike_changed P f g o p keep both = absurd both

alike_self : {X : Type 0} (P : X → X → Type 0) (o : Option X) → IfSome o (λ x. P x x) → Alike P o o
alike_self P None both = tt
alike_self P (Some x) both = both

there_alike : {X : Type 0} (P : X → X → Type 0) (Q : X → Type 0) (o p : Option X) → ((x y : X) → P x y → Q x → Q y) → Alike P o p → IsSomeAnd o Q → IsSomeAnd p Q
there_alike P Q (Some x) (Some y) keep both there = keep x y both there
there_alike P Q None p keep both there = absurd there
there_alike P Q (Some x) None keep both there = absurd both

-- the parts of two wholes that are the same are the same, and what is made of these wholes is the same where what is
-- made of the parts is
pub record AreMatched {A X : Type 0} (find : A → Option X) (change : (X → X) → A → A) (Whole : A → A → Type 0) (Part : X → X → Type 0) (a b : A) : Type 0 where
  pub finds : Whole a b → Alike Part (find a) (find b)
  pub changes : (f g : X → X) → Whole a b → Alike (λ x y. Part (f x) (g y)) (find a) (find b) → Whole (change f a) (change g b)

-- ---- in the item at a position of a list

module _ {A X : Type 0} {find : A → Option X} {change : (X → X) → A → A} {Whole : A → A → Type 0} {Part : X → X → Type 0} where
  matched_at : ((a b : A) → AreMatched find change Whole Part a b) → (at : ℕ) (xs ys : List A) → AreMatched (λ (zs : List A). find_at find at zs) (λ (f : X → X) zs. change_at (change f) at zs) (AllZip Whole) Part xs ys
  matched_at each at [] [] = record { finds = λ all. tt; changes = λ f g all both. tt }
  matched_at each zero (x ∷ xs) (y ∷ ys) =
      record { finds = λ all. (each x y).finds all.0; changes = λ f g all both. ((each x y).changes f g all.0 both, all.1) }
  matched_at each (suc at) (x ∷ xs) (y ∷ ys) =
      let rest = matched_at each at xs ys in
      record { finds = λ all. rest.finds all.1; changes = λ f g all both. (all.0, rest.changes f g all.1 both) }
  matched_at each at xs ys = record { finds = λ all. absurd all; changes = λ f g all both. absurd all }

-- ---- through another part

module _ {X Y : Type 0} {Part : X → X → Type 0} {deeper : X → Option Y} {deep : (Y → Y) → X → X} {Deep : Y → Y → Type 0} (second : (x y : X) → AreMatched deeper deep Part Deep x y) where
  through_finds : (o p : Option X) → Alike Part o p → Alike Deep (option_and_then deeper o) (option_and_then deeper p)
  through_finds None None both = tt
  through_finds (Some x) (Some y) both = (second x y).finds both
  through_finds o p both = absurd both

  through_changes : (f g : Y → Y) (o p : Option X) → Alike Part o p → Alike (λ x y. Deep (f x) (g y)) (option_and_then deeper o) (option_and_then deeper p) → Alike (λ x y. Part (deep f x) (deep g y)) o p
  through_changes f g None None both new = tt
  through_changes f g (Some x) (Some y) both new = (second x y).changes f g both new
  through_changes f g o p both new = absurd both

module _ {A X Y : Type 0} {find : A → Option X} {change : (X → X) → A → A} {Whole : A → A → Type 0} {Part : X → X → Type 0} {deeper : X → Option Y} {deep : (Y → Y) → X → X} {Deep : Y → Y → Type 0} {a b : A} where
  matched_through : AreMatched find change Whole Part a b → ((x y : X) → AreMatched deeper deep Part Deep x y) → AreMatched (λ (c : A). option_and_then deeper (find c)) (λ (f : Y → Y) c. change (deep f) c) Whole Deep a b
  matched_through first second = record {
    finds = λ keeps. through_finds second (find a) (find b) (first.finds keeps);
    changes = λ f g keeps new. first.changes (deep f) (deep g) keeps (through_changes second f g (find a) (find b) (first.finds keeps) new);
  }

-- ---- the items of a list with room

module _ {T : Type 0} where
  abbrev with_items : (List T → List T) → Held T → Held T
  with_items f list = record list { items = f list.items }

  items_part : (list : Held T) → IsPart (λ (l : Held T). Some l.items) with_items list
  items_part list =
      let with : List T → Held T = λ items. record list { items = items } in
      record { found = λ f. refl; same = refl; twice = λ f g. refl; alike = λ f g same. ap with same }

  items_matched : {Keeps : T → T → Type 0} (a b : Held T) → AreMatched (λ (l : Held T). Some l.items) with_items (KeepsList Keeps) (AllZip Keeps) a b
  items_matched {Keeps} a b = record {
    finds = λ keeps. keeps.items;
    changes = λ f g keeps both.
        let room : capacity a ≤ capacity b = keeps.room in
        record { items = both; room = omega (arith, length_all_zip Keeps a.items b.items keeps.items, length_all_zip Keeps (f a.items) (g b.items) both) };
  }

module _ {A X : Type 0} {find : A → Option X} {change : (X → X) → A → A} where
  part_in : ((a : A) → IsPart find change a) → (at : ℕ) (list : Held A) → IsPart (λ (l : Held A). find_at find at l.items) (λ (f : X → X) l. change_held_at (change f) at l) list
  part_in each at list = part_through (items_part list) (part_at each at)

  matched_in : {Whole : A → A → Type 0} {Part : X → X → Type 0} → ((a b : A) → AreMatched find change Whole Part a b) → (at : ℕ) (a b : Held A) → AreMatched (λ (l : Held A). find_at find at l.items) (λ (f : X → X) l. change_held_at (change f) at l) (KeepsList Whole) Part a b
  matched_in each at a b = matched_through (items_matched a b) (matched_at each at)

-- ---- the list of a layer, and that of a feature

layer_part : (item : TileItem) → IsPart held_items_in in_held_layer item
layer_part (in_tile.Layer layer) =
    let with : Held LayerItem → TileItem = λ items. in_tile.Layer (record layer { items = items }) in
    record { found = λ f. refl; same = refl; twice = λ f g. refl; alike = λ f g same. ap with same }
layer_part (in_tile.Plain field) = record { found = λ f. refl; same = refl; twice = λ f g. refl; alike = λ f g same. refl }

layer_matched : (a b : TileItem) → AreMatched held_items_in in_held_layer KeepsTileItem (KeepsList KeepsLayerItem) a b
layer_matched (in_tile.Layer a) (in_tile.Layer b) =
    record { finds = λ keeps. keeps.list; changes = λ f g keeps both. record { tag = keeps.tag; width = keeps.width; list = both } }
layer_matched (in_tile.Plain a) (in_tile.Plain b) = record { finds = λ keeps. tt; changes = λ f g keeps both. keeps }
layer_matched a b = record { finds = λ keeps. absurd keeps; changes = λ f g keeps both. absurd keeps }

feature_part : (item : LayerItem) → IsPart held_fields_in in_held_feature item
feature_part (in_layer.Feature feature) =
    let with : Held Field → LayerItem = λ fields. in_layer.Feature (record feature { fields = fields }) in
    record { found = λ f. refl; same = refl; twice = λ f g. refl; alike = λ f g same. ap with same }
feature_part (in_layer.Plain field) = record { found = λ f. refl; same = refl; twice = λ f g. refl; alike = λ f g same. refl }

feature_matched : (a b : LayerItem) → AreMatched held_fields_in in_held_feature KeepsLayerItem (KeepsList KeepsField) a b
feature_matched (in_layer.Feature a) (in_layer.Feature b) =
    record { finds = λ keeps. keeps.list; changes = λ f g keeps both. record { tag = keeps.tag; width = keeps.width; list = both } }
feature_matched (in_layer.Plain a) (in_layer.Plain b) = record { finds = λ keeps. tt; changes = λ f g keeps both. keeps }
feature_matched a b = record { finds = λ keeps. absurd keeps; changes = λ f g keeps both. absurd keeps }

-- ---- the lists of a document

tile_part : (document : Document) → IsPart (λ (d : Document). Some d.items) change_held_tile document
tile_part document =
    let with : Held TileItem → Document = λ items. record document { items = items } in
    record { found = λ f. refl; same = refl; twice = λ f g. refl; alike = λ f g same. ap with same }

tile_matched : (a b : Document) → AreMatched (λ (d : Document). Some d.items) change_held_tile KeepsDocument (KeepsList KeepsTileItem) a b
tile_matched a b = record { finds = λ keeps. keeps; changes = λ f g keeps both. both }

pub list_part : (place : Place) (document : Document) → IsPart (held_list_at place) (change_held_list place) document
list_part OfTheTile document = tile_part document
list_part (OfTheLayer layer) document = part_through (tile_part document) (part_in layer_part layer)
list_part (OfTheFeature layer item) document = part_through (part_through (tile_part document) (part_in layer_part layer)) (part_in feature_part item)

list_matched : (place : Place) (a b : Document) → AreMatched (held_list_at place) (change_held_list place) KeepsDocument (KeepsList (KeepsItemAt place)) a b
list_matched OfTheTile a b = tile_matched a b
list_matched (OfTheLayer layer) a b = matched_through (tile_matched a b) (matched_in layer_matched layer)
list_matched (OfTheFeature layer item) a b = matched_through (matched_through (tile_matched a b) (matched_in layer_matched layer)) (matched_in feature_matched item)

pub order_at : (place : Place) → Order (KeepsItemAt place)
order_at OfTheTile = tile_item_order
order_at (OfTheLayer layer) = layer_item_order
order_at (OfTheFeature layer item) = field_order

-- ---- a list that is changed

module _ (place : Place) where
  abbrev Items : Type 0
  Items = Held (HeldItemAt place)

  abbrev Keeps : Items → Items → Type 0
  Keeps = KeepsList (KeepsItemAt place)

  pub changed_keeps : (f : Items → Items) → ((x y : Items) → Keeps x y → Keeps (f x) (f y)) → (a b : Document) → KeepsDocument a b → KeepsDocument (change_held_list place f a) (change_held_list place f b)
  changed_keeps f each a b keeps =
      let both = list_matched place a b in
      both.changes f f keeps (alike_changed Keeps f f (held_list_at place a) (held_list_at place b) each (both.finds keeps))

  pub found_keeps : (Q : Items → Type 0) → ((x y : Items) → Keeps x y → Q x → Q y) → (a b : Document) → KeepsDocument a b → IsSomeAnd (held_list_at place a) Q → IsSomeAnd (held_list_at place b) Q
  found_keeps Q each a b keeps there =
      there_alike Keeps Q (held_list_at place a) (held_list_at place b) each ((list_matched place a b).finds keeps) there

  -- where a list that was changed twice is as it was, so is the document
  pub leads_there : (f g : Items → Items) (a : Document) → IfSome (held_list_at place a) (λ x. Keeps x (g (f x))) → KeepsDocument a (change_held_list place g (change_held_list place f a))
  leads_there f g a same =
      let h : Items → Items = λ x. g (f x) in
      let part = list_part place a in
      let made = (list_matched place a a).changes (λ x. x) h (document_order.same a) (alike_self (λ x y. Keeps x (h y)) (held_list_at place a) same) in
      subst (KeepsDocument a) (sym (part.twice f g)) (subst (λ b. KeepsDocument b (change_held_list place h a)) part.same made)

  -- what the list was made is what was made of the document
  pub made_keeps : (f : Items → Items) (a b : Document) → IsSomeAnd (held_list_at place a) (λ x. (made : Items) × Keeps (f x) made × (b ≡ change_held_list place (λ y. made) a)) → KeepsDocument (change_held_list place f a) b
  made_keeps f a b there =
      where_some (held_list_at place a) _ (λ o. held_list_at place a ≡ o → KeepsDocument (change_held_list place f a) b) (λ x p is.
      let both = subst (λ o. Alike (λ y z. Keeps (f y) p.0) o o) (sym is) p.1 in
      subst (KeepsDocument (change_held_list place f a)) (sym p.2) ((list_matched place a a).changes f (λ y. p.0) (document_order.same a) both)) there refl

  pub made_or_kept : (done : Bool) (f : Items → Items) (a b : Document) → IsSomeAnd (held_list_at place a) (λ x. (made : Items) × Keeps (cond done (f x) x) made × (b ≡ change_held_list place (λ y. made) a)) → KeepsDocument (cond done (change_held_list place f a) a) b
  made_or_kept true f a b there = made_keeps f a b there
  made_or_kept false f a b there = subst (λ d. KeepsDocument d b) (list_part place a).same (made_keeps (λ x. x) a b there)

-- ---- the list at a place was exchanged with the only one to put

module _ (place : Place) (done : Bool) (index taken : ℕ) (put : Held (HeldItemAt place)) (puts left : List (Held (HeldItemAt place))) (document after : Document) (is : puts ≡ put ∷ []) where
  abbrev Exchanges : Held (HeldItemAt place) → Type 0
  Exchanges list = (made : Held (HeldItemAt place)) × ExchangesFirst (KeepsItemAt place) index taken done list made puts left × (after ≡ change_held_list place (λ x. made) document)

  pub first_exchanged : IsSomeAnd (held_list_at place document) Exchanges → KeepsDocument (cond done (change_held_list place (exchanged index taken put) document) document) after × TakesOut index taken done (held_list_at place document) put (slice_index_or left 0 put)
  first_exchanged there = (
    made_or_kept place done (exchanged index taken put) document after
        (some_each (held_list_at place document) Exchanges _ (λ list p. (p.0, subst (λ ps. KeepsList (KeepsItemAt place) (cond done (exchanged index taken (slice_index_or ps 0 put) list) list) p.0) is (p.1.kept put), p.2)) there),
    where_some (held_list_at place document) Exchanges (λ o. TakesOut index taken done o put (slice_index_or left 0 put)) (λ list p. subst (λ ps. TakesOut index taken done (Some list) (slice_index_or ps 0 put) (slice_index_or left 0 put)) is (p.1.given put)) there,
  )
