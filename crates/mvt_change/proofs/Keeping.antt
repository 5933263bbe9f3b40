-- Keeping items and room: of the same value, one after the other, and through splices and moves.
use Rattle.std.proofs.Common.{◌≡◌, ℕ, zero, suc, ◌+◌, ◌<◌, ◌≤◌, Bool, true, false, cond, IsTrue, List, [], ◌∷◌, ◌++◌, length, slice_set, slice_index_or, take, drop, refl, sym, ap, ◌∙◌, subst, arith}
use Rattle.std.specs.List.{AllZip}
use Rattle.std.proofs.lemmas.List.Elements.{length_all_zip}
use Rattle.mvt_document.specs.Held.{Held}
use Rattle.mvt_document.specs.Splicing.{part, splice, moved}
use Rattle.mvt_document.specs.declared.document.LayerItem.{LayerItem}
use Rattle.mvt_document.specs.declared.document.LayerItem.TheVariants as in_layer
use Rattle.mvt_document.specs.declared.document.TileItem.{TileItem}
use Rattle.mvt_document.specs.declared.document.TileItem.TheVariants as in_tile
use Rattle.mvt_splices.proofs.Runs.{zip_same, zip_append}
use Rattle.mvt_change.specs.Room.{capacity, KeepsList, KeepsField, KeepsMessage, KeepsLayerItem, KeepsTileItem, KeepsDocument}
use Rattle.mvt_change.specs.HeldChanges.{ExchangesFirst, exchanged, held_moved, HasRoom, CanMoveHeld}
use Rattle.mvt_splices.proofs.Backwards.{splice-back}
use Rattle.mvt_change.proofs.Splicing.{length-part, length-splice, length-moved, moved-back}

-- ---- of the same value, and one after the other

pub record Order {T : Type 0} (Keeps : T → T → Type 0) : Type 0 where
  pub same : (x : T) → Keeps x x
  pub joined : (x y z : T) → Keeps x y → Keeps y z → Keeps x z

module _ {T : Type 0} {Keeps : T → T → Type 0} (order : Order Keeps) where
  pub kept_items : (old new : Held T) → new.items ≡ old.items → capacity old ≤ capacity new → KeepsList Keeps old new
  kept_items old new same room = record { items = subst (AllZip Keeps old.items) (sym same) (zip_same Keeps order.same old.items); room = room }

  zip_joined : (xs ys zs : List T) → AllZip Keeps xs ys → AllZip Keeps ys zs → AllZip Keeps xs zs
  zip_joined [] [] zs first second = second
  zip_joined (x ∷ xs) (y ∷ ys) (z ∷ zs) first second = (order.joined x y z first.0 second.0, zip_joined xs ys zs first.1 second.1)
  zip_joined (x ∷ xs) (y ∷ ys) [] first second = absurd second
  zip_joined xs ys zs first second = absurd first

  list_joined : (a b c : Held T) → KeepsList Keeps a b → KeepsList Keeps b c → KeepsList Keeps a c
  list_joined a b c first second =
      record { items = zip_joined a.items b.items c.items first.items second.items; room = omega (arith, first.room, second.room) }

  list_same : (a : Held T) → KeepsList Keeps a a
  list_same a = record { items = zip_same Keeps order.same a.items; room = omega arith }

pub field_order : Order KeepsField
field_order = record { same = λ x. refl; joined = λ x y z first second. first ∙ second }

module _ {N T : Type 0} {Keeps : T → T → Type 0} (order : Order Keeps) where
  message_same : (tag : N) (width : ℕ) (list : Held T) → KeepsMessage Keeps tag tag width width list list
  message_same tag width list = record { tag = refl; width = refl; list = list_same order list }

  message_joined : (s t u : N) (m n o : ℕ) (x y z : Held T) → KeepsMessage Keeps s t m n x y → KeepsMessage Keeps t u n o y z → KeepsMessage Keeps s u m o x z
  message_joined s t u m n o x y z first second =
      record { tag = first.tag ∙ second.tag; width = first.width ∙ second.width; list = list_joined order x y z first.list second.list }

layer_item_same : (x : LayerItem) → KeepsLayerItem x x
layer_item_same (in_layer.Feature feature) = message_same field_order feature.tag feature.width feature.fields
layer_item_same (in_layer.Plain field) = refl

layer_item_joined : (x y z : LayerItem) → KeepsLayerItem x y → KeepsLayerItem y z → KeepsLayerItem x z
layer_item_joined (in_layer.Feature x) (in_layer.Feature y) (in_layer.Feature z) first second =
    message_joined field_order x.tag y.tag z.tag x.width y.width z.width x.fields y.fields z.fields first second
layer_item_joined (in_layer.Plain x) (in_layer.Plain y) (in_layer.Plain z) first second = first ∙ second
layer_item_joined x y z first second = absurd assumption

pub layer_item_order : Order KeepsLayerItem
layer_item_order = record { same = layer_item_same; joined = layer_item_joined }

tile_item_same : (x : TileItem) → KeepsTileItem x x
tile_item_same (in_tile.Layer layer) = message_same layer_item_order layer.tag layer.width layer.items
tile_item_same (in_tile.Plain field) = refl

tile_item_joined : (x y z : TileItem) → KeepsTileItem x y → KeepsTileItem y z → KeepsTileItem x z
tile_item_joined (in_tile.Layer x) (in_tile.Layer y) (in_tile.Layer z) first second =
    message_joined layer_item_order x.tag y.tag z.tag x.width y.width z.width x.items y.items z.items first second
tile_item_joined (in_tile.Plain x) (in_tile.Plain y) (in_tile.Plain z) first second = first ∙ second
tile_item_joined x y z first second = absurd assumption

pub tile_item_order : Order KeepsTileItem
tile_item_order = record { same = tile_item_same; joined = tile_item_joined }

pub document_order : Order KeepsDocument
document_order = record { same = λ x. list_same tile_item_order x.items; joined = λ x y z first second. list_joined tile_item_order x.items y.items z.items first second }

-- ---- through splices and moves

module _ {T : Type 0} (Keeps : T → T → Type 0) where
  zip_take : (n : ℕ) (xs ys : List T) → AllZip Keeps xs ys → AllZip Keeps (take n xs) (take n ys)
  zip_take zero xs ys all = tt
  zip_take (suc n) [] [] all = tt
  zip_take (suc n) (x ∷ xs) (y ∷ ys) all = (all.0, zip_take n xs ys all.1)
  zip_take (suc n) xs ys all = absurd all

  zip_drop : (n : ℕ) (xs ys : List T) → AllZip Keeps xs ys → AllZip Keeps (drop n xs) (drop n ys)
  zip_drop zero xs ys all = all
  zip_drop (suc n) [] [] all = tt
  zip_drop (suc n) (x ∷ xs) (y ∷ ys) all = zip_drop n xs ys all.1
  zip_drop (suc n) xs ys all = absurd all

  zip_splice : (index taken : ℕ) (put other xs ys : List T) → AllZip Keeps put other → AllZip Keeps xs ys → AllZip Keeps (splice index taken put xs) (splice index taken other ys)
  zip_splice index taken put other xs ys new all =
      zip_append Keeps (take index xs ++ put) (take index ys ++ other) (drop (index + taken) xs) (drop (index + taken) ys)
      (zip_append Keeps (take index xs) (take index ys) put other (zip_take index xs ys all) new)
      (zip_drop (index + taken) xs ys all)

  zip_moved : (from to : ℕ) (xs ys : List T) → AllZip Keeps xs ys → AllZip Keeps (moved from to xs) (moved from to ys)
  zip_moved from to xs ys all =
      zip_splice to 0 (part from 1 xs) (part from 1 ys) (splice from 1 [] xs) (splice from 1 [] ys)
      (zip_take 1 (drop from xs) (drop from ys) (zip_drop from xs ys all))
      (zip_splice from 1 [] [] xs ys tt all)

  pub moved_keeps : (from to : ℕ) (a b : Held T) → KeepsList Keeps a b → KeepsList Keeps (held_moved from to a) (held_moved from to b)
  moved_keeps from to a b keeps =
      let items = zip_moved from to a.items b.items keeps.items in
      record { items = items; room = omega (arith, keeps.room, length_all_zip Keeps a.items b.items keeps.items, length_all_zip Keeps (moved from to a.items) (moved from to b.items) items) }

  pub room_keeps : (index taken : ℕ) (put a b : Held T) → KeepsList Keeps a b → HasRoom index taken put a → HasRoom index taken put b
  room_keeps index taken put a b keeps has =
      let same = length_all_zip Keeps a.items b.items keeps.items in
      record { within = omega (arith, same, has.within); comes = omega (arith, same, keeps.room, has.comes); goes = has.goes }

  pub can_move_keeps : (from to : ℕ) (a b : Held T) → KeepsList Keeps a b → CanMoveHeld from to a → CanMoveHeld from to b
  can_move_keeps from to a b keeps can =
      let same = length_all_zip Keeps a.items b.items keeps.items in
      record { there = omega (arith, same, can.there); within = omega (arith, same, can.within) }

module _ {T : Type 0} {Keeps : T → T → Type 0} (order : Order Keeps) where
  pub exchanged_keeps : (index taken : ℕ) (put a b : Held T) → KeepsList Keeps a b → KeepsList Keeps (exchanged index taken put a) (exchanged index taken put b)
  exchanged_keeps index taken put a b keeps =
      let items = zip_splice Keeps index taken put.items put.items a.items b.items (zip_same Keeps order.same put.items) keeps.items in
      record { items = items; room = omega (arith, keeps.room, length_all_zip Keeps (splice index taken put.items a.items) (splice index taken put.items b.items) items) }

  -- ---- what was taken out goes back for what was put

  pub leads_back : (index taken : ℕ) (put back a : Held T) → index + taken ≤ length a.items → back.items ≡ part index taken a.items → KeepsList Keeps a (exchanged index (length put.items) back (exchanged index taken put a))
  leads_back index taken put back a within is =
      let n = length put.items in
      let there = splice index taken put.items a.items in
      let same : a.items ≡ splice index n back.items there =
      sym (ap (λ items. splice index n items there) is ∙ splice-back index taken put.items a.items (omega arith)) in
      kept_items order a (exchanged index n back (exchanged index taken put a)) (sym same) (omega (arith, ap length same))

  pub move_leads_back : (from to : ℕ) (a : Held T) → CanMoveHeld from to a → KeepsList Keeps a (held_moved to from (held_moved from to a))
  move_leads_back from to a can =
      let same = moved-back from to a.items can in
      kept_items order a (held_moved to from (held_moved from to a)) same (omega (arith, ap length same))

pub back_has_room : {T : Type 0} (index taken : ℕ) (put back a : Held T) → index + taken ≤ length a.items → back.items ≡ part index taken a.items → capacity put ≤ capacity back → HasRoom index (length put.items) back (exchanged index taken put a)
back_has_room index taken put back a within is room =
    let long = length-splice index taken put.items a.items within in
    let count : length back.items ≡ taken = ap length is ∙ length-part index taken a.items within in
    record { within = omega (arith, long); comes = omega (arith, long, count); goes = omega (arith, room) }

pub move_back_fits : {T : Type 0} (from to : ℕ) (a : Held T) → CanMoveHeld from to a → CanMoveHeld to from (held_moved from to a)
move_back_fits from to a can =
    let long = length-moved from to a.items can in
    record { there = omega (arith, long, can.within); within = omega (arith, long, can.there) }

-- ---- what is kept of a list of which a part was exchanged or an item moved

module _ {T : Type 0} {Keeps : T → T → Type 0} (order : Order Keeps) where
  -- a part was exchanged, or nothing was done
  pub exchanged_or_kept : (done : Bool) (index taken : ℕ) (put list new : Held T) → new.items ≡ cond done (splice index taken put.items list.items) list.items → capacity list ≤ capacity new → KeepsList Keeps (cond done (exchanged index taken put list) list) new
  exchanged_or_kept true index taken put list new is room = kept_items order (exchanged index taken put list) new is (omega (arith, room, ap length is))
  exchanged_or_kept false index taken put list new is room = kept_items order list new is room

  pub moved_kept : (from to : ℕ) (list new : Held T) → new.items ≡ moved from to list.items → new.room ≡ list.room → KeepsList Keeps (held_moved from to list) new
  moved_kept from to list new is room = kept_items order (held_moved from to list) new is (omega (arith, room, ap length is))

  -- the first of the lists to put was exchanged with this one, or nothing was done
  pub exchanges_first : (done : Bool) (index taken : ℕ) (list made new : Held T) (puts : List (Held T)) (d : Held T) → 0 < length puts
      → made.items ≡ cond done (splice index taken (slice_index_or puts 0 d).items list.items) list.items
      → new.items ≡ cond done (part index taken list.items) (slice_index_or puts 0 d).items
      → capacity list ≤ capacity made → capacity (slice_index_or puts 0 d) ≤ capacity new
      → (length (slice_index_or puts 0 d).items ≤ list.room + taken → taken ≤ capacity (slice_index_or puts 0 d) → IsTrue done)
      → ExchangesFirst Keeps index taken done list made puts (slice_set puts 0 new)
  exchanges_first done index taken list made new [] d some items put room put_room succeeds = absurd (omega arith)
  exchanges_first done index taken list made new (first ∷ puts) d some items put room put_room succeeds =
      record {
        kept = λ other. exchanged_or_kept done index taken first list made items room;
        given = λ other. record { items = put; room = put_room; succeeds = λ has. succeeds has.comes has.goes };
      }
