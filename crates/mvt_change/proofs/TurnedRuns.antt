-- Several steps that were turned: what they stand for, that they have room, and that they lead back.
use Rattle.std.proofs.Common.{◌≡◌, List, [], ◌∷◌, ◌++◌, map, reverse, refl, sym, ap, ◌∙◌, subst}
use Rattle.std.specs.Prelude.{Result, Ok, Err, is_ok, true, false, OnOk, OnErr}
use Rattle.std.specs.List.{AllZip}
use Rattle.std.proofs.lemmas.List.{map-append, reverse-append}
use Rattle.mvt_document.specs.Plain as plain
use Rattle.mvt_document.specs.Bodies.{number_of}
use Rattle.mvt_document.specs.Stands.{field_of, layer_item_of, tile_item_of, document_of}
use Rattle.mvt_document.specs.declared.document.LayerItem.{LayerItem}
use Rattle.mvt_document.specs.declared.document.LayerItem.TheVariants as in_layer_item
use Rattle.mvt_document.specs.declared.document.TileItem.{TileItem}
use Rattle.mvt_document.specs.declared.document.TileItem.TheVariants as in_tile_item
use Rattle.mvt_document.specs.declared.document.Document.{Document}
use Rattle.mvt_change.specs.declared.change.Step.{Step}
use Rattle.mvt_change.specs.ChangeStands.{action_of, step_of}
use Rattle.mvt_change.specs.Changes.{Fits, go, go_step, turn}
use Rattle.mvt_change.specs.Room.{KeepsLayerItem, KeepsTileItem, KeepsDocument}
use Rattle.mvt_change.specs.HeldChanges.{go_held_step, go_held, HaveRoom, AreTurned}
use Rattle.mvt_change.proofs.Keeping.{document_order}
use Rattle.mvt_change.proofs.Actions.{action_keeps, action_room_keeps, action_stands, fits_finds, turned_stands, turned_room, turned_leads}

-- the steps can be carried out on `after` with no growth, and lead back to the document, with no less room
pub record LeadsBack (steps : List Step) (document after : Document) : Type 0 where
  pub room : HaveRoom steps after
  pub back : KeepsDocument document (go_held steps after)

-- ---- documents that are the same stand for one plain document

zip_stands : {T P : Type 0} (Keeps : T → T → Type 0) (g : T → P) → ((x y : T) → Keeps x y → g x ≡ g y) → (xs ys : List T) → AllZip Keeps xs ys → map g xs ≡ map g ys
zip_stands Keeps g each [] [] all = refl
zip_stands Keeps g each (x ∷ xs) (y ∷ ys) all = ap (λ b. b ∷ map g xs) (each x y all.0) ∙ ap (λ rest. g y ∷ rest) (zip_stands Keeps g each xs ys all.1)
zip_stands Keeps g each xs ys all = absurd all

layer_item_stands : (x y : LayerItem) → KeepsLayerItem x y → layer_item_of x ≡ layer_item_of y
layer_item_stands (in_layer_item.Feature x) (in_layer_item.Feature y) keeps =
    let fields = zip_stands (λ a b. a ≡ b) field_of (λ a b same. ap field_of same) x.fields.items y.fields.items keeps.list.items in
    λ i. plain.OfFeature (record { tag = number_of (keeps.tag i); width = keeps.width i; fields = fields i })
layer_item_stands (in_layer_item.Plain x) (in_layer_item.Plain y) keeps = ap (λ field. plain.PlainInLayer (field_of field)) keeps
layer_item_stands x y keeps = absurd keeps

tile_item_stands : (x y : TileItem) → KeepsTileItem x y → tile_item_of x ≡ tile_item_of y
tile_item_stands (in_tile_item.Layer x) (in_tile_item.Layer y) keeps =
    let items = zip_stands KeepsLayerItem layer_item_of layer_item_stands x.items.items y.items.items keeps.list.items in
    λ i. plain.OfLayer (record { tag = number_of (keeps.tag i); width = keeps.width i; items = items i })
tile_item_stands (in_tile_item.Plain x) (in_tile_item.Plain y) keeps = ap (λ field. plain.PlainInTile (field_of field)) keeps
tile_item_stands x y keeps = absurd keeps

pub keeps_stands : (a b : Document) → KeepsDocument a b → document_of a ≡ document_of b
keeps_stands a b keeps = zip_stands KeepsTileItem tile_item_of tile_item_stands a.items.items b.items.items keeps.items

-- what is the same as what a step makes stands for what the plain step makes
pub kept_goes : (step : Step) (document after : Document) → KeepsDocument (go_held_step step document) after → document_of after ≡ go_step (step_of step) (document_of document)
kept_goes step document after keeps = sym (keeps_stands (go_held_step step document) after keeps) ∙ action_stands (action_of step) document

-- ---- several steps

pub steps_stand : (steps : List Step) (document : Document) → document_of (go_held steps document) ≡ go (map step_of steps) (document_of document)
steps_stand [] document = refl
steps_stand (step ∷ steps) document = steps_stand steps (go_held_step step document) ∙ ap (go (map step_of steps)) (action_stands (action_of step) document)

steps_keep : (steps : List Step) (a b : Document) → KeepsDocument a b → KeepsDocument (go_held steps a) (go_held steps b)
steps_keep [] a b keeps = keeps
steps_keep (step ∷ steps) a b keeps = steps_keep steps (go_held_step step a) (go_held_step step b) (action_keeps (action_of step) a b keeps)

pub have_room_keeps : (steps : List Step) (a b : Document) → KeepsDocument a b → HaveRoom steps a → HaveRoom steps b
have_room_keeps [] a b keeps has = tt
have_room_keeps (step ∷ steps) a b keeps has =
    (action_room_keeps (action_of step) a b keeps has.0, have_room_keeps steps (go_held_step step a) (go_held_step step b) (action_keeps (action_of step) a b keeps) has.1)

go_held_joined : (first second : List Step) (document : Document) → go_held (first ++ second) document ≡ go_held second (go_held first document)
go_held_joined [] second document = refl
go_held_joined (step ∷ first) second document = go_held_joined first second (go_held_step step document)

pub have_room_joined : (first second : List Step) (document : Document) → HaveRoom first document → HaveRoom second (go_held first document) → HaveRoom (first ++ second) document
have_room_joined [] second document room more = more
have_room_joined (step ∷ first) second document room more = (room.0, have_room_joined first second (go_held_step step document) room.1 more)

-- ---- turned steps

more_fit : (step : Step) (steps : List Step) (document : Document) → Fits (map step_of (step ∷ steps)) (document_of document) → Fits (map step_of steps) (document_of (go_held_step step document))
more_fit step steps document fits = subst (Fits (map step_of steps)) (sym (action_stands (action_of step) document)) fits.1

pub all_stand : (steps : List Step) (document : Document) (turned : List Step) → AreTurned steps document turned → map step_of (reverse turned) ≡ turn (map step_of steps) (document_of document)
all_stand [] document [] are = refl
all_stand (step ∷ steps) document (next ∷ turned) are =
    rw (reverse-append (next ∷ []) turned, map-append, all_stand steps (go_held_step step document) turned are.1, action_stands (action_of step) document, turned_stands (action_of step) document (action_of next) are.0)
all_stand steps document turned are = absurd are

-- what came after has room for all, the last first, and they lead back
all_lead : (steps : List Step) (document : Document) (turned : List Step) → Fits (map step_of steps) (document_of document) → AreTurned steps document turned → LeadsBack (reverse turned) document (go_held steps document)
all_lead [] document [] fits are = record { room = tt; back = document_order.same document }
all_lead (step ∷ steps) document (next ∷ turned) fits are =
    let there = go_held_step step document in
    let after = go_held steps there in
    let finds = fits_finds (action_of step) document fits.0 in
    let rest = all_lead steps there turned (more_fit step steps document fits) are.1 in
    let between = go_held (reverse turned) after in
    let room = turned_room (action_of step) document (action_of next) between finds are.0 rest.back in
    let back = turned_leads (action_of step) document (action_of next) between finds are.0 rest.back in
    subst (λ ts. LeadsBack ts document after) (sym (reverse-append (next ∷ []) turned)) (record {
      room = have_room_joined (reverse turned) (next ∷ []) after rest.room (room, tt);
      back = subst (KeepsDocument document) (sym (go_held_joined (reverse turned) (next ∷ []) after)) back;
    })
all_lead steps document turned fits are = absurd are

-- so do they from what is the same and has no less room
pub all_lead_back : (steps : List Step) (document : Document) (turned : List Step) (after : Document) → Fits (map step_of steps) (document_of document) → AreTurned steps document turned → KeepsDocument (go_held steps document) after → LeadsBack (reverse turned) document after
all_lead_back steps document turned after fits are keeps =
    let lead = all_lead steps document turned fits are in
    record {
      room = have_room_keeps (reverse turned) (go_held steps document) after keeps lead.room;
      back = document_order.joined document (go_held (reverse turned) (go_held steps document)) (go_held (reverse turned) after) lead.back (steps_keep (reverse turned) (go_held steps document) after keeps);
    }

-- what holds if a result is a success
pub ok_then : {A E : Type 0} (r : Result A E) (P : Type 0) → OnOk r P → is_ok r ≡ true → P
ok_then (Ok a) P so done = so
ok_then (Err e) P so done = absurd cc

-- and if it is a refusal
pub err_then : {A E : Type 0} (r : Result A E) (P : Type 0) → OnErr r P → is_ok r ≡ false → P
err_then (Ok a) P so refused = absurd cc
err_then (Err e) P so refused = so

pub on_err : {A E : Type 0} (r : Result A E) (P : Type 0) → P → OnErr r P
on_err (Ok a) P so = tt
on_err (Err e) P so = so
