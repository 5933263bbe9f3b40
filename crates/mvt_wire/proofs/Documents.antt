-- What reading says about whole files: the document that a file opens as, or the place where it breaks.
use Rattle.std.proofs.Common.{◌≡◌, ℕ, ◌≤◌, List, length, map, take, sym, ◌∙◌, subst, arith, refl}
use Rattle.std.specs.List.{flat_map, AllByRecursion}
use Rattle.std.proofs.lemmas.List.{length-take, take_all}
use Rattle.mvt_document.specs.declared.TheConstants.{MAX_FILE}
use Rattle.mvt_document.specs.Plain.{TileItem, Document}
use Rattle.mvt_document.specs.Wire.{field_bytes}
use Rattle.mvt_document.specs.Opens.{IsTileItem, StoresTileItem, OpensAs, IsPlace}
use Rattle.mvt_document.specs.Parts.{tile_item_field, IsWholeField, IsWholeTileItem, MakesTileItem}
use Rattle.mvt_wire.specs.Stops.{EndsAt, IsReadError}
use Rattle.mvt_wire.specs.declared.faults.ReadError.{ReadError}
use Rattle.mvt_wire.specs.declared.faults.ReadError.TheVariants.{BadWire, FileTooLarge, NoMemory}
use Rattle.mvt_document.proofs.EachItem.{all_by, all_of_map}
use Rattle.mvt_document.proofs.Wholes.{tile_items-bytes, tile_items_whole, tile_items_are_fields, tile_items_made, tile_items-bytes_as_fields}

pub opens_from : {T : Type 0} (f : T → TileItem) (items : List T) (file : List ℕ) → length file ≤ MAX_FILE → file ≡ flat_map (λ i. field_bytes (tile_item_field (f i))) items → AllByRecursion (λ i. IsWholeTileItem (f i)) items → OpensAs file (map f items)
opens_from f items file within e p =
    let whole = all_of_map f IsWholeTileItem items p in
    record {
      within = within;
      settled = record {
        valid = all_by IsWholeTileItem IsTileItem (λ i q. q.valid) (map f items) whole;
        stored = all_by IsWholeTileItem StoresTileItem (λ i q. q.stored) (map f items) whole;
      };
      spelled = tile_items-bytes f items ∙ sym e;
    }

-- the fields of a document that a file opens as
as_fields : (file : List ℕ) (document : Document) → OpensAs file document → AllByRecursion IsWholeField (map tile_item_field document) × AllByRecursion MakesTileItem (map tile_item_field document) × (file ≡ flat_map field_bytes (map tile_item_field document))
as_fields file document o =
    let whole = tile_items_whole document o.settled.valid o.settled.stored in
    (tile_items_are_fields document whole, tile_items_made document whole, sym o.spelled ∙ sym (tile_items-bytes_as_fields document))

abbrev pub StopsInFile : {T : Type 0} → (T → TileItem) → List ℕ → ℕ → Type 0
StopsInFile f file place = EndsAt (λ i. tile_item_field (f i)) (λ i. IsWholeTileItem (f i)) MakesTileItem file place

-- the place that a refusal names
pub stop_named : (stops : ℕ → Type 0) (r : ReadError) (place : ℕ) → IsReadError stops r → r ≡ BadWire place → stops place
stop_named stops r place s e = subst (λ (x : ReadError). IsReadError stops x) e s

pub stop_is_place : {T : Type 0} (f : T → TileItem) (file : List ℕ) (place : ℕ) → length file ≤ MAX_FILE → StopsInFile f file place → IsPlace file place
stop_is_place f file place within s =
    record {
      within = omega (arith, s.before);
      document = map f s.items;
      opens = opens_from f s.items (take place file) (omega (arith, length-take place file)) s.spelled s.whole;
      longest = λ n longer after short o.
          let fields = as_fields (take n file) longer o in
          s.longest n (map tile_item_field longer) after short fields.0 fields.1 fields.2;
    }

pub stop_is_broken : {T : Type 0} (f : T → TileItem) (file : List ℕ) (place : ℕ) → StopsInFile f file place → (document : Document) → OpensAs file document → ⊥
stop_is_broken f file place s document o =
    let fields = as_fields file document o in
    let all : take (length file) file ≡ file = take_all (length file) file (omega arith) in
    s.longest (length file) (map tile_item_field document) s.before (omega arith) fields.0 fields.1 (all ∙ fields.2)

-- a file that opens is refused only for lack of memory
pub only_memory : (stops : ℕ → Type 0) (r : ReadError) → ((place : ℕ) → stops place → ⊥) → IsReadError stops r → r ≡ NoMemory
only_memory stops (BadWire place) broken s = absurd (broken place s)
only_memory stops FileTooLarge broken s = absurd s
only_memory stops NoMemory broken s = refl
