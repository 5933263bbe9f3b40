-- Keys and values are removed from the selected layers if no feature uses them.
use Rattle.std.proofs.Common.{◌≡◌, ℕ, ◌+◌, ◌≤◌, ◌/◌, ◌==◌, Bool, true, false, cond, not, is_some, None, Ok, Err, Result, List, [], ◌∷◌, ◌++◌, length, length-append, append-nil, map, refl, sym, ap, ◌∙◌, arith}
use Rattle.std.proofs.lemmas.List.Concat.{flat_map-append}
use Rattle.std.proofs.lemmas.List.Sums.{sum_by-cons}
use Rattle.std.specs.List.{AllByRecursion, flat_map, sum_by}
use Rattle.mvt_document.specs.Plain as plain
use Rattle.mvt_document.specs.Bodies.{body_of}
use Rattle.mvt_document.specs.Stands.{document_of, field_of, layer_item_of, tile_item_of}
use Rattle.mvt_document.specs.Wire.{body_bytes, field_bytes, spell}
use Rattle.mvt_document.specs.declared.Body.{Body}
use Rattle.mvt_document.specs.declared.Body.TheVariants as body
use Rattle.mvt_document.specs.declared.Varint.{Varint}
use Rattle.mvt_document.specs.declared.document.Document.{Document}
use Rattle.mvt_document.specs.declared.field.FieldParts.{FieldParts as Field}
use Rattle.mvt_document.specs.declared.document.LayerItem.{LayerItem}
use Rattle.mvt_document.specs.declared.document.LayerItem.TheVariants as in_layer
use Rattle.mvt_document.specs.declared.document.TileItem.{TileItem}
use Rattle.mvt_document.specs.declared.document.TileItem.TheVariants as in_tile
use Rattle.mvt_messages.specs.Attributes.{pairs_of}
use Rattle.mvt_messages.specs.Views.{content_of, features, ordinals_of}
use Rattle.mvt_change.specs.Changes.{Change}
use Rattle.mvt_meaning.specs.Command.{Command, LayersChoice}
use Rattle.mvt_meaning.specs.Compaction.{compacted, is_any, is_key_used, is_value_used, new_ordinals}
use Rattle.mvt_meaning.specs.Meaning.{applied, change_readable, refuse_first}
use Rattle.mvt_meaning.specs.Memory.{AsksForMemory}
use Rattle.mvt_meaning.specs.Selection.{selected_layers}
use Rattle.mvt_meaning.specs.Tagging.{unreadable}
use Rattle.mvt_meaning.specs.Weights.{compact_puts, compact_takes, layers_weight, put_by, taken_by}
use Rattle.mvt_meaning.specs.declared.refusal.Refusal.{Refusal}
use Rattle.mvt_meaning.proofs.Asking.{stands}
use Rattle.mvt_meaning.proofs.Compaction.{new_ordinals_short}
use Rattle.mvt_edit_steps.specs.Prepared.{IsPrepared, is_one_step}
use Rattle.mvt_edit_steps.proofs.Come.{Carries, CarriesIn}
use Rattle.mvt_edit_steps.proofs.EachLayer.{InTile, each_found, layers_made}
use Rattle.mvt_edit_steps.proofs.FieldsLeft.{fields_left}
use Rattle.mvt_edit_steps.proofs.Heavy.{tag_and_content}
use Rattle.mvt_edit_pools.specs.Pools.{compacting, compaction, keys_stay, values_stay}
use Rattle.mvt_edit_pools.specs.declared.compact.Pools.{Pools}
use Rattle.mvt_edit_pools.specs.declared.compact.Pools.TheVariants.{Keys, Values, Both}
use Rattle.mvt_edit_pools.proofs.Gone.{IsHeavy}
use Rattle.mvt_edit_pools.proofs.LayerCompacted.{Holds, change, comes, fates, layer_puts, layer_takes, puts_of, takes_of, weigh_fields}

-- ---- each layer of a document of the program

content_long : (same : Bool) (tag : Varint) (kind : Body) → is_some (cond same (content_of (body_of kind)) None) ≡ true → 2 ≤ length (spell tag.value tag.width ++ body_bytes (body_of kind))
content_long false tag kind entry = absurd cc
content_long true tag (body.Number varint) entry = absurd cc
content_long true tag (body.Eight bytes) entry = absurd cc
content_long true tag (body.Four bytes) entry = absurd cc
content_long true tag (body.Bytes width bytes) entry = tag_and_content tag.value tag.width width bytes.items tag.spelled
content_long true tag (body.Group bytes) entry = absurd cc

items_heavy : (items : List LayerItem) → AllByRecursion IsHeavy (map layer_item_of items)
items_heavy [] = tt
items_heavy (in_layer.Feature feature ∷ items) = (tt, items_heavy items)
items_heavy (in_layer.Plain field ∷ items) = (λ number entry. content_long (field.tag.value / 8 == number) field.tag field.body entry, items_heavy items)

module _ (keys values : List plain.LayerItem → ℕ → Bool) where
  fields_carry : (items : List plain.LayerItem) (fields_here : List Field) → Carries (fates keys values items) (change keys values items) (map field_of fields_here)
  fields_carry items fields_here =
      let decisions = new_ordinals (keys items) (values items) items (map field_of fields_here) in
      let left = fields_left 2 decisions fields_here (new_ordinals_short (keys items) (values items) items (map field_of fields_here)) in
      let few = left.few in
      record {
        there = left.there;
        valid = left.valid;
        leaves = left.leaves;
        few = omega (arith, few, ap (λ taken. length (flat_map field_bytes taken)) left.takes);
      }

  items_carry : (all : List plain.LayerItem) (items : List LayerItem) → AllByRecursion (CarriesIn (fates keys values all) (change keys values all)) (map layer_item_of items)
  items_carry all [] = tt
  items_carry all (in_layer.Feature feature ∷ items) = (fields_carry all feature.fields.items, items_carry all items)
  items_carry all (in_layer.Plain field ∷ items) = (tt, items_carry all items)

  layers_hold : (items : List TileItem) → AllByRecursion (InTile (Holds keys values)) (map tile_item_of items)
  layers_hold [] = tt
  layers_hold (in_tile.Layer layer ∷ items) = (record { carries = items_carry (map layer_item_of layer.items.items) layer.items.items; heavy = items_heavy layer.items.items }, layers_hold items)
  layers_hold (in_tile.Plain field ∷ items) = (tt, layers_hold items)

  -- ---- what is put and taken out in all

  all_weigh : (f : ℕ × plain.Layer → List plain.Field) (weight : plain.Layer → ℕ) → ((at : ℕ × plain.Layer) → weigh_fields (f at) ≡ weight at.1) → (found : List (ℕ × (ℕ × plain.Layer))) → weigh_fields (each_found f found) ≡ sum_by (λ (at : ℕ × (ℕ × plain.Layer)). weight at.1.1) found
  all_weigh f weight same [] = refl
  all_weigh f weight same (at ∷ found) =
      omega (arith, ap length (flat_map-append field_bytes (f at.1) (each_found f found)), length-append (flat_map field_bytes (f at.1)) (flat_map field_bytes (each_found f found)), same at.1, all_weigh f weight same found, sum_by-cons (λ (at : ℕ × (ℕ × plain.Layer)). weight at.1.1) at found)

  -- ---- a command that means this

  prepared : (command : Command) (choice : LayersChoice) (document : Document) (found : List (ℕ × (ℕ × plain.Layer))) (steps : Change)
      → is_one_step command ≡ false
      → applied command (document_of document) ≡ change_readable (compacted keys values) choice (document_of document)
      → put_by command (document_of document) ≡ layers_weight (compact_puts keys values) choice (document_of document)
      → taken_by command (document_of document) ≡ layers_weight (compact_takes keys values) choice (document_of document)
      → selected_layers choice (document_of document) ≡ Ok found → unreadable found ≡ [] → steps ≡ flat_map (compacting keys values) found → IsPrepared command (document_of document) steps
  prepared command choice document found steps several is puts takes selects readable are =
      let made = layers_made (λ at. compacting keys values (0, at)) (compacted keys values) (puts_of keys values) (takes_of keys values) (Holds keys values)
      (λ position layer tile there holds. comes keys values position layer tile there holds) choice (document_of document) found selects (layers_hold document.items.items) in
      let come = made.come in
      let put : layers_weight (compact_puts keys values) choice (document_of document) ≡ sum_by (λ (at : ℕ × (ℕ × plain.Layer)). compact_puts keys values at.1.1) found = rw selects refl in
      let taken : layers_weight (compact_takes keys values) choice (document_of document) ≡ sum_by (λ (at : ℕ × (ℕ × plain.Layer)). compact_takes keys values at.1.1) found = rw selects refl in
      let all_put = all_weigh (puts_of keys values) (compact_puts keys values) (layer_puts keys values) found in
      let all_taken = all_weigh (takes_of keys values) (compact_takes keys values) (layer_takes keys values) found in
      let means : change_readable (compacted keys values) choice (document_of document) ≡ Ok made.made = rw (selects, readable) made.means in
      rw are (record {
        fits = come.fits;
        means = is ∙ means ∙ ap Ok (sym come.makes);
        puts = omega (arith, puts, put, all_put, come.puts_so);
        takes = omega (arith, takes, taken, all_taken, come.takes_so);
        steps = omega (arith, puts, put, all_put, takes, taken, all_taken, come.few_so);
        one = λ alone. absurd (let no = sym several ∙ alone in cc);
      })

-- ---- the commands

pub compacts : (pools : Pools) (choice : LayersChoice) (document : Document) (found : List (ℕ × (ℕ × plain.Layer))) (steps : Change) → selected_layers choice (document_of document) ≡ Ok found → unreadable found ≡ [] → steps ≡ flat_map (compacting (keys_stay pools) (values_stay pools)) found → IsPrepared (compaction pools choice) (document_of document) steps
compacts Keys choice document found steps selects readable are = prepared is_key_used is_any (compaction Keys choice) choice document found steps refl refl refl refl selects readable are
compacts Values choice document found steps selects readable are = prepared is_any is_value_used (compaction Values choice) choice document found steps refl refl refl refl selects readable are
compacts Both choice document found steps selects readable are = prepared is_key_used is_value_used (compaction Both choice) choice document found steps refl refl refl refl selects readable are

-- where layers are selected, memory is asked for
pub compaction_asks : (pools : Pools) (choice : LayersChoice) (document : plain.Document) (found : List (ℕ × (ℕ × plain.Layer))) → selected_layers choice document ≡ Ok found → AsksForMemory (compaction pools choice) document
compaction_asks Keys choice document found selects = stands (selected_layers choice document) found selects
compaction_asks Values choice document found selects = stands (selected_layers choice document) found selects
compaction_asks Both choice document found selects = stands (selected_layers choice document) found selects

-- ---- what is refused

selected_by : (pools : Pools) (choice : LayersChoice) (document : plain.Document) (r : Result plain.Document Refusal) → change_readable (compacted (keys_stay pools) (values_stay pools)) choice document ≡ r → applied (compaction pools choice) document ≡ r
selected_by Keys choice document r is = is
selected_by Values choice document r is = is
selected_by Both choice document r is = is

-- where no layer is selected
pub none_selected : (pools : Pools) (choice : LayersChoice) (document : plain.Document) (refusal : Refusal) → selected_layers choice document ≡ Err refusal → applied (compaction pools choice) document ≡ Err refusal
none_selected pools choice document refusal is = selected_by pools choice document (Err refusal) (rw is refl)

front_refused : (bad rest : List (ℕ × ℕ)) (refusal : Refusal) → refuse_first bad ≡ Err refusal → refuse_first (bad ++ rest) ≡ Err refusal
front_refused [] rest refusal is = absurd cc
front_refused (at ∷ bad) rest refusal is = is

-- the features of a layer whose tags make no pairs
abbrev bad_of : ℕ × (ℕ × plain.Layer) → List (ℕ × ℕ)
bad_of at = map (λ (feature : ℕ). (at.0, feature)) (ordinals_of (λ (feature : plain.Feature). not (is_some (pairs_of at.1.1 feature))) (features at.1.1))

-- where a feature of the next layer is refused
pub layer_refused : (pools : Pools) (choice : LayersChoice) (document : plain.Document) (found : List (ℕ × (ℕ × plain.Layer))) (at : ℕ × (ℕ × plain.Layer)) (rest : List (ℕ × (ℕ × plain.Layer))) (refusal : Refusal) → selected_layers choice document ≡ Ok found → unreadable (at ∷ rest) ≡ unreadable found → refuse_first (unreadable (at ∷ [])) ≡ Err refusal → applied (compaction pools choice) document ≡ Err refusal
layer_refused pools choice document found at rest refusal selects left is =
    let front : refuse_first (bad_of at) ≡ Err refusal = ap refuse_first (sym (append-nil (bad_of at))) ∙ is in
    let all : refuse_first (unreadable found) ≡ Err refusal = ap refuse_first (sym left) ∙ front_refused (bad_of at) (unreadable rest) refusal front in
    selected_by pools choice document (Err refusal) (rw (selects, all) refl)

-- after a layer of which no feature is refused
pub readable_after : (at : ℕ × (ℕ × plain.Layer)) (rest : List (ℕ × (ℕ × plain.Layer))) → unreadable (at ∷ []) ≡ [] → unreadable (at ∷ rest) ≡ unreadable rest
readable_after at rest none = ap (λ bad. bad ++ unreadable rest) (sym (append-nil (bad_of at)) ∙ none)
