-- The tags fields of each feature are removed.
use Rattle.std.proofs.Common.{◌≡◌, ℕ, ◌≤◌, ◌/◌, ◌==◌, Bool, true, false, ◌||◌, cond, is_some, None, Ok, Err, List, [], ◌∷◌, ◌++◌, length, length-append, map, filter, refl, sym, ap, ◌∙◌, subst, arith}
use Rattle.std.proofs.lemmas.List.Folds.{flat_map-map}
use Rattle.std.specs.List.{AllByRecursion, flat_map}
use Rattle.mvt_document.specs.Plain as plain
use Rattle.mvt_document.specs.Opens.{IsField}
use Rattle.mvt_document.specs.Bodies.{body_of}
use Rattle.mvt_document.specs.Stands.{document_of, field_of, layer_item_of, tile_item_of}
use Rattle.mvt_document.specs.Wire.{body_bytes, field_bytes, spell}
use Rattle.mvt_document.specs.declared.body.Body.{Body}
use Rattle.mvt_document.specs.declared.body.Body.TheVariants.{Number, Eight, Four, Bytes, Group}
use Rattle.mvt_document.specs.declared.document.Document.{Document}
use Rattle.mvt_document.specs.declared.field.FieldParts.{FieldParts as Field}
use Rattle.mvt_document.specs.declared.document.LayerItem.{LayerItem}
use Rattle.mvt_document.specs.declared.document.LayerItem.TheVariants as in_layer
use Rattle.mvt_document.specs.declared.document.TileItem.{TileItem}
use Rattle.mvt_document.specs.declared.document.TileItem.TheVariants as in_tile
use Rattle.mvt_document.proofs.Sizes.{delimited_some}
use Rattle.mvt_messages.specs.Found.{found_features}
use Rattle.mvt_messages.specs.Views.{content_of, feature_in, value_of}
use Rattle.mvt_layers.proofs.Placing.{found_items}
use Rattle.mvt_change.specs.Changes.{Change}
use Rattle.mvt_meaning.specs.Command.{LayersChoice, ExcludeAll}
use Rattle.mvt_meaning.specs.Meaning.{applied}
use Rattle.mvt_meaning.specs.Memory.{AsksForMemory}
use Rattle.mvt_meaning.specs.Selection.{selected_layers}
use Rattle.mvt_meaning.specs.Tagging.{is_tags, tags_fields, without_tags}
use Rattle.mvt_meaning.specs.declared.refusal.Refusal.{Refusal}
use Rattle.mvt_meaning.proofs.Asking.{asks_by}
use Rattle.mvt_edit_steps.specs.Prepared.{IsPrepared}
use Rattle.mvt_edit_steps.specs.Fates.{splices_of}
use Rattle.mvt_edit_steps.proofs.CarriedOut.{put_all, taken_all}
use Rattle.mvt_edit_steps.proofs.Going.{takes_out}
use Rattle.mvt_edit_steps.proofs.Heavy.{heavy, number_has_bytes}
use Rattle.mvt_edit_steps.specs.EachFeature.{layer_steps}
use Rattle.mvt_edit_attributes.specs.EachFeature.{tags_go}
use Rattle.mvt_edit_steps.proofs.Come.{Carries, CarriesIn, puts_in, takes_in}
use Rattle.mvt_edit_attributes.proofs.EachFeature.{CarriesInTile, layers_made, none_made}

-- ---- tags fields have at least two bytes

value_tagged : (same : Bool) (body : Body) → (is_some (cond same (value_of (body_of body)) None) || is_some (cond same (content_of (body_of body)) None)) ≡ true → 1 ≤ length (body_bytes (body_of body))
value_tagged false body tagged = absurd cc
value_tagged true (Number varint) tagged = number_has_bytes varint
value_tagged true (Eight bytes) tagged = absurd cc
value_tagged true (Four bytes) tagged = absurd cc
value_tagged true (Bytes width bytes) tagged = delimited_some width bytes.items
value_tagged true (Group bytes) tagged = absurd cc

tags_have_bytes : (field : Field) → is_tags (field_of field) ≡ true → 2 ≤ length (field_bytes (field_of field))
tags_have_bytes field tagged =
    let body = value_tagged (field.tag.value / 8 == 2) field.body tagged in
    omega (arith, body, number_has_bytes field.tag, length-append (spell field.tag.value field.tag.width) (body_bytes (body_of field.body)))

-- ---- the fields of each feature

tags_carry : (fields : List Field) → Carries tags_go without_tags (map field_of fields)
tags_carry fields =
    let plain_list = map field_of fields in
    let cut = takes_out is_tags plain_list in
    record {
      there = cut.there;
      valid = subst (AllByRecursion IsField) (sym cut.puts) tt;
      leaves = cut.leaves;
      few = omega (arith, cut.few, heavy field_bytes field_of is_tags tags_have_bytes fields, ap (λ gone. length (flat_map field_bytes gone)) cut.takes);
    }

items_carry : (items : List LayerItem) → AllByRecursion (CarriesIn tags_go without_tags) (map layer_item_of items)
items_carry [] = tt
items_carry (in_layer.Feature feature ∷ items) = (tags_carry feature.fields.items, items_carry items)
items_carry (in_layer.Plain field ∷ items) = (tt, items_carry items)

layers_carry : (items : List TileItem) → AllByRecursion (CarriesInTile (λ items. tags_go) (λ items. without_tags)) (map tile_item_of items)
layers_carry [] = tt
layers_carry (in_tile.Layer layer ∷ items) = (items_carry layer.items.items, layers_carry items)
layers_carry (in_tile.Plain field ∷ items) = (tt, layers_carry items)

-- ---- what goes from all features

abbrev put : ℕ × (ℕ × plain.Layer) → List plain.Field
put found = puts_in (λ items. tags_go) (λ items. without_tags) found

abbrev taken : ℕ × (ℕ × plain.Layer) → List plain.Field
taken found = takes_in (λ items. tags_go) (λ items. without_tags) found

none_put_of : (found : List (ℕ × (ℕ × plain.Feature))) → flat_map (λ at. put_all (splices_of (tags_go at.1.1.fields))) found ≡ []
none_put_of [] = refl
none_put_of (at ∷ found) = ap (λ first. first ++ flat_map (λ at. put_all (splices_of (tags_go at.1.1.fields))) found) (takes_out is_tags at.1.1.fields).puts ∙ none_put_of found

none_put : (found : List (ℕ × (ℕ × plain.Layer))) → flat_map put found ≡ []
none_put [] = refl
none_put (at ∷ found) = ap (λ first. first ++ flat_map put found) (none_put_of (found_features at.1.1.items)) ∙ none_put found

tags_taken_of : (found : List (ℕ × (ℕ × plain.Feature))) → flat_map (λ at. taken_all (splices_of (tags_go at.1.1.fields)) at.1.1.fields) found ≡ flat_map (λ at. filter is_tags at.1.1.fields) found
tags_taken_of [] = refl
tags_taken_of (at ∷ found) =
    ap (λ first. first ++ flat_map (λ at. taken_all (splices_of (tags_go at.1.1.fields)) at.1.1.fields) found) (takes_out is_tags at.1.1.fields).takes
    ∙ ap (λ rest. filter is_tags at.1.1.fields ++ rest) (tags_taken_of found)

tags_taken_in : (at : ℕ × (ℕ × plain.Layer)) → taken at ≡ tags_fields at.1.1
tags_taken_in at =
    let found = found_features at.1.1.items in
    tags_taken_of found
    ∙ sym (flat_map-map (λ (feature : plain.Feature). filter is_tags feature.fields) (λ (at : ℕ × (ℕ × plain.Feature)). at.1.1) found)
    ∙ ap (flat_map (λ (feature : plain.Feature). filter is_tags feature.fields)) (found_items feature_in at.1.1.items)

tags_taken : (found : List (ℕ × (ℕ × plain.Layer))) → flat_map taken found ≡ flat_map (λ at. tags_fields at.1.1) found
tags_taken [] = refl
tags_taken (at ∷ found) = ap (λ first. first ++ flat_map taken found) (tags_taken_in at) ∙ ap (λ rest. tags_fields at.1.1 ++ rest) (tags_taken found)

-- ---- the command

pub untags : (choice : LayersChoice) (document : Document) (found : List (ℕ × (ℕ × plain.Layer))) (change : Change) → selected_layers choice (document_of document) ≡ Ok found → change ≡ flat_map (layer_steps (λ items. tags_go)) found → IsPrepared (ExcludeAll choice) (document_of document) change
untags choice document found change selects steps =
    let made = layers_made (λ items. tags_go) (λ items. without_tags) choice (document_of document) found selects (layers_carry document.items.items) in
    let come = made.come in
    let puts = come.puts_so ∙ ap (λ fields. length (flat_map field_bytes fields)) (none_put found) in
    let takes = come.takes_so ∙ ap (λ fields. length (flat_map field_bytes fields)) (tags_taken found) in
    rw steps (record {
      fits = come.fits;
      means = made.means ∙ ap Ok (sym come.makes);
      puts = omega arith;
      takes = rw selects (omega arith);
      steps = rw selects (omega (arith, come.few_so, come.takes_so, come.puts_so, takes));
      one = λ is. absurd cc;
    })

-- where layers are selected it is accepted
pub untagging_asks : (choice : LayersChoice) (document : Document) (found : List (ℕ × (ℕ × plain.Layer))) → selected_layers choice (document_of document) ≡ Ok found → AsksForMemory (ExcludeAll choice) (document_of document)
untagging_asks choice document found selects =
    let made = layers_made (λ items. tags_go) (λ items. without_tags) choice (document_of document) found selects (layers_carry document.items.items) in
    asks_by (ExcludeAll choice) (document_of document) made.made made.means

pub no_layer_untagged : (choice : LayersChoice) (document : plain.Document) (refusal : Refusal) → selected_layers choice document ≡ Err refusal → applied (ExcludeAll choice) document ≡ Err refusal
no_layer_untagged choice document refusal refused = none_made (λ items. tags_go) (λ items. without_tags) choice document refusal refused
