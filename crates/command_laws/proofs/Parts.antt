-- The layers of a tile and the features of a layer, where one of them changes.
use Rattle.std.proofs.Common.{◌≡◌, ℕ, zero, suc, Some, None, Ok, List, [], ◌∷◌, ◌++◌, filter, slice_get, refl, ap, ◌∙◌, subst}
use Rattle.std.specs.List.{filter_map}
use Rattle.std.specs.Option.{option_map_or}
use Rattle.mvt_document.specs.Plain.{Field, Feature, LayerItem, OfFeature, PlainInLayer, Layer, TileItem, OfLayer, PlainInTile, Document}
use Rattle.mvt_meaning.specs.Command.{LayerChoice, FeatureChoice}
use Rattle.mvt_document.specs.Places.{fields_in, in_feature, in_layer}
use Rattle.mvt_messages.specs.Views.{feature_in, features, features_in, layer_in, layers, plain_in}
use Rattle.mvt_meaning.specs.Ordinals.{change_first, change_nth}
use Rattle.mvt_meaning.specs.Selection.{is_feature, selected, selected_feature}
use Rattle.mvt_meaning.specs.Meaning.{change_layer, fields_of, items_of}
use Rattle.mvt_meaning.proofs.Selecting.{selected_within, selected_feature_within}
use Rattle.command_laws.specs.Kept.{ChangesFeature, ChangesLayer, field_in}
use Rattle.command_laws.proofs.Around.{Around, OneDiffers, around, from_around, one_differs, parts_between}

-- ---- a layer

pub layer_apart : (item : TileItem) (layer : Layer) → layer_in item ≡ Some layer → field_in item ≡ None
layer_apart (OfLayer layer) other e = refl
layer_apart (PlainInTile field) other e = absurd cc

abbrev pub with_items : (List LayerItem → List LayerItem) → Layer → Layer
with_items change layer = record { tag = layer.tag; width = layer.width; items = change layer.items }

layer_given : (change : List LayerItem → List LayerItem) (item : TileItem) (layer : Layer) → layer_in item ≡ Some layer → layer_in (in_layer change item) ≡ Some (with_items change layer)
layer_given change (OfLayer layer) other e = let same : layer ≡ other = cc in ap (λ (l : Layer). Some (with_items change l)) same
layer_given change (PlainInTile field) other e = absurd cc

pub layer_differs : (change : List LayerItem → List LayerItem) (ordinal : ℕ) (document : Document) (a : Around layer_in ordinal document) → OneDiffers layer_in field_in ordinal document (change_layer change ordinal document) a.value (with_items change a.value)
layer_differs change ordinal document a =
    one_differs layer_in field_in layer_apart (in_layer change) ordinal document a (with_items change a.value) (layer_given change a.item a.value a.has)

-- the layers before that one, what it has become, and those after it
pub layers_between : (change : List LayerItem → List LayerItem) (ordinal : ℕ) (document : Document) (a : Around layer_in ordinal document) → layers (change_layer change ordinal document) ≡ filter_map layer_in a.front ++ with_items change a.value ∷ filter_map layer_in a.back
layers_between change ordinal document a =
    ap layers (from_around layer_in (change_first (in_layer change)) ordinal document a)
    ∙ parts_between layer_in a.front (in_layer change a.item) (with_items change a.value) a.back (layer_given change a.item a.value a.has)

pub items_there : (document : Document) (ordinal : ℕ) (layer : Layer) → slice_get (layers document) ordinal ≡ Some layer → items_of ordinal document ≡ layer.items
items_there document ordinal layer there = rw there refl

-- a change of the items of the selected layer
pub changes_layer : (choice : LayerChoice) (way : Layer → Layer → Type 0) (change : List LayerItem → List LayerItem) (old new : Document) (ordinal : ℕ) → selected choice old ≡ Ok ordinal → change_layer change ordinal old ≡ new → ((layer : Layer) → slice_get (layers old) ordinal ≡ Some layer → way layer (with_items change layer)) → ChangesLayer choice way old new
changes_layer choice way change old new ordinal selects made changed =
    let a = around layer_in old ordinal (selected_within choice old ordinal selects) in
    let d = layer_differs change ordinal old a in
    subst (ChangesLayer choice way old) made (record {
      ordinal = ordinal;
      selects = selects;
      former = a.value;
      was = d.was;
      present = with_items change a.value;
      is = d.is;
      tag = refl;
      width = refl;
      changed = changed a.value d.was;
      alone = record { others = d.others; fields = d.fields; positions = d.positions };
    })

-- ---- a feature

pub feature_apart : (item : LayerItem) (feature : Feature) → feature_in item ≡ Some feature → plain_in item ≡ None
feature_apart (OfFeature feature) other e = refl
feature_apart (PlainInLayer field) other e = absurd cc

abbrev pub with_fields : (List Field → List Field) → Feature → Feature
with_fields change feature = record { tag = feature.tag; width = feature.width; fields = change feature.fields }

pub feature_given : (change : List Field → List Field) (item : LayerItem) (feature : Feature) → feature_in item ≡ Some feature → feature_in (in_feature change item) ≡ Some (with_fields change feature)
feature_given change (OfFeature feature) other e = let same : feature ≡ other = cc in ap (λ (f : Feature). Some (with_fields change f)) same
feature_given change (PlainInLayer field) other e = absurd cc

-- a change of the fields of the selected feature
pub changes_feature : (choice : FeatureChoice) (way : Feature → Feature → Type 0) (change : List Field → List Field) (layer : Layer) (ordinal : ℕ) → selected_feature choice layer ≡ Ok ordinal → ((feature : Feature) → slice_get (features layer) ordinal ≡ Some feature → way feature (with_fields change feature)) → ChangesFeature choice way layer (with_items (change_nth is_feature (in_feature change) ordinal) layer)
changes_feature choice way change layer ordinal selects changed =
    let a = around feature_in layer.items ordinal (selected_feature_within choice layer ordinal selects) in
    let d = one_differs feature_in plain_in feature_apart (in_feature change) ordinal layer.items a (with_fields change a.value) (feature_given change a.item a.value a.has) in
    record {
      ordinal = ordinal;
      selects = selects;
      former = a.value;
      was = d.was;
      present = with_fields change a.value;
      is = d.is;
      tag = refl;
      width = refl;
      changed = changed a.value d.was;
      alone = record { others = d.others; fields = d.fields; positions = d.positions };
    }

-- ---- the fields of a feature

pub fields_there : (items : List LayerItem) (index : ℕ) (feature : Feature) → slice_get (features_in items) index ≡ Some feature → option_map_or (λ item. option_map_or (λ (fields : List Field). fields) (fields_in item) []) (slice_get (filter is_feature items) index) [] ≡ feature.fields
fields_there [] index feature is = absurd cc
fields_there (OfFeature first ∷ items) zero feature is = let same : first ≡ feature = cc in ap (λ (f : Feature). f.fields) same
fields_there (OfFeature first ∷ items) (suc index) feature is = fields_there items index feature is
fields_there (PlainInLayer field ∷ items) index feature is = fields_there items index feature is

pub fields_found : (document : Document) (ordinal index : ℕ) (layer : Layer) (feature : Feature) → slice_get (layers document) ordinal ≡ Some layer → slice_get (features layer) index ≡ Some feature → fields_of ordinal index document ≡ feature.fields
fields_found document ordinal index layer feature there is =
    ap (λ (list : List LayerItem). option_map_or (λ item. option_map_or (λ (fields : List Field). fields) (fields_in item) []) (slice_get (filter is_feature list) index) []) (items_there document ordinal layer there)
    ∙ fields_there layer.items index feature is
