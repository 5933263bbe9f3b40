-- Each line of a listing may be printed.
use Rattle.std.proofs.Common.{◌≡◌, ℕ, ◌==◌, Bool, true, List, [], ◌∷◌, ◌++◌, length, map, Option, Some, None, codes, decimal, refl}
use Rattle.std.specs.Prelude.{◌&&◌, not}
use Rattle.std.specs.List.{AllByRecursion, enumerate_from, find}
use Rattle.std.specs.Option.{option_and_then, option_map_or}
use Rattle.std.proofs.lemmas.Bool.{and_parts, not-true}
use Rattle.mvt_document.specs.Plain.{Document, Feature, Layer}
use Rattle.mvt_value.specs.Values.{Value}
use Rattle.mvt_value.proofs.Fields.{read_in_range}
use Rattle.mvt_messages.specs.Numbers.{numbers}
use Rattle.mvt_geometry.specs.Shapes.{Geometry, IsGeometry, kind_number}
use Rattle.mvt_geometry.specs.declared.shapes.Kind.{Kind}
use Rattle.mvt_messages.specs.Views.{extent_of, features, id_of, keys, kind_of, layers, name_of, values, version_of}
use Rattle.mvt_messages.specs.Attributes.{attributes, values_in}
use Rattle.mvt_value.specs.Found.{value_in}
use Rattle.mvt_geometry.specs.Found.{geometry_in}
use Rattle.mvt_value.proofs.Found.{value_in_bytes}
use Rattle.mvt_geometry.proofs.Found.{geometry_in_numbers}
use Rattle.tile_arguments.specs.Arguments.{kinds, kind_word}
use Rattle.tile_text.specs.Texts.{text_form, value_form, raw_form, geometry_form}
use Rattle.tile_text.proofs.Feeds.{kind_feedless, text_form_feedless, value_form_feedless, raw_form_feedless, geometry_form_feedless}
use Rattle.tile_lines.specs.Lines.{is_line_feed, HasNoLineFeed}
use Rattle.mvt_meaning.specs.Geometries.{geometry_among}
use Rattle.tile_listing.specs.Listing.{absent, attribute_line, attribute_lines, feature_line, geometry_line, id_word, key_line, kind_form, layer_line, layer_numbers, layers_line, lines_of_feature, lines_of_layer, lines_of_tile, name_word, numbered, spaced, value_line, value_shown}
use Rattle.tile_listing.specs.Printed.{MayBePrinted}
use Rattle.tile_listing.proofs.Printing.{uncut-append, decimal_uncut, may_print, one_of}

-- ---- words without a line feed

-- a test for literals, which computes
abbrev feedless : List ℕ → Bool
feedless [] = true
feedless (b ∷ bytes) = not (is_line_feed b) && feedless bytes

tested : (bytes : List ℕ) → feedless bytes ≡ true → HasNoLineFeed bytes
tested [] e = tt
tested (b ∷ bytes) e = let parts = and_parts (not (is_line_feed b)) (feedless bytes) e in (not-true (is_line_feed b) parts.0, tested bytes parts.1)

spaced_uncut : (words : List (List ℕ)) → AllByRecursion HasNoLineFeed words → HasNoLineFeed (spaced words)
spaced_uncut [] h = tt
spaced_uncut (word ∷ []) h = h.0
spaced_uncut (word ∷ next ∷ more) h = uncut-append word (32 ∷ spaced (next ∷ more)) h.0 (refl, spaced_uncut (next ∷ more) h.1)

name_uncut : (name : Option (List ℕ)) → HasNoLineFeed (name_word name)
name_uncut None = tested absent refl
name_uncut (Some name) = text_form_feedless name

id_uncut : (id : Option ℕ) → HasNoLineFeed (id_word id)
id_uncut None = tested absent refl
id_uncut (Some id) = decimal_uncut id

found_value_uncut : (bytes : List ℕ) (found : Option Value) → value_in bytes ≡ found → HasNoLineFeed (option_map_or value_form found (raw_form bytes))
found_value_uncut bytes None e = raw_form_feedless bytes
found_value_uncut bytes (Some value) e = value_form_feedless value (read_in_range bytes value ((value_in_bytes bytes value).0 e))

value_uncut : (bytes : List ℕ) → HasNoLineFeed (value_shown bytes)
value_uncut bytes = found_value_uncut bytes (value_in bytes) refl

found_kind_uncut : (found : Option Kind) (other : List ℕ) → HasNoLineFeed other → HasNoLineFeed (option_map_or kind_word found other)
found_kind_uncut None other h = h
found_kind_uncut (Some kind) other h = kind_feedless kind

kind_uncut : (kind : ℕ) → HasNoLineFeed (kind_form kind)
kind_uncut kind =
    one_of (kind == 0) (codes "unknown") _ (tested (codes "unknown") refl)
    (found_kind_uncut (find (λ k. kind_number k == kind) kinds) _ (spaced_uncut (codes "kind" ∷ decimal kind ∷ []) (tested (codes "kind") refl, (decimal_uncut kind, tt))))

found_is_geometry : (kind : ℕ) (read : Option (List ℕ)) (geometry : Geometry) → option_and_then (geometry_in kind) read ≡ Some geometry → IsGeometry geometry
found_is_geometry kind None geometry e = absurd cc
found_is_geometry kind (Some integers) geometry e = let has = (geometry_in_numbers kind integers geometry).0 e in has.valid

found_geometry_uncut : (feature : Feature) (found : Option Geometry) → geometry_among feature.fields ≡ found → HasNoLineFeed (option_map_or geometry_form found (codes "unreadable"))
found_geometry_uncut feature None e = tested (codes "unreadable") refl
found_geometry_uncut feature (Some geometry) e = geometry_form_feedless geometry (found_is_geometry (kind_of feature) (values_in (numbers 4 feature.fields)) geometry e)

-- ---- lines

layers_line_may : (document : Document) → MayBePrinted (layers_line document)
layers_line_may document =
    may_print (layers_line document)
    (spaced_uncut (codes "layers" ∷ decimal (length (layers document)) ∷ []) (tested (codes "layers") refl, (decimal_uncut _, tt)))
    refl refl

layer_numbers_uncut : (layer : Layer) → HasNoLineFeed (layer_numbers layer)
layer_numbers_uncut layer = spaced_uncut
    (codes "version" ∷ decimal (version_of layer) ∷ codes "extent" ∷ decimal (extent_of layer)
    ∷ codes "features" ∷ decimal (length (features layer)) ∷ codes "keys" ∷ decimal (length (keys layer)) ∷ codes "values" ∷ decimal (length (values layer)) ∷ [])
    (tested (codes "version") refl, (decimal_uncut _, (tested (codes "extent") refl, (decimal_uncut _, (tested (codes "features") refl, (decimal_uncut _, (tested (codes "keys") refl, (decimal_uncut _, (tested (codes "values") refl, (decimal_uncut _, tt))))))))))

layer_line_may : (ordinal : ℕ) (layer : Layer) → MayBePrinted (layer_line ordinal layer)
layer_line_may ordinal layer =
    may_print (layer_line ordinal layer)
    (spaced_uncut (codes "layer" ∷ decimal ordinal ∷ name_word (name_of layer) ∷ layer_numbers layer ∷ [])
    (tested (codes "layer") refl, (decimal_uncut ordinal, (name_uncut (name_of layer), (layer_numbers_uncut layer, tt)))))
    refl refl

key_line_may : (ordinal : ℕ) (key : List ℕ) → MayBePrinted (key_line ordinal key)
key_line_may ordinal key =
    may_print (key_line ordinal key)
    (spaced_uncut (codes "key" ∷ decimal ordinal ∷ text_form key ∷ []) (tested (codes "key") refl, (decimal_uncut ordinal, (text_form_feedless key, tt))))
    refl refl

value_line_may : (ordinal : ℕ) (value : List ℕ) → MayBePrinted (value_line ordinal value)
value_line_may ordinal value =
    may_print (value_line ordinal value)
    (spaced_uncut (codes "value" ∷ decimal ordinal ∷ value_shown value ∷ []) (tested (codes "value") refl, (decimal_uncut ordinal, (value_uncut value, tt))))
    refl refl

feature_line_may : (ordinal : ℕ) (feature : Feature) → MayBePrinted (feature_line ordinal feature)
feature_line_may ordinal feature =
    may_print (feature_line ordinal feature)
    (spaced_uncut (codes "feature" ∷ decimal ordinal ∷ codes "id" ∷ id_word (id_of feature) ∷ kind_form (kind_of feature) ∷ [])
    (tested (codes "feature") refl, (decimal_uncut ordinal, (tested (codes "id") refl, (id_uncut (id_of feature), (kind_uncut (kind_of feature), tt))))))
    refl refl

attribute_line_may : (attribute : List ℕ × List ℕ) → MayBePrinted (attribute_line attribute)
attribute_line_may attribute =
    may_print (attribute_line attribute)
    (spaced_uncut (codes "attribute" ∷ text_form attribute.0 ∷ value_shown attribute.1 ∷ []) (tested (codes "attribute") refl, (text_form_feedless attribute.0, (value_uncut attribute.1, tt))))
    refl refl

unreadable_may : MayBePrinted (codes "attributes unreadable")
unreadable_may = may_print (codes "attributes unreadable") (tested (codes "attributes unreadable") refl) refl refl

geometry_line_may : (feature : Feature) → MayBePrinted (geometry_line feature)
geometry_line_may feature =
    may_print (geometry_line feature)
    (spaced_uncut (codes "geometry" ∷ option_map_or geometry_form (geometry_among feature.fields) (codes "unreadable") ∷ [])
    (tested (codes "geometry") refl, (found_geometry_uncut feature (geometry_among feature.fields) refl, tt)))
    refl refl

-- ---- listings

abbrev pub MayAllBePrinted : List (List ℕ) → Type 0
MayAllBePrinted lines = AllByRecursion MayBePrinted lines

both_may : (xs ys : List (List ℕ)) → MayAllBePrinted xs → MayAllBePrinted ys → MayAllBePrinted (xs ++ ys)
both_may [] ys h k = k
both_may (x ∷ xs) ys h k = (h.0, both_may xs ys h.1 k)

each_may : {A : Type 0} (line : A → List ℕ) → ((x : A) → MayBePrinted (line x)) → (items : List A) → MayAllBePrinted (map line items)
each_may line may [] = tt
each_may line may (x ∷ items) = (may x, each_may line may items)

numbered_may : {A : Type 0} (line : ℕ → A → List ℕ) → ((ordinal : ℕ) (x : A) → MayBePrinted (line ordinal x)) → (items : List A) → MayAllBePrinted (numbered line items)
numbered_may {A} line may items = each_may (λ (p : ℕ × A). line p.0 p.1) (λ p. may p.0 p.1) (enumerate_from 0 items)

pub tile_may : (document : Document) → MayAllBePrinted (lines_of_tile document)
tile_may document = (layers_line_may document, numbered_may layer_line layer_line_may (layers document))

pub layer_may : (ordinal : ℕ) (layer : Layer) → MayAllBePrinted (lines_of_layer ordinal layer)
layer_may ordinal layer = (
  layer_line_may ordinal layer,
  both_may (numbered key_line (keys layer)) (numbered value_line (values layer) ++ numbered feature_line (features layer))
      (numbered_may key_line key_line_may (keys layer))
      (both_may (numbered value_line (values layer)) (numbered feature_line (features layer)) (numbered_may value_line value_line_may (values layer)) (numbered_may feature_line feature_line_may (features layer))),
)

attributes_may : (found : Option (List (List ℕ × List ℕ))) → MayAllBePrinted (option_map_or (map attribute_line) found (codes "attributes unreadable" ∷ []))
attributes_may None = (unreadable_may, tt)
attributes_may (Some list) = each_may attribute_line attribute_line_may list

pub feature_may : (layer : Layer) (ordinal : ℕ) (feature : Feature) → MayAllBePrinted (lines_of_feature layer ordinal feature)
feature_may layer ordinal feature =
    (feature_line_may ordinal feature, both_may (attribute_lines layer feature) (geometry_line feature ∷ []) (attributes_may (attributes layer feature)) (geometry_line_may feature, tt))
