-- Whether a file can hold a tile once the fields of one feature are changed, where their size is known.
use Rattle.std.proofs.Common.{◌≡◌, ℕ, Bool, not, Option, Some, List, [], ◌++◌, length, nat_lt, slice_get, append-nil, refl, ap, arith}
use Rattle.std.specs.List.{flat_map}
use Rattle.std.specs.Option.{IfSome}
use Rattle.mvt_document.proofs.Sizes.{same_size}
use Rattle.mvt_document.specs.declared.TheConstants.{MAX_FILE}
use Rattle.mvt_document.specs.Lists.{change_at}
use Rattle.mvt_document.specs.Places.{change_fields, change_items, fields_in_at, in_feature, items_at}
use Rattle.mvt_document.specs.Plain.{Feature, Field, Layer, LayerItem, OfFeature, OfLayer, Document}
use Rattle.mvt_document.specs.Wire.{bytes_of, field_bytes, layer_item_bytes}
use Rattle.mvt_change.specs.FileSizes.{IsFileSize}
use Rattle.mvt_change.proofs.Resized.{fields_there, items_there}

no_bytes : IsFileSize (Some 0) (length (flat_map layer_item_bytes []))
no_bytes = (omega arith, refl)

module _ (document : Document) (position item : ℕ) (layer : Layer) (feature : Feature) (there : slice_get document position ≡ Some (OfLayer layer)) (feature_there : slice_get layer.items item ≡ Some (OfFeature feature)) (change : List Field → List Field) where
  -- the sizes of the fields and of the items of the layer, and whether the tile fits
  pub fits_by_fields : (fields items : Option ℕ) (fits : Bool) → IsFileSize fields (length (flat_map field_bytes (change feature.fields)))
      → ((changed : List Field → List Field) (more : List LayerItem) → IfSome (fields_in_at item layer.items) (λ old. IsFileSize fields (length (flat_map field_bytes (changed old)))) → IsFileSize (Some 0) (length (flat_map layer_item_bytes more)) → IsFileSize items (length (flat_map layer_item_bytes (change_at (in_feature changed) item layer.items ++ more))))
      → ((changed : List LayerItem → List LayerItem) → IfSome (items_at position document) (λ old. IsFileSize items (length (flat_map layer_item_bytes (changed old)))) → fits ≡ not (nat_lt MAX_FILE (length (bytes_of (change_items changed position document)))))
      → fits ≡ not (nat_lt MAX_FILE (length (bytes_of (change_fields change position item document))))
  fits_by_fields fields items fits size resized answered =
      let changed : List LayerItem → List LayerItem = λ old. change_at (in_feature change) item old in
      let with_none = resized change [] (fields_there item layer.items feature (λ old. IsFileSize fields (length (flat_map field_bytes (change old)))) feature_there size) no_bytes in
      let whole = same_size MAX_FILE items _ _ (ap (λ list. length (flat_map layer_item_bytes list)) (append-nil (changed layer.items))) with_none in
      answered changed (items_there position document layer (λ old. IsFileSize items (length (flat_map layer_item_bytes (changed old)))) there whole)
