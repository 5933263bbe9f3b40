-- Which plain value a value of the program stands for.
use Rattle.std.specs.Prelude.{map}
use Rattle.mvt_document.specs.Plain as plain
use Rattle.mvt_document.specs.Bodies.{number_of}
pub use Rattle.mvt_document.specs.FieldStands.{field_of}
use Rattle.mvt_document.specs.declared.feature.FeatureParts.{FeatureParts as Feature}
use Rattle.mvt_document.specs.declared.document.LayerItem.{LayerItem}
use Rattle.mvt_document.specs.declared.document.LayerItem.TheVariants as in_layer
use Rattle.mvt_document.specs.declared.document.Layer.{Layer}
use Rattle.mvt_document.specs.declared.document.TileItem.{TileItem}
use Rattle.mvt_document.specs.declared.document.TileItem.TheVariants as in_tile
use Rattle.mvt_document.specs.declared.document.Document.{Document}

-- the plain feature that a feature of the program stands for
abbrev pub feature_of : Feature → plain.Feature
feature_of f = record { tag = number_of f.tag; width = f.width; fields = map field_of f.fields.items }

-- the plain item that an item of a layer stands for
abbrev pub layer_item_of : LayerItem → plain.LayerItem
layer_item_of (in_layer.Feature feature) = plain.OfFeature (feature_of feature)
layer_item_of (in_layer.Plain field) = plain.PlainInLayer (field_of field)

-- the plain layer that a layer of the program stands for
abbrev pub layer_of : Layer → plain.Layer
layer_of l = record { tag = number_of l.tag; width = l.width; items = map layer_item_of l.items.items }

-- the plain item that an item of a tile stands for
abbrev pub tile_item_of : TileItem → plain.TileItem
tile_item_of (in_tile.Layer layer) = plain.OfLayer (layer_of layer)
tile_item_of (in_tile.Plain field) = plain.PlainInTile (field_of field)

-- the plain document that a document of the program stands for
abbrev pub document_of : Document → plain.Document
document_of d = map tile_item_of d.items.items
