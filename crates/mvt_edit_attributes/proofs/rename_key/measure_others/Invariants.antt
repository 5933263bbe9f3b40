use Rattle.std.proofs.Common.{length, map, not, take}
use Rattle.std.specs.List.{filter, flat_map}
use Rattle.mvt_document.specs.Stands.{layer_item_of}
use Rattle.mvt_document.specs.Wire.{layer_item_bytes}
use Rattle.mvt_change.specs.FileSizes.{IsFileSize}
use Rattle.mvt_meaning.specs.Tagging.{is_key}
use Rattle.mvt_edit_attributes.proofs.rename_key.measure_others.Given as goal

abbrev pub invariant-loop-item : goal.invariant-loop-item
invariant-loop-item l = IsFileSize l.size (length (flat_map layer_item_bytes (filter (λ item. not (is_key l.old item)) (map layer_item_of (take l.item-index l.items)))))
