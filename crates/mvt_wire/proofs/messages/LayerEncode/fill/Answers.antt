use Rattle.std.proofs.lemmas.List.Folds.{flat_map-map}
use Rattle.mvt_wire.proofs.messages.LayerEncode.fill.Goals as goal

pub put_message-requires : goal.put_message-requires
put_message-requires c = rw (c.to_tag.ensures, c.as_slice.ensures) (rw flat_map-map at c.requires)

pub returns : goal.returns
returns c = rw (flat_map-map, ← c.to_tag.ensures, ← c.as_slice.ensures) c.put_message.ensures
