use Rattle.std.proofs.lemmas.List.Folds.{flat_map-map}
use Rattle.mvt_wire.proofs.messages.FeatureEncode.fill.Goals as goal

pub put_message-requires : goal.put_message-requires
put_message-requires c = rw (c.tag.ensures, c.width.ensures, c.fields.ensures) (rw flat_map-map at c.requires)

pub returns : goal.returns
returns c = rw (flat_map-map, ← c.tag.ensures, ← c.width.ensures, ← c.fields.ensures) c.put_message.ensures
