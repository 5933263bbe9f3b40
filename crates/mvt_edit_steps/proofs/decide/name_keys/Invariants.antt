use Rattle.std.proofs.Common.{◌≡◌, ◌++◌, map}
use Rattle.std.specs.Str.{bytes_eq}
use Rattle.mvt_layers.specs.Seen.{layer_seen}
use Rattle.mvt_messages.specs.Views.{keys}
use Rattle.mvt_edit_steps.proofs.decide.name_keys.Given as goal

abbrev pub invariant-loop-other : goal.invariant-loop-other
invariant-loop-other l = l.named.items ++ map (bytes_eq l.key) l.other-iterator ≡ map (bytes_eq l.key) (keys (layer_seen l.layer))
