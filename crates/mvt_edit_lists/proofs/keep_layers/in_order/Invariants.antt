use Rattle.std.proofs.Common.{◌≡◌, map, take}
use Rattle.mvt_edit_lists.proofs.keep_layers.in_order.Given as goal

abbrev pub invariant-loop-name : goal.invariant-loop-name
invariant-loop-name l = map (λ name. name.now) l.ordered.items ≡ map (λ name. name.items) (take l.name-index l.names)
