-- What the forms in which items to put are held stand for.
use Rattle.std.specs.Prelude.{◌≡◌, ◌-◌, [], length, vec_len, vec_capacity}
use Rattle.mvt_document.specs.Held.{Held}
use Rattle.mvt_document.specs.declared.put.Form.{Form}
use Rattle.mvt_document.specs.declared.put.Form.TheVariants.{Empty, One, Many}

-- the items, and the room for more: one item has its place in the form
abbrev pub held_form : {T : Type 0} → Form T → Held T
held_form Empty = record { items = []; room = 1 }
held_form (One item) = record { items = item; room = 0 }
held_form (Many list) = record { items = list.items; room = vec_capacity list - vec_len list }

-- what is held in the value itself is one item
abbrev pub HoldsOne : {T : Type 0} → Form T → Type 0
HoldsOne Empty = Unit {0}
HoldsOne (One item) = length item ≡ 1
HoldsOne (Many list) = Unit {0}
