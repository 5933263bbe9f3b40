-- What a list ends as when a `&mut` to its vector is returned.
use Rattle.std.specs.Prelude.{◌-◌, vec_len, vec_capacity}
use Rattle.std.specs.Borrow.{Lends, Fml, RattleType, MutBor}
use Rattle.std.specs.declared.alloc.Global.{Global}
use Rattle.std.specs.declared.vec.Vec.{Vec}
use Rattle.std.specs.contracts.alloc.Global as global
use Rattle.std.specs.contracts.vec.Vec as vec
use Rattle.std.specs.contracts.impls.GlobalAllocator.TheImpl.{ghosts}
use Rattle.mvt_document.specs.Held.{Held}
use Rattle.mvt_document.specs.contracts.items.Items.{the_row}

-- the list that a vector is, as contracts see it
abbrev pub held_in : {T : Type 0} → Vec T Global → Held T
held_in list = record { items = list.items; room = vec_capacity list - vec_len list }

-- a vector over the global allocator, as the logic names its type
abbrev pub vec_row : RattleType → RattleType
vec_row T = vec.the_row T global.the_row ghosts

-- once the borrow `r` ends, the list is what the vector is
abbrev pub LendsVec : (T : RattleType) → MutBor (Held T.Denot) → MutBor (vec_row T).Denot → Fml
LendsVec T list r = Lends (the_row T) (vec_row T) list r held_in
