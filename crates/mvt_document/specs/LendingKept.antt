-- What a message ends as when a `&mut` to its vector is returned.
use Rattle.std.specs.Borrow.{Lends, Fml, RattleType, MutBor}
use Rattle.mvt_document.specs.Held.{Held}
use Rattle.mvt_document.specs.Lending.{held_in, vec_row}
use Rattle.mvt_document.specs.contracts.message.Message.{the_row}
use Rattle.mvt_document.specs.declared.item.Item as item
use Rattle.mvt_document.specs.declared.measure.Measured as measured

-- once the borrow `r` ends, the message is what the vector is
abbrev pub LendsVecKept : (T : RattleType) → measured.Ghosts T.Denot → item.Ghosts T.Denot → MutBor (Held T.Denot) → MutBor (vec_row T).Denot → Fml
LendsVecKept T sized kinds list r = Lends (the_row T kinds sized) (vec_row T) list r held_in
