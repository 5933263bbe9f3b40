use Rattle.std.proofs.Common.{◌≡◌, ◌-◌, ◌++◌, length, take}
use Rattle.mvt_document.specs.Wire.{spell}
use Rattle.mvt_document.proofs.varint.put_number.Given as goal

abbrev pub invariant-loop-index : goal.invariant-loop-index
invariant-loop-index l = take l.index l.room ++ spell l.rest (length l.room - l.index) ≡ take l.start l.fn.room ++ spell l.value l.width
