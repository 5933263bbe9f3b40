use Rattle.std.proofs.Common.{◌≤◌, ◌-◌, length, take, drop}
use Rattle.mvt_renumber.specs.Deciding.{made_up_to}
use Rattle.mvt_renumber.proofs.Making.{Makes}
use Rattle.mvt_renumber.proofs.renumber.changed_from.Given as goal

abbrev pub invariant-loop-place : goal.invariant-loop-place
invariant-loop-place l = record {
  within : l.place ≤ length l.bytes;
  copied : l.making.copied ≤ l.place;
  makes : Makes (take l.start l.bytes) (drop l.start l.bytes) l.decisions (drop l.place l.bytes) l.left (made_up_to l.bytes l.place l.making);
}

abbrev pub decreases-loop-place : goal.decreases-loop-place
decreases-loop-place l = length l.bytes - l.place
