use Rattle.std.proofs.Common.{◌≡◌, ◌+◌, ◌≤◌, List, length, take, drop}
use Rattle.mvt_splices.specs.Splices.{LeadBack}
use Rattle.mvt_splices.proofs.run.exchange_back.Given as goal

abbrev pub invariant-loop-at : goal.invariant-loop-at
invariant-loop-at g l =
    let of = g.S.Splices in
    record {
      there : l.at ≤ length l.steps;
      back : (first : List g.row.S.Denot) (items : List g.row.T.Denot) → LeadBack of.splice_of of.turned l.fn.steps l.fn.gap first items
          → LeadBack of.splice_of of.turned (take l.at l.steps) l.gap (take l.at first) items × (drop l.at l.steps ≡ drop l.at first);
      room : length l.gap.items + l.gap.room ≡ length l.fn.gap.items + l.fn.gap.room;
    }
