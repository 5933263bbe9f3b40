use Rattle.std.proofs.Common.{ap, length, arith}
use Rattle.mvt_layers.proofs.InRun.{placed_past}
use Rattle.mvt_layers.proofs.entries.entries_from.Goals as goal

pub returns : goal.returns
returns c =
    let passed = ap length (c.features_from-end.ensures.passed c.args.number) in
    let none = ap length (placed_past c.args.number c.args.items.now) in
    omega (arith, c.entries_before-before.ensures.count, passed, c.entries_before.ensures.count, none)
