use Rattle.std.proofs.Common.{ap, ◌∙◌}
use Rattle.mvt_splices.specs.Splices.{spliced}
use Rattle.mvt_splices.proofs.Runs.{roomy_spliced}
use Rattle.mvt_splices.proofs.run.exchange_next.Goals as goal

pub returns-clause-items : goal.returns-clause-items
returns-clause-items g c =
    let of = g.S.Splices.splice_of in
    let roomy = c.make_room.new.step in
    c.exchange_one.ensures.items
    ∙ ap (spliced (of roomy)) c.make_room.ensures.items
    ∙ roomy_spliced (of c.args.step.now) (of roomy) c.args.gap.now.items (g.met.S.Splices.roomy_splice c.args.step.now roomy c.make_room.ensures.step)

pub returns-clause-turned : goal.returns-clause-turned
returns-clause-turned g c =
    let roomy = c.make_room.new.step in
    (roomy, c.make_room.ensures.step, c.in_ok-make_room.ensures.goes, c.exchange_one.ensures.turned ∙ ap (g.S.Splices.turned roomy) c.make_room.ensures.items)
