use Rattle.std.proofs.Common.{refl}
use Rattle.mvt_change.specs.Changes.{OfTheTile}
use Rattle.mvt_change.proofs.ListRuns.{run_advanced, run_fits_there}
use Rattle.mvt_change.proofs.run.run_in_tile.Goals as goal

pub splice_message-requires : goal.splice_message-requires
splice_message-requires c = run_fits_there OfTheTile c.args.steps.now c.args.document.now c.requires.some c.requires.first c.requires.fits

pub returns-clause-some : goal.returns-clause-some
returns-clause-some c =
    let list = c.splice_message.new.list in
    (run_advanced OfTheTile c.args.steps.now c.splice_message.new.steps c.args.document.now (record { items = list }) c.requires.fits c.splice_message.result c.requires.some c.requires.first (list, c.splice_message.ensures, refl)).0

pub returns-clause-within : goal.returns-clause-within
returns-clause-within c =
    let list = c.splice_message.new.list in
    (run_advanced OfTheTile c.args.steps.now c.splice_message.new.steps c.args.document.now (record { items = list }) c.requires.fits c.splice_message.result c.requires.some c.requires.first (list, c.splice_message.ensures, refl)).1

pub returns-clause-made : goal.returns-clause-made
returns-clause-made c =
    let list = c.splice_message.new.list in
    (run_advanced OfTheTile c.args.steps.now c.splice_message.new.steps c.args.document.now (record { items = list }) c.requires.fits c.splice_message.result c.requires.some c.requires.first (list, c.splice_message.ensures, refl)).2

pub returns-clause-ends : goal.returns-clause-ends
returns-clause-ends c =
    let list = c.splice_message.new.list in
    (run_advanced OfTheTile c.args.steps.now c.splice_message.new.steps c.args.document.now (record { items = list }) c.requires.fits c.splice_message.result c.requires.some c.requires.first (list, c.splice_message.ensures, refl)).3
