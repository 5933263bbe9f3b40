use Rattle.mvt_layers.proofs.InRun.{passed_from}
use Rattle.mvt_layers.proofs.fields.features_from.Goals as goal

pub returns-clause-passed : goal.returns-clause-passed
returns-clause-passed c = λ number. rw (c.max.ensures, c.max-2.ensures) (passed_from number c.args.features c.args.items.now c.args.start c.requires.run)
