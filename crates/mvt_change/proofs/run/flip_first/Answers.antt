use Rattle.std.proofs.Common.{refl}
use Rattle.mvt_change.specs.ChangeStands.{place_of}
use Rattle.mvt_change.proofs.ListRuns.{alone_ends, alone_visits, run_ends}
use Rattle.mvt_change.proofs.Visits.{same_feature}
use Rattle.mvt_change.proofs.run.flip_first.Goals as goal

pub returns-in_default-clause-run : goal.returns-in_default-clause-run
returns-in_default-clause-run c = alone_ends c.flip_alone.result c.args.steps.now (c.in_default.ensures.none refl) c.flip_alone.ensures.some

pub returns-in_default-clause-visit : goal.returns-in_default-clause-visit
returns-in_default-clause-visit c = alone_visits c.flip_alone.result c.args.steps.now c.flip_alone.ensures.visit

pub returns-in-Ok-clause-run : goal.returns-in-Ok-clause-run
returns-in-Ok-clause-run c = λ place. run_ends c.in-Ok.made (place_of c.in-Some.place) place c.args.steps.now c.in-Some.ensures.two c.in-Some.ensures.some c.in-Ok.ensures.ends

pub returns-in-Ok-clause-visit : goal.returns-in-Ok-clause-visit
returns-in-Ok-clause-visit c = λ layer first apart. absurd (apart (same_feature layer (place_of c.in-Some.place) c.args.steps.now c.in-Some.ensures.two c.in-Some.ensures.some first))

pub returns-in-Err-clause-made : goal.returns-in-Err-clause-made
returns-in-Err-clause-made c = c.in-Err.ensures.made
