use Rattle.std.proofs.Common.{refl, ap}
use Rattle.mvt_document.proofs.Placing.{same_feature}
use Rattle.mvt_document.proofs.feature.Feature.change.Goals as goal

pub returns-clause-kept : goal.returns-clause-kept
returns-clause-kept g c = same_feature _ _ (ap (λ f. f.tag) c.self.view_is) (ap (λ f. f.width) c.self.view_is) refl
