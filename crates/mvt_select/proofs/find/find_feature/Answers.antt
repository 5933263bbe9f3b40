use Rattle.std.proofs.Common.{slice_get, ap, ◌∙◌}
use Rattle.mvt_document.specs.Plain as plain
use Rattle.mvt_messages.specs.Found.{found_features}
use Rattle.mvt_document.specs.Stands.{layer_of}
use Rattle.mvt_select.proofs.Selected.{feature_at_ordinal, feature_of_id, no_feature_at_ordinal, no_feature_of_id}
use Rattle.mvt_select.proofs.find.find_feature.Goals as goal

pub returns-in-Ordinal-clause-found : goal.returns-in-Ordinal-clause-found
returns-in-Ordinal-clause-found c = rw (c.ok_or.ensures.value, c.in-Ordinal.is) (feature_at_ordinal (layer_of c.args.layer.now) c.in-Ordinal.ordinal c.feature.result (c.feature.ensures ∙ ap (λ (seen : plain.Layer). slice_get (found_features seen.items) c.in-Ordinal.ordinal) c.of.ensures))

pub returns-in-Ordinal-clause-refused : goal.returns-in-Ordinal-clause-refused
returns-in-Ordinal-clause-refused c = rw (c.ok_or.ensures.value, c.in-Ordinal.is) (no_feature_at_ordinal (layer_of c.args.layer.now) c.in-Ordinal.ordinal c.feature.result (c.feature.ensures ∙ ap (λ (seen : plain.Layer). slice_get (found_features seen.items) c.in-Ordinal.ordinal) c.of.ensures))

pub returns-in-Id-clause-found : goal.returns-in-Id-clause-found
returns-in-Id-clause-found c = rw c.in-Id.is (feature_of_id c.in-Id.id (layer_of c.args.layer.now) c.find_with_id.result c.find_with_id.ensures)

pub returns-in-Id-clause-refused : goal.returns-in-Id-clause-refused
returns-in-Id-clause-refused c = rw c.in-Id.is (no_feature_of_id c.in-Id.id (layer_of c.args.layer.now) c.find_with_id.result c.find_with_id.ensures)
