use Rattle.std.proofs.Common.{inr}
use Rattle.std.proofs.lemmas.Result.{err_from_is_err_and}
use Rattle.mvt_document.specs.Stands.{document_of, feature_of, layer_of}
use Rattle.mvt_meaning.specs.Command.{DropFeature}
use Rattle.mvt_meaning.specs.CommandStands.{feature_choice_of, layer_choice_of}
use Rattle.mvt_edit_lists.proofs.Gone.{feature_asks, feature_goes, no_feature_goes}
use Rattle.mvt_edit_steps.proofs.Refusing.{ran_out}
use Rattle.mvt_edit_lists.proofs.drop_feature.drop_feature.Goals as goal

pub returns : goal.returns
returns c =
    let holder = c.in_ok-holder.ensures.found in
    let found = c.in_ok-found.ensures.found in
    feature_goes (layer_choice_of c.args.choice.now) (document_of c.args.document.now) c.in_ok-holder.holder.ordinal c.in_ok-holder.holder.position (layer_of c.in_ok-holder.holder.layer.now) holder.selects holder.placed holder.there
    (feature_choice_of c.args.feature.now) c.in_ok-found.found.ordinal found.selects c.in_ok-found.found.position (feature_of c.in_ok-found.found.feature.now) found.placed found.there _ c.in_ok-item_out.ensures

pub returns-in_err-found : goal.returns-in_err-found
returns-in_err-found c =
    let holder = c.in_ok-holder.ensures.found in
    let refused = no_feature_goes (layer_choice_of c.args.choice.now) (document_of c.args.document.now) c.in_ok-holder.holder.ordinal c.in_ok-holder.holder.position (layer_of c.in_ok-holder.holder.layer.now) holder.selects holder.placed holder.there (feature_choice_of c.args.feature.now) _ c.in_err-found.ensures.refused in
    let passed = err_from_is_err_and c.from_residual-in_err-found.result c.from_residual-in_err-found.ensures.1 in
    rw (passed.1, passed.2) (inr refused)

pub returns-in_err-item_out : goal.returns-in_err-item_out
returns-in_err-item_out c =
    let choice = layer_choice_of c.args.choice.now in
    let feature = feature_choice_of c.args.feature.now in
    let document = document_of c.args.document.now in
    let holder = c.in_ok-holder.ensures.found in
    ran_out (DropFeature choice feature) document c.from_residual-in_err-item_out.result c.from_residual-in_err-item_out.ensures.1
    (feature_asks choice document c.in_ok-holder.holder.ordinal c.in_ok-holder.holder.position (layer_of c.in_ok-holder.holder.layer.now) holder.selects holder.placed holder.there feature c.in_ok-found.found.ordinal c.in_ok-found.ensures.found.selects)
