use Rattle.std.proofs.Common.{map, inr, rules, sym, ap, ◌∙◌}
use Rattle.std.proofs.lemmas.Simd.{map-map}
use Rattle.std.proofs.lemmas.Result.{err_from_is_err_and}
use Rattle.mvt_document.specs.Stands.{document_of, feature_of, field_of, layer_of}
use Rattle.mvt_document.specs.Wire.{field_bytes}
use Rattle.mvt_change.specs.Changes.{FeatureStep}
use Rattle.mvt_change.specs.ChangeStands.{step_of}
use Rattle.mvt_meaning.specs.Command.{ClearId}
use Rattle.mvt_meaning.specs.CommandStands.{feature_choice_of, layer_choice_of}
use Rattle.mvt_meaning.specs.Meaning.{is_id}
use Rattle.mvt_edit_steps.specs.Fates.{splices_of}
use Rattle.mvt_edit_steps.proofs.Carrying.{in_feature_at}
use Rattle.mvt_edit_steps.proofs.Following.{alone}
use Rattle.mvt_edit_lists.proofs.Gone.{ids_ask, ids_go, no_ids_go}
use Rattle.mvt_edit_steps.proofs.Going.{out, out_seen, seen}
use Rattle.mvt_edit_steps.proofs.Heavy.{heavy}
use Rattle.mvt_edit_steps.proofs.Refusing.{ran_out}
use Rattle.mvt_edit_lists.proofs.HaveBytes.{id_has_bytes}
use Rattle.mvt_edit_lists.proofs.clear_id.clear_id.Goals as goal

pub returns : goal.returns
returns c =
    let holder = c.in_ok-holder.ensures.found in
    let found = c.in_ok-found.ensures.found in
    let fields = c.in_ok-found.found.feature.now.fields.items in
    let layer = c.in_ok-holder.holder.position in
    let item = c.in_ok-found.found.position in
    let done = c.in_ok-carry_out.ensures (λ s. FeatureStep layer item s.index s.taken (map field_of s.put)) (λ run made says. search rules) in
    ids_go (layer_choice_of c.args.choice.now) (document_of c.args.document.now) c.in_ok-holder.holder.ordinal layer (layer_of c.in_ok-holder.holder.layer.now) holder.selects holder.placed holder.there
    (feature_choice_of c.args.feature.now) c.in_ok-found.found.ordinal found.selects item (feature_of c.in_ok-found.found.feature.now) found.placed found.there _
    (heavy field_bytes field_of is_id id_has_bytes fields)
    (c.new.ensures.change
    ∙ alone step_of c.new-steps.result.items _ _ c.new-steps.ensures.items done.2.following
    ∙ sym (map-map (in_feature_at layer item) (seen field_of) (splices_of done.0))
    ∙ ap (map (in_feature_at layer item)) (out_seen field_of is_id _ (λ field fate says. search rules) c.fields.result.now done.0 done.1)
    ∙ ap (λ list. map (in_feature_at layer item) (out is_id (map field_of list))) c.fields.ensures)

pub returns-in_err-found : goal.returns-in_err-found
returns-in_err-found c =
    let holder = c.in_ok-holder.ensures.found in
    let refused = no_ids_go (layer_choice_of c.args.choice.now) (document_of c.args.document.now) c.in_ok-holder.holder.ordinal c.in_ok-holder.holder.position (layer_of c.in_ok-holder.holder.layer.now) holder.selects holder.placed holder.there (feature_choice_of c.args.feature.now) _ c.in_err-found.ensures.refused in
    let passed = err_from_is_err_and c.from_residual-in_err-found.result c.from_residual-in_err-found.ensures.1 in
    rw (passed.1, passed.2) (inr refused)

pub returns-in_err-carry_out : goal.returns-in_err-carry_out
returns-in_err-carry_out c =
    let choice = layer_choice_of c.args.choice.now in
    let feature = feature_choice_of c.args.feature.now in
    let document = document_of c.args.document.now in
    let holder = c.in_ok-holder.ensures.found in
    ran_out (ClearId choice feature) document c.from_residual-in_err-carry_out.result c.from_residual-in_err-carry_out.ensures.1
    (ids_ask choice document c.in_ok-holder.holder.ordinal c.in_ok-holder.holder.position (layer_of c.in_ok-holder.holder.layer.now) holder.selects holder.placed holder.there feature c.in_ok-found.found.ordinal c.in_ok-found.ensures.found.selects)
